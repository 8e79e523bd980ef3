-- How the books that a store fits go on from turn to turn.
use Rattle.std.proofs.Common.{rules, ◌≡◌, ◌≤◌, ◌<◌, ℕ, ◌+◌, ◌*◌, ◌-◌, ⊎_elim, arith, ◌∙◌, ap, refl, List, [], ◌∷◌, ◌++◌, length, drop}
use Rattle.std.proofs.{Common.{length-append, zero, suc, get_or}, lemmas.{List.{take-append-le, drop-drop}, Bool.Decides.nat_tests}}
use Rattle.std.{proofs.Math.Seq.take-length, specs.Prelude.{if◌then◌else◌, nat_le, get_or}}
use Rattle.medium.specs.Medium.{State, Image}
use Rattle.logical_blocks.specs.{Book.{Book, after_first, with_write, promised}, Blocks.{Array, Write, apply, after, chunks}}
use Rattle.journal.specs.{Record.with_blocks, Standing.IsOurs, Places.Shape}
use Rattle.redo_log.specs.{Value.{LogValue, IsBatch, entries_from, entries_of}, Held.{View, HoldsView, MayLeave, with_record}}
use Rattle.redo_log.proofs.{StoreFacts.may_leave_ours, HeldLog.many}
use Rattle.theorems.specs.Retiring.{wants}
use Rattle.cache.{specs.{Blocks.{blocks_of, over, with_range, Listed}, Entries.{Entries, map_of}}, proofs.Arrays.over_put}
use Rattle.blocks.specs.{StoreValue.{Cached, FitsBook, ShowsBook}, Finding.{StandsAs, MayFind}, Kept.IsBatchOf, Book.Same}

-- a write over two arrays that have the same block
pub apply_same : (w : Write) (a c : Array) (b : ℕ) → a b ≡ c b → apply a w b ≡ apply c w b
apply_same w a c b same = ap (λ (x : List ℕ). if nat_le w.address b then get_or w.blocks (b - w.address) x else x) same

-- the last write comes last
pub after_last : (a : Array) (writes : List Write) (w : Write) → after a (writes ++ w ∷ []) ≡ apply (after a writes) w
after_last a [] w = refl
after_last a (v ∷ writes) w = after_last (apply a v) writes w

-- the first writes are the same in a longer list
pub first_same : (book : Book) (w : Write) (k : ℕ) → k ≤ length book.writes → after_first k (with_write book w) ≡ after_first k book
first_same book w k le = ap (after book.opening) (take-append-le k book.writes (w ∷ []) le)

-- the blocks of a batch, as a record has them from the i-th on
entries_over : (i : ℕ) (numbers bytes : List ℕ) (a : Array) (b : ℕ)
    → with_blocks (entries_from i numbers bytes) a b ≡ over (blocks_of numbers (drop (512 * i) bytes)) a b
entries_over i [] bytes a b = refl
entries_over i (n ∷ numbers) bytes a b =
    let size : 512 * i + 512 - 512 * i ≡ 512 = omega arith in
    let next : 512 * i + 512 ≡ 512 * (i + 1) = omega arith in
    grind (arith, entries_over (i + 1) numbers bytes a b, drop-drop 512 (512 * i) bytes, size, next)

-- an empty batch changes no array
pub over_none : (numbers bytes : List ℕ) → numbers ≡ [] → (a : Array) (b : ℕ) → over (blocks_of numbers bytes) a b ≡ a b
over_none numbers bytes e a b = rw e refl

-- an image that is ours for an array stands so for one with the same blocks
pub stands_as : (size blocks : ℕ) (shape : Shape) (image : Image) (a c : Array) (next : ℕ) → shape.blocks ≡ blocks → Same blocks a c
    → IsOurs size shape image a next → StandsAs size blocks image c next
stands_as size blocks shape image a c next is same ours = grind (arith, nat_tests)

-- the log goes on, with the same array
pub moves : {m m' : State} {s : Cached} {book : Book} {log' : LogValue} {view' : View} (f : FitsBook m s book) → HoldsView log' m' view'
    → view'.array ≡ f.view.array → (0 < log'.steps_left → view'.under_way ≡ entries_of s.frozen.numbers s.frozen.bytes)
    → (0 < log'.steps_left → wants s.frozen.numbers ≡ 1) → view'.ours ≡ f.view.ours → log'.shape ≡ s.log.shape
    → log'.head + length log'.waiting ≡ s.log.head + length s.log.waiting → FitsBook m' (record s { log = log' }) book
moves {view' = view'} f holds array under_way some ours shape stamp = grind (arith, nat_tests)

-- other batches, or the book is another
pub shows_book : {m : State} {s : Cached} {book book' : Book} {k n : ℕ} (f : FitsBook m s book) (active frozen : Entries)
    → (0 < s.log.steps_left → frozen ≡ s.frozen) → book.blocks ≡ book'.blocks → book.ours ≡ book'.ours → ShowsBook book' k n f.view.array
    (over (map_of frozen) f.view.array) (over (map_of active) (over (map_of frozen) f.view.array))
    → s.log.head + length s.log.waiting + wants frozen.numbers + wants active.numbers ≤ book'.stamp + length book'.writes
    → FitsBook m (record s { active = active; frozen = frozen }) book'
shows_book {k = k} {n = n} f active frozen same blocks ours arrays stamps = grind (arith, nat_tests)

-- the record under way becomes durable, and the frozen batch is emptied
pub becomes_durable : {m m' : State} {s : Cached} {book : Book} {log' : LogValue} {none : Entries} (f : FitsBook m s book)
    → 0 < s.log.steps_left → none.numbers ≡ [] → HoldsView log' m' (with_record f.view) → log'.shape ≡ s.log.shape → log'.head ≡ s.log.head
    → length log'.waiting ≡ length s.log.waiting + 1 → log'.steps_left ≡ 0
    → FitsBook m' (record { log = log'; active = s.active; frozen = none }) book
becomes_durable {s = s} {none = none} f some empty holds shape head longer done =
    grind (arith, nat_tests, ℕ, over, map_of, entries_over 0 s.frozen.numbers s.frozen.bytes, over_none)

-- the active batch is frozen in place of an empty one
pub freezes : {m : State} {s : Cached} {book : Book} → s.log.steps_left ≡ 0 → s.frozen.numbers ≡ [] → FitsBook m s book
    → FitsBook m (record s { active = s.frozen; frozen = s.active }) book
freezes {s = s} {book = book} idle empty f =
    let none : (a : Array) (b : ℕ) → over (map_of s.frozen) a b ≡ a b = over_none s.frozen.numbers s.frozen.bytes empty in
    shows_book {k = f.floor_count} {n = length book.writes} f s.frozen s.active (λ more. absurd (omega (arith, more, idle))) refl refl
    (grind (arith, f.arrays, none, over, take-length book.writes)) (omega (arith, f.stamps))

-- the active batch takes a write
pub appends : {m : State} {s : Cached} {book : Book} (more : Entries) (address : ℕ) (bytes : List ℕ) (count : ℕ)
    → ((b : ℕ) → map_of more b ≡ with_range (map_of s.active) address count bytes b) → FitsBook m s book
    → FitsBook m (record s { active = more }) (with_write book (record { address = address; blocks = chunks count bytes }))
appends {s = s} {book = book} more address bytes count put f =
    search (rules, arith, length-append, over, map_of, ℕ, first_same, over_put, apply_same, after_last, shows_book)

-- with both batches empty everything is durable
pub settles : {m : State} {s : Cached} {book : Book} → s.frozen.numbers ≡ [] → s.active.numbers ≡ [] → FitsBook m s book
    → FitsBook m s (promised book)
settles {s = s} {book = book} no_frozen no_active f = grind (arith, nat_tests, over_none, over, map_of, shows_book, take-length book.writes)

-- an image that is ours for the blocks after some of the first writes may be found
pub may_find : {size : ℕ} {book : Book} {shape : Shape} {image : Image} {a : Array} {next : ℕ} (k : ℕ) → book.mark ≤ k
    → k ≤ length book.writes → shape.blocks ≡ book.blocks → Same book.blocks a (after_first k book) → IsOurs size shape image a next
    → next ≤ book.stamp + length book.writes + 1 → MayFind size book image
may_find {size} {book} {shape} {image} {a} {next} k promises accepted blocks same ours bound = search (rules, arith, stands_as)

-- what a cut may leave of the log may be found
pub finds : (m : State) (s : Cached) (book : Book) (f : FitsBook m s book) (image : Image) → MayLeave m.size s.log f.view image
    → MayFind m.size book image
finds m s book f image left =
    let as_many = many f.holds in
    let a = f.arrays in
    ⊎_elim
    (λ durable. may_find f.floor_count a.promises (omega (arith, a.rises, a.accepted)) f.blocks a.floor_is durable
    (omega (arith, f.stamps, as_many)))
    (λ whole. may_find f.middle_count (omega (arith, a.promises, a.rises)) a.accepted f.blocks
    (λ b below. rw (f.under_way whole.0) (entries_over 0 s.frozen.numbers s.frozen.bytes f.view.array b) ∙ a.middle_is b below) whole.1
    (omega (arith, f.stamps, as_many, f.some whole.0)))
    (may_leave_ours m.size s.log f.view image left)

-- each number of a list is in it
pub listed_at : (numbers : List ℕ) (k d : ℕ) → k < length numbers → Listed numbers (get_or numbers k d)
listed_at [] k d below = absurd (omega (arith, below))
listed_at (n ∷ numbers) zero d below = grind (arith, nat_tests)
listed_at (n ∷ numbers) (suc k) d below = grind (arith, nat_tests, listed_at numbers k d (omega (arith, below)))

-- a batch that holds blocks can be logged
pub is_batch : (shape : Shape) (batch : Entries) → IsBatchOf shape batch → 0 < length batch.numbers
    → IsBatch shape batch.numbers batch.bytes
is_batch shape batch kept some = grind (arith, kept, some, kept.well_formed, listed_at batch.numbers)
