-- What a read gives, and how many calls of the medium it makes.
use Rattle.std.proofs.Common.{rules, ◌≡◌, ℕ, zero, suc, ◌+◌, ◌-◌, ◌*◌, ◌≤◌, ◌<◌, List, [], ◌∷◌, ◌++◌, length, take, drop, None, ◌∙◌, arith}
use Rattle.std.proofs.{Common.{subst, sym, inl, inr, ◌⊎◌, append_assoc, append-nil, add-zero, Result, false, refl}, lemmas.List.length-drop}
use Rattle.std.proofs.lemmas.{List.length-take-le, Slice.take-put_mid, Bool.{Decides.nat_tests, cases_Bool, false≢true, cases_eq}}
use Rattle.std.specs.Prelude.{Ok, Err, OnOk, IsOk, Contains, true, get_or}
use Rattle.medium.specs.{Medium.{State, Passes, IsSound, LooksOnly, Stays, Within, Image}, declared.fault.MediumFault.TheVariants.Read}
use Rattle.medium.{specs.{declared.fault.MediumFault.MediumFault, Range.{held_from, ReadsAtOnce}}, proofs.CallsSent.{read_sends, none_sent}}
use Rattle.medium.proofs.{Moments.{quiet_joined, quiet_call, quiet_start}, SectorsRead.{one_look, looks_wider}}
use Rattle.logical_blocks.specs.{Blocks.Array, Book.{Book, array_of, blocks_at}}
use Rattle.journal.specs.Places.{first_home}
use Rattle.theorems.{specs.LogRuns.IsLogRun, proofs.LogRuns.run_one}
use Rattle.redo_log.{proofs.StoreFacts.home_is, specs.{Steps.{KeepsLog, ReadsCopy}, Value.{LogValue, IsNewestCopy, HasNoCopy}}}
use Rattle.cache.{specs.{Blocks.{is_listed, Listed, unlisted}, Entries.{map_of, Entries}}, proofs.{Maps.listed_is, Arrays.unlisted_most}}
use Rattle.blocks.specs.{Reads.{AreReadable, AreAtHome, IsOnlyAtHome, IsInBatch, IsInNone, ReadsBlocks, told}, Looks.IsReadFor}
use Rattle.blocks.specs.{StoreValue.{Cached, blocks_of, layout_of, is_dead, FitsBook, StoreValue}, Calls.{block_reads, reads_of}}
use Rattle.blocks.specs.{Calls.{CostsReads, is_logged, log_reads}, Passing.{KeepsStore, IsReadBeside}}
use Rattle.blocks.{specs.declared.fault.StoreFault.StoreFault, proofs.SectorsRead.one_more}
use Rattle.blocks.proofs.{SectorsRead.{fewer_read, none_read}, TurnsJoined.{quiet_turn, turns}, BookTurns.listed_at}
use borrow.Rule.Slice.PartMut.{put_mid}

-- a read of a live store is one beside its log
pub read_beside : {M : Type 0} {state : M → State} {Follows : M → M → Type 0} {address count most reads : ℕ}
    {result : Result (Unit {0}) StoreFault} {old new : StoreValue M} → is_dead old.cached ≡ false
    → KeepsStore state Follows address count old new → CostsReads result most reads (state old.medium) (state new.medium)
    → IsReadBeside state Follows address count old new
read_beside {state = state} {Follows = Follows} {old = old} {new = new} live keeps cost = record {
  keeps = keeps;
  runs = subst (λ s. IsLogRun state Follows old.cached.log old.medium s.log new.medium) (sym keeps.stays)
      (run_one refl (λ _. record { live = live; on = inr (inr (refl, record { quiet = keeps.quiet; none_sent = cost.none_sent })) }));
}

-- a block that no batch holds is the durable one
pub durable_is : (m : State) (s : Cached) (book : Book) (f : FitsBook m s book) (b : ℕ) → b < blocks_of s → map_of s.active b ≡ None
    → map_of s.frozen b ≡ None → f.view.array b ≡ blocks_at (array_of book) b 1
durable_is m s book f b below active frozen = rw append-nil (rw (active, frozen) at (f.arrays.now_is b (omega (arith, below, f.blocks))))

-- a block that a batch holds is the newest one
pub newest_is : (m : State) (s : Cached) (b : ℕ) (bytes : List ℕ) → b < blocks_of s → IsInBatch s b bytes → (book : Book)
    → FitsBook m s book → bytes ≡ blocks_at (array_of book) b 1
newest_is m s b bytes below (inl active) book f = rw append-nil (rw active at (f.arrays.now_is b (omega (arith, below, f.blocks))))
newest_is m s b bytes below (inr both) book f = rw append-nil (rw (both.0, both.1) at (f.arrays.now_is b (omega (arith, below, f.blocks))))

one_block_suc : (array : Array) (address i : ℕ)
    → blocks_at array address (suc i) ≡ blocks_at array address i ++ blocks_at array (address + i) 1
one_block_suc array address zero = rw add-zero refl
one_block_suc array address (suc i) =
    let last : address + 1 + i ≡ address + suc i = omega arith in
    let behind = append_assoc (array address) (blocks_at array (address + 1) i) (blocks_at array (address + 1 + i) 1) in
    cc (one_block_suc array (address + 1) i, behind, last)

reads_suc : (s : Cached) (address i : ℕ) → reads_of s address (suc i) ≡ reads_of s address i + block_reads s (address + i)
reads_suc s address zero = grind arith
reads_suc s address (suc i) = grind (arith, reads_suc s (address + 1) i)

-- fewer blocks take no more calls
pub reads_within : (s : Cached) (address i count : ℕ) → i ≤ count → reads_of s address i ≤ reads_of s address count
reads_within s address zero count le = omega arith
reads_within s address (suc i) zero le = absurd (omega (arith, le))
reads_within s address (suc i) (suc count) le = omega (arith, reads_within s (address + 1) i count (omega (arith, le)))

-- the newest of both batches takes no call
pub reads_newest : (s : Cached) (b : ℕ) (bytes : List ℕ) → IsInBatch s b bytes → block_reads s b ≡ 0
reads_newest s b bytes held =
    grind (arith, listed_is s.active.numbers s.active.bytes b, listed_is s.frozen.numbers s.frozen.bytes b, held)

-- each other block takes one, or where a record has it none
reads_copy : (s : Cached) (b : ℕ) → map_of s.active b ≡ None → map_of s.frozen b ≡ None
    → block_reads s b ≡ log_reads s.log.keeps s.log.waiting b
reads_copy s b active frozen =
    grind (arith, listed_is s.active.numbers s.active.bytes b, listed_is s.frozen.numbers s.frozen.bytes b)

-- a block stands in the records where a record contains it
logged_at : (records : List (List ℕ)) (age b : ℕ) → age < length records → Listed (get_or records age []) b → is_logged records b ≡ true
logged_at [] age b below listed = absurd (omega (arith, below))
logged_at (numbers ∷ records) zero b below listed = grind (arith, listed)
logged_at (numbers ∷ records) (suc age) b below listed = grind (arith, logged_at records age b (omega (arith, below)) listed)

pub logged_newest : (log : LogValue) (b slot place : ℕ) → IsNewestCopy log b slot place → is_logged log.waiting b ≡ true
logged_newest log b slot place copy =
    grind (arith, listed_at (get_or log.waiting copy.age []) place 0 copy.inside, copy, logged_at log.waiting copy.age b copy.waits)

-- and in none where none does
contains_listed : (numbers : List ℕ) (b : ℕ) → Listed numbers b → Contains numbers b
contains_listed [] b listed = absurd (false≢true listed)
contains_listed (m ∷ numbers) b listed = elim (cases_eq m b) [
  | inl same ↦ (0, omega arith, same)
  | inr other ↦
      let rest = contains_listed numbers b (grind (arith, nat_tests, listed, other)) in (suc rest.0, omega (arith, rest.1), rest.2)
]

unlogged : (records : List (List ℕ)) (b : ℕ) → ((age : ℕ) → age < length records → ¬ Contains (get_or records age []) b)
    → is_logged records b ≡ false
unlogged [] b none = refl
unlogged (numbers ∷ records) b none =
    let rest = unlogged records b (λ age below. none (suc age) (omega (arith, below))) in
    let first = λ (listed : Listed numbers b). none 0 (omega arith) (contains_listed numbers b listed) in
    grind (arith, rest, first)

pub unlogged_reads : (log : LogValue) (b : ℕ) → HasNoCopy log b → log_reads log.keeps log.waiting b ≡ 1
unlogged_reads log b none = grind (arith, unlogged log.waiting b none)

-- each block takes one call at most
pub reads_few : (s : Cached) (address count : ℕ) → reads_of s address count ≤ count
reads_few s address zero = omega arith
reads_few s address (suc count) = grind (arith, reads_few s (address + 1) count)

-- a block that no batch has is read by one call, or its copy by none where the log keeps it
pub copied : {M : Type 0} {m n : M} {call : Result (Unit {0}) MediumFault} (state : M → State) (log : LogValue) (b : ℕ)
    → ReadsCopy state log.keeps call m n → is_logged log.waiting b ≡ true → (let calls : ℕ = log_reads log.keeps log.waiting b in
    (Passes Read call (state m) (state n) × (calls ≡ 1)) ⊎ (IsOk call × (n ≡ m) × (calls ≡ 0)))
copied state log b called logged = grind (arith, cases_Bool log.keeps, called, logged)

module _ {M : Type 0} {state : M → State} {Follows : M → M → Type 0} {n : M} {old : StoreValue M} {block : ℕ} where
  -- it reads a copy in the log, or the sector at home
  pub copy_keeps : IsSound (state old.medium) → KeepsLog state Follows old.cached.log old.medium n
      → KeepsStore state Follows block 1 old (record old { medium = n })
  copy_keeps sound log =
      let looks = looks_wider _ (IsReadFor old.cached block 1) (state old.medium) (state n) (λ x low. inl low) log.looks in
      grind (arith, log, looks, quiet_turn (state old.medium) (state n) old.cached sound log.quiet)

  pub home_keeps : IsSound (state old.medium) → {call : Result (Unit {0}) MediumFault} (sector : ℕ)
      → sector ≡ first_home (layout_of old.cached) + block
      → Passes Read call (state old.medium) (state n) → Stays (state old.medium).content (state n).content
      → Within (state n).may_leave (state old.medium).may_leave
      → Follows old.medium n × LooksOnly (λ x. x ≡ sector) (state old.medium) (state n)
      → KeepsStore state Follows block 1 old (record old { medium = n })
  home_keeps sound sector is passes content sets follows =
      let quiet = quiet_call (state old.medium) (state n) passes content sets in
      let looks = one_look _ (state old.medium) (state n) sector (inr (omega (arith, is), omega (arith, is))) follows.1 in
      let turn = quiet_turn (state old.medium) (state n) old.cached sound quiet in
      record { stays = refl; turn = turn; quiet = quiet; follows = follows.0; looks = looks; policy = refl }

  -- by one call, or by none where a record has it and the log keeps it
  pub reads_one : {bytes : List ℕ} (call : Result (Unit {0}) MediumFault)
      → (let calls : ℕ = log_reads old.cached.log.keeps old.cached.log.waiting block in
      (Passes Read call (state old.medium) (state n) × (calls ≡ 1)) ⊎ (IsOk call × (n ≡ old.medium) × (calls ≡ 0)))
      → block < blocks_of old.cached → IsInNone old.cached block → KeepsStore state Follows block 1 old (record old { medium = n })
      → ((book : Book) → (fits : FitsBook (state old.medium) old.cached book) → OnOk call (bytes ≡ fits.view.array block))
      → ReadsBlocks state Follows (told call) block 1 bytes old (record old { medium = n })
  reads_one (Ok done) called below none keeps ok =
      let newest = λ (book : Book) (fits : FitsBook (state old.medium) old.cached book).
      ok book fits ∙ durable_is (state old.medium) old.cached book fits block below none.0 none.1 in
      grind (arith, called, newest, keeps, read_sends, reads_copy old.cached block none.0 none.1)
  reads_one (Err fault) called below none keeps ok =
      grind (arith, called, keeps, read_sends, reads_copy old.cached block none.0 none.1)

-- ---- blocks are read one after another

-- of a range none is listed, and so no batch has one
unlisted_at : (numbers : List ℕ) (address count i : ℕ) → unlisted numbers address count ≡ count → i < count
    → is_listed numbers (address + i) ≡ false
unlisted_at numbers address zero i all lt = absurd (omega (arith, lt))
unlisted_at numbers address (suc count) zero all lt = grind (arith, unlisted_most numbers (address + 1) count)
unlisted_at numbers address (suc count) (suc i) all lt =
    grind (arith, unlisted_most numbers (address + 1) count, unlisted_at numbers (address + 1) count i)

pub none_at : (batch : Entries) (address count i : ℕ) → unlisted batch.numbers address count ≡ count → i < count
    → map_of batch (address + i) ≡ None
none_at batch address count i all lt =
    grind (arith, listed_is batch.numbers batch.bytes (address + i), unlisted_at batch.numbers address count i all lt)

module _ {M : Type 0} {state : M → State} {Follows : M → M → Type 0} {address : ℕ} {old : StoreValue M} where
  -- none is
  pub keeps_none : {count : ℕ} → IsSound (state old.medium) → Follows old.medium old.medium → KeepsStore state Follows address count old old
  keeps_none {count} sound itself = search (rules, arith, quiet_start, none_read, quiet_turn)

  pub reads_none : (bytes : List ℕ) → IsSound (state old.medium) → Follows old.medium old.medium
      → ReadsBlocks state Follows (Ok tt) address 0 (take (512 * 0) bytes) old old
  reads_none bytes sound itself = grind (arith, keeps_none {count = 0} sound itself)

  keeps_more : ((m n k : M) → Follows m n → Follows n k → Follows m k) → {i : ℕ} {mid new : StoreValue M}
      → KeepsStore state Follows address i old mid → KeepsStore state Follows (address + i) 1 mid new
      → KeepsStore state Follows address (i + 1) old new
  keeps_more through first last = search (rules, arith, quiet_joined, one_more, turns)

  module _ {i : ℕ} {front block : List ℕ} {mid new : StoreValue M} {done : Unit {0}} (through : (m n k : M) → Follows m n → Follows n k
      → Follows m k) (read : ReadsBlocks state Follows (Ok done) address i front old mid) where
    -- one more is, good or refused
    pub reads_more : {result : Result (Unit {0}) StoreFault} → ReadsBlocks state Follows result (address + i) 1 block mid new
        → ReadsBlocks state Follows result address (i + 1) (front ++ block) old new
    reads_more {result = Ok x} one =
        let newest = λ (book : Book) (fits : FitsBook (state old.medium) old.cached book). one.ok book (read.keeps.turn.fits book fits) in
        grind (arith, keeps_more through read.keeps one.keeps, read, one, newest, one_block_suc, reads_suc)
    reads_more {result = Err e} one = grind (arith, keeps_more through read.keeps one.keeps, read, one, reads_suc)

    -- so a slice holds the blocks so far where the next one is put behind them
    pub block_more : (bytes : List ℕ) (at size : ℕ) → front ≡ take (512 * i) bytes → at ≡ 512 * i → size ≡ 512
        → 512 * (i + 1) ≤ length bytes → length block ≡ length (take size (drop at bytes))
        → ReadsBlocks state Follows (Ok done) (address + i) 1 block mid new
        → ReadsBlocks state Follows (Ok done) address (i + 1) (take (512 * (i + 1)) (put_mid at size bytes block)) old new
    block_more bytes at size is at_is size_is inside alike one =
        let put : take (512 * (i + 1)) (put_mid at size bytes block) ≡ front ++ block =
        search (rules, arith, length-take-le, length-drop, take-put_mid) in
        rw put (reads_more one)

    -- one that is refused ends the reading
    pub reads_refused : {bytes : List ℕ} {count : ℕ} {fault : StoreFault} → i + 1 ≤ count
        → ReadsBlocks state Follows (Err fault) (address + i) 1 block mid new
        → ReadsBlocks state Follows (Err fault) address count bytes old new
    reads_refused {bytes} {count} more one =
        let all = reads_more one in
        let looks = fewer_read (state old.medium) (state new.medium) old.cached address (i + 1) count more all.keeps.looks in
        grind (arith, all, looks, reads_within old.cached address (i + 1) count more)

-- ---- blocks at home alone are read at once

-- each of a range is at home alone
pub at_home : (s : Cached) (address count b : ℕ) → AreAtHome s address count → address ≤ b → b < address + count → IsOnlyAtHome s b
at_home s address count b home from to =
    let is : b ≡ address + (b - address) = omega arith in
    rw is (grind (arith, none_at, home))

home_reads : (s : Cached) (address count : ℕ) → ((b : ℕ) → address ≤ b → b < address + count → IsOnlyAtHome s b)
    → reads_of s address count ≡ count
home_reads s address zero home = refl
home_reads s address (suc count) home =
    let here = home address (omega arith) (omega arith) in
    let rest = home_reads s (address + 1) count (λ b from to. home b (omega arith) (omega arith)) in
    grind (arith, reads_copy s address here.none.0 here.none.1, unlogged_reads s.log address here.log, rest)

held_blocks : (image : Image) (array : Array) (home address count first : ℕ) → ((b : ℕ) → address ≤ b → b < address + count
    → image (home + b) ≡ array b) → first ≡ home + address → held_from image first count ≡ blocks_at array address count
held_blocks image array home address zero first each is = refl
held_blocks image array home address (suc count) first each is =
    let here : image first ≡ array address = rw is (each address (omega arith) (omega arith)) in
    let rest = held_blocks image array home (address + 1) count (first + 1) (λ b from to. each b (omega arith) (omega arith)) (omega arith)
    in
    rw (here, rest) refl

module _ {M : Type 0} {state : M → State} {Follows : M → M → Type 0} {n : M} {old : StoreValue M} {address count size sector : ℕ}
    (sound : IsSound (state old.medium)) (readable : AreReadable old.cached address count size)
    (home : AreAtHome old.cached address count) (is : sector ≡ first_home (layout_of old.cached) + address) where
  pub home_at_once : {bytes : List ℕ} → ReadsAtOnce state Follows true sector count bytes old.medium n
      → ReadsBlocks state Follows (Ok tt) address count bytes old (record old { medium = n })
  home_at_once {bytes} read =
      let passes = read.passes refl in
      let looks = looks_wider _ (IsReadFor old.cached address count) (state old.medium) (state n)
      (λ x among. inr (omega (arith, among), omega (arith, among))) passes.looks in
      let turn = quiet_turn (state old.medium) (state n) old.cached sound passes.quiet in
      let reads = home_reads old.cached address count (λ b from to. at_home old.cached address count b home from to) in
      let sends = none_sent (state old.medium) (state n) passes.others_made in
      let newest = λ (book : Book) (fits : FitsBook (state old.medium) old.cached book). read.holds refl ∙ held_blocks
      (state old.medium).content (array_of book) (first_home (layout_of old.cached)) address count sector (λ b from to.
      let alone = at_home old.cached address count b home from to in
      let below : b < blocks_of old.cached = omega (arith, readable.inside) in
      home_is _ _ fits.view fits.holds readable.live b below alone.log ∙ durable_is (state old.medium) old.cached book fits b below
      alone.none.0 alone.none.1 ∙ append-nil (array_of book b)) is in
      search (rules, arith, newest, passes, looks, turn, reads, sends, read.follows refl)
