-- The bytes of the blocks that a log keeps: those of a view's records, and how many there are.
use Rattle.std.proofs.Common.{◌≡◌, ℕ, ◌+◌, ◌-◌, ◌*◌, ◌<◌, ◌≤◌, List, [], ◌∷◌, ◌++◌, length, arith, get_or, Option, Some, None, ◌∙◌, sym}
use Rattle.std.proofs.Common.{append-nil, zero, suc, take, drop, length-drop, take-append-drop, map, Bool, true, false, All, length-append}
use Rattle.std.proofs.{Common.{ap, subst, refl, MatchOption}, Math.ListN.get_or-map, lemmas.Bool.cases_lt, lemmas.List.nil_from_length}
use Rattle.std.proofs.lemmas.List.{length-map, map-append, get_or_append_left, get_or_at, get_or-drop, drop-drop, take-append-le, take_all}
use Rattle.std.proofs.lemmas.List.{drop-append-le}
use Rattle.journal.specs.{Record.{Entry, block_of, entries_of, entries_from}, declared.log_format.LogFormat.LogFormat, Places.limit_of}
use Rattle.redo_log.specs.{Held.{kept_copies, begun_copies, bytes_of, AreSized}, Value.{copy_kept, with_copy}, Shown.{AreKept, begun_at}}
use Rattle.redo_log.specs.{Shown.KeepsCopies, Copies.{CopiesValue, with_kept}}

-- ---- the copies of a view's blocks that a log keeps

-- there are none yet
pub none_kept : (keeps : Bool) → [] ≡ kept_copies keeps [] []
none_kept true = refl
none_kept false = refl

-- the record under way is durable
pub durable_copies : (keeps : Bool) (records : List (List Entry)) (under_way : List Entry) (kept : List (List ℕ))
    → kept ≡ kept_copies keeps records under_way → 0 < length under_way → kept ≡ kept_copies keeps (records ++ under_way ∷ []) []
durable_copies keeps records under_way kept is some = grind (arith, is, append-nil, map-append)

-- or the oldest is retired
pub retired_copies : (keeps : Bool) (records : List (List Entry)) (under_way : List Entry) (kept : List (List ℕ))
    → kept ≡ kept_copies keeps records under_way → 0 < length records
    → drop 1 kept ≡ kept_copies keeps (drop 1 records) under_way
retired_copies keeps records under_way kept is some = grind (arith, is)

-- or one is begun
pub begun_kept : (keeps : Bool) (records : List (List Entry)) (entries : List Entry) (bytes : List ℕ) (kept : List (List ℕ))
    → kept ≡ kept_copies keeps records [] → 0 < length entries → bytes_of entries ≡ bytes
    → with_copy keeps bytes kept ≡ kept_copies keeps records entries
begun_kept keeps records entries bytes kept is some same = grind (arith, is, append-nil, same)

-- the bytes of a batch are those of its blocks
bytes_from : (k : ℕ) (numbers bytes : List ℕ) → length bytes ≡ 512 * (k + length numbers)
    → bytes_of (entries_from k numbers bytes) ≡ drop (512 * k) bytes
bytes_from k [] bytes size = sym (nil_from_length (drop (512 * k) bytes) (omega (arith, length-drop (512 * k) bytes, size)))
bytes_from k (b ∷ numbers) bytes size =
    let here : 512 * k + 512 - 512 * k ≡ 512 = omega arith in
    let next : 512 * k + 512 ≡ 512 * (k + 1) = omega arith in
    let behind : bytes_of (entries_from (k + 1) numbers bytes) ≡ drop 512 (drop (512 * k) bytes) =
    bytes_from (k + 1) numbers bytes (omega (arith, size)) ∙ sym (rw next at (drop-drop 512 (512 * k) bytes)) in
    rw (here, behind) (take-append-drop 512 (drop (512 * k) bytes))

pub bytes_of_batch : (numbers bytes : List ℕ) → length bytes ≡ 512 * length numbers → bytes_of (entries_of numbers bytes) ≡ bytes
bytes_of_batch numbers bytes size = bytes_from 0 numbers bytes (omega (arith, size))

-- each block stands among those of its record
block_among : (entries : List Entry) (i : ℕ) → AreSized entries → i < length entries
    → take 512 (drop (512 * i) (bytes_of entries)) ≡ block_of entries i
block_among [] i sized inside = absurd (omega (arith, inside))
block_among (e ∷ entries) zero sized inside =
    let long : length e.1 ≡ 512 = sized 0 (0, []) inside in
    take-append-le 512 e.1 (bytes_of entries) (omega (arith, long)) ∙ take_all 512 e.1 (omega (arith, long))
block_among (e ∷ entries) (suc i) sized inside =
    let long : length e.1 ≡ 512 = sized 0 (0, []) (omega arith) in
    let far : 512 * suc i ≡ 512 + 512 * i = omega arith in
    let none : drop 512 e.1 ≡ [] = nil_from_length (drop 512 e.1) (omega (arith, length-drop 512 e.1, long)) in
    let skip : drop 512 (e.1 ++ bytes_of entries) ≡ bytes_of entries =
    rw none at (drop-append-le 512 e.1 (bytes_of entries) (omega (arith, long))) in
    let rest = block_among entries i (λ j d low. sized (suc j) d (omega (arith, low))) (omega arith) in
    rw (far, ← drop-drop (512 * i) 512 (e.1 ++ bytes_of entries), skip) rest

-- where they are kept, the copy of a block is the block
pub copy_kept_is : (keeps : Bool) (records : List (List Entry)) (under_way : List Entry) (copies : List (List ℕ))
    → copies ≡ kept_copies keeps records under_way → keeps ≡ true → All AreSized records → (age i : ℕ) → age < length records
    → i < length (get_or records age []) → copy_kept copies age i ≡ block_of (get_or records age []) i
copy_kept_is keeps records under_way copies is keeping sized age i waits below =
    let all : copies ≡ map bytes_of records ++ begun_copies under_way = rw keeping at is in
    let there : get_or copies age [] ≡ bytes_of (get_or records age []) =
    rw all (get_or_append_left (map bytes_of records) (begun_copies under_way) [] age (rw (length-map records bytes_of) waits)
    ∙ get_or-map bytes_of records age []) in
    let long : 512 * i + 512 - 512 * i ≡ 512 = omega arith in
    rw (there, long) (block_among (get_or records age []) i (sized age [] waits) below)

-- ---- how many bytes are kept of each record

-- a record is begun
kept_begun : {copies waiting : List (List ℕ)} {old : Option ℕ} {under_way numbers : List ℕ} → AreKept copies waiting old under_way
    → begun_at old ≡ 0 → (bytes : List ℕ) → length bytes ≡ 512 * length numbers → (made : ℕ)
    → AreKept (copies ++ bytes ∷ []) waiting (Some made) numbers
kept_begun {copies} {waiting} k none bytes size made =
    let many : length copies ≡ length waiting = omega (arith, k.many, none) in
    record {
      many = omega (arith, length-append copies (bytes ∷ []), many);
      each = λ age below. rw (get_or_append_left copies (bytes ∷ []) [] age (omega (arith, many, below))) (k.each age below);
      last = rw (get_or_at copies bytes [] [] (length waiting) many) size;
    }

-- it is durable
kept_durable : {copies waiting : List (List ℕ)} {made : ℕ} {numbers : List ℕ} → AreKept copies waiting (Some made) numbers
    → (none : List ℕ) → AreKept copies (waiting ++ numbers ∷ []) None none
kept_durable {copies} {waiting} {made} {numbers} k none =
    let longer = length-append waiting (numbers ∷ []) in
    record {
      many = omega (arith, k.many, longer);
      each = λ age below. grind (
        arith,
        cases_lt age (length waiting),
        k.each age,
        k.last,
        longer,
        below,
        get_or_append_left waiting (numbers ∷ []) [] age,
        get_or_at waiting numbers [] [],
      );
      last = tt;
    }

-- the oldest is retired
kept_retired : {copies waiting : List (List ℕ)} {made : Option ℕ} {numbers : List ℕ} → AreKept copies waiting made numbers
    → 0 < length waiting → AreKept (drop 1 copies) (drop 1 waiting) made numbers
kept_retired {copies} {waiting} {made} {numbers} k some =
    let fewer = length-drop 1 waiting in
    let one : 1 + length (drop 1 waiting) ≡ length waiting = omega (arith, fewer, some) in
    record {
      many = omega (arith, k.many, length-drop 1 copies, fewer, some);
      each = λ age below. ap (λ (l : List ℕ). length l) (get_or-drop 1 copies age [])
          ∙ k.each (1 + age) (omega (arith, below, fewer))
          ∙ sym (ap (λ (l : List ℕ). 512 * length l) (get_or-drop 1 waiting age []));
      last = subst (λ (l : List ℕ). MatchOption made (Unit {0}) (λ _. length l ≡ 512 * length numbers))
          (ap (λ (i : ℕ). get_or copies i []) (sym one) ∙ sym (get_or-drop 1 copies (length (drop 1 waiting)) [])) k.last;
    }

-- the same, with the memory for them
module _ {format : LogFormat} {ring : ℕ} {waiting : List (List ℕ)} where
  module _ {old new : CopiesValue} {made : Option ℕ} {under_way : List ℕ}
      (was : old.keeps ≡ true → KeepsCopies format ring old waiting made under_way) where
    pub copied_begun : {numbers : List ℕ} (bytes : List ℕ) → new ≡ with_kept bytes old → begun_at made ≡ 0
        → length bytes ≡ 512 * length numbers → (next : ℕ) → new.keeps ≡ true → KeepsCopies format ring new waiting (Some next) numbers
    copied_begun {numbers} bytes is none size next = rw is (λ keeps.
        let k = was keeps in
        record { ring_is = k.ring_is; most = k.most; kept = rw keeps (kept_begun k.kept none bytes size next) })

    pub copied_retired : new ≡ record old { kept = drop 1 old.kept } → 0 < length waiting → new.keeps ≡ true
        → KeepsCopies format ring new (drop 1 waiting) made under_way
    copied_retired is some = rw is (λ keeps.
        let k = was keeps in record { ring_is = k.ring_is; most = k.most; kept = kept_retired k.kept some })

  pub copied_durable : {copies : CopiesValue} {made : ℕ} {numbers : List ℕ} → KeepsCopies format ring copies waiting (Some made) numbers
      → (none : List ℕ) → KeepsCopies format ring copies (waiting ++ numbers ∷ []) None none
  copied_durable k none = record { ring_is = k.ring_is; most = k.most; kept = kept_durable k.kept none }

-- a block that a durable record has is whole
pub block_kept : {format : LogFormat} {ring : ℕ} {copies : CopiesValue} {waiting : List (List ℕ)} {made : Option ℕ} {under_way : List ℕ}
    → KeepsCopies format ring copies waiting made under_way → (age place : ℕ) → age < length waiting
    → place < length (get_or waiting age []) → 512 * place + 512 ≤ length (get_or copies.kept age [])
block_kept k age place waits inside = omega (arith, k.kept.each age waits, inside)

pub limit_most : (format : LogFormat) → limit_of format ≤ 240
limit_most format = grind arith
