-- Records are copied home, call by call.
use Rattle.std.proofs.Common.{◌≡◌, ◌≢◌, ◌<◌, ◌≤◌, ◌+◌, ◌*◌, ◌++◌, ℕ, List, [], ◌∷◌, length, drop, get_or, take, inl, inr, ◌∙◌, sym, refl}
use Rattle.std.proofs.{Common.{arith, Ok, Err, Result, true, false, Some}, lemmas.List.{take_more, take_all}}
use Rattle.medium.specs.{declared.{medium_call.Call.TheVariants.{Read, Write}, fault.MediumFault.MediumFault}, Medium.{State, Image}}
use Rattle.medium.{specs.Performed.Performed, proofs.Moments.gains_within}
use Rattle.journal.specs.{declared.{log_format.LogFormat.LogFormat, record.Record.Record, reader.RecordReader.RecordReader}, Reading.IsRead}
use Rattle.journal.specs.{declared.naming_stage.NamingStage.TheVariants.Named, Naming.{Learns, IsKnown, naming_place}, Places.Shape}
use Rattle.journal.specs.{Places.first_home, Formats.{shape_of, IsWhole}, Record.{Entry, numbers_of, with_records, home_of, block_of}}
use Rattle.journal.{specs.Reading.{data_at, IsReadFor}, proofs.Wholeness.{with_blocks-copied, with_records-append}}
use Rattle.recovery.specs.{Calls.{IsHomeOf, IsHomeInRecords, freed_at, copy_calls, calls_of, AreCopied}, Copying.{CopyView, HasHome}}
use Rattle.recovery.specs.{Copying.{HoldsCopied, IsNextRecord, IsTakenOrPassed}, declared.copy_step.CopyStep.CopyStep}
use Rattle.recovery.proofs.JoinedCalls.{not_in_log, number_of, long_as}

-- one call more for each block of one more record
copy_calls-append : (format : LogFormat) (records : List (List Entry)) (entries : List Entry)
    → copy_calls format (records ++ entries ∷ []) ≡ copy_calls format records + calls_of format (length entries)
copy_calls-append format [] entries = grind arith
copy_calls-append format (r ∷ records) entries = grind (arith, copy_calls-append format records entries)

-- as many calls as it takes
calls_made : (format : LogFormat) (shape : Shape) (image : Image) (stamp : ℕ) (read : Record) (n reads : ℕ)
    → IsReadFor format shape image stamp (Some read) reads → length read.numbers.items ≡ n → reads + 2 * n ≡ calls_of format n
calls_made format shape image stamp read n reads is long = grind arith

module _ {M : Type 0} {state : M → State} {reader : RecordReader} {step : CopyStep} {had : List ℕ} {view : CopyView M} {m : M} where
  -- so many records are home, and so many sectors were read of the next
  with_home : (home reads : ℕ) → HasHome state reader step had view home reads m → HoldsCopied state reader step had view m
  with_home home reads at = record { home = home; reads = reads; at = at }

module _ {M : Type 0} {state : M → State} {reader : RecordReader} {step : CopyStep} {had : List ℕ} {view : CopyView M} {m : M}
    (held : HoldsCopied state reader step had view m) where
  abbrev shape : Shape
  shape = shape_of view.sizes

  abbrev start : Image
  start = (state view.start).content

  -- ---- a read
  -- it was refused
  pub unread : {bytes got : List ℕ} {n : M} {place : ℕ} {e : MediumFault} → Performed (Read place) bytes got (Err e) (state m) (state n)
      → HoldsCopied state reader (record step { has_bytes = false }) got view n
  unread performed = with_home held.home held.reads (grind (arith, performed, held.at))

  -- the sector that names blocks was read
  module _ {bytes got : List ℕ} {n : M} {place : ℕ} (performed : Performed (Read place) bytes got (Ok tt) (state m) (state n))
      (due : 0 < step.left) (low : place < first_home (shape_of reader.sizes)) where
    read_of_log : got ≡ start place
    read_of_log = performed.done
        ∙ held.at.elsewhere place (not_in_log shape start view.head (length view.records) place (rw held.at.sizes_are low))

    module _ (is : place ≡ naming_place (shape_of reader.sizes) reader.stamp reader.stage) where
      learned : {stage : _} {read : Record} → Learns (shape_of reader.sizes) reader.stamp reader.stage reader.read got stage read
          → IsKnown shape start reader.stamp (held.reads + 1) stage read
      learned learns = rw held.at.sizes_are (learns.knows start held.reads (rw (← is) read_of_log) (rw held.at.sizes_are at held.at.known))

      pub took : {next : RecordReader} {after : CopyStep} → step.i ≡ 0 → step.has_bytes ≡ false
          → IsTakenOrPassed reader step got next after → HoldsCopied state next after got view n
      took first no_bytes (inl taken) =
          rw taken.step_stays (with_home held.home (held.reads + 1) (grind (arith, performed, held.at, taken, learned taken.learns)))
      took first no_bytes (inr passed) =
          -- the record is whole
          let inside : held.home < length view.records = omega (arith, held.at.left_is, due) in
          absurd ((learned passed.1).all (get_or view.records held.home []) (rw held.at.stamp_is (held.at.whole held.home inside)))

    -- the bytes of a block were read
    pub block_read : place ≡ data_at (shape_of reader.sizes) reader.stamp step.i → step.has_bytes ≡ false
        → HoldsCopied state reader (record step { has_bytes = true }) got view n
    block_read is no_bytes = with_home held.home held.reads (grind (arith, performed, held.at, read_of_log))

  -- ---- a write
  module _ (due : 0 < step.left) (named : reader.stage ≡ Named) (below : step.i < length reader.read.numbers.items) {place : ℕ}
      (is : place ≡ first_home (shape_of reader.sizes) + get_or reader.read.numbers.items step.i 0) where
    abbrev entries : List Entry
    entries = get_or view.records held.home []

    abbrev numbers : List ℕ
    numbers = reader.read.numbers.items

    inside : held.home < length view.records
    inside = omega (arith, held.at.left_is, due)

    whole : IsWhole shape start reader.stamp entries
    whole = rw held.at.stamp_is (held.at.whole held.home inside)

    -- this was read of it
    is_read : IsRead shape start reader.stamp entries reader.read
    is_read = (rw named at held.at.known).all entries whole

    long : length numbers ≡ length entries
    long = long_as entries numbers is_read.numbers_are

    rising : (k : ℕ) → k < step.i → get_or numbers k 0 < get_or numbers step.i 0
    rising k before = grind (arith, whole.fit.rising k step.i, long, long_as entries (numbers_of entries) refl, is_read.numbers_are)

    here : place ≡ first_home shape + get_or numbers step.i 0
    here = rw held.at.sizes_are is

    at_home : IsHomeInRecords shape start view.head (length view.records) place
    at_home =
        let at : IsHomeOf shape (numbers_of entries) place =
        (step.i, omega (arith, below, long, long_as entries (numbers_of entries) refl), rw (← is_read.numbers_are) here) in
        (held.home, inside, (entries, held.at.whole held.home inside, at))

    module _ {bytes got : List ℕ} {n : M} {result : Result (Unit {0}) MediumFault}
        (performed : Performed (Write place) bytes got result (state m) (state n)) where
      copied_before : (k : ℕ) → k < step.i → (state n).content (first_home shape + get_or numbers k 0) ≡ block_of entries k
      copied_before k before = grind (arith, performed.changes, here, rising k before, held.at.copied k before)

      elsewhere : (x : ℕ) → ¬ IsHomeInRecords shape start view.head (length view.records) x → (state n).content x ≡ start x
      elsewhere x not = grind (arith, performed.changes, not, at_home, held.at.elsewhere x)

      within : (x : ℕ) (c : List ℕ) → (state n).may_leave x c
          → freed_at (IsHomeInRecords shape start view.head (length view.records)) (state view.start).may_leave x c
      within = gains_within (freed_at (IsHomeInRecords shape start view.head (length view.records)) (state view.start).may_leave) _ _
          place bytes held.at.within performed.adds (λ x c both. inr (rw both.0 at_home))

    -- it was refused
    pub unwritten : {bytes got : List ℕ} {n : M} {e : MediumFault} → Performed (Write place) bytes got (Err e) (state m) (state n)
        → HoldsCopied state reader (record step { has_bytes = false }) got view n
    unwritten performed =
        let failed = performed.passes.failures_are in
        with_home held.home held.reads
        (grind (arith, held.at.whole, held.at.known, copied_before performed, elsewhere performed, within performed))

    -- it is written, and there is one more, or none
    module _ {bytes got : List ℕ} {n : M} (full : step.has_bytes ≡ true)
        (bytes_are : bytes ≡ get_or reader.read.firsts.items step.i [] ++ drop (length (get_or reader.read.firsts.items step.i [])) had)
        (performed : Performed (Write place) bytes got (Ok tt) (state m) (state n)) where
      abbrev Good : Type 0
      Good = (state n).failures ≡ (state view.start).failures

      written : (state n).content (first_home shape + get_or numbers step.i 0) ≡ block_of entries step.i
      written = grind (arith, is_read.blocks_are step.i (omega (arith, below, long)), here, held.at.half full, performed.done.here)

      copied_on : (k : ℕ) → k < step.i + 1 → (state n).content (first_home shape + get_or numbers k 0) ≡ block_of entries k
      copied_on k before = grind (arith, copied_before performed k, written)

      none_failed : Good → (state m).failures ≡ (state view.start).failures
      none_failed none = omega (arith, none, performed.passes.failures_are)

      others_on : Good → (b : ℕ) → ((k : ℕ) → k < step.i + 1 → get_or numbers k 0 ≢ b)
          → (state n).content (first_home shape + b) ≡ with_records (take held.home view.records) (home_of shape start) b
      others_on none b not = grind (arith, performed.changes, not, here, held.at.others (none_failed none) b)

      pub block_written : HoldsCopied state reader (record { left = step.left; i = step.i + 1; has_bytes = false }) got view n
      block_written = with_home held.home held.reads
          (grind (arith, performed, held.at, copied_on, others_on, elsewhere performed, within performed))

      pub record_written : {next : RecordReader} {after : CopyStep} → length reader.read.numbers.items ≤ step.i + 1
          → IsNextRecord reader step next after → HoldsCopied state next after got view n
      record_written {next = next} {after = after} last goes =
          let all : step.i + 1 ≡ length entries = omega (arith, last, below, long) in
          let exact = calls_made view.sizes.format shape start reader.stamp reader.read (length entries) held.reads
          (rw named at held.at.known).exact long in
          let copied : (b : ℕ) → Good → (state n).content (first_home shape + b)
          ≡ with_records (take (held.home + 1) view.records) (home_of shape start) b = λ b none.
          rw (take_more view.records held.home [] inside) (with_blocks-copied entries
          (with_records (take held.home view.records) (home_of shape start)) (λ b. (state n).content (first_home shape + b))
          (λ i before. rw (← (number_of entries numbers i is_read.numbers_are)) (copied_on i (omega (arith, before, all))))
          (λ b not. others_on none b (λ k before e.
          not k (omega (arith, before, all)) (sym (number_of entries numbers k is_read.numbers_are) ∙ e))) b
          ∙ sym (with_records-append (take held.home view.records) entries (home_of shape start) b)) in
          let calls : Good → (state n).calls
          ≡ (state view.start).calls + copy_calls view.sizes.format (take (held.home + 1) view.records) = λ none.
          let before = rw full at (held.at.calls (none_failed none)) in
          let more = copy_calls-append view.sizes.format (take held.home view.records) entries in
          rw (take_more view.records held.home [] inside) (omega (arith, before, performed.passes.calls_are, exact, all, more)) in
          with_home (held.home + 1) 0
          (grind (arith, held.at.whole, goes.unread.knows start, copied, calls, elsewhere performed, within performed))

-- before the first call
pub not_copied : {M : Type 0} {state : M → State} (reader : RecordReader) (step : CopyStep) (had : List ℕ) (view : CopyView M)
    → view.sizes ≡ reader.sizes → reader.stamp ≡ view.head → step.left ≡ length view.records → step.i ≡ 0 → step.has_bytes ≡ false
    → ((image : Image) → IsKnown (shape_of view.sizes) image reader.stamp 0 reader.stage reader.read)
    → ((k : ℕ) → k < length view.records → IsWhole (shape_of view.sizes) (state view.start).content (view.head + k)
    (get_or view.records k [])) → HoldsCopied state reader step had view view.start
not_copied {state = state} reader step had view sizes stamp left first no_bytes known whole =
    with_home 0 0 (grind (arith, known (state view.start).content, whole))

-- behind the last one
pub all_copied : {M : Type 0} {state : M → State} {reader : RecordReader} {step : CopyStep} {had : List ℕ} {view : CopyView M} {m : M}
    → HoldsCopied state reader step had view m → step.left ≡ 0 → (state m).failures ≡ (state view.start).failures
    → AreCopied (shape_of view.sizes) view.records (state view.start) (state m)
all_copied {view = view} held none good =
    grind (arith, held.at.ended none, take_all held.home view.records, held.at.others good, held.at.calls good)
