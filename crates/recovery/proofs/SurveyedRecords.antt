-- Records are tried, call by call, and how many reads that takes.
use Rattle.std.proofs.Common.{◌≡◌, ◌⊎◌, ◌∙◌, inl, inr, ◌+◌, ◌<◌, ◌≤◌, ℕ, List, [], ◌∷◌, ◌++◌, length, refl, sym, arith, ⊎_elim, None, Some}
use Rattle.std.proofs.{Common.{slice_index, ◌*◌, ◌%◌, Ok, Err, Result, below_more, subst}, lemmas.List.{length-append, get_or_append_left}}
use Rattle.std.proofs.lemmas.{List.{get_or_push, Sums.sum_by_push}, Nat.mod_below}
use Rattle.medium.specs.{declared.{medium_call.Call.TheVariants.Read, fault.MediumFault.MediumFault}, Medium.{Image, State}}
use Rattle.medium.{specs.{Moments.IsQuiet, Performed.Performed}, proofs.Moments.{quiet_call, quiet_joined, quiet_start}}
use Rattle.journal.specs.declared.{log_format.LogFormat.{TheVariants.{One, Two}, LogFormat}, record.Record.Record}
use Rattle.journal.specs.declared.{reader.RecordReader.RecordReader, naming_stage.NamingStage.{NamingStage, TheVariants.Named}}
use Rattle.journal.specs.{declared.super_sector.Super.Super, Reading.{StopsAtBad, ReadsUpToBad, HasDescriptor, HasPlace, NamesBlocks}}
use Rattle.journal.specs.{Reading.{IsReadFor, IsReadForStamps, HasPlaces, data_at}, Places.{Shape, first_home, first_data_of, limit_of}}
use Rattle.journal.specs.{Layout.slot_at, Format2.{descriptors_of, format2}, Formats.{HasWhole, shape_of, layout_of}, Naming.IsKnown}
use Rattle.journal.{specs.Naming.{IsFound, Learns, naming_place}, proofs.{SlotTwo.{each_there, commit_count}, SectorsRead.stamped_whole}}
use Rattle.journal.proofs.SectorsRead.{place_before}
use Rattle.recovery.specs.{Causes.{IsReadInSlot, IsTryTwo, IsTryOf, AreTriesOf, HasCount, AreTries}, Surveying.{SurveyView, HoldsSurveyed}}
use Rattle.recovery.{specs.Surveying.{IsTrying, IsCounted, TakesName, TakesPlace}, proofs.JoinedCalls.long_as}

-- there is one first bad one
stops_once : (good : ℕ → Type 0) (many a b : ℕ) → StopsAtBad good many a → StopsAtBad good many b → a ≡ b
stops_once good many a b x y = grind (arith, x.before y.first, y.before x.first, x.bad, y.bad, x.reads_are, y.reads_are)

-- and so of the reads behind a commit, where what is named has all its descriptors
behind_once : (named place : ℕ → Type 0) (names : Type 0) (many count a b : ℕ) → (names → (j : ℕ) → j < many → named j)
    → (StopsAtBad named many a ⊎ (((j : ℕ) → j < many → named j) × (¬ names) × (a ≡ many)))
    ⊎ (names × (places : ℕ) × ReadsUpToBad place count places × (a ≡ many + places))
    → (StopsAtBad named many b ⊎ (((j : ℕ) → j < many → named j) × (¬ names) × (b ≡ many)))
    ⊎ (names × (places : ℕ) × ReadsUpToBad place count places × (b ≡ many + places)) → a ≡ b
behind_once named place names many count a b there x y = grind (arith, stops_once named many a b, there, stops_once place count)

module _ (image : Image) (at stamp blocks : ℕ) where
  in_slot_once : (a b : ℕ) → IsReadInSlot image at stamp blocks a → IsReadInSlot image at stamp blocks b → a ≡ b
  in_slot_once a b (inl x) y = grind (arith, x.0)
  in_slot_once a b (inr x) (inl y) = absurd (y.0 x.0 x.1)
  in_slot_once a b (inr x) (inr y) =
      let bytes = image (at + 248) in
      let same : y.0 ≡ x.0 = sym (commit_count stamp y.0 bytes y.1) ∙ commit_count stamp x.0 bytes x.1 in
      let one = behind_once (HasDescriptor image at stamp x.0) (HasPlace image at stamp) (NamesBlocks image at stamp blocks x.0)
      (descriptors_of x.0) x.0 x.2 y.2 (λ named. each_there image at stamp x.0 named.0 named.1 named.2) x.3 (rw same at y.3) in
      omega (arith, one, x.4, y.4)

  -- the number that is read is that of the image
  try_made : (reads : ℕ) → IsReadInSlot image at stamp blocks reads → IsTryTwo image at stamp blocks reads
  try_made reads is = record { is = is; only = λ other that. in_slot_once other reads that is }

-- a record that is not there was tried
pub try_missed : (format : LogFormat) (shape : Shape) (image : Image) (stamp reads before after : ℕ)
    → IsReadFor format shape image stamp None reads → after ≡ before + reads → IsTryOf format shape image stamp before after
try_missed One shape image stamp reads before after is made = omega (arith, is, made)
try_missed Two shape image stamp reads before after is made =
    (reads, try_made image _ stamp _ reads (⊎_elim inl (λ bad. inr (bad.0, bad.1, bad.2, inl bad.3, bad.4)) is), made)

-- and one that is there, once its data places were asked for the stamp
pub try_read : (format : LogFormat) (shape : Shape) (image : Image) (stamp : ℕ) (read : Record) (reads places before mid after : ℕ)
    → IsReadFor format shape image stamp (Some read) reads → mid ≡ before + reads → IsReadForStamps format shape image stamp
    (length read.numbers.items) places → after ≡ mid + places → IsTryOf format shape image stamp before after
try_read One shape image stamp read reads places before mid after is made none more = omega (arith, is, made, none, more)
try_read Two shape image stamp read reads places before mid after is made asked more =
    let n : ℕ = length read.numbers.items in
    let slot : IsReadInSlot image _ stamp _ (reads + places) =
    inr (n, is.0, descriptors_of n + places, inr (is.1, places, asked, refl), omega (arith, is.2)) in
    (reads + places, try_made image _ stamp _ (reads + places) slot, omega (arith, made, more))

-- what holds of each place of a list, and of one more, holds of each of the list with one more
pub each_pushed : (P : ℕ → ℕ → Type 0) (xs : List ℕ) (x j : ℕ) → length xs ≡ j → ((k : ℕ) → k < j → P k (slice_index xs k)) → P j x
    → (k : ℕ) → k < j + 1 → P k (slice_index (xs ++ x ∷ []) k)
each_pushed P xs x j long each last k below = grind (arith, get_or_append_left xs (x ∷ []) 0 k, get_or_push xs x 0 j long, each k)

-- none so far
pub no_tries : (format : LogFormat) (shape : Shape) (image : Image) (first at : ℕ) → AreTriesOf format shape image first 0 at at
no_tries format shape image first at = grind arith

-- one more
pub tries_more : (format : LogFormat) (shape : Shape) (image : Image) (first j old mid new : ℕ)
    → AreTriesOf format shape image first j old mid → IsTryOf format shape image (first + j) mid new
    → AreTriesOf format shape image first (j + 1) old new
tries_more One shape image first j old mid new before last = omega (arith, before, last)
tries_more Two shape image first j old mid new before last = (
  before.0 ++ last.0 ∷ [],
  omega (arith, before.1, length-append before.0 (last.0 ∷ [])),
  each_pushed
      (λ k n. IsTryTwo image (slot_at format2 shape (first + k)) (first + k) shape.blocks n) before.0 last.0 j before.1 before.2 last.1,
  omega (arith, before.3, last.2, sum_by_push (λ x. x) before.0 last.0),
)

-- a data place is in the log
pub data_place : (sizes : Super) (stamp i : ℕ) {slot place : ℕ} → slot ≡ stamp % sizes.slots
    → place ≡ 2 + (layout_of sizes.format).slot_sectors * slot + first_data_of sizes.format + i → i < limit_of sizes.format
    → (place ≡ data_at (shape_of sizes) stamp i) × (place < first_home (shape_of sizes))
data_place sizes stamp i slot_is is few =
    let is = rw slot_is at is in
    let low = place_before sizes.format sizes.slots sizes.home (stamp % sizes.slots) i sizes.home_is
    (mod_below stamp sizes.slots sizes.some_slots) few in
    (is, omega (arith, is, low))

module _ {M : Type 0} {state : M → State} {reader : RecordReader} {left place : ℕ} {waiting : List ℕ} {view : SurveyView M} {m : M}
    (held : HoldsSurveyed state reader left place waiting view m) (due : 0 < left) where
  abbrev shape : Shape
  shape = shape_of view.sizes

  abbrev image : Image
  image = (state view.start).content

  abbrev going : IsTrying shape (state view.start) (state m) view.head reader left place waiting
  going = held.going due

  module _ {bytes got : List ℕ} {n : M} {at : ℕ} {result : Result (Unit {0}) MediumFault}
      (performed : Performed (Read at) bytes got result (state m) (state n)) where
    quiet : IsQuiet (state view.start) (state n)
    quiet = quiet_joined _ _ _ held.quiet (quiet_call _ _ performed.passes performed.changes performed.adds)

    -- a record is tried further
    trying : {next : RecordReader} {after : ℕ} → next.sizes ≡ reader.sizes → next.stamp ≡ reader.stamp → (reads : ℕ)
        → IsKnown shape image next.stamp reads next.stage next.read → HasPlaces image (slot_at format2 shape next.stamp) next.stamp after
        → ((state n).failures ≡ (state view.start).failures
        → ((state m).failures ≡ (state view.start).failures) × ((state n).calls ≡ (held.going due).before + reads + after))
        → HoldsSurveyed state next left after waiting view n
    trying {next = next} {after = after} sizes stamp reads known places calls =
        let still : IsTrying shape (state view.start) (state n) view.head next left after waiting =
        record { reads = reads; before = going.before; to = grind (arith, known, places, calls, going.to) } in
        grind (arith, held.sizes_are, sizes, quiet, held.few, held.each, still, due)

  -- it was refused
  pub untried : {bytes got : List ℕ} {n : M} {at : ℕ} {e : MediumFault} → Performed (Read at) bytes got (Err e) (state m) (state n)
      → HoldsSurveyed state reader left place waiting view n
  untried performed = let failed = performed.passes.failures_are in
      trying performed refl refl going.reads going.to.known going.to.places
      (λ none. absurd (omega (arith, none, failed, held.quiet.failures_stay)))

  module _ (sized : (x : ℕ) → x < first_home shape → length (image x) ≡ 512)
      {bytes got : List ℕ} {n : M} {at : ℕ} (performed : Performed (Read at) bytes got (Ok tt) (state m) (state n)) where
    read : got ≡ image at
    read = performed.done ∙ held.quiet.content_stays at

    abbrev Good : Type 0
    Good = (state n).failures ≡ (state view.start).failures

    none_before : Good → (state m).failures ≡ (state view.start).failures
    none_before none = omega (arith, none, performed.passes.failures_are)

    -- so the record of this stamp was tried
    abbrev Try : Type 0
    Try = Good → IsTryOf view.sizes.format shape image reader.stamp going.before (state n).calls

    tried : Try → Good → AreTries shape image view.head (length waiting + 1) (state view.start).calls (state n).calls
    tried was none =
        tries_more view.sizes.format shape image view.head (length waiting) _ going.before _ (going.to.calls (none_before none)).0
        (rw (← going.to.stamp_is) (was none))

    -- it is not whole
    missed : Try → ¬ HasWhole shape image reader.stamp → {next : RecordReader} {less after : ℕ} {counts : List ℕ}
        → next.sizes ≡ reader.sizes → less ≡ 0 → counts ≡ waiting → HoldsSurveyed state next less after counts view n
    missed was not sizes none same =
        rw (none, same) (grind (arith, held.sizes_are, sizes, quiet performed, held.few, held.each, going.to, tried was, not, due))

    -- it is whole
    counted : Try → {count : ℕ} → HasCount shape image reader.stamp count → {next : RecordReader} {less after : ℕ} {counts : List ℕ}
        → next.sizes ≡ reader.sizes → IsCounted reader left next less after → counts ≡ waiting ++ count ∷ []
        → HoldsSurveyed state next less after counts view n
    counted was {count} has {next = next} {less = less} {after = after} sizes goes same =
        let long : length (waiting ++ count ∷ []) ≡ length waiting + 1 = omega (arith, length-append waiting (count ∷ [])) in
        let tries = tried was in
        let still : IsTrying shape (state view.start) (state n) view.head next less after (waiting ++ count ∷ []) =
        record {
          reads = 0;
          before = (state n).calls;
          to = grind (arith, going.to, goes, long, goes.unread.knows image, held.sizes_are, tries);
        } in
        let each = each_pushed (λ k c. HasCount shape image (view.head + k) c) waiting count (length waiting) refl held.each
        (rw (← going.to.stamp_is) has) in
        rw same (grind (arith, held.sizes_are, sizes, quiet performed, long, going.to.left_is, goes.left_is, each, still, tries))

    -- ---- a sector that names blocks
    module _ (is : at ≡ naming_place (shape_of reader.sizes) reader.stamp reader.stage) (first : place ≡ 0) where
      learned : (reads : ℕ) → IsKnown shape image reader.stamp reads reader.stage reader.read → {stage : NamingStage} {names : Record}
          → Learns (shape_of reader.sizes) reader.stamp reader.stage reader.read got stage names
          → IsKnown shape image reader.stamp (reads + 1) stage names
      learned reads known learns = rw held.sizes_are (learns.knows image reads (rw (← is) read) (rw held.sizes_are at known))

      calls_now : Good → (state n).calls ≡ going.before + (going.reads + 1)
      calls_now none = omega (arith, (going.to.calls (none_before none)).1, first, performed.passes.calls_are)

      pub named_taken : {next : RecordReader} {less after : ℕ} {counts : List ℕ} → next.sizes ≡ reader.sizes
          → TakesName reader left place waiting got next less after counts → HoldsSurveyed state next less after counts view n
      named_taken sizes (inl on) = rw (on.left_stays, on.place_stays, on.counts_stay) (trying performed sizes on.stamp_stays
          (going.reads + 1) (rw on.stamp_stays (learned going.reads going.to.known on.learns))
          (λ i below. absurd (omega (arith, below, first)))
          (λ none. (none_before none, omega (arith, calls_now none, first))))
      named_taken sizes (inr (inl gone)) =
          let found = learned going.reads going.to.known gone.learns in
          missed (λ none. try_missed view.sizes.format shape image reader.stamp (going.reads + 1) _ _ found.exact (calls_now none))
          (λ whole. found.all whole.0 whole.1) sizes gone.none_left gone.counts_stay
      named_taken sizes (inr (inr whole)) =
          let found = learned going.reads going.to.known whole.learns in
          let one : view.sizes.format ≡ One = rw held.sizes_are whole.one in
          let has = found.some sized (grind arith) in
          counted (λ none. try_read view.sizes.format shape image reader.stamp whole.read (going.reads + 1) 0 _ _ _ found.exact
          (calls_now none) (grind arith) (omega arith))
          (has.0, has.1, long_as has.0 whole.read.numbers.items (found.all has.0 has.1).numbers_are) sizes whole.counted
          whole.counts_are

    -- ---- a data place
    module _ (named : reader.stage ≡ Named) (two : reader.sizes.format ≡ Two) (below : place < length reader.read.numbers.items)
        (is : at ≡ slot_at format2 (shape_of reader.sizes) reader.stamp + (8 + place)) where
      format_is : view.sizes.format ≡ Two
      format_is = rw held.sizes_are two

      abbrev Carries : ℕ → Type 0
      Carries i = HasPlace image (slot_at format2 shape reader.stamp) reader.stamp i

      found : IsFound shape image reader.stamp going.reads (Some reader.read)
      found = subst (λ (stage : NamingStage). IsKnown shape image reader.stamp going.reads stage reader.read) named going.to.known

      here : got ≡ image (slot_at format2 shape reader.stamp + (8 + place))
      here = rw (held.sizes_are, ← is) read

      was : (places : ℕ) → ReadsUpToBad Carries (length reader.read.numbers.items) places → places ≡ place + 1 → Try
      was places asked all none = try_read view.sizes.format shape image reader.stamp reader.read going.reads places _ _ _ found.exact refl
          (grind (arith, format_is, asked)) (omega (arith, all, (going.to.calls (none_before none)).1, performed.passes.calls_are))

      pub place_taken : {next : RecordReader} {less after : ℕ} {counts : List ℕ} → next.sizes ≡ reader.sizes
          → TakesPlace reader left place waiting got next less after counts → HoldsSurveyed state next less after counts view n
      place_taken sizes (inl on) =
          rw (on.reader_stays, on.left_stays, on.place_on, on.counts_stay) (trying performed refl refl going.reads going.to.known
          (below_more Carries place going.to.places (rw here at on.stamped))
          (λ none. (none_before none, omega (arith, (going.to.calls (none_before none)).1, performed.passes.calls_are))))
      place_taken sizes (inr (inl gone)) =
          let bad = λ (has : Carries place). gone.bad (rw here has) in
          missed (was (place + 1)
          (inr (record { first = place; inside = below; before = going.to.places; bad = bad; reads_are = refl })) refl) (λ whole.
          let long = long_as whole.0 reader.read.numbers.items (found.all whole.0 whole.1).numbers_are in
          let all = stamped_whole shape image reader.stamp whole.0 whole.1 in
          bad (grind (arith, format_is, all, long, below))) sizes gone.none_left gone.counts_stay
      place_taken sizes (inr (inr whole)) =
          let all : (i : ℕ) → i < length reader.read.numbers.items → Carries i =
          λ i less. below_more Carries place going.to.places (rw here at whole.stamped) i (omega (arith, less, whole.last)) in
          let has = found.some sized (grind (arith, format_is, all)) in
          counted (was (place + 1) (inl (all, omega (arith, below, whole.last))) refl)
          (has.0, has.1, long_as has.0 reader.read.numbers.items (found.all has.0 has.1).numbers_are) sizes whole.counted whole.counts_are

-- before the first call
pub not_tried : {M : Type 0} {state : M → State} (reader : RecordReader) (left place : ℕ) (waiting : List ℕ) (view : SurveyView M)
    → view.sizes ≡ reader.sizes → reader.stamp ≡ view.head → left ≡ view.sizes.slots → place ≡ 0 → waiting ≡ [] → 1 ≤ view.sizes.slots
    → ((image : Image) → IsKnown (shape_of view.sizes) image reader.stamp 0 reader.stage reader.read)
    → HoldsSurveyed state reader left place waiting view view.start
not_tried {state = state} reader left place waiting view sizes stamp all first none some known =
    let none_yet = no_tries view.sizes.format (shape_of view.sizes) (state view.start).content in
    let still : IsTrying (shape_of view.sizes) (state view.start) (state view.start) view.head reader left place [] =
    record { reads = 0; before = (state view.start).calls; to = grind (arith, known (state view.start).content, none_yet) } in
    rw none (grind (arith, quiet_start (state view.start), still))
