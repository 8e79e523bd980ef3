-- Calls, and then others: what they are together, and what is left at each moment of them; and records that are copied home.
use Rattle.std.proofs.Common.{◌≡◌, inl, inr, ℕ, ◌+◌, ◌*◌, ◌<◌, ◌≤◌, List, [], length, get_or, refl, ◌∙◌, ap, subst, ◌⊎◌, ⊎_elim, replicate}
use Rattle.std.proofs.{Common.{sym, arith, rules, Result, ◌≢◌, IfErr, OnOk, Ok, Err}, Math.ListN.get_or-map, lemmas.List.length-map}
use Rattle.std.proofs.lemmas.Result.{on_ok_weaker}
use Rattle.medium.specs.{Medium.{State, Image, Sets, CutLeaves, Within, IsSound, LooksOnly, Stays, Passes}, Moments.LeavesOnly}
use Rattle.medium.specs.{Moments.{StaysWithin, SparesFrom, IsQuiet, EachCut}, declared.fault.MediumFault.TheVariants.{Read, Flush}}
use Rattle.medium.{specs.{declared.fault.MediumFault.MediumFault, Tally.{Tally, of_kind}, Machine.Tallied}, proofs.Moments.at_exit}
use Rattle.medium.proofs.Moments.{updated, updated_here, updated_elsewhere, quiet_leaves, joined_same, weaker, quiet_call}
use Rattle.medium.proofs.{SparedSectors.{HasSpared, spared_joined, spared_quiet}, SectorsRead.{looks_joined, looks_below}}
use Rattle.medium.proofs.Tallies.{none_made, none_refused, refusal_counts, nothing_looked}
use Rattle.logical_blocks.specs.Blocks.{Array}
use Rattle.journal.specs.{Record.{Entry, numbers_of, with_records, home_of, Hides, Agree}, Places.{Shape, first_home, sectors_of}}
use Rattle.journal.specs.{Places.IsFirstHome, Formats.{layout_of, HasWhole, CarriesBelow}, Sectors.{IsSuper, IsHead}, Standing.IsOurs}
use Rattle.journal.{specs.{Standing.{Keeps, HasShape}, Staged.{View, Resting}, Reading.IsRefusedCall}, proofs.Wholeness.IsWhole-one}
use Rattle.journal.proofs.{Wholeness.{CarriesBelow-agree, in_log, with_records-same, records-hide}, Formats.{laws_of, sectors_are}}
use Rattle.journal.proofs.{Engine.{rests_found, none_carried, IsWholeIn-same}, SectorNumbers.IsHead-one}
use Rattle.recovery.specs.Calls.{IsHomeOf, IsHomeInRecords, LooksAtLog, Writes, cleared_at, WithOrWithout, IsBetween, IsNoneOrNew, IsMidway}
use Rattle.recovery.specs.{Calls.{ImageLeaves, IsMade, IsWritten, IsNoneOrWritten, WritesImage, ReadsNothing}, Recovered.IsFresh}
use Rattle.recovery.specs.Recovered.{HasNoneWaiting}

-- what a cut may leave in one sector an image has there that it may leave
image_with : (m : State) (s : ℕ) (c : List ℕ) → IsSound m → m.may_leave s c → (image : Image) × CutLeaves m.may_leave image × (image s ≡ c)
image_with m s c sound left = (
  updated m.content s c,
  λ t. grind (arith, updated_here m.content s c t, updated_elsewhere m.content s c t, sound.holds_content t, left),
  updated_here m.content s c s refl,
)

-- a bound on the images is one on the sets
pub sets_within : (bound : Sets) (old new : State) → IsSound new → StaysWithin bound old new → Within new.may_leave bound
sets_within bound old new sound within s c left =
    let w = image_with new s c sound left in rw w.2 at (at_exit (CutLeaves bound) old new sound within w.0 w.1 s)

-- what each image spares at each moment, the sets spare
pub spared_by : (first : ℕ) (old new : State) → IsSound new → ((s : ℕ) → first ≤ s → new.content s ≡ old.content s)
    → LeavesOnly (HasSpared first old) old new → SparesFrom first old new
spared_by first old new sound content moments =
    let sets = λ (s : ℕ) (c : List ℕ) (le : first ≤ s) (left : new.may_leave s c). let w = image_with new s c sound left in
    rw w.2 at (at_exit (HasSpared first old) old new sound moments w.0 w.1 s le) in
    record { content = content; sets = sets; moments = moments }

-- the i-th number is that of the i-th block
pub number_of : (entries : List Entry) (numbers : List ℕ) (i : ℕ) → numbers ≡ numbers_of entries
    → get_or numbers i 0 ≡ (get_or entries i (0, [])).0
number_of entries numbers i names =
    let f : Entry → ℕ = λ e. e.0 in rw names (get_or-map f entries i (0, []))

pub long_as : (entries : List Entry) (numbers : List ℕ) → numbers ≡ numbers_of entries → length numbers ≡ length entries
long_as entries numbers names = let f : Entry → ℕ = λ e. e.0 in ap (λ (l : List ℕ). length l) names ∙ length-map entries f

-- the log ends before home
pub log_ends : (shape : Shape) → IsFirstHome shape.format shape.slots shape.home
    → 2 + (layout_of shape.format).slot_sectors * shape.slots ≤ first_home shape
log_ends shape home = grind (arith, sectors_are shape.format)

-- home is behind the log
pub not_in_log : (shape : Shape) (image : Image) (head count x : ℕ) → x < first_home shape → ¬ IsHomeInRecords shape image head count x
not_in_log shape image head count x below home = let is = home.2.2.2 in omega (arith, is)

-- two arrays have the same blocks
abbrev pub AreSame : Shape → Array → Array → Type 0
AreSame shape a c = (b : ℕ) → b < shape.blocks → a b ≡ c b

-- copies of its records at home change nothing of what an image stands for
pub copies_ours : {size : ℕ} {shape : Shape} {start : Image} {array : Array} {next : ℕ} (ours : IsOurs size shape start array next)
    (head count : ℕ) → head ≡ ours.stands.head → count ≡ length ours.stands.records → (image : Image)
    → ((x : ℕ) → (image x ≡ start x) ⊎ IsHomeInRecords shape start head count x) → IsOurs size shape image array next
copies_ours {shape = shape} {start = start} {array = array} {next = next} ours head count head_is count_is image each =
    let records = ours.stands.records in
    let super = ours.stands.keeps.super in
    let ends = log_ends shape super.home_is in
    let log : (x : ℕ) → x < first_home shape → image x ≡ start x =
    λ x below. ⊎_elim (λ same. same) (λ home. absurd (not_in_log shape start head count x below home)) (each x) in
    let L = layout_of shape.format in
    let laws = laws_of shape.format in
    let agree : Agree 2 (2 + L.slot_sectors * shape.slots) image start = λ x low high. log x (omega (arith, high, ends)) in
    -- a block that is copied is hidden by the records
    let home : (b : ℕ) → with_records records (home_of shape image) b ≡ with_records records (home_of shape start) b =
    λ b. ⊎_elim (with_records-same records (home_of shape image) (home_of shape start) b) (λ copied.
    let h = rw (head_is, count_is) at copied in
    let es = get_or records h.0 [] in
    let one = IsWhole-one L laws shape start _ h.2.0 es h.2.1 (ours.stands.keeps.whole h.0 h.1) in
    let here : IsHomeOf shape (numbers_of es) (first_home shape + b) = rw one at h.2.2 in
    let hides = records-hide records h.0 here.0 h.1 (omega (arith, here.1, long_as es (numbers_of es) refl)) in
    subst (Hides records) (omega (arith, here.2, number_of es (numbers_of es) here.0 refl)) hides
    (home_of shape image) (home_of shape start)) (each (first_home shape + b)) in
    let keeps : Keeps shape image ours.stands.head records array = record {
      super = rw (log 0 (omega (arith, ends))) super;
      head_is = rw (log 1 (omega (arith, ends))) ours.stands.keeps.head_is;
      whole = λ j below. IsWholeIn-same L laws shape super.some_slots start image agree _ _ (ours.stands.keeps.whole j below);
      blocks = λ b below. home b ∙ ours.stands.keeps.blocks b below;
    } in
    let ends_there = λ (less : length records < shape.slots) (w : HasWhole shape image (ours.stands.head + length records)).
    ours.stands.ends less (w.0, IsWholeIn-same L laws shape super.some_slots image start (λ x low high. sym (agree x low high)) _ _ w.1) in
    let carries = CarriesBelow-agree L laws shape start image next agree ours.carries in
    search (rules, keeps, ours.stands.few, ends_there, ours.stands.next_is, ours.stands.fits, carries)

-- no record waits in a log of zeros
pub zeros_fresh : (shape : Shape) (array : Array) (next : ℕ) (image : Image) → IsSuper shape (image 0) → IsHead next (image 1) → ((x : ℕ)
    → 2 ≤ x → x < first_home shape → image x ≡ replicate 512 0) → AreSame shape (home_of shape image) array → IsFresh shape array next image
zeros_fresh shape array next image super head zeros home =
    let L = layout_of shape.format in
    let carries : CarriesBelow shape image next = λ slot o stamp low small carries.
    let here = zeros (2 + L.slot_sectors * slot + o) (omega arith)
    (omega (arith, in_log L.slot_sectors slot shape.slots o low small, log_ends shape super.home_is)) in
    omega (arith, (laws_of shape.format).zeros o stamp (rw here at carries), head.least) in
    search (rules, home, carries)

-- an image in which no record waits is ours, with the stamp behind
pub fresh_ours : {size : ℕ} {shape : Shape} {array : Array} {next : ℕ} {image : Image} → sectors_of shape ≤ size
    → IsFresh shape array next image → IsOurs size shape image array (next + 1)
fresh_ours {shape = shape} {array = array} {next = next} {image = image} fits f =
    let view : View = record { shape = shape; head = next; records = []; under_way = []; array = array } in
    let rests : Resting (layout_of shape.format) view image = search (rules, arith, f.carries) in
    let found = rests_found (layout_of shape.format) (laws_of shape.format) view (omega arith) rests in
    search (rules, arith, found.keeps, found.carries)

-- and none is whole there
pub none_waits : {shape : Shape} {array : Array} {next : ℕ} {image : Image} → IsFresh shape array next image → HasNoneWaiting shape image
none_waits {shape = shape} {next = next} {image = image} f head is =
    rw (IsHead-one head next (image 1) is f.head)
    (none_carried (layout_of shape.format) (laws_of shape.format) shape f.super.some_slots image next f.carries)

-- an image of zeros behind a super and a head is ours, for what it has at home
pub zeros_ours : (size : ℕ) (shape : Shape) (array : Array) (image : Image) → sectors_of shape ≤ size → IsSuper shape (image 0)
    → IsHead 1 (image 1) → ((x : ℕ) → 2 ≤ x → x < first_home shape → image x ≡ replicate 512 0)
    → AreSame shape (home_of shape image) array → IsOurs size shape image array 2
zeros_ours size shape array image fits super head zeros home = fresh_ours fits (zeros_fresh shape array 1 image super head zeros home)

-- what holds of a medium's size and contents after calls that wrote nothing held before them
pub quiet_before : (P : ℕ → Image → Type 0) (old mid : State) → IsQuiet old mid → P mid.size mid.content → P old.size old.content
quiet_before P old mid quiet h =
    let same : mid.content ≡ old.content = λ i s. quiet.content_stays s i in
    rw (same, quiet.size_stays) at h

-- and what held before them holds after them
pub quiet_after : (P : ℕ → Image → Type 0) (old mid : State) → IsQuiet old mid → P old.size old.content → P mid.size mid.content
quiet_after P old mid quiet = quiet_before (λ n i. P n i → P mid.size mid.content) old mid quiet (λ h. h)

-- calls that read sectors of the log, and then others that do
pub looked_on : (shape : Shape) (old mid new : State) → HasShape old.size shape old.content → LooksAtLog old mid
    → LooksOnly (λ s. s < first_home shape) mid new → LooksAtLog old new
looked_on shape old mid new has first last near holds =
    looks_joined (λ s. s < near) old mid new (first near holds)
    (looks_below (first_home shape) near mid new (holds.log shape has) last)

-- a write reads nothing, and a flush neither
pub reads_none : (old new : State) {fault : MediumFault} {result : Result (Unit {0}) MediumFault} → Passes fault result old new
    → fault ≢ Read → new.looked ≡ old.looked
reads_none old new call other = call.looked_stays other

-- a sector before these is written
pub through_spares : (first place : ℕ) (bytes : List ℕ) (old new : State) → place < first → IsSound new → ((x : ℕ) → x ≢ place
    → new.content x ≡ old.content x) → LeavesOnly (WithOrWithout place bytes old.may_leave) old new → SparesFrom first old new
through_spares first place bytes old new below sound elsewhere moments =
    spared_by first old new sound (λ s le. elsewhere s (λ same. omega (arith, le, same, below))) (weaker _ _ _ _
    (λ image either s le. grind (arith, either)) moments)

-- sectors before these are cleared
pub clear_spares : (first end : ℕ) (old new : State) → IsSound new → ((x : ℕ) → ¬ IsBetween first end x → new.content x ≡ old.content x)
    → StaysWithin (cleared_at (IsBetween first end) old.may_leave) old new → SparesFrom end old new
clear_spares first end old new sound elsewhere within =
    spared_by end old new sound (λ s le. elsewhere s (λ between. omega (arith, le, between.1)))
    (weaker _ _ _ _ (λ image cut s le. grind (arith, cut s)) within)

module _ {P : Image → Type 0} where
  -- some calls, and then others
  pub writes_on : {X Y Z : Type 0} {end few many most : ℕ} {old mid new : State} {one : Result X MediumFault} {two : Result Y MediumFault}
      {result : Result Z MediumFault} → Writes P end few old mid one → Writes P end many mid new two → few + many ≤ most
      → IfErr result (IsRefusedCall old new) → OnOk result (new.calls ≡ old.calls + most) → Writes P end most old new result
  writes_on first second fit cause exact =
      let spares = spared_joined _ _ _ _ first.spares second.spares in
      search (rules, joined_same _ _ _ _ first.moments second.moments, spares, second.reads.looked_stays ∙ first.reads.looked_stays)

  -- a flush
  pub flush_writes : {end : ℕ} {old new : State} {result : Result (Unit {0}) MediumFault} → IsSound old → Passes Flush result old new
      → Stays old.content new.content → Within new.may_leave old.may_leave → EachCut P old → Writes P end 1 old new result
  flush_writes {end = end} {old = old} {new = new} sound passes content sets each =
      let quiet = quiet_call old new passes content sets in
      search (rules, quiet_leaves P _ _ sound each quiet, spared_quiet end _ _ sound quiet, passes.looked_stays (λ e. cc e))

-- an image was written, good or refused, that is ours for this array
pub image_made : {shape : Shape} {end : ℕ} {old new : State} {result : Result (Unit {0}) MediumFault} (array : Array)
    → WritesImage shape end old new result → sectors_of shape ≤ old.size → first_home shape ≤ end
    → ((image : Image) → IsWritten shape 1 end old.content image → AreSame shape (home_of shape image) array)
    → OnOk result (IsMade shape array end old new) × ImageLeaves shape array end old new
image_made {shape = shape} {end = end} {old = old} {new = new} {result = result} array wrote fits log home =
    let size = wrote.writes.moments.size_stays in
    let ours : (size : ℕ) (image : Image) → sectors_of shape ≤ size → IsWritten shape 1 end old.content image
    → IsOurs size shape image array 2 = λ size image fits is. zeros_ours size shape array image fits is.super is.head
    (λ x low high. is.zeros x low (omega (arith, high, log))) (home image is) in
    let new_or_none : (image : Image) → IsNoneOrWritten shape end old.content image → IsNoneOrNew old.size shape array image =
    λ image either. ⊎_elim inl (λ is. inr (ours _ image fits is)) either in
    let moments = weaker _ (IsMidway shape array old) _ _ (λ image either. ⊎_elim inl (λ is. inr (new_or_none image is)) either)
    wrote.writes.moments in (
      on_ok_weaker result (λ done. search (rules, ours new.size new.content (omega (arith, fits, size)) done.0)) wrote.done,
      grind (arith, moments, new_or_none, wrote.after_flush, wrote.writes.spares, wrote.writes.reads),
    )

-- the last one was refused, where it did not come to its end
pub refused_call : {Exact : Type 0} {left rest : Tally} {old new : State} (result : Result (Unit {0}) MediumFault)
    → Tallied Exact left rest result old new → IfErr result (IsRefusedCall old new)
refused_call (Ok done) t = tt
refused_call (Err e) t = let counts = refusal_counts (Err e) t in record { grew = counts.0; kind_grew = counts.1 }

-- none reads
pub none_read : {Exact : Type 0} {left rest : Tally} {old new : State} {result : Result (Unit {0}) MediumFault}
    → Tallied Exact left rest result old new → of_kind left Read ≡ 0 → LooksOnly (λ s. s < 0) old new → ReadsNothing old new
none_read t none_left looks = grind (arith, none_made t Read none_left, none_refused t Read none_left, nothing_looked _ _ looks)
