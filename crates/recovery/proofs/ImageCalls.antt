-- The calls that write a new image, and what each leaves of what was shown before it.
use Rattle.std.proofs.Common.{◌≡◌, ◌≢◌, ◌<◌, ◌≤◌, ◌+◌, ℕ, List, ◌∷◌, Ok, Err, OnOk, Result, refl, ◌∙◌, sym, ap, arith, rules}
use Rattle.std.proofs.lemmas.Result.{on_ok_weaker}
use Rattle.medium.specs.{declared.{medium_call.Call.{TheVariants.{Write, Flush}, Call}, fault.MediumFault.MediumFault}, Medium.State}
use Rattle.medium.specs.{Medium.{Image, Holds, IsSound, Passes}, Moments.{EachCut, IsFlushed}, Machine.{TellsCall, Driven, Tallied}}
use Rattle.medium.{specs.{Performed.Performed, Tally.{none, of_all, one_more}}, proofs.{Driving.left_all, Moments.{each_write, each_flush}}}
use Rattle.medium.proofs.{Moments.{shrunk, weaker}, Tallies.{calls_most, calls_all, sends_most}}
use Rattle.recovery.specs.NewImage.{ImageView, Under, Shows, IsNew, IsPartOrNew, HasImage, MidwayImage, HoldsImage, MayBeImage, IsLive}
use Rattle.recovery.specs.{NewImage.{IsAfter, image_left, calls_ahead, each_midway}, Calls.{Writes, AreMade}}
use Rattle.recovery.specs.declared.{image_plan.ImagePlan.ImagePlan, new_image.NewImage.NewImage, image_stage.ImageStage.ImageStage}
use Rattle.recovery.proofs.JoinedCalls.{refused_call, none_read}
use Rattle.medium.specs.declared.fault.MediumFault.TheVariants as fault
use Rattle.recovery.specs.declared.image_stage.ImageStage.TheVariants as stage

-- a good flush: a cut leaves what a read gives
flush_shows : {old new : State} {bytes got : List ℕ} (E L : Image → Type 0) → Performed Flush bytes got (Ok tt) old new
    → E old.content × L old.content → Shows E L new
flush_shows {old = old} {new = new} E L performed both =
    let same : new.content ≡ old.content = λ i s. performed.done.0 s i in
    (rw same both.0, each_flush L old.content new performed.done.1 both.1)

-- once less is left than behind the first good flush there is a part of the new image, or it
late : (plan : ImagePlan) (under : Under) (at : ImageStage) (old : State) (image : Image) → IsLive at
    → of_all (image_left at plan.end) ≤ plan.end + 3 → MidwayImage plan under at old image → IsPartOrNew plan under image
late plan under at old image live few is = grind arith

module _ {M : Type 0} {state : M → State} {at : ImageStage} {plan : ImagePlan} {view : ImageView M} {m n : M}
    {kind : MediumFault} {result : Result (Unit {0}) MediumFault} (sound : IsSound (state m))
    (held : HoldsImage state at plan view m) (live : IsLive at) (passes : Passes kind result (state m) (state n))
    (next : ImageStage) (lives : IsLive next) (fewer : of_all (image_left next plan.end) ≤ of_all (image_left at plan.end)) where
  -- one moment more, after the first good flush
  since_on : EachCut (MidwayImage plan view.under next (state view.start)) (state n) → view.since + 1 ≤ (state n).calls → (image : Image)
      → (state n).left_since view.since image → IsPartOrNew plan view.under image
  since_on cuts more image since =
      let past : view.since ≤ (state m).calls = omega (arith, more, passes.calls_are) in
      let was = late plan view.under at (state view.start) image live in
      let now = late plan view.under next (state view.start) image lives in
      grind (arith, held, was, now, held.calls live, sound.only_now image, cuts image, passes.nothing_else view.since image past since)

  -- the next call comes, or none
  moved : of_all (image_left at plan.end) ≡ of_all (image_left next plan.end) + 1 → Shows (HasImage plan view.under next)
      (MidwayImage plan view.under next (state view.start)) (state n) → (next ≡ stage.Made → IsFlushed (state n)) → ((k : M)
      → AreMade state (calls_ahead next plan.end) n k → AreMade state (calls_ahead at plan.end) m k) → HoldsImage state next plan view n
  moved one shows flushed ahead =
      let order = λ (k : M) (rest : AreMade state (calls_ahead next plan.end) n k). held.order live k (ahead k rest) in
      grind (arith, held.plan_is, held.calls live, passes.calls_are, since_on shows.1, order)

  -- one was refused
  stopped : EachCut (MidwayImage plan view.under next (state view.start)) (state n) → HoldsImage state stage.Refused plan view n
  stopped cuts = grind (arith, held.plan_is, since_on cuts, each_midway plan view.under next (state view.start), cuts)

-- this is the next call of a new image
abbrev pub TellsImage : {M : Type 0} → (M → State) → NewImage → List ℕ → Call → List ℕ → Type 0
TellsImage {M = M} state s had call bytes =
    TellsCall {M = M} {S = NewImage} {V = ImageView M} state (λ s size. (s.plan.end ≤ size) × IsLive s.stage)
    (λ s had m view. HoldsImage state s.stage s.plan view m) (λ s. 0) (λ s. s.plan.end) (λ s. image_left s.stage s.plan.end) (Unit {0})
    (λ s. 0 < (image_left s.stage s.plan.end).flushes) (λ s got t. (t.plan ≡ s.plan) × IsAfter s.stage s.plan.end t.stage × IsLive t.stage)
    (λ s t. (t.plan ≡ s.plan) × (t.stage ≡ stage.Refused)) s had call bytes

module _ {M : Type 0} {state : M → State} (sound : (m : M) → IsSound (state m)) (s : NewImage) {had bytes : List ℕ}
    (at next : ImageStage) (is : s.stage ≡ at) (lives : IsLive next)
    (leads : (t : ImageStage) → IsAfter at s.plan.end t → t ≡ next) (due : 0 < (image_left at s.plan.end).flushes) where
  -- A write: the contents, and what a cut leaves, are those of the next stage, with that sector written.
  pub tells_write : (place : ℕ) → place < s.plan.end → next ≢ stage.Made
      → image_left at s.plan.end ≡ one_more (image_left next s.plan.end) fault.Write
      → calls_ahead at s.plan.end ≡ Write place ∷ calls_ahead next s.plan.end
      → ((view : ImageView M) (now : Image) → HasImage s.plan view.under at now
      → ((image : Image) → Holds place bytes now image → HasImage s.plan view.under next image)
      × ((image : Image) → MidwayImage s.plan view.under at (state view.start) image
      → MidwayImage s.plan view.under next (state view.start) image)
      × ((before image : Image) → Holds place bytes before image → MidwayImage s.plan view.under at (state view.start) before
      → MidwayImage s.plan view.under next (state view.start) image))
      → TellsImage state s had (Write place) bytes
  tells_write place below more one ahead becomes = record {
    due = rw is due;
    within = below;
    looks = tt;
    made = λ m n got view t fits held performed after.
        let h = rw is at held in
        let b = becomes view (state m).content h.shows.0 in
        rw (after.0, leads t.stage (rw is at after.1)) (moved (sound m) h (rw is at fits.1) performed.passes next lives
        (omega (arith, ap of_all one)) (omega (arith, ap of_all one))
        (b.0 (state n).content performed.done, each_write _ _ (state m) (state n) place bytes (sound m) performed.adds h.shows.1 b.1 b.2)
        (λ e. absurd (more e)) (λ k rest. rw ahead (n, bytes, got, performed, rest)));
    refused = λ m n got view t e fits held performed gone.
        let h = rw is at held in
        let b = becomes view (state m).content h.shows.0 in
        rw (gone.0, gone.1) (stopped (sound m) h (rw is at fits.1) performed.passes next lives (omega (arith, ap of_all one))
        (each_write _ _ (state m) (state n) place bytes (sound m) performed.adds h.shows.1 b.1 b.2));
    rest = image_left next s.plan.end;
    pays = rw is one;
    rests = λ got t after. left_all (rw (after.0, leads t.stage (rw is at after.1)) refl);
  }

  -- A flush: what the contents are, and what a cut may leave of them, is so of the next stage.
  pub tells_flush : image_left at s.plan.end ≡ one_more (image_left next s.plan.end) fault.Flush
      → calls_ahead at s.plan.end ≡ Flush ∷ calls_ahead next s.plan.end
      → ((view : ImageView M) (now : Image) → HasImage s.plan view.under at now → MidwayImage s.plan view.under at (state view.start) now
      → HasImage s.plan view.under next now × MidwayImage s.plan view.under next (state view.start) now) → IsLive at
      → TellsImage state s had Flush bytes
  tells_flush one ahead becomes live = record {
    due = rw is due;
    within = tt;
    looks = tt;
    made = λ m n got view t fits held performed after.
        let h = rw is at held in
        rw (after.0, leads t.stage (rw is at after.1)) (moved (sound m) h live performed.passes next lives
        (omega (arith, ap of_all one)) (omega (arith, ap of_all one))
        (flush_shows (HasImage s.plan view.under next) (MidwayImage s.plan view.under next (state view.start)) performed
        (becomes view (state m).content h.shows.0 (h.shows.1 (state m).content (sound m).holds_content)))
        (λ e s c left. performed.done.1 s c left ∙ sym (performed.done.0 s)) (λ k rest. rw ahead (n, bytes, got, performed, rest)));
    refused = λ m n got view t e fits held performed gone.
        let h = rw is at held in
        rw (gone.0, gone.1) (stopped (sound m) h live performed.passes at live (omega arith)
        (shrunk (MidwayImage s.plan view.under at (state view.start)) (state m) (state n) performed.adds h.shows.1));
    rest = image_left next s.plan.end;
    pays = rw is one;
    rests = λ got t after. left_all (rw (after.0, leads t.stage (rw is at after.1)) refl);
  }

-- where none is left and none was refused it is made
ends_made : (at : ImageStage) (end : ℕ) → IsLive at → image_left at end ≡ none → at ≡ stage.Made
ends_made at end live left = grind arith

-- the image is there where Ok, and a cut leaves no other
image_ended : {M : Type 0} {state : M → State} (result : Result (Unit {0}) MediumFault) {at : ImageStage} {plan : ImagePlan}
    {view : ImageView M} {m : M} → OnOk result (IsLive at) → OnOk result (image_left at plan.end ≡ none) → HoldsImage state at plan view m
    → OnOk result (IsNew plan view.under (state m).content × IsFlushed (state m) × AreMade state view.calls view.start m)
image_ended (Ok done) {at} {plan} live left held =
    let made = rw (ends_made at plan.end live left) at held in (made.shows.0, made.flushed refl, made.order tt _ refl)
image_ended (Err e) live left held = tt

-- An image was written over these contents, good or refused: its calls, how it ended, and what a cut leaves from this moment on.
pub image_driven : {M : Type 0} {state : M → State} {first now : NewImage} {began had : List ℕ} {m n : M}
    {result : Result (Unit {0}) MediumFault} (P : Image → Type 0) (count since : ℕ) (under : Under)
    → Driven {M = M} {S = NewImage} {V = ImageView M} state (λ s size. (s.plan.end ≤ size) × IsLive s.stage)
    (λ s had m view. HoldsImage state s.stage s.plan view m)
    (λ view image. MayBeImage view.plan view.under (state view.start) image) (λ s. 0) (λ s. s.plan.end)
    (λ s. image_left s.stage s.plan.end) (Unit {0}) first began m result now had n
    → OnOk result ((image_left now.stage now.plan.end ≡ none)
    × Tallied (Unit {0}) (image_left first.stage first.plan.end) none result (state m) (state n))
    → first.plan.end ≤ (state m).size → IsLive first.stage → first.stage ≢ stage.Made
    → (image_left first.stage first.plan.end).reads ≡ 0
    → Shows (HasImage first.plan under first.stage) (MidwayImage first.plan under first.stage (state m)) (state m)
    → of_all (image_left first.stage first.plan.end) ≡ count → (state m).calls ≤ since
    → (state m).calls + count ≡ since + (first.plan.end + 3) → ((image : Image) → MayBeImage first.plan under (state m) image → P image)
    → Writes P first.plan.end count (state m) (state n) result
    × OnOk result (IsNew first.plan under (state n).content × IsFlushed (state n)
    × AreMade state (calls_ahead first.stage first.plan.end) m n)
    × (since + 1 ≤ (state n).calls → (image : Image) → (state n).left_since since image → IsPartOrNew first.plan under image)
image_driven {first = first} {m = m} {result = result} P count since under drove done fits live begins no_read shows counts later
    counted may =
    let run = drove.runs
    (record { start = m; plan = first.plan; under = under; since = since; calls = calls_ahead first.stage first.plan.end })
    (grind (arith, shows, begins, counted, counts, later)) in
    let exact = on_ok_weaker result (λ end. calls_all end.1 tt refl) done in
    let most = calls_most drove.tallied in
    let sends = sends_most drove.tallied in
    let none = none_read drove.tallied no_read drove.looks in
    let refused = refused_call result drove.tallied in (
      search (rules, arith, weaker _ P _ _ may run.0, drove.spares, counts, exact, most, sends, none, refused),
      on_ok_weaker result (λ is. (rw run.1.plan_is is.0, is.1, is.2))
          (image_ended result (on_ok_weaker result (λ on. (on.0.fits_still _ (fits, live)).1) drove.on)
          (on_ok_weaker result (λ end. end.0) done) run.1),
      rw run.1.plan_is run.1.after_flush,
    )
