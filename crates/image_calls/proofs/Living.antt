-- What a loss of power leaves, whatever calls come.
use Rattle.std.proofs.Common.{◌≡◌, [], ◌∷◌, ℕ, List, inl, inr, refl, sym, ◌∙◌, ap, subst, length, arith, length-append}
use Rattle.std.specs.Prelude.{Bool, true, false, Option, Some, None}
use Rattle.medium.specs.{Medium.{Image, State}, Moments.IsFlushed}
use Rattle.window.specs.{OutboxMedium.sent, declared.call.DeviceCall.DeviceCall, Window.Window}
use Rattle.logical_blocks.specs.Blocks.{Array}
use Rattle.journal.specs.{Places.{Shape, first_home, sectors_of}, Record.home_of, Standing.IsOurs}
use Rattle.recovery.specs.{Calls.ImageLeaves, Recovered.IsMigrationBy, declared.recovered.Recovered.Recovered}
use Rattle.image_calls.specs.{Formats.{BeginsMaking, BeginsFormat, BeginsLog, IsMaking, MakesParts}, Images.{IsMigratedOn, IsFinished}}
use Rattle.image_calls.specs.Lives.{Call, IsMade, AreMade, LeavesImage, LeavesMigrated, LeavesThroughout, HasWork, LeavesAll}
use Rattle.image_calls.specs.Lives.Call.{next, done}
use Rattle.image_calls.specs.Machines.{Machine, MayLeave, LeavesAtRest, Begins, GoesOn, CarriesOut, state_of, state_by, state_at_rest}
use Rattle.image_calls.specs.{Machines.{AsksBy, carried, under_way}, Parts.{IsMadeAnew, IsLaidAnew, IsOnWay}, declared.work.Work.Work}
use Rattle.image_calls.specs.{declared.image_asked.ImageAsked.ImageAsked, declared.plan.Plan.Plan, declared.plan.Aim.Aim}
use Rattle.image_calls.proofs.{OnWay.{BLANK, laying_leaves}, Taken.some_go}
use Rattle.store_calls.proofs.CarriedOut.{all_carried, all_left}
use Rattle.window.specs.Window as window
use Rattle.window.specs.declared.ask.DeviceAsk.TheVariants as ask
use Rattle.image_calls.specs.declared.image_asked.ImageAsked.TheVariants as asked
use Rattle.image_calls.specs.declared.state.ImageState.TheVariants as state
use Rattle.image_calls.specs.declared.plan.Aim.TheVariants as aim
use Rattle.image_calls.specs.declared.plan.Plan.TheVariants as part

-- ---- call after call

through : (a b c : Machine) → GoesOn a b → GoesOn b c → GoesOn a c
through a b c f g = record {
  makes = λ what shape first is. g.makes what shape first (f.makes what shape first is);
  carries = λ first is. g.carries first (f.carries first is);
  since = λ first is. g.since first (f.since first is);
  rest = g.rest;
}

goes_by : (call : Call) (old new : Machine) → IsMade call old new → GoesOn old new
goes_by (next room) old new made = made.3
goes_by (done ok) old new made = made.2

throughout : (calls : List Call) (old new : Machine) → AreMade calls old new → LeavesAtRest old → GoesOn old new
throughout [] old new same rest = subst (λ (s : Machine). GoesOn old s) (sym same)
    (record { makes = λ what shape first is. is; carries = λ first is. is; since = λ first is. is; rest = rest })
throughout (call ∷ calls) old new (mid, made, others) rest =
    let first = goes_by call old mid made in
    through old mid new first (throughout calls mid new others first.rest)

-- ---- what is done

rest_is : (calls : List DeviceCall) (left : Option Plan) → state_at_rest calls left ≡ state.Done → (calls ≡ []) × (left ≡ None)
rest_is [] None is = (refl, refl)
rest_is [] (Some plan) is = absurd (cc is)
rest_is (call ∷ calls) left is = absurd (cc is)

done_is : (a : ImageAsked) (work : Work) → state_by a work ≡ state.Done
    → (a ≡ asked.Nothing) × (work.medium.outbox ≡ []) × (work.left ≡ None)
done_is asked.Nothing work is = let rest = rest_is work.medium.outbox work.left is in (refl, rest.0, rest.1)
done_is (asked.Calls call count) work is = absurd (cc is)
done_is (asked.Refused call count) work is = absurd (cc is)

-- the image is what the medium holds
same_image : (m : State) (image : Image) → IsFlushed m → ((s : ℕ) → m.may_leave s (image s)) → m.content ≡ image
same_image m image flushed cut i s = sym (flushed s (image s) (cut s)) i

-- ---- an image that is made in parts

-- for which array, and which sectors from one on are spared
abbrev array_by : Aim → Shape → State → Array
array_by aim.Format shape first = BLANK
array_by aim.Laying shape first = home_of shape first.content

abbrev end_by : Aim → Shape → ℕ
end_by aim.Format shape = sectors_of shape
end_by aim.Laying shape = first_home shape

leaves_of : (what : Aim) (shape : Shape) (left : Option Plan) (first now : Window) → IsOnWay window.state_of what shape left first now
    → ImageLeaves shape (array_by what shape (window.state_of first)) (end_by what shape) (window.state_of first) (window.state_of now)
leaves_of aim.Format shape (Some (part.Home plan)) first now under = under.1.leaves
leaves_of aim.Format shape (Some (part.Log plan)) first now (mid, under, is, laying) =
    laying_leaves shape (window.state_of first) (window.state_of mid) (window.state_of now) under laying.leaves
leaves_of aim.Format shape None first now made = made.leaves
leaves_of aim.Laying shape (Some (part.Home plan)) first now way = absurd way
leaves_of aim.Laying shape (Some (part.Log plan)) first now (is, laying) = laying.leaves
leaves_of aim.Laying shape None first now anew = anew.leaves

-- it is made
ours_of : (what : Aim) (shape : Shape) (first now : Window) → IsOnWay window.state_of what shape None first now
    → IsFlushed (window.state_of now)
    × IsOurs (window.state_of now).size shape (window.state_of now).content (array_by what shape (window.state_of first)) 2
ours_of aim.Format shape first now made = (made.formatted.flushed, made.formatted.ours)
ours_of aim.Laying shape first now anew = (anew.laid.flushed, anew.laid.ours)

module _ (what : Aim) (shape : Shape) (first : Window) (calls : List Call) (old new : Machine)
    (begins : Begins (BeginsMaking what shape first) first old) (made : AreMade calls old new) where
  abbrev array : Array
  array = array_by what shape (window.state_of first)

  goes : GoesOn old new
  goes = throughout calls old new made begins.rest

  making : IsMaking what shape first new.work
  making = goes.makes what shape first begins.work.making

  leaves : ImageLeaves shape array (end_by what shape) (window.state_of first) (window.state_of new.work.medium)
  leaves = leaves_of what shape new.work.left first new.work.medium making.on_way

  made_anew : state_of new ≡ state.Done → IsOnWay window.state_of what shape None first new.work.medium
  made_anew is = subst (λ (l : Option Plan). IsOnWay window.state_of what shape l first new.work.medium)
      (done_is new.asked new.work is).2 making.on_way

  new_alone : state_of new ≡ state.Done → (image : Image) → MayLeave new image → IsOurs (window.state_of first).size shape image array 2
  new_alone is image left =
      let ours = ours_of what shape first new.work.medium (made_anew is) in
      let all = done_is new.asked new.work is in
      let same = same_image (window.state_of new.work.medium) image ours.0 (goes.rest all.0 all.1 image left) in
      subst (λ (n : ℕ). IsOurs n shape image array 2) leaves.cuts.size_stays
      (subst (λ (c : Image). IsOurs (window.state_of new.work.medium).size shape c array 2) same ours.1)

  image_leaves : LeavesImage shape array first new
  image_leaves = record {
    midway = λ image left. leaves.cuts.each image ((goes.since first begins.since).left image left);
    done = new_alone;
  }

format_leaves : (shape : Shape) (first : Window) (calls : List Call) (old new : Machine) → Begins (BeginsFormat shape first) first old
    → AreMade calls old new → LeavesImage shape BLANK first new
    × (state_of new ≡ state.Done → IsMadeAnew shape (window.state_of first) (window.state_of new.work.medium))
format_leaves shape first calls old new begins made =
    (image_leaves aim.Format shape first calls old new begins made, made_anew aim.Format shape first calls old new begins made)

log_leaves : (shape : Shape) (first : Window) (calls : List Call) (old new : Machine) → Begins (BeginsLog shape first) first old
    → AreMade calls old new → LeavesImage shape (home_of shape (window.state_of first).content) first new
    × (state_of new ≡ state.Done → IsLaidAnew shape (window.state_of first) (window.state_of new.work.medium))
log_leaves shape first calls old new begins made =
    (image_leaves aim.Laying shape first calls old new begins made, made_anew aim.Laying shape first calls old new begins made)

-- ---- all that is to do waits

module _ (Is : Window → Type 0) (first : Window) (calls : List Call) (old new : Machine) (begins : Begins (IsFinished Is) first old)
    (made : AreMade calls old new) where
  whole_goes : GoesOn old new
  whole_goes = throughout calls old new made begins.rest

  out : CarriesOut old.work.medium new
  out = whole_goes.carries old.work.medium (begins.work.1, (0, refl))

  -- what a cut of the medium since the first moment could leave
  whole_since : (image : Image) → MayLeave new image → (window.state_of old.work.medium).left_since (window.state_of first).calls image
  whole_since image left = (some_go out.1.0 old.work.medium).same.left_shrinks (window.state_of first).calls image
      (subst (λ (w : Window). (window.state_of w).left_since (window.state_of first).calls image) out.1.1
      ((whole_goes.since first begins.since).left image left))

  whole_done : IsFlushed (window.state_of old.work.medium) → state_of new ≡ state.Done → (image : Image) → MayLeave new image
      → (window.state_of old.work.medium).content ≡ image
  whole_done flushed is image left =
      let all = done_is new.asked new.work is in
      same_image (window.state_of old.work.medium) image flushed (λ s. (some_go out.1.0 old.work.medium).same.sets_shrink s (image s)
      (subst (λ (w : Window). (window.state_of w).may_leave s (image s)) out.1.1 (whole_goes.rest all.0 all.1 image left s)))

migrated_flushed : (was_one : Bool) (old new : State) (answer : Recovered) → IsMigrationBy was_one old new answer → IsFlushed new
migrated_flushed true old new answer is = is.made.flushed
migrated_flushed false old new answer is = is.1.flushed

migration_leaves : (first : Window) (calls : List Call) (old new : Machine) → Begins (IsFinished (IsMigratedOn first)) first old
    → AreMade calls old new → LeavesMigrated first old.work.medium new
migration_leaves first calls old new begins made = let work = begins.work.0 in record {
  midway = λ ours image left. (work.leaves.cuts ours).each image
      (whole_since (IsMigratedOn first) first calls old new begins made image left);
  done = λ is image left x i. sym (whole_done (IsMigratedOn first) first calls old new begins made
      (migrated_flushed work.was_one (window.state_of first) (window.state_of old.work.medium) work.answer work.migrated) is image left)
      i x;
}

-- ---- the end of it

-- none waits, and none is under way
all_told : (s : Machine) → state_of s ≡ state.Done → carried s ≡ length (sent (window.mirror_of s.work.medium))
all_told s is = let all = done_is s.asked s.work is in omega (
  arith,
  ap (λ (a : ImageAsked). under_way a) all.0,
  ap (λ (l : List DeviceCall). length l) all.1,
  length-append s.work.medium.seen.told.taken s.work.medium.outbox,
)

none_left : (old : Machine) (mid : Work) → HasWork old → MakesParts old.work mid → mid.medium.outbox ≡ [] → mid.left ≡ None
none_left old mid (inl (what, shape, first, making)) made empty = elim (made.ends what shape first making) [
  | inl some ↦ absurd (omega (arith, some, ap (λ (l : List DeviceCall). length l) empty))
  | inr none ↦ none
]
none_left old mid (inr none) made empty = ap (λ (w : Work). w.left) (made.stays (inr none)) ∙ none

ends_by : (a : ImageAsked) (old new : Machine) (room filled : List ℕ) → a ≡ asked.Nothing → HasWork old
    → AsksBy a old room ask.Nothing new filled → state_of new ≡ state.Done
ends_by asked.Nothing old new room filled is work (mid, made, (empty, same, _)) =
    ap (λ (s : Machine). state_of s) same ∙ (λ i. state_at_rest (empty i) (none_left old mid work made empty i))
ends_by (asked.Calls call count) old new room filled is work asks = absurd (cc is)
ends_by (asked.Refused call count) old new room filled is work asks = absurd (cc is)

pub leaves_throughout : LeavesThroughout
leaves_throughout = record {
  formats = format_leaves;
  logs = log_leaves;
  migrations = migration_leaves;
  all = all_told;
  ends = λ old new. ends_by old.asked old new;
}

pub leaves_all : LeavesAll
leaves_all s few = let calls : List DeviceCall = sent (window.mirror_of s.work.medium) in record {
  count = length calls;
  done = calls;
  reaches = few;
  are = all_carried calls;
  cut = all_left s.work.medium.seen.told.opening calls;
}
