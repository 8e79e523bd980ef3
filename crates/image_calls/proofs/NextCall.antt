-- From one call of the device to the next.
use Rattle.std.proofs.Common.{◌≡◌, ◌⊎◌, inl, inr, ◌<◌, ◌≤◌, ℕ, List, Option, Some, None, length, sym, ◌∙◌, ap, subst, arith}
use Rattle.medium.specs.{Medium.{State, Image, IsSound}, Moments.{IsUnchanged, IsFlushed}}
use Rattle.medium.proofs.{Moments.then_unchanged, SparedSectors.{spared_joined, spared_unchanged}}
use Rattle.logical_blocks.specs.Blocks.{Array}
use Rattle.window.specs.{Window.{Window, state_of, ComesAfter, CoversDevice}, WindowLaws.{is_sound, comes_after_through}}
use Rattle.journal.specs.{Places.{Shape, sectors_of, first_home}, Sectors.{IsSuper, IsHead}, Standing.IsOurs, Record.home_of}
use Rattle.recovery.specs.Calls.{ImageLeaves, IsMidway}
use Rattle.image_calls.specs.{Parts.{IsClearing, IsMadeAnew, IsLaidAnew, IsOnWay, KeepsOnWay, FailsOnWay, SendsPart}, Images.WaitFor}
use Rattle.image_calls.specs.{Formats.{IsMaking, MakesParts, most_of_part}, declared.work.Work.Work, declared.plan.Plan.Plan}
use Rattle.image_calls.specs.{declared.plan.Aim.Aim}
use Rattle.image_calls.proofs.{Laid.none_refused, OnWay.BLANK}
use Rattle.image_calls.specs.declared.plan.Aim.TheVariants as aim
use Rattle.image_calls.specs.declared.plan.Plan.TheVariants as part

-- ---- a call that leaves what waits is no call of a medium

module _ (shape : Shape) (first now new : State) (sound : IsSound now) (same : IsUnchanged now new) (looked : new.looked ≡ now.looked) where
  leaves_on : (array : Array) (end : ℕ) → ImageLeaves shape array end first now → ImageLeaves shape array end first new
  leaves_on array end leaves = record {
    cuts = then_unchanged (IsMidway shape array first) first now new leaves.cuts same;
    after_flush = λ many image left. leaves.after_flush (omega (arith, many, same.calls_stay)) image (same.left_shrinks _ image left);
    spares = spared_joined end first now new leaves.spares (spared_unchanged end now new sound same);
    looked_stays = looked ∙ leaves.looked_stays;
  }

  clearing_on : (array : Array) (from end at : ℕ) → IsClearing shape array from end at first now
      → IsClearing shape array from end at first new
  clearing_on array from end at under = record {
    sizes = under.sizes;
    leaves = leaves_on array end under.leaves;
    from_there = under.from_there;
    calls = omega (arith, under.calls, same.calls_stay);
    gone = λ c left. under.gone c (same.sets_shrink 0 c left);
    since = λ image left. under.since image (same.left_shrinks _ image left);
    zeros = λ x low high. same.content_stays x ∙ under.zeros x low high;
  }

  content_is : new.content ≡ now.content
  content_is i s = same.content_stays s i

  flushed_on : IsFlushed now → IsFlushed new
  flushed_on was s c left = was s c (same.sets_shrink s c left) ∙ sym (same.content_stays s)

  ours_on : (array : Array) → IsOurs now.size shape now.content array 2 → IsOurs new.size shape new.content array 2
  ours_on array ours = subst (λ (n : ℕ). IsOurs n shape new.content array 2) (sym same.size_stays)
      (subst (λ (c : Image). IsOurs now.size shape c array 2) (sym content_is) ours)

  made_on : IsMadeAnew shape first now → IsMadeAnew shape first new
  made_on made = let was = made.formatted in record {
    formatted = record {
      flushed = flushed_on was.flushed;
      super = subst (λ (b : List ℕ). IsSuper shape b) (sym (same.content_stays 0)) was.super;
      head = subst (λ (b : List ℕ). IsHead 1 b) (sym (same.content_stays 1)) was.head;
      zeros = λ x low high. same.content_stays x ∙ was.zeros x low high;
      ours = ours_on BLANK was.ours;
    };
    leaves = leaves_on BLANK (sectors_of shape) made.leaves;
    calls = omega (arith, made.calls, same.calls_stay);
  }

  laid_on : IsLaidAnew shape first now → IsLaidAnew shape first new
  laid_on anew = let was = anew.laid in record {
    laid = record {
      flushed = flushed_on was.flushed;
      written = record {
        super = subst (λ (b : List ℕ). IsSuper shape b) (sym (same.content_stays 0)) was.super;
        head = subst (λ (b : List ℕ). IsHead 1 b) (sym (same.content_stays 1)) was.head;
        zeros = λ x low high. same.content_stays x ∙ was.zeros x low high;
        behind = λ x far. same.content_stays x ∙ was.behind x far;
      };
      ours = ours_on (home_of shape first.content) was.ours;
    };
    leaves = leaves_on (home_of shape first.content) (first_home shape) anew.leaves;
    calls = omega (arith, anew.calls, same.calls_stay);
  }

pub on_way_on : (what : Aim) (shape : Shape) (first now new : Window) → IsUnchanged (state_of now) (state_of new)
    → (state_of new).looked ≡ (state_of now).looked → (left : Option Plan) → IsOnWay state_of what shape left first now
    → IsOnWay state_of what shape left first new
on_way_on aim.Format shape first now new same looked (Some (part.Home plan)) (is, under) = (
  is,
  clearing_on shape (state_of first)
      (state_of now) (state_of new) (is_sound now) same looked BLANK (first_home shape) (sectors_of shape) plan.at under,
)
on_way_on aim.Format shape first now new same looked (Some (part.Log plan)) (mid, under, is, laying) = (
  mid,
  under,
  is,
  clearing_on shape
      (state_of mid) (state_of now) (state_of new) (is_sound now) same looked (home_of shape (state_of mid).content) 1 (first_home shape)
      plan.at laying,
)
on_way_on aim.Format shape first now new same looked None made =
    made_on shape (state_of first) (state_of now) (state_of new) (is_sound now) same looked made
on_way_on aim.Laying shape first now new same looked (Some (part.Home plan)) way = absurd way
on_way_on aim.Laying shape first now new same looked (Some (part.Log plan)) (is, laying) = (
  is,
  clearing_on shape (state_of first)
      (state_of now) (state_of new) (is_sound now) same looked (home_of shape (state_of first).content) 1 (first_home shape) plan.at laying,
)
on_way_on aim.Laying shape first now new same looked None anew =
    laid_on shape (state_of first) (state_of now) (state_of new) (is_sound now) same looked anew

-- ---- the parts

module _ (old mid : Work) (follows : ComesAfter old.medium mid.medium)
    (keeps : (what : Aim) (shape : Shape) (first : Window) → IsMaking what shape first old → IsMaking what shape first mid)
    (stays : (0 < length old.medium.outbox) ⊎ (old.left ≡ None) → mid ≡ old)
    (device : (new : Window) → ComesAfter old.medium new → CoversDevice old.medium new) where
  waits : (new : Window) → ComesAfter mid.medium new → WaitFor old.medium new
  waits new later = let all = comes_after_through old.medium mid.medium new follows later in
      record { follows = all; covers = device new all }

  -- where calls wait, or nothing is left
  pub rests : (0 < length mid.medium.outbox) ⊎ (mid.left ≡ None) → MakesParts old mid
  rests ends = record {
    waits = record { follows = follows; covers = device mid.medium follows };
    keeps = keeps;
    ends = λ what shape first making. ends;
    stays = stays;
  }

  module _ (plan : Plan) (some : mid.left ≡ Some plan) (nothing : length mid.medium.outbox ≡ 0) (new : Window)
      (later : ComesAfter mid.medium new)
      (few : SendsPart most_of_part (state_of mid.medium) (state_of new)) where
    was : (what : Aim) (shape : Shape) (first : Window) → IsMaking what shape first old
        → IsOnWay state_of what shape (Some plan) first mid.medium × (most_of_part ≤ mid.medium.room)
    was what shape first making = let now = keeps what shape first making in
        (subst (λ (l : Option Plan). IsOnWay state_of what shape l first mid.medium) some now.on_way, now.room)

    -- something was to do
    busy : (0 < length old.medium.outbox) ⊎ (old.left ≡ None) → ⊥
    busy (inl waiting) = omega (arith, waiting, nothing, ap (λ (w : Work). length w.medium.outbox) (stays (inl waiting)))
    busy (inr none) = cc (some, none, ap (λ (w : Work). w.left) (stays (inr none)))

    -- a part was made
    pub keeps_part : (left : Option Plan) → KeepsOnWay state_of plan left mid.medium new → (what : Aim) (shape : Shape) (first : Window)
        → IsMaking what shape first old → IsMaking what shape first (record { medium = new; left = left })
    keeps_part left goes what shape first making = let before = was what shape first making in
        record { on_way = goes what shape first before.0; room = omega (arith, before.1, later.room_stays) }

    pub follows_part : ComesAfter old.medium new
    follows_part = comes_after_through old.medium mid.medium new follows later

    pub stays_part : (is : Work) → (0 < length old.medium.outbox) ⊎ (old.left ≡ None) → is ≡ old
    stays_part is either = absurd (busy either)

    -- none is refused
    none : FailsOnWay state_of plan mid.medium new → (what : Aim) (shape : Shape) (first : Window) → IsMaking what shape first old → ⊥
    none fails what shape first making =
        let before = was what shape first making in
        none_refused mid.medium new later (omega (arith, nothing, few.1, before.1)) few.0 (fails what shape first before.0)

    pub fails_part : (is : Work) → is.medium ≡ new → FailsOnWay state_of plan mid.medium new → MakesParts old is
    fails_part is same fails = record {
      waits = subst (λ (w : Window). WaitFor old.medium w) (sym same) (waits new later);
      keeps = λ what shape first making. absurd (none fails what shape first making);
      ends = λ what shape first making. absurd (none fails what shape first making);
      stays = stays_part is;
    }
