-- From one part of an image that is made to the next.
use Rattle.std.proofs.Common.{◌≡◌, ◌≢◌, inl, inr, ⊎_elim, ℕ, ◌+◌, ◌-◌, ◌<◌, ◌≤◌, List, refl, sym, ◌∙◌, subst, arith, rules}
use Rattle.std.proofs.{lemmas.Bool.cases_lt}
use Rattle.std.specs.{Prelude.replicate}
use Rattle.medium.specs.{Medium.{State, Image, CutLeaves, Holds, IsSound}, Moments.{IsFlushed, LeavesOnly, StaysWithin, SparesFrom}}
use Rattle.logical_blocks.specs.Blocks.{Array}
use Rattle.medium.proofs.{Moments.{weaker, joined_same}, SparedSectors.{HasSpared, spared_joined}}
use Rattle.journal.specs.{Places.{Shape, first_home, sectors_of}, Record.home_of, Standing.IsOurs, Sectors.{IsSuper, IsHead}}
use Rattle.journal.specs.{Formats.shape_of, declared.super_sector.Super.Super}
use Rattle.recovery.specs.Calls.{cleared_at, WithOrWithout, IsBetween, FormatLeaves, AreSizes, IsNoneOrNew, IsMidway, ImageLeaves}
use Rattle.recovery.specs.{Calls.LayingLeaves}
use Rattle.recovery.proofs.JoinedCalls.{sets_within, through_spares, clear_spares, zeros_ours}
use Rattle.image_calls.specs.Parts.{IsClearing, IsUnderWay, IsLaying, IsMadeAnew, IsLaidAnew}

abbrev ZEROS : List ℕ
ZEROS = replicate 512 0

abbrev pub BLANK : Array
BLANK b = replicate 512 0

-- sizes for which there is room
pub sized : (sizes : Super) (size : ℕ) → sizes.home + sizes.blocks ≤ size → AreSizes size (shape_of sizes)
sized sizes size fits = record {
  some_blocks = sizes.some_blocks;
  most_blocks = sizes.most_blocks;
  some_slots = sizes.some_slots;
  most_slots = sizes.most_slots;
  home_is = sizes.home_is;
  fits = fits;
}

-- the super is being cleared
first_leaves : (shape : Shape) (array : Array) (end : ℕ) (old first : State) → 2 ≤ end → (zeros : List ℕ) → zeros ≡ replicate 512 0
    → IsSound first → ((x : ℕ) → x ≢ 0 → first.content x ≡ old.content x) → LeavesOnly (WithOrWithout 0 zeros old.may_leave) old first
    → first.calls ≤ old.calls + 2 → first.looked ≡ old.looked → ImageLeaves shape array end old first
first_leaves shape array end old first some zeros are sound elsewhere moments few looked = search (
  rules,
  weaker _ (IsMidway shape array old) _ _ (λ image either. ⊎_elim inl (λ w. inr (inl (w.2.here ∙ are))) either) moments,
  through_spares end 0 zeros old first (omega (arith, some)) sound elsewhere moments,
)

-- the super was taken away
pub begun : (shape : Shape) (array : Array) (from end : ℕ) (old new : State) → AreSizes old.size shape → 2 ≤ end
    → IsSound new → Holds 0 ZEROS old.content new.content → IsFlushed new → ((x : ℕ) → x ≢ 0 → new.content x ≡ old.content x)
    → LeavesOnly (WithOrWithout 0 ZEROS old.may_leave) old new → new.calls ≡ old.calls + 2 → new.looked ≡ old.looked
    → IsClearing shape array from end from old new
begun shape array from end old new sizes some sound holds flushed elsewhere moments counted looked = record {
  sizes = sizes;
  leaves = first_leaves shape array end old new some ZEROS refl sound elsewhere moments (omega (arith, counted)) looked;
  from_there = omega arith;
  calls = omega (arith, counted);
  gone = λ c left. flushed 0 c left ∙ holds.here;
  since = λ image left. flushed 0 (image 0)
      (sound.only_now image (subst (λ (t : ℕ). new.left_since t image) (sym counted) left) 0) ∙ holds.here;
  zeros = λ x low high. absurd (omega (arith, low, high));
}

-- sectors behind those that are spared are spared
further : (near far : ℕ) (old new : State) → near ≤ far → SparesFrom near old new → SparesFrom far old new
further near far old new le spares = record {
  content = λ s past. spares.content s (omega (arith, le, past));
  sets = λ s c past left. spares.sets s c (omega (arith, le, past)) left;
  moments = weaker (HasSpared near old) (HasSpared far old) old new (λ image spared s past. spared s (omega (arith, le, past)))
      spares.moments;
}

-- what follows a moment without a super, at each of whose moments there is none, or the new image
module _ (shape : Shape) (array : Array) (from end at : ℕ) (first mid new : State) (under : IsClearing shape array from end at first mid)
    (later : LeavesOnly (IsNoneOrNew first.size shape array) mid new) (spares : SparesFrom end mid new)
    (looked : new.looked ≡ mid.looked) where
  since_then : (image : Image) → new.left_since (first.calls + 2) image → IsNoneOrNew first.size shape array image
  since_then image left = ⊎_elim (λ was. inl (under.since image was)) (λ is. is)
      (later.before (first.calls + 2) image (omega (arith, under.calls, under.from_there)) left)

  pub goes_on : ImageLeaves shape array end first new
  goes_on = record {
    cuts = joined_same (IsMidway shape array first) first mid new under.leaves.cuts
        (weaker (IsNoneOrNew first.size shape array) (IsMidway shape array first) mid new (λ image is. inr is) later);
    after_flush = λ many image left. since_then image left;
    spares = spared_joined end first mid new under.leaves.spares spares;
    looked_stays = looked ∙ under.leaves.looked_stays;
  }

-- ---- sectors are cleared up to another

module _ (shape : Shape) (array : Array) (from end at to : ℕ) (first mid new : State) (under : IsClearing shape array from end at first mid)
    (sound : IsSound new) (some : 1 ≤ from) (low : at ≤ to) (high : to ≤ end)
    (zeros : (x : ℕ) → at ≤ x → x < to → new.content x ≡ ZEROS)
    (elsewhere : (x : ℕ) → ¬ IsBetween at to x → new.content x ≡ mid.content x)
    (within : StaysWithin (cleared_at (IsBetween at to) mid.may_leave) mid new) where
  none : (image : Image) → CutLeaves (cleared_at (IsBetween at to) mid.may_leave) image → image 0 ≡ ZEROS
  none image cut = ⊎_elim (λ was. under.gone (image 0) was)
      (λ cleared. absurd (omega (arith, cleared.0.0, some, under.from_there))) (cut 0)

  pub cleared : new.calls ≡ mid.calls + (to - at) → new.looked ≡ mid.looked → IsClearing shape array from end to first new
  cleared counted looked = record {
    sizes = under.sizes;
    leaves = goes_on shape array from end at first mid new under
        (weaker (CutLeaves (cleared_at (IsBetween at to) mid.may_leave)) (IsNoneOrNew first.size shape array) mid new
        (λ image cut. inl (none image cut)) within)
        (further to end mid new high (clear_spares at to mid new sound elsewhere within)) looked;
    from_there = omega (arith, under.from_there, low);
    calls = omega (arith, under.calls, counted, low);
    gone = λ c left. ⊎_elim (λ was. under.gone c was) (λ cleared. cleared.1)
        (sets_within (cleared_at (IsBetween at to) mid.may_leave) mid new sound within 0 c left);
    since = λ image left. ⊎_elim (λ was. under.since image was) (λ cut. none image cut)
        (within.before (first.calls + 2) image (omega (arith, under.calls, under.from_there)) left);
    zeros = λ x above below. elim (cases_lt x at) [
      | inl before ↦ elsewhere x (λ between. omega (arith, between.0, before)) ∙ under.zeros x above before
      | inr here ↦ zeros x here below
    ];
  }

-- ---- the log is cleared: head and super come behind it

module _ (shape : Shape) (first mid headed new : State) (under : IsLaying shape (first_home shape) first mid) (head super : List ℕ)
    (was_sound : IsSound mid) (mid_sound : IsSound headed) (sound : IsSound new)
    (is_head : IsHead 1 head) (is_super : IsSuper shape super)
    (put_head : Holds 1 head mid.content headed.content) (head_flushed : IsFlushed headed)
    (head_moments : LeavesOnly (WithOrWithout 1 head mid.may_leave) mid headed)
    (put_super : Holds 0 super headed.content new.content) (flushed : IsFlushed new)
    (super_moments : LeavesOnly (WithOrWithout 0 super headed.may_leave) headed new) where
  abbrev around : Array
  around = home_of shape first.content

  log : 2 ≤ first_home shape
  log = omega (arith, under.sizes.home_is.0)

  size_is : new.size ≡ first.size
  size_is = super_moments.size_stays ∙ head_moments.size_stays ∙ under.leaves.cuts.size_stays

  -- the contents at the end
  zeros : (x : ℕ) → 2 ≤ x → x < first_home shape → new.content x ≡ ZEROS
  zeros x low high = put_super.elsewhere x (λ is. omega (arith, is, low)) ∙ put_head.elsewhere x (λ is. omega (arith, is, low))
      ∙ under.zeros x (omega (arith, low)) high

  behind : (x : ℕ) → first_home shape ≤ x → new.content x ≡ first.content x
  behind x far = put_super.elsewhere x (λ is. omega (arith, is, far, log)) ∙ put_head.elsewhere x (λ is. omega (arith, is, far, log))
      ∙ under.leaves.spares.content x far

  head_is : new.content 1 ≡ head
  head_is = put_super.elsewhere 1 (λ is. omega (arith, is)) ∙ put_head.here

  -- an image as the contents is ours
  ours_as : (size : ℕ) (image : Image) → sectors_of shape ≤ size → ((x : ℕ) → image x ≡ new.content x)
      → IsOurs size shape image around 2
  ours_as size image fits same = zeros_ours size shape around image fits
      (subst (λ (b : List ℕ). IsSuper shape b) (sym (same 0 ∙ put_super.here)) is_super)
      (subst (λ (b : List ℕ). IsHead 1 b) (sym (same 1 ∙ head_is)) is_head)
      (λ x low high. same x ∙ zeros x low high)
      (λ b below. same (first_home shape + b) ∙ behind (first_home shape + b) (omega arith))

  none_first : (image : Image) → WithOrWithout 1 head mid.may_leave image → image 0 ≡ ZEROS
  none_first image (inl cut) = under.gone (image 0) (cut 0)
  none_first image (inr (before, cut, holds)) = holds.elsewhere 0 (λ is. omega (arith, is)) ∙ under.gone (before 0) (cut 0)

  no_super : headed.content 0 ≡ ZEROS
  no_super = put_head.elsewhere 0 (λ is. omega (arith, is)) ∙ under.gone (mid.content 0) (was_sound.holds_content 0)

  -- with the super in its place a cut of what was flushed is the new image
  written : (image before : Image) → CutLeaves headed.may_leave before → Holds 0 super before image → (x : ℕ) → image x ≡ new.content x
  written image before cut holds x = elim (cases_lt 0 x) [
    | inl other ↦ holds.elsewhere x (λ is. omega (arith, is, other)) ∙ head_flushed x (before x) (cut x)
        ∙ sym (put_super.elsewhere x (λ is. omega (arith, is, other)))
    | inr zero ↦ let is : x ≡ 0 = omega (arith, zero) in
        subst (λ (n : ℕ). image n ≡ new.content n) (sym is) (holds.here ∙ sym put_super.here)
  ]

  none_or_new : (image : Image) → WithOrWithout 0 super headed.may_leave image → IsNoneOrNew first.size shape around image
  none_or_new image (inl cut) = inl (head_flushed 0 (image 0) (cut 0) ∙ no_super)
  none_or_new image (inr (before, cut, holds)) =
      inr (ours_as first.size image under.sizes.fits (written image before cut holds))

  later : LeavesOnly (IsNoneOrNew first.size shape around) mid new
  later = joined_same (IsNoneOrNew first.size shape around) mid headed new
      (weaker (WithOrWithout 1 head mid.may_leave) (IsNoneOrNew first.size shape around) mid headed
      (λ image is. inl (none_first image is)) head_moments)
      (weaker (WithOrWithout 0 super headed.may_leave) (IsNoneOrNew first.size shape around) headed new none_or_new super_moments)

  spares : SparesFrom (first_home shape) mid new
  spares = spared_joined (first_home shape) mid headed new
      (through_spares (first_home shape) 1 head mid headed (omega (arith, log)) mid_sound put_head.elsewhere head_moments)
      (through_spares (first_home shape) 0 super headed new (omega (arith, log)) sound put_super.elsewhere super_moments)

  pub laid : new.calls ≡ mid.calls + 4 → new.looked ≡ mid.looked → IsLaidAnew shape first new
  laid counted looked = record {
    laid = record {
      flushed = flushed;
      written = record {
        super = subst (λ (b : List ℕ). IsSuper shape b) (sym put_super.here) is_super;
        head = subst (λ (b : List ℕ). IsHead 1 b) (sym head_is) is_head;
        zeros = zeros;
        behind = behind;
      };
      ours = ours_as new.size new.content (omega (arith, under.sizes.fits, size_is)) (λ x. refl);
    };
    leaves = goes_on shape around 1 (first_home shape) (first_home shape) first mid new under later spares looked;
    calls = omega (arith, under.calls, counted);
  }

-- ---- a log is laid where home was cleared

-- an array that is zeros where there are blocks
blank : (size : ℕ) (shape : Shape) (image : Image) (array : Array) → ((b : ℕ) → b < shape.blocks → array b ≡ ZEROS)
    → IsOurs size shape image array 2 → IsOurs size shape image BLANK 2
blank size shape image array zeros ours =
    let stands = ours.stands in record {
      stands = record {
        fits = stands.fits;
        head = stands.head;
        records = stands.records;
        keeps = record {
          super = stands.keeps.super;
          head_is = stands.keeps.head_is;
          whole = stands.keeps.whole;
          blocks = λ b below. stands.keeps.blocks b below ∙ zeros b below;
        };
        few = stands.few;
        ends = stands.ends;
        next_is = stands.next_is;
      };
      carries = ours.carries;
    }

module _ (shape : Shape) (first mid new : State) (under : IsUnderWay shape (sectors_of shape) first mid) where
  home_zeros : (b : ℕ) → b < shape.blocks → home_of shape mid.content b ≡ ZEROS
  home_zeros b below = under.zeros (first_home shape + b) (omega arith) (omega (arith, below))

  size_same : mid.size ≡ first.size
  size_same = under.leaves.cuts.size_stays

  none_or_blank : (image : Image) → IsMidway shape (home_of shape mid.content) mid image → IsNoneOrNew first.size shape BLANK image
  none_or_blank image (inl cut) = inl (under.gone (image 0) (cut 0))
  none_or_blank image (inr (inl none)) = inl none
  none_or_blank image (inr (inr ours)) = inr (subst (λ (n : ℕ). IsOurs n shape image BLANK 2) size_same
      (blank mid.size shape image (home_of shape mid.content) home_zeros ours))

  -- so is a format, whatever of the laying is done
  pub laying_leaves : LayingLeaves shape mid new → FormatLeaves shape first new
  laying_leaves leaves = goes_on shape BLANK (first_home shape) (sectors_of shape) (sectors_of shape) first mid new under
      (weaker (IsMidway shape (home_of shape mid.content) mid) (IsNoneOrNew first.size shape BLANK) mid new none_or_blank leaves.cuts)
      (further (first_home shape) (sectors_of shape) mid new (omega arith) leaves.spares) leaves.looked_stays

  pub made : IsLaidAnew shape mid new → IsMadeAnew shape first new
  made anew = let laid = anew.laid in record {
    formatted = record {
      flushed = laid.flushed;
      super = laid.super;
      head = laid.head;
      zeros = λ x some below. elim (cases_lt x (first_home shape)) [
        | inl log ↦ laid.zeros x some log
        | inr home ↦ laid.behind x home ∙ under.zeros x home below
      ];
      ours = blank new.size shape new.content (home_of shape mid.content) home_zeros laid.ours;
    };
    leaves = laying_leaves anew.leaves;
    calls = omega (arith, under.calls, anew.calls);
  }
