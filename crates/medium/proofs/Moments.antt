-- How what a cut may leave goes on from call to call.
use Rattle.std.proofs.Common.{◌≡◌, ◌≢◌, ◌⊎◌, ◌≤◌, ℕ, inl, inr, ⊎_elim, arith, ◌∙◌, sym, ap, subst, refl, Result, List}
use Rattle.std.specs.Prelude.{if◌then◌else◌, ◌==◌}
use Rattle.std.proofs.lemmas.Grind.{common_steps}
use Rattle.std.proofs.lemmas.Bool.{cases_eq}
use Rattle.std.proofs.lemmas.Bool.Decides.{nat_tests}
use Rattle.medium.specs.Medium.{State, Image, Sets, CutLeaves, Stays, Holds, Within, Gains, Only, Passes, IsSound}
use Rattle.medium.specs.Moments.{EachCut, LeavesOnly, StaysWithin, IsQuiet, IsUnchanged}
use Rattle.medium.specs.declared.fault.MediumFault.{MediumFault}
use Rattle.medium.specs.declared.fault.MediumFault.TheVariants.{Read, Write, Flush}

is_same : (a b : MediumFault) → (a ≡ b) ⊎ (a ≢ b)
is_same Read Read = inl refl
is_same Read Write = inr (λ e. absurd (cc e))
is_same Read Flush = inr (λ e. absurd (cc e))
is_same Write Read = inr (λ e. absurd (cc e))
is_same Write Write = inl refl
is_same Write Flush = inr (λ e. absurd (cc e))
is_same Flush Read = inr (λ e. absurd (cc e))
is_same Flush Write = inr (λ e. absurd (cc e))
is_same Flush Flush = inl refl

-- no count falls in a call
pub failures_grow : (old new : State) {fault : MediumFault} {result : Result (Unit {0}) MediumFault} → Passes fault result old new
    → old.failures ≤ new.failures
failures_grow old new {fault} {result} call = grind (arith, common_steps, call.failures_are)

-- no count of a kind falls in a call
pub refused_grow : (old new : State) {fault : MediumFault} {result : Result (Unit {0}) MediumFault} → Passes fault result old new
    → (kind : MediumFault) → old.refused kind ≤ new.refused kind
refused_grow old new {fault} {result} call kind = elim (is_same kind fault) [
  | inl same ↦ subst (λ k. old.refused k ≤ new.refused k) (sym same) (grind (arith, common_steps, call.refused_are))
  | inr other ↦ omega (arith, call.others_stay kind other)
]

-- before the first call
pub started : (P : Image → Type 0) (m : State) → IsSound m → EachCut P m → LeavesOnly P m m
started P m sound here = record {
  later = omega arith;
  failures_stay = omega arith;
  refused_stay = λ kind. omega arith;
  size_stays = λ i. m.size;
  each = λ image since. here image (sound.only_now image since);
  before = λ t image le since. inl since;
}

-- one call more, after which a cut leaves what has P
pub goes_on : (P : Image → Type 0) (old mid new : State) {fault : MediumFault} {result : Result (Unit {0}) MediumFault}
    → LeavesOnly P old mid → Passes fault result mid new → EachCut P new → LeavesOnly P old new
goes_on P old mid new {fault} {result} so_far call here = record {
  later = omega (arith, so_far.later, call.calls_are);
  failures_stay = omega (arith, so_far.failures_stay, failures_grow mid new call);
  refused_stay = λ kind. omega (arith, so_far.refused_stay kind, refused_grow mid new call kind);
  size_stays = call.size_stays ∙ so_far.size_stays;
  each = λ image since. ⊎_elim (so_far.each image) (here image) (call.nothing_else old.calls image so_far.later since);
  before = λ t image le since.
      ⊎_elim (so_far.before t image le) (λ now. inr (here image now)) (call.nothing_else t image (omega (arith, le, so_far.later)) since);
}

-- one call, with P before and after it
pub one_call : (P : Image → Type 0) (old new : State) {fault : MediumFault} {result : Result (Unit {0}) MediumFault} → IsSound old
    → Passes fault result old new → EachCut P old → EachCut P new → LeavesOnly P old new
one_call P old new sound call first last = goes_on P old old new (started P old sound first) call last

-- one turn, and then another
pub joined : (P Q : Image → Type 0) (old mid new : State) → LeavesOnly P old mid → LeavesOnly Q mid new
    → LeavesOnly (λ image. P image ⊎ Q image) old new
joined P Q old mid new first second = record {
  later = omega (arith, first.later, second.later);
  failures_stay = omega (arith, first.failures_stay, second.failures_stay);
  refused_stay = λ kind. omega (arith, first.refused_stay kind, second.refused_stay kind);
  size_stays = second.size_stays ∙ first.size_stays;
  each = λ image since. ⊎_elim (λ was. inl (first.each image was)) inr (second.before old.calls image first.later since);
  before = λ t image le since. ⊎_elim (λ was. ⊎_elim inl (λ p. inr (inl p)) (first.before t image le was)) (λ q. inr (inr q))
      (second.before t image (omega (arith, le, first.later)) since);
}

-- what is weaker holds too
pub weaker : (P Q : Image → Type 0) (old new : State) → ((image : Image) → P image → Q image) → LeavesOnly P old new → LeavesOnly Q old new
weaker P Q old new f so = record {
  later = so.later;
  failures_stay = so.failures_stay;
  refused_stay = so.refused_stay;
  size_stays = so.size_stays;
  each = λ image since. f image (so.each image since);
  before = λ t image le since. ⊎_elim inl (λ p. inr (f image p)) (so.before t image le since);
}

-- one turn, and then another that leaves the same
pub joined_same : (P : Image → Type 0) (old mid new : State) → LeavesOnly P old mid → LeavesOnly P mid new → LeavesOnly P old new
joined_same P old mid new first second =
    weaker (λ image. P image ⊎ P image) P old new (λ image either. ⊎_elim (λ p. p) (λ p. p) either) (joined P P old mid new first second)

-- at the exit a cut leaves what has P
pub at_exit : (P : Image → Type 0) (old new : State) → IsSound new → LeavesOnly P old new → EachCut P new
at_exit P old new sound so image now = so.each image (sound.counts_now old.calls image so.later now)

-- what each image has, the content has
pub content_has : (P : Image → Type 0) (m : State) → IsSound m → EachCut P m → P m.content
content_has P m sound each = each m.content sound.holds_content

-- before the first call the sets are within the bound
pub started_within : (bound : Sets) (m : State) → IsSound m → Within m.may_leave bound → StaysWithin bound m m
started_within bound m sound here = started (CutLeaves bound) m sound (λ image cut s. here s (image s) (cut s))

-- one call more, after which the sets are within the bound
pub goes_on_within : (bound : Sets) (old mid new : State) {fault : MediumFault} {result : Result (Unit {0}) MediumFault}
    → StaysWithin bound old mid → Passes fault result mid new → Within new.may_leave bound → StaysWithin bound old new
goes_on_within bound old mid new {fault} {result} so_far call here =
    goes_on (CutLeaves bound) old mid new so_far call (λ image cut s. here s (image s) (cut s))

-- a write keeps the sets within a bound that has its bytes
pub gains_within : (bound sets new : Sets) (s : ℕ) (bytes : List ℕ) → Within sets bound → Gains s bytes sets new
    → ((t : ℕ) (c : List ℕ) → (t ≡ s) × (c ≡ bytes) → bound t c) → Within new bound
gains_within bound sets new s bytes w gains has t c now = ⊎_elim (w t c) (has t c) (gains t c now)

-- what each image has before the sets shrink, each has after
pub shrunk : (P : Image → Type 0) (old new : State) → Within new.may_leave old.may_leave → EachCut P old → EachCut P new
shrunk P old new within each image cut = each image (λ s. within s (image s) (cut s))

-- the image with other bytes in one sector
abbrev pub updated : Image → ℕ → List ℕ → Image
updated image s bytes t = if t == s then bytes else image t

pub updated_here : (image : Image) (s : ℕ) (bytes : List ℕ) (t : ℕ) → t ≡ s → updated image s bytes t ≡ bytes
updated_here image s bytes t is = grind (arith, nat_tests)

pub updated_elsewhere : (image : Image) (s : ℕ) (bytes : List ℕ) (t : ℕ) → t ≢ s → updated image s bytes t ≡ image t
updated_elsewhere image s bytes t not = grind (arith, nat_tests)

-- what a sector holds after a write to one, point by point
pub holds_updated : (old new : Image) (s : ℕ) (bytes : List ℕ) → Holds s bytes old new → (t : ℕ) → new t ≡ updated old s bytes t
holds_updated old new s bytes h t = elim (cases_eq t s) [
  | inl same ↦ ap new same ∙ h.here ∙ sym (updated_here old s bytes t same)
  | inr other ↦ h.elsewhere t other ∙ sym (updated_elsewhere old s bytes t other)
]

module _ (old : State) (sound : IsSound old) (new : Sets) (s : ℕ) (bytes : List ℕ) (gains : Gains s bytes old.may_leave new) (image : Image)
    (cut : CutLeaves new image) where
  was_elsewhere : (t : ℕ) → t ≢ s → old.may_leave t (image t)
  was_elsewhere t not = ⊎_elim (λ was. was) (λ written. absurd (not written.0)) (gains t (image t) (cut t))

  was_before : CutLeaves old.may_leave (updated image s (old.content s))
  was_before t = elim (cases_eq t s) [
    | inl is ↦ subst (old.may_leave t) (ap old.content is ∙ sym (updated_here image s (old.content s) t is)) (sound.holds_content t)
    | inr not ↦ subst (old.may_leave t) (sym (updated_elsewhere image s (old.content s) t not)) (was_elsewhere t not)
  ]

  -- An image allowed after a write was allowed before, or is one that was, with that sector overwritten.
  pub after_write : CutLeaves old.may_leave image ⊎ ((before : Image) × CutLeaves old.may_leave before × Holds s bytes before image)
  after_write =
      ⊎_elim
      (λ was. inl (λ t. elim (cases_eq t s) [
        | inl is ↦ let P : ℕ → Type 0 = λ u. old.may_leave u (image u) in subst P (sym is) was
        | inr not ↦ was_elsewhere t not
      ]))
      (λ written. inr (
        updated image s (old.content s),
        was_before,
        record {
          here = written.1;
          elsewhere = λ t not. sym (updated_elsewhere image s (old.content s) t not);
        },
      ))
      (gains s (image s) (cut s))

-- A write takes images with P to images with Q, where those that it leaves as they were have Q too.
pub each_write : (P Q : Image → Type 0) (old new : State) (s : ℕ) (bytes : List ℕ) → IsSound old → Gains s bytes old.may_leave new.may_leave
    → EachCut P old → ((image : Image) → P image → Q image) → ((before image : Image) → Holds s bytes before image → P before → Q image)
    → EachCut Q new
each_write P Q old new s bytes sound gains each stays changes image cut =
    ⊎_elim (λ was. stays image (each image was)) (λ w. changes w.0 image w.2 (each w.0 w.1))
    (after_write old sound new.may_leave s bytes gains image cut)

-- where the sets have the one content, a cut leaves it
pub only_image : (content : Image) (sets : Sets) → Only content sets → (image : Image) → CutLeaves sets image → image ≡ content
only_image content sets only image cut = λ i s. only s (image s) (cut s) i

-- where the sets have the one content, what it has each image has
pub each_flush : (P : Image → Type 0) (content : Image) (new : State) → Only content new.may_leave → P content → EachCut P new
each_flush P content new only has image cut = subst P (sym (only_image content new.may_leave only image cut)) has

-- no call is quiet
pub quiet_start : (m : State) → IsQuiet m m
quiet_start m = record {
  later = omega arith;
  failures_stay = omega arith;
  refused_stay = λ kind. omega arith;
  size_stays = refl;
  content_stays = λ s. refl;
  sets_shrink = λ s c left. left;
  nothing_else = λ t image le since. inl since;
}

-- one call that writes nothing
pub quiet_call : (old new : State) {fault : MediumFault} {result : Result (Unit {0}) MediumFault} → Passes fault result old new
    → Stays old.content new.content → Within new.may_leave old.may_leave → IsQuiet old new
quiet_call old new {fault} {result} call stays within = record {
  later = omega (arith, call.calls_are);
  failures_stay = failures_grow old new call;
  refused_stay = refused_grow old new call;
  size_stays = call.size_stays;
  content_stays = stays;
  sets_shrink = within;
  nothing_else = λ t image le since. ⊎_elim inl (λ now. inr (λ s. within s (image s) (now s))) (call.nothing_else t image le since);
}

-- quiet calls, and then others
pub quiet_joined : (old mid new : State) → IsQuiet old mid → IsQuiet mid new → IsQuiet old new
quiet_joined old mid new first second = record {
  later = omega (arith, first.later, second.later);
  failures_stay = omega (arith, first.failures_stay, second.failures_stay);
  refused_stay = λ kind. omega (arith, first.refused_stay kind, second.refused_stay kind);
  size_stays = second.size_stays ∙ first.size_stays;
  content_stays = λ s. second.content_stays s ∙ first.content_stays s;
  sets_shrink = λ s c left. first.sets_shrink s c (second.sets_shrink s c left);
  nothing_else = λ t image le since. ⊎_elim (first.nothing_else t image le) (λ now. inr (λ s. first.sets_shrink s (image s) (now s)))
      (second.nothing_else t image (omega (arith, le, first.later)) since);
}

-- what each image has before quiet calls, each has at each moment of them
pub quiet_leaves : (P : Image → Type 0) (old new : State) → IsSound old → EachCut P old → IsQuiet old new → LeavesOnly P old new
quiet_leaves P old new sound each quiet = record {
  later = quiet.later;
  failures_stay = quiet.failures_stay;
  refused_stay = quiet.refused_stay;
  size_stays = quiet.size_stays;
  each = λ image since.
      ⊎_elim (λ was. each image (sound.only_now image was)) (each image) (quiet.nothing_else old.calls image (omega arith) since);
  before = λ t image le since. ⊎_elim inl (λ now. inr (each image now)) (quiet.nothing_else t image le since);
}

-- where nothing of a medium has changed, no call wrote
pub unchanged_quiet : (old new : State) → IsUnchanged old new → IsQuiet old new
unchanged_quiet old new same = record {
  later = omega (arith, same.calls_stay);
  failures_stay = omega (arith, same.failures_stay);
  refused_stay = λ kind. omega (arith, same.refused_stay kind);
  size_stays = same.size_stays;
  content_stays = same.content_stays;
  sets_shrink = same.sets_shrink;
  nothing_else = λ t image le since. inl (same.left_shrinks t image since);
}

-- a medium is as it is
pub unchanged : (m : State) → IsUnchanged m m
unchanged m = record {
  size_stays = refl;
  content_stays = λ s. refl;
  sets_shrink = λ s c left. left;
  sets_grow = λ s c left. left;
  left_shrinks = λ t image since. since;
  left_grows = λ t image since. since;
  calls_stay = refl;
  made_stays = λ kind. refl;
  failures_stay = refl;
  refused_stay = λ kind. refl;
}

-- where nothing of a medium has changed twice, nothing has
pub unchanged_through : (old mid new : State) → IsUnchanged old mid → IsUnchanged mid new → IsUnchanged old new
unchanged_through old mid new first second = record {
  size_stays = second.size_stays ∙ first.size_stays;
  content_stays = λ s. second.content_stays s ∙ first.content_stays s;
  sets_shrink = λ s c left. first.sets_shrink s c (second.sets_shrink s c left);
  sets_grow = λ s c left. second.sets_grow s c (first.sets_grow s c left);
  left_shrinks = λ t image since. first.left_shrinks t image (second.left_shrinks t image since);
  left_grows = λ t image since. second.left_grows t image (first.left_grows t image since);
  calls_stay = second.calls_stay ∙ first.calls_stay;
  made_stays = λ kind. second.made_stays kind ∙ first.made_stays kind;
  failures_stay = second.failures_stay ∙ first.failures_stay;
  refused_stay = λ kind. second.refused_stay kind ∙ first.refused_stay kind;
}

-- a run after which nothing changes
pub then_unchanged : (P : Image → Type 0) (old mid new : State) → LeavesOnly P old mid → IsUnchanged mid new → LeavesOnly P old new
then_unchanged P old mid new run same = record {
  later = omega (arith, same.calls_stay, run.later);
  failures_stay = omega (arith, same.failures_stay, run.failures_stay);
  refused_stay = λ kind. omega (arith, same.refused_stay kind, run.refused_stay kind);
  size_stays = same.size_stays ∙ run.size_stays;
  each = λ image since. run.each image (same.left_shrinks old.calls image since);
  before = λ t image le since. run.before t image le (same.left_shrinks t image since);
}
