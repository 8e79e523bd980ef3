-- One call more of a medium with an outbox: what it gives to the device, and what the device is then.
use Rattle.std.proofs.Common.{◌≡◌, ◌⊎◌, inl, inr, ℕ, true, List, [], ◌∷◌, ◌++◌, length, Option, Some, None}
use Rattle.std.proofs.Common.{refl, arith, length-append}
use Rattle.std.proofs.lemmas.Bool.{cases_lt}
use Rattle.std.proofs.lemmas.Bool.Decides.{nat_tests}
use Rattle.std.proofs.lemmas.List.{take-append-le, append-nil}
use Rattle.std.proofs.lemmas.List.Folds.{list_all-append}
use Rattle.medium.specs.Medium.{Image, CutLeaves, Stays, Holds, Within}
use Rattle.window.specs.Device.{Device, carried_out, after}
use Rattle.window.specs.Story.{Told, given, is_whole, are_whole}
use Rattle.window.specs.OutboxMedium.{OutboxMedium, device_of, LeftSince, state_of, reads, gives}
use Rattle.window.specs.MirrorLaws.{at_last, given-append}
use Rattle.window.specs.declared.call.DeviceCall.{DeviceCall}
use Rattle.window.specs.declared.call.DeviceCall.TheVariants.{Write}

pub after-append : (device : Device) (first last : List DeviceCall) → after device (first ++ last) ≡ after (after device first) last
after-append device [] last = refl
after-append device (call ∷ calls) last = after-append (carried_out device call) calls last

-- what was given where nothing was
pub given_none : (asked : List (Option DeviceCall)) → given (asked ++ None ∷ []) ≡ given asked
given_none asked = rw (given-append, append-nil) refl

pub given_some : (asked : List (Option DeviceCall)) (call : DeviceCall) → given (asked ++ Some call ∷ []) ≡ given asked ++ call ∷ []
given_some asked call = given-append asked (Some call ∷ [])

pub whole_more : (calls : List DeviceCall) (call : DeviceCall) → are_whole calls ≡ true → is_whole call ≡ true
    → are_whole (calls ++ call ∷ []) ≡ true
whole_more calls call whole one = rw (list_all-append, whole, one) refl

-- what a cut since a moment could have left is what it was before the last call, or what a cut may leave now
pub one_moment_more : (old new : Told) (x : Option DeviceCall) → new.opening ≡ old.opening → new.asked ≡ old.asked ++ x ∷ []
    → (t : ℕ) (image : Image) → LeftSince new t image → LeftSince old t image ⊎ CutLeaves (device_of new).may_leave image
one_moment_more old new x opening asked t image left = elim (cases_lt (length old.asked) left.at) [
  | inl since ↦ inr (at_last new image left.at (rw asked (simp length-append (omega (arith, since)))) left.cut)
  | inr before ↦ inl (record {
    at = left.at;
    later = left.later;
    past = before;
    cut = λ s. let e = take-append-le left.at old.asked (x ∷ []) before in rw (opening, asked, e) at (left.cut s);
  })
]

module _ (m : OutboxMedium) where
  pub quiet_content : Stays (state_of m).content (state_of (reads m)).content
  quiet_content s = rw given_none refl

  pub quiet_sets : Within (state_of (reads m)).may_leave (state_of m).may_leave
  quiet_sets s c left = rw given_none at left

  pub given_content : (call : DeviceCall) (s : ℕ) → (state_of (gives m call)).content s ≡ (carried_out (device_of m.story) call).content s
  given_content call s = rw (given_some, after-append) refl

  pub given_sets : (call : DeviceCall) (s : ℕ) (c : List ℕ) → (state_of (gives m call)).may_leave s c
      → (carried_out (device_of m.story) call).may_leave s c
  given_sets call s c left = rw (given_some, after-append) at left

  pub written : (s : ℕ) (block : List ℕ)
      → Holds s block (state_of m).content (state_of (gives m (Write (record { sector = s; block = block })))).content
  written s block =
      let same = given_content (Write (record { sector = s; block = block })) in record {
        here = rw (same s) (grind (arith, nat_tests));
        elsewhere = λ t other. rw (same t) (grind (arith, nat_tests));
      }
