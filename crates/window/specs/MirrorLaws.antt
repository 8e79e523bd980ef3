-- What holds of a medium with an outbox at each moment.
use Rattle.std.specs.Prelude.{◌≡◌, ℕ, ◌/◌, ◌<◌, ◌≤◌, true, List, [], ◌∷◌, ◌++◌}
use Rattle.std.specs.Prelude.{length, Option, Some, None}
use Rattle.std.proofs.Common.{inl, inr, ⊎_elim, refl, ◌∙◌, ap, arith}
use Rattle.std.proofs.lemmas.List.{take_all}
use Rattle.std.proofs.lemmas.Bool.{cases_Bool, and_parts}
use Rattle.std.proofs.lemmas.Bool.Decides.{eqb_tells, nat_tests}
use Rattle.medium.specs.Medium.{Image, IsSound}
use Rattle.medium.specs.SimLaws.{whole_sector}
use Rattle.window.specs.Device.{Device, durable, carried_out, after}
use Rattle.window.specs.Story.{Told, given, is_whole, are_whole}
use Rattle.window.specs.OutboxMedium.{OutboxMedium, device_of, device_at}
use Rattle.window.specs.OutboxMedium.{size_of, state_of}
use Rattle.window.specs.declared.call.DeviceCall.{DeviceCall}
use Rattle.window.specs.declared.call.DeviceCall.TheVariants.{Write, Flush}

-- a cut may leave what the device holds
abbrev HoldsContent : Device → Type 0
HoldsContent device = (s : ℕ) → device.may_leave s (device.content s)

carried_holds : (device : Device) (call : DeviceCall) → HoldsContent device
    → HoldsContent (carried_out device call)
carried_holds device (Write w) holds s = elim (eqb_tells s w.sector) [
  | inl here ↦ inr (here.1, rw here.0 refl)
  | inr other ↦ inl (rw other.0 (holds s))
]
carried_holds device Flush holds s = refl

after_holds : (device : Device) (calls : List DeviceCall) → HoldsContent device → HoldsContent
    (after device calls)
after_holds device [] holds = holds
after_holds device (call ∷ calls) holds = after_holds (carried_out device call) calls
    (carried_holds device call holds)

-- the first sectors have 512 bytes, whatever is left of them
abbrev Sized : ℕ → Device → Type 0
Sized size device = (s : ℕ) (c : List ℕ) → s < size → device.may_leave s c → length c ≡ 512

carried_sized : (size : ℕ) (device : Device) (call : DeviceCall) → is_whole call ≡ true
    → HoldsContent device
    → Sized size device → Sized size (carried_out device call)
carried_sized size device (Write w) whole holds sized s c inside left = ⊎_elim (sized s c inside)
    (λ here. ap (λ (l : List ℕ). length l) here.1 ∙ grind (arith, nat_tests, whole)) left
carried_sized size device Flush whole holds sized s c inside left =
    ap (λ (l : List ℕ). length l) left ∙ sized s (device.content s) inside (holds s)

after_sized : (size : ℕ) (device : Device) (calls : List DeviceCall) → are_whole calls ≡ true
    → HoldsContent device → Sized size device → Sized size (after device calls)
after_sized size device [] whole holds sized = sized
after_sized size device (call ∷ calls) whole holds sized =
    let parts = and_parts (is_whole call) (are_whole calls) whole in
    after_sized size (carried_out device call) calls parts.1 (carried_holds device call holds)
    (carried_sized size device call parts.0 holds sized)

pub size_whole : (t : Told) → are_whole (given t.asked) ≡ true → size_of t ≡ length t.opening / 512
size_whole t whole = rw whole refl

durable_sized : (bytes : List ℕ) → Sized (length bytes / 512) (durable bytes)
durable_sized bytes s c inside left = ap (λ (l : List ℕ). length l) left
    ∙ whole_sector bytes s inside

sized : (t : Told) → Sized (size_of t) (device_of t)
sized t s c inside left = elim (cases_Bool (are_whole (given t.asked))) [
  | inl whole ↦ after_sized (length t.opening / 512) (durable t.opening) (given t.asked) whole
      (λ u. refl)
      (durable_sized t.opening) s c (rw (size_whole t whole) at inside) left
  | inr not ↦ absurd (grind (arith, inside, not))
]

-- the last moment is that of all calls
pub at_last : (t : Told) (image : Image) (at : ℕ) → length t.asked ≤ at
    → ((s : ℕ) → (device_at t at).may_leave s (image s)) → (s : ℕ) → (device_of t).may_leave s
    (image s)
at_last t image at le left s = rw (take_all at t.asked le) at (left s)

pub is_sound : (m : OutboxMedium) → IsSound (state_of m)
is_sound m = record {
  holds_content = after_holds (durable m.story.opening) (given m.story.asked) (λ s. refl);
  counts_now = λ moment image le left. record {
    at = length m.story.asked;
    later = le;
    past = omega arith;
    cut = λ s. rw (take_all (length m.story.asked) m.story.asked (omega arith)) (left s);
  };
  only_now = λ image since. at_last m.story image since.at since.later since.cut;
  sized = sized m.story;
}

pub given-append : (first last : List (Option DeviceCall)) → given
    (first ++ last) ≡ given first ++ given last
given-append [] last = refl
given-append (None ∷ calls) last = given-append calls last
given-append (Some call ∷ calls) last = rw (given-append calls last) refl
