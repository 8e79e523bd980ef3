-- What a cut leaves of a device that has carried out a part of the writes in flight.
use Rattle.std.proofs.Common.{◌≡◌, ◌<◌, get_or, inl, inr, ℕ, zero, suc, List, [], ◌∷◌, length, refl, arith, rules}
use Rattle.std.specs.Prelude.{All, Contains}
use Rattle.std.proofs.lemmas.List.Elements.{All-head, All-tail}
use Rattle.medium.specs.Medium.{Within}
use Rattle.window.specs.Device.{Device, durable, carried_out, after}
use Rattle.window.specs.OutboxMedium.{OutboxMedium, CoversDevice}
use Rattle.window.specs.Parts.{IsWrite, CoversParts}
use Rattle.window.proofs.OutboxCalls.{after-append}
use Rattle.window.specs.declared.call.DeviceCall.{DeviceCall}
use Rattle.window.specs.declared.call.DeviceCall.TheVariants.{Write, Flush}

-- what a cut could leave it may leave after writes, too
stays_left : (device : Device) (calls : List DeviceCall) → All IsWrite calls → Within device.may_leave (after device calls).may_leave
stays_left device [] writes s c left = left
stays_left device (Write w ∷ calls) writes s c left =
    stays_left (carried_out device (Write w)) calls (All-tail IsWrite (Write w) calls writes) s c (inl left)
stays_left device (Flush ∷ calls) writes s c left = absurd (All-head IsWrite Flush calls writes)

-- a write among them may be left
abbrev Leaves : Device → DeviceCall → Type 0
Leaves device (Write w) = device.may_leave w.sector w.block
Leaves device Flush = ⊥

written_left : (device : Device) (calls : List DeviceCall) (call : DeviceCall) → All IsWrite calls → (k : ℕ) → k < length calls
    → get_or calls k call ≡ call → Leaves (after device calls) call
written_left device [] call writes k lt there = absurd (omega (arith, lt))
written_left device (Flush ∷ calls) call writes k lt there = absurd (All-head IsWrite Flush calls writes)
written_left device (Write w ∷ calls) call writes zero lt there =
    let rest = All-tail IsWrite (Write w) calls writes in
    rw (← there) (stays_left (carried_out device (Write w)) calls rest w.sector w.block (inr (refl, refl)))
written_left device (Write w ∷ calls) call writes (suc k) lt there =
    written_left (carried_out device (Write w)) calls call (All-tail IsWrite (Write w) calls writes) k (omega (arith, lt)) there

-- writes that are among others leave no more than these
kept_left : (base device : Device) (in_flight kept : List DeviceCall) → All IsWrite in_flight → All (Contains in_flight) kept
    → Within device.may_leave (after base in_flight).may_leave
    → Within (after device kept).may_leave (after base in_flight).may_leave
kept_left base device in_flight [] writes among within = within
kept_left base device in_flight (call ∷ kept) writes among within =
    let there = All-head (Contains in_flight) call kept among in
    let leaves = written_left base in_flight call writes there.0 there.1 there.2 in
    kept_left base (carried_out device call) in_flight kept writes (All-tail (Contains in_flight) call kept among)
    (search (rules, leaves, within))

pub parts_follow : (old new : OutboxMedium) → CoversDevice old new → CoversParts old new
parts_follow old new covers count done image le part left =
    let opening : Device = durable new.story.opening in
    let base : Device = after opening part.settled in
    covers count image le (λ s. rw (part.handed_are, after-append)
    (kept_left base base part.in_flight part.kept part.no_flush part.among (stays_left base part.in_flight part.no_flush) s (image s)
    (rw (part.done_are, after-append) at (left s))))
