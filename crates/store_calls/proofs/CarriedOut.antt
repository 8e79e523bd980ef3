-- A device that carries out all that it was sent.
use Rattle.std.proofs.Common.{ℕ, List, [], ◌∷◌, length, take, sym, append-nil, arith, rules, refl}
use Rattle.std.proofs.{lemmas.List.take_all, lemmas.Bool.Decides.nat_tests}
use Rattle.window.specs.{Device.{Device, durable, after, carried_out}, Parts.AreCarriedOut, declared.call.DeviceCall.DeviceCall}
use Rattle.window.specs.declared.call.DeviceCall.TheVariants.{Write, Flush}
use Rattle.store_calls.specs.StoreMachine.{DeviceLeaves}

-- what it holds is what a cut may leave
holds_left : (device : Device) (calls : List DeviceCall) → ((s : ℕ) → device.may_leave s (device.content s)) → (s : ℕ)
    → (after device calls).may_leave s ((after device calls).content s)
holds_left device [] holds s = holds s
holds_left device (Write w ∷ calls) holds s = holds_left (carried_out device (Write w)) calls (λ t. grind (arith, nat_tests, holds t)) s
holds_left device (Flush ∷ calls) holds s = holds_left (carried_out device Flush) calls (λ t. refl) s

pub all_left : (opening : List ℕ) (calls : List DeviceCall) (s : ℕ)
    → (after (durable opening) calls).may_leave s ((after (durable opening) calls).content s)
all_left opening calls s = holds_left (durable opening) calls (λ t. refl) s

pub all_carried : (calls : List DeviceCall) → AreCarriedOut (take (length calls) calls) calls
all_carried calls =
    let e = sym (append-nil calls) in
    rw (take_all (length calls) calls (omega arith))
    (record { settled = calls; in_flight = []; kept = []; handed_are = e; done_are = e; no_flush = search rules; among = search rules })

pub device_leaves : DeviceLeaves
device_leaves opening calls told few =
    record { count = length calls; done = calls; reaches = few; are = all_carried calls; cut = all_left opening calls }
