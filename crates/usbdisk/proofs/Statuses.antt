-- The statuses of refusals.
use Rattle.std.{proofs.Common.{◌≡◌, ◌⊎◌, ◌≤◌, ℕ, List, refl, inl, inr, ap, sym, ◌∙◌, arith}, specs.declared.io.ErrorKind.ErrorKind}
use Rattle.window.specs.{declared.call.DeviceCall.DeviceCall, declared.call.DeviceCall.TheVariants.Flush}
use Rattle.device_file.specs.{Outbox.{EndIn, kind_of}, declared.fault.FileCall.FileCall, declared.fault.FileFault.FileFault}
use Rattle.device_file.specs.declared.opening.OpenFault.{OpenFault}
use Rattle.recovery.specs.declared.start_fault.StartFault.{StartFault}
use Rattle.usbdisk.specs.console.Status.{refusal_of_open, status_at, status_of, status_of_fault, status_of_start}
use Rattle.usbdisk.specs.declared.console.refusal.Refusal.{Refusal}
use Rattle.std.specs.declared.io.ErrorKind.TheVariants as causes
use Rattle.device_file.specs.declared.fault.FileCall.TheVariants as call
use Rattle.device_file.specs.declared.opening.OpenFault.TheVariants as opening
use Rattle.recovery.specs.declared.start_fault.StartFault.TheVariants as start
use Rattle.usbdisk.specs.declared.console.refusal.Refusal.TheVariants as refused

-- a status of a refusal is 5 at most and never 0, and 2 for the words alone
pub record IsStatus (status : ℕ) (Words : Type 0) : Type 0 where
  pub most : status ≤ 5
  pub some : status ≡ 0 → ⊥
  pub words : status ≡ 2 → Words

three_to_five : {Words : Type 0} (n : ℕ) → 3 ≤ n → n ≤ 5 → IsStatus n Words
three_to_five n low high = record {
  most = high;
  some = λ is. omega (arith, is, low);
  words = λ is. absurd (omega (arith, is, low));
}

three_to_start : (fault : StartFault) → 3 ≤ status_of_start fault
three_to_start start.NoMemory = omega arith
three_to_start _ = omega arith

start_to_five : (fault : StartFault) → status_of_start fault ≤ 5
start_to_five start.NoMemory = omega arith
start_to_five _ = omega arith

three_or_four : (kind : FileCall) (cause : ErrorKind) → (status_at kind cause ≡ 3) ⊎ (status_at kind cause ≡ 4)
three_or_four call.Length causes.InvalidData = inl refl
three_or_four _ _ = inr refl

start_refused : {Words : Type 0} (fault : StartFault) → IsStatus (status_of_start fault) Words
start_refused fault = three_to_five (status_of_start fault) (three_to_start fault) (start_to_five fault)

file_refused : {Words : Type 0} (fault : FileFault) → IsStatus (status_of_fault fault) Words
file_refused fault = elim (three_or_four fault.call fault.cause) [
  | inl is ↦ three_to_five (status_of_fault fault) (omega (arith, is)) (omega (arith, is))
  | inr is ↦ three_to_five (status_of_fault fault) (omega (arith, is)) (omega (arith, is))
]

pub refused_status : (refusal : Refusal) → IsStatus (status_of refusal) (refusal ≡ refused.Words)
refused_status (refused.Image fault) = start_refused fault
refused_status (refused.ImageFault fault) = start_refused fault
refused_status (refused.File fault) = file_refused fault
refused_status (refused.Target fault) = file_refused fault
refused_status refused.Words = record { most = omega arith; some = λ is. omega (arith, is); words = λ is. refl }
refused_status _ = record { most = omega arith; some = λ is. omega (arith, is); words = λ is. absurd (omega (arith, is)) }

-- a file of which no first sectors were had is no refusal of words
pub open_not_words : (fault : OpenFault) → refusal_of_open fault ≡ refused.Words → ⊥
open_not_words opening.NoMemory is = cc
open_not_words _ is = cc

kind_not_three : (last : DeviceCall) (cause : ErrorKind) → status_at (kind_of last) cause ≡ 3 → ⊥
kind_not_three Flush cause is = omega (arith, is)
kind_not_three _ cause is = omega (arith, is)

-- a file that refused the last of these calls that waited is no image with a fault
pub waiting_not_three : (calls : List DeviceCall) (fault : FileFault) → EndIn calls fault.call → status_of_fault fault ≡ 3 → ⊥
waiting_not_three calls fault (before, last, parts, kind) is =
    kind_not_three last fault.cause (sym (ap (λ (k : FileCall). status_at k fault.cause) kind) ∙ is)
