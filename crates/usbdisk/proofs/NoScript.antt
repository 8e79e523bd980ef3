-- A script that is refused before any of it is played.
use Rattle.std.proofs.{Common.{ℕ, List, Option, refl}, KnownBytes.Keeps-refl}
use Rattle.bot_machine.specs.StartFaults.{StartFault}
use Rattle.usbdisk.specs.{declared.runner.fault.ScriptFault.ScriptFault, declared.runner.fault.ScriptFault.TheVariants.{Start, Writer}}
use Rattle.usbdisk.specs.{declared.runner.line.ScriptKind.ScriptKind, runner.Outcome.{IsNoScript, ComesToNoEnd}}

pub unplayed : {M : Type 0} (kind : ScriptKind) (most : ℕ) (left text : Option (List ℕ)) (medium : M)
    (UpToStart : StartFault → M → Type 0) (UpToAnswer : M → Type 0) (fault : ScriptFault) → IsNoScript kind most left fault
    → ComesToNoEnd kind most left text text medium UpToStart UpToAnswer fault medium
unplayed kind most left text medium UpToStart UpToAnswer (Start fault) why = absurd why
unplayed kind most left text medium UpToStart UpToAnswer Writer why = absurd why
unplayed kind most left text medium UpToStart UpToAnswer _ why = (record { same = refl; kept = Keeps-refl text }, why)
