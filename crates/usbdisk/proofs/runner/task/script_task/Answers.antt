use Rattle.std.proofs.{Common.{◌≤◌, ℕ, List, ◌∷◌, ap, map, drop, length, arith}, lemmas.List.length-map}
use Rattle.spec.specs.declared.packet_size.PacketSize.{PacketSize}
use Rattle.usbdisk.specs.{declared.runner.task.Task.Task, declared.runner.task.Task.TheVariants.{Format, Migrate, Run, Sim}}
use Rattle.usbdisk.specs.runner.Task.{SpellsTask, IsPacketEnding}
use Rattle.usbdisk.proofs.runner.task.script_task.Goals as goal

-- behind three words, and few more, there must be an ending
no_line : (a b c : List ℕ) (ending : List (List ℕ)) → length ending ≤ 2 → ((size : PacketSize) → IsPacketEnding ending size → ⊥)
    → (task : Task) → SpellsTask (a ∷ b ∷ c ∷ ending) task → ⊥
no_line a b c ending few none (Format image sizes) are = omega (arith, few, ap length are.words_are)
no_line a b c ending few none (Migrate image) are = omega (arith, ap length are.words_are)
no_line a b c ending few none (Run image script size) are = none size (rw (ap (drop 3) are.words_are) are.size_is)
no_line a b c ending few none (Sim image script size) are = none size (rw (ap (drop 3) are.words_are) are.size_is)

pub returns-in_err-size-clause-none : goal.returns-in_err-size-clause-none
returns-in_err-size-clause-none c =
    rw c.from_residual.ensures
    (λ line. no_line _ _ _ (map (λ word. word.now) c.args.ending.now)
    (omega (arith, c.requires, length-map c.args.ending.now (λ word. word.now))) c.in_err-size.ensures.none line.0 line.1)
