use Rattle.std.proofs.Common.{◌≤◌, ℕ, List, ◌∷◌, ap, inl, inr, map, drop, length, arith}
use Rattle.journal.specs.declared.log_format.LogFormat.{LogFormat}
use Rattle.spec.specs.declared.packet_size.PacketSize.{PacketSize}
use Rattle.usbdisk.specs.{declared.runner.task.Task.Task, declared.runner.task.Task.TheVariants.{Format, Migrate, Run, Sim}}
use Rattle.usbdisk.specs.runner.Task.{SpellsTask, IsFormatEnding, IsPacketEnding}
use Rattle.usbdisk.proofs.runner.task.format_task.Goals as goal

-- a packet's ending has two words at most
few : (ending : List (List ℕ)) (size : PacketSize) → IsPacketEnding ending size → length ending ≤ 2
few ending size (inl is) = omega (arith, ap length is)
few ending size (inr is) = omega (arith, ap length is.0)

-- behind six words there must be an ending
no_line : (a b c d e f : List ℕ) (ending : List (List ℕ)) → ((format : LogFormat) → IsFormatEnding ending format → ⊥)
    → (task : Task) → SpellsTask (a ∷ b ∷ c ∷ d ∷ e ∷ f ∷ ending) task → ⊥
no_line a b c d e f ending none (Format image sizes) are = none sizes.format (rw (ap (drop 6) are.words_are) are.format_is)
no_line a b c d e f ending none (Migrate image) are = omega (arith, ap length are.words_are)
no_line a b c d e f ending none (Run image script size) are =
    omega (arith, few are.ending size are.size_is, ap length are.words_are)
no_line a b c d e f ending none (Sim image script size) are =
    omega (arith, few are.ending size are.size_is, ap length are.words_are)

pub returns-in_err-format-clause-none : goal.returns-in_err-format-clause-none
returns-in_err-format-clause-none c =
    rw c.from_residual-in_err-format.ensures
    (λ line. no_line _ _ _ _ _ _ (map (λ word. word.now) c.args.ending.now) c.in_err-format.ensures.none line.0 line.1)
