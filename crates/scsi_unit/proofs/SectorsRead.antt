-- A command that is not about to send anything reads no blocks.
use Rattle.std.proofs.{Common.{◌≡◌, ◌≢◌, ℕ, List, None, Result, arith}, lemmas.Bool.Decides.nat_tests}
use Rattle.scsi.specs.{Sense.Sense, declared.command.Command.Command, Rules.{moves_after, intention_by}}
use Rattle.scsi_unit.{proofs.Intentions.size_of, specs.{Reading.read_of, Serving.command_for, UnitValue.{UnitValue, intention_of}}}
use Rattle.scsi.specs.declared.intent.Intent.TheVariants as intent

read_none : (told : Result Command Sense) → ((n : ℕ) → moves_after told ≢ intent.In n) → read_of told ≡ None
read_none told never = grind (arith, nat_tests, never (size_of (moves_after told)))

pub sends_none-reads_none : {M : Type 0} (unit : UnitValue M) (block : List ℕ) → ((n : ℕ) → intention_of unit block ≢ intent.In n)
    → read_of (command_for unit block) ≡ None
unfolding intention_by
sends_none-reads_none unit block never = read_none (command_for unit block) never
