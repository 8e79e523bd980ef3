-- What follows from the rules of the unit where the medium refuses nothing and stamps are left.
use Rattle.std.proofs.{Common.{◌≡◌, ◌≢◌, ℕ, false, List, None, arith}, lemmas.Bool.Decides.nat_tests}
use Rattle.std.specs.Prelude.{Result}
use Rattle.logical_blocks.specs.Book.{StampsOut, with_progress}
use Rattle.scsi.specs.{Sense.Sense, declared.command.Command.Command, Rules.{Intention, UnitState, CarriesOut, Ticks, IsOutcome, checked}}
use Rattle.scsi.specs.Rules.{intention, intention_by, moves_after, write_after, write_in_progress}
use Rattle.scsi.specs.declared.intent.Intent.TheVariants as intent

-- the table alone decides what comes of a command that passed the checks, or did not
one : (told : Result Command Sense) (taken : List ℕ) (old new other : UnitState) (answer second : Result (List ℕ) Sense)
    → ¬ StampsOut (with_progress old.book (write_after told taken)) → IsOutcome false told taken old answer new
    → IsOutcome false told taken old second other → (answer ≡ second) × (new ≡ other)
one told taken old new other answer second stamps outcome another = grind (arith)

pub one_answer : (block taken : List ℕ) (old new other : UnitState) (answer told : Result (List ℕ) Sense)
    → ¬ StampsOut (with_progress old.book (write_in_progress old block taken)) → CarriesOut false block taken old answer new
    → CarriesOut false block taken old told other → (answer ≡ told) × (new ≡ other)
one_answer block taken old new other answer told stamps = one (checked old block) taken old new other answer told stamps

-- a step in the background changes nothing
pub ticks_nothing : (old new : UnitState) → ¬ StampsOut old.book → Ticks false old new → new ≡ old
ticks_nothing old new stamps ticked = grind (arith, ticked, stamps)

-- ---- nothing is written where no data are taken

size_of : Intention → ℕ
size_of (intent.In n) = n
size_of (intent.Out n) = n
size_of other = 0

unwritten_by : (told : Result Command Sense) (taken : List ℕ) → ((n : ℕ) → moves_after told ≢ intent.Out n) → write_after told taken ≡ None
unwritten_by told taken never = grind (arith, nat_tests, never (size_of (moves_after told)))

pub unwritten : (unit : UnitState) (block taken : List ℕ) → ((n : ℕ) → intention unit block ≢ intent.Out n)
    → write_in_progress unit block taken ≡ None
unfolding intention_by
unwritten unit block taken never = unwritten_by (checked unit block) taken never
