-- A packet that spells a command block wrapper: one command, one case, and what is written where it is carried out at once.
use Rattle.std.proofs.Common.{◌≡◌, ◌≢◌, ℕ, List, arith, None, ap, ◌∙◌}
use Rattle.spec.specs.{declared.wrapper.Cbw.Cbw, declared.way.Way.Way, declared.way.Way.TheVariants.Out, declared.case.Case.Case}
use Rattle.scsi.specs.Rules.{UnitState, write_in_progress}
use Rattle.spec.specs.{CommandWrapper.SpellsCommand, Cases.IsCase, Exchange.{at_once, moment_of}}
use Rattle.spec.specs.UnitConversation.{way_of, Intends}
use Rattle.transport_laws.proofs.Rules.{unwritten}

pub one_wrapper : (packet : List ℕ) (one other : Cbw) → SpellsCommand packet one → SpellsCommand packet other → one ≡ other
one_wrapper packet one other first second = grind arith

pub one_case : (case other : Case) (host intention : Way) → IsCase case host intention → IsCase other host intention → case ≡ other
one_case case other host intention first second = grind arith

-- a command that is carried out at once does not intend to take data
pub at_once-takes_none : (case : Case) (host intended : Way) → IsCase case host intended → moment_of case ≡ at_once
    → (n : ℕ) → intended ≢ Out n
at_once-takes_none case host intended is moment n e = grind arith

-- and it writes nothing
pub at_once-writes_none : (unit : UnitState) (block taken : List ℕ) (case : Case) (host intended : Way) → Intends unit block intended
    → IsCase case host intended → moment_of case ≡ at_once → write_in_progress unit block taken ≡ None
at_once-writes_none unit block taken case host intended intends is moment =
    unwritten unit block taken (λ n out. at_once-takes_none case host intended is moment n (intends ∙ ap way_of out))
