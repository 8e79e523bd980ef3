-- A packet that spells a command block wrapper: the one exchange that it begins, and what that reads.
use Rattle.std.proofs.Common.{◌≡◌, ◌≢◌, ℕ, List, arith, ◌⊎◌, ⊎_elim, inl, inr, Option, Some, None, MatchOption, false, sym, ap, ◌∙◌}
use Rattle.std.proofs.Common.{subst, Bool, [], refl}
use Rattle.spec.specs.{declared.wrapper.Cbw.Cbw, declared.way.Way.Way, declared.way.Way.TheVariants.In, declared.case.Case.Case}
use Rattle.spec.specs.{declared.case.Outcome.Outcome, CommandWrapper.{SpellsCommand, SpellsNone}, Cases.IsCase}
use Rattle.spec.specs.Exchange.{at_once, after_data, moment_of, finished, Line}
use Rattle.scsi.specs.Rules.{Intention, UnitState, CarriesOut, Ticks, intention, write_in_progress}
use Rattle.logical_blocks.specs.Book.{Book}
use Rattle.spec.specs.{UnitConversation.{way_of, Intends, on_line}, Conversation.{Conversation, Begins, OpensExchange}}
pub use Rattle.transport_laws.proofs.Wrappers.{one_wrapper}
use Rattle.transport_laws.proofs.Wrappers.{at_once-writes_none}
use Rattle.bot_machine.specs.{Cases.IsFit, declared.exchange.Exchange.Exchange, Disk.DiskValue, Reading.{sectors_in, sectors_for}}
use Rattle.bot_machine.specs.Reading.{WrapperReads, WrapperReadsNone, ReadsHome, ReadsNoHome, LooksBesides, WrapperReadsAt}
use Rattle.bot_machine.specs.{Serving.IsBegun, Acts.CarriesOutAtOnce}
use Rattle.medium.specs.Medium.{State}
use Rattle.medium.proofs.SectorsRead.{looks_wider}
use Rattle.scsi_unit.proofs.SectorsRead.{sends_none-reads_none}
use Rattle.scsi.specs.declared.intent.Intent.TheVariants as intent
use Rattle.scsi_unit.specs.{Reading.{ReadsBack, first_home_of, home_sectors_of, IsOneOf}, UnitValue.{UnitValue, intention_of, state_of}}
use Rattle.scsi_unit.specs.UnitValue.{IsOfSize}
use Rattle.scsi_unit.specs.declared.reading.HomeSectors.{HomeSectors}
use Rattle.std.specs.Prelude.{None}
use Rattle.bot_machine.proofs.UnitLaws.{intends_by_book}

-- the rules fix one outcome
pub one_outcome : (host intention : Way) (one other : Outcome) → IsFit host intention one → IsFit host intention other → one ≡ other
one_outcome host intention one other first second = grind arith

-- the packet that spells a command that is carried out at once has it carried out, over no bytes
pub carries_at_once : (packet : List ℕ) (unit : UnitState) (command : Cbw) (intended : Way) (case : Case)
    → SpellsCommand packet command → Intends unit command.block.items intended → IsCase case command.host intended
    → moment_of case ≡ at_once → CarriesOutAtOnce packet unit command.block.items []
carries_at_once packet unit command intended case spelled intends is_case moment = record {
  command = command;
  intended = intended;
  case = case;
  spelled = spelled;
  intends = intends;
  is_case = is_case;
  is_at_once = moment;
  block_is = refl;
  none_taken = refl;
}

-- a command that is carried out after its data does not intend to send any
pub after_data-sends_none : (case : Case) (host intended : Way) → IsCase case host intended → moment_of case ≡ after_data
    → (n : ℕ) → intended ≢ In n
after_data-sends_none case host intended is moment n e = grind arith

-- a command that is not about to send anything reads nothing at home
pub none_for : {M : Type 0} (unit : UnitValue M) (block : List ℕ) → ((n : ℕ) → intention_of unit block ≢ intent.In n)
    → sectors_for unit block ≡ None
none_for unit block silent = ap (λ read. home_sectors_of (first_home_of unit) read) (sends_none-reads_none unit block silent)

-- none of its home sectors is read then
pub nothing_read_for : {M : Type 0} (unit : UnitValue M) (block : List ℕ) → ((n : ℕ) → intention_of unit block ≢ intent.In n)
    → (sector : ℕ) → IsOneOf (sectors_for unit block) sector → ⊥
nothing_read_for unit block silent sector at = subst (λ w. IsOneOf w sector) (none_for unit block silent) at

-- these are the ones that are read in the case
these : (case : Case) (wanted : Option HomeSectors) (sector : ℕ) → sectors_in case wanted ≡ wanted → IsOneOf wanted sector
    → (home : HomeSectors) × (sectors_in case wanted ≡ Some home) × IsOneOf (Some home) sector
these case None sector same at = absurd at
these case (Some home) sector same at = (home, same, at)

-- where it is carried out at once it reads what it would have read
at_once_reads : (case : Case) (host : Way) (intention : Intention) (wanted : Option HomeSectors) → IsCase case host (way_of intention)
    → moment_of case ≡ at_once → (((n : ℕ) → intention ≢ intent.In n) → wanted ≡ None) → sectors_in case wanted ≡ wanted
at_once_reads case host (intent.In n) wanted is moment none = grind arith
at_once_reads case host intention wanted is moment none = let no = none (λ n e. cc) in grind arith

module _ {M : Type 0} (unit : UnitValue M) (packet : List ℕ) (exchange : Exchange) (begun : IsBegun unit packet exchange) where
  -- it reads these
  found : (wanted : HomeSectors) → sectors_in exchange.case (sectors_for unit exchange.command.block.items) ≡ Some wanted
      → WrapperReads unit packet wanted
  found wanted is = record {
    command = exchange.command;
    spelled = begun.spelled;
    case = exchange.case;
    is_case = subst (λ way. IsCase exchange.case exchange.command.host way) begun.intended begun.is_case;
    reads = is;
  }

  -- it reads no others
  read_by : (wanted : HomeSectors) → WrapperReads unit packet wanted
      → sectors_in exchange.case (sectors_for unit exchange.command.block.items) ≡ Some wanted
  read_by wanted reads =
      let command = begun.only reads.command reads.spelled in
      let case = begun.one_case reads.case (subst (λ c. IsCase reads.case c.host exchange.intended) command
      (rw (begun.intended, ← command) reads.is_case)) in
      rw (← case, ← command) reads.reads

  -- where it is carried out at once, each home sector that it reads is one of these
  pub at_home : moment_of exchange.case ≡ at_once → (sector : ℕ) → IsOneOf (sectors_for unit exchange.command.block.items) sector
      → WrapperReadsAt unit packet sector
  at_home moment sector at =
      let block = exchange.command.block.items in
      let is = subst (λ way. IsCase exchange.case exchange.command.host way) begun.intended begun.is_case in
      let named = these exchange.case (sectors_for unit block) sector (at_once_reads exchange.case exchange.command.host
      (intention_of unit block) (sectors_for unit block) is moment (none_for unit block)) at in
      (named.0, found named.0 named.1, named.2)

  -- where it is carried out after its data, the unit intends to send nothing
  pub waits_to_send_none : moment_of exchange.case ≡ after_data → (n : ℕ) → intention_of unit exchange.command.block.items ≢ intent.In n
  waits_to_send_none moment n sends =
      after_data-sends_none exchange.case exchange.command.host exchange.intended begun.is_case moment n
      (begun.intended ∙ ap way_of sends)

  pub exchange_reads : (result : Option HomeSectors) → result ≡ sectors_in exchange.case (sectors_for unit exchange.command.block.items)
      → MatchOption result (WrapperReadsNone unit packet) (WrapperReads unit packet)
  exchange_reads None is = λ wanted reads. grind (arith, is, read_by wanted reads)
  exchange_reads (Some wanted) is = found wanted (sym is)

-- a packet that spells no wrapper reads none
pub nothing_spelled : {M : Type 0} (unit : UnitValue M) (packet : List ℕ) → SpellsNone packet → WrapperReadsNone unit packet
nothing_spelled unit packet none = λ wanted reads. none reads.command reads.spelled

-- where a wrapper is expected, an event reads what the wrapper reads
pub at_rest_reads : {M : Type 0} (disk : DiskValue M) (packet : List ℕ) (result : Option HomeSectors)
    → disk.line.out_halted ≡ false → disk.line.left ≡ finished
    → MatchOption result (WrapperReadsNone disk.unit packet) (WrapperReads disk.unit packet)
    → MatchOption result (ReadsNoHome disk packet) (ReadsHome disk packet)
at_rest_reads disk packet None unhalted expected reads = λ wanted home. reads wanted home.wrapper
at_rest_reads disk packet (Some wanted) unhalted expected reads =
    record { unhalted = unhalted; expected = expected; wrapper = reads }

-- ---- the reads of a unit name sectors of the log, and such at home

-- of which this holds too
pub besides : {M : Type 0} (before after : State) (unit : UnitValue M) (At Other : ℕ → Type 0) → ((s : ℕ) → At s → Other s)
    → LooksBesides At before after unit → LooksBesides Other before after unit
besides before after unit At Other wider looks =
    looks_wider (λ s. ReadsBack unit s ⊎ At s) (λ s. ReadsBack unit s ⊎ Other s) before after
    (λ s named. ⊎_elim inl (λ at. inr (wider s at)) named) looks

-- a unit and a book of its size, and the exchange that a packet begins
module _ {M : Type 0} (unit : UnitValue M) (book : Book) (size : IsOfSize unit book)
    (packet : List ℕ) (exchange : Exchange) (begun : IsBegun unit packet exchange) where
  intends : Intends (state_of unit book) exchange.command.block.items exchange.intended
  intends = begun.intended ∙ ap way_of (intends_by_book unit book exchange.command.block.items size)

  -- what the case begins, the packet opens
  pub opens : (refused : Bool) (line : Line) (new : Conversation UnitState)
      → Begins Intends CarriesOut Ticks refused (moment_of exchange.case) exchange.case exchange.command
      exchange.intended (on_line line (state_of unit book)) new
      → OpensExchange Intends CarriesOut Ticks refused packet (on_line line (state_of unit book)) new
  opens refused line new begins = record {
    command = exchange.command;
    intended = exchange.intended;
    case = exchange.case;
    spelled = begun.spelled;
    intends = intends;
    is_case = begun.is_case;
    begins = begins;
  }

  -- a command that is carried out at once writes nothing
  pub no_write : (taken : List ℕ) → at_once ≡ moment_of exchange.case
      → write_in_progress (state_of unit book) exchange.command.block.items taken ≡ None
  no_write taken moment = at_once-writes_none (state_of unit book) exchange.command.block.items taken exchange.case exchange.command.host
      exchange.intended intends begun.is_case (sym moment)

  -- and it is carried out in the event of its wrapper
  pub carries_out : at_once ≡ moment_of exchange.case → CarriesOutAtOnce packet (state_of unit book) exchange.command.block.items []
  carries_out moment = carries_at_once packet (state_of unit book) exchange.command exchange.intended exchange.case begun.spelled intends
      begun.is_case (sym moment)

  -- a command that the packet has carried out at once is that of the exchange, over no bytes
  pub carried_at_once : (block taken : List ℕ) → CarriesOutAtOnce packet (state_of unit book) block taken
      → (moment_of exchange.case ≡ at_once) × (block ≡ exchange.command.block.items) × (taken ≡ [])
  carried_at_once block taken a =
      let same = begun.only a.command a.spelled in
      let block_same : a.command.block.items ≡ exchange.command.block.items = ap (λ c. c.block.items) same in
      let way : a.intended ≡ exchange.intended
      = a.intends ∙ ap (λ b. way_of (intention (state_of unit book) b)) block_same ∙ sym intends in
      let is_case : IsCase a.case exchange.command.host exchange.intended
      = subst (λ w. IsCase a.case exchange.command.host w) way (subst (λ c. IsCase a.case c.host a.intended) same a.is_case) in
      (ap moment_of (sym (begun.one_case a.case is_case)) ∙ a.is_at_once, a.block_is ∙ block_same, a.none_taken)
