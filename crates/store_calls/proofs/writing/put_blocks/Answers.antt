use Rattle.std.proofs.{Common.{Bool, subst}, lemmas.Bool.false≢true}
use Rattle.std.specs.Prelude.{Result, Ok, Err, IsOk, OnOk, MatchResult}
use Rattle.logical_blocks.specs.Book.{write_of}
use Rattle.blocks.specs.{Turns.IsWriteTurn, declared.fault.StoreFault.StoreFault}
use Rattle.window.specs.{Window.state_of}
use Rattle.store_calls.proofs.{Served.appends_none}
use Rattle.store_calls.proofs.writing.put_blocks.Goals as goal

-- what holds where the answer is Ok
where_ok : (result : Result (Unit {0}) StoreFault) (P : Type 0) → IsOk result → OnOk result P → P
where_ok (Ok done) P ok holds = holds
where_ok (Err why) P ok holds = absurd (false≢true ok)

live_ok : (result : Result (Unit {0}) StoreFault) (P : Type 0) (Q : StoreFault → Type 0) → IsOk result
    → MatchResult result (λ done. P) Q → P
live_ok (Ok done) P Q ok holds = holds
live_ok (Err why) P Q ok holds = absurd (false≢true ok)

pub returns-clause-is : goal.returns-clause-is
returns-clause-is c =
    let old = c.args.store.now in
    let new = c.write-taken.new.self in
    let says = c.write-taken.ensures in
    let quiet = says.answers.quiet c.requires.at_once in
    let ok = quiet.1 c.requires.may.live in record {
      keeps = record {
        turn = subst (λ (b : Bool). IsWriteTurn (write_of c.args.address c.args.bytes.now) b (state_of old.medium) (state_of new.medium)
            old.cached new.cached) ok says.passes.turn;
        medium = quiet.0;
        runs = says.passes.runs;
        policy = says.passes.policy;
      };
      live = live_ok c.write-taken.result _ _ ok says.answers.answer;
      appends = appends_none old new c.foresee.ensures quiet.0;
    }

pub returns-clause-cost : goal.returns-clause-cost
returns-clause-cost c =
    let says = c.write-taken.ensures in
    let quiet = says.answers.quiet c.requires.at_once in
    let ok = quiet.1 c.requires.may.live in record {
      at_once = c.requires.at_once;
      none = quiet.0;
      headroom = λ ahead has. where_ok c.write-taken.result _ ok (says.batches.headroom ahead has);
    }
