use Rattle.std.proofs.{Common.arith, lemmas.Bool.cases_Bool}
use Rattle.blocks.proofs.TurnsJoined.{kept_on}
use Rattle.blocks.proofs.store.Store.go_on.Goals as goal

pub returns-then-is_writing : goal.returns-then-is_writing
returns-then-is_writing g c =
    let begun = c.is_writing.ensures.begun c.requires.live c.if-is_writing.true in
    grind (arith, begun, cases_Bool c.args.self.now.goes_ahead, c.requires.live, c.step.ensures)

pub returns-then-may_begin : goal.returns-then-may_begin
returns-then-may_begin g c =
    let may = c.may_begin.ensures.begins.0 c.if-may_begin.true in
    let passes = kept_on {Follows = g.M.Medium.follows} {most = 2} {sends = 2} g.met.M.Medium.follows_itself c.begin_next.ensures.keeps in
    grind (arith, may, c.requires.live, c.begin_next.ensures, passes)

pub returns : goal.returns
returns g c =
    let idle = c.is_writing.ensures.rests c.requires.live c.if-is_writing.false in
    grind (arith, c.requires.live, idle, c.may_begin.ensures, c.if-may_begin.false, c.retire.ensures)
