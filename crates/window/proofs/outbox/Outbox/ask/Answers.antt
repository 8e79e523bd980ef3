use Rattle.std.proofs.Common.{refl, arith}
use Rattle.window.proofs.InRing.{read_first, first_is, copies_run}
use Rattle.window.specs.declared.outbox.Kind.TheVariants as kind
use Rattle.window.proofs.outbox.Outbox.ask.Goals as goal

pub returns-in-Write : goal.returns-in-Write
returns-in-Write c =
    let place = rw c.len.ensures at c.place_of.ensures in
    let begins = read_first c.self.inside c.place_of.result c.index.result.now (kind.Write c.in-Write.first) (omega arith) place
    c.index.ensures c.in-Write.is in
    let run = rw c.deref.ensures.value at c.run_in-count.ensures.run in
    let ends = rw c.deref.ensures.value at c.run_in-count.ensures.ends in
    let first = rw c.deref-in-Write.ensures.value at c.copy_first.ensures.first in
    rw (← c.self.view_is) (copies_run c.self.inside c.in-Write.first c.run_in-count.result c.args.to.now c.copy_first.new.to (omega arith)
    begins (rw c.min-most.ensures at c.run_in-count.ensures.most) run (rw c.min-most.ensures at ends) first c.copy_first.ensures.behind)

pub returns-in-Flush : goal.returns-in-Flush
returns-in-Flush c =
    let place = rw c.len.ensures at c.place_of.ensures in
    let begins = read_first c.self.inside c.place_of.result c.index.result.now kind.Flush (omega arith) place c.index.ensures
    c.in-Flush.is in
    (rw (← c.self.view_is) (first_is c.self.inside kind.Flush (omega arith) begins), refl)
