use Rattle.std.proofs.Common.{inl, ⊎_elim, ◌∙◌, arith}
use Rattle.medium.specs.SimLaws.{comes_after_through}
use Rattle.logical_blocks.specs.Book.{with_write}
use Rattle.page.specs.Extents.{filled}
use Rattle.page.proofs.Lives.{force_answers, force_dies, force_unwritten, forces, lives_on}
use Rattle.page.proofs.commands.force.Goals as goal

pub returns-in-Ok : goal.returns-in-Ok
returns-in-Ok c = λ book has.
    let extent = c.args.extent.now in
    let w = c.in-Ok.ensures book has in
    let s = c.sync.ensures (with_write book (filled extent)) (rw w.carries at w.has) in record {
      later = s.later;
      has = s.has;
      carries = forces extent book c.sync.result s.later s.carries;
      answers = force_answers extent book c.sync.result c.args.store.now c.write.new.store c.sync.new.store w.answers s.answers;
      dies = force_dies extent book c.sync.result c.args.store.now c.write.new.store c.sync.new.store s.later s.carries w.refusals
          s.refusals (rw w.carries at w.dies) s.dies;
      refusals = omega (arith, w.refusals, s.refusals);
      policy = s.policy ∙ w.policy;
      follows = comes_after_through c.args.store.now.medium c.write.new.store.medium c.sync.new.store.medium w.follows s.follows;
      lives = lives_on c.args.life.now c.write.new.life c.sync.new.life w.lives s.lives;
    }

pub returns-in-Err : goal.returns-in-Err
returns-in-Err c = λ book has.
    let w = c.in-Err.ensures book has in record {
      later = w.later;
      has = w.has;
      carries = ⊎_elim inl inl w.carries;
      answers = force_unwritten c.args.extent.now book c.in-Err.fault c.args.store.now c.write.new.store w.answers;
      dies = w.dies;
      refusals = w.refusals;
      policy = w.policy;
      follows = w.follows;
      lives = w.lives;
    }
