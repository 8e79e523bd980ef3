use Rattle.std.proofs.Common.{refl, ◌/◌, ℕ, length}
use Rattle.window.specs.{Window.{state_of, ComesAfter}, Sight.AreInSight}
use Rattle.medium.specs.{Sent.SendsUpTo}
use Rattle.blocks.specs.{Passing.IsReadBeside, Turns.IsTurn}
use Rattle.store_calls.specs.{Stores.Store, Rooms.Foresees, Calls.{KeepsAll, home_of}}
use Rattle.store_calls.proofs.Served.{appends_read, unread}
use Rattle.store_calls.proofs.reading.read_seen.Goals as goal

keeps_all : (address count : ℕ) (old new : Store) → Foresees old.medium → IsReadBeside state_of ComesAfter address count old new
    → IsTurn (state_of old.medium) (state_of new.medium) old.cached new.cached
    → SendsUpTo 0 (state_of old.medium) (state_of new.medium) → AreInSight old.medium (home_of old address) count
    → KeepsAll address count old new
keeps_all address count old new sees keeps turn sends seen = record {
  keeps = keeps;
  turn = turn;
  none_sent = sends;
  appends = appends_read address count old new sees keeps.follows sends keeps.looks seen;
}

pub returns-in-Ok-clause-ok : goal.returns-in-Ok-clause-ok
returns-in-Ok-clause-ok c = record {
  bytes = λ book fits. c.in-Ok.ensures.ok book fits;
  all = keeps_all c.args.address (length c.args.to.now / 512) c.args.store.now c.read.new.self c.foresee.ensures c.read.ensures.keeps
      c.read.ensures.keeps.turn c.in-Ok.ensures.cost.none_sent c.requires.seen;
}

pub returns-in-Err-clause-err : goal.returns-in-Err-clause-err
returns-in-Err-clause-err c =
    let all : KeepsAll c.args.address (length c.args.to.now / 512) c.args.store.now c.read.new.self =
    keeps_all c.args.address (length c.args.to.now / 512) c.args.store.now c.read.new.self c.foresee.ensures c.read.ensures.keeps
    c.read.ensures.keeps.turn c.in-Err.ensures.cost.none_sent c.requires.seen in (
      refl,
      record {
        unseen = unread c.args.store.now c.read.new.self c.in-Err.field-0 c.in-Err.ensures.refuses.err c.requires.may.live all.appends;
        all = all;
      },
    )
