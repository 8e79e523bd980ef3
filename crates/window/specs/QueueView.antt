-- How what a device is to carry out lies in memory.
use Rattle.std.specs.Prelude.{vec_len}
use Rattle.window.specs.Queue.{Queue}
use Rattle.window.specs.Ring.{calls_in}
use Rattle.window.specs.declared.outbox.Outbox.TheInside.{Inside}

abbrev pub view_of : Inside → Queue
view_of m = record {
  items = calls_in (vec_len m.kinds) m.kinds.items m.blocks.bytes.items m.head m.count;
  room = vec_len m.kinds;
}
