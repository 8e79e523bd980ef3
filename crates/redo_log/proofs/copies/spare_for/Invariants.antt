use Rattle.std.proofs.Common.{◌≡◌, ◌≤◌, length, vec_capacity}
use Rattle.redo_log.specs.Copies.{HaveRoom}
use Rattle.redo_log.proofs.copies.spare_for.Given as goal

abbrev pub invariant-loop : goal.invariant-loop
invariant-loop l = record {
  room : HaveRoom l.fn.most l.spare.items;
  many : length l.spare.items ≡ l.counter;
  capacity : l.fn.count ≤ vec_capacity l.spare;
}
