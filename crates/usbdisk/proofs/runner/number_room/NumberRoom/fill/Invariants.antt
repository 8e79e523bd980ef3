use Rattle.std.proofs.Common.{◌≡◌, take}
use Rattle.usbdisk.proofs.runner.number_room.NumberRoom.fill.Given as goal

abbrev pub invariant-loop-number : goal.invariant-loop-number
invariant-loop-number l = record { items : l.self.numbers.items ≡ take l.number-index l.these }
