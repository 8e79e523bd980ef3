-- The parts that are still to come.
use Rattle.std.specs.Prelude.{ℕ, List}
use Rattle.usbdisk.specs.{runner.Lines.parts_in, declared.runner.parts.Parts.Parts}

abbrev pub parts_left : Parts → List (List ℕ)
parts_left parts = parts_in parts.separator parts.rest
