use Rattle.std.{proofs.Common.{◌≡◌, ◌++◌, ℕ, List}, specs.Io.KnownBytes.Appends}
use Rattle.usbdisk.proofs.console.output.write_out.Given as goal

-- what is gone from the rest was appended
abbrev pub invariant-writes : goal.invariant-writes
invariant-writes g l =
    (written : List ℕ) × (l.bytes ≡ written ++ l.rest) × Appends (g.W.Write.contents l.fn.out) (g.W.Write.contents l.out) written
