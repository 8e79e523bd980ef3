use Rattle.std.{proofs.Common.{◌≤◌, length}, specs.Io.KnownBytes.Consumes}
use Rattle.usbdisk.proofs.runner.read.read_into.Given as goal

abbrev pub invariant-reads : goal.invariant-reads
invariant-reads g l = record {
  fits : length l.bytes.items ≤ l.limit;
  taken : Consumes (g.R.Read.remaining l.fn.reader) (g.R.Read.remaining l.reader) l.bytes.items;
}
