use Rattle.std.proofs.Common.{List, ℕ, subst, sym, arith}
use Rattle.device_file.specs.Reads.{AreRead, AreReadByTwo}
use Rattle.device_file.proofs.Gave.{alone, put_back}
use Rattle.device_file.proofs.opening.FirstSectors.read.Goals as goal

pub returns-clause-read : goal.returns-clause-read
returns-clause-read g c = subst (λ (bytes : List ℕ). AreRead (g.D.DeviceFile.holds c.args.file.now) 0 bytes)
    (sym (put_back c.in-Ok.bytes.len c.fill.new.bytes c.in-Ok.bytes.items (omega arith)))
    (c.in_ok-fill.ensures.read (alone (g.D.DeviceFile.holds c.args.file.now) c.read.new.to (omega arith) c.in_ok-read.ensures.read))

pub returns-clause-calls : goal.returns-clause-calls
returns-clause-calls g c = subst (λ (bytes : List ℕ). AreReadByTwo (g.D.DeviceFile.gave c.args.file.now) bytes)
    (sym (put_back c.in-Ok.bytes.len c.fill.new.bytes c.in-Ok.bytes.items (omega arith)))
    (record { sector = c.read.new.to; first = c.in_ok-read.ensures.once; others = c.in_ok-fill.ensures.once })
