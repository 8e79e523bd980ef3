use Rattle.std.proofs.Common.{List, ℕ, ◌∙◌, ◌++◌, drop, ap, arith}
use Rattle.medium.specs.Writes.{sector_of}
use Rattle.device_file.proofs.Gave.{front, both}
use Rattle.device_file.proofs.opening.fill.Goals as goal

pub returns-clause-front : goal.returns-clause-front
returns-clause-front g c = ap (λ (bytes : List ℕ). sector_of bytes 0) c.put_first.ensures
    ∙ front c.args.sector.now _ c.told-sector

pub returns-clause-read : goal.returns-clause-read
returns-clause-read g c = λ here. both (g.D.DeviceFile.holds c.args.file.now) c.args.sector.now c.read.new.to
    c.put_first.new.to c.told-sector (omega arith) c.put_first.ensures here c.in_ok-read.ensures.read

pub returns-clause-once : goal.returns-clause-once
returns-clause-once g c = record {
  whole = c.read.new.to;
  read = c.in_ok-read.ensures.once;
  are = c.put_first.ensures ∙ ap (λ (n : ℕ). c.args.sector.now ++ drop n c.read.new.to) c.told-sector;
}
