use Rattle.std.proofs.Common.{◌≡◌, [], ◌∷◌, Bool, true, false}
use Rattle.window.specs.declared.call.DeviceCall.TheVariants.{Write}
use Rattle.device_file.specs.Asked.{answered}
use Rattle.device_file.specs.Copied.{waiting_in}
use Rattle.device_file.specs.InRuns.{Takes}
use Rattle.device_file.proofs.Joined.{err_is, takes_leaves, takes_waiting, takes_next, took_alone, took_none, no_more_goes}
use Rattle.device_file.proofs.putting.put_block.Given as given
use Rattle.device_file.proofs.putting.put_block.Goals as goal
use Rattle.device_file.proofs.putting.put_block.Goals.{After-write}

-- what waited was written, and this one waits
next : (g : given.Over) (c : After-write g) (good : Bool) → g.D.DeviceFile.told c.write.new.self
    ≡ answered good (waiting_in c.take.new.self) (g.D.DeviceFile.told c.args.file.now)
    → Takes g.D.DeviceFile.told g.D.DeviceFile.at_once g.D.DeviceFile.size (Write c.args.write.now ∷ []) c.args.file.now
    c.write.new.self (waiting_in c.args.run.now) (Write c.args.write.now ∷ []) good
next g c good is =
    let run = c.args.run.now in
    rw (← c.if-take.ensures.left) (takes_next c.args.file.now c.write.new.self c.take.new.self.first c.take.new.self.blocks.items
    (Write c.args.write.now) good
    (rw c.if-take.ensures.left (took_none run.blocks.items c.take.result c.if-take.false c.take.ensures.first))
    (rw c.if-take.ensures.left (no_more_goes run.first run.blocks.items c.args.write.now run.few c.if-take.ensures.no_more))
    c.write.ensures.once is c.write.ensures.asks.size)

pub returns-then-take : goal.returns-then-take
returns-then-take g c = record {
  takes = takes_waiting c.args.file.now (Write c.args.write.now) (waiting_in c.args.run.now) (waiting_in c.take.new.self)
      c.if-take.ensures.taken;
  named = tt;
}

pub returns-in_err-write : goal.returns-in_err-write
returns-in_err-write g c = rw (err_is c.from_residual.result c.from_residual.ensures.1) (record {
  takes = takes_leaves (next g (goal.at.returns-in_err-write g c).After-write false c.in_err-write.ensures.asks.asked);
  named = c.in_err-write.ensures.asks.named;
})

pub returns : goal.returns
returns g c = record {
  takes = rw (← took_alone c.clear.new.self c.take-taken.new.self (Write c.args.write.now) c.take-taken.result c.clear.ensures
      (c.take-taken.ensures.first c.clear.ensures) c.take-taken.ensures.taken)
      (next g (goal.at.returns g c).After-write true c.in_ok-write.ensures.asks.asked);
  named = tt;
}
