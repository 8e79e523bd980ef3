use Rattle.std.proofs.Common.{rules, ◌≡◌}
use Rattle.spec.specs.{declared.event.Answer.TheVariants.Data, Exchange.in_answer}
use Rattle.scsi_unit.proofs.UnitRuns.{comes_itself}
use Rattle.bot_machine.proofs.OutPackets.{token, asked}
use Rattle.bot_machine.proofs.run.answer_to.Goals as goal

pub returns-in-Data-clause-step : goal.returns-in-Data-clause-step
returns-in-Data-clause-step g c =
    let disk = c.args.disk.now in
    let told : Data c.unwrap.result ≡ in_answer disk.line = search rules in
    rw (c.bulk_in.follows.holds-at-none, c.in-In.is, told) (token _ disk (g.met.M.Medium.sound disk.unit.store.medium))

pub returns-in-Nak-clause-step : goal.returns-in-Nak-clause-step
returns-in-Nak-clause-step g c =
    let disk = c.args.disk.now in
    rw (c.bulk_in.follows.holds-at-none, c.in-In.is, c.in-Nak.ensures.answer) (token _ disk (g.met.M.Medium.sound disk.unit.store.medium))

pub returns-in-Stall-clause-step : goal.returns-in-Stall-clause-step
returns-in-Stall-clause-step g c =
    let disk = c.args.disk.now in
    rw (c.bulk_in.follows.holds-at-none, c.in-In.is, c.in-Stall.ensures.answer) (token _ disk (g.met.M.Medium.sound disk.unit.store.medium))

pub returns-in-Setup-clause-step : goal.returns-in-Setup-clause-step
returns-in-Setup-clause-step g c =
    let disk = c.args.disk.now in
    rw (c.setup.ensures.others, c.in-Setup.is, c.from-in-Setup.ensures)
    (asked _ disk c.in-Setup.packet _ _ (g.met.M.Medium.sound disk.unit.store.medium) c.setup.ensures.request)

pub returns-in-Data-clause-follows : goal.returns-in-Data-clause-follows
returns-in-Data-clause-follows g c = rw c.bulk_in.follows.holds-at-none (comes_itself g.met.M.Medium.follows_itself)

pub returns-in-Nak-clause-follows : goal.returns-in-Nak-clause-follows
returns-in-Nak-clause-follows g c = rw c.bulk_in.follows.holds-at-none (comes_itself g.met.M.Medium.follows_itself)

pub returns-in-Stall-clause-follows : goal.returns-in-Stall-clause-follows
returns-in-Stall-clause-follows g c = rw c.bulk_in.follows.holds-at-none (comes_itself g.met.M.Medium.follows_itself)

pub returns-in-Setup-clause-follows : goal.returns-in-Setup-clause-follows
returns-in-Setup-clause-follows g c = rw c.setup.ensures.others (comes_itself g.met.M.Medium.follows_itself)
