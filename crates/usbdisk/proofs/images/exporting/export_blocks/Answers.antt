use Rattle.std.proofs.Common.{inl, inr, refl}
use Rattle.usbdisk.proofs.Exports.{copy_stopped, home_stopped, home_all}
use Rattle.usbdisk.proofs.images.exporting.export_blocks.Goals as goal

pub returns-in-Err-clause-err : goal.returns-in-Err-clause-err
returns-in-Err-clause-err g c =
    copy_stopped c.args.image.now.sizes c.args.image.now.window.outbox c.in-Err.fault c.in-Err.ensures.err

pub returns-in-Err-carry_home-clause-err : goal.returns-in-Err-carry_home-clause-err
returns-in-Err-carry_home-clause-err g c =
    home_stopped c.args.image.now.sizes c.args.image.now.window.outbox c.in-Err-carry_home.fault c.in-Ok.ensures.ok
    c.in-Err-carry_home.ensures.goes.in_order

pub returns-in-Ok-carry_home-clause-ok : goal.returns-in-Ok-carry_home-clause-ok
returns-in-Ok-carry_home-clause-ok g c =
    home_all c.args.image.now.sizes c.args.image.now.window.outbox c.in-Ok.ensures.ok c.in-Ok-carry_home.ensures.goes.in_order

pub returns-in-Err-clause-runs : goal.returns-in-Err-clause-runs
returns-in-Err-clause-runs g c = record { copied = c.copy_home.new.plain; blocks = c.in-Err.ensures.runs; home = inl refl }

pub returns-in-Ok-carry_home-clause-runs : goal.returns-in-Ok-carry_home-clause-runs
returns-in-Ok-carry_home-clause-runs g c =
    record { copied = c.copy_home.new.plain; blocks = c.in-Ok.ensures.runs; home = inr c.carry_home.ensures.runs }

pub returns-in-Err-carry_home-clause-runs : goal.returns-in-Err-carry_home-clause-runs
returns-in-Err-carry_home-clause-runs g c =
    record { copied = c.copy_home.new.plain; blocks = c.in-Ok.ensures.runs; home = inr c.carry_home.ensures.runs }
