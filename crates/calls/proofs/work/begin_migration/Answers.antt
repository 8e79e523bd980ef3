use Rattle.calls.proofs.work.begin_migration.Goals as goal

pub returns : goal.returns
returns g c =
    let made = rw (c.into_near-near.ensures, c.sectors-sectors.ensures, c.device_holding-device.ensures) at c.migrate.ensures in
    (c.migrate.result, c.held_image.ensures, made)
