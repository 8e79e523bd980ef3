use Rattle.calls.proofs.work.begin_log.Goals as goal

pub returns : goal.returns
returns g c =
    let made = rw (c.into_near-near.ensures, c.device_holding-device.ensures) at c.lay_log.ensures in
    (c.lay_log.result, c.held_image.ensures, made)
