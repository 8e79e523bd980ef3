use Rattle.calls.proofs.work.begin_format.Goals as goal

pub returns : goal.returns
returns g c =
    let made = rw (c.into_near-near.ensures, c.device_holding-device.ensures) at c.format.ensures in
    (c.format.result, c.held_image.ensures, made)
