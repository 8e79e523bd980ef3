use Rattle.usbdisk.proofs.Within.{events_within}
use Rattle.usbdisk.proofs.runner.serve.answer_line.Goals as goal

pub play_asked-requires : goal.play_asked-requires
play_asked-requires g c =
    rw (← c.longest_packet-size.ensures) (record { within = events_within _ _ c.in-Some.asked c.in-Some.ensures.spelled.0 })
