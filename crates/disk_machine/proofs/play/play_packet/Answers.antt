use Rattle.std.proofs.Common.{refl}
use Rattle.spec.specs.declared.event.Answer.TheVariants.{Ack, Nak, Stall}
use Rattle.disk_machine.proofs.play.play_packet.Goals as goal

pub returns-in-Ack : goal.returns-in-Ack
returns-in-Ack c = (Ack, record { step = c.in-Ack.ensures.step; medium = c.in-Ack.ensures.medium }, refl)

pub returns-in-Nak : goal.returns-in-Nak
returns-in-Nak c = (Nak, record { step = c.in-Nak.ensures.step; medium = c.in-Nak.ensures.medium }, refl)

pub returns-in-Stall : goal.returns-in-Stall
returns-in-Stall c = (Stall, record { step = c.in-Stall.ensures.step; medium = c.in-Stall.ensures.medium }, refl)
