use Rattle.std.proofs.Common.{◌≡◌, refl, arith}
use Rattle.spec.specs.{Exchange.in_answer, declared.event.Answer.{TheVariants.{Data, Nak, Stall}, Answer}}
use Rattle.window.specs.Window.{state_of}
use Rattle.bot_machine.specs.LaggingDisk.{IsLagStep, after_token}
use Rattle.disk_machine.specs.Plays.{Disk, medium_of, PlaysStill}
use Rattle.disk_machine.proofs.tokens.give_packet.Goals as goal
use Rattle.spec.specs.declared.event.Event.TheVariants as event

plays : (old new : Disk) (answer : Answer) → new ≡ after_token old → answer ≡ in_answer old.disk.line
    → IsLagStep ⊥ (state_of (medium_of old)) (state_of (medium_of old)) old event.In (in_answer old.disk.line) (after_token old)
    → PlaysStill old event.In answer new
plays old new answer after told step = rw (after, told) (record { step = step; medium = refl })

pub returns-in-Nak : goal.returns-in-Nak
returns-in-Nak c =
    let plays = plays _ _ Nak c.bulk_in.follows.holds-at-none c.in-Nak.ensures.answer c.in-Nak.ensures.step in
    (Nak, plays, record { code_is = refl; size_is = refl; bytes_are = refl }, omega arith)

pub returns-in-Stall : goal.returns-in-Stall
returns-in-Stall c =
    let plays = plays _ _ Stall c.bulk_in.follows.holds-at-none c.in-Stall.ensures.answer c.in-Stall.ensures.step in
    (Stall, plays, record { code_is = refl; size_is = refl; bytes_are = refl }, omega arith)

pub returns-in-Data : goal.returns-in-Data
returns-in-Data c =
    let packet = c.in-Data.packet.now in
    let answer = Data (record { items = packet }) in
    let plays = plays _ _ answer c.bulk_in.follows.holds-at-none c.in-Data.ensures.answer c.in-Data.ensures.step in
    (answer, plays, record { code_is = refl; size_is = refl; bytes_are = cc }, c.in-Data.ensures.fits)
