use Rattle.std.proofs.Common.{◌≡◌, ◌∷◌, [], ◌++◌, List, ℕ, ◌<◌, length, drop, refl, sym, ap, ◌∙◌, arith, slice_set}
use Rattle.std.proofs.lemmas.List.{append-nil, drop_all}
use Rattle.spec.specs.declared.event.{Answer.{TheVariants.{Ack, Byte, Two, Stall}, Answer}, Event.Event}
use Rattle.window.specs.Window.{Window, state_of}
use Rattle.scsi_unit.specs.UnitValue.{UnitValue}
use Rattle.bot_machine.specs.LaggingDisk.{IsLagStep}
use Rattle.disk_machine.specs.Plays.{Disk, medium_of, unit_of, PlaysStill}
use Rattle.disk_machine.proofs.play.answer_request.Goals as goal

set_first : (to : List ℕ) (byte : ℕ) → 0 < length to → slice_set to 0 byte ≡ byte ∷ drop 1 to
set_first [] byte some = absurd (omega (arith, some))
set_first (x ∷ xs) byte some = refl

whole : (bytes to : List ℕ) → length to ≡ length bytes → bytes ≡ bytes ++ drop (length bytes) to
whole bytes to long = sym (ap (λ (l : List ℕ). bytes ++ l) (drop_all (length bytes) to (omega (arith, long))) ∙ append-nil bytes)

-- the unit stays as it is
plays : (old new : Disk) (event : Event) (answer : Answer)
    → IsLagStep ⊥ (state_of (medium_of old)) (state_of (medium_of new)) old event answer new → unit_of new ≡ unit_of old
    → PlaysStill old event answer new
plays old new event answer step same = record { step = step; medium = ap (λ (u : UnitValue Window). u.store.medium) same }

pub returns-in-Ack : goal.returns-in-Ack
returns-in-Ack c =
    let plays = plays _ _ _ _ c.in-Ack.ensures.step c.in-Ack.ensures.unit in
    (Ack, plays, record { code_is = refl; size_is = refl; bytes_are = refl })

pub returns-in-Byte : goal.returns-in-Byte
returns-in-Byte c =
    let plays = plays _ _ _ _ c.in-Byte.ensures.step c.in-Byte.ensures.unit in
    (Byte c.in-Byte.byte, plays, record { code_is = refl; size_is = refl; bytes_are = set_first _ _ (omega (arith, c.told-to)) })

pub returns-in-Two : goal.returns-in-Two
returns-in-Two c =
    let plays = plays _ _ _ _ c.in-Two.ensures.step c.in-Two.ensures.unit in
    let after = c.copy_from_slice.ensures.after in
    let long = ap (λ (l : List ℕ). length l) after in
    let bytes = after ∙ whole _ _ (sym c.copy_from_slice.ensures.len ∙ long) in
    (Two c.in-Two.bytes, plays, record { code_is = refl; size_is = sym c.copy_from_slice.array_long ∙ long; bytes_are = bytes })

pub returns-in-Stall : goal.returns-in-Stall
returns-in-Stall c =
    let plays = plays _ _ _ _ c.in-Stall.ensures.step c.in-Stall.ensures.unit in
    (Stall, plays, record { code_is = refl; size_is = refl; bytes_are = refl })
