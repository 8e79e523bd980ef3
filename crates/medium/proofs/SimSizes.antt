-- Calls leave the sizes of a medium in memory.
use Rattle.std.proofs.Common.{Bool, true, false, List, [], ◌∷◌, ◌∙◌, refl, arith}
use Rattle.std.proofs.lemmas.Bool.{cases_Bool}
use Rattle.medium.specs.Arming.{KeepsSizes, SizesStay}
use Rattle.medium.specs.Power.{admits}
use Rattle.medium.specs.Sim.{Sim, SimCall, reading, writing, flushing, fits, Flushes, Makes, MakeAll}
use Rattle.medium.specs.declared.fault.MediumFault.TheVariants.{Write, Flush}

flushed : (happens : Bool) (old new : Sim) → Flushes happens old new → KeepsSizes old new
flushed true old new f = record { bytes = f.size_stays; room = f.room_stays }
flushed false old new is = rw is (record { bytes = refl; room = refl })

made_once : (call : SimCall) (old new : Sim) → Makes call old new → KeepsSizes old new
made_once reading old new is = rw is (record { bytes = refl; room = refl })
made_once (writing s bytes) old new is = grind (arith, cases_Bool (admits old.power Write (fits old)), is)
made_once flushing old new f = flushed (admits old.power Flush true) old new f

made_all : (calls : List SimCall) (old new : Sim) → MakeAll calls old new → KeepsSizes old new
made_all [] old new is = rw is (record { bytes = refl; room = refl })
made_all (call ∷ calls) old new made =
    let first = made_once call old made.0 made.1 in
    let rest = made_all calls made.0 new made.2 in
    record { bytes = rest.bytes ∙ first.bytes; room = rest.room ∙ first.room }

pub sizes_stay : SizesStay
sizes_stay old new after = made_all after.calls old new after.made
