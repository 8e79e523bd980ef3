-- What a handle owns: a box's block, or nothing behind null.
use base.Fml.{Fml, feq}
use denote.RattleType.{RattleType}
use denote.RawPtr.{Ptr, null_ptr}
use mir.Syntax.{Ty}
use Rattle.std.specs.contracts.impls.GlobalAllocator.TheImpl.{ghosts}
use Rattle.std.specs.Box.Ownership.{box_owns}
use Rattle.std.specs.Prelude.{Option, Some, None}

-- the right to free a block, which is the same at each handle of the heap
abbrev pub chunk : Ty → Ptr → Fml
chunk = ghosts.dealloc_token (record { memory = record { seal = tt } })

abbrev pub owned : (R : RattleType) → Ptr → Option R.Denot → Fml
owned R p (Some x) = box_owns chunk R p x
owned R p None = feq Ptr p null_ptr
