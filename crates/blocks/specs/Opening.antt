-- The books with which a life may open over a medium. A layer above knows an image by these words
-- alone, and opens none of them: what it needs of the layers below the store is handed on here.
use Rattle.std.specs.Prelude.{◌≡◌, ◌^◌, ◌≤◌, ⊤, ℕ}
use Rattle.medium.specs.Medium.{State, Image, CutLeaves}
use Rattle.logical_blocks.specs.{Blocks.Array, Book.Book}
use Rattle.blocks.specs.Finding.{StandsAs}
use Rattle.medium.specs.declared.fault.MediumFault.TheVariants as medium
pub use Rattle.journal.specs.Places.{Shape}
pub use Rattle.journal.specs.Standing.{StandsFor, IsOurs, Stands}
pub use Rattle.recovery.specs.Causes.{IsRefusedCall}
pub use Rattle.recovery.specs.Recovered.{IsOursForSome, IsOursWithNext, StandsForOneOf}
pub use Rattle.recovery.specs.declared.start_fault.StartFault.{StartFault}
use Rattle.recovery.specs.declared.start_fault.StartFault.TheVariants as fault
pub use fault.{NoMemory, Read, Write, Flush, BadSuper, BadVersion, BadSize, BadHead, StampsUsedUp}
pub use fault.{LogTooSmall}
use Rattle.logical_blocks.specs.CrashStates as crash

-- the image of a medium of `size` sectors has `blocks` logical blocks in some shape, and stands for
-- this array with this next stamp
abbrev pub StandsForSome : ℕ → ℕ → Image → Array → ℕ → Type 0
StandsForSome size blocks image array next =
    (shape : Shape) × (shape.blocks ≡ blocks) × StandsFor size shape image array next

-- the image stands for the blocks and the next stamp with which the book opens
abbrev pub StandsForOpening : ℕ → Book → Image → Type 0
StandsForOpening size book image =
    StandsForSome size book.blocks image book.opening book.stamp

-- A first life over a medium opens with this book, by the promise.
abbrev pub OpensOn : State → Book → Type 0
OpensOn m book = crash.OpensOn (StandsForSome m.size) (StandsAs m.size) m.content
    (CutLeaves m.may_leave) book

-- Why a start is refused over contents with which a life opens with this book: for want of memory,
-- since the medium refused a call of the kind that the fault names, or since no stamp is left.
abbrev pub IsCauseFor : Book → State → State → StartFault → Type 0
IsCauseFor book before after NoMemory = ⊤
IsCauseFor book before after Read = IsRefusedCall before after medium.Read
IsCauseFor book before after Write = IsRefusedCall before after medium.Write
IsCauseFor book before after Flush = IsRefusedCall before after medium.Flush
IsCauseFor book before after StampsUsedUp = 2 ^ 63 ≤ book.stamp
IsCauseFor book before after _ = ⊥
