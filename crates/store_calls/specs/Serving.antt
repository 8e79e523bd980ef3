-- What each call of a machine keeps.
use Rattle.std.specs.Prelude.{◌≡◌, []}
use Rattle.medium.specs.{Medium.Image}
use Rattle.window.specs.{OutboxMedium.sent, Window.Window}
use Rattle.logical_blocks.specs.Book.{Book}
use Rattle.blocks.specs.{StoreValue.FitsBook}
use Rattle.store_calls.specs.Rooms.{CoversParts, IsRoomy, HoldsLog}
use Rattle.store_calls.specs.StoreMachine.{Machine, IsCaughtUp, MayLeave, Serves, begun}
use Rattle.store_calls.specs.{Stores.Store}
use Rattle.window.specs.Window as window

-- a loss of power leaves no more than before
abbrev pub LeavesNoMore : Machine → Machine → Type 0
LeavesNoMore old new = (image : Image) → MayLeave new image → MayLeave old image

-- What a loss of power leaves, wherever in what it was told the device is, a cut at some moment of
-- the calls of the medium since this one could leave.
abbrev pub LeavesSince : Window → Machine → Type 0
LeavesSince first s = (image : Image) → MayLeave s image
    → (window.state_of s.store.medium).left_since (window.state_of first).calls image

-- so it is of a machine over a store that has just started, on a medium of which nothing was sent
abbrev pub BeginsBehind : Machine → Type 0
BeginsBehind s = (first : Window) → sent (window.mirror_of first) ≡ []
    → CoversParts first s.store.medium → LeavesSince first s

-- where the device has carried out all, each life that the store fits is served
abbrev pub ServesAtRest : Machine → Type 0
ServesAtRest s = IsCaughtUp s → (book : Book)
    → FitsBook (window.state_of s.store.medium) s.store.cached book → Serves s book

-- both, of every machine
pub record Rests (s : Machine) : Type 0 where
  pub serves : ServesAtRest s
  pub starts : BeginsBehind s

-- whatever life it serves it serves on, with the same book
abbrev pub ServesOn : Machine → Machine → Type 0
ServesOn old new = (book : Book) → Serves old book → Serves new book

-- a machine over a store that has just started
pub record BeginsOver (store : Store) (new : Machine) : Type 0 where
  pub is : new ≡ begun store
  pub rests : Rests new

-- the outbox has room for what steps leave there, and the log or the sectors before the first home
-- sector lie in memory: so a start leaves it
pub record KeepsGoing (old new : Machine) : Type 0 where
  pub roomy : IsRoomy old.store → IsRoomy new.store
  pub log : HoldsLog old.store → HoldsLog new.store

-- a call that tells the device nothing new
pub record StaysSafe (old new : Machine) : Type 0 where
  pub serves : ServesOn old new
  pub leaves : LeavesNoMore old new
  pub since : (first : Window) → LeavesSince first old → LeavesSince first new
  pub goes_on : KeepsGoing old new
