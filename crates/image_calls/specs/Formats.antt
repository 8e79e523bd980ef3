-- An image is made on a device, a part at a time: the next waits where the one before it is handed
-- out.
use Rattle.std.specs.Prelude.{◌≡◌, ◌⊎◌, ℕ, ◌+◌, ◌<◌, ◌≤◌, length, None}
use Rattle.window.specs.Window.{Window, state_of}
use Rattle.journal.specs.{Places.Shape}
use Rattle.image_calls.specs.{Images.WaitFor, Parts.IsOnWay, declared.work.Work.Work}
use Rattle.image_calls.specs.declared.plan.{Aim.Aim}
use Rattle.image_calls.specs.declared.plan.Aim.TheVariants as aim

-- how many calls a part is at most
abbrev pub most_of_part : ℕ
most_of_part = 32

-- What is made of this shape, which began on the first medium: it is under way, or made where
-- nothing is left of it. An outbox has room for each part.
pub record IsMaking (what : Aim) (shape : Shape) (first : Window) (work : Work) : Type 0 where
  pub on_way : IsOnWay state_of what shape work.left first work.medium
  pub room : most_of_part ≤ work.medium.room

-- It has begun: two calls wait, which take the super away, and what is left comes behind them.
pub record BeginsMaking (what : Aim) (shape : Shape) (first : Window) (work : Work) : Type 0 where
  pub making : IsMaking what shape first work
  pub calls : (state_of work.medium).calls ≡ (state_of first).calls + 2
  pub waits : WaitFor first work.medium

-- a format
abbrev pub BeginsFormat : Shape → Window → Work → Type 0
BeginsFormat shape first work = BeginsMaking aim.Format shape first work

-- the laying of a log
abbrev pub BeginsLog : Shape → Window → Work → Type 0
BeginsLog shape first work = BeginsMaking aim.Laying shape first work

-- Where nothing waits, what comes next is made, so that calls wait or nothing is left. Whatever
-- was under way is so still, or made.
pub record MakesParts (old new : Work) : Type 0 where
  pub waits : WaitFor old.medium new.medium
  pub keeps : (what : Aim) (shape : Shape) (first : Window) → IsMaking what shape first old
      → IsMaking what shape first new
  pub ends : (what : Aim) (shape : Shape) (first : Window) → IsMaking what shape first old
      → (0 < length new.medium.outbox) ⊎ (new.left ≡ None)
  pub stays : (0 < length old.medium.outbox) ⊎ (old.left ≡ None) → new ≡ old
