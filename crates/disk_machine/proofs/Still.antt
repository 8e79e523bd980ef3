-- An event that asks the device for nothing: a token, a request, or a packet.
use Rattle.std.proofs.Common.{◌≡◌, ℕ, List, [], ◌∷◌, arith, ap, refl}
use Rattle.spec.specs.declared.event.{Event.Event, Answer.Answer}
use Rattle.window.specs.Window.{Window}
use Rattle.disk_machine.specs.Plays.{Disk, PlaysStill, TellsAnswer}
use Rattle.disk_machine.specs.{Machine.Machine, Moves.{KeepsGoing, ServesTurns, played}, Packets.ServesStill}
use Rattle.disk_machine.proofs.Finding.{still_leaves, still_serves, made}

module _ (old new : Machine) (event : Event) (answer : Answer) (plays : PlaysStill old.disk event answer new.disk)
    (same : new.asked ≡ old.asked) where
  pub still_goes_on : new.most ≡ old.most → KeepsGoing old new
  still_goes_on most = record {
    room = λ beside. record { steps = omega (arith, most, ap (λ (w : Window). w.room) plays.medium, beside.steps) };
    dead = λ dead. (still_leaves old new same plays.medium, plays.step.dead_stays dead);
  }

  -- it promises nothing
  pub still_serves_on : ServesTurns (played event answer ∷ []) old new
  still_serves_on =
      still_serves old new same event answer plays.step
      (λ book c stands. (made old.disk new.disk event answer plays.step book c stands).mark (λ no. no))
      (still_leaves old new same plays.medium)

-- only the disk has changed, and the answer is told
pub serves_still : (old : Machine) (disk : Disk) (event : Event) (answer : Answer) (room filled : List ℕ) (size code : ℕ)
    → PlaysStill old.disk event answer disk → TellsAnswer answer room filled size code
    → ServesStill old event room (record old { disk = disk }) filled size code
serves_still old disk event answer room filled size code plays tells =
    let new : Machine = record old { disk = disk } in record {
      answer = answer;
      plays = plays;
      tells = tells;
      others = refl;
      serves = still_serves_on old new event answer plays refl;
      leaves = still_leaves old new refl plays.medium;
      goes_on = still_goes_on old new event answer plays refl refl;
    }
