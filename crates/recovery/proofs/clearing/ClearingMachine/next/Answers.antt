use Rattle.std.proofs.Common.{◌≡◌, ◌+◌, ◌-◌, arith, refl, ◌<◌, ℕ, List, inr, Ok, Result, replicate}
use Rattle.medium.{proofs.{Driving.left_all, Moments.gains_within}, specs.{declared.medium_call.Call.TheVariants.Write, Medium.State}}
use Rattle.medium.specs.{declared.fault.MediumFault.MediumFault, Performed.Performed}
use Rattle.recovery.specs.{Calls.{cleared_at, IsBetween}, NewImage.{ClearView, HoldsCleared}}
use Rattle.recovery.proofs.clearing.ClearingMachine.next.Goals as goal

module _ {M : Type 0} {state : M → State} {at end : ℕ} {view : ClearView M} {m n : M} {got : List ℕ} (below : at < end)
    (held : HoldsCleared state at end view m) where
  -- the zeros are written, or refused
  cleared_still : {result : Result (Unit {0}) MediumFault} → Performed (Write at) (replicate 512 0) got result (state m) (state n)
      → HoldsCleared state at end view n
  cleared_still performed =
      let within = gains_within (cleared_at (IsBetween view.from view.end) (state view.start).may_leave) _ _ at (replicate 512 0)
      held.within performed.adds
      (λ x bytes here. inr ((omega (arith, held.begun, here.0), omega (arith, below, held.end_is, here.0)), here.1)) in
      grind (arith, held.begun, held.end_is, held.zeros, held.elsewhere, performed.changes, within)

  -- they are written
  cleared_on : Performed (Write at) (replicate 512 0) got (Ok tt) (state m) (state n) → HoldsCleared state (at + 1) end view n
  cleared_on performed = let still = cleared_still performed in grind (arith, still.zeros, still.elsewhere, still.within)

pub returns : goal.returns
returns g c =
    let s = c.args.self.now in
    let due = c.if-self.false in
    let one : s.end - s.at ≡ s.end - (s.at + 1) + 1 = omega (arith, due) in
    record {
      due = omega (arith, due);
      within = omega (arith, due);
      looks = tt;
      made = λ m n got view next fits held performed after. rw (after.0, after.1) (cleared_on due held performed);
      refused = λ m n got view next e fits held performed gone. rw gone (cleared_still due held performed);
      rest = record { reads = 0; writes = s.end - (s.at + 1); flushes = 0 };
      pays = rw one refl;
      rests = λ got next after. left_all (rw (after.0, after.1) refl);
    }
