-- Calls that a file is asked for one behind the other.
use Rattle.std.proofs.Common.{◌≡◌, ◌⊎◌, Bool, true, false, List, [], ◌∷◌, ◌++◌, refl, sym, ◌∙◌, ap, arith, append_assoc, inl, inr}
use Rattle.std.proofs.Common.{length-append, Result, Ok, Err, IfErr}
use Rattle.window.specs.declared.call.DeviceCall.{DeviceCall}
use Rattle.std.proofs.lemmas.List.{append-nil}
use Rattle.window.specs.Window.{Window}
use Rattle.device_file.specs.Asked.{AsksInOrder, Told, answered}
use Rattle.device_file.specs.InRuns.{AsksInRuns, IsAskedInRuns}
use Rattle.device_file.specs.Outbox.{IsCarriedOut}
use Rattle.device_file.specs.declared.fault.FileCall.TheVariants as call
use Rattle.device_file.specs.declared.fault.FileFault.{FileFault}
use Rattle.device_file.proofs.Joined.{none_asked, runs_alone}
use Rattle.device_file.proofs.Puts.{answered_twice, in_order_all}

-- one call
pub one_call : (call : DeviceCall) (good : Bool) (old new : Told) → new ≡ answered good (call ∷ []) old
    → AsksInOrder (call ∷ []) good old new
one_call call good old new now =
    record { part = call ∷ []; rest = []; parts = refl; told_is = now; all = λ same. refl; some = λ bad. omega arith }

-- one of the first calls was refused
pub stops_before : {c : List DeviceCall} {old new : Told} (d : List DeviceCall) → AsksInOrder c false old new
    → AsksInOrder (c ++ d) false old new
stops_before d f = record {
  part = f.part;
  rest = f.rest ++ d;
  parts = ap (λ (l : List DeviceCall). l ++ d) f.parts ∙ append_assoc f.part f.rest d;
  told_is = f.told_is;
  all = λ same. absurd (cc);
  some = f.some;
}

-- all were carried out, and then others were asked for
pub goes_on : {c d : List DeviceCall} {good : Bool} {old between new : Told} → AsksInOrder c true old between
    → AsksInOrder d good between new → AsksInOrder (c ++ d) good old new
goes_on {c = c} {good = good} {old = old} f g = record {
  part = c ++ g.part;
  rest = g.rest;
  parts = ap (λ (l : List DeviceCall). c ++ l) g.parts ∙ sym (append_assoc c g.part g.rest);
  told_is = g.told_is ∙ ap (λ (t : Told). answered good g.part t) (in_order_all f) ∙ answered_twice good c g.part old;
  all = g.all;
  some = λ bad. omega (arith, g.some bad, length-append c g.part);
}

-- a refusal names a write, or a synchronising
pub named_write : (result : Result (Unit {0}) FileFault) → IfErr result (λ fault. fault.call ≡ call.Write)
    → IfErr result (λ fault. (fault.call ≡ call.Write) ⊎ (fault.call ≡ call.Sync))
named_write (Ok done) named = tt
named_write (Err fault) named = inl named

pub named_sync : (result : Result (Unit {0}) FileFault) → IfErr result (λ fault. fault.call ≡ call.Sync)
    → IfErr result (λ fault. (fault.call ≡ call.Write) ⊎ (fault.call ≡ call.Sync))
named_sync (Ok done) named = tt
named_sync (Err fault) named = inr named

module _ {D : Type 0} {told : D → Told} {at_once : D → List DeviceCall → D → Type 0} where
  -- it was asked for nothing
  pub asked_none : (file : D) → IsAskedInRuns told at_once file file
  asked_none file = record { calls = []; asked = sym (append-nil (told file).asked); runs = none_asked at_once file [] }

  -- for what was taken out of a window
  pub asked_out : {was is : D} {old new : Window} {good : Bool} (f : IsCarriedOut good (told was) (told is) old new)
      → AsksInRuns at_once was is old.outbox new.outbox → IsAskedInRuns told at_once was is
  asked_out f runs = record { calls = f.part; asked = f.asked; runs = runs_alone at_once _ _ _ f.part _ f.lets_go.waited runs }
