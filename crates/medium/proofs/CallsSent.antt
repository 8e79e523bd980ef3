-- How many writes and flushes a call is.
use Rattle.std.proofs.Common.{◌≡◌, ◌≢◌, ◌+◌, arith, Result}
use Rattle.medium.specs.Medium.{State, Passes}
use Rattle.medium.specs.Sent.{sent}
use Rattle.medium.specs.declared.fault.MediumFault.{MediumFault}
use Rattle.medium.specs.declared.fault.MediumFault.TheVariants.{Read, Write, Flush}

-- calls that are reads alone
pub none_sent : (old new : State) → ((kind : MediumFault) → kind ≢ Read → new.made kind ≡ old.made kind) → sent new ≡ sent old
none_sent old new reads = omega (arith, reads Write (λ e. absurd (cc e)), reads Flush (λ e. absurd (cc e)))

-- a read is none
pub read_sends : (old new : State) {result : Result (Unit {0}) MediumFault} → Passes Read result old new → sent new ≡ sent old
read_sends old new {result} call = none_sent old new call.others_made

-- a write is one
pub write_sends : (old new : State) {result : Result (Unit {0}) MediumFault} → Passes Write result old new → sent new ≡ sent old + 1
write_sends old new {result} call = omega (arith, call.made_is, call.others_made Flush (λ e. absurd (cc e)))

-- a flush is one
pub flush_sends : (old new : State) {result : Result (Unit {0}) MediumFault} → Passes Flush result old new → sent new ≡ sent old + 1
flush_sends old new {result} call = omega (arith, call.made_is, call.others_made Write (λ e. absurd (cc e)))
