use Rattle.std.proofs.Common.{◌≡◌, ◌⊎◌, ℕ, List, [], inl, inr}
use Rattle.window.specs.{Runs.AsksFirst, declared.{ask.{DeviceAsk.DeviceAsk, DeviceRead.DeviceRead}, call.DeviceCall.DeviceCall}}
use Rattle.store_calls.proofs.OutboxTaken.{longest, some_run}
use Rattle.window.specs.declared.ask.DeviceAsk.TheVariants as ask
use Rattle.disk_machine.proofs.machine.DiskMachine.ask_in_order.Goals as goal

pub returns-in-Write : goal.returns-in-Write
returns-in-Write c = λ free room none.
    let copies = rw c.medium.ensures.is at c.in-Write.ensures in
    let hands = c.hand_out.ensures free in
    (hands, some_run _ _ _ _ _ copies room, longest _ _ _ _ _ _ copies hands.gone, none)

-- none waits
none_waits : (waits : List DeviceCall) (room filled : List ℕ) (what : DeviceAsk)
    → (what ≡ ask.Nothing) ⊎ ((read : DeviceRead) × (what ≡ ask.Read read))
    → AsksFirst waits room what filled → (waits ≡ []) × (filled ≡ room)
none_waits waits room filled ask.Nothing is asks = asks
none_waits waits room filled (ask.Write first count) is asks = absurd (elim is [ inl e ↦ cc | inr e ↦ cc ])
none_waits waits room filled ask.Flush is asks = absurd (elim is [ inl e ↦ cc | inr e ↦ cc ])
none_waits waits room filled (ask.Read read) is asks = absurd asks

pub returns-in-Nothing : goal.returns-in-Nothing
returns-in-Nothing c = λ free room lacks.
    let asks = rw c.medium.ensures.is at c.ask-ask.ensures in
    let none = none_waits _ c.args.buffer.now c.ask-ask.new.to c.ask-ask.result c.in-Nothing.is asks in
    rw none.1 (c.read_ahead.ensures free none.0 lacks c.args.buffer.now)
