use Rattle.std.proofs.{Common.{◌≡◌, ◌∙◌, ℕ, List, inl, inr, refl, ap}, KnownBytes.Keeps-refl}
use Rattle.spec.specs.Exchange.{Line}
use Rattle.device_file.specs.Asked.{Told}
use Rattle.window.specs.declared.call.DeviceCall.{DeviceCall}
use Rattle.usbdisk.specs.runner.Played.{packets_of}
use Rattle.usbdisk.specs.{live.Missing.DiskOn, live.Serving.refusal_of_serving, live.Starting.IsStartedOn}
use Rattle.usbdisk.proofs.live.serving.serve_file.Goals as goal

-- packets have as many bytes as the start was given
packets : {D : Type 0} {told : D → Told} {at_once : D → List DeviceCall → D → Type 0} {holds : D → ℕ → List ℕ → Type 0}
    {size : D → ℕ} {device : List ℕ} {most : ℕ} {file : D} {new : DiskOn D}
    → IsStartedOn told at_once holds size device most file new → packets_of new ≡ most
packets {D} on =
    ap (λ (d : DiskOn D). d.line.packet_size) on.started.starts.others ∙ ap (λ (l : Line). l.packet_size) on.started.starts.opens.line

pub returns-in-Err-clause-refused : goal.returns-in-Err-clause-refused
returns-in-Err-clause-refused g c = inl (c.in-Err.ensures.refused, refl, Keeps-refl (g.O.Write.contents c.args.streams.now.out))

pub returns-in-Ok-serve_player-clause-served : goal.returns-in-Ok-serve_player-clause-served
returns-in-Ok-serve_player-clause-served g c = record {
  first = c.in-Ok.disk;
  started = c.in-Ok.ensures.started;
  last = c.serve_player.new.player;
  served = rw (← packets c.in-Ok.ensures.started) c.in-Ok-serve_player.ensures.served;
  given = c.into_file.ensures;
}

pub returns-in-Err-serve_player-clause-refused : goal.returns-in-Err-serve_player-clause-refused
returns-in-Err-serve_player-clause-refused g c = rw c.with.ensures (inr (record {
  first = c.in-Ok.disk;
  started = c.in-Ok.ensures.started;
  last = c.serve_player.new.player;
  fault = c.in-Err-serve_player.fault;
  stopped = rw (← packets c.in-Ok.ensures.started) c.in-Err-serve_player.ensures.stopped;
  refused_is = c.refusal_of.ensures ∙ ap (λ why. refusal_of_serving c.in-Err-serve_player.fault why) c.fault.ensures;
  given = c.into_file-in-Err-serve_player.ensures;
}))
