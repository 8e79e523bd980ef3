use Rattle.std.{proofs.{Common.{◌∙◌, ℕ, List, inl, inr, refl, subst}, KnownBytes.Keeps-refl}, specs.Io.KnownBytes.Appends}
use Rattle.usbdisk.specs.console.Streams.{AppendsSome}
use Rattle.window.specs.Window.{state_of}
use Rattle.usbdisk.proofs.Misses.{misses, none_sent, look_by_image}
use Rattle.usbdisk.proofs.images.showing.show_first.Goals as goal

pub returns-in-Err-clause-err : goal.returns-in-Err-clause-err
returns-in-Err-clause-err g c = inr (inl (record {
  window = c.in_ok-window.window;
  over = c.in_ok-window.ensures.ok;
  after = c.inspect.new.m;
  fault = c.in-Err.fault;
  cause = c.in-Err.ensures.err;
  follows = c.inspect.ensures.follows;
  by_image = λ sizes have.
      let old = state_of c.in_ok-window.window in
      let new = state_of c.inspect.new.m in
      let looks = c.inspect.ensures.looks in
      look_by_image old new c.in-Err.fault
      (misses c.args.first c.args.device.now.bytes sizes 0 c.in_ok-window.window c.inspect.new.m c.in_ok-window.ensures.ok have
      c.inspect.ensures.follows looks.looks
      (λ shape same has. none_sent old new looks.reads)) c.in-Err.ensures.err.cause;
  refused_is = refl;
  kept = Keeps-refl (g.O.Write.contents c.args.out.now);
}))

pub returns-in-Ok-write_out-clause-ok : goal.returns-in-Ok-write_out-clause-ok
returns-in-Ok-write_out-clause-ok g c = record {
  window = c.in_ok-window.window;
  over = c.in_ok-window.ensures.ok;
  answer = c.in-Ok.found;
  inspected = c.in-Ok.ensures.ok;
  written = subst
      (λ (text : List ℕ). Appends (g.O.Write.contents c.args.out.now) (g.O.Write.contents c.write_out.new.out) text)
      (c.deref.ensures.value ∙ c.in-Ok-text_of.ensures) c.in-Ok-write_out.ensures.ok;
}

pub returns-clause-err : goal.returns-clause-err
returns-clause-err g c = inr (inr (record {
  window = c.in_ok-window.window;
  over = c.in_ok-window.ensures.ok;
  answer = c.in-Ok.found;
  inspected = c.in-Ok.ensures.ok;
  failed = refl;
  written = subst
      (λ (text : List ℕ). AppendsSome (g.O.Write.contents c.args.out.now) (g.O.Write.contents c.write_out.new.out) text)
      (c.deref.ensures.value ∙ c.in-Ok-text_of.ensures) c.in-Err-write_out.ensures.err;
}))
