use Rattle.std.{proofs.Common.{◌∙◌, [], ◌∷◌, inl, inr, refl}, specs.Prelude.is_ok}
use Rattle.window.specs.declared.call.DeviceCall.TheVariants.{Flush}
use Rattle.usbdisk.proofs.InOrder.{goes_on, named_sync, one_call, stops_before}
use Rattle.usbdisk.proofs.images.exporting.carry_home.Goals as goal

pub returns-in-Ok-clause-goes : goal.returns-in-Ok-clause-goes
returns-in-Ok-clause-goes g c = record {
  in_order = goes_on c.in-Ok.ensures.takes.in_order
      (one_call Flush (is_ok c.make_durable.result) _ _ c.make_durable.ensures.asks.asked);
  size = c.make_durable.ensures.asks.size ∙ c.in-Ok.ensures.takes.size;
  named = named_sync c.make_durable.result c.make_durable.ensures.asks.named;
}

pub returns-in-Err-clause-goes : goal.returns-in-Err-clause-goes
returns-in-Err-clause-goes g c = record {
  in_order = stops_before (Flush ∷ []) c.in-Err.ensures.takes.in_order;
  size = c.in-Err.ensures.takes.size;
  named = inl c.in-Err.ensures.takes.named;
}

pub returns-in-Ok-clause-runs : goal.returns-in-Ok-clause-runs
returns-in-Ok-clause-runs g c =
    record { between = c.carry_moved.new.file; runs = c.carry_moved.ensures.runs; ends = inr c.make_durable.ensures.once }

pub returns-in-Err-clause-runs : goal.returns-in-Err-clause-runs
returns-in-Err-clause-runs g c = record { between = c.carry_moved.new.file; runs = c.carry_moved.ensures.runs; ends = inl refl }
