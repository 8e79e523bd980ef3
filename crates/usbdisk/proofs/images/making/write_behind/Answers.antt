use Rattle.std.{proofs.Common.{◌∙◌, true}, specs.Prelude.is_ok}
use Rattle.window.specs.declared.call.DeviceCall.TheVariants.{Write, Flush}
use Rattle.usbdisk.proofs.InOrder.{one_call, goes_on, named_write}
use Rattle.usbdisk.proofs.images.making.write_behind.Goals as goal

pub returns : goal.returns
returns g c = record {
  in_order = goes_on (one_call Flush true _ _ c.in_ok-sync.ensures.asks.asked)
      (one_call (Write (record { sector = c.args.sector; block = c.args.block.now })) (is_ok c.write_sector.result) _ _
      c.write_sector.ensures.asked);
  size = c.write_sector.ensures.size ∙ c.in_ok-sync.ensures.asks.size;
  named = named_write c.write_sector.result c.write_sector.ensures.named;
}
