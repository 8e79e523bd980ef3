use Rattle.std.{proofs.Common.{◌∙◌, Bool, [], ◌∷◌, false}, specs.Prelude.is_ok}
use Rattle.window.specs.declared.call.DeviceCall.TheVariants.{Write, Flush}
use Rattle.device_file.specs.Asked.{AsksInOrder, Told}
use Rattle.journal.specs.Formats.{shape_of}
use Rattle.usbdisk.specs.images.NewImage.{IsAskedToBe, making}
use Rattle.usbdisk.proofs.{InOrder.{goes_on, named_sync, one_call, stops_before}, images.making.ask_to_be.Goals.After-first_head}
use Rattle.usbdisk.proofs.images.making.ask_to_be.Given as given
use Rattle.usbdisk.proofs.images.making.ask_to_be.Goals as goal

-- with this super and this head
asked : (g : given.Over) (c : After-first_head g) (good : Bool) (old new : Told)
    → AsksInOrder (making c.encode-super_sector.result c.first_head.result) good old new
    → IsAskedToBe (shape_of c.args.sizes.now) good old new
asked g c good old new in_order = record {
  super = c.encode-super_sector.result;
  head = c.first_head.result;
  is_super = c.encode-super_sector.ensures;
  is_head = c.first_head.ensures;
  in_order = in_order;
}

pub returns-in-Err : goal.returns-in-Err
returns-in-Err g c = record {
  asked = asked g (goal.at.returns-in-Err g c).After-first_head false _ _ (stops_before
      (Flush ∷ Write (record { sector = 0; block = c.encode-super_sector.result }) ∷ Flush ∷ []) c.in-Err.ensures.in_order);
  size = c.in-Err.ensures.size;
  named = c.in-Err.ensures.named;
}

pub returns-in-Err-write_behind : goal.returns-in-Err-write_behind
returns-in-Err-write_behind g c = record {
  asked = asked g (goal.at.returns-in-Err-write_behind g c).After-first_head false _ _
      (goes_on c.in-Ok.ensures.in_order (stops_before (Flush ∷ []) c.in-Err-write_behind.ensures.in_order));
  size = c.in-Err-write_behind.ensures.size ∙ c.in-Ok.ensures.size;
  named = c.in-Err-write_behind.ensures.named;
}

pub returns-in-Ok-write_behind : goal.returns-in-Ok-write_behind
returns-in-Ok-write_behind g c = record {
  asked = asked g (goal.at.returns-in-Ok-write_behind g c).After-first_head (is_ok c.sync.result) _ _
      (goes_on c.in-Ok.ensures.in_order (goes_on c.in-Ok-write_behind.ensures.in_order
      (one_call Flush (is_ok c.sync.result) _ _ c.sync.ensures.asks.asked)));
  size = c.sync.ensures.asks.size ∙ c.in-Ok-write_behind.ensures.size ∙ c.in-Ok.ensures.size;
  named = named_sync c.sync.result c.sync.ensures.asks.named;
}
