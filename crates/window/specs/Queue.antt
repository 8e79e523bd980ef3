-- What a device is to carry out, in order.
use Rattle.std.specs.Prelude.{ℕ, List}
use Rattle.window.specs.declared.call.DeviceCall.{DeviceCall}

pub record Queue : Type 0 where
  pub items : List DeviceCall
  -- how many calls there is room for
  pub room : ℕ
