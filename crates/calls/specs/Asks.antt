-- What a device is to do next, as C is told it.
use Rattle.window.specs.declared.ask.DeviceAsk.{DeviceAsk}
use Rattle.window.specs.declared.ask.DeviceAsk.TheVariants as ask
use Rattle.calls.specs.declared.asks.UsbDiskCall.{UsbDiskCall}

-- 0 is nothing, 1 writes, 2 a flush, 3 a read; of nothing and a flush no sectors are told
abbrev pub told_as : DeviceAsk → UsbDiskCall
told_as ask.Nothing = record { kind = 0; sector = 0; count = 0 }
told_as (ask.Write first count) = record { kind = 1; sector = first; count = count }
told_as ask.Flush = record { kind = 2; sector = 0; count = 0 }
told_as (ask.Read read) = record { kind = 3; sector = read.first; count = read.count }
