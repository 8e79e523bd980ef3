-- What a medium with an outbox was asked since the beginning.
use Rattle.std.specs.Prelude.{ℕ, Bool, true, List, [], ◌∷◌, ◌++◌, length, Option, Some, None, ◌==◌}
use Rattle.std.specs.List.{list_all}
use Rattle.medium.specs.Tally as tally
use Rattle.medium.specs.Tally.{Tally, one_more}
use Rattle.medium.specs.declared.fault.MediumFault.{MediumFault}
use Rattle.medium.specs.declared.fault.MediumFault.TheVariants as fault
use Rattle.window.specs.declared.call.DeviceCall.{DeviceCall}
use Rattle.window.specs.declared.call.DeviceCall.TheVariants.{Write, Flush}

pub record Told : Type 0 where
  -- the bytes of all sectors at the beginning, which the device holds durably then
  pub opening : List ℕ
  -- every call of the medium, in order: what it gave to the device, and nothing where it was a read
  -- or was refused
  pub asked : List (Option DeviceCall)
  -- what was taken out of the outbox, in order
  pub taken : List DeviceCall
  -- how many calls of each kind, and how many of them were refused
  pub made : Tally
  pub refused : Tally

abbrev pub kind_of : DeviceCall → MediumFault
kind_of (Write w) = fault.Write
kind_of Flush = fault.Flush

-- what these calls of the medium gave to the device, in order
abbrev pub given : List (Option DeviceCall) → List DeviceCall
given [] = []
given (None ∷ calls) = given calls
given (Some call ∷ calls) = call ∷ given calls

-- a write is of a whole sector
abbrev pub is_whole : DeviceCall → Bool
is_whole (Write w) = length w.block == 512
is_whole Flush = true

abbrev pub are_whole : List DeviceCall → Bool
are_whole calls = list_all is_whole calls

abbrev pub begun : List ℕ → Told
begun bytes = record {
  opening = bytes;
  asked = [];
  taken = [];
  made = tally.none;
  refused = tally.none;
}

abbrev pub read : Told → Told
read t = record t { asked = t.asked ++ None ∷ []; made = one_more t.made fault.Read }

abbrev pub gave : Told → DeviceCall → Told
gave t call = record t {
  asked = t.asked ++ Some call ∷ [];
  made = one_more t.made (kind_of call);
}

abbrev pub refused : Told → DeviceCall → Told
refused t call = record t {
  asked = t.asked ++ None ∷ [];
  made = one_more t.made (kind_of call);
  refused = one_more t.refused (kind_of call);
}

abbrev pub took : Told → DeviceCall → Told
took t call = record t { taken = t.taken ++ call ∷ [] }
