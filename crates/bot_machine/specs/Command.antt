-- Command block wrappers, as bytes.
use Rattle.std.specs.Prelude.{◌≡◌, ◌≢◌, ℕ, List, length, take}
use Rattle.bot_machine.specs.declared.command.CbwFault.{CbwFault}
use Rattle.bot_machine.specs.declared.command.CbwFault.TheVariants.{Length, Signature}
use Rattle.bot_machine.specs.declared.command.CbwFault.TheVariants.{NotMeaningful}
use Rattle.spec.specs.CommandWrapper.{IsMeaningful, IsValid, command_signature}

-- the one fault of a packet that spells no command block wrapper
abbrev pub HasFault : List ℕ → CbwFault → Type 0
HasFault packet Length = length packet ≢ 31
HasFault packet Signature = (length packet ≡ 31) × (take 4 packet ≢ command_signature)
HasFault packet NotMeaningful = IsValid packet × (¬ IsMeaningful packet)
