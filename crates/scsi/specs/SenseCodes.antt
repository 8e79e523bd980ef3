-- The named senses: sense key, additional sense code and its qualifier (SPC-4 4.5.6).
use Rattle.scsi.specs.declared.sense_key.SenseKey.TheVariants.{NoSense, MediumError, HardwareError}
use Rattle.scsi.specs.declared.sense_key.SenseKey.TheVariants.{IllegalRequest, UnitAttention}
use Rattle.scsi.specs.Sense.{Sense}

-- 0/00/00: nothing to report
abbrev pub no_sense : Sense
no_sense = record { key = NoSense; code = 0x00; qualifier = 0x00 }

-- 3/11/00: the medium refused a read
abbrev pub unrecovered_read_error : Sense
unrecovered_read_error = record { key = MediumError; code = 0x11; qualifier = 0x00 }

-- 3/0C/00: the medium refused what a write needed
abbrev pub write_error : Sense
write_error = record { key = MediumError; code = 0x0c; qualifier = 0x00 }

-- 4/44/00: the unit cannot serve its medium any longer
abbrev pub internal_target_failure : Sense
internal_target_failure = record { key = HardwareError; code = 0x44; qualifier = 0x00 }

-- 5/1A/00: the parameter list would be cut in the middle of a field
abbrev pub parameter_list_length_error : Sense
parameter_list_length_error = record { key = IllegalRequest; code = 0x1a; qualifier = 0x00 }

-- 5/20/00: the operation code is none that the unit knows
abbrev pub invalid_command_operation_code : Sense
invalid_command_operation_code = record { key = IllegalRequest; code = 0x20; qualifier = 0x00 }

-- 5/21/00: the blocks go past the end of the medium
abbrev pub logical_block_address_out_of_range : Sense
logical_block_address_out_of_range = record { key = IllegalRequest; code = 0x21; qualifier = 0x00 }

-- 5/24/00: a field of the command descriptor block is not supported
abbrev pub invalid_field_in_cdb : Sense
invalid_field_in_cdb = record { key = IllegalRequest; code = 0x24; qualifier = 0x00 }

-- 5/26/00: a field of the data that came with the command is not supported
abbrev pub invalid_field_in_parameter_list : Sense
invalid_field_in_parameter_list = record { key = IllegalRequest; code = 0x26; qualifier = 0x00 }

-- 5/39/00: the unit saves no mode pages
abbrev pub saving_parameters_not_supported : Sense
saving_parameters_not_supported = record { key = IllegalRequest; code = 0x39; qualifier = 0x00 }

-- 6/29/00: power on, reset, or bus device reset occurred
abbrev pub power_on_or_reset_occurred : Sense
power_on_or_reset_occurred = record { key = UnitAttention; code = 0x29; qualifier = 0x00 }
