-- The senses that the code names, in the order of their constants.
use Rattle.std.specs.Prelude.{List, [], ◌∷◌}
use Rattle.scsi.specs.{Sense.Sense, SenseCodes.{no_sense, invalid_command_operation_code}}
use Rattle.scsi.specs.SenseCodes.{logical_block_address_out_of_range, invalid_field_in_cdb}
use Rattle.scsi.specs.SenseCodes.{invalid_field_in_parameter_list, parameter_list_length_error}
use Rattle.scsi.specs.SenseCodes.{saving_parameters_not_supported, power_on_or_reset_occurred}
use Rattle.scsi.specs.SenseCodes.{unrecovered_read_error, write_error, internal_target_failure}

abbrev pub named_senses : List Sense
named_senses =
    no_sense
    ∷ invalid_command_operation_code
    ∷ logical_block_address_out_of_range
    ∷ invalid_field_in_cdb
    ∷ invalid_field_in_parameter_list
    ∷ parameter_list_length_error
    ∷ saving_parameters_not_supported
    ∷ power_on_or_reset_occurred
    ∷ unrecovered_read_error
    ∷ write_error
    ∷ internal_target_failure ∷ []
