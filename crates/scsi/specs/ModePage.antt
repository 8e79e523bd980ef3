-- Mode parameters (SPC-4, 7.5) with the caching mode page (SBC-3).
use Rattle.std.specs.Prelude.{◌==◌, ◌&&◌, ℕ, Bool, true, false, List, [], ◌∷◌}
use Rattle.std.specs.Prelude.{◌++◌, replicate, bytes_eq, Result, Ok, Err, Option, Some, None}
use Rattle.std.specs.Prelude.{unwrap_or, if◌then◌else◌}
use Rattle.scsi.specs.Sense.{Sense}
use Rattle.scsi.specs.SenseCodes.{invalid_field_in_parameter_list}

-- a mode parameter header: mode data length, medium type, device-specific parameter, block
-- descriptor length
abbrev pub mode_header : ℕ → ℕ → List ℕ
mode_header following device = following ∷ 0x00 ∷ device ∷ 0x00 ∷ []

-- the caching mode page, 20 bytes, by its bit WCE: the write cache is enabled
unfoldable pub caching_page : Bool → List ℕ
caching_page wce =
    -- 0, page code
    0x08
    -- 1, page length: 18 bytes follow
    ∷ 0x12
    -- 2, bit 2 is WCE
    ∷ (if wce then 0x04 else 0x00)
    -- 3, nothing else
    ∷ replicate 17 0x00

-- the bit WCE by page control: 0 is its current value, 1 whether it can be changed, 2 its default
abbrev pub wce_of : ℕ → Bool → Bool
wce_of control wce = if control == 0 then wce else true

-- what MODE SENSE sends, 24 bytes; the device-specific parameter is the bit DPOFUA
abbrev pub mode_data : ℕ → Bool → List ℕ
mode_data control wce = mode_header 0x17 0x10 ++ caching_page (wce_of control wce)

-- the bit WCE that the bytes behind a good header carry: none, or that of a caching page
abbrev pub page_bit : List ℕ → Result (Option Bool) Sense
page_bit [] = Ok None
page_bit (code ∷ page) =
    if bytes_eq (code ∷ page) (caching_page true) then Ok (Some true)
    else if bytes_eq (code ∷ page) (caching_page false) then Ok (Some false)
    else Err invalid_field_in_parameter_list

-- the bit WCE that a parameter list of MODE SELECT carries, if it has a page. In a header all is 0
-- but the device-specific parameter, which is ignored.
abbrev pub selected_bit : List ℕ → Result (Option Bool) Sense
selected_bit [] = Ok None
selected_bit (following ∷ medium ∷ device ∷ descriptors ∷ page) =
    if (following == 0) && (medium == 0) && (descriptors == 0) then page_bit page
    else Err invalid_field_in_parameter_list
selected_bit _ = Err invalid_field_in_parameter_list

-- WCE after MODE SELECT: the bit that the list carries, else as it was
abbrev pub after_select : Result (Option Bool) Sense → Bool → Result Bool Sense
after_select (Ok bit) wce = Ok (unwrap_or bit wce)
after_select (Err sense) wce = Err sense

abbrev pub mode_select_answer : List ℕ → Bool → Result Bool Sense
mode_select_answer list wce = after_select (selected_bit list) wce
