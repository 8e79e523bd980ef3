-- INQUIRY data: standard data and vital product data pages (SPC-4, 6.6 and 7.8; SBC-3, block limits
-- page).
use Rattle.std.specs.Prelude.{ℕ, ◌==◌, List, [], ◌∷◌, ◌++◌, replicate, Option, Some, None}
use Rattle.std.specs.Prelude.{if◌then◌else◌}
use Rattle.byteorder.specs.Endian.{big_bytes}
use Rattle.scsi.specs.Identification.{Identification}

-- standard data, 36 bytes, each field after the number of its first byte
unfoldable pub standard_data : Identification → List ℕ
standard_data who =
    ( -- 0, peripheral qualifier and device type: a connected direct access block device
    0x00
    -- 1, the medium is not removable
    ∷ 0x00
    -- 2, version: SPC-4
    ∷ 0x06
    -- 3, response data format
    ∷ 0x02
    -- 4, additional length: 31 bytes follow
    ∷ 0x1f
    -- 5, none of the optional features
    ∷ 0x00 ∷ 0x00 ∷ 0x00 ∷ [])
    -- 8, vendor identification
    ++ who.vendor
    -- 16, product identification
    ++ who.product
    -- 32, product revision level
    ++ who.revision

-- a vital product data page: qualifier and type as in standard data, page code, how many bytes
-- follow in two bytes, and these bytes
abbrev pub vital_page : ℕ → ℕ → List ℕ → List ℕ
vital_page code count bytes = (0x00 ∷ code ∷ 0x00 ∷ count ∷ []) ++ bytes

-- the codes of the pages that there are
abbrev pub page_codes : List ℕ
page_codes = 0x00 ∷ 0x80 ∷ 0x83 ∷ 0xb0 ∷ []

-- page 00h, supported pages, 8 bytes
unfoldable pub supported_pages : List ℕ
supported_pages = vital_page 0x00 0x04 page_codes

-- page 80h, unit serial number, 16 bytes
unfoldable pub unit_serial_number : Identification → List ℕ
unit_serial_number who = vital_page 0x80 0x0c who.serial

-- the designation descriptor of the unit, 40 bytes
abbrev pub designation_descriptor : Identification → List ℕ
designation_descriptor who =
    ( -- 0, code set: ASCII
    0x02
    -- 1, association and designator type: the logical unit, by its vendor
    ∷ 0x01
    -- 2, reserved
    ∷ 0x00
    -- 3, designator length: 36 bytes follow
    ∷ 0x24 ∷ [])
    -- 4, vendor identification
    ++ who.vendor
    -- 12, product identification
    ++ who.product
    -- 28, unit serial number
    ++ who.serial

-- page 83h, device identification, 44 bytes
unfoldable pub device_identification : Identification → List ℕ
device_identification who = vital_page 0x83 0x28 (designation_descriptor who)

-- page B0h, block limits, 64 bytes: of all limits that of the blocks in a transfer alone is told
unfoldable pub block_limits : ℕ → List ℕ
block_limits most = vital_page 0xb0 0x3c (
    -- 4, write same, compare and write, granularity
    replicate 4 0x00
    -- 8, maximum transfer length
    ++ big_bytes 4 most
    -- 12, all further limits
    ++ replicate 52 0x00)

-- the page with this code, if there is one
abbrev pub vital_data : Identification → ℕ → ℕ → Option (List ℕ)
vital_data who most code =
    if code == 0x00 then Some supported_pages
    else if code == 0x80 then Some (unit_serial_number who)
    else if code == 0x83 then Some (device_identification who)
    else if code == 0xb0 then Some (block_limits most)
    else None

-- standard data, or the vital product data page with this code
abbrev pub inquiry_data : Identification → ℕ → Option ℕ → Option (List ℕ)
inquiry_data who most None = Some (standard_data who)
inquiry_data who most (Some code) = vital_data who most code

-- how many bytes the page has, if there is one
abbrev pub vital_size : ℕ → Option ℕ
vital_size code =
    if code == 0x00 then Some 8
    else if code == 0x80 then Some 16
    else if code == 0x83 then Some 44
    else if code == 0xb0 then Some 64
    else None

-- how many bytes of inquiry data there are
abbrev pub inquiry_size : Option ℕ → Option ℕ
inquiry_size None = Some 36
inquiry_size (Some code) = vital_size code
