-- Mode parameters (SPC-4, 7.5) with the caching mode page (SBC-3).
use Rattle.std.specs.Prelude.{◌≡◌, ◌⊎◌, ◌+◌, slice_index, ℕ, Bool, List, [], ◌++◌}
use Rattle.scsi.specs.ModePage.{caching_page, mode_header}

-- mode data of this size count themselves: what follows byte 0, and what of the page follows its
-- byte 1
abbrev pub CountsItself : List ℕ → ℕ → Type 0
CountsItself bytes size = (slice_index bytes 0 + 1 ≡ size) × (slice_index bytes 5 + 6 ≡ size)

-- the parameter lists that are taken: none, a header, or a header and a caching page with this WCE
abbrev pub Selects : List ℕ → Bool → Bool → Type 0
Selects list wce enabled =
    ((list ≡ []) × (enabled ≡ wce))
    ⊎ ((device : ℕ) × (list ≡ mode_header 0x00 device) × (enabled ≡ wce))
    ⊎ ((device : ℕ) × (list ≡ mode_header 0x00 device ++ caching_page enabled))
