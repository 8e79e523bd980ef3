-- What a parameter list with a caching mode page carries.
use Rattle.std.proofs.Common.{◌≡◌, ◌++◌, ◌∙◌, ℕ, Bool, true, false, List, Result, Ok, Option, Some, refl, ap}
use Rattle.scsi.specs.{Sense.Sense, ModePage.{caching_page, mode_header, selected_bit}}

-- a header and a caching page carry the page's bit
carries :
    (device : ℕ) (enabled : Bool) → selected_bit (mode_header 0x00 device ++ caching_page enabled) ≡ Ok (Some enabled)
unfolding caching_page
carries device true = refl
carries device false = refl

same_bit : (bit : Option Bool) (enabled : Bool) (answer : Result (Option Bool) Sense) → answer ≡ Ok bit → answer ≡ Ok (Some enabled)
    → bit ≡ Some enabled
same_bit bit enabled answer e h = cc

-- so the bit that was read from such a list is the page's
pub bit_of_page :
    (list : List ℕ) (device : ℕ) (enabled : Bool) (bit : Option Bool)
    → selected_bit list ≡ Ok bit → list ≡ mode_header 0x00 device ++ caching_page enabled → bit ≡ Some enabled
bit_of_page list device enabled bit told is = same_bit bit enabled (selected_bit list) told (ap selected_bit is ∙ carries device enabled)
