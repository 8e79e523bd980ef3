-- Hex digits and the bytes that they spell.
use Rattle.std.proofs.Common.{◌≡◌, ◌*◌, ◌∙◌, ℕ, List, length, Ok, ap}
use Rattle.hex.{specs.Hex.{decode_of, decode_sized}, proofs.HexLemmas.{decode_of-ok, decode_sized-twice}}
use Rattle.usbdisk.specs.runner.Line.{SpellsPacket}

-- the digits that spell a packet are two for each byte
pub length-digits : {most : ℕ} {digits packet : List ℕ} → SpellsPacket most digits packet → length digits ≡ 2 * length packet
length-digits {most} {digits} {packet} spelled = (decode_of-ok digits packet spelled.decoded).2

-- digits for count bytes are decoded into as many
pub sized : (digits bytes : List ℕ) (count : ℕ) → decode_of digits ≡ Ok bytes → length bytes ≡ count → decode_sized digits count ≡ Ok bytes
sized digits bytes count decoded counted =
    decode_sized-twice digits count ((decode_of-ok digits bytes decoded).2 ∙ ap (λ n. 2 * n) counted) ∙ decoded
