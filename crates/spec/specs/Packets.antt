-- Data as packets (USB 2.0, 5.8.3).
use Rattle.std.specs.Prelude.{ℕ, zero, suc, ◌+◌, ◌-◌, ◌/◌, List, [], ◌∷◌, length, take, drop}
use Rattle.spec.specs.declared.packet_size.PacketSize.{PacketSize}
use Rattle.spec.specs.declared.packet_size.PacketSize.TheVariants.{Full64, High512}

abbrev pub bytes_of : PacketSize → ℕ
bytes_of Full64 = 64
bytes_of High512 = 512

-- this many packets: each takes the next bytes, at most `size` of them
abbrev pub cut_into : ℕ → ℕ → List ℕ → List (List ℕ)
cut_into size zero bytes = []
cut_into size (suc n) bytes = take size bytes ∷ cut_into size n (drop size bytes)

-- packets of `size` bytes, the last one shorter where it must be
unfoldable pub packets_of : ℕ → List ℕ → List (List ℕ)
packets_of size bytes = cut_into size ((length bytes + (size - 1)) / size) bytes
