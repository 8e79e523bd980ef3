use Rattle.std.proofs.Common.{◌≡◌, ◌∙◌, ◌<◌, ◌+◌, ◌-◌, ◌/◌, ℕ, suc, min, List, [], ◌∷◌, take, ap, ap₂, sym, arith, inl, inr, map}
use Rattle.std.proofs.Common.{replicate, refl}
use Rattle.std.specs.Prelude.{replicate}
use Rattle.std.proofs.lemmas.Bool.{cases_lt}
use Rattle.std.proofs.lemmas.List.{length-replicate, take-replicate, drop-replicate, take_all}
use Rattle.spec.specs.Packets.{bytes_of, packets_of, cut_into}
use Rattle.spec.specs.declared.packet_size.PacketSize.{PacketSize}
use Rattle.spec.specs.declared.packet_size.PacketSize.TheVariants.{Full64, High512}
use Rattle.usbdisk.specs.runner.Events.{packet_out}
use Rattle.usbdisk.proofs.runner.line.ScriptLine.next_fill.Goals as goal

packets_by : (most count byte : ℕ)
    → packets_of most (replicate count byte) ≡ cut_into most ((count + (most - 1)) / most) (replicate count byte)
unfolding packets_of
packets_by most count byte = ap (λ n. cut_into most ((n + (most - 1)) / most) (replicate count byte)) (length-replicate count byte)

packets-none : (size : PacketSize) (byte : ℕ) → packets_of (bytes_of size) (replicate 0 byte) ≡ []
packets-none Full64 byte = packets_by 64 0 byte
packets-none High512 byte = packets_by 512 0 byte

first_packet : (most count byte taken : ℕ) → taken ≡ min count most → take most (replicate count byte) ≡ replicate taken byte
first_packet most count byte taken is =
    elim (cases_lt count most) [
      | inr long ↦
          let same : most ≡ taken = omega (arith, is, long) in
          take-replicate most count byte long ∙ ap (λ n. replicate n byte) same
      | inl short ↦
          let same : count ≡ taken = omega (arith, is, short) in
          take_all most (replicate count byte) (omega (arith, short, length-replicate count byte)) ∙ ap (λ n. replicate n byte) same
    ]

-- one packet is due more than for the bytes behind the first
one_more : (size : PacketSize) (count taken : ℕ) → 0 < count → taken ≡ min count (bytes_of size)
    → (count + (bytes_of size - 1)) / bytes_of size ≡ suc ((count - taken + (bytes_of size - 1)) / bytes_of size)
one_more Full64 count taken some is = omega (arith, some, is)
one_more High512 count taken some is = omega (arith, some, is)

-- the first packet, and those of the bytes that are left
packets-more : (size : PacketSize) (count byte taken : ℕ) → 0 < count → taken ≡ min count (bytes_of size)
    → packets_of (bytes_of size) (replicate count byte) ≡ replicate taken byte ∷ packets_of (bytes_of size) (replicate (count - taken) byte)
packets-more size count byte taken some is =
    let most = bytes_of size in
    let left : count - most ≡ count - taken = omega (arith, is) in
    packets_by most count byte
    ∙ ap (λ n. cut_into most n (replicate count byte)) (one_more size count taken some is)
    ∙ ap₂ (λ (first : List ℕ) (rest : List (List ℕ)). first ∷ rest) (first_packet most count byte taken is)
    (ap (λ xs. cut_into most ((count - taken + (most - 1)) / most) xs) (drop-replicate most count byte ∙ ap (λ n. replicate n byte) left)
    ∙ sym (packets_by most (count - taken) byte))

pub returns-then-count-eq0 : goal.returns-then-count-eq0
returns-then-count-eq0 c = (rw (c.if-count-eq0.true, packets-none c.args.size c.args.byte) refl, refl)

pub returns : goal.returns
returns c =
    let most = bytes_of c.args.size in
    let taken = c.min-taken.result in
    let is : taken ≡ min c.args.count most = c.min-taken.ensures ∙ ap (λ n. min c.args.count n) c.bytes.ensures in
    ap (λ packets. map packet_out packets)
    (packets-more c.args.size c.args.count c.args.byte taken (let some = c.if-count-eq0.false in omega arith) is)
    ∙ ap (λ (items : List ℕ). packet_out items ∷ map packet_out (packets_of most (replicate (c.args.count - taken) c.args.byte)))
    (sym c.packet_of.ensures)
