-- Data in packets: cut off its front, sent one after another, taken into the front of a buffer.
use Rattle.std.proofs.Common.{◌<◌, ◌≤◌, arith, ◌≡◌, ℕ, ◌+◌, ◌-◌, min, List, [], ◌∷◌, length, take, drop, slice_range, sym, ap}
use Rattle.std.proofs.Common.{◌∙◌, length-drop, length-take, Bool, false, refl, ◌++◌}
use Rattle.std.proofs.{lemmas.List.{take-take, drop-take, drop-drop, drop_all, take_all, take-append-le}, Math.Seq.take-append-add}
use Rattle.spec.specs.{declared.packet_size.PacketSize.PacketSize, declared.packet_size.PacketSize.TheVariants.{Full64, High512}}
use Rattle.spec.specs.{Packets.{bytes_of, packets_of}, declared.case.Case.Case, declared.case.Endpoint.Endpoint}
use Rattle.spec.specs.declared.event.Answer.TheVariants.{Data}
use Rattle.spec.specs.Exchange.{Line, Script, sending, in_answer, after_in, laid_out, sent_in, moment_of, after_data}
use Rattle.std.specs.Prelude.{None, Option, Ok, Result}
use Rattle.scsi.specs.{Sense.Sense, Rules.Intention}
use Rattle.scsi.specs.declared.intent.Intent.TheVariants as intent
use Rattle.scsi_unit.specs.Calls.{SendsAsMeant}
use Rattle.transport_laws.proofs.Packets.{packets_of-more, packets_of-none}
use Rattle.bot_machine.specs.Refinement.{halt_of, sent_size, LiesIn}

pub some_bytes : (size : PacketSize) → 0 < bytes_of size
some_bytes Full64 = omega arith
some_bytes High512 = omega arith

-- no packet is longer than a sector, and each has room for a status wrapper
pub few_bytes : (size : PacketSize) → (13 ≤ bytes_of size) × (bytes_of size ≤ 512)
few_bytes Full64 = (omega arith, omega arith)
few_bytes High512 = (omega arith, omega arith)

module _ (size : ℕ) (packet : 0 < size) where
  first_of : (xs : List ℕ) (from to end : ℕ) → end ≡ min to (from + size) → from < to
      → take size (slice_range xs from to) ≡ slice_range xs from end
  first_of xs from to end e h = grind (arith, take-take {A = ℕ}, take_all {A = ℕ}, length-take {A = ℕ})

  rest_of : (xs : List ℕ) (from to end : ℕ) → end ≡ min to (from + size) → from < to
      → drop size (slice_range xs from to) ≡ slice_range xs end to
  rest_of xs from to end e h = grind (arith, drop-take {X = ℕ}, drop_all {X = ℕ}, length-take {A = ℕ}, drop-drop {A = ℕ})

  -- the packets of a part of a buffer: the first bytes of the part, then those of the rest
  pub packets_of-range : (xs : List ℕ) (from to end : ℕ) → from < to → to ≤ length xs → end ≡ min to (from + size)
      → packets_of size (slice_range xs from to) ≡ slice_range xs from end ∷ packets_of size (slice_range xs end to)
  packets_of-range xs from to end h k e =
      let some : 0 < length (slice_range xs from to) = omega (arith, length-take (to - from) (drop from xs), length-drop from xs) in
      rw (packets_of-more size (slice_range xs from to) packet some, first_of xs from to end e h, rest_of xs from to end e h) refl

  -- a part with bytes in it has a first packet
  pub packets_of-some : (xs : List ℕ) (from to : ℕ) → from < to → to ≤ length xs
      → packets_of size (slice_range xs from to) ≡ take size (slice_range xs from to) ∷ packets_of size (drop size (slice_range xs from to))
  packets_of-some xs from to h k =
      packets_of-more size (slice_range xs from to) packet (omega (arith, length-take (to - from) (drop from xs), length-drop from xs))

  pub packets_of-end : (xs : List ℕ) (end to : ℕ) → to ≤ end → packets_of size (slice_range xs end to) ≡ []
  packets_of-end xs end to h =
      ap (λ k. packets_of size (take k (drop end xs))) (let k : to - end ≡ 0 = omega arith in k) ∙ packets_of-none size packet

module _ (size : ℕ) (some : 0 < size) where
  -- packets that are left are sent one after another
  pub laid_out-some : (xs : List ℕ) (from to : ℕ) (halt : Option Endpoint) (status : List ℕ) (s : Line) → from < to → to ≤ length xs
      → laid_out (packets_of size (slice_range xs from to)) halt status s ≡ record s {
        left = sending (packets_of size (slice_range xs from to)) halt status;
      }
  laid_out-some xs from to halt status s h k = rw (packets_of-some size some xs from to h k) refl

  -- what is laid out from the front of a buffer
  pub laid_out-front : (xs : List ℕ) (bytes : ℕ) (halt : Option Endpoint) (is_in : Bool) (status : List ℕ) (s : Line) → 0 < bytes
      → bytes ≤ length xs → halt ≡ halt_of is_in
      → record s { left = sending (packets_of size (slice_range xs 0 bytes)) (halt_of is_in) status }
      ≡ laid_out (packets_of size (take bytes xs)) halt status s
  laid_out-front xs bytes halt is_in status s h k e =
      let same : bytes - 0 ≡ bytes = omega arith in
      sym (laid_out-some xs 0 bytes (halt_of is_in) status s h k)
      ∙ ap (λ n. laid_out (packets_of size (take n xs)) (halt_of is_in) status s) same
      ∙ ap (λ p. laid_out (packets_of size (take bytes xs)) p status s) (sym e)

  pub laid_out-none : (xs : List ℕ) (bytes : ℕ) (halt : Option Endpoint) (status : List ℕ) (s : Line) → bytes ≤ 0
      → laid_out (packets_of size (take bytes xs)) halt status s ≡ laid_out [] halt status s
  laid_out-none xs bytes halt status s h =
      let none : bytes ≡ 0 = omega arith in rw (none, packets_of-none size some) refl

  -- what a case sends is the front of what the unit gave
  pub sent_in-size : (case : Case) (most : ℕ) (bytes : List ℕ)
      → sent_in size case (take most bytes) ≡ packets_of size (take (sent_size case most) bytes)
  sent_in-size case most bytes = grind (arith, packets_of-none size some)

-- what is sent is the front of the buffer in which it lies, or there is none
module _ (case : Case) (size : ℕ) (buffer out : List ℕ) (lies : LiesIn buffer case out) where
  pub lies_sent : take (sent_size case size) buffer ≡ take (sent_size case size) out
  lies_sent = grind (arith, lies)

  pub lies_within : size ≤ length out → sent_size case size ≤ length buffer
  lies_within fits = grind (arith, lies, fits)

-- a command that waits for its data sends none
pub lies_after : (buffer : List ℕ) (case : Case) (out : List ℕ) → moment_of case ≡ after_data → LiesIn buffer case out
lies_after buffer case out waits = λ once. cc

module _ (size : ℕ) (some : 0 < size) (locked out_halted : Bool) (status : List ℕ) where
  abbrev pub open_to : Bool → Script → Line
  open_to in_halted left = record { packet_size = size; in_halted = in_halted; out_halted = out_halted; locked = locked; left = left }

  halt_last : (halt : Bool) (left : Script) → laid_out [] (halt_of halt) status (open_to false left) ≡ open_to halt (sending [] None status)
  halt_last halt left = grind arith

  pub sent_more : (xs : List ℕ) (from to end : ℕ) (halt : Bool) → from < to → to ≤ length xs → end ≡ min to (from + size) → end < to
      → after_in (open_to false (sending (packets_of size (slice_range xs from to)) (halt_of halt) status))
      ≡ open_to false (sending (packets_of size (slice_range xs end to)) (halt_of halt) status)
  sent_more xs from to end halt h k e more =
      ap (λ p. after_in (open_to false (sending p (halt_of halt) status))) (packets_of-range size some xs from to end h k e)
      ∙ laid_out-some size some xs end to (halt_of halt) status _ more k

  pub sent_last : (xs : List ℕ) (from to end : ℕ) (halt : Bool) → from < to → to ≤ length xs → end ≡ min to (from + size) → to ≤ end
      → after_in (open_to false (sending (packets_of size (slice_range xs from to)) (halt_of halt) status))
      ≡ open_to halt (sending [] None status)
  sent_last xs from to end halt h k e last =
      rw (packets_of-range size some xs from to end h k e, packets_of-end size some xs end to last) (halt_last halt _)

  pub answer_sent : (xs : List ℕ) (from to end : ℕ) (halt : Bool) → from < to → to ≤ length xs → end ≡ min to (from + size)
      → Data (record { items = slice_range xs from end })
      ≡ in_answer (open_to false (sending (packets_of size (slice_range xs from to)) (halt_of halt) status))
  answer_sent xs from to end halt h k e = rw (packets_of-range size some xs from to end h k e) refl

-- as many bytes as there are, or as there is room for
same_front : (packet : List ℕ) (room more : ℕ) → more ≡ min (length packet) room → take room packet ≡ take more packet
same_front packet room more e = grind (arith, take_all {A = ℕ})

pub front_filled : (front packet rest : List ℕ) (filled size more : ℕ) → length front ≡ filled → filled ≤ size
    → more ≡ min (length packet) (size - filled) → take (filled + more) (front ++ (take more packet ++ rest)) ≡ take size (front ++ packet)
front_filled front packet rest filled size more l h e =
    grind (arith, length-take {A = ℕ}, take-append-add {A = ℕ}, take-append-le {A = ℕ}, take_all {A = ℕ})

-- there is room for what is sent
pub sent_fits : (intention : Intention) (limit size room : ℕ) → SendsAsMeant intention limit (let good : Result ℕ Sense = Ok size in good)
    → ((n : ℕ) → intention ≡ intent.In n → n ≤ room) → size ≤ room
sent_fits intention limit size room sends fits = grind (arith, sends.none, sends.sent, fits)
