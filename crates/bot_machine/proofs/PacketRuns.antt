-- Packets in the midst of data, many at once, are so many one by one.
use Rattle.std.proofs.Common.{◌≡◌, ◌<◌, ◌≤◌, ◌+◌, ◌-◌, ◌*◌, ◌/◌, ◌++◌, ◌∙◌, ℕ, zero, suc, inl, Bool, false, List, [], length, take, drop}
use Rattle.std.proofs.Common.{min, slice_range, ap, sym, refl, arith, length-drop, append_assoc}
use Rattle.std.proofs.lemmas.List.{take-take, drop-take, drop-drop, take_all, take-append-le, drop-append-le, append-nil, length-take}
use Rattle.std.proofs.Math.{Seq.{take-add, drop-append_seam}, Nat.{mul-le-mul_right, div-mul-le_self, add-div_right}}
use Rattle.spec.specs.{Packets.{packets_of, cut_into, bytes_of}, Cases.size_of_way}
use Rattle.spec.specs.Exchange.{Line, Script, taking, sending, in_answer, after_in}
use Rattle.spec.specs.{declared.case.Case.Case, declared.wrapper.Cbw.Cbw, declared.way.Way.Way}
use Rattle.spec.specs.declared.event.Answer.TheVariants.{Data}
use Rattle.logical_blocks.specs.Book.{Book}
use Rattle.spec.specs.declared.event.Event.TheVariants as event
use Rattle.spec.specs.declared.event.Answer.TheVariants as answer
use Rattle.transport_laws.proofs.Packets.{other_packet}
use Rattle.medium.specs.Medium.{State, IsSound}
use Rattle.scsi_unit.specs.UnitValue.{UnitValue}
use Rattle.bot_machine.specs.{Acts.EventCarriesOut, Disk.{DiskValue, over, IsStep}}
use Rattle.bot_machine.specs.{declared.bulk_state.BulkState.BulkState, declared.bulk_state.Taking.Taking}
use Rattle.bot_machine.specs.Refinement.{halt_of, line_with, taking_of}
use Rattle.bot_machine.specs.PacketRuns.{packets_amid, packet_of, after_first, after_more, after_tokens, GivesRun, TakesRun}
use Rattle.bot_machine.proofs.{Packets.{open_to, sent_more, answer_sent}, OutPackets.nothing_done}

-- ---- how many

-- a packet of a run lies in it
pub within : (number count size : ℕ) → number < count → number * size + size ≤ count * size
within number count size low =
    let next : number + 1 ≤ count = omega (arith, low) in omega (arith, mul-le-mul_right size next)

-- more is behind a run, and it lies in the room
pub amid : (size bytes room : ℕ) → 0 < bytes
    → (packets_amid size bytes room * size < bytes) × (packets_amid size bytes room * size ≤ room)
amid size bytes room some =
    let one : packets_amid size bytes room ≤ (bytes - 1) / size = omega arith in
    let other : packets_amid size bytes room ≤ room / size = omega arith in (
      omega (arith, mul-le-mul_right size one, div-mul-le_self (bytes - 1) size),
      omega (arith, mul-le-mul_right size other, div-mul-le_self room size),
    )

as_many : (size n : ℕ) (bytes : List ℕ) → length (cut_into size n bytes) ≡ n
as_many size zero bytes = refl
as_many size (suc n) bytes = ap suc (as_many size n (drop size bytes))

-- all packets but the last
pub but_last : (size : ℕ) (bytes : List ℕ) → 0 < size → 0 < length bytes
    → length (packets_of size bytes) - 1 ≡ (length bytes - 1) / size
unfolding packets_of
but_last size bytes size_some some =
    let all = as_many size ((length bytes + (size - 1)) / size) bytes in
    let same : length bytes + (size - 1) ≡ (length bytes - 1) + size = omega (arith, size_some, some) in
    let more = ap (λ n. n / size) same ∙ add-div_right (length bytes - 1) size_some in
    omega (arith, all, more)

-- ---- their bytes

-- a part of what was copied to the front of a room
pub part_of : (xs rest : List ℕ) (from at size count : ℕ) → at + size ≤ count → from + count ≤ length xs
    → take size (drop at (take count (drop from xs) ++ rest)) ≡ take size (drop (from + at) xs)
part_of xs rest from at size count low there =
    grind (
      arith,
      drop-append-le {A = ℕ},
      take-append-le {A = ℕ},
      drop-take {X = ℕ},
      take-take {A = ℕ},
      drop-drop {A = ℕ},
      length-take {A = ℕ},
      length-drop {A = ℕ},
    )

-- what is taken up to a bound, piece by piece
joined : (most : ℕ) (xs ys : List ℕ) → take most (take most xs ++ ys) ≡ take most (xs ++ ys)
joined most xs ys = grind (arith, take-append-le {A = ℕ}, take_all {A = ℕ}, take-take {A = ℕ}, length-take {A = ℕ})

module _ (size : ℕ) (bytes : List ℕ) (case : Case) (command : Cbw) (intended : Way) (came : List ℕ) (due : ℕ)
    (few : length came ≤ size_of_way intended) where
  abbrev with_first : ℕ → Script
  with_first count = taking case command intended (take (size_of_way intended) (came ++ take (count * size) bytes)) (due - count * size)

  -- so many packets are taken at once as one by one
  pub first_taken : (count : ℕ) → after_first size bytes count (taking case command intended came due) ≡ with_first count
  first_taken zero =
      let none : 0 * size ≡ 0 = omega arith in
      let whole : due - 0 ≡ due = omega arith in
      let all : take (size_of_way intended) (came ++ []) ≡ came = rw (append-nil, take_all (size_of_way intended) came few) refl in
      rw (none, all, whole) refl
  first_taken (suc count) =
      let most = size_of_way intended in
      let packet = packet_of size bytes count in
      let before : after_more size packet (after_first size bytes count (taking case command intended came due))
      ≡ taking case command intended (take most (take most (came ++ take (count * size) bytes) ++ packet)) ((due - count * size) - size)
      = ap (λ (left : Script). after_more size packet left) (first_taken count) in
      let next : suc count * size ≡ count * size + size = omega arith in
      let left : (due - count * size) - size ≡ due - suc count * size = omega (arith, next) in
      let front = ap (λ (n : ℕ). take n bytes) next ∙ take-add (count * size) size bytes in
      cc (joined most (came ++ take (count * size) bytes) packet, append_assoc came (take (count * size) bytes) packet)

-- ---- from Bulk-In

module _ (size : ℕ) (some : 0 < size) (locked out_halted : Bool) (status xs : List ℕ) (from to : ℕ) (halt : Bool)
    (there : to ≤ length xs) where
  abbrev pub sending_from : ℕ → Line
  sending_from at =
      open_to size some locked out_halted status false (sending (packets_of size (slice_range xs at to)) (halt_of halt) status)

  -- so many tokens leave the bytes behind so many packets
  tokens_sent : (count : ℕ) → from + count * size < to → after_tokens count (sending_from from) ≡ sending_from (from + count * size)
  tokens_sent zero more = let none : from + 0 * size ≡ from = omega arith in rw none refl
  tokens_sent (suc count) more =
      let next : suc count * size ≡ count * size + size = omega arith in
      let before : from + count * size < to = omega (arith, more, next) in
      ap (λ (s : Line). after_in s) (tokens_sent count before)
      ∙ sent_more size some locked out_halted status xs (from + count * size) to (from + suc count * size) halt before there
      (omega (arith, more, next)) more

  packet_sent : (number : ℕ) → from + (number * size + size) < to
      → in_answer (after_tokens number (sending_from from)) ≡ Data (record { items = take size (drop (from + number * size) xs) })
  packet_sent number more =
      let at = from + number * size in
      let before : at < to = omega (arith, more) in
      let width : (at + size) - at ≡ size = omega arith in
      ap (λ (s : Line). in_answer s) (tokens_sent number before)
      ∙ sym (answer_sent size some locked out_halted status xs at to (at + size) halt before there (omega (arith, more)))
      ∙ ap (λ (n : ℕ). Data (record { items = take n (drop at xs) })) width

  -- so many packets were copied to the front of a room
  pub given : {M : Type 0} (unit : UnitValue M) (room run : List ℕ) (count : ℕ) → from < to
      → count ≡ packets_amid size (to - from) (length room) → run ≡ slice_range xs from (from + count * size)
      → GivesRun (record { line = sending_from from; unit = unit }) room (record { line = sending_from (from + count * size); unit = unit })
      (run ++ drop ((from + count * size) - from) room) count
  given unit room run count low is copied =
      let bound = amid size (to - from) (length room) (omega (arith, low)) in
      let all = ap (λ (n : ℕ). n * size) is in
      let more : from + count * size < to = omega (arith, bound, all) in
      let width : (from + count * size) - from ≡ count * size = omega arith in
      let run_is : run ≡ take (count * size) (drop from xs) = copied ∙ ap (λ (n : ℕ). take n (drop from xs)) width in
      let long : length run ≡ count * size =
      ap (λ (l : List ℕ). length l) run_is ∙ omega (arith, length-take (count * size) (drop from xs), length-drop from xs) in
      let part : length (slice_range xs from to) ≡ to - from =
      omega (arith, length-take (to - from) (drop from xs), length-drop from xs) in
      record {
        count_is = is ∙ ap (λ (n : ℕ). min n (length room / size))
            (sym (but_last size (slice_range xs from to) some (omega (arith, part, low))
            ∙ ap (λ (n : ℕ). (n - 1) / size) part));
        packets = λ number few.
            let lies = within number count size few in
            packet_sent number (omega (arith, lies, more))
            ∙ ap (λ (l : List ℕ). Data (record { items = l })) (sym (ap (λ (l : List ℕ). take size (drop (number * size)
            (l ++ drop ((from + count * size) - from) room))) run_is
            ∙ part_of xs (drop ((from + count * size) - from) room) from (number * size) size (count * size) lies
            (omega (arith, there, more))));
        behind = ap (λ (n : ℕ). drop n (run ++ drop ((from + count * size) - from) room)) (sym long)
            ∙ drop-append_seam run (drop ((from + count * size) - from) room) ∙ ap (λ (n : ℕ). drop n room) width;
        after = ap (λ (s : Line). record { line = s; unit = unit }) (sym (tokens_sent count more));
      }

-- ---- to Bulk-Out

-- so many packets were taken at once
pub taken : {M : Type 0} (unit : UnitValue M) (bulk : BulkState) (old new : Taking) (before after bytes : List ℕ) (count : ℕ)
    → bulk.out_halted ≡ false → 0 < old.due → old.filled ≤ size_of_way old.exchange.intended
    → count ≡ packets_amid (bytes_of bulk.size) old.due (length bytes) → new.exchange ≡ old.exchange
    → new.due ≡ old.due - length (take (count * bytes_of bulk.size) bytes)
    → take new.filled after
    ≡ take (size_of_way old.exchange.intended) (take old.filled before ++ take (count * bytes_of bulk.size) bytes)
    → TakesRun (record { line = line_with bulk (taking_of old before); unit = unit }) bytes
    (record { line = line_with bulk (taking_of new after); unit = unit }) count
taken unit bulk old new before after bytes count halted some few is exchange due came =
    let size = bytes_of bulk.size in
    let bound = amid size old.due (length bytes) some in
    let fits : count * size ≤ length bytes = omega (arith, bound, ap (λ (n : ℕ). n * size) is) in
    let left : new.due ≡ old.due - count * size = omega (arith, due, fits, length-take (count * size) bytes) in
    let short : length (take old.filled before) ≤ size_of_way old.exchange.intended = omega (arith, few, length-take old.filled before) in
    record {
      count_is = rw halted is;
      after = ap (λ (script : Script). record { line = line_with bulk script; unit = unit })
          (rw (exchange, came, left) (sym (first_taken size bytes old.exchange.case old.exchange.command old.exchange.intended
          (take old.filled before) old.due short count)));
    }

-- ---- each packet by itself

-- a packet of data that is not the last one is a step of the disk, and has no command carried out
module _ {M : Type 0} (m : State) (disk : DiskValue M) (packet : List ℕ) (case : Case) (command : Cbw) (intended : Way)
    (came : List ℕ) (due : ℕ) (halted : disk.line.out_halted ≡ false)
    (left : disk.line.left ≡ taking case command intended came due) (more : disk.line.packet_size < due) where
  pub none_carried : (book : Book) (block taken : List ℕ)
      → EventCarriesOut (over disk book) (event.Out (record { items = packet })) block taken → ⊥
  none_carried book block taken carries = let last = (rw (halted, left) at carries).last in absurd (omega (arith, more, last))

  pub more_taken : IsSound m → length packet ≡ disk.line.packet_size
      → IsStep m m disk (event.Out (record { items = packet })) answer.Ack (record disk {
        line = record disk.line { left = after_more disk.line.packet_size packet disk.line.left };
      })
  more_taken sound size =
      nothing_done m disk (record disk.line { left = after_more disk.line.packet_size packet disk.line.left })
      (event.Out (record { items = packet })) answer.Ack sound
      (λ book. rw (halted, left) (refl, inl (record { size = size; more = more; unit = refl; after = refl })))
      (λ book. rw (halted, left) (other_packet disk.line.packet_size (length packet) due _ _ (λ whole. more)))
      none_carried tt refl

-- what is left of data that is taken, behind some packets of it
pub left_behind : (size : ℕ) (bytes : List ℕ) (case : Case) (command : Cbw) (intended : Way) (came : List ℕ) (due number : ℕ)
    → (some : List ℕ) × (after_first size bytes number (taking case command intended came due)
    ≡ taking case command intended some (due - number * size))
left_behind size bytes case command intended came due zero =
    let none : 0 * size ≡ 0 = omega arith in
    let whole : due - 0 ≡ due = omega arith in (came, rw (none, whole) refl)
left_behind size bytes case command intended came due (suc number) =
    let before = left_behind size bytes case command intended came due number in
    let packet = packet_of size bytes number in
    let next : (due - number * size) - size ≡ due - suc number * size = omega arith in (
      take (size_of_way intended) (before.0 ++ packet),
      ap (λ (s : Script). after_more size packet s) before.1
          ∙ ap (λ (n : ℕ). taking case command intended (take (size_of_way intended) (before.0 ++ packet)) n) next,
    )
