-- The data place that comes next of the record under way, and what is written there.
use Rattle.std.proofs.Common.{◌≡◌, ℕ, ◌+◌, ◌-◌, ◌*◌, ◌%◌, ◌<◌, ◌≤◌, List, [], length, take, drop, sym, ◌∙◌, ap, arith, Result}
use Rattle.medium.specs.{Medium.{State, IsSound}, Performed.Performed, declared.fault.MediumFault.MediumFault}
use Rattle.medium.specs.declared.medium_call.Call.TheVariants.{Write}
use Rattle.journal.specs.{declared.log_format.LogFormat.LogFormat, declared.log_format.LogFormat.TheVariants.{One, Two}}
use Rattle.journal.specs.{Places.{first_data_of, limit_of}, Format2.place_bytes, Formats.layout_of, Record.{Entry, block_of, entries_of}}
use Rattle.journal.proofs.{BatchEntries.{entry_of_batch, length_of_batch}, Wholeness.by_place, Formats.{laws_of, most_is}}
use Rattle.redo_log.specs.{Value.LogValue, Held.made_of, Shown.written_at, Halfway.IsNextData, Told.{IsFlushDue, IsNextCall}, Steps.CanStep}
use Rattle.redo_log.specs.Steps.{StepCalled}
use Rattle.redo_log.proofs.{RecordSteps.{IsLog, written_is, flush_of_is}, HeldLog.before_home, StoreFacts.step_called}

-- the parts before the data places
abbrev pub descriptors : LogFormat → ℕ → ℕ
descriptors format n = (layout_of format).parts n - n - 1

-- a data place stands where the format has it
offset_is : (format : LogFormat) (n made : ℕ) → descriptors format n ≤ made → made < descriptors format n + n
    → (layout_of format).offset n made ≡ first_data_of format + (made - descriptors format n)
offset_is One n made behind below = grind (arith, by_place)
offset_is Two n made behind below = grind (arith, by_place)

-- no flush comes before it
none_due : (format : LogFormat) (n made : ℕ) → descriptors format n ≤ made → made < descriptors format n + n
    → (made < (layout_of format).parts n) × (written_at ((layout_of format).before_barrier n) made ≡ made)
    × (¬ IsFlushDue (layout_of format) n made)
none_due One n made behind below = grind (arith, written_is (n + 1) made)
none_due Two n made behind below = grind (arith, written_is 0 made, flush_of_is 0)

pub next_data_is : {log : LogValue} → IsLog log → (count slot place : ℕ) → count ≤ limit_of log.shape.format
    → descriptors log.shape.format count ≤ made_of log → made_of log < descriptors log.shape.format count + count
    → slot ≡ (log.head + length log.waiting) % log.shape.slots
    → place ≡ 2 + (layout_of log.shape.format).slot_sectors * slot + first_data_of log.shape.format
    + (made_of log - descriptors log.shape.format count)
    → IsNextData log count place (made_of log - descriptors log.shape.format count)
next_data_is {log} is count slot place few behind below slot_is place_is =
    let none = none_due log.shape.format count (made_of log) behind below in
    let offset = offset_is log.shape.format count (made_of log) behind below in
    let inside = (laws_of log.shape.format).inside count (made_of log) (omega (arith, few, most_is log.shape.format)) none.0 in
    let low = before_home log.shape is.sized (log.head + length log.waiting) _ inside in
    record {
      inside = omega (arith, behind, below);
      before = omega (arith, rw slot_is at place_is, offset, low);
      due = none.2;
      written = none.1;
      part = omega (arith, behind);
      place_is = rw offset (omega (arith, rw slot_is at place_is));
    }

-- the bytes of a data place: those of its block, or the stamp in place of the first ones
pub data_is : (format : LogFormat) (stamp : ℕ) (entries : List Entry) (i : ℕ) → i < length entries
    → ((layout_of format).before_barrier 1 ≡ 0
    → (layout_of format).part stamp entries (descriptors format (length entries) + i) ≡ place_bytes stamp (block_of entries i))
    × (¬ ((layout_of format).before_barrier 1 ≡ 0)
    → (layout_of format).part stamp entries (descriptors format (length entries) + i) ≡ block_of entries i)
data_is One stamp entries i below = grind (arith, by_place)
data_is Two stamp entries i below = grind (arith, by_place)

-- those of the i-th of these blocks
pub data_bytes : (format : LogFormat) (stamp : ℕ) (numbers bytes : List ℕ) (i : ℕ) → i < length numbers → {block : List ℕ}
    → block ≡ take 512 (drop (512 * i) bytes)
    → ((layout_of format).before_barrier 1 ≡ 0 → place_bytes stamp block
    ≡ (layout_of format).part stamp (entries_of numbers bytes) (descriptors format (length numbers) + i))
    × (¬ ((layout_of format).before_barrier 1 ≡ 0)
    → block ≡ (layout_of format).part stamp (entries_of numbers bytes) (descriptors format (length numbers) + i))
data_bytes format stamp numbers bytes i below {block} is =
    let size : 512 * i + 512 - 512 * i ≡ 512 = omega arith in
    let entry = rw size at (entry_of_batch i numbers bytes (0, []) below) in
    let here : block_of (entries_of numbers bytes) i ≡ block = ap (λ (e : Entry). e.1) entry ∙ sym is in
    let many = length_of_batch numbers bytes in
    let is_part = rw (many, here) at (data_is format stamp (entries_of numbers bytes) i (omega (arith, many, below))) in
    (λ stamped. sym (is_part.0 stamped), λ not. sym (is_part.1 not))

-- they are written by the next call
pub data_called : {log : LogValue} → IsLog log → {numbers bytes : List ℕ} {m n : State} → CanStep log numbers bytes m → {place i : ℕ}
    → IsNextData log (length numbers) place i → {sector last : List ℕ} {result : Result (Unit {0}) MediumFault}
    → sector ≡ (layout_of log.shape.format).part (log.head + length log.waiting) (entries_of numbers bytes)
    (descriptors log.shape.format (length numbers) + i)
    → IsSound m → IsSound n → Performed (Write place) sector last result m n → StepCalled (entries_of numbers bytes) result log m n
data_called {log} is {numbers} {bytes} {m} {n} can {place} {i} next {sector} {last} {result} part sound whole made =
    let told : IsNextCall (layout_of log.shape.format) log.shape (log.head + length log.waiting) (entries_of numbers bytes) (made_of log)
    (Write place) sector = rw (length_of_batch numbers bytes)
    (λ due. absurd (next.due due), λ not. rw next.written (ap (λ (p : ℕ). Write p) next.place_is, rw next.part part)) in
    step_called is can.on.live can.under_way bytes can.numbers_are can.size told next.before last result m n sound whole made
