-- What a store makes of its log where it makes batches durable, and by how many calls and flushes.
use Rattle.std.specs.Prelude.{◌+◌, ◌-◌, ℕ, zero, suc, List, [], ◌∷◌, ◌++◌, nat_lt}
use Rattle.std.specs.Prelude.{Bool, true, false, if◌then◌else◌}
use Rattle.journal.specs.{Format2.firsts_of, declared.log_format.LogFormat.LogFormat}
use Rattle.cache.specs.Entries.{Entries}
use Rattle.redo_log.specs.Value.{LogValue, begun, entries_of, steps_of, of_oldest, turns_calls}
use Rattle.redo_log.specs.Value.{steps_flushes, turns_flushes}
use Rattle.theorems.specs.Ahead.{oldest_retired, ahead_room, ahead_room_calls}

-- the first 8 bytes of each block of a batch
abbrev pub firsts_in : Entries → List (List ℕ)
firsts_in batch = firsts_of (entries_of batch.numbers batch.bytes)

-- a batch that holds blocks wants a stamp
abbrev pub wants : List ℕ → ℕ
wants [] = 0
wants (n ∷ numbers) = 1

-- a frozen batch counts as long as its record is not begun
abbrev pub waiting : ℕ → ℕ → ℕ
waiting zero steps = steps
waiting (suc begun) steps = 0

-- room for one more record: the oldest alone is retired, and only where no slot is free
abbrev pub with_room : LogValue → LogValue
with_room log =
    if nat_lt (log.next - log.head) log.ring then log else oldest_retired log

-- the same, as the store makes it that goes ahead or does not
abbrev pub made_ready : Bool → LogValue → LogValue
made_ready false log = with_room log
made_ready true log = ahead_room log

-- the record under way is durable
abbrev pub written_out : LogValue → LogValue
written_out log = record log {
  under_way = [];
  waiting = log.waiting ++ log.under_way ∷ [];
  steps_left = 0;
}

-- where a given number of steps is left of the record of a batch
abbrev pub finished_from : Bool → ℕ → List ℕ → List (List ℕ) → List ℕ → LogValue → LogValue
finished_from ahead (suc steps) numbers firsts copy log = written_out log
finished_from ahead zero [] firsts copy log = log
finished_from ahead zero (n ∷ numbers) firsts copy log =
    written_out (begun (n ∷ numbers) firsts copy (made_ready ahead log))

-- A batch of these blocks, with these first bytes and these bytes in all, is durable: its record is
-- written, or goes on where it is under way. An empty batch has none.
abbrev pub finished_with : Bool → List ℕ → List (List ℕ) → List ℕ → LogValue → LogValue
finished_with ahead numbers firsts copy log =
    finished_from ahead log.steps_left numbers firsts copy log

-- this batch is durable
abbrev pub finished : Bool → Entries → LogValue → LogValue
finished ahead batch log =
    finished_with ahead batch.numbers (firsts_in batch) batch.bytes log

-- how many calls write the record of a batch, where a given number of its steps is left
abbrev pub calls_from : ℕ → LogFormat → List ℕ → ℕ
calls_from (suc steps) format numbers = suc steps
calls_from zero format [] = 0
calls_from zero format (n ∷ numbers) = steps_of format (n ∷ numbers)

-- how many make the batch of these blocks durable, where the log has a slot free
abbrev pub record_calls : List ℕ → LogValue → ℕ
record_calls numbers log = calls_from log.steps_left log.shape.format numbers

-- how many make room for one more record: none where a slot is free
abbrev pub room_calls : LogValue → ℕ
room_calls log = if nat_lt (log.next - log.head) log.ring then 0
    else turns_calls log.keeps (of_oldest log)

-- the same, as the store makes it that goes ahead or does not
abbrev pub ready_calls : Bool → LogValue → ℕ
ready_calls false log = room_calls log
ready_calls true log = ahead_room_calls log

-- how many make a batch durable, where so many steps are left of its record, or none is begun
abbrev pub finish_from : Bool → ℕ → List ℕ → LogValue → ℕ
finish_from ahead (suc steps) numbers log = suc steps
finish_from ahead zero [] log = 0
finish_from ahead zero (n ∷ numbers) log =
    ready_calls ahead log + steps_of log.shape.format (n ∷ numbers)

-- how many calls it takes to make the batch of these blocks durable, whether or not a slot is free
abbrev pub finish_calls : Bool → List ℕ → LogValue → ℕ
finish_calls ahead numbers log = finish_from ahead log.steps_left numbers log

-- how many for this batch, and then for another one: the bytes of the first count for nothing
abbrev pub both_calls : Bool → List ℕ → List ℕ → LogValue → ℕ
both_calls ahead frozen active log =
    finish_calls ahead frozen log + finish_calls ahead active (finished_with ahead frozen [] [] log)

-- how many records are to be begun of a batch: none where that is under way, or empty
abbrev pub to_begin : List ℕ → LogValue → ℕ
to_begin numbers log = waiting log.steps_left (wants numbers)

-- a count of slots, and two besides where the store goes ahead
abbrev pub with_spare : Bool → ℕ → ℕ
with_spare false count = count
with_spare true count = count + 2

-- ---- how many of these calls are flushes

-- those of the steps that are left of the record under way
abbrev pub left_flushes : LogValue → ℕ
left_flushes log = steps_flushes log.shape.format log.steps_left

-- those for the room of one more record, whether or not the store goes ahead: two at most
abbrev pub room_flushes : LogValue → ℕ
room_flushes log =
    if nat_lt (log.next - log.head) log.ring then 0 else turns_flushes (of_oldest log)

-- those that make a batch durable, where a given number of steps is left of its record
abbrev pub finish_flushes_from : ℕ → List ℕ → LogValue → ℕ
finish_flushes_from (suc steps) numbers log = steps_flushes log.shape.format (suc steps)
finish_flushes_from zero [] log = 0
finish_flushes_from zero (n ∷ numbers) log = room_flushes log
    + steps_flushes log.shape.format (steps_of log.shape.format (n ∷ numbers))

-- those that make the batch of these blocks durable
abbrev pub finish_flushes : List ℕ → LogValue → ℕ
finish_flushes numbers log = finish_flushes_from log.steps_left numbers log

-- those for this batch, and then for another one
abbrev pub both_flushes : Bool → List ℕ → List ℕ → LogValue → ℕ
both_flushes ahead frozen active log =
    finish_flushes frozen log + finish_flushes active (finished_with ahead frozen [] [] log)
