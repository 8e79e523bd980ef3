-- What a store that retires ahead does before it begins a record, and how many calls that takes:
-- the head goes past an oldest record whose blocks an earlier flush covers, and the oldest one goes
-- home. None of these calls is a flush: that of the record that is begun covers them.
use Rattle.std.specs.Prelude.{◌+◌, ◌-◌, ◌&&◌, ◌==◌, ℕ, Bool, length, nat_lt, nat_le, false}
use Rattle.std.specs.Prelude.{if◌then◌else◌, drop}
use Rattle.journal.specs.{Places.Shape, declared.log_format.LogFormat.LogFormat}
use Rattle.journal.specs.declared.log_format.LogFormat.TheVariants.{One, Two}
use Rattle.redo_log.specs.Value.{LogValue, settled, behind_oldest, of_oldest, ahead_of, none_ahead}
use Rattle.redo_log.specs.Value.{turns_calls, pass_calls}

-- the oldest record is retired
abbrev pub oldest_retired : LogValue → LogValue
oldest_retired log = record log {
  head = log.head + 1;
  waiting = drop 1 log.waiting;
  retire_steps_left = behind_oldest log;
  firsts = drop 1 log.firsts;
  copies = drop 1 log.copies;
  ahead = none_ahead;
}

-- how many calls make all the steps that are left of the oldest record
abbrev pub retiring_calls : LogValue → ℕ
retiring_calls log = turns_calls log.keeps (of_oldest log)

-- fewer slots are free than three
abbrev pub is_short : LogValue → Bool
is_short log = nat_lt log.ring ((log.next - log.head) + 3)

-- the oldest record went home ahead, and a record has become durable since
abbrev pub is_covered : LogValue → Bool
is_covered log = (log.ahead.home == log.head)
    && (of_oldest log == 2)
    && nat_lt log.ahead.before (log.head + length log.waiting)

-- the flush of that record counts
abbrev pub counted : LogValue → LogValue
counted log = if is_covered log then settled log else log

-- the head goes past the oldest record, where that is flushed at home and a slot is free
abbrev pub past : LogValue → LogValue
past log = if pass_calls log == 1 then oldest_retired log else log

-- the same where fewer slots are free than three, and its calls
abbrev pub passed : LogValue → LogValue
passed log = if is_short log then past (counted log) else log

abbrev pub passed_calls : LogValue → ℕ
passed_calls log = if is_short log then pass_calls (counted log) else 0

-- the blocks of the oldest record that are away go home, and two steps are left of it
abbrev pub gone_home : LogValue → LogValue
gone_home log = if nat_lt 2 (of_oldest log) then record log {
  retire_steps_left = behind_oldest log + 2;
  ahead = ahead_of log;
} else log

-- that takes the calls of its steps but three: a flush, and the head with its flush
abbrev pub going_calls : LogValue → ℕ
going_calls log = if nat_lt 2 (of_oldest log) then retiring_calls log - 3 else 0

-- the same where fewer slots are free than three, and its calls
abbrev pub sent_home : LogValue → LogValue
sent_home log = if is_short log then gone_home log else log

abbrev pub sent_calls : LogValue → ℕ
sent_calls log = if is_short log then going_calls log else 0

-- Room for one more record. Where a slot is free the oldest record may be passed, and it, or the
-- next one, sent home. Where none is free the oldest is retired.
abbrev pub ahead_room : LogValue → LogValue
ahead_room log = if nat_lt (log.next - log.head) log.ring then sent_home (passed log)
    else oldest_retired log

abbrev pub ahead_room_calls : LogValue → ℕ
ahead_room_calls log = if nat_lt (log.next - log.head) log.ring
    then passed_calls log + sent_calls (passed log) else retiring_calls log

-- A store may go ahead with a log of this format, in which so many records may stand at once: the
-- one that is passed, the one on its way home and the one that is begun have a slot each.
abbrev pub may_go_by : LogFormat → ℕ → Bool
may_go_by One ring = false
may_go_by Two ring = nat_le 3 ring

abbrev pub may_go_ahead : Shape → Bool
may_go_ahead shape = may_go_by shape.format shape.slots
