-- Runs of packets in the midst of data: each of the greatest size, and another follows behind it.
-- None of their events does anything but on the line.
use Rattle.std.specs.Prelude.{◌≡◌, ◌<◌, ℕ, zero, suc, ◌-◌, ◌*◌, ◌/◌, min, List, [], ◌++◌}
use Rattle.std.specs.Prelude.{length, take, drop, if◌then◌else◌}
use Rattle.spec.specs.{Cases.size_of_way, Exchange.{Line, Script, taking, sending}}
use Rattle.spec.specs.Exchange.{in_answer, after_in}
use Rattle.spec.specs.declared.event.Answer.TheVariants.{Data}
use Rattle.bot_machine.specs.DiskValue.{DiskValue}

-- how many packets of this size lie in so much room, each with more of so many bytes behind it
abbrev pub packets_amid : ℕ → ℕ → ℕ → ℕ
packets_amid size bytes room = min ((bytes - 1) / size) (room / size)

-- of bytes that lie one behind the other, the packet of this number
abbrev pub packet_of : ℕ → List ℕ → ℕ → List ℕ
packet_of size bytes number = take size (drop (number * size) bytes)

-- ---- from Bulk-In

-- the line behind so many tokens
abbrev pub after_tokens : ℕ → Line → Line
after_tokens zero s = s
after_tokens (suc count) s = after_in (after_tokens count s)

-- the packets that are still to be sent
abbrev pub packets_in : Script → List (List ℕ)
packets_in (sending packets halt status) = packets
packets_in left = []

abbrev pub packets_to_send : Line → List (List ℕ)
packets_to_send s = if s.in_halted then [] else packets_in s.left

-- So many packets came at once, one behind the other at the front of a room: all that are to be
-- sent but the last, as far as the room has place. So many tokens give the same.
pub record GivesRun {M : Type 0} (old : DiskValue M) (room : List ℕ) (new : DiskValue M)
    (filled : List ℕ) (count : ℕ) : Type 0 where
  pub count_is : count
      ≡ min (length (packets_to_send old.line) - 1) (length room / old.line.packet_size)
  pub packets : (number : ℕ) → number < count → in_answer (after_tokens number old.line)
      ≡ Data (record { items = packet_of old.line.packet_size filled number })
  pub behind : drop (count * old.line.packet_size) filled
      ≡ drop (count * old.line.packet_size) room
  pub after : new ≡ record old { line = after_tokens count old.line }

-- ---- to Bulk-Out

-- what is left behind a packet of data that is not the last one
abbrev pub after_more : ℕ → List ℕ → Script → Script
after_more size packet (taking case command intended bytes due) =
    taking case command intended (take (size_of_way intended) (bytes ++ packet)) (due - size)
after_more size packet left = left

-- what is left behind the first packets of these bytes
abbrev pub after_first : ℕ → List ℕ → ℕ → Script → Script
after_first size bytes zero left = left
after_first size bytes (suc count) left =
    after_more size (packet_of size bytes count) (after_first size bytes count left)

-- how many bytes are due
abbrev pub due_in : Script → ℕ
due_in (taking case command intended bytes due) = due
due_in left = 0

abbrev pub bytes_due : Line → ℕ
bytes_due s = if s.out_halted then 0 else due_in s.left

-- So many packets were taken at once: all that begin these bytes and behind which more data is due.
-- So many packets, one by one, do the same.
pub record TakesRun {M : Type 0} (old : DiskValue M) (bytes : List ℕ) (new : DiskValue M)
    (count : ℕ) : Type 0 where
  pub count_is : count
      ≡ packets_amid old.line.packet_size (bytes_due old.line) (length bytes)
  pub after : new ≡ record old {
    line = record old.line { left = after_first old.line.packet_size bytes count old.line.left };
  }
