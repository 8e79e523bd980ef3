-- A life is served on through all calls, and what is said in them is by the rules.
use Rattle.std.proofs.Common.{inl, inr, [], ◌∷◌, List, ℕ, zero, suc, refl, ◌*◌}
use Rattle.std.specs.Prelude.{length}
use Rattle.bot_machine.specs.PacketRuns.{packet_of}
use Rattle.disk_machine.specs.Lives.{Call, next, done, bulk_out, bulk_in, take_transfer, send_transfer, setup, idle, work_ahead, look_ahead}
use Rattle.disk_machine.specs.Lives.{IsMade, turns_of, ServesThroughout, DeviceWitness}
use Rattle.disk_machine.specs.{Machine.Machine, Moves.{ServesTurns, TurnsAreRun, played}, Packets.TakesOne}
use Rattle.disk_machine.specs.Transfers.{TakesFirst, EndsTaking, TakesTransfer, SendsAt, SendsFirst, EndsSending, SendsTransfer, SendsInto}
use Rattle.disk_machine.specs.Transfers.{turns_one, turns_taken, turns_not_taken, turns_of_taking, turns_at, turns_sent, turns_last}
use Rattle.disk_machine.specs.Transfers.{turns_of_sending, turns_into}
use Rattle.disk_machine.proofs.Onward.{nothing_said, served_on, through}
use Rattle.store_calls.proofs.CarriedOut.{all_carried, all_left}

pub events_run : TurnsAreRun
events_run old [] new same = ([], same)
events_run old (played event answer ∷ turns) new (refused, mid, step, rest) =
    let more = events_run mid turns new rest in (refused ∷ more.0, (mid, step, more.1))

-- ---- a transfer

taken_one : (old new : Machine) (packet : List ℕ) (code : ℕ) (takes : TakesOne old packet new code)
    → ServesTurns (turns_one old packet new code takes) old new
taken_one old new packet code (inl long) = nothing_said old new long.2
taken_one old new packet code (inr (few, serves)) = serves.serves

taken_first : (most : ℕ) (bytes : List ℕ) (count : ℕ) (old new : Machine) (first : TakesFirst most bytes count old new)
    → ServesTurns (turns_taken most bytes count old new first) old new
taken_first most bytes zero old new same = nothing_said old new same
taken_first most bytes (suc number) old new (mid, first, has, takes) =
    through (taken_first most bytes number old mid first) (taken_one mid new (packet_of most bytes number) 0 takes.one)

not_taken : (most : ℕ) (bytes : List ℕ) (count : ℕ) (mid new : Machine) (taken code : ℕ)
    (ends : EndsTaking most bytes count mid new taken code) → ServesTurns (turns_not_taken most bytes count mid new taken code ends) mid new
not_taken most bytes count mid new taken code (inl all) = nothing_said mid new all.1
not_taken most bytes count mid new taken code (inr (has, takes, at, told)) =
    taken_one mid new (packet_of most bytes count) code takes.one

transfer_taken : (old new : Machine) (bytes : List ℕ) (taken code : ℕ) (takes : TakesTransfer old bytes new taken code)
    → ServesTurns (turns_of_taking old bytes new taken code takes) old new
transfer_taken old new bytes taken code takes =
    let most = old.disk.disk.line.packet_size in
    through (taken_first most bytes takes.count old takes.mid takes.first)
    (not_taken most bytes takes.count takes.mid new taken code takes.ends)

sent_at : (most at : ℕ) (old new : Machine) (room filled : List ℕ) (size code : ℕ)
    (sends : SendsAt most at old room new filled size code) → ServesTurns (turns_at most at old room new filled size code sends) old new
sent_at most at old new room filled size code (fits, rest, sends, are) = sends.serves

sent_first : (most count : ℕ) (old new : Machine) (room filled : List ℕ) (first : SendsFirst most count old room new filled)
    → ServesTurns (turns_sent most count old room new filled first) old new
sent_first most zero old new room filled same = nothing_said old new same.0
sent_first most (suc number) old new room filled (mid, before, first, sends) =
    through (sent_first most number old mid room before first) (sent_at most (number * most) mid new before filled most 0 sends)

sent_last : (most count : ℕ) (mid new : Machine) (before filled : List ℕ) (given code : ℕ)
    (ends : EndsSending most count mid before new filled given code)
    → ServesTurns (turns_last most count mid before new filled given code ends) mid new
sent_last most count mid new before filled given code (inl full) = nothing_said mid new full.1
sent_last most count mid new before filled given code (inr (size, told, sends, last)) =
    sent_at most (count * most) mid new before filled size told sends

transfer_sent : (old new : Machine) (room filled : List ℕ) (given code : ℕ) (sends : SendsTransfer old room new filled given code)
    → ServesTurns (turns_of_sending old room new filled given code sends) old new
transfer_sent old new room filled given code sends =
    let most = old.disk.disk.line.packet_size in
    through (sent_first most sends.count old sends.mid room sends.before sends.first)
    (sent_last most sends.count sends.mid new sends.before filled given code sends.ends)

sent_into : (old new : Machine) (room : List ℕ) (was : ℕ) (filled : List ℕ) (given code : ℕ)
    (sends : SendsInto old room was new filled given code) → ServesTurns (turns_into old room was new filled given code sends) old new
sent_into old new room was filled given code (inl little) = nothing_said old new little.2
sent_into old new room was filled given code (inr (has, sends)) = transfer_sent old new room filled given code sends

-- ---- all calls

one : (call : Call) (old new : Machine) (made : IsMade call old new) → ServesTurns (turns_of call old new made) old new
one (next room) old new made = served_on old new made.3.serves
one (done ok bytes) old new made = made.1.1.serves made.0
one (bulk_out packet) old new (code, takes) = taken_one old new packet code takes.one
one (bulk_in room) old new (filled, size, code, sends) = sends.serves
one (take_transfer bytes) old new (taken, code, takes) = transfer_taken old new bytes taken code takes
one (send_transfer room) old new (was, filled, given, code, sends) = sent_into old new room was filled given code sends
one (setup packet room) old new (filled, size, code, answers) = answers.serves
one idle old new (left, idles) = idles.serves
one work_ahead old new works = works.serves
one (look_ahead first count) old new (reads, looks) = served_on old new looks.stays.serves

pub serves_throughout : ServesThroughout
serves_throughout [] old new same = nothing_said old new same
serves_throughout (call ∷ calls) old new (mid, made, rest) = through (one call old mid made) (serves_throughout calls mid new rest)

-- ---- what the laws suppose of a device is met

pub device_met : DeviceWitness
device_met = record {
  leaves = λ opening calls told few.
      record { count = length calls; done = calls; reaches = few; are = all_carried calls; cut = all_left opening calls };
  caught_up = λ disk most none. record { none_waits = none; none_under_way = refl; none_refused = refl };
}
