-- Whole transfers of a host: the packets of an endpoint, one after the other.
use Rattle.std.specs.Prelude.{◌≡◌, ◌≢◌, ◌⊎◌, ℕ, zero, suc, ◌+◌, ◌*◌, ◌/◌, ◌<◌, ◌≤◌, ◌==◌, ◌++◌}
use Rattle.std.specs.Prelude.{List, [], ◌∷◌, length, take, drop, if◌then◌else◌}
use Rattle.std.proofs.Common.{inl, inr}
use Rattle.bot_machine.specs.PacketRuns.{packet_of}
use Rattle.disk_machine.specs.{Codes.BAD_LENGTH, Machine.Machine, Moves.{Turn, played, ticks}}
use Rattle.disk_machine.specs.Packets.{TakesOne, TakesOut, SendsIn}
use Rattle.spec.specs.declared.event.Event.TheVariants as event

-- ---- to Bulk-Out

-- the bytes have a packet of this number: the first one always, and each that lies in them (its
-- bytes are as many as a packet has at most, or what is left)
abbrev pub HasPacket : ℕ → List ℕ → ℕ → Type 0
HasPacket most bytes number = (number ≡ 0) ⊎ (number * most < length bytes)

-- the first packets are taken, one by one
abbrev pub TakesFirst : ℕ → List ℕ → ℕ → Machine → Machine → Type 0
TakesFirst most bytes zero old new = new ≡ old
TakesFirst most bytes (suc number) old new = (mid : Machine)
    × TakesFirst most bytes number old mid × HasPacket most bytes number
    × TakesOut mid (packet_of most bytes number) new 0

-- some of them, at once
abbrev pub TakesAmid : Machine → List ℕ → Machine → ℕ → Type 0
TakesAmid old bytes new count = TakesFirst old.disk.disk.line.packet_size bytes count old new
    × (new.disk.disk.line.packet_size ≡ old.disk.disk.line.packet_size)

-- All packets were taken; or the next one is not, and its answer is told: NAK or STALL.
abbrev pub EndsTaking : ℕ → List ℕ → ℕ → Machine → Machine → ℕ → ℕ → Type 0
EndsTaking most bytes count mid new taken code =
    ((¬ HasPacket most bytes count) × (new ≡ mid) × (taken ≡ length bytes) × (code ≡ 0))
    ⊎ (HasPacket most bytes count × TakesOut mid (packet_of most bytes count) new code
    × (taken ≡ count * most) × ((code ≡ 1) ⊎ (code ≡ 2)))

pub record TakesTransfer (old : Machine) (bytes : List ℕ) (new : Machine) (taken code : ℕ)
    : Type 0 where
  pub count : ℕ
  pub mid : Machine
  pub first : TakesFirst old.disk.disk.line.packet_size bytes count old mid
  pub ends : EndsTaking old.disk.disk.line.packet_size bytes count mid new taken code

-- ---- from Bulk-In

-- a token gives no more bytes than a packet has at most
abbrev pub SendsToken : Machine → List ℕ → Machine → List ℕ → ℕ → ℕ → Type 0
SendsToken old room new filled size code =
    SendsIn old room new filled size code × (size ≤ old.disk.disk.line.packet_size)

-- a token, whose packet goes to its place in the room; there is room for the greatest
abbrev pub SendsAt : ℕ → ℕ → Machine → List ℕ → Machine → List ℕ → ℕ → ℕ → Type 0
SendsAt most at old room new filled size code = (at + most ≤ length room) × (rest : List ℕ)
    × SendsIn old (drop at room) new rest size code × (filled ≡ take at room ++ rest)

-- so many packets of the greatest size, one behind the other in the room
abbrev pub SendsFirst : ℕ → ℕ → Machine → List ℕ → Machine → List ℕ → Type 0
SendsFirst most zero old room new filled = (new ≡ old) × (filled ≡ room)
SendsFirst most (suc number) old room new filled = (mid : Machine) × (before : List ℕ)
    × SendsFirst most number old room mid before
    × SendsAt most (number * most) mid before new filled most 0

-- some of them at once, for which the room has place
abbrev pub SendsAmid : Machine → List ℕ → Machine → List ℕ → ℕ → Type 0
SendsAmid old room new filled count =
    SendsFirst old.disk.disk.line.packet_size count old room new filled
    × (new.disk.disk.line.packet_size ≡ old.disk.disk.line.packet_size)
    × (count ≤ length room / old.disk.disk.line.packet_size)

-- The last token gave a shorter packet, or none: then its answer is told where no packet came.
abbrev pub IsLast : ℕ → ℕ → ℕ → ℕ → ℕ → ℕ → Type 0
IsLast most count size told given code =
    ((told ≡ 0) × (size < most) × (given ≡ count * most + size) × (code ≡ 0))
    ⊎ ((told ≢ 0) × (given ≡ count * most) × (code ≡ (if count == 0 then told else 0)))

-- There is no room for a further packet; or one token more was the last.
abbrev pub EndsSending : ℕ → ℕ → Machine → List ℕ → Machine → List ℕ → ℕ → ℕ → Type 0
EndsSending most count mid before new filled given code =
    ((length before < count * most + most) × (new ≡ mid) × (filled ≡ before)
    × (given ≡ count * most) × (code ≡ 0))
    ⊎ ((size : ℕ) × (told : ℕ) × SendsAt most (count * most) mid before new filled size told
    × IsLast most count size told given code)

pub record SendsTransfer (old : Machine) (room : List ℕ) (new : Machine) (filled : List ℕ)
    (given code : ℕ) : Type 0 where
  pub count : ℕ
  pub mid : Machine
  pub before : List ℕ
  pub first : SendsFirst old.disk.disk.line.packet_size count old room mid before
  pub ends : EndsSending old.disk.disk.line.packet_size count mid before new filled given code

-- where there is no room for one packet nothing changes
abbrev pub SendsInto : Machine → List ℕ → ℕ → Machine → List ℕ → ℕ → ℕ → Type 0
SendsInto old room was new filled given code =
    ((length room < old.disk.disk.line.packet_size) × (code ≡ BAD_LENGTH) × (new ≡ old)
    × (filled ≡ room) × (given ≡ was))
    ⊎ ((old.disk.disk.line.packet_size ≤ length room)
    × SendsTransfer old room new filled given code)

-- ---- what is said in a transfer

abbrev pub turns_one : (old : Machine) (packet : List ℕ) (new : Machine) (code : ℕ)
    → TakesOne old packet new code → List Turn
turns_one old packet new code (inl long) = []
turns_one old packet new code (inr (few, serves)) =
    played (event.Out (record { items = packet })) serves.out.answer ∷ ticks serves.out.goes.count

abbrev pub turns_out : (old : Machine) (packet : List ℕ) (new : Machine) (code : ℕ)
    → TakesOut old packet new code → List Turn
turns_out old packet new code takes = turns_one old packet new code takes.one

abbrev pub turns_in : (old : Machine) (room : List ℕ) (new : Machine) (filled : List ℕ)
    (size code : ℕ) → SendsIn old room new filled size code → List Turn
turns_in old room new filled size code sends = played event.In sends.answer ∷ []

abbrev pub turns_taken : (most : ℕ) (bytes : List ℕ) (count : ℕ) (old new : Machine)
    → TakesFirst most bytes count old new → List Turn
turns_taken most bytes zero old new first = []
turns_taken most bytes (suc number) old new (mid, first, has, takes) =
    turns_taken most bytes number old mid first
    ++ turns_out mid (packet_of most bytes number) new 0 takes

abbrev pub turns_not_taken : (most : ℕ) (bytes : List ℕ) (count : ℕ) (mid new : Machine)
    (taken code : ℕ) → EndsTaking most bytes count mid new taken code → List Turn
turns_not_taken most bytes count mid new taken code (inl all) = []
turns_not_taken most bytes count mid new taken code (inr (has, takes, at, told)) =
    turns_out mid (packet_of most bytes count) new code takes

abbrev pub turns_of_taking : (old : Machine) (bytes : List ℕ) (new : Machine) (taken code : ℕ)
    → TakesTransfer old bytes new taken code → List Turn
turns_of_taking old bytes new taken code takes =
    turns_taken old.disk.disk.line.packet_size bytes takes.count old takes.mid takes.first
    ++ turns_not_taken old.disk.disk.line.packet_size bytes takes.count takes.mid new taken code
    takes.ends

abbrev pub turns_at : (most at : ℕ) (old : Machine) (room : List ℕ) (new : Machine)
    (filled : List ℕ) (size code : ℕ) → SendsAt most at old room new filled size code → List Turn
turns_at most at old room new filled size code (fits, rest, sends, are) =
    turns_in old (drop at room) new rest size code sends

abbrev pub turns_sent : (most count : ℕ) (old : Machine) (room : List ℕ) (new : Machine)
    (filled : List ℕ) → SendsFirst most count old room new filled → List Turn
turns_sent most zero old room new filled first = []
turns_sent most (suc number) old room new filled (mid, before, first, sends) =
    turns_sent most number old room mid before first
    ++ turns_at most (number * most) mid before new filled most 0 sends

abbrev pub turns_last : (most count : ℕ) (mid : Machine) (before : List ℕ) (new : Machine)
    (filled : List ℕ) (given code : ℕ) → EndsSending most count mid before new filled given code
    → List Turn
turns_last most count mid before new filled given code (inl full) = []
turns_last most count mid before new filled given code (inr (size, told, sends, last)) =
    turns_at most (count * most) mid before new filled size told sends

abbrev pub turns_of_sending : (old : Machine) (room : List ℕ) (new : Machine) (filled : List ℕ)
    (given code : ℕ) → SendsTransfer old room new filled given code → List Turn
turns_of_sending old room new filled given code sends =
    turns_sent old.disk.disk.line.packet_size sends.count old room sends.mid sends.before
    sends.first
    ++ turns_last old.disk.disk.line.packet_size sends.count sends.mid sends.before new filled
    given code sends.ends

-- where no packet has room, none is asked for
abbrev pub turns_into : (old : Machine) (room : List ℕ) (was : ℕ) (new : Machine)
    (filled : List ℕ) (given code : ℕ) → SendsInto old room was new filled given code → List Turn
turns_into old room was new filled given code (inl little) = []
turns_into old room was new filled given code (inr (has, sends)) =
    turns_of_sending old room new filled given code sends
