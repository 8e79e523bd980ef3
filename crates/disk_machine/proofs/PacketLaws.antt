-- The packets of a transfer, one by one.
use Rattle.std.proofs.Common.{◌≡◌, ◌⊎◌, ◌<◌, ◌≤◌, ◌+◌, ◌∙◌, ℕ, zero, suc, List, inl, inr, ap, sym, arith, ◌-◌, ◌*◌, ◌/◌, ◌++◌}
use Rattle.std.proofs.{Common.{length, take, drop, min, add-one, length-drop}, lemmas.List.take_min}
use Rattle.std.proofs.{lemmas.List.{take_all, drop_all, append-nil, length-take}, Math.Nat.{mul-le-mul_right, div-mul-le_self}}
use Rattle.spec.specs.declared.event.Answer.{Answer}
use Rattle.bot_machine.specs.PacketRuns.{packet_of}
use Rattle.disk_machine.specs.{Codes.code_of, Machine.Machine, Going.PendingSteps, Packets.{TakesOne, TakesOut, SendsIn}}
use Rattle.disk_machine.specs.Transfers.{HasPacket, TakesFirst, SendsFirst}
use borrow.Rule.Slice.PartMut.{put_mid}

-- ---- to Bulk-Out

-- steps of what is pending leave the size of a packet
steps_size : (count : ℕ) (old new : Machine) → PendingSteps count old new
    → new.disk.disk.line.packet_size ≡ old.disk.disk.line.packet_size
steps_size zero old new same = ap (λ (s : Machine). s.disk.disk.line.packet_size) same
steps_size (suc count) old new (mid, steps, may, on) = on.plays.plays.step.packets_stay ∙ steps_size count old mid steps

pub size_stays : (old new : Machine) (packet : List ℕ) (code : ℕ) → TakesOne old packet new code
    → new.disk.disk.line.packet_size ≡ old.disk.disk.line.packet_size
size_stays old new packet code (inl long) = ap (λ (s : Machine). s.disk.disk.line.packet_size) long.2
size_stays old new packet code (inr (few, serves)) =
    let out = serves.out in
    steps_size out.goes.count out.mid new out.goes.steps ∙ out.plays.step.packets_stay

few_codes : (told : Answer) → code_of told ≤ 2
few_codes told = grind arith

-- a packet that is not too long is answered ACK, NAK or STALL
pub answers : (old new : Machine) (packet : List ℕ) (code : ℕ) → length packet ≤ old.disk.disk.line.packet_size
    → TakesOne old packet new code → code ≤ 2
answers old new packet code few (inl long) = absurd (omega (arith, few, long.0))
answers old new packet code few (inr (fits, serves)) = omega (arith, serves.out.code_is, few_codes serves.out.answer)

-- the bytes of the next packet
pub packet_is : (most at size : ℕ) (bytes : List ℕ) → size ≡ min most (length bytes - at)
    → take ((at + size) - at) (drop at bytes) ≡ take most (drop at bytes)
packet_is most at size bytes is =
    let width : (at + size) - at ≡ size = omega arith in
    ap (λ (n : ℕ). take n (drop at bytes)) (width ∙ is ∙ ap (λ (n : ℕ). min most n) (sym (length-drop at bytes)))
    ∙ take_min most (drop at bytes)

-- the next packet is that of its number
pub next_taken : (most result size code number : ℕ) (bytes : List ℕ) (mid new : Machine) → result ≡ most
    → size ≡ min result (length bytes - number * result)
    → TakesOut mid (take ((number * result + size) - number * result) (drop (number * result) bytes)) new code
    → TakesOut mid (packet_of most bytes number) new code
next_taken most result size code number bytes mid new is size_is takes =
    rw (sym is, sym (packet_is result (number * result) size bytes size_is)) takes

pub taken_more : (most number code : ℕ) (bytes : List ℕ) (old mid new : Machine) → TakesFirst most bytes number old mid
    → HasPacket most bytes number → code ≡ 0 → TakesOut mid (packet_of most bytes number) new code
    → TakesFirst most bytes (number + 1) old new
taken_more most number code bytes old mid new first has acked takes =
    rw add-one (mid, first, has, rw (sym acked) takes)

no_more : (code : ℕ) → code ≤ 2 → (code ≡ 0 → ⊥) → (code ≡ 1) ⊎ (code ≡ 2)
no_more code few some = grind (arith, few, some)

-- it is answered NAK or STALL, where not ACK
pub refused : (most number code : ℕ) (bytes : List ℕ) (mid new : Machine) → mid.disk.disk.line.packet_size ≡ most
    → TakesOut mid (packet_of most bytes number) new code → (code ≡ 0 → ⊥) → (code ≡ 1) ⊎ (code ≡ 2)
refused most number code bytes mid new size takes some =
    let fits : length (packet_of most bytes number) ≤ mid.disk.disk.line.packet_size =
    omega (arith, size, length-take most (drop (number * most) bytes)) in
    let few : code ≤ 2 = answers mid new (packet_of most bytes number) code fits takes.one in
    no_more code few some

-- ---- from Bulk-In

pub token_stays : (old new : Machine) (room filled : List ℕ) (size code : ℕ) → SendsIn old room new filled size code
    → new.disk.disk.line.packet_size ≡ old.disk.disk.line.packet_size
token_stays old new room filled size code sends = sends.plays.step.packets_stay

-- the room from a place on
rest_of : (at : ℕ) (room : List ℕ) → take (length room - at) (drop at room) ≡ drop at room
rest_of at room = take_all (length room - at) (drop at room) (omega (arith, length-drop at room))

put_rest : (at : ℕ) (room rest : List ℕ) → put_mid at (length room - at) room rest ≡ take at room ++ rest
put_rest at room rest =
    ap (λ (l : List ℕ). take at room ++ (rest ++ l)) (drop_all (length room - at) (drop at room) (omega (arith, length-drop at room)))
    ∙ ap (λ (l : List ℕ). take at room ++ l) (append-nil rest)

-- so many places lie in a room
pub has_place : (most number length : ℕ) → number < length / most → number * most + most ≤ length
has_place most number length low =
    let few : number + 1 ≤ length / most = omega (arith, low) in
    omega (arith, mul-le-mul_right most few, div-mul-le_self length most)

pub sent_more : (most number size code : ℕ) (room before rest : List ℕ) (old mid new : Machine)
    → SendsFirst most number old room mid before → number * most + most ≤ length before → size ≡ most → code ≡ 0
    → SendsIn mid (take (length before - number * most) (drop (number * most) before)) new rest size code
    → SendsFirst most (number + 1) old room new (put_mid (number * most) (length before - number * most) before rest)
sent_more most number size code room before rest old mid new first fits whole acked sends =
    let at = number * most in
    rw add-one (mid, before, first, (fits, rest, rw (acked, whole, rest_of at before) at sends, put_rest at before rest))
