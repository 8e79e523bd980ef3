-- Packets in the midst of data, many at once, are so many one by one.
use Rattle.std.proofs.Common.{◌≡◌, ◌<◌, ◌≤◌, ◌+◌, ◌*◌, ◌/◌, ◌++◌, ◌∙◌, ℕ, zero, suc, List, length, take, drop, inl, inr, ap, sym, refl}
use Rattle.std.proofs.Common.{arith, subst, false, Option, is_some, length-append, length-drop, append_assoc}
use Rattle.std.proofs.lemmas.{List.{drop-drop, length-take, take_at, take-append-drop}, Bool.{false≢true, cases_lt}}
use Rattle.std.proofs.Math.{Seq.{take-add, drop-append_seam}, Nat.{div-zero, div-mul-le_self, mul-le-mul_right}}
use Rattle.spec.specs.{Exchange.{Line, after_in}, declared.event.Answer.{TheVariants.{Ack, Data}, Answer}}
use Rattle.window.specs.Window.{state_of}
use Rattle.bot_machine.specs.{PacketRuns.{packet_of, after_tokens}, declared.pending.Pending.Pending}
use Rattle.bot_machine.specs.LaggingDisk.{IsLagStep, GivesLagRun, TakesLagRun, behind_tokens, behind_packets}
use Rattle.bot_machine.proofs.PacketRuns.{within}
use Rattle.disk_machine.specs.{Plays.{Disk, medium_of, PlaysStill}, Machine.Machine, Idling.is_pending, Wanted.MayGoOn}
use Rattle.disk_machine.specs.{Packets.{SendsIn, TakesOut, lack_after}, declared.lack.Lack.Lack}
use Rattle.disk_machine.specs.Transfers.{HasPacket, SendsAmid, SendsAt, SendsFirst, TakesAmid, TakesFirst}
use Rattle.disk_machine.proofs.Still.{serves_still, still_goes_on, still_serves_on}
use Rattle.spec.specs.declared.event.Event.TheVariants as event

-- ---- from Bulk-In

-- a room of which the first bytes were written
abbrev laid : ℕ → List ℕ → List ℕ → List ℕ
laid width filled room = take width filled ++ drop width room

module _ (width : ℕ) (filled room : List ℕ) (low : width ≤ length filled) where
  front : length (take width filled) ≡ width
  front = omega (arith, length-take width filled)

  laid_behind : drop width (laid width filled room) ≡ drop width room
  laid_behind = ap (λ (n : ℕ). drop n (laid width filled room)) (sym front) ∙ drop-append_seam (take width filled) (drop width room)

  laid_more : (size : ℕ) → laid (width + size) filled room
      ≡ take width (laid width filled room) ++ (take size (drop width filled) ++ drop size (drop width room))
  laid_more size =
      let first = take-add width size filled in
      let whole = take_at (take width filled) (drop width room) width front in
      let rest = drop-drop size width room in
      let grouped = append_assoc (take width filled) (take size (drop width filled)) (drop size (drop width room)) in
      cc

  laid_long : length filled ≡ length room → length (laid width filled room) ≡ length room
  laid_long long = omega (arith, length-append (take width filled) (drop width room), front, length-drop width room)

-- tokens leave the size of a packet
one_size : (s : Line) → (after_in s).packet_size ≡ s.packet_size
one_size s = grind arith

tokens_size : (count : ℕ) (s : Line) → (after_tokens count s).packet_size ≡ s.packet_size
tokens_size zero s = refl
tokens_size (suc count) s = one_size (after_tokens count s) ∙ tokens_size count s

module _ (old : Machine) (room filled : List ℕ) (new : Disk) (count : ℕ) (run : GivesLagRun state_of old.disk room new filled count)
    (long : length filled ≡ length room) where
  abbrev size : ℕ
  size = old.disk.disk.line.packet_size

  -- the machine behind so many tokens
  abbrev behind : ℕ → Machine
  behind number = record old { disk = behind_tokens old.disk number }

  few : count ≤ length room / size
  few = omega (arith, run.gives.count_is)

  fits : count * size ≤ length room
  fits = omega (arith, mul-le-mul_right size few, div-mul-le_self (length room) size)

  -- one of them
  plays_one : (number : ℕ) → number < count
      → PlaysStill (behind number).disk event.In (Data (record { items = packet_of size filled number })) (behind (suc number)).disk
  plays_one number low = record {
    step = subst (λ (a : Answer). IsLagStep ⊥ (state_of (medium_of old.disk)) (state_of (medium_of old.disk))
        (behind number).disk event.In a (behind (suc number)).disk) (run.gives.packets number low) (run.steps number low);
    medium = refl;
  }

  one_sent : (number : ℕ) → number < count → SendsAt size (number * size) (behind number) (laid (number * size) filled room)
      (behind (suc number)) (laid (suc number * size) filled room) size 0
  one_sent number low =
      let at = number * size in
      let lies = within number count size low in
      let next : suc number * size ≡ at + size = omega arith in
      let inside : at ≤ length filled = omega (arith, lies, fits, long) in
      let packet = packet_of size filled number in
      let whole : length packet ≡ size = omega (arith, length-take size (drop at filled), length-drop at filled, lies, fits, long) in
      let rest = packet ++ drop size (drop at room) in
      let sends : SendsIn (behind number) (drop at room) (behind (suc number)) rest size 0
      = serves_still (behind number) (behind (suc number)).disk event.In (Data (record { items = packet })) (drop at room) rest size 0
      (plays_one number low)
      (record { code_is = refl; size_is = sym whole; bytes_are = ap (λ (n : ℕ). packet ++ drop n (drop at room)) (sym whole) }) in (
        omega (arith, laid_long at filled room inside long, lies, fits),
        rest,
        rw (laid_behind at filled room inside) sends,
        ap (λ (n : ℕ). laid n filled room) next ∙ laid_more at filled room inside size,
      )

  first_sent : (number : ℕ) → number ≤ count → SendsFirst size number old room (behind number) (laid (number * size) filled room)
  first_sent zero low = let none : 0 * size ≡ 0 = omega arith in (refl, rw none refl)
  first_sent (suc number) low =
      let more : number < count = omega (arith, low) in
      (behind number, laid (number * size) filled room, first_sent number (omega (arith, low)), one_sent number more)

  sent_is : new ≡ behind_tokens old.disk count
  sent_is = λ i. record { disk = run.gives.after i; pending = run.pending i }

  pub sends_run : SendsAmid old room (record old { disk = new }) filled count
  sends_run =
      let all : laid (count * size) filled room ≡ filled
      = ap (λ (l : List ℕ). take (count * size) filled ++ l) (sym run.gives.behind) ∙ take-append-drop (count * size) filled in
      (rw (sent_is, sym all) (first_sent count (omega arith)), rw sent_is (tokens_size count old.disk.disk.line), few)

-- ---- to Bulk-Out

lack_twice : (l : Lack) → lack_after (lack_after l) ≡ lack_after l
lack_twice l = grind arith

-- no step is made where nothing is pending
rests : (s : Machine) → is_pending s.disk ≡ false → ¬ MayGoOn s
rests s none may = false≢true (sym none ∙ ap (λ (p : Option Pending). is_some p) may.is)

-- a packet that begins no command
module _ (old : Machine) (disk : Disk) (packet : List ℕ)
    (plays : PlaysStill old.disk (event.Out (record { items = packet })) Ack disk) where
  abbrev after_one : Machine
  after_one = record old { disk = disk; lack = lack_after old.lack }

  one_taken : length packet ≤ old.disk.disk.line.packet_size → is_pending disk ≡ false → TakesOut old packet after_one 0
  one_taken few none =
      let happens = event.Out (record { items = packet }) in record {
        one = inr (
          few,
          record {
            out = record {
              answer = Ack;
              code_is = refl;
              mid = after_one;
              plays = plays;
              others = refl;
              goes = record { count = 0; few = omega arith; steps = refl; ends = inr (rests after_one none) };
            };
            serves = still_serves_on old after_one happens Ack plays refl;
            goes_on = still_goes_on old after_one happens Ack plays refl refl;
          },
        );
      }

module _ (old : Machine) (bytes : List ℕ) (new : Disk) (count : ℕ) (free : is_pending old.disk ≡ false)
    (run : TakesLagRun state_of old.disk bytes new count) where
  abbrev most : ℕ
  most = old.disk.disk.line.packet_size

  -- the machine behind so many packets
  abbrev taken_at : ℕ → Machine
  taken_at zero = old
  taken_at (suc number) = record old { disk = behind_packets old.disk bytes (suc number); lack = lack_after old.lack }

  taken_is : (number : ℕ) → 0 < number
      → taken_at number ≡ record old { disk = behind_packets old.disk bytes number; lack = lack_after old.lack }
  taken_is zero some = absurd (omega (arith, some))
  taken_is (suc number) some = refl

  within_all : count * most ≤ length bytes
  within_all =
      let few : count ≤ length bytes / most = omega (arith, run.takes.count_is) in
      omega (arith, mul-le-mul_right most few, div-mul-le_self (length bytes) most)

  some_size : 0 < count → 0 < most
  some_size some = elim (cases_lt 0 most) [
    | inl more ↦ more
    | inr none ↦
        let nothing : most ≡ 0 = omega (arith, none) in
        let few : count ≤ length bytes / most = omega (arith, run.takes.count_is) in
        absurd (omega (arith, few, some, ap (λ (n : ℕ). length bytes / n) nothing, div-zero (length bytes)))
  ]

  plays_at : (number : ℕ) → number < count → PlaysStill (behind_packets old.disk bytes number)
      (event.Out (record { items = packet_of most bytes number })) Ack (behind_packets old.disk bytes (suc number))
  plays_at number low = record { step = run.steps number low; medium = refl }

  size_at : (number : ℕ) → length (packet_of most bytes number) ≤ most
  size_at number = omega (arith, length-take most (drop (number * most) bytes))

  next_taken : (number : ℕ) → number < count → TakesOut (taken_at number) (packet_of most bytes number) (taken_at (suc number)) 0
  next_taken zero low =
      one_taken old (behind_packets old.disk bytes 1) (packet_of most bytes 0) (plays_at 0 low) (size_at 0) free
  next_taken (suc number) low =
      let next = behind_packets old.disk bytes (suc (suc number)) in
      subst (λ (l : Lack). TakesOut (taken_at (suc number)) (packet_of most bytes (suc number)) (record old { disk = next; lack = l }) 0)
      (lack_twice old.lack)
      (one_taken (taken_at (suc number)) next (packet_of most bytes (suc number)) (plays_at (suc number) low) (size_at (suc number)) free)

  first_taken : (number : ℕ) → number ≤ count → TakesFirst most bytes number old (taken_at number)
  first_taken zero low = refl
  first_taken (suc number) low =
      let more : number < count = omega (arith, low) in
      let has : HasPacket most bytes number
      = inr (omega (arith, within number count most more, within_all, some_size (omega (arith, more)))) in
      (taken_at number, first_taken number (omega (arith, low)), has, next_taken number more)

  run_is : new ≡ behind_packets old.disk bytes count
  run_is = λ i. record { disk = run.takes.after i; pending = run.pending i }

  pub takes_run : 0 < count → TakesAmid old bytes (record old { disk = new; lack = lack_after old.lack }) count
  takes_run some = rw (run_is, sym (taken_is count some)) (first_taken count (omega arith), refl)
