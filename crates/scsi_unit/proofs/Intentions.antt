-- A command moves what it intended to, and a write that it appends is one.
use Rattle.std.proofs.Common.{◌≡◌, ◌≢◌, ◌<◌, ◌≤◌, ◌*◌, ◌+◌, ◌/◌, ℕ, zero, suc, Bool, List, [], length, take, drop, Some, None, Option}
use Rattle.std.proofs.{Common.{Result, Err, refl, arith, length-append}, lemmas.{Bool.Decides.nat_tests, List.{length-take, length-drop}}}
use Rattle.std.{proofs.lemmas.List.Elements.{All-nil, All-cons}, specs.Prelude.{All, IfOk, min, unwrap_or}}
use Rattle.logical_blocks.specs.{Blocks.{Array, Write, IsWrite, chunks}, Book.{array_of, blocks_at}}
use Rattle.scsi.specs.{Sense.Sense, FixedSense.fixed_sense, Identification.Identification, Inquiry.{inquiry_data, inquiry_size}}
use Rattle.scsi.specs.Inquiry.{standard_data, supported_pages, unit_serial_number, device_identification, block_limits}
use Rattle.scsi.specs.{ModePage.caching_page, Capacity.{capacity_10, capacity_16}, declared.command.{Command.Command, Transfer.Transfer}}
use Rattle.scsi.specs.Rules.{Intention, sends, UnitState, checked, command_by, intention_by, moves, moves_after, effect_of, write_after}
use Rattle.scsi.specs.Rules.{write_by, IsOutcome}
use Rattle.scsi_commands.{proofs.RowLaws.supported, specs.Supported.{IsSupported, IsWithin}}
use Rattle.scsi_unit.specs.{Laws.{IsSized, KeepsIntentions, WritesAreWrites}, UnitValue.{UnitValue, unit_limit}, Calls.SendsAsMeant}
use Rattle.scsi_unit.specs.Calls.{SendsOver}
use Rattle.blocks.{proofs.Limits.limit_least, specs.StoreValue.{StoreValue, layout_of}}
use Rattle.scsi.specs.declared.command.Command.TheVariants as command
use Rattle.scsi.specs.declared.intent.Intent.TheVariants as intent

-- ---- how many bytes are moved

pub size_of : Intention → ℕ
size_of (intent.In n) = n
size_of (intent.Out n) = n
size_of other = 0

pub inquiry_most : (page : Option ℕ) → unwrap_or (inquiry_size page) 0 ≤ 64
inquiry_most page = grind (arith, nat_tests)

nothing_intended : (bytes : ℕ) → ((n : ℕ) → sends bytes ≢ intent.In n) → bytes ≡ 0
nothing_intended bytes never = grind (arith, nat_tests, never bytes)

-- as many bytes are sent as are intended
pub meant_to_send : (bytes limit : ℕ) (result : Result ℕ Sense) → IfOk result (λ sent. sent ≡ bytes) → bytes ≤ 512 * limit
    → SendsAsMeant (sends bytes) limit result
meant_to_send bytes limit result is few = grind (arith, nat_tests, nothing_intended)

pub data_sent : {M : Type 0} {Comes : StoreValue M → StoreValue M → Type 0} {new : StoreValue M} (bytes : ℕ) (unit : UnitValue M)
    (result : Result ℕ Sense) → IfOk result (λ sent. sent ≡ bytes) → bytes ≤ 64 → Comes unit.store new
    → SendsOver Comes (sends bytes) (unit_limit unit) result unit.store new
data_sent bytes unit result is few follows =
    let least = limit_least (layout_of unit.store.cached).format in
    record { sends = meant_to_send bytes (unit_limit unit) result is (omega (arith, least, few)); follows = follows }

-- ---- command by command

-- the blocks of a range, each of 512 bytes
length-blocks_at : (array : Array) (address count : ℕ) → ((b : ℕ) → address ≤ b → b < address + count → length (array b) ≡ 512)
    → length (blocks_at array address count) ≡ 512 * count
length-blocks_at array address zero sized = refl
length-blocks_at array address (suc count) sized =
    let rest = length-blocks_at array (address + 1) count (λ b low high. sized b (omega (arith, low)) (omega (arith, high))) in
    grind (arith, length-append {A = ℕ}, sized address, rest)

read_so : (unit : UnitState) (transfer : Transfer) → IsSized unit → IsWithin unit.book.blocks unit.limit transfer
    → length (blocks_at (array_of unit.book) transfer.address transfer.count) ≡ 512 * transfer.count
read_so unit transfer sized within =
    length-blocks_at (array_of unit.book) transfer.address transfer.count
    (λ b low high. sized.blocks b (omega (arith, high, within.on_medium)))

-- what a command was intended to send it sends
sends_so : (unit : UnitState) (command : Command) (taken : List ℕ) (n : ℕ) → IsSized unit → IsSupported unit.book.blocks unit.limit command
    → moves command ≡ intent.In n → IfOk (effect_of command taken unit).answer (λ sent. length sent ≡ n)
unfolding fixed_sense caching_page capacity_10 capacity_16 standard_data supported_pages unit_serial_number
    device_identification block_limits
sends_so unit command taken n sized served is = grind (arith, nat_tests, length-take {A = ℕ}, length-append {A = ℕ}, sized, read_so unit)

-- a command that was not intended to send anything sends nothing
inquiry_none : (limit : ℕ) (who : Identification) (allocation : ℕ) (page : Option ℕ)
    → min allocation (unwrap_or (inquiry_size page) 0) ≡ 0 → take allocation (unwrap_or (inquiry_data who limit page) []) ≡ []
inquiry_none limit who allocation page none = grind (arith, nat_tests)

sends_none : (unit : UnitState) (command : Command) (taken : List ℕ) → ((n : ℕ) → moves command ≢ intent.In n)
    → IfOk (effect_of command taken unit).answer (λ sent. sent ≡ [])
sends_none unit (command.Inquiry page allocation) taken never =
    inquiry_none unit.limit unit.identity allocation page
    (grind (arith, nat_tests, never (min allocation (unwrap_or (inquiry_size page) 0))))
sends_none unit other taken never = grind (arith, nat_tests, never (size_of (moves other)))

-- a write of this many blocks, each of 512 bytes
chunks_sized : (count : ℕ) (bytes : List ℕ) → 512 * count ≤ length bytes
    → (length (chunks count bytes) ≡ count) × All (λ block. length block ≡ 512) (chunks count bytes)
chunks_sized zero bytes enough = (refl, All-nil (λ (block : List ℕ). length block ≡ 512))
chunks_sized (suc count) bytes enough =
    let rest = chunks_sized count (drop 512 bytes) (omega (arith, length-drop 512 bytes)) in (
      omega (arith, rest.0),
      All-cons (λ (block : List ℕ). length block ≡ 512) (take 512 bytes) _ (omega (arith, length-take 512 bytes)) rest.1,
    )

is_write_by : (blocks limit : ℕ) (transfer : Transfer) (taken : List ℕ) → IsWithin blocks limit transfer → transfer.count ≢ 0
    → length taken ≡ 512 * transfer.count → IsWrite blocks (write_by transfer taken)
is_write_by blocks limit transfer taken within some size =
    let bytes = take (512 * transfer.count) taken in
    let count : length bytes / 512 ≡ transfer.count = omega (arith, size, length-take (512 * transfer.count) taken) in
    let are = chunks_sized (length bytes / 512) bytes (omega (arith, count)) in
    record { some = omega (arith, are.0, count, some); sized = are.1; inside = omega (arith, are.0, count, within.on_medium) }

-- ---- whatever the checks say

-- a command that passed the checks is one that the unit carries out
served : (unit : UnitState) (block : List ℕ) → IfOk (checked unit block) (IsSupported unit.book.blocks unit.limit)
unfolding command_by
served unit block = grind (arith, supported unit.book.blocks unit.limit block)

module _ (refused : Bool) (told : Result Command Sense) (taken : List ℕ) (old new : UnitState) (answer : Result (List ℕ) Sense)
    (outcome : IsOutcome refused told taken old answer new) where
  told_sent : (n : ℕ) → IsSized old → IfOk told (IsSupported old.book.blocks old.limit) → moves_after told ≡ intent.In n
      → IfOk answer (λ sent. length sent ≡ n)
  told_sent n sized can is = grind (arith, sends_so old)

  told_none : ((n : ℕ) → moves_after told ≢ intent.In n) → IfOk answer (λ sent. sent ≡ [])
  told_none never = grind (arith, sends_none old)

  told_refused : (sense : Sense) → moves_after told ≡ intent.Fail sense → answer ≡ Err sense
  told_refused sense is = grind (arith, nat_tests)

told_in : (blocks limit : ℕ) (told : Result Command Sense) (n : ℕ) → 0 < limit → IfOk told (IsSupported blocks limit)
    → moves_after told ≡ intent.In n → (0 < n) × (n ≤ 512 * limit)
told_in blocks limit told n some can is = grind (arith, nat_tests, inquiry_most)

told_out : (blocks limit : ℕ) (told : Result Command Sense) (n : ℕ) → 0 < limit → IfOk told (IsSupported blocks limit)
    → moves_after told ≡ intent.Out n → (0 < n) × (n ≤ 512 * limit)
told_out blocks limit told n some can is = grind (arith, nat_tests)

unwritten_by : (told : Result Command Sense) (taken : List ℕ) → ((n : ℕ) → moves_after told ≢ intent.Out n) → write_after told taken ≡ None
unwritten_by told taken never = grind (arith, nat_tests, never (size_of (moves_after told)))

written_by : (blocks limit : ℕ) (told : Result Command Sense) (taken : List ℕ) (write : Write) → IfOk told (IsSupported blocks limit)
    → ((n : ℕ) → moves_after told ≡ intent.Out n → length taken ≡ n) → write_after told taken ≡ Some write → IsWrite blocks write
written_by blocks limit told taken write can exact is =
    grind (arith, nat_tests, is_write_by blocks limit, exact (size_of (moves_after told)))

pub keeps_intentions : KeepsIntentions
unfolding intention_by
keeps_intentions = record {
  sized = λ limit blocks stamp ours who vendor product revision serial. record {
    vendor = vendor;
    product = product;
    revision = revision;
    serial = serial;
    blocks = λ b below. refl;
  };
  most_in = λ unit block n some is. told_in unit.book.blocks unit.limit (checked unit block) n some (served unit block) is;
  most_out = λ unit block n some is. told_out unit.book.blocks unit.limit (checked unit block) n some (served unit block) is;
  sent = λ refused block taken old new answer n sized is outcome.
      told_sent refused (checked old block) taken old new answer outcome n sized (served old block) is;
  not_sent = λ refused block taken old new answer never outcome. told_none refused (checked old block) taken old new answer outcome never;
  refused = λ refused block taken old new answer sense is outcome.
      told_refused refused (checked old block) taken old new answer outcome sense is;
  unwritten = λ unit block taken never. unwritten_by (checked unit block) taken never;
}

pub writes_are_writes : WritesAreWrites
unfolding intention_by
writes_are_writes = record {
  is_write = λ unit block taken write exact is.
      written_by unit.book.blocks unit.limit (checked unit block) taken write (served unit block) exact is;
}
