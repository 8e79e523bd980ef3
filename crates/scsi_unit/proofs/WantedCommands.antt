-- What a command does and moves, by what it may want.
use Rattle.std.proofs.{lemmas.List.length-take, Common.{◌≡◌, ◌≢◌, ◌≤◌, ◌*◌, ◌/◌, ◌+◌, take, ℕ, Bool, true, false, List, [], length, Some}}
use Rattle.std.{proofs.{Common.{None, Ok, arith}, lemmas.Bool.Decides.nat_tests}, specs.Prelude.◌&&◌}
use Rattle.logical_blocks.specs.Book.{promised, with_progress}
use Rattle.scsi.specs.{declared.command.{Command.Command, Transfer.Transfer}, Rules.{UnitState, effect_of, writes, reads, gives}}
use Rattle.scsi.specs.Rules.{write_of_command, write_by, wants_writing, reads_blocks, forces_reading, needs_medium, moves, sends}
use Rattle.scsi_commands.specs.Supported.{IsSupported, IsWithin}
use Rattle.scsi_unit.specs.Pending.{transfer_of, writes_blocks, commits, goes_through, TakesAll, cache_after, progress_after, may_want}
use Rattle.scsi_unit.specs.{Pending.first_want, Serving.wants_medium, declared.progress.Want.Want, Reading.read_of}
use Rattle.scsi_unit.specs.declared.progress.Progress.TheVariants.{Done, Wants}
use Rattle.scsi.specs.declared.command.Command.TheVariants as variant
use Rattle.scsi.specs.declared.intent.Intent.TheVariants as intent
use Rattle.scsi_unit.specs.declared.progress.Want.TheVariants as want

-- ---- a WRITE of some blocks

module _ (command : Command) (taken : List ℕ) (is : writes_blocks command ≡ true) where
  pub write_effect : (unit : UnitState) → effect_of command taken unit ≡ writes (transfer_of command) taken unit
  write_effect unit = grind (arith, nat_tests)

  pub write_is : write_of_command command taken ≡ Some (write_by (transfer_of command) taken)
  write_is = grind (arith, nat_tests)

  pub write_wants : (write_cache : Bool) → wants_writing command taken write_cache ≡ true
  write_wants write_cache = grind (arith, nat_tests)

  pub write_commits : (write_cache : Bool) → commits command taken write_cache ≡ goes_through (transfer_of command) write_cache
  write_commits write_cache = grind (arith, nat_tests)

  pub write_some : (transfer_of command).count ≢ 0
  write_some = grind (arith, nat_tests)

  pub write_within : (n limit : ℕ) → IsSupported n limit command → IsWithin n limit (transfer_of command)
  write_within n limit supported = grind (arith, nat_tests)

  pub write_taken : TakesAll command taken → 512 * (transfer_of command).count ≤ length taken
  write_taken all = grind (arith, nat_tests, all (512 * (transfer_of command).count))

  pub write_moves : (n : ℕ) → moves command ≢ intent.In n
  write_moves n = grind (arith, nat_tests)

-- ---- a command that promises

module _ (command : Command) (taken : List ℕ) (write_cache : Bool) (is : commits command taken write_cache ≡ true) where
  pub commit_wants : wants_writing command taken write_cache ≡ true
  commit_wants = grind (arith, nat_tests)

  -- one that is no READ is over with it
  pub commit_effect : reads_blocks command ≡ false → (unit : UnitState) → unit.write_cache ≡ write_cache
      → effect_of command taken unit
      ≡ gives [] (record unit {
        book = promised (with_progress unit.book (write_of_command command taken));
        write_cache = cache_after command write_cache;
      })
  commit_effect none unit same = grind (arith, nat_tests)

  pub commit_ends : reads_blocks command ≡ false → progress_after command ≡ Done (Ok 0)
  commit_ends none = grind (arith, nat_tests)

  pub commit_reads : reads_blocks command ≡ true
      → (progress_after command ≡ Wants want.Read) × (cache_after command write_cache ≡ write_cache)
  commit_reads some = grind (arith, nat_tests)

  pub commit_moves : reads_blocks command ≡ false → (n : ℕ) → moves command ≢ intent.In n
  commit_moves none n = grind (arith, nat_tests)

-- ---- a READ of some blocks

module _ (command : Command) (taken : List ℕ) (is : reads_blocks command ≡ true) where
  pub read_effect : (unit : UnitState) → effect_of command taken unit ≡ reads (transfer_of command) unit
  read_effect unit = grind (arith, nat_tests)

  pub read_writes : write_of_command command taken ≡ None
  read_writes = grind (arith, nat_tests)

  pub read_some : (transfer_of command).count ≢ 0
  read_some = grind (arith, nat_tests)

  pub read_within : (n limit : ℕ) → IsSupported n limit command → IsWithin n limit (transfer_of command)
  read_within n limit supported = grind (arith, nat_tests)

  pub read_moves : moves command ≡ sends (512 * (transfer_of command).count)
  read_moves = grind (arith, nat_tests)

  pub read_in : moves command ≡ intent.In (512 * (transfer_of command).count)
  read_in = grind (arith, nat_tests)

  pub read_commits : (write_cache : Bool) → commits command taken write_cache ≡ (transfer_of command).fua
  read_commits write_cache = grind (arith, nat_tests)

  pub read_forces : (write_cache : Bool) → commits command taken write_cache ≡ forces_reading (transfer_of command)
  read_forces write_cache = grind (arith, nat_tests)

  pub read_is : read_of (Ok command) ≡ Some (transfer_of command)
  read_is = grind (arith, nat_tests)

-- the bytes that are written are as many blocks as the transfer has
pub whole : (count : ℕ) (taken : List ℕ) → 512 * count ≤ length taken → length (take (512 * count) taken) / 512 ≡ count
whole count taken enough = omega (arith, enough, length-take (512 * count) taken)

-- what is left of a commit for a command that is none of these
pub plain_after : (command : Command) (write_cache : Bool) → ((t : Transfer) → command ≢ variant.Read10 t)
    → ((t : Transfer) → command ≢ variant.Read16 t) → ((size : ℕ) → command ≢ variant.ModeSelect size)
    → (progress_after command ≡ Done (Ok 0)) × (cache_after command write_cache ≡ write_cache)
plain_after command write_cache no_read no_other no_select = grind (arith, nat_tests)

-- one that wants something needs the medium
pub wants_need : (wanted : Want) (command : Command) (taken : List ℕ) (write_cache : Bool)
    → may_want wanted command taken write_cache ≡ true → needs_medium command ≡ true
wants_need wanted command taken write_cache is = grind (arith, nat_tests)

-- a command that writes no blocks appends no write
pub write_none : (command : Command) (taken : List ℕ) → writes_blocks command ≡ false → write_of_command command taken ≡ None
write_none command taken none = grind (arith, nat_tests)

-- what a command wants first it may want
pub first_may : (wanted : Want) (command : Command) (taken : List ℕ) (write_cache : Bool)
    → first_want command taken write_cache ≡ Some wanted → may_want wanted command taken write_cache ≡ true
first_may wanted command taken write_cache first = grind (arith, nat_tests)

-- and it wants nothing where it needs no block, and makes none durable
pub first_none : (command : Command) (taken : List ℕ) (write_cache : Bool) → first_want command taken write_cache ≡ None
    → wants_medium (Ok command) taken write_cache ≡ false
first_none command taken write_cache none = grind (arith, nat_tests)

-- nor does it promise
pub first_plain : (command : Command) (taken : List ℕ) (write_cache : Bool) → first_want command taken write_cache ≡ None
    → commits command taken write_cache ≡ false
first_plain command taken write_cache none = grind (arith, nat_tests)

pub first_commit : (command : Command) (taken : List ℕ) (write_cache : Bool)
    → first_want command taken write_cache ≡ Some want.Commit → writes_blocks command ≡ false
first_commit command taken write_cache first = grind (arith, nat_tests)

pub first_read : (command : Command) (taken : List ℕ) (write_cache : Bool)
    → first_want command taken write_cache ≡ Some want.Read → commits command taken write_cache ≡ false
first_read command taken write_cache first = grind (arith, nat_tests)

-- what a command moves lies on the medium
pub on_medium : (n limit : ℕ) (command : Command) → IsSupported n limit command
    → (transfer_of command).address + (transfer_of command).count ≤ n
on_medium n limit command supported = grind (arith, nat_tests)

-- one that wants something was not refused for a fault
pub wants_live : (wanted : Want) (command : Command) (taken : List ℕ) (write_cache dead : Bool)
    → first_want command taken write_cache ≡ Some wanted → (dead && needs_medium command) ≡ false → dead ≡ false
wants_live wanted command taken write_cache dead first free =
    let needs = wants_need wanted command taken write_cache (first_may wanted command taken write_cache first) in
    grind (arith, needs, free)
