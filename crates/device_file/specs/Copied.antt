-- Blocks that were read of one file, and that another was asked to write.
use Rattle.std.specs.Prelude.{◌≡◌, ◌≤◌, ℕ, ◌+◌, ◌-◌, Bool, true, false, List, [], ◌∷◌, ◌++◌, length}
use Rattle.std.specs.Prelude.{if◌then◌else◌, ◌==◌, Result, Err, OnOk, IfErr, is_ok}
use Rattle.std.specs.List.{list_all}
use Rattle.window.specs.declared.call.DeviceCall.{DeviceCall}
use Rattle.window.specs.declared.call.DeviceCall.TheVariants.{Write, Flush}
use Rattle.window.specs.Seen.{lies_in}
use Rattle.device_file.specs.Asked.{AsksInOrder, Told, asked_for, refused, writes_of}
use Rattle.device_file.specs.InRuns.{Takes}
use Rattle.device_file.specs.Reads.{AreReadFrom}
use Rattle.device_file.specs.declared.copying.CopyFault.{CopyFault}
use Rattle.device_file.specs.declared.copying.CopyFault.TheVariants as fault
use Rattle.device_file.specs.declared.fault.FileCall.TheVariants as call
use Rattle.device_file.specs.declared.fault.FileFault.{FileFault}
use Rattle.device_file.specs.declared.run.Run.{Run}

-- whether a block is zeros
abbrev pub is_zeros : List ℕ → Bool
is_zeros block = list_all (λ byte. byte == 0) block

-- the write of a block, where it is no zeros
abbrev pub some_write : ℕ → List ℕ → List DeviceCall
some_write sector block =
    if is_zeros block then [] else Write (record { sector = sector; block = block }) ∷ []

-- The writes of these blocks to neighbouring sectors, from this one on; blocks of zeros are left
-- out, since a file that was just made or emptied has them.
abbrev pub some_writes : ℕ → List (List ℕ) → List DeviceCall
some_writes first [] = []
some_writes first (block ∷ blocks) = some_write first block ++ some_writes (first + 1) blocks

-- of a call, where it is a write to one of count sectors from `first` on, that write to the
-- sectors from 0 on
abbrev pub moved_call : ℕ → ℕ → DeviceCall → List DeviceCall
moved_call first count (Write w) = if lies_in first count w.sector
    then Write (record { sector = w.sector - first; block = w.block }) ∷ [] else []
moved_call first count Flush = []

-- of these calls, in order, those writes
abbrev pub moved_calls : ℕ → ℕ → List DeviceCall → List DeviceCall
moved_calls first count [] = []
moved_calls first count (call ∷ calls) =
    moved_call first count call ++ moved_calls first count calls

-- the writes that wait in a run
abbrev pub waiting_in : Run → List DeviceCall
waiting_in run = writes_of run.first run.blocks.items

-- A file was asked for these calls so; a refusal names a write. It is as large as before.
pub record TakesCalls {D : Type 0} (told : D → Told) (sectors : D → ℕ) (calls : List DeviceCall)
    (old new : D) (result : Result (Unit {0}) FileFault) : Type 0 where
  pub in_order : AsksInOrder calls (is_ok result) (told old) (told new)
  pub size : sectors new ≡ sectors old
  pub named : IfErr result (λ fault. fault.call ≡ call.Write)

-- Of a file count blocks were read, from a sector on, and the other was asked to write those of
-- them that are no zeros to its own sectors, in order; it carried all of that out.
pub record IsCopied (holds : ℕ → List ℕ → Type 0) (first count at : ℕ) (old new : Told)
    : Type 0 where
  pub blocks : List (List ℕ)
  pub count_is : length blocks ≡ count
  pub were_read : AreReadFrom holds first blocks
  pub told_is : new ≡ asked_for (some_writes at blocks) old

-- what a file was asked when a copy to it ended so: the last call was refused where it refused one
abbrev pub asked_until : CopyFault → List DeviceCall → Told → Told
asked_until (fault.From why) calls t = asked_for calls t
asked_until (fault.To why) calls t = refused (asked_for calls t)

-- where it was the file that is read, behind `read` of count sectors it refused a read of more
abbrev pub MissesNext : (ℕ → ℕ → Type 0) → ℕ → ℕ → ℕ → CopyFault → Type 0
MissesNext refuses first count read (fault.From why) =
    (more : ℕ) × (1 ≤ more) × (read + more ≤ count) × refuses (first + read) more
MissesNext refuses first count read (fault.To why) = Unit {0}

-- the one file is read, and the other written
abbrev pub NamesCall : CopyFault → Type 0
NamesCall (fault.From why) = why.call ≡ call.Read
NamesCall (fault.To why) = why.call ≡ call.Write

-- At most count were read, and the other was asked for a first part of their writes; where it
-- refused a call, that is the last of these. Else the read that comes next was refused.
pub record IsCopiedInPart (holds : ℕ → List ℕ → Type 0) (refuses : ℕ → ℕ → Type 0)
    (first count at : ℕ) (old new : Told) (why : CopyFault) : Type 0 where
  pub blocks : List (List ℕ)
  pub count_is : length blocks ≤ count
  pub were_read : AreReadFrom holds first blocks
  pub part : List DeviceCall
  pub rest : List DeviceCall
  pub parts : some_writes at blocks ≡ part ++ rest
  pub told_is : new ≡ asked_until why part old
  pub misses : MissesNext refuses first count (length blocks) why
  pub named : NamesCall why

-- whether the file that is written refused none
abbrev pub is_written : Result (Unit {0}) CopyFault → Bool
is_written (Err (fault.To why)) = false
is_written _ = true

-- There were count sectors to copy to a file of which writes waited: they were read, and it took
-- their writes; or some were, and a file refused a call.
pub record TakesBlocks {D : Type 0} (told : D → Told) (at_once : D → List DeviceCall → D → Type 0)
    (sectors : D → ℕ) (holds : ℕ → List ℕ → Type 0) (refuses : ℕ → ℕ → Type 0)
    (first count at : ℕ) (was is : D) (waited waits : List DeviceCall)
    (result : Result (Unit {0}) CopyFault) : Type 0 where
  pub blocks : List (List ℕ)
  pub count_is : length blocks ≤ count
  pub all_read : OnOk result (length blocks ≡ count)
  pub were_read : AreReadFrom holds first blocks
  pub takes : Takes told at_once sectors (some_writes at blocks) was is waited waits
      (is_written result)
  pub misses : IfErr result (MissesNext refuses first count (length blocks))
  pub named : IfErr result NamesCall
