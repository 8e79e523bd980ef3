-- Which commands promise: they are good only when all accepted writes are durable.
use Rattle.std.specs.Prelude.{◌&&◌, ◌||◌, not, Bool, true, false, Result, Ok, Err}
use Rattle.scsi.specs.{Sense.Sense, declared.command.Command.Command}
use Rattle.scsi.specs.{declared.command.Transfer.Transfer, Rules.{moves_blocks, forces_reading}}
use Rattle.scsi.specs.declared.command.Command.TheVariants as command

-- a WRITE of some blocks that is good only when it is durable
abbrev pub forces_writing : Transfer → Bool → Bool
forces_writing transfer write_cache = moves_blocks transfer && (transfer.fua || not write_cache)

-- The command promises, with the write cache or without: a READ or WRITE with FUA, a WRITE without
-- the cache, each of one block or more, and SYNCHRONIZE CACHE. A MODE SELECT may do so where the
-- cache is enabled: the list that it takes, which may not have come yet, tells whether it is
-- to be disabled.
abbrev pub promises : Command → Bool → Bool
promises (command.Read10 transfer) write_cache = forces_reading transfer
promises (command.Read16 transfer) write_cache = forces_reading transfer
promises (command.Write10 transfer) write_cache = forces_writing transfer write_cache
promises (command.Write16 transfer) write_cache = forces_writing transfer write_cache
promises (command.SynchronizeCache10 range) write_cache = true
promises (command.SynchronizeCache16 range) write_cache = true
promises (command.ModeSelect length) write_cache = write_cache
promises command write_cache = false

-- a command that is refused promises nothing
abbrev pub promises_for : Result Command Sense → Bool → Bool
promises_for (Ok command) write_cache = promises command write_cache
promises_for (Err sense) write_cache = false
