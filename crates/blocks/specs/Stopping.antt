-- A store is given up from outside: the device behind its medium refused a call.
use Rattle.redo_log.specs.Value.{died}
use Rattle.blocks.specs.StoreValue.{Cached, StoreValue}

-- the log is dead, and the batches are as they were
abbrev pub stopped : Cached → Cached
stopped s = record s { log = died s.log }

-- the same store over the same medium, dead
abbrev pub stopped_store : {M : Type 0} → StoreValue M → StoreValue M
stopped_store store = record store { cached = stopped store.cached }
