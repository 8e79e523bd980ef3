-- What is seen of a store over a medium that reads on demand.
use Rattle.store_calls.specs.{StoreRow.store_row}

abbrev pub Store : Type 0
Store = store_row.Denot
