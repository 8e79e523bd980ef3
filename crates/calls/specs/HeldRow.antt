-- What a handle holds.
use denote.RattleType.{RattleType}
use Rattle.calls.specs.contracts.held.Held as inner

abbrev pub held_row : RattleType
held_row = inner.the_row
