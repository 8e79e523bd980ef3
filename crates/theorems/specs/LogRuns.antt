-- What a store makes of its log: the calls that the log makes, reads of its own beside them, and no
-- other call of the medium. In whatever order they come, a cut does no harm.
use Rattle.std.specs.Prelude.{◌≡◌, ◌⊎◌, ℕ, List, [], true, false}
use Rattle.medium.specs.{Medium.State, Moments.{EachCut, IsQuiet, LeavesOnly}, Sent.SendsUpTo}
use Rattle.logical_blocks.specs.Blocks.{Array}
use Rattle.journal.specs.{Places.Shape, Record.Entry}
use Rattle.redo_log.specs.Value.{LogValue, died, keeping_from}
use Rattle.theorems.specs.Ordering.{Written, at_first, MayLeave, Opens}
use Rattle.theorems.specs.Making.{LivesOn, MakesCalls}
use Rattle.theorems.specs.Logging.{Through, Logs, all_landed}

-- no record was written since this array was at home, and the first one takes this stamp
abbrev pub opened_with : Shape → Array → ℕ → Written
opened_with shape array first = record {
  shape = shape;
  opening = array;
  first = first;
  records = [];
  under_way = [];
  written = at_first first;
  flushed = at_first first;
}

module _ {M : Type 0} (state : M → State) (Follows : M → M → Type 0) where
  -- Calls were made that are reads, of which any may be refused.
  pub record ReadsBeside (m n : M) : Type 0 where
    pub quiet : IsQuiet (state m) (state n)
    pub none_sent : SendsUpTo 0 (state m) (state n)

  -- A call of the log was refused, with which it died, or it was given up by no call.
  abbrev pub DiesOn : LogValue → M → LogValue → M → Type 0
  DiesOn log m next n =
      (next ≡ died log) × ((n ≡ m) ⊎ MakesCalls state Follows log m next n)

  -- A live log goes on, or dies, or the store reads beside it. A dead log makes no step.
  pub record RunsOn (log : LogValue) (m : M) (next : LogValue) (n : M) : Type 0 where
    pub live : log.dead ≡ false
    pub on : LivesOn state Follows log m next n
        ⊎ (DiesOn log m next n ⊎ ((next ≡ log) × ReadsBeside m n))

  -- not at all, or once after the other
  abbrev pub RunsThrough : LogValue → M → List (LogValue × M) → LogValue → M → Type 0
  RunsThrough = Through RunsOn

  -- All that was made of a log that keeps its blocks, and of its medium, is such steps. Whether it
  -- keeps them stays.
  pub record IsLogRun (log : LogValue) (m : M) (next : LogValue) (n : M) : Type 0 where
    pub keeps_stays : next.keeps ≡ log.keeps
    pub runs : log.keeps ≡ true
        → (through : List (LogValue × M)) × RunsThrough log m through next n

  -- A log with these durable records since this array was at home, and its medium, are safe, be the
  -- log alive or dead: a cut leaves what it may, now and at each moment of the next step.
  pub record IsSafeRun (opening : Array) (records : List (List Entry)) (log : LogValue) (m : M)
      : Type 0 where
    pub w : Written
    pub opening_is : w.opening ≡ opening
    pub records_are : w.records ≡ records
    pub logs : log.dead ≡ false → Logs log w
    pub rests : EachCut (MayLeave (state m).size w) (state m)
    pub next : {next : LogValue} {n : M} → RunsOn log m next n
        → LeavesOnly (MayLeave (state m).size w) (state m) (state n)

  -- so are those that were opened, whatever ran since
  abbrev pub EveryRunIsSafe : Type 0
  EveryRunIsSafe = (w : Written) (count : ℕ) (log : LogValue) (m n : M)
      (through : List (LogValue × M)) → Opens w (state m)
      → RunsThrough (keeping_from w.shape w.first count) m through log n
      → IsSafeRun w.opening (all_landed (keeping_from w.shape w.first count) through) log n
