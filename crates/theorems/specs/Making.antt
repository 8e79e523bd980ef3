-- The calls that a redo log makes of its medium, which keeps its blocks: whoever asks for them, and
-- in whatever order, a cut does no harm.
use Rattle.std.specs.Prelude.{◌≡◌, ◌⊎◌, ℕ, ◌<◌, List, false, Result}
use Rattle.medium.specs.{Medium.State, Moments.LeavesOnly}
use Rattle.logical_blocks.specs.Blocks.{Array}
use Rattle.journal.specs.Record.{Entry}
use Rattle.redo_log.specs.{Value.{LogValue, IsCovered, settled, keeping_from}, Steps.MakesStep}
use Rattle.redo_log.specs.Steps.{MakesRetireStep, MakesHomeAhead, MakesHeadAhead}
use Rattle.redo_log.specs.declared.{progress.Progress.Progress, fault.LogFault.LogFault}
use Rattle.theorems.specs.Ordering.{Written, MayLeave, Opens}
use Rattle.theorems.specs.Logging.{TakesRecord, begun_of, Through, IsSafeLog, all_landed}

module _ {M : Type 0} (state : M → State) (Follows : M → M → Type 0) where
  -- `step` is asked for, with the blocks of the record under way as it was begun
  pub record Steps (log : LogValue) (m : M) (next : LogValue) (n : M) : Type 0 where
    -- a record is under way
    pub under_way : 0 < log.steps_left
    pub result : Result Progress LogFault
    pub made : MakesStep state Follows (begun_of log) result log next m n

  -- or `retire_step`, `home_ahead` or `head_ahead`
  abbrev pub Turns : LogValue → M → Result (Unit {0}) LogFault → LogValue → M → Type 0
  Turns log m result next n = MakesRetireStep state Follows result log next m n
      ⊎ (MakesHomeAhead state Follows result log next m n
      ⊎ MakesHeadAhead state Follows result log next m n)

  -- the log makes calls of its medium, of which one may be refused
  abbrev pub MakesCalls : LogValue → M → LogValue → M → Type 0
  MakesCalls log m next n =
      Steps log m next n ⊎ ((result : Result (Unit {0}) LogFault) × Turns log m result next n)

  -- It goes on by itself, or it makes calls, and is alive behind them.
  abbrev pub LivesOn : LogValue → M → LogValue → M → Type 0
  LivesOn log m next n =
      ((n ≡ m) × (TakesRecord log next ⊎ (IsCovered log × (next ≡ settled log))))
      ⊎ (MakesCalls log m next n × (next.dead ≡ false))

  -- A log that was opened, and its medium, are safe, whatever was asked of it since: now, and at
  -- each moment of what is asked next, in which a call may be refused. The records that have become
  -- durable are those that the log counted.
  pub record IsSafeNext (opening : Array) (records : List (List Entry)) (log : LogValue) (m : M)
      : Type 0 where
    pub now : IsSafeLog state opening records log m
    pub next : {next : LogValue} {n : M} → MakesCalls log m next n
        → LeavesOnly (MayLeave (state m).size now.w) (state m) (state n)

  abbrev pub EveryMakingIsSafe : Type 0
  EveryMakingIsSafe = (w : Written) (count : ℕ) (log : LogValue) (m n : M)
      (through : List (LogValue × M)) → Opens w (state m)
      → Through LivesOn (keeping_from w.shape w.first count) m through log n
      → IsSafeNext w.opening (all_landed (keeping_from w.shape w.first count) through) log n
