-- What comes of a command, by the way that it went.
use Rattle.std.proofs.Common.{◌≡◌, ◌⊎◌, inl, ℕ, Bool, true, false, List, [], ◌∷◌, ◌++◌, length, Some, None, Option, Result, Ok, Err, refl}
use Rattle.std.{proofs.{Common.arith, lemmas.Bool.Decides.nat_tests}, specs.Prelude.{if◌then◌else◌, ◌&&◌, IfOk}}
use Rattle.logical_blocks.specs.{Blocks.Write, Book.{Book, StampsOut, with_progress}}
use Rattle.scsi.specs.{Sense.Sense, declared.command.Command.Command, Rules.{Ticks, intention, intention_by, command_by, UnitState}}
use Rattle.scsi.specs.Rules.{fails_with, effect_of, checked, write_after, write_of_command, IsOutcome, needs_medium, reads_blocks}
use Rattle.scsi.specs.Rules.{wants_writing}
use Rattle.scsi_unit.{proofs.FaultedUnit.passed, specs.Laws.{IsFunction, IsSameLife, KeepsLimit, KeepsWrites, StaysFaulted, TicksOnly}}
use Rattle.scsi_unit.specs.{Laws.is_promising, Promising.{promises, promises_for}}
use Rattle.scsi.specs.declared.intent.Intent.TheVariants as intent

-- the writes of a book are those of before, or have one more
abbrev pub IsAppended : Option Write → Book → Book → Type 0
IsAppended write old new =
    (new.writes ≡ old.writes) ⊎ ((more : Write) × (write ≡ Some more) × (new.writes ≡ old.writes ++ more ∷ []))

-- the writes with one more, if there is one
abbrev pub appended : Option Write → List Write → List Write
appended None writes = writes
appended (Some write) writes = writes ++ write ∷ []

-- ---- what the table leaves

life : (command : Command) (taken : List ℕ) (unit : UnitState) → IsSameLife unit.book (effect_of command taken unit).after.book
life command taken unit = grind (arith, nat_tests)

writes_are : (command : Command) (taken : List ℕ) (unit : UnitState)
    → (effect_of command taken unit).after.book.writes ≡ appended (write_of_command command taken) unit.book.writes
writes_are command taken unit = grind (arith, nat_tests)

mark_is : (command : Command) (taken : List ℕ) (unit : UnitState)
    → (effect_of command taken unit).after.book.mark
    ≡ (if is_promising command taken unit then length (effect_of command taken unit).after.book.writes else unit.book.mark)
mark_is command taken unit = grind (arith, nat_tests)

faulted_is : (command : Command) (taken : List ℕ) (unit : UnitState) → (effect_of command taken unit).after.faulted ≡ unit.faulted
faulted_is command taken unit = grind (arith, nat_tests)

limit_is : (command : Command) (taken : List ℕ) (unit : UnitState) → (effect_of command taken unit).after.limit ≡ unit.limit
limit_is command taken unit = grind (arith, nat_tests)

bad : (command : Command) (taken : List ℕ) (unit : UnitState) (sense : Sense) → (effect_of command taken unit).answer ≡ Err sense
    → (effect_of command taken unit).after.book ≡ unit.book
bad command taken unit sense is = grind (arith, nat_tests)

-- a WRITE of some blocks is good by the table, and reads none
writes_good : (command : Command) (taken : List ℕ) (unit : UnitState) (write : Write) → write_of_command command taken ≡ Some write
    → ((effect_of command taken unit).answer ≡ Ok []) × (reads_blocks command ≡ false)
writes_good command taken unit write is = grind (arith, nat_tests)

-- what a faulted unit carries out uses no blocks
no_blocks : (command : Command) (taken : List ℕ) (unit : UnitState) → needs_medium command ≡ false
    → (reads_blocks command ≡ false) × (wants_writing command taken unit.write_cache ≡ false)
    × ((effect_of command taken unit).after.book ≡ unit.book)
no_blocks command taken unit none = grind (arith, nat_tests)

promises_none : (command : Command) (taken : List ℕ) (unit : UnitState) → promises command unit.write_cache ≡ false
    → is_promising command taken unit ≡ false
promises_none command taken unit none = grind (arith, nat_tests)

-- ---- what comes of a command

module _ (refused : Bool) (told : Result Command Sense) (taken : List ℕ) (old new : UnitState) (answer : Result (List ℕ) Sense)
    (outcome : IsOutcome refused told taken old answer new) where
  told_life : IsSameLife old.book new.book
  told_life = grind (arith, life)

  told_limit : new.limit ≡ old.limit
  told_limit = grind (arith, limit_is)

  told_writes : IsAppended (write_after told taken) old.book new.book
  told_writes = grind (arith, writes_are)

  told_mark : (command : Command) (sent : List ℕ) → told ≡ Ok command → answer ≡ Ok sent
      → new.book.mark ≡ (if is_promising command taken old then length new.book.writes else old.book.mark)
  told_mark command sent is good = grind (arith, mark_is)

  told_bad : (sense : Sense) → answer ≡ Err sense → new.book.mark ≡ old.book.mark
  told_bad sense is = grind (arith, bad)

  told_unpromising : promises_for told old.write_cache ≡ false → new.book.mark ≡ old.book.mark
  told_unpromising none = grind (arith, mark_is, promises_none)

  told_accepted : (sent : List ℕ) (write : Write) → answer ≡ Ok sent → write_after told taken ≡ Some write
      → new.book.writes ≡ old.book.writes ++ write ∷ []
  told_accepted sent write good is = grind (arith, writes_are)

  told_fault : (sense : Sense) (write : Write) → answer ≡ Err sense → write_after told taken ≡ Some write → new.faulted ≡ true
  told_fault sense write failed is = grind (arith, writes_good)

  told_faulted : IfOk told (λ command. (old.faulted && needs_medium command) ≡ false) → old.faulted ≡ true
      → (new.faulted ≡ true) × (new.book ≡ old.book)
  told_faulted free faulted = grind (arith, no_blocks, faulted_is)

-- where nothing was refused and stamps are left, the table alone decides
one : (told : Result Command Sense) (taken : List ℕ) (old new other : UnitState) (answer second : Result (List ℕ) Sense)
    → ¬ StampsOut (with_progress old.book (write_after told taken)) → IsOutcome false told taken old answer new
    → IsOutcome false told taken old second other → (answer ≡ second) × (new ≡ other)
one told taken old new other answer second stamps outcome another = grind (arith)

answered_by : (refused : Bool) (told : Result Command Sense) (taken : List ℕ) (old : UnitState)
    → (answer : Result (List ℕ) Sense) × (new : UnitState) × IsOutcome refused told taken old answer new
answered_by refused (Ok command) taken old =
    ((effect_of command taken old).answer, (effect_of command taken old).after, inl (record { answered = refl; after = refl }))
answered_by refused (Err sense) taken old =
    ((fails_with sense old).answer, (fails_with sense old).after, record { answered = refl; after = refl })

pub is_function : IsFunction
is_function = record {
  answered = λ refused block taken old. answered_by refused (checked old block) taken old;
  one_answer = λ block taken old new other answer told stamps. one (checked old block) taken old new other answer told stamps;
}

pub keeps_writes : KeepsWrites
keeps_writes = record {
  life = λ refused block taken old. told_life refused (checked old block) taken old;
  writes = λ refused block taken old. told_writes refused (checked old block) taken old;
  mark = λ refused block taken sent old new command passed outcome.
      told_mark refused (checked old block) taken old new (Ok sent) outcome command sent passed refl;
  unpromised = λ refused block taken old new sense outcome.
      told_bad refused (checked old block) taken old new (Err sense) outcome sense refl;
  unpromising = λ refused block taken old new answer none outcome.
      told_unpromising refused (checked old block) taken old new answer outcome none;
  accepted = λ refused block taken sent old new write is outcome.
      told_accepted refused (checked old block) taken old new (Ok sent) outcome sent write refl is;
  faulted = λ refused block taken old new sense write is outcome.
      told_fault refused (checked old block) taken old new (Err sense) outcome sense write refl is;
}

pub keeps_limit : KeepsLimit
keeps_limit = record {
  command = λ refused block taken old. told_limit refused (checked old block) taken old;
  tick = λ refused old new ticked. grind (arith, ticked);
}

-- ---- a faulted unit, and steps in the background

pub stays_faulted : StaysFaulted
stays_faulted = record {
  command = λ refused block taken old new answer faulted outcome.
      told_faulted refused (checked old block) taken old new answer outcome
      (passed old.book.blocks old.limit old.kept.attention old.faulted block) faulted;
  tick = λ refused old new faulted ticked. grind (arith, ticked, faulted);
}

unfaulted : (refused : Bool) (old new : UnitState) (block : List ℕ) (n : ℕ) → Ticks refused old new
    → intention new block ≡ intent.Out n → intention old block ≡ intent.Out n
unfolding intention_by command_by
unfaulted refused old new block n ticked out = grind (arith, ticked, out)

pub ticks_only : TicksOnly
ticks_only = record {
  others = λ refused old new ticked. grind (arith, ticked);
  nothing = λ old new stamps ticked. grind (arith, ticked, stamps);
  intentions = unfaulted;
}
