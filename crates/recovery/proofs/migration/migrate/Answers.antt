use Rattle.std.proofs.Common.{◌≡◌, inl, inr, ⊎_elim, ℕ, ◌+◌, ◌*◌, ◌<◌, ◌≤◌, length, refl, ◌∙◌, arith, rules, min, Result, true}
use Rattle.std.proofs.lemmas.Result.{err_from_is_err_and}
use Rattle.medium.{specs.{Medium.{State, IsSound}, Moments.EachCut, Sent.SendsUpTo}, proofs.Moments.{weaker, only_image}}
use Rattle.medium.proofs.{SectorsRead.no_looks, SparedSectors.spared_behind}
use Rattle.logical_blocks.specs.Blocks.{Array}
use Rattle.journal.specs.{Places.{Shape, first_home, sectors_of, migrated}, declared.log_format.LogFormat.TheVariants.One, Record.home_of}
use Rattle.journal.{specs.{Formats.shape_of, Standing.IsOurs}, proofs.{SectorNumbers.IsSuper-one, StandingLaws.StandsFor-one}}
use Rattle.journal.proofs.StandingLaws.{StandsFor-shape}
use Rattle.recovery.specs.{Causes.{HasFewSlots, start_fault_of, IsRefusedCall}, Recovered.{IsRecoveredFrom, IsFresh, LeavesAtLeast}}
use Rattle.recovery.specs.Recovered.{CanMigrate, IsMadeTwo, IsMigratedFrom, IsMigrationRefusal, StaysFresh, MigrationLeaves}
use Rattle.recovery.specs.{Recovered.{most_migration_sends, IsInOrder}, Calls.{Writes, copy_calls}, declared.recovered.Recovered.Recovered}
use Rattle.recovery.proofs.{WholeRecovery.{recovery_leaves, served_slots, start_on}, JoinedCalls.{log_ends, AreSame, zeros_fresh}}
use Rattle.recovery.proofs.JoinedCalls.{fresh_ours}
use Rattle.recovery.proofs.migration.migrate.Goals as goal
use Rattle.recovery.proofs.migration.migrate.Goals.{After-make_two}

module _ {old mid : State} {found : _} (start : IsRecoveredFrom old mid found × (¬ HasFewSlots 5 old.size old.content))
    (one : found.sizes.format ≡ One) where
  abbrev shape : Shape
  shape = shape_of found.sizes

  -- there is room for a slot of format 2
  pub can_migrate : CanMigrate (shape_of found.sizes)
  can_migrate =
      let has = StandsFor-shape old.size shape old.content start.0.array found.next start.0.stood in
      let few = λ (few : found.sizes.slots < 5). start.1 (search (rules, has, few)) in
      record { one = one; room = omega (arith, few) }

  -- the calls of a recovery of format 1
  tried : mid.calls ≡ old.calls + 6 + copy_calls One start.0.stood.records + 2 * min (length start.0.stood.records + 1) found.sizes.slots
  tried = let calls = rw one at start.0.calls in omega (arith, calls)

  -- home begins behind the log
  home_is : found.sizes.home ≡ 2 + 50 * found.sizes.slots
  home_is = let home = rw one at found.sizes.home_is in omega (arith, home)

  module _ {new : State} {made : Result Recovered _}
      (making : Writes (StaysFresh (shape_of found.sizes) found.next mid.content) found.sizes.home (found.sizes.home + 3) mid new made)
    where
      -- the home sectors hold what recovery left there
      kept_home : AreSame (shape_of found.sizes) (home_of shape new.content) start.0.array
      kept_home b below = making.spares.content (first_home shape + b) (omega arith) ∙ start.0.home b below

      pub migration_leaves : IsSound old → IsSound mid → ((shape : Shape) (array : Array) (next : ℕ)
          → IsOurs old.size shape old.content array next → EachCut (IsFresh shape array next) mid) → LeavesAtLeast 5 old mid
          → MigrationLeaves old new
      migration_leaves sound_old sound_mid fresh before =
          let stood = start.0.stood in
          let has = StandsFor-shape old.size shape old.content start.0.array found.next stood in
          let most = rw one at (before.most shape has) in
          let sends : SendsUpTo (most_migration_sends One found.sizes.slots) old new =
          let most = rw one at (before.sends.most shape has) in omega (arith, most, making.sent, home_is) in
          start_on {shape = shape} sound_old stood start.0.stamp_left start.1 (recovery_leaves old mid before)
          (omega (arith, tried))
          -- each image is ours for the contents
          (λ array next ours.
          let same = (StandsFor-one _ _ _ _ _ _ _ _ _ ours.stands stood).1 in
          let before = fresh shape array found.next (rw same at ours) mid.content sound_mid.holds_content in
          rw same (weaker _ _ _ _ (λ image either. ⊎_elim (λ was. inl (inr (fresh_ours stood.fits was)))
          (λ two. inr (can_migrate, fresh_ours stood.fits two)) (either array before)) making.moments))
          (spared_behind (first_home shape) (sectors_of shape) mid new (omega arith) making.spares)
          (no_looks _ mid new making.reads.looked_stays)
          (omega (arith, most, making.calls, home_is, found.sizes.most_slots)) (omega arith)
          (rw one sends) (rw one (omega (arith, found.sizes.most_slots)))
          (λ none. let few = rw one at (before.sends.clean shape has none) in rw one (omega (arith, few, making.sent, home_is)))

      module _ (answer : Recovered) (is : (shape_of answer.sizes ≡ migrated shape) × (answer.next ≡ found.next)
          × IsMadeTwo shape found.next new) where
        here_fresh : (array : Array) → AreSame shape start.0.array array → IsFresh (migrated shape) array found.next new.content
        here_fresh array same = zeros_fresh (migrated shape) array found.next new.content is.2.super is.2.head is.2.zeros
            (λ b below. kept_home b below ∙ same b below)

        pub migrated_from : new.calls ≡ mid.calls + (found.sizes.home + 3)
            → IsMigratedFrom old new answer × ((other : Shape) (array : Array) (next : ℕ) → IsOurs old.size other old.content array next
            → EachCut (IsFresh (shape_of answer.sizes) array next) new)
        migrated_from counted =
            let stood = start.0.stood in
            let ends = log_ends shape stood.keeps.super.home_is in
            let behind = λ (x : ℕ) (past : sectors_of shape ≤ x). making.spares.content x (omega (arith, past))
            ∙ start.0.elsewhere x (λ e. omega (arith, e, past, ends)) (inr past) in
            let ours = fresh_ours stood.fits (here_fresh start.0.array (λ b below. refl)) in
            let calls : new.calls ≡ old.calls + 6 + copy_calls One stood.records + 50 * found.sizes.slots + 5
            + 2 * min (length stood.records + 1) found.sizes.slots = omega (arith, tried, counted, home_is) in (
              rw is.1 (search (rules, can_migrate, is.0, stood, start.0.stamp_left, is.2, kept_home, behind, ours, calls)),
              λ other array next ours image cut.
                  let same = StandsFor-one _ _ shape other old.content start.0.array array found.next next stood ours.stands in
                  rw (only_image new.content new.may_leave is.2.flushed image cut, is.0, ← same.1) (here_fresh array same.2),
            )

-- such a call refuses a start
call_refuses : (old new : State) (kind : _) → IsRefusedCall old new kind → IsMigrationRefusal old new (start_fault_of kind)
call_refuses old new kind h = grind arith

-- format 2 is made, good or refused
makes : (g : _) (c : After-make_two g) → MigrationLeaves (g.M.Medium.state c.args.m.now) (g.M.Medium.state c.make_two.new.m)
makes g c = migration_leaves c.in_ok-found.ensures.ends.ok (c.migrates.ensures.0 c.if-migrates.true)
    c.make_two.ensures.writes (g.met.M.Medium.sound c.args.m.now) (g.met.M.Medium.sound c.recover_at_least.new.m)
    c.in_ok-found.ensures.ends.fresh c.recover_at_least.ensures.ends.leaves

pub make_two-requires : goal.make_two-requires
make_two-requires g c =
    let can = can_migrate c.in_ok-found.ensures.ends.ok (c.migrates.ensures.0 c.if-migrates.true) in
    let fits : sectors_of (shape_of c.in_ok-found.found.sizes) ≤ (g.M.Medium.state c.recover_at_least.new.m).size =
    omega (arith, c.in_ok-found.ensures.ends.ok.0.stood.fits, c.recover_at_least.ensures.ends.leaves.moments.size_stays) in
    search (rules, can, fits, c.in_ok-found.ensures.ends.ok)

pub returns-in_err-found-clause-err : goal.returns-in_err-found-clause-err
returns-in_err-found-clause-err g c =
    let p = err_from_is_err_and c.from_residual.result c.from_residual.ensures.1 in
    rw (p.1, p.2) (search (rules, c.in_err-found.ensures.ends.err, served_slots))

pub returns-in_err-make_two-clause-err : goal.returns-in_err-make_two-clause-err
returns-in_err-make_two-clause-err g c =
    let back = c.from_residual-in_err-make_two in
    let p = err_from_is_err_and back.result back.ensures.1 in
    let kind = c.in_err-make_two.field-0.0 in
    rw (p.1, p.2) (call_refuses _ _ kind
    (search (rules, c.recover_at_least.ensures.ends.leaves.moments.refused_stay kind, c.in_err-make_two.ensures.writes.cause)))

pub returns-in_err-make_two-clause-leaves : goal.returns-in_err-make_two-clause-leaves
returns-in_err-make_two-clause-leaves g c = makes g (goal.at.returns-in_err-make_two-clause-leaves g c).After-make_two

pub returns-in_ok-make_two : goal.returns-in_ok-make_two
returns-in_ok-make_two g c =
    let done = c.in_ok-make_two.ensures in
    let from = migrated_from c.in_ok-found.ensures.ends.ok (c.migrates.ensures.0 c.if-migrates.true)
    c.make_two.ensures.writes c.in_ok-make_two.field-0 (done.ok.0, done.ok.1, done.ok.2) done.writes.exact in
    let order : IsInOrder g.M.Medium.state true c.args.m.now c.make_two.new.m =
    (c.recover_at_least.new.m, c.in_ok-found.found, c.in_ok-found.ensures.ends.ok.0, done.ok.3) in
    search (rules, from, order, makes g (goal.at.returns-in_ok-make_two g c).After-make_two, g.met.M.Medium.follows_through)

pub returns-else-migrates-clause-ends : goal.returns-else-migrates-clause-ends
returns-else-migrates-clause-ends g c =
    let found = c.in_ok-found.ensures.ends in
    record {
      order = tt;
      fresh = λ shape array next ours.
          rw (← IsSuper-one shape (shape_of c.in_ok-found.found.sizes) _ ours.stands.keeps.super found.ok.0.stood.keeps.super)
          (found.fresh shape array next ours);
    }
