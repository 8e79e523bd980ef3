use Rattle.std.proofs.Common.{inl, inr, arith, ◌≡◌, true, false, refl}
use Rattle.logical_blocks.specs.Book.{write_of}
use Rattle.blocks.specs.{StoreValue.is_dead, declared.stage.Stage.TheVariants.{Failed, Waits}}
use Rattle.blocks.proofs.{EmptyBatches.both_empty, StageSteps.{waits_on, failed_by, taken_by}}
use Rattle.blocks.proofs.store.Store.write_step.Goals as goal

pub returns-then-is_dead : goal.returns-then-is_dead
returns-then-is_dead g c =
    let dead : is_dead c.args.self.now.cached ≡ true = grind (arith, c.is_dead.ensures, c.if-is_dead.true) in
    record {
      advanced = failed_by (write_of c.args.address c.args.bytes.now) dead g.met.M.Medium.follows_itself g.met.M.Medium.sound;
      dead = λ is. refl;
      takes = λ live at_once. absurd (grind (arith, live, dead));
      works = λ live not. absurd (grind (arith, live, dead));
    }

pub returns-then-takes_at_once : goal.returns-then-takes_at_once
returns-then-takes_at_once g c =
    let live : is_dead c.args.self.now.cached ≡ false = grind (arith, c.is_dead.ensures, c.if-is_dead.false) in
    let at_once = c.takes_at_once.ensures.0 c.if-takes_at_once.true in
    let e = c.write.ensures in
    taken_by c.write.result live at_once e.passes e.answers e.batches e.cost

pub returns-then-is_dead-2 : goal.returns-then-is_dead-2
returns-then-is_dead-2 g c =
    let live : is_dead c.args.self.now.cached ≡ false = grind (arith, c.is_dead.ensures, c.if-is_dead.false) in
    let dead : is_dead c.work.new.self.cached ≡ true = grind (arith, c.is_dead-2.ensures, c.if-is_dead-2.true) in
    let told = c.takes_at_once.ensures in
    let none = c.if-takes_at_once.false in
    record {
      advanced = waits_on c.work.ensures (write_of c.args.address c.args.bytes.now) Failed (λ book f. inl f)
          (λ is. absurd (let e = is in cc)) dead;
      dead = λ is. absurd (grind (arith, live, is));
      takes = λ lives at_once. absurd (grind (arith, told.1 at_once, none));
      works = λ lives not. ((λ alive. absurd (grind (arith, alive, dead))), c.work.ensures);
    }

pub returns : goal.returns
returns g c =
    let live : is_dead c.args.self.now.cached ≡ false = grind (arith, c.is_dead.ensures, c.if-is_dead.false) in
    let alive : is_dead c.work.new.self.cached ≡ false = grind (arith, c.is_dead-2.ensures, c.if-is_dead-2.false) in
    let told = c.takes_at_once.ensures in
    let none = c.if-takes_at_once.false in
    record {
      advanced = waits_on c.work.ensures (write_of c.args.address c.args.bytes.now) Waits (λ book f. f)
          (λ is. elim (c.work.ensures.steps.left alive) [
            | inl written ↦
                let both = both_empty c.args.self.now.cached live written in absurd (grind (arith, told.1 (inr both.0), none))
            | inr few ↦ few
          ])
          alive;
      dead = λ is. absurd (grind (arith, live, is));
      takes = λ lives at_once. absurd (grind (arith, told.1 at_once, none));
      works = λ lives not. ((λ is. refl), c.work.ensures);
    }
