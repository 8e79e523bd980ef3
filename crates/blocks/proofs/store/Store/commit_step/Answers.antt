use Rattle.std.proofs.Common.{inr, arith, ◌≡◌, false, refl}
use Rattle.blocks.specs.{StoreValue.is_dead, declared.stage.Stage.TheVariants.{Accepted, Failed}}
use Rattle.blocks.proofs.StageSteps.{commits_on, commits_all}
use Rattle.blocks.proofs.store.Store.commit_step.Goals as goal

pub returns-then-is_dead : goal.returns-then-is_dead
returns-then-is_dead g c =
    let dead = c.if-is_dead.true in
    let told = c.is_dead.ensures in
    record {
      advanced = commits_on c.work.ensures Failed (λ write book f. inr f) (λ is. absurd (let e = is in cc)) (grind (arith, told, dead));
      promised = (λ is. absurd (let e = is in cc), λ all. absurd (grind (arith, all, c.work.ensures.order.written all.1, told, dead)));
      works = c.work.ensures;
    }

pub returns-then-written : goal.returns-then-written
returns-then-written g c =
    let live : is_dead c.work.new.self.cached ≡ false = grind (arith, c.is_dead.ensures, c.if-is_dead.false) in
    let written = c.is_written-written.ensures.0 (grind (arith, c.if-written.true)) in
    record {
      advanced = commits_all c.work.ensures live written;
      promised = (λ is. (grind (arith, c.work.ensures.order.written written, live), written), λ all. refl);
      works = c.work.ensures;
    }

pub returns : goal.returns
returns g c =
    let live : is_dead c.work.new.self.cached ≡ false = grind (arith, c.is_dead.ensures, c.if-is_dead.false) in
    let told = c.is_written-written.ensures in
    let none = c.if-written.false in
    record {
      advanced = commits_on c.work.ensures Accepted (λ write book f. f)
          (λ is. grind (arith, c.work.ensures.steps.left live, told, none)) live;
      promised = (λ is. absurd (let e = is in cc), λ all. absurd (grind (arith, told.1 all.1, none)));
      works = c.work.ensures;
    }
