use Rattle.std.proofs.Common.{Result, arith, rules, inl, inr, refl}
use Rattle.std.specs.Prelude.{IfOk, IfErr, MatchResult}
use Rattle.recovery.specs.Recovered.{LeftByRecovery}
use Rattle.blocks.proofs.store.Store.started.Goals.{In-Ok}
use Rattle.blocks.proofs.store.Store.started.Goals as goal

-- nothing was done to the medium since
left : (g : _) (c : In-Ok g) → LeftByRecovery (g.M.Medium.state c.args.medium) (g.M.Medium.state c.recover.new.m) c.in-Ok.found
    (g.M.Medium.state c.recover.new.m)
left g c = record {
  recovered = c.in-Ok.ensures.ok;
  fresh = c.in-Ok.ensures.fresh;
  sound = g.met.M.Medium.sound c.args.medium;
  size_stays = c.recover.ensures.leaves.moments.size_stays;
  content_stays = λ s. refl;
  sets = λ s x may. may;
}

good : {X Y : Type 0} (P Q : X → Type 0) (R : Y → Type 0) (result : Result X Y) → MatchResult result P R → ((x : X) → P x → Q x)
    → IfOk result Q
good P Q R result told means = grind (arith, told, means)

refused : {X Y : Type 0} (P : X → Type 0) (Q R : Y → Type 0) (result : Result X Y) → MatchResult result P Q → ((y : Y) → Q y → R y)
    → IfErr result R
refused P Q R result told means = grind (arith, told, means)

pub returns-in-Ok-clause-ok : goal.returns-in-Ok-clause-ok
returns-in-Ok-clause-ok g c =
    good _ _ _ c.start_from.result c.start_from.ensures (λ store post. record {
      started = rw post.medium_stays (record {
        from = post.started _ _ (left g (goal.at.returns-in-Ok-clause-ok g c).In-Ok);
        recovered = (c.in-Ok.found, c.in-Ok.ensures.ok);
      });
      has_log = post.has_log;
      leaves = rw post.medium_stays (search rules);
    })

pub returns-in-Ok-clause-refused : goal.returns-in-Ok-clause-refused
returns-in-Ok-clause-refused g c =
    refused _ _ _ c.start_from.result c.start_from.ensures (λ error is. rw (is.0, is.1) (record {
      cause = inr (refl, c.in-Ok.found, c.in-Ok.ensures.ok);
      served = λ shape array next stands left. inr refl;
      leaves = search rules;
    }))

pub returns-in-Err-clause-refused : goal.returns-in-Err-clause-refused
returns-in-Err-clause-refused g c =
    let why = c.in-Err.ensures.err in
    record {
      cause = inl why.cause;
      served = λ shape array next stands left. inl (why.served shape array next stands left);
      leaves = search rules;
    }
