use Rattle.std.proofs.Common.{◌≢◌, ℕ, inl, ⊎_elim, ◌∙◌, rules}
use Rattle.medium.{specs.Moments.LeavesOnly, proofs.Moments.{one_call, goes_on, after_write, shrunk}}
use Rattle.recovery.specs.Calls.{WithOrWithout}
use Rattle.recovery.proofs.sectors.write_through.Goals as goal
use Rattle.recovery.proofs.sectors.write_through.Goals.{After-write}

-- the write
written : (g : _) (c : After-write g) → LeavesOnly (WithOrWithout c.args.place c.args.sector.now (g.M.Medium.state c.args.m.now).may_leave)
    (g.M.Medium.state c.args.m.now) (g.M.Medium.state c.write.new.self)
written g c =
    let sound = g.met.M.Medium.sound c.args.m.now in
    one_call _ _ _ sound c.write.ensures.passes (λ image cut. inl cut)
    (after_write _ sound _ c.args.place c.args.sector.now c.write.ensures.sets)

pub returns-in_err-write-clause-writes : goal.returns-in_err-write-clause-writes
returns-in_err-write-clause-writes g c =
    let elsewhere = λ (x : ℕ) (not : x ≢ c.args.place).
    ⊎_elim (λ stays. stays x) (λ holds. holds.elsewhere x not) c.in_err-write.ensures.err in
    search (rules, written g (goal.at.returns-in_err-write-clause-writes g c).After-write, elsewhere)

pub returns-clause-writes : goal.returns-clause-writes
returns-clause-writes g c =
    let flushed = c.flush.ensures in
    let mid = g.M.Medium.state c.write.new.self in
    let new = g.M.Medium.state c.flush.new.self in
    let each = after_write _ (g.met.M.Medium.sound c.args.m.now) _ c.args.place c.args.sector.now c.write.ensures.sets in
    let moments = goes_on _ _ mid new (written g (goal.at.returns-clause-writes g c).After-write) flushed.passes
    (shrunk _ mid new flushed.sets each) in
    search (rules, moments, λ (x : ℕ) (not : x ≢ c.args.place). flushed.content x ∙ c.in_ok-write.ensures.ok.elsewhere x not)
