use Rattle.std.proofs.Common.{◌≤◌, ◌≡◌, ◌++◌, ◌*◌, List, ℕ, length, take, ap, subst, sym, arith}
use Rattle.image_calls.specs.{Reading.{Reading, IsUntil}, declared.reach.Reach.Reach}
use Rattle.image_calls.proofs.{Kept.near_length, Until.{goes_on, tells}}
use Rattle.image_calls.proofs.opening.Opening.until_with.Goals as goal

pub returns-then-self-gt0-clause-is : goal.returns-then-self-gt0-clause-is
returns-then-self-gt0-clause-is c =
    let near : List ℕ = take (512 * c.self.inside.read) c.self.inside.bytes.items in
    let some : 512 ≤ length near = omega (arith, near_length c.self.inside c.self.invariant) in
    rw (← c.self.view_is) (goes_on c.self.inside.reach c.self.inside.sectors near c.args.bytes.now c.self.inside.until some
    c.self.invariant.until_is)

pub returns-in-Near-clause-is : goal.returns-in-Near-clause-is
returns-in-Near-clause-is c =
    let near : List ℕ = take (512 * c.self.inside.read) c.self.inside.bytes.items in
    let none : length near ≡ 0 = omega (arith, near_length c.self.inside c.self.invariant) in
    let asked : c.self.inside.asked ≡ c.args.self.now.asked = ap (λ (s : Reading). s.asked) c.self.view_is in
    let some : 512 ≤ length c.args.bytes.now = omega (arith, asked) in
    rw (← c.self.view_is) (subst
    (λ (r : Reach). IsUntil r c.self.inside.sectors (near ++ c.args.bytes.now) c.min.result) (sym c.in-Near.is)
    (tells c.self.inside.sectors near c.args.bytes.now c.near_in.result c.min.result none some c.near_in.ensures.is c.min.ensures))
