use Rattle.std.proofs.Common.{◌∙◌, ◌≡◌, ◌<◌, [], arith, sym, inr, true, false, Some}
use Rattle.medium.specs.declared.medium_call.Call.TheVariants.{Read, Write}
use Rattle.redo_log.specs.{Steps.IsOn, Value.of_oldest}
use Rattle.redo_log.proofs.{RecordSteps.{log_is, within_more}, TurnCalls.{tells_first, tells_second, two_bring, refused_brings, one_brings}}
use Rattle.redo_log.proofs.log.Log.bring_home.Goals as goal

pub returns-then-are_kept : goal.returns-then-are_kept
returns-then-are_kept g c live =
    let on : IsOn c.args.self.now (g.M.Medium.state c.args.m.now) = record { live = live; fits = c.requires.1 } in
    let is = log_is c.self.inside c.self.view_is c.self.invariant in
    let owed : 0 < of_oldest c.args.self.now = omega (arith, c.requires.0) in
    let keeps : c.args.self.now.keeps ≡ true = rw (← c.self.view_is) (sym c.are_kept.ensures ∙ c.if-are_kept.true) in
    let first = tells_first is owed g.M.Medium.state g.met.M.Medium.sound c.kept_next-home.ensures in
    one_brings owed first (inr (c.requires.0, keeps)) on c.write.ensures

pub make-requires : goal.make-requires
make-requires g c =
    let not : c.args.self.now.keeps ≡ false = rw (← c.self.view_is) (sym c.are_kept.ensures ∙ c.if-are_kept.false) in
    within_more _ _ c.requires.1 (Read c.copy_next.result) (c.copy_next.ensures []).inside

pub returns-in_err-make : goal.returns-in_err-make
returns-in_err-make g c live =
    let on : IsOn c.args.self.now (g.M.Medium.state c.args.m.now) = record { live = live; fits = c.requires.1 } in
    let is = log_is c.self.inside c.self.view_is c.self.invariant in
    let owed : 0 < of_oldest c.args.self.now = omega (arith, c.requires.0) in
    let not : c.args.self.now.keeps ≡ false = rw (← c.self.view_is) (sym c.are_kept.ensures ∙ c.if-are_kept.false) in
    let first = tells_first is owed g.M.Medium.state g.met.M.Medium.sound (c.copy_next.ensures _) in
    refused_brings owed first c.from_residual.result c.from_residual.ensures.0 on c.in_err-make.ensures

pub returns : goal.returns
returns g c live =
    let on : IsOn c.args.self.now (g.M.Medium.state c.args.m.now) = record { live = live; fits = c.requires.1 } in
    let is = log_is c.self.inside c.self.view_is c.self.invariant in
    let owed : 0 < of_oldest c.args.self.now = omega (arith, c.requires.0) in
    let not : c.args.self.now.keeps ≡ false = rw (← c.self.view_is) (sym c.are_kept.ensures ∙ c.if-are_kept.false) in
    let first = tells_first is owed g.M.Medium.state g.met.M.Medium.sound (c.copy_next.ensures _) in
    let second = tells_second is owed g.M.Medium.state g.met.M.Medium.sound (Some (Write c.bring-home.result)) (c.bring-home.ensures not) in
    two_bring owed first second (g.met.M.Medium.follows_through c.args.m.now c.make.new.m c.write-2.new.m) on c.in_ok-make.ensures
    c.write-2.ensures
