use Rattle.std.{proofs.Common.{◌∷◌, [], ℕ, sym, subst, refl}, specs.Prelude.flat_map}
use Rattle.spec.specs.{Lives.{arms, fails, cuts}, Packets.bytes_of}
use Rattle.bot_machine.specs.Fitting.{AreWithin}
use Rattle.usbdisk.specs.{declared.runner.line.ScriptLine.TheVariants.{Fuse, Fail, Cut}, runner.Events.events_of}
use Rattle.usbdisk.specs.runner.Lifetimes.{comes, is_kept}
use Rattle.usbdisk.proofs.{LifeActions.{acted-fuse, acted-fail, tells-silently}, ActingLines.{line_acts, event_line_acts}}
use Rattle.usbdisk.proofs.Within.{events_within}
use Rattle.usbdisk.proofs.Options.{is_some_where}
use Rattle.usbdisk.proofs.runner.lifetimes.play_line.Goals as goal

pub unwrap-requires : goal.unwrap-requires
unwrap-requires g c =
    let good = c.requires.good in
    is_some_where c.read_line.result c.read_line.ensures.refused (λ refused. refused good.0 good.1 good.2)

pub play_events-requires : goal.play_events-requires
play_events-requires g c =
    let spelled = rw c.unwrap.ensures at c.read_line.ensures.spelled in
    subst (λ (most : ℕ). AreWithin most (events_of c.unwrap.result)) (sym c.requires.packets)
    (events_within (bytes_of c.args.line.size) c.args.line.bytes.now c.unwrap.result spelled.0)

pub fail-requires : goal.fail-requires
fail-requires g c =
    let spelled = rw c.in-Fail.ensures at c.read_line.ensures.spelled in
    spelled.0.counted.not_less

pub returns-in-Cut-clause-played : goal.returns-in-Cut-clause-played
returns-in-Cut-clause-played g c =
    let kept = c.in-Cut.kept in
    let spelled = rw c.in-Cut.ensures at c.read_line.ensures.spelled in (
      cuts (is_kept kept) ∷ [],
      line_acts (bytes_of c.args.line.size) c.args.line.bytes.now (Cut kept) spelled.0,
      tells-silently (g.W.Write.contents c.args.out.now) c.cut.ensures refl,
    )

pub returns-in-Fuse-clause-played : goal.returns-in-Fuse-clause-played
returns-in-Fuse-clause-played g c =
    let writes = c.in-Fuse.writes in
    let spelled = rw c.in-Fuse.ensures at c.read_line.ensures.spelled in (
      arms writes ∷ [],
      line_acts (bytes_of c.args.line.size) c.args.line.bytes.now (Fuse writes) spelled.0,
      tells-silently (g.W.Write.contents c.args.out.now)
          (acted-fuse c.args.lives.now c.fuse.new.self writes c.fuse.ensures.goes_on) refl,
    )

pub returns-in-Fail-clause-played : goal.returns-in-Fail-clause-played
returns-in-Fail-clause-played g c =
    let call = c.in-Fail.call in
    let spelled = rw c.in-Fail.ensures at c.read_line.ensures.spelled in (
      fails call ∷ [],
      line_acts (bytes_of c.args.line.size) c.args.line.bytes.now (Fail call) spelled.0,
      tells-silently (g.W.Write.contents c.args.out.now)
          (acted-fail c.args.lives.now c.fail.new.self call c.fail.ensures.goes_on c.fail.ensures.failing) refl,
    )

pub returns-in-Ok-clause-played : goal.returns-in-Ok-clause-played
returns-in-Ok-clause-played g c =
    let asked = c.unwrap.result in
    let spelled = rw c.unwrap.ensures at c.read_line.ensures.spelled in (
      flat_map comes (events_of asked),
      event_line_acts (bytes_of c.args.line.size) c.args.line.bytes.now asked c.in_default.not-Fuse c.in_default.not-Fail
          c.in_default.not-Cut spelled.0,
      c.in-Ok.ensures.played,
    )

pub returns-in-Err-clause-broken : goal.returns-in-Err-clause-broken
returns-in-Err-clause-broken g c =
    let asked = c.unwrap.result in
    let spelled = rw c.unwrap.ensures at c.read_line.ensures.spelled in (
      flat_map comes (events_of asked),
      event_line_acts (bytes_of c.args.line.size) c.args.line.bytes.now asked c.in_default.not-Fuse c.in_default.not-Fail
          c.in_default.not-Cut spelled.0,
      c.in-Err.ensures.broken,
    )
