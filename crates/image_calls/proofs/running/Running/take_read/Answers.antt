use Rattle.std.proofs.Common.{◌≡◌, ◌*◌, length, inr, refl, sym, subst, arith}
use Rattle.image_calls.specs.{Runs.HoldsRead, declared.run.Run.Run}
use Rattle.image_calls.proofs.Stepped.{first_told, read_on}
use Rattle.image_calls.proofs.running.Running.take_read.Goals as goal

pub tell_first-requires : goal.tell_first-requires
tell_first-requires g c = omega (arith, c.if-bytes-self.false, c.args.self.now.some)

pub returns-clause-hears : goal.returns-clause-hears
returns-clause-hears g c =
    let laws = g.met.T.Machine in
    let b = g.T.Machine in
    let was = c.args.self.now in
    let new = c.tell_first.new.self in
    let long : length c.args.bytes.now ≡ 512 * was.reading = omega (arith, c.if-bytes-self.false) in
    let good = first_told b.fits b.holds b.may b.reads b.ends b.cost b.exact b.due b.after b.gone laws.leaves laws.goes_on
    c.args.first was.reading was.carried new.carried c.args.bytes.now c.tell_first.result c.requires long was.some
    c.tell_first.ensures.hears in inr (
      long,
      good.0,
      good.1,
      subst (λ (r : Run). HoldsRead c.args.first c.args.bytes.now was.run r) (sym c.tell_first.ensures.stays.0) c.hold.ensures,
      c.tell_first.ensures.stays.1,
    )

pub returns-clause-goes_on : goal.returns-clause-goes_on
returns-clause-goes_on g c =
    let laws = g.met.T.Machine in
    let b = g.T.Machine in
    let was = c.args.self.now in
    let new = c.tell_first.new.self in
    let bytes = c.args.bytes.now in
    let long : length bytes ≡ 512 * was.reading = omega (arith, c.if-bytes-self.false) in
    let good = first_told b.fits b.holds b.may b.reads b.ends b.cost b.exact b.due b.after b.gone laws.leaves laws.goes_on
    c.args.first was.reading was.carried new.carried bytes c.tell_first.result c.requires long was.some
    c.tell_first.ensures.hears in
    read_on _ _ _ _ _ _ _ _ _ _ laws.leaves laws.goes_on was new c.args.first bytes _ c.tell_first.result c.requires good.0 refl long
    was.some
    (subst (λ (r : Run). HoldsRead c.args.first bytes was.run r) (sym c.tell_first.ensures.stays.0) c.hold.ensures)
    c.tell_first.ensures.carried
