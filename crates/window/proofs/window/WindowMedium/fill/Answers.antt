use Rattle.std.proofs.Common.{rules}
use Rattle.window.specs.Window.{HasPlace}
use Rattle.window.specs.WindowView.{view_of}
use Rattle.window.proofs.Filled.{kept_filled, is_shown}
use Rattle.window.proofs.window.WindowMedium.fill.Goals as goal

pub invariant_of-self : goal.invariant_of-self
invariant_of-self c =
    let place : HasPlace c.args.first c.args.bytes.now (view_of c.self.inside) = search rules in
    let filled = c.fill.ensures in
    kept_filled c.self.inside c.self.invariant c.args.first c.args.bytes.now _ c.fill.new.self c.lay_over.new.self _ place
    filled.bytes filled.from filled.held filled.length c.lay_over.ensures c.of-self-inside.ensures

pub returns : goal.returns
returns c =
    let place : HasPlace c.args.first c.args.bytes.now (view_of c.self.inside) = search rules in
    let filled = c.fill.ensures in
    rw (← c.self.view_is)
    (is_shown c.self.inside c.self.invariant c.args.first c.args.bytes.now _ c.fill.new.self c.lay_over.new.self _ place
    filled.bytes filled.from filled.held filled.length c.lay_over.ensures c.of-self-inside.ensures)
