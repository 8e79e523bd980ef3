use Rattle.std.{proofs.{Common.{◌≡◌, ◌∙◌, ap₂}, lemmas.Result.IfOk-weaker}, specs.Prelude.{◌||◌, Bool, false, Result, IfOk}}
use Rattle.clap.specs.{Words.{AddsArg, App, Rule, with_rule}, declared.builder.arg.Arg.Arg, declared.builder.command.Command.Command}
use Rattle.usbdisk.specs.runner.Parser.{IsArgOf, IsParserOf}
use Rattle.usbdisk.proofs.runner.task.with_arg.Goals as goal

neither : {x y z : Bool} → z ≡ (x || y) → x ≡ false → y ≡ false → z ≡ false
neither is a b = is ∙ simp (a, b)

-- one more word or option
with_more : {E : Type 0} (r : Result Command E) (old : Command) (arg : Arg) (app : App) (rule : Rule) → IsParserOf app old
    → IsArgOf rule arg → IfOk r (AddsArg old arg) → IfOk r (IsParserOf (with_rule app rule))
with_more r old arg app rule had is added =
    IfOk-weaker r _ _
    (λ new adds. record {
      shape = adds.shape is.local ∙ ap₂ with_rule had.shape is.rule_is;
      local = neither adds.globals had.local is.local;
    })
    added

pub returns-in-Ok : goal.returns-in-Ok
returns-in-Ok c app rule had is =
    with_more c.arg.result c.in-Ok.command c.args.arg app rule (rw c.in-Ok.is at had) is c.arg.ensures
