use Rattle.std.proofs.Common.{◌∙◌, ap, subst}
use Rattle.journal.specs.Places.{Shape}
use Rattle.page.specs.Roles.{sector_code}
use Rattle.page.specs.Words.{Says}
use Rattle.page.proofs.play.look_at.Goals as goal

pub returns-in-Some : goal.returns-in-Some
returns-in-Some c = (
  c.in-Some.ensures.some.are,
  record {
    kind = c.in-Some.sizes.format;
    version = c.in-Some.ensures.some.version;
    is = c.look.ensures.code ∙ ap (λ (s : Shape). sector_code s c.args.sector) c.in-Some.ensures.some.shape;
  },
  record {
    kind = c.in-Some.sizes.format;
    version = c.in-Some.ensures.some.version;
    says = subst (λ (s : Shape). Says s c.args.sector c.args.bytes.now c.look.result.1) c.in-Some.ensures.some.shape c.look.ensures.says;
  },
)
