use Rattle.std.proofs.Common.{◌∙◌, ap, map}
use Rattle.clap.specs.Words.{App, kind_of, takes}
use Rattle.usbdisk.proofs.Taken.{refused-by}
use Rattle.usbdisk.proofs.runner.task.read_words.Goals as goal

pub returns-in-Err-clause-refused : goal.returns-in-Err-clause-refused
returns-in-Err-clause-refused c =
    let words = map (λ word. word.now) c.args.words.now in
    refused-by words (kind_of c.in-Err.error) c.refusal_of.result c.refusal_of.ensures
    (λ taken. c.in-Err.ensures.passes (ap (λ (a : App). takes a words) c.in-Ok.ensures ∙ taken))
