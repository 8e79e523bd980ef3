use Rattle.std.{proofs.Common.{◌∙◌, ap, inl, refl, map, drop}, specs.Prelude.string_bytes}
use Rattle.usbdisk.proofs.Refusals.{untouched}
use Rattle.usbdisk.specs.declared.console.refusal.Refusal.TheVariants.{NoMemory}
use Rattle.usbdisk.proofs.runner.program.run_program.Goals as goal

pub returns-in-Ok-words_of : goal.returns-in-Ok-words_of
returns-in-Ok-words_of g c =
    let same = ap (map (λ word. word.now)) c.as_slice-in-Ok-words_of.ensures.value
    ∙ c.in-Ok-words_of.ensures
    ∙ ap (λ all. drop 1 (map string_bytes all)) c.as_slice.ensures.value in
    rw c.in-Ok.is (record {
      statuses = c.command.ensures.statuses;
      done = λ zero. rw same at (c.command.ensures.done zero);
      refused = λ not. rw same at (c.command.ensures.refused not);
    })

pub returns-clause-refused : goal.returns-clause-refused
returns-clause-refused g c not =
    let nothing = c.from-in-Err-words_of.ensures in
    rw (c.report-in-Err-words_of.ensures, nothing.0, nothing.1, c.in-Ok.is)
    (NoMemory, refl, inl (refl, untouched (g.O.Write.contents c.args.out.now)))
