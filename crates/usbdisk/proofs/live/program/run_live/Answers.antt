use Rattle.std.{proofs.{Common.{◌∙◌, ap, inl, inr, refl, map, drop}, KnownBytes.Keeps-refl}, specs.Prelude.string_bytes}
use Rattle.usbdisk.proofs.live.program.run_live.Goals as goal

pub returns-clause-refused : goal.returns-clause-refused
returns-clause-refused g c not =
    let nothing = c.from-in-Err-words_of.ensures in
    rw (c.report-in-Err-words_of.ensures, nothing.0, nothing.1, c.in-Ok.is)
    (_, refl, inl (record { refused_is = refl; untouched = record { none = refl; unread = refl; kept = Keeps-refl _ } }))

pub returns-in-Ok-words_of : goal.returns-in-Ok-words_of
returns-in-Ok-words_of g c =
    let so = c.live_command.ensures in
    let same = ap (map (λ word. word.now)) c.as_slice-in-Ok-words_of.ensures.value
    ∙ c.in-Ok-words_of.ensures
    ∙ ap (λ all. drop 1 (map string_bytes all)) c.as_slice.ensures.value in
    rw c.in-Ok.is (record {
      statuses = so.statuses;
      done = λ zero. rw same at (so.done zero);
      refused = λ not. let why = rw same at (so.refused not) in (why.0, why.1, inr why.2);
      calls = so.calls;
    })
