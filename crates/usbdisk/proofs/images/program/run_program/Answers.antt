use Rattle.std.proofs.Common.{◌∙◌, ap, inl, inr, refl, map, drop}
use Rattle.std.{proofs.KnownBytes.Keeps-refl, specs.Prelude.string_bytes}
use Rattle.usbdisk.proofs.images.program.run_program.Goals as goal

pub returns-in-Ok-words_of-clause-refused : goal.returns-in-Ok-words_of-clause-refused
returns-in-Ok-words_of-clause-refused g c not =
    let same = ap (map (λ word. word.now)) c.as_slice-in-Ok-words_of.ensures.value
    ∙ c.in-Ok-words_of.ensures
    ∙ ap (λ all. drop 1 (map string_bytes all)) c.as_slice.ensures.value in
    let why = rw same at (c.command.ensures.refused not) in rw c.in-Ok.is (why.0, why.1, inr why.2)

pub returns-clause-refused : goal.returns-clause-refused
returns-clause-refused g c not =
    let nothing = c.from-in-Err-words_of.ensures in
    rw (c.refuse-in-Err-words_of.ensures.is, nothing.0, c.in-Ok.is)
    (_, refl, inl (record { none = nothing.1.0; no_plain = nothing.1.1; refused_is = refl; kept = Keeps-refl _ }))
