use Rattle.std.proofs.Common.{List, ◌∷◌, ◌++◌, [], refl, ap, ◌∙◌, arith}
use Rattle.medium.specs.declared.file_call.FileCall.{FileCall}
use Rattle.medium.specs.declared.file_call.FileCall.TheVariants.{Lock, Measure}
use Rattle.device_file.proofs.system.open.Goals as goal

pub returns : goal.returns
returns g c = rw c.over.ensures (record {
  told_is = refl;
  path_is = c.in_ok-length.ensures.path_stays ∙ c.in_ok-file.ensures.path_is;
  asked = c.in_ok-length.ensures.asked ∙ ap (λ (l : List FileCall). l ++ Lock ∷ Measure ∷ []) c.in_ok-file.ensures.asked;
  size_is = omega (arith, c.in_ok-length.ensures.size);
})
