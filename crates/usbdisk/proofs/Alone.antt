-- What is done with one file alone leaves no plain one.
use Rattle.std.{proofs.Common.{◌≡◌, refl, Option, None, Result, Ok, Err}, specs.Prelude.{IfOk, IfErr}}
use Rattle.device_file.specs.FileValue.{FileValue}

pub alone_ok : {T E : Type 0} (P : T → Type 0) (r : Result T E) → IfOk r P → IfOk r (λ x. (◌≡◌ {A = Option FileValue} None None) × P x)
alone_ok P (Ok x) so = (refl, so)
alone_ok P (Err e) so = tt

pub alone_err : {T E : Type 0} (P : E → Type 0) (r : Result T E) → IfErr r P → IfErr r (λ e. (◌≡◌ {A = Option FileValue} None None) × P e)
alone_err P (Ok x) so = tt
alone_err P (Err e) so = (refl, so)
