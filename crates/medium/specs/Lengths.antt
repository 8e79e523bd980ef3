-- How long an image file is.
use Rattle.std.specs.Prelude.{◌≡◌, ◌⊎◌, ◌↔◌, ℕ, ◌*◌, ◌<◌, Result, IfOk, IfErr, IsErrOf}
use Rattle.medium.specs.declared.file.FileError.{FileError}
use Rattle.medium.specs.declared.file.FileError.TheVariants.{BadLength, TooLong}

-- it is told how many bytes `sectors` sectors have, and where these are no image, why
pub record IsLengthOf (sectors : ℕ) (result : Result ℕ FileError) : Type 0 where
  pub ok : IfOk result (λ bytes. bytes ≡ 512 * sectors)
  pub none : IsErrOf result BadLength ↔ sectors ≡ 0
  pub long : IsErrOf result TooLong ↔ 65536 < sectors
  pub other : IfErr result (λ e. (e ≡ BadLength) ⊎ (e ≡ TooLong))
