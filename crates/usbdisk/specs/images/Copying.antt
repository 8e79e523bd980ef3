-- Sectors that are copied on the way to an image, or out of one.
use Rattle.std.specs.Prelude.{◌≡◌, ℕ, List, Result, OnOk, IfErr}
use Rattle.device_file.specs.{Asked.Told, Copied.{IsCopied, IsCopiedInPart}, InRuns.IsAskedInRuns}
use Rattle.device_file.specs.declared.copying.CopyFault.{CopyFault}
use Rattle.window.specs.declared.call.DeviceCall.{DeviceCall}

-- All count sectors were copied, or a file refused a call. The file written is as large as before,
-- and was asked in runs.
pub record Copies {D : Type 0} (told : D → Told) (at_once : D → List DeviceCall → D → Type 0)
    (sectors : D → ℕ) (holds : ℕ → List ℕ → Type 0) (refuses : ℕ → ℕ → Type 0)
    (first count at : ℕ) (old new : D) (result : Result (Unit {0}) CopyFault) : Type 0 where
  pub ok : OnOk result (IsCopied holds first count at (told old) (told new))
  pub err : IfErr result (IsCopiedInPart holds refuses first count at (told old) (told new))
  pub size : sectors new ≡ sectors old
  pub runs : IsAskedInRuns told at_once old new
