-- Calls that a file of the system is asked in runs leave what is known of its looks.
use Rattle.std.proofs.Common.{◌≡◌, ◌∙◌, ℕ, zero, suc, List, [], ap}
use Rattle.window.specs.declared.call.DeviceCall.{DeviceCall}
use Rattle.device_file.specs.Carried.{at_once_of, told_of}
use Rattle.device_file.specs.FileValue.{FileValue}
use Rattle.device_file.specs.InRuns.{AsksRuns, IsAskedInRuns}

looks_in_runs : (count : ℕ) (was is : FileValue) (waited waits : List DeviceCall) → AsksRuns at_once_of count was is waited waits
    → is.file.looks ≡ was.file.looks
looks_in_runs zero was is waited waits (same, none) = ap (λ (v : FileValue). v.file.looks) same
looks_in_runs (suc count) was is waited waits (then, left, before, run) =
    run.once.looks_stay ∙ looks_in_runs count was then waited left before

pub looks_stay : (was is : FileValue) → IsAskedInRuns told_of at_once_of was is
    → is.file.looks ≡ was.file.looks
looks_stay was is asked = looks_in_runs asked.runs.0 was is asked.calls [] asked.runs.1
