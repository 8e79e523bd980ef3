-- What a start leaves of a medium, and what a start tells that answers all at once.
use Rattle.std.{proofs.Common.{Result, arith}, specs.Prelude.{IfOk, IfErr, MatchResult}}
use Rattle.medium.specs.Medium.{State, IsSound}
use Rattle.blocks.{proofs.{ImageLimit.start_keeps_limit, KnownImages.{each_ours, finds}}, specs.Started.{StartLeaves, LeavesMedium}}
use Rattle.scsi_unit.specs.Starting.{LeavesStarted}

pub leaves_started : {M : Type 0} (state : M → State) (Follows : M → M → Type 0) (old new : M) → IsSound (state new)
    → LeavesMedium state Follows old new → LeavesStarted state Follows old new
leaves_started state Follows old new sound medium =
    let left : StartLeaves (state old) (state new) = record {
      cuts = medium.cuts;
      after_flush = medium.after_flush;
      finds = λ book on ours flushed. finds (state old) (state new) sound medium.moments.moments.size_stays book on flushed
          (medium.cuts (each_ours (state old) book on ours));
      bounded = medium.moments;
    } in
    record { leaves = left; limit = λ limit. start_keeps_limit (state old) (state new) limit left; medium = medium }

pub good_start : {X Y : Type 0} (P Q : X → Type 0) (R : Y → Type 0) (result : Result X Y) → MatchResult result P R
    → ((x : X) → P x → Q x) → IfOk result Q
good_start P Q R result told means = grind (arith, told, means)

pub refused_start : {X Y : Type 0} (P : X → Type 0) (Q R : Y → Type 0) (result : Result X Y) → MatchResult result P Q
    → ((y : Y) → Q y → R y) → IfErr result R
refused_start P Q R result told means = grind (arith, told, means)
