-- How far a start is, with what it knows there.
use Rattle.std.specs.Prelude.{ℕ}
use Rattle.journal.specs.declared.super_sector.Super.{Super}
use Rattle.recovery.specs.declared.{copy_step.CopyStep.CopyStep, surveying.Surveying.Surveying}
use Rattle.recovery.specs.{declared.recovered.Recovered.Recovered, Copying.{Copying, copying_of}}
use Rattle.recovery.specs.declared.{start_fault.StartFault.StartFault, found.Found.Found}
use Rattle.recovery.specs.declared.start_point.StartPoint.{StartPoint}
use Rattle.recovery.specs.declared.start_point.StartPoint.TheVariants as point

pub data StartStage : Type 0 where
  FlushFirst : StartStage
  ReadSuper : StartStage
  ReadHead : Super → StartStage
  Survey : ℕ → Surveying → StartStage
  Copy : Found → Copying → StartStage
  FlushCopies : Found → StartStage
  WriteHead : Found → StartStage
  FlushHead : Found → StartStage
  Started : Recovered → StartStage
  Refused : StartFault → StartStage

-- the reader of the survey reads again what is copied
abbrev pub stage_at : StartPoint → Surveying → CopyStep → StartStage
stage_at point.FlushFirst survey step = FlushFirst
stage_at point.ReadSuper survey step = ReadSuper
stage_at (point.ReadHead sizes) survey step = ReadHead sizes
stage_at (point.Survey head) survey step = Survey head survey
stage_at (point.Copy found) survey step = Copy found (copying_of survey.reader step)
stage_at (point.FlushCopies found) survey step = FlushCopies found
stage_at (point.WriteHead found) survey step = WriteHead found
stage_at (point.FlushHead found) survey step = FlushHead found
stage_at (point.Started answer) survey step = Started answer
stage_at (point.Refused fault) survey step = Refused fault
