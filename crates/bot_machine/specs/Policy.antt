-- When records go home, over lives: a disk keeps to what was asked, and a host sees nothing of it.
use Rattle.std.specs.Prelude.{◌≡◌, ⊤, Bool, List}
use Rattle.medium.specs.Medium.{State}
use Rattle.scsi_unit.specs.Retiring.{RetiresBy}
use Rattle.logical_blocks.specs.Book.{Book}
use Rattle.spec.specs.declared.event.Event.{Event}
use Rattle.spec.specs.declared.event.Answer.{Answer}
use Rattle.bot_machine.specs.declared.lives.disk_state.DiskState.{DiskState}
use Rattle.bot_machine.specs.declared.lives.disk_state.DiskState.TheVariants.{Stopped, Running}
use Rattle.bot_machine.specs.Device.{Device, Retiring}
use Rattle.bot_machine.specs.Disk.{DiskValue, over, FitsDisk, RunsOn, IsRun}
use Rattle.bot_machine.specs.Moving.{MovesBy}
use Rattle.bot_machine.specs.Opening.{IsOpened}
use Rattle.transport_laws.specs.Striking.{without_ticks, answers_without_ticks, IsUntroubled}
use Rattle.spec.specs.Lives.{Action}

-- a disk that runs retires so
abbrev pub DiskRetires : Retiring → DiskState → Type 0
DiskRetires retiring (Stopped medium) = ⊤
DiskRetires retiring (Running disk) = RetiresBy retiring disk.unit

-- Whatever is done, a disk that runs retires as is known of it: in each life, throughout.
abbrev pub KeepsPolicy : Type 0
KeepsPolicy = (device : Device) (old new : DiskState) (actions : List Action)
    (answers : List Answer)
    (refusals : List Bool) → MovesBy device old actions answers refusals new
    → DiskRetires device.retiring old → DiskRetires device.retiring new

module _ {M : Type 0} (state : M → State) where
  -- A disk was started as this device over a medium that stood for the book, and these events came
  -- to it, with these answers. The medium refused nothing in them, and stamps are left.
  pub record IsServed (medium : M) (device : Device) (book : Book) (events : List Event)
      (answers : List Answer) : Type 0 where
    pub first : DiskValue M
    pub opened : IsOpened (state medium) (state first.unit.store.medium) device first
    pub fits : FitsDisk (state first.unit.store.medium) first book
    pub last : DiskValue M
    pub run : IsRun state first events answers last
    pub on : RunsOn (state first.unit.store.medium) (state last.unit.store.medium) first events
        answers run.refusals last book
    pub untroubled : IsUntroubled (over first book) events answers run.refusals
        (over last on.later) on.run

  -- Two disks that start over the same medium and differ alone in when their records go home: the
  -- same events give the same packets. The steps in the background may differ as well.
  abbrev pub PolicyIsUnseen : Type 0
  PolicyIsUnseen = (medium : M) (device : Device) (retiring : Retiring) (book : Book)
      (events others : List Event) (answers told : List Answer)
      → IsServed medium device book events answers
      → IsServed medium (record device { retiring = retiring }) book others told
      → without_ticks events ≡ without_ticks others
      → answers_without_ticks events answers ≡ answers_without_ticks others told

  -- A disk that was started, and fits the book, is served by any events that nothing troubles.
  abbrev pub DisksAreServed : Type 0
  DisksAreServed = (medium : M) (device : Device) (book : Book) (events : List Event)
      (answers : List Answer) (first last : DiskValue M)
      → IsOpened (state medium) (state first.unit.store.medium) device first
      → FitsDisk (state first.unit.store.medium) first book
      → (run : IsRun state first events answers last)
      → (on : RunsOn (state first.unit.store.medium) (state last.unit.store.medium) first events
      answers run.refusals last book)
      → IsUntroubled (over first book) events answers run.refusals (over last on.later) on.run
      → IsServed medium device book events answers
