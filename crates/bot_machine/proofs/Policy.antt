-- Over lives a disk retires as was asked at their start, and a host sees nothing of it.
use Rattle.std.proofs.Common.{◌≡◌, ℕ, Bool, List, sym, ap, ◌∙◌, arith, subst}
use Rattle.logical_blocks.specs.Book.{Book}
use Rattle.scsi.specs.Rules.{UnitState, opened_unit}
use Rattle.spec.specs.declared.event.{Event.Event, Answer.Answer}
use Rattle.spec.specs.{Exchange.{Line, at_rest}, Conversation.Conversation, UnitConversation.{UnitRun, on_line}, Lives.Action}
use Rattle.transport_laws.{specs.Striking.{without_ticks, answers_without_ticks, IsUntroubled}, proofs.StruckTicks.ticks_struck}
use Rattle.medium.specs.Medium.{State}
use Rattle.scsi_unit.specs.UnitValue.{unit_limit, state_of as unit_state}
use Rattle.bot_machine.specs.{declared.lives.disk_state.DiskState.DiskState, Device.Device, Disk.{DiskValue, over}, Opening.IsOpened}
use Rattle.bot_machine.specs.{Moving.Does, Policy.{DiskRetires, KeepsPolicy, PolicyIsUnseen, DisksAreServed}}
use Rattle.bot_machine.proofs.{Moved.moves_keep, UnitLaws.knows_images}

-- ---- a disk keeps to it

policy_kept : (device : Device) (old new : DiskState) (action : Action) (answers : List Answer) → Does device old action answers new
    → DiskRetires device.retiring old → DiskRetires device.retiring new
policy_kept device old new action answers does has = grind arith

pub keeps_policy : KeepsPolicy
keeps_policy device = moves_keep device (DiskRetires device.retiring) (policy_kept device)

-- ---- a host sees nothing of it

-- with what a disk opens, whenever its records go home
abbrev opened : (limit : ℕ) (device : Device) (book : Book) → Conversation UnitState
opened limit device book = on_line (at_rest device.packet_size) (opened_unit limit device.identity book)

module _ {M : Type 0} (state : M → State) where
  opens : (medium : M) (device : Device) (disk : DiskValue M) (book : Book)
      → IsOpened (state medium) (state disk.unit.store.medium) device disk → over disk book ≡ opened (unit_limit disk.unit) device book
  opens medium device disk book h =
      ap (λ (l : Line). on_line l (unit_state disk.unit book)) h.line
      ∙ ap (λ (u : UnitState). on_line (at_rest device.packet_size) u) (h.unit book)

  -- runs from the same conversation
  alike : (old start new other : Conversation UnitState) (events others : List Event) (answers told : List Answer)
      (refusals refused : List Bool) → start ≡ old
      → (run : UnitRun old events answers refusals new) → IsUntroubled old events answers refusals new run
      → (again : UnitRun start others told refused other) → IsUntroubled start others told refused other again
      → without_ticks events ≡ without_ticks others → answers_without_ticks events answers ≡ answers_without_ticks others told
  alike old start new other events others answers told refusals refused same run u again v ticks =
      subst (λ (c : Conversation UnitState). (again : UnitRun c others told refused other)
      → IsUntroubled c others told refused other again → answers_without_ticks events answers ≡ answers_without_ticks others told)
      (sym same)
      (λ again v. (ticks_struck old new other events others answers told refusals refused run again ticks u v).0) again v

  pub policy_is_unseen : PolicyIsUnseen state
  policy_is_unseen medium device retiring book events others answers told one other ticks =
      let first = one.opened in
      let next = other.opened in
      let limit = knows_images.one_limit (state medium).size (unit_limit other.first.unit) (unit_limit one.first.unit)
      (state medium).content next.limit first.limit in
      alike (over one.first book) (over other.first book) (over one.last one.on.later) (over other.last other.on.later) events others
      answers
      told one.run.refusals other.run.refusals
      (opens medium (record device { retiring = retiring }) other.first book next
      ∙ ap (λ (n : ℕ). opened n device book) limit ∙ sym (opens medium device one.first book first))
      one.on.run one.untroubled other.on.run other.untroubled ticks

  pub disks_are_served : DisksAreServed state
  disks_are_served medium device book events answers first last opened fits run on untroubled =
      record { first = first; opened = opened; fits = fits; last = last; run = run; on = on; untroubled = untroubled }
