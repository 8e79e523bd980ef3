use Rattle.std.{proofs.{Common.{inl, inr, Ok, refl, rules, arith}, lemmas.Bool.Decides.nat_tests}, specs.Prelude.{min, unwrap_or, ◌*◌}}
use Rattle.scsi_unit.proofs.{PerformedCommands.{by_table, take-capacity_10}, Intentions.{meant_to_send, data_sent, inquiry_most}}
use Rattle.scsi_unit.specs.UnitValue.{unit_limit}
use Rattle.scsi.specs.{declared.command.BlockRange.BlockRange, Inquiry.inquiry_size}
use Rattle.blocks.proofs.StoreRuns.{comes_itself}
use Rattle.scsi_unit.proofs.unit.Unit.perform.Goals as goal

pub report-requires : goal.report-requires
report-requires g c = grind (arith, nat_tests, c.requires.room (min c.in-RequestSense.allocation 18))

pub inquire-requires : goal.inquire-requires
inquire-requires g c =
    grind (arith, nat_tests, c.requires.room (min c.in-Inquiry.allocation (unwrap_or (inquiry_size c.in-Inquiry.page) 0)))

pub sense_mode-requires-clause-room : goal.sense_mode-requires-clause-room
sense_mode-requires-clause-room g c = grind (arith, nat_tests, c.requires.room (min c.in-ModeSense.allocation 24))

pub send-requires : goal.send-requires
send-requires g c = grind (arith, nat_tests, c.requires.room 8)

pub send-requires-in-ReadCapacity16 : goal.send-requires-in-ReadCapacity16
send-requires-in-ReadCapacity16 g c = grind (arith, nat_tests, c.requires.room (min c.in-ReadCapacity16.allocation 32))

pub select-requires : goal.select-requires
select-requires g c = grind (arith, nat_tests, c.requires.taken_all c.in-ModeSelect.length)

pub returns-in-TestUnitReady-clause-performs : goal.returns-in-TestUnitReady-clause-performs
returns-in-TestUnitReady-clause-performs g c =
    rw c.in-TestUnitReady.is (by_table (g.met.M.Medium.sound _) refl refl refl (λ book fits. record { answered = refl; after = refl }))

pub returns-in-Inquiry-clause-performs : goal.returns-in-Inquiry-clause-performs
returns-in-Inquiry-clause-performs g c =
    let told = c.inquire.ensures.sent in
    rw c.in-Inquiry.is (by_table (g.met.M.Medium.sound _) refl refl refl (λ book fits. grind (arith, told)))

pub returns-in-RequestSense-clause-performs : goal.returns-in-RequestSense-clause-performs
returns-in-RequestSense-clause-performs g c =
    let told = c.report.ensures.sent in
    rw (c.in-RequestSense.is, c.report.ensures.left) (by_table (g.met.M.Medium.sound _) refl refl refl (λ book fits. grind (arith, told)))

pub returns-in-ModeSense-clause-performs : goal.returns-in-ModeSense-clause-performs
returns-in-ModeSense-clause-performs g c =
    let told = c.sense_mode.ensures.sent in
    rw c.in-ModeSense.is (by_table (g.met.M.Medium.sound _) refl refl refl (λ book fits. grind (arith, told)))

pub returns-in-ReadCapacity10-clause-performs : goal.returns-in-ReadCapacity10-clause-performs
returns-in-ReadCapacity10-clause-performs g c =
    let told = c.send.ensures.sent in
    rw c.in-ReadCapacity10.is
    (by_table (g.met.M.Medium.sound _) refl refl refl
    (λ book fits. grind (arith, told, c.capacity_10.ensures, c.blocks-in-ReadCapacity10.ensures.is, fits.blocks, take-capacity_10)))

pub returns-in-ReadCapacity16-clause-performs : goal.returns-in-ReadCapacity16-clause-performs
returns-in-ReadCapacity16-clause-performs g c =
    let told = c.send-in-ReadCapacity16.ensures.sent in
    rw c.in-ReadCapacity16.is
    (by_table (g.met.M.Medium.sound _) refl refl refl
    (λ book fits. grind (arith, told, c.capacity_16.ensures, c.blocks-in-ReadCapacity16.ensures.is, fits.blocks)))

pub returns-in-ModeSelect-clause-performs : goal.returns-in-ModeSelect-clause-performs
returns-in-ModeSelect-clause-performs g c = rw (c.in-ModeSelect.is, c.silent.ensures.answer c.args.out.now) c.select.ensures.performs

pub returns-in-ModeSelect-clause-spares : goal.returns-in-ModeSelect-clause-spares
returns-in-ModeSelect-clause-spares g c = rw (c.in-ModeSelect.is, c.silent.ensures.answer c.args.out.now) c.select.ensures.spares

pub returns-in-RequestSense-clause-sends : goal.returns-in-RequestSense-clause-sends
returns-in-RequestSense-clause-sends g c =
    rw (c.in-RequestSense.is, c.report.ensures.left)
    (data_sent _ c.args.self.now (Ok c.report.result) c.report.ensures.size (omega arith) (comes_itself g.met.M.Medium.follows_itself))

pub returns-in-Inquiry-clause-sends : goal.returns-in-Inquiry-clause-sends
returns-in-Inquiry-clause-sends g c =
    rw c.in-Inquiry.is
    (data_sent _ c.args.self.now (Ok c.inquire.result) c.inquire.ensures.size (omega (arith, inquiry_most c.in-Inquiry.page))
    (comes_itself g.met.M.Medium.follows_itself))

pub returns-in-ModeSense-clause-sends : goal.returns-in-ModeSense-clause-sends
returns-in-ModeSense-clause-sends g c =
    rw c.in-ModeSense.is
    (data_sent _ c.args.self.now (Ok c.sense_mode.result) c.sense_mode.ensures.size (omega arith)
    (comes_itself g.met.M.Medium.follows_itself))

pub returns-in-ReadCapacity10-clause-sends : goal.returns-in-ReadCapacity10-clause-sends
returns-in-ReadCapacity10-clause-sends g c =
    rw c.in-ReadCapacity10.is
    (data_sent 8 c.args.self.now (Ok c.send.result) (omega (arith, c.send.ensures.size)) (omega arith)
    (comes_itself g.met.M.Medium.follows_itself))

pub returns-in-ReadCapacity16-clause-sends : goal.returns-in-ReadCapacity16-clause-sends
returns-in-ReadCapacity16-clause-sends g c =
    rw c.in-ReadCapacity16.is
    (data_sent _ c.args.self.now (Ok c.send-in-ReadCapacity16.result) (omega (arith, c.send-in-ReadCapacity16.ensures.size)) (omega arith)
    (comes_itself g.met.M.Medium.follows_itself))

pub read-requires : goal.read-requires
read-requires g c = grind (arith, nat_tests, c.requires.room (512 * c.in-Read10.transfer.count))

pub write-requires : goal.write-requires
write-requires g c = grind (arith, nat_tests, c.requires.taken_all (512 * c.in-Write10.transfer.count))

pub returns-in-Read10-clause-performs : goal.returns-in-Read10-clause-performs
returns-in-Read10-clause-performs g c =
    let done = c.read.ensures.performs c.args.taken.now in
    elim c.in-Read10.is [
      | inl is ↦ rw is done
      | inr is ↦ rw is (search rules)
    ]

pub returns-in-Read10-clause-spares : goal.returns-in-Read10-clause-spares
returns-in-Read10-clause-spares g c =
    let done = c.read.ensures.spares c.args.taken.now in
    elim c.in-Read10.is [
      | inl is ↦ rw is done
      | inr is ↦ rw is (search rules)
    ]

pub returns-in-Write10-clause-performs : goal.returns-in-Write10-clause-performs
returns-in-Write10-clause-performs g c =
    let done = c.write.ensures.performs in
    rw (c.silent-in-Write10.ensures.answer c.args.out.now)
    (elim c.in-Write10.is [
      | inl is ↦ rw is done
      | inr is ↦ rw is (search rules)
    ])

pub returns-in-SynchronizeCache10-clause-performs : goal.returns-in-SynchronizeCache10-clause-performs
returns-in-SynchronizeCache10-clause-performs g c =
    let done = λ (range : BlockRange). c.synchronize.ensures.performs range c.args.taken.now in
    rw (c.silent-in-SynchronizeCache10.ensures.answer c.args.out.now)
    (elim c.in-SynchronizeCache10.is [
      | inl is ↦ rw is.1 (done is.0)
      | inr is ↦ let so = done is.0 in rw is.1 (search rules)
    ])

pub returns-in-SynchronizeCache10-clause-spares : goal.returns-in-SynchronizeCache10-clause-spares
returns-in-SynchronizeCache10-clause-spares g c =
    let done = λ (range : BlockRange). c.synchronize.ensures.spares range c.args.taken.now in
    rw (c.silent-in-SynchronizeCache10.ensures.answer c.args.out.now)
    (elim c.in-SynchronizeCache10.is [
      | inl is ↦ rw is.1 (done is.0)
      | inr is ↦ let so = done is.0 in rw is.1 (search rules)
    ])

pub returns-in-Read10-clause-sends : goal.returns-in-Read10-clause-sends
returns-in-Read10-clause-sends g c =
    record {
      sends = grind (
        arith,
        nat_tests,
        c.read.ensures.sends.sent,
        meant_to_send (512 * c.in-Read10.transfer.count) (unit_limit c.args.self.now) c.read.result,
      );
      follows = c.read.ensures.sends.follows;
    }

pub returns-in-TestUnitReady-clause-sends : goal.returns-in-TestUnitReady-clause-sends
returns-in-TestUnitReady-clause-sends g c =
    record { sends = rw c.in-TestUnitReady.is (search rules); follows = comes_itself g.met.M.Medium.follows_itself }
