use Rattle.std.proofs.Common.{◌∙◌, inl, inr, refl}
use Rattle.spec.specs.Packets.{bytes_of}
use Rattle.usbdisk.proofs.Options.{if_ok, if_err}
use Rattle.window.{specs.Window.mirror_of, proofs.InFlight.parts_follow}
use Rattle.device_file.proofs.Fresh.{served_after}
use Rattle.usbdisk.specs.{live.Missing.DiskOn, live.Starting.{IsCarried, Starts}}
use Rattle.usbdisk.proofs.{Ready.ready_started, Rooms.{start_misses, by_image}, live.starting.start_disk.Goals.After-carry_start}
use Rattle.usbdisk.proofs.live.starting.start_disk.Given as given
use Rattle.usbdisk.proofs.live.starting.start_disk.Goals as goal

pub returns-in-Err-clause-refused : goal.returns-in-Err-clause-refused
returns-in-Err-clause-refused g c =
    let first = c.args.medium.window in
    let after = c.in-Err.error.medium.window in
    let leaves = c.in-Err.ensures.leaves in
    let follows = leaves.medium.follows.follows in
    let misses = start_misses first after c.requires leaves.leaves follows leaves.medium.looks (served_after first after follows) in
    rw c.with.ensures (inl (record {
      after = c.in-Err.error.medium;
      fault = c.in-Err.error.fault;
      cause = c.in-Err.ensures.cause;
      by_image = by_image first after c.in-Err.error.fault misses c.in-Err.ensures.cause;
      misses = misses;
      leaves = leaves.leaves;
      follows = leaves.medium.follows;
      refused_is = refl;
      unasked = c.into_file.ensures ∙ leaves.medium.follows.file_stays;
    }))

-- a disk that started, of whose file all or a part was asked
starts : (g : given.Over) (c : After-carry_start g) (new : DiskOn g.row.D.Denot)
    → IsCarried g.D.DeviceFile.told g.D.DeviceFile.at_once c.in-Ok.disk new
    → Starts g.D.DeviceFile.told g.D.DeviceFile.at_once (bytes_of c.args.size) c.args.medium new
starts g c new is =
    let first = c.args.medium.window in
    let started = c.in-Ok.disk.unit.store.medium.window in
    let leaves = c.in-Ok.ensures.leaves in
    let follows = leaves.medium.follows.follows in record {
      started = c.in-Ok.disk;
      opens = rw c.disk_identity.ensures at c.in-Ok.ensures.opened;
      leaves = leaves.leaves;
      follows = leaves.medium.follows;
      covers = c.requires.foresees started follows;
      parts = parts_follow (mirror_of first) (mirror_of started) (c.requires.foresees started follows);
      misses = start_misses first started c.requires leaves.leaves follows leaves.medium.looks (served_after first started follows);
      carried = is.carried;
      others = is.others;
    }

pub returns-in-Ok-clause-started : goal.returns-in-Ok-clause-started
returns-in-Ok-clause-started g c = if_ok c.carry_start.result (λ new both.
    let all = starts g (goal.at.returns-in-Ok-clause-started g c).After-carry_start new both.0 in
    record { starts = all; well = both.1; ready = ready_started all c.requires both.1 }) c.carry_start.ensures.ok

pub returns-in-Ok-clause-refused : goal.returns-in-Ok-clause-refused
returns-in-Ok-clause-refused g c = if_err c.carry_start.result (λ stopped part. inr (record {
  disk = part.disk;
  so = starts g (goal.at.returns-in-Ok-clause-refused g c).After-carry_start part.disk part.so;
  fault = part.fault;
  fault_is = part.fault_is;
  refused_is = part.refused_is;
  given = part.given;
})) c.carry_start.ensures.err
