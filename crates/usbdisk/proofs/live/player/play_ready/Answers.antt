use Rattle.window.{specs.Window.mirror_of, proofs.InFlight.parts_follow}
use Rattle.device_file.proofs.Fresh.{served_after}
use Rattle.usbdisk.{specs.live.Missing.window_of, proofs.Ready.{event_kept, event_served, ready_again}}
use Rattle.usbdisk.proofs.live.player.play_ready.Goals as goal

pub returns : goal.returns
returns g c =
    let old = c.args.disk.now in
    let played = c.answer_to-answer.new.disk in
    let answer = c.answer_to-answer.result in
    let step = c.answer_to-answer.ensures.step in
    let follows = c.answer_to-answer.ensures.follows.medium.follows in
    let covers = c.foresee.ensures (window_of played) follows in record {
      played = played;
      step = step;
      follows = c.answer_to-answer.ensures.follows.medium;
      covers = covers;
      parts = parts_follow (mirror_of (window_of old)) (mirror_of (window_of played)) covers;
      kept = event_kept old played c.args.event.now answer step follows;
      served = event_served old played c.args.event.now answer step (served_after (window_of old) (window_of played) follows);
      carried = c.pop.ensures.armed;
      others = c.pop.ensures.others;
      again = ready_again g.D.DeviceFile.told old played c.pop.new.self follows step.few.layout_stays c.pop.ensures.armed
          c.pop.ensures.others;
    }
