use Rattle.window.specs.{Window.mirror_of}
use Rattle.image_calls.proofs.recovering.Recovering.rest.Goals as goal

pub returns : goal.returns
returns c m n is =
    let rests = c.rest.ensures in record {
      leaves = (rests.holds is.first is.began m n (record { start = m; least = 0 }) is.running.carried is.held).2.1.leaves;
      device = λ all count image le left. (rests.leaves is.first is.began m n count image is.running.carried all le left).0;
      parts = λ all. c.device_laws.ensures (mirror_of m) (mirror_of n)
          (λ count image le left. (rests.leaves is.first is.began m n count image is.running.carried all le left).0);
    }
