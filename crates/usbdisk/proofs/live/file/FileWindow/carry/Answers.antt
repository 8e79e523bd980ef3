use Rattle.usbdisk.proofs.live.file.FileWindow.carry.Goals as goal
use Rattle.usbdisk.proofs.live.file.FileWindow.carry.Goals.{in-Ok, in-Err}

pub returns : goal.returns
returns g c = elim c.match-carry_out.branch [
  | in-Ok w ↦ rw w.self-is (record {
    carried = w.in-Ok.ensures.carries.carried;
    all = λ is. w.in-Ok.ensures.carries.all;
    named = tt;
    runs = w.in-Ok.ensures.runs;
  })
  | in-Err w ↦ rw w.self-is (record {
    carried = w.in-Err.ensures.carries.carried;
    all = λ is. absurd (cc);
    named = w.in-Err.ensures.carries.named;
    runs = w.in-Err.ensures.runs;
  })
]
