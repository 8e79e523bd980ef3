use Rattle.page.proofs.play.begin.Goals as goal

pub returns-in-Ok : goal.returns-in-Ok
returns-in-Ok c = c.start_first.ensures _ c.in-Ok.ensures.ok
