use Rattle.image_calls.proofs.{Keeping.done_goes}
use Rattle.image_calls.proofs.machine.ImageMachine.done.Goals as goal

pub returns : goal.returns
returns c = (c.hear-told.ensures, done_goes _ _ _ _ c.hear-told.ensures c.rest.ensures)
