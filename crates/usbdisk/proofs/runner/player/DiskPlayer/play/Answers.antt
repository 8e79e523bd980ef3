use Rattle.usbdisk.proofs.Runs.{steps-one}
use Rattle.usbdisk.proofs.runner.player.DiskPlayer.play.Goals as goal

pub returns-clause-played : goal.returns-clause-played
returns-clause-played g c =
    steps-one g.M.Medium.state g.M.Medium.follows c.args.event.now c.answer_to.result c.args.self.now c.answer_to.new.disk
    c.answer_to.ensures.step c.answer_to.ensures.follows.medium
