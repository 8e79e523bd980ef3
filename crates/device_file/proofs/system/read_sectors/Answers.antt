use Rattle.device_file.proofs.Given.{sectors_given}
use Rattle.device_file.proofs.system.read_sectors.Goals as goal

pub returns-in-Ok-clause-read : goal.returns-in-Ok-clause-read
returns-in-Ok-clause-read g c =
    sectors_given (g.S.ToldFile.told c.args.file.now).looks c.in_ok-at.at c.args.first c.look_whole.new.to c.in_ok-at.ensures.ok.0
    c.in-Ok.ensures.given
