use Rattle.device_file.proofs.system.SystemFileDeviceFile.read.Goals as goal

pub returns-clause-read : goal.returns-clause-read
returns-clause-read g c = rw (← c.self.view_is) c.read_sectors.ensures.read

pub returns-clause-once : goal.returns-clause-once
returns-clause-once g c = rw (← c.self.view_is) c.read_sectors.ensures.read

pub returns-clause-unread : goal.returns-clause-unread
returns-clause-unread g c = rw (← c.self.view_is) c.read_sectors.ensures.unread
