use Rattle.ro_races.proofs.Tables.{byte-marked}
use Rattle.ro_races.proofs.shadows.mark_byte.Goals as goal

pub returns-clause-marks : goal.returns-clause-marks
returns-clause-marks c = byte-marked c.args.table.now.items c.advance.new.table.items c.args.byte c.args.thread c.args.place c.requires.bytes c.advance.ensures.advances
