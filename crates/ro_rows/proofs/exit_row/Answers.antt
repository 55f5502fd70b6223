-- The parts are lemmas.
use Rattle.std.proofs.Common.{refl}
use Rattle.ro_rows.proofs.ExitRow.{exit-size, exit-accepted, exit-image, exit-driven, exit-legal, exit-next, exit-ideal, exit-output}
use Rattle.ro_rows.proofs.exit_row.Goals as goal

pub returns-clause-size : goal.returns-clause-size
returns-clause-size c = exit-size

pub returns-clause-accepted : goal.returns-clause-accepted
returns-clause-accepted c = exit-accepted

pub returns-clause-image : goal.returns-clause-image
returns-clause-image c = exit-image

pub returns-clause-driven_is : goal.returns-clause-driven_is
returns-clause-driven_is c = exit-driven

pub returns-clause-legal : goal.returns-clause-legal
returns-clause-legal c = exit-legal

pub returns-clause-next : goal.returns-clause-next
returns-clause-next c = exit-next

pub returns-clause-plan : goal.returns-clause-plan
returns-clause-plan c = refl

pub returns-clause-ideal : goal.returns-clause-ideal
returns-clause-ideal c = exit-ideal

pub returns-clause-output : goal.returns-clause-output
returns-clause-output c = exit-output
