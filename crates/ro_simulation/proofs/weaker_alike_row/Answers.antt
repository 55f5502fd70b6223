-- The parts are lemmas.
use Rattle.std.proofs.Common.{refl}
use Rattle.ro_simulation.proofs.RowsWeaker.{loading-free, slipped-legal, nearly-apart, slipped-not-apart}
use Rattle.ro_simulation.proofs.weaker_alike_row.Goals as goal

pub returns-clause-race_free : goal.returns-clause-race_free
returns-clause-race_free c = loading-free

pub returns-clause-legal : goal.returns-clause-legal
returns-clause-legal c = slipped-legal

pub returns-clause-nearly_apart : goal.returns-clause-nearly_apart
returns-clause-nearly_apart c = nearly-apart

pub returns-clause-no_majority : goal.returns-clause-no_majority
returns-clause-no_majority c = refl

pub returns-clause-not_apart : goal.returns-clause-not_apart
returns-clause-not_apart c = slipped-not-apart
