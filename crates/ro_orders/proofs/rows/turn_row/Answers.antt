-- The parts are lemmas.
use Rattle.ro_event.specs.declared.calls.Which.TheVariants.{Function}
use Rattle.ro_event.specs.declared.functions.Function.TheVariants.{Lock, Unlock}
use Rattle.ro_orders.proofs.Worked.{at-free, at-own, at-another, at-unlock, at-wrong-unlock, at-first}
use Rattle.ro_orders.proofs.rows.turn_row.Goals as goal

pub returns-clause-gets : goal.returns-clause-gets
returns-clause-gets c = at-free

pub returns-clause-own : goal.returns-clause-own
returns-clause-own c = at-own

pub returns-clause-waits : goal.returns-clause-waits
returns-clause-waits c = at-another

pub returns-clause-frees : goal.returns-clause-frees
returns-clause-frees c = at-unlock

pub returns-clause-of_another : goal.returns-clause-of_another
returns-clause-of_another c = at-wrong-unlock

pub returns-clause-first_lock : goal.returns-clause-first_lock
returns-clause-first_lock c = at-first (Function Lock)

pub returns-clause-first_unlock : goal.returns-clause-first_unlock
returns-clause-first_unlock c = at-first (Function Unlock)
