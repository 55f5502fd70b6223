-- The parts are lemmas.
use Rattle.ro_coop.proofs.Contested.{waiting-free, waiting-chosen, waiting-range, waiting-legal, waiting-before, waiting-got, waiting-is-stuck, waiting-end, waiting-first}
use Rattle.ro_coop.proofs.contests.waiting_row.Goals as goal

pub returns-clause-free : goal.returns-clause-free
returns-clause-free c = waiting-free

pub returns-clause-chosen : goal.returns-clause-chosen
returns-clause-chosen c = waiting-chosen

pub returns-clause-in_range : goal.returns-clause-in_range
returns-clause-in_range c = waiting-range

pub returns-clause-legal : goal.returns-clause-legal
returns-clause-legal c = waiting-legal

pub returns-clause-before : goal.returns-clause-before
returns-clause-before c = waiting-before

pub returns-clause-got : goal.returns-clause-got
returns-clause-got c = waiting-got

pub returns-clause-stuck : goal.returns-clause-stuck
returns-clause-stuck c = waiting-is-stuck

pub returns-clause-comes_to : goal.returns-clause-comes_to
returns-clause-comes_to c = waiting-end

pub returns-clause-first : goal.returns-clause-first
returns-clause-first c = waiting-first
