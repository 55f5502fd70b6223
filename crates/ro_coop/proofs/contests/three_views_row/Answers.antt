-- The parts are lemmas.
use Rattle.ro_coop.proofs.Contested.{byte-by-locks, byte-range, byte-ends, byte-legal, byte-got, byte-may, byte-differs, byte-races}
use Rattle.ro_coop.proofs.contests.three_views_row.Goals as goal

pub returns-clause-by_locks : goal.returns-clause-by_locks
returns-clause-by_locks c = byte-by-locks

pub returns-clause-in_range : goal.returns-clause-in_range
returns-clause-in_range c = byte-range

pub returns-clause-legal : goal.returns-clause-legal
returns-clause-legal c = byte-ends

pub returns-clause-before : goal.returns-clause-before
returns-clause-before c = byte-legal

pub returns-clause-got : goal.returns-clause-got
returns-clause-got c = byte-got

pub returns-clause-may : goal.returns-clause-may
returns-clause-may c = byte-may

pub returns-clause-differs : goal.returns-clause-differs
returns-clause-differs c = byte-differs

pub returns-clause-races : goal.returns-clause-races
returns-clause-races c = byte-races
