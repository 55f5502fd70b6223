-- The parts are lemmas.
use Rattle.ro_rows.proofs.TableRows.{checks-headers, checks-segments, checks-flags, checks-sizes, checks-symbols}
use Rattle.ro_rows.proofs.tables.checks_row.Goals as goal

pub returns-clause-headers : goal.returns-clause-headers
returns-clause-headers c = checks-headers

pub returns-clause-segments : goal.returns-clause-segments
returns-clause-segments c = checks-segments

pub returns-clause-flags : goal.returns-clause-flags
returns-clause-flags c = checks-flags

pub returns-clause-sizes : goal.returns-clause-sizes
returns-clause-sizes c = checks-sizes

pub returns-clause-symbols : goal.returns-clause-symbols
returns-clause-symbols c = checks-symbols
