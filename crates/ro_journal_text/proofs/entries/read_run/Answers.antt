use Rattle.std.proofs.Common.{arith}
use Rattle.ro_journal_text.proofs.Many.{run_fields}
use Rattle.ro_journal_text.proofs.entries.read_run.Goals as goal

pub returns-in_default-clause-read : goal.returns-in_default-clause-read
returns-in_default-clause-read c = run_fields c.args.version c.args.fields.now (λ e. omega (arith, e, c.in_default.len_below))

pub returns-in_default-2-clause-read : goal.returns-in_default-2-clause-read
returns-in_default-2-clause-read c = run_fields c.args.version c.args.fields.now (λ e. omega (arith, e, c.in_default.len_at_least))
