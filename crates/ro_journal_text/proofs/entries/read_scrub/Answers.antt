use Rattle.std.proofs.Common.{arith}
use Rattle.ro_journal_text.proofs.Many.{scrub_fields}
use Rattle.ro_journal_text.proofs.entries.read_scrub.Goals as goal

pub returns-in_default : goal.returns-in_default
returns-in_default c = scrub_fields c.args.version c.args.fields.now (λ e. omega (arith, e, c.in_default.len_below))

pub returns-in_default-3 : goal.returns-in_default-3
returns-in_default-3 c = scrub_fields c.args.version c.args.fields.now (λ e. omega (arith, e, c.in_default.len_at_least))
