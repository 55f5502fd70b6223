use Rattle.std.proofs.Common.{rules}
use Rattle.ro_tell.proofs.commands.audit_files.Goals as goal

pub returns-in_err-findings-clause-calm : goal.returns-in_err-findings-clause-calm
returns-in_err-findings-clause-calm g c = λ other. c.in_err-findings.ensures.calm (λ e. other (search (e, rules)))
