use Rattle.std.proofs.Common.{true≢false, sym, ◌∙◌, subst}
use Rattle.ro_journal.specs.declared.Entry.{Entry}
use Rattle.ro_core.specs.Runs.{fields_of, job_of}
use Rattle.ro_cores.specs.Loans.{Returns}
use Rattle.ro_audit.specs.declared.follower.Why.{Why}
use Rattle.ro_audit.specs.Audits.{IsRefused}
use Rattle.ro_audit.specs.Returning.{otherwise}
use Rattle.ro_audit.proofs.VotedReturns.{may-return, told-otherwise}
use Rattle.ro_audit.proofs.voted.CoreAuditCore.come_back.Goals as goal

pub entry-requires-clause-returns : goal.entry-requires-clause-returns
entry-requires-clause-returns c = may-return (job_of c.args.self.now) (fields_of c.args.self.now).journal c.args.lent c.run-back.result c.requires.lends.0 c.requires.lends.1 c.run-back.ensures

pub returns-then-is_same-clause-returns : goal.returns-then-is_same-clause-returns
returns-then-is_same-clause-returns c = (
  may-return (job_of c.args.self.now) (fields_of c.args.self.now).journal c.args.lent c.run-back.result c.requires.lends.0 c.requires.lends.1 c.run-back.ensures,
  sym c.entry.ensures ∙ c.is_same.ensures.0 c.if-is_same.true,
)

pub returns-clause-returns : goal.returns-clause-returns
returns-clause-returns c =
    let job = job_of c.args.self.now in
    let journal = (fields_of c.args.self.now).journal in
    let lease = c.args.lent.lease in
    let told = c.of.ensures lease c.requires.returns in
    subst (λ (why : Why). IsRefused job journal c.args.entry.now why) (sym c.why_otherwise.ensures)
    (subst (λ (entry : Entry). IsRefused job journal entry (otherwise c.of.result c.run-back.result.took)) (sym told)
    (told-otherwise job journal c.args.lent c.run-back.result c.requires.lends.0 c.requires.lends.1 c.run-back.ensures c.of.result (subst (Returns lease) told c.requires.returns)
    (λ same. true≢false (sym (c.is_same.ensures.1 (c.entry.ensures ∙ same ∙ sym told)) ∙ c.if-is_same.false))))
