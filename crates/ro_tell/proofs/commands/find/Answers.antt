use Rattle.std.proofs.Common.{rules, refl, subst}
use Rattle.ro_files.specs.declared.asking.FetchedJob.{FetchedJob}
use Rattle.ro_journal_text.specs.Records.{any_in}
use Rattle.ro_journal_text.specs.declared.files.AnyJournal.{AnyJournal}
use Rattle.ro_legal.specs.Jobs.{job_of}
use Rattle.ro_words.specs.Commands.{audit_by}
use Rattle.ro_tell.specs.Agreeing.{IsAudited}
use Rattle.ro_tell.specs.Judging.{Finds, job_in}
use Rattle.ro_tell.proofs.commands.find.Goals as goal

pub returns-in_err-journal-clause-calm : goal.returns-in_err-journal-clause-calm
returns-in_err-journal-clause-calm g c = λ other. c.in_err-journal.ensures.calm (λ e. other (search (e, rules)))

pub returns-in-Ok-clause-found : goal.returns-in-Ok-clause-found
returns-in-Ok-clause-found g c =
    let asked = audit_by c.args.audit.now in
    let journal = c.in_ok-journal.journal in
    let job = job_of c.in_ok-journal.fetched.job.image c.in_ok-journal.fetched.job.input.items c.in_ok-journal.fetched.job.faults.items c.in_ok-journal.fetched.job.settings in
    let first = subst (λ (f : FetchedJob). IsAudited (g.S.Store.told c.args.store.now) asked (any_in c.in_ok-journal.field-0.journal) (job_of f.job.image f.job.input.items f.job.faults.items f.job.settings)) c.in_ok-journal.fetched-is c.in_ok-journal.ensures.audited in
    let audited = subst (λ (j : AnyJournal). IsAudited (g.S.Store.told c.args.store.now) asked (any_in j) job) c.in_ok-journal.journal-is first in
    let finds : Finds (job_in journal.mode job) journal.entries.items c.in-Ok.findings = search (c.in-Ok.ensures, c.judge.ensures, rules) in
    record { journal = any_in journal; job = job; audited = audited; finds = finds }
