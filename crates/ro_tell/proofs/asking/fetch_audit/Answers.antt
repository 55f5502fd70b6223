use Rattle.std.proofs.Common.{◌≡◌, ◌∙◌, ap}
use Rattle.ro_files.specs.Agreeing.{recorded_of}
use Rattle.ro_journal_text.specs.Records.{any_in}
use Rattle.ro_legal.specs.Jobs.{job_of}
use Rattle.ro_settings.specs.declared.Settings.{Settings}
use Rattle.ro_words.specs.Commands.{audit_by, audited_run, run_by}
use Rattle.ro_tell.specs.Agreeing.{run_for}
use Rattle.ro_tell.specs.Causes.{AuditCause, of_journal}
use Rattle.ro_tell.proofs.Asked.{all_asks, is_audited, job_cause, passed_up, run_cause, said_cause}
use Rattle.ro_tell.proofs.asking.fetch_audit.Goals as goal

pub returns-in_err-journal-clause-refused : goal.returns-in_err-journal-clause-refused
returns-in_err-journal-clause-refused g c =
    let cause : AuditCause (g.S.Store.told c.args.store.now) (audit_by c.args.audit.now) (g.S.Store.failures c.args.store.now) (g.S.Store.failures c.fetch_journal.new.store) (g.S.Store.calls c.args.store.now) (g.S.Store.calls c.fetch_journal.new.store) c.in_err-journal.field-0.0 =
    of_journal c.in_err-journal.ensures.refused in
    passed_up c.from_residual.result c.in_err-journal.field-0.0 _ c.from_residual.ensures.1 cause

pub returns-in_err-settings-clause-refused : goal.returns-in_err-settings-clause-refused
returns-in_err-settings-clause-refused g c =
    let cause = said_cause (g.S.Store.told c.args.store.now) (audit_by c.args.audit.now) (any_in c.in_ok-journal.journal) (g.S.Store.calls c.args.store.now) (g.S.Store.calls c.fetch_journal.new.store)
    c.in_ok-journal.ensures.journal c.in_ok-journal.ensures.asked (g.S.Store.failures c.args.store.now) (g.S.Store.failures c.fetch_journal.new.store) c.in_err-settings.field-0.0 c.in_err-settings.ensures.refused in
    passed_up c.from_residual-in_err-settings.result c.in_err-settings.field-0.0 _ c.from_residual-in_err-settings.ensures.1 cause

pub returns-in_err-fetched-clause-refused : goal.returns-in_err-fetched-clause-refused
returns-in_err-fetched-clause-refused g c =
    let asked = audit_by c.args.audit.now in
    let is : run_by c.run.result ≡ run_for asked (any_in c.in_ok-journal.journal) = c.run.ensures ∙ ap (λ (s : Settings). audited_run asked s) c.in_ok-settings.ensures.settings in
    let cause = run_cause (g.S.Store.told c.args.store.now) asked (any_in c.in_ok-journal.journal) (g.S.Store.calls c.args.store.now) (g.S.Store.calls c.fetch_journal.new.store)
    c.in_ok-journal.ensures.journal c.in_ok-journal.ensures.asked c.in_ok-settings.ensures.same (g.S.Store.calls c.fetch_job.new.store) (g.S.Store.told c.fetch_journal.new.store) c.fetch_journal.ensures.told
    (run_by c.run.result) is (g.S.Store.failures c.args.store.now) (g.S.Store.failures c.fetch_journal.new.store) (g.S.Store.failures c.fetch_job.new.store) c.in_err-fetched.field-0.0
    (c.in_ok-journal.ensures.calm (λ e. cc)) c.in_err-fetched.ensures.refused c.in_err-fetched.ensures.stops in
    passed_up c.from_residual-in_err-fetched.result c.in_err-fetched.field-0.0 _ c.from_residual-in_err-fetched.ensures.1 cause

pub returns-in_err-agree-clause-refused : goal.returns-in_err-agree-clause-refused
returns-in_err-agree-clause-refused g c =
    let asked = audit_by c.args.audit.now in
    let is : run_by c.run.result ≡ run_for asked (any_in c.in_ok-journal.journal) = c.run.ensures ∙ ap (λ (s : Settings). audited_run asked s) c.in_ok-settings.ensures.settings in
    let fetched = c.in_ok-fetched.fetched in
    let cause = job_cause (g.S.Store.told c.args.store.now) asked (any_in c.in_ok-journal.journal) (g.S.Store.calls c.args.store.now) (g.S.Store.calls c.fetch_journal.new.store)
    c.in_ok-journal.ensures.journal c.in_ok-journal.ensures.asked c.in_ok-settings.ensures.same (g.S.Store.calls c.fetch_job.new.store) (g.S.Store.told c.fetch_journal.new.store) c.fetch_journal.ensures.told
    (run_by c.run.result) is (job_of fetched.job.image fetched.job.input.items fetched.job.faults.items fetched.job.settings)
    (recorded_of fetched.job.settings fetched.executable.items fetched.job.input.items fetched.list.items) c.in_ok-fetched.ensures.job
    (g.S.Store.failures c.args.store.now) (g.S.Store.failures c.fetch_job.new.store) c.in_err-agree.field-0.0 c.in_ok-fetched.ensures.asked c.in_err-agree.ensures.refused in
    passed_up c.from_residual-in_err-agree.result c.in_err-agree.field-0.0 _ c.from_residual-in_err-agree.ensures.1 cause

pub returns-clause-audited : goal.returns-clause-audited
returns-clause-audited g c =
    let asked = audit_by c.args.audit.now in
    let is : run_by c.run.result ≡ run_for asked (any_in c.in_ok-journal.journal) = c.run.ensures ∙ ap (λ (s : Settings). audited_run asked s) c.in_ok-settings.ensures.settings in
    let fetched = c.in_ok-fetched.fetched in
    is_audited (g.S.Store.told c.args.store.now) asked (any_in c.in_ok-journal.journal) (g.S.Store.calls c.args.store.now) (g.S.Store.calls c.fetch_journal.new.store)
    c.in_ok-journal.ensures.journal c.in_ok-journal.ensures.asked c.in_ok-settings.ensures.same (g.S.Store.calls c.fetch_job.new.store) (g.S.Store.told c.fetch_journal.new.store) c.fetch_journal.ensures.told
    (run_by c.run.result) is (job_of fetched.job.image fetched.job.input.items fetched.job.faults.items fetched.job.settings)
    (recorded_of fetched.job.settings fetched.executable.items fetched.job.input.items fetched.list.items) c.in_ok-fetched.ensures.job
    c.in_ok-agree.ensures.same_files c.in_ok-agree.ensures.suits

pub returns-clause-asked : goal.returns-clause-asked
returns-clause-asked g c =
    let asked = audit_by c.args.audit.now in
    let is : run_by c.run.result ≡ run_for asked (any_in c.in_ok-journal.journal) = c.run.ensures ∙ ap (λ (s : Settings). audited_run asked s) c.in_ok-settings.ensures.settings in
    all_asks (g.S.Store.told c.args.store.now) asked (any_in c.in_ok-journal.journal) (g.S.Store.calls c.args.store.now) (g.S.Store.calls c.fetch_journal.new.store)
    c.in_ok-journal.ensures.journal c.in_ok-journal.ensures.asked c.in_ok-settings.ensures.same (g.S.Store.calls c.fetch_job.new.store) (g.S.Store.told c.fetch_journal.new.store) c.fetch_journal.ensures.told
    (run_by c.run.result) is c.in_ok-fetched.ensures.asked
