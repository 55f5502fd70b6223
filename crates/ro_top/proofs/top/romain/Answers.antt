use Rattle.std.proofs.Common.{◌≡◌, Some, None, List, [], inl, inr, ap, subst, sym, ◌∙◌}
use Rattle.ro_files.specs.Agreeing.{recorded_of}
use Rattle.ro_journal.specs.declared.Entry.{Entry}
use Rattle.ro_report.specs.Report.{report_of}
use Rattle.ro_words.specs.Commands.{Asked, AskedRun, asked_by, bench_by, run_by, to_bench, to_run}
use Rattle.ro_words.specs.declared.commands.Command.{Command}
use Rattle.ro_words.specs.Uses.{texts_of}
use Rattle.ro_top.specs.Top.{IsTold, IsUndone, head_in}
use Rattle.ro_files.specs.Causes.{AsksFor}
use Rattle.ro_files.proofs.Asked.{bench_asks, one_command, one_run, spelled_cause, unread_asks}
use Rattle.ro_top.proofs.Claims.{same_job}
use Rattle.ro_top.proofs.top.romain.Goals as goal

pub returns-in-Ok-Run-clause-run : goal.returns-in-Ok-Run-clause-run
returns-in-Ok-Run-clause-run g c = λ asked is.
    let same : run_by c.in-Ok-Run.command ≡ asked = one_run (texts_of c.args.words.now) (run_by c.in-Ok-Run.command) asked (c.in-Ok-Run.ensures.spelled ∙ ap (λ (x : Command). Some (asked_by x)) c.in-Ok-Run.field-0-is) is in
    let run = c.run_command.ensures.run in (
      run.0,
      run.1,
      same_job _ _ _ _ _ _ _ same run.2,
      subst (λ (x : AskedRun). IsTold c.run_command.result.told (g.E.Sink.held c.args.report.now) (g.E.Sink.held c.run_command.new.report) (report_of x.settings.mode (head_in x.kept run.1) c.run_command.result.journal.items run.0 c.run_command.result.answer)) same run.3,
    )

pub returns-in-Ok-Bench-clause-refusal : goal.returns-in-Ok-Bench-clause-refusal
returns-in-Ok-Bench-clause-refusal g c = λ refusal.
    let store = c.args.store.now in
    spelled_cause (g.S.Store.told store) (texts_of c.args.words.now) (to_bench (bench_by c.in-Ok-Bench.command)) (g.S.Store.failures store) (g.S.Store.failures store) c.bench_command.result.answer
    (c.in-Ok-Bench.ensures.spelled ∙ ap (λ (x : Command). Some (asked_by x)) c.in-Ok-Bench.field-0-is)
    (c.bench_command.ensures.refusal (g.S.Store.told store) (g.S.Store.failures store) (g.S.Store.failures store) refusal)

pub returns-in-Ok-Run-clause-asks : goal.returns-in-Ok-Run-clause-asks
returns-in-Ok-Run-clause-asks g c = λ asked is.
    let same : to_run (run_by c.in-Ok-Run.command) ≡ asked = one_command (texts_of c.args.words.now) _ asked (c.in-Ok-Run.ensures.spelled ∙ ap (λ (x : Command). Some (asked_by x)) c.in-Ok-Run.field-0-is) is in
    subst (λ (x : Asked). AsksFor (g.S.Store.told c.args.store.now) x (g.S.Store.calls c.args.store.now) (g.S.Store.calls c.run_command.new.store) c.run_command.result.answer) same c.run_command.ensures.asks

pub returns-in-Ok-Bench-clause-asks : goal.returns-in-Ok-Bench-clause-asks
returns-in-Ok-Bench-clause-asks g c = λ asked is.
    let store = c.args.store.now in
    let same : to_bench (bench_by c.in-Ok-Bench.command) ≡ asked = one_command (texts_of c.args.words.now) _ asked (c.in-Ok-Bench.ensures.spelled ∙ ap (λ (x : Command). Some (asked_by x)) c.in-Ok-Bench.field-0-is) is in
    subst (λ (x : Asked). AsksFor (g.S.Store.told store) x (g.S.Store.calls store) (g.S.Store.calls store) c.bench_command.result.answer) same
    (bench_asks (g.S.Store.told store) (bench_by c.in-Ok-Bench.command) (g.S.Store.calls store) c.bench_command.result.answer (c.bench_command.ensures.refusal (g.S.Store.told store) 0 0))

pub returns-in-Err-clause-asks : goal.returns-in-Err-clause-asks
returns-in-Err-clause-asks g c = λ asked is.
    unread_asks (g.S.Store.told c.args.store.now) (texts_of c.args.words.now) asked (g.S.Store.calls c.args.store.now) c.in-Err.error c.refuse.result.answer c.in-Err.ensures.refused c.refuse.ensures.memory is

pub returns-in-Err-clause-run : goal.returns-in-Err-clause-run
returns-in-Err-clause-run g c = λ asked is.
    let undone : IsUndone c.refuse.result.answer = elim c.in-Err.ensures.refused [
      | inl wanting ↦ inr (c.refuse.ensures.memory wanting)
      | inr none ↦ absurd (let f : None ≡ Some (to_run asked) = sym none ∙ is in cc)
    ] in
    let said = recorded_of asked.settings [] [] [] in
    let text = ap (λ (js : List Entry). report_of asked.settings.mode (head_in asked.kept said) js 0 c.refuse.result.answer) c.refuse.ensures.journal in (
      0,
      said,
      inl (undone, c.refuse.ensures.journal),
      subst (IsTold c.refuse.result.told (g.E.Sink.held c.args.report.now) (g.E.Sink.held c.refuse.new.report)) (sym text) c.refuse.ensures.text,
    )
