use Rattle.std.proofs.Common.{ℕ, List, Option, ◌++◌, option_map, subst}
use Rattle.ro_journal.specs.declared.Entry.{Entry}
use Rattle.ro_report.specs.Report.{report_of, report_text}
use Rattle.ro_top.specs.Top.{IsTold}
use Rattle.ro_top.proofs.top.run_command.Goals as goal

pub returns-clause-run : goal.returns-clause-run
returns-clause-run g c =
    let ran = c.ran-head.result in
    let run = c.ran-head.ensures.run in
    let mode = c.args.command.now.settings.mode in
    let told : IsTold c.tell-told.result (g.E.Sink.held c.args.report.now) (g.E.Sink.held c.tell-told.new.report) (report_of mode (option_map (λ bytes. bytes.items) ran.head) ran.journal.items ran.bytes ran.answer) =
    subst (λ (js : List Entry). IsTold c.tell-told.result (g.E.Sink.held c.args.report.now) (g.E.Sink.held c.tell-told.new.report) (report_of mode (option_map (λ bytes. bytes.items) ran.head) js ran.bytes ran.answer)) c.as_slice.ensures.value
    (subst (λ (o : Option (List ℕ)). IsTold c.tell-told.result (g.E.Sink.held c.args.report.now) (g.E.Sink.held c.tell-told.new.report) (report_of mode o c.as_slice.result.now ran.bytes ran.answer)) c.as_bytes.ensures c.tell-told.ensures.told) in (
      ran.bytes,
      run.0,
      run.1,
      subst (λ (part : List ℕ). IsTold c.tell-told.result (g.E.Sink.held c.args.report.now) (g.E.Sink.held c.tell-told.new.report) (part ++ report_text mode ran.journal.items ran.bytes ran.answer)) run.2 told,
    )
