use Rattle.std.proofs.Common.{rules, refl, sym, ◌∙◌, ap, subst, arith}
use Rattle.std.specs.Prelude.{option_map}
use Rattle.ro_faults.specs.Texts.{file_faults}
use Rattle.ro_image.specs.Executable.{bad_code, image_of}
use Rattle.ro_legal.specs.Jobs.{job_of}
use Rattle.ro_io.proofs.Fetches.{asks-none}
use Rattle.ro_report.specs.declared.answers.FileKind.TheVariants.{Exe, Input, Faults}
use Rattle.ro_words.specs.Commands.{run_by, to_run}
use Rattle.ro_files.specs.Files.{IsContent}
use Rattle.ro_files.specs.Refusals.{RefusesContent}
use Rattle.ro_files.specs.Causes.{IsAccepted, HasInput}
use Rattle.ro_files.proofs.Asked.{asks_to, both_asked, content_cause, faults_cause, exe_asks, list_asks, can_run, is_fit}
use Rattle.ro_files.proofs.asking.fetch_job.Goals as goal

pub returns-in_err-file-clause-stops : goal.returns-in_err-file-clause-stops
returns-in_err-file-clause-stops g c =
    let cause = content_cause (g.S.Store.told c.args.store.now) (to_run (run_by c.args.command.now)) (g.S.Store.calls c.args.store.now) (g.S.Store.calls c.args.store.now) (g.S.Store.calls c.fetch.new.store) Exe tt (asks-none (g.S.Store.calls c.args.store.now)) (g.S.Store.failures c.args.store.now) (g.S.Store.failures c.args.store.now) (g.S.Store.failures c.fetch.new.store) (omega arith) c.in_err-file.field-0.0 c.in_err-file.ensures.refused in
    search (cause.1, rules)

pub returns-in_err-image-clause-stops : goal.returns-in_err-image-clause-stops
returns-in_err-image-clause-stops g c =
    let to = asks_to (g.S.Store.told c.args.store.now) (to_run (run_by c.args.command.now)) (g.S.Store.calls c.args.store.now) (g.S.Store.calls c.args.store.now) (g.S.Store.calls c.fetch.new.store) Exe tt (asks-none (g.S.Store.calls c.args.store.now)) c.in_ok-file.ensures.asks in
    search (exe_asks, to, rules)

pub returns-in_err-input-clause-refused : goal.returns-in_err-input-clause-refused
returns-in_err-input-clause-refused g c =
    let accepted : IsAccepted (g.S.Store.told c.args.store.now) (to_run (run_by c.args.command.now)) = record {
      executable = c.in_ok-file.file.items;
      executable_is = (c.in_ok-file.ensures.content, c.in_ok-file.ensures.short);
      accepted = ap bad_code (sym c.as_slice.ensures.value) ∙ c.in_ok-image.ensures.accepted;
    } in
    let refused = subst (λ t. RefusesContent t Input (option_map (λ n. n.now) c.args.command.now.input) (g.S.Store.failures c.fetch.new.store) (g.S.Store.failures c.fetch_named.new.store) (g.S.Store.calls c.fetch.new.store) (g.S.Store.calls c.fetch_named.new.store) c.in_err-input.field-0.0) c.fetch.ensures.told c.in_err-input.ensures.refused in
    let cause = content_cause (g.S.Store.told c.args.store.now) (to_run (run_by c.args.command.now)) (g.S.Store.calls c.args.store.now) (g.S.Store.calls c.fetch.new.store) (g.S.Store.calls c.fetch_named.new.store) Input accepted c.in_ok-file.ensures.asks (g.S.Store.failures c.args.store.now) (g.S.Store.failures c.fetch.new.store) (g.S.Store.failures c.fetch_named.new.store) c.fetch.ensures.failures c.in_err-input.field-0.0 refused in
    search (cause.0, rules)

pub returns-in_err-input-clause-stops : goal.returns-in_err-input-clause-stops
returns-in_err-input-clause-stops g c =
    let accepted : IsAccepted (g.S.Store.told c.args.store.now) (to_run (run_by c.args.command.now)) = record {
      executable = c.in_ok-file.file.items;
      executable_is = (c.in_ok-file.ensures.content, c.in_ok-file.ensures.short);
      accepted = ap bad_code (sym c.as_slice.ensures.value) ∙ c.in_ok-image.ensures.accepted;
    } in
    let refused = subst (λ t. RefusesContent t Input (option_map (λ n. n.now) c.args.command.now.input) (g.S.Store.failures c.fetch.new.store) (g.S.Store.failures c.fetch_named.new.store) (g.S.Store.calls c.fetch.new.store) (g.S.Store.calls c.fetch_named.new.store) c.in_err-input.field-0.0) c.fetch.ensures.told c.in_err-input.ensures.refused in
    let cause = content_cause (g.S.Store.told c.args.store.now) (to_run (run_by c.args.command.now)) (g.S.Store.calls c.args.store.now) (g.S.Store.calls c.fetch.new.store) (g.S.Store.calls c.fetch_named.new.store) Input accepted c.in_ok-file.ensures.asks (g.S.Store.failures c.args.store.now) (g.S.Store.failures c.fetch.new.store) (g.S.Store.failures c.fetch_named.new.store) c.fetch.ensures.failures c.in_err-input.field-0.0 refused in
    search (cause.1, rules)

pub returns-in_err-list-clause-refused : goal.returns-in_err-list-clause-refused
returns-in_err-list-clause-refused g c =
    let accepted : IsAccepted (g.S.Store.told c.args.store.now) (to_run (run_by c.args.command.now)) = record {
      executable = c.in_ok-file.file.items;
      executable_is = (c.in_ok-file.ensures.content, c.in_ok-file.ensures.short);
      accepted = ap bad_code (sym c.as_slice.ensures.value) ∙ c.in_ok-image.ensures.accepted;
    } in
    let input : HasInput (g.S.Store.told c.args.store.now) (to_run (run_by c.args.command.now)) = record {
      input = c.in_ok-input.input.items;
      input_is = subst (λ t. IsContent t Input (option_map (λ n. n.now) c.args.command.now.input) c.in_ok-input.input.items) c.fetch.ensures.told c.in_ok-input.ensures.content;
    } in
    let told = c.fetch_named.ensures.told ∙ c.fetch.ensures.told in
    let before = both_asked (to_run (run_by c.args.command.now)) (g.S.Store.calls c.args.store.now) (g.S.Store.calls c.fetch.new.store) (g.S.Store.calls c.fetch_named.new.store) c.in_ok-file.ensures.asks c.in_ok-input.ensures.asks in
    let refused = subst (λ t. RefusesContent t Faults (option_map (λ n. n.now) c.args.command.now.faults) (g.S.Store.failures c.fetch_named.new.store) (g.S.Store.failures c.fetch_named-2.new.store) (g.S.Store.calls c.fetch_named.new.store) (g.S.Store.calls c.fetch_named-2.new.store) c.in_err-list.field-0.0) told c.in_err-list.ensures.refused in
    let later = c.fetch.ensures.failures in
    let more = c.fetch_named.ensures.failures in
    let cause = content_cause (g.S.Store.told c.args.store.now) (to_run (run_by c.args.command.now)) (g.S.Store.calls c.args.store.now) (g.S.Store.calls c.fetch_named.new.store) (g.S.Store.calls c.fetch_named-2.new.store) Faults (accepted, input) before (g.S.Store.failures c.args.store.now) (g.S.Store.failures c.fetch_named.new.store) (g.S.Store.failures c.fetch_named-2.new.store) (omega (arith, later, more)) c.in_err-list.field-0.0 refused in
    search (cause.0, rules)

pub returns-in_err-list-clause-stops : goal.returns-in_err-list-clause-stops
returns-in_err-list-clause-stops g c =
    let accepted : IsAccepted (g.S.Store.told c.args.store.now) (to_run (run_by c.args.command.now)) = record {
      executable = c.in_ok-file.file.items;
      executable_is = (c.in_ok-file.ensures.content, c.in_ok-file.ensures.short);
      accepted = ap bad_code (sym c.as_slice.ensures.value) ∙ c.in_ok-image.ensures.accepted;
    } in
    let input : HasInput (g.S.Store.told c.args.store.now) (to_run (run_by c.args.command.now)) = record {
      input = c.in_ok-input.input.items;
      input_is = subst (λ t. IsContent t Input (option_map (λ n. n.now) c.args.command.now.input) c.in_ok-input.input.items) c.fetch.ensures.told c.in_ok-input.ensures.content;
    } in
    let told = c.fetch_named.ensures.told ∙ c.fetch.ensures.told in
    let before = both_asked (to_run (run_by c.args.command.now)) (g.S.Store.calls c.args.store.now) (g.S.Store.calls c.fetch.new.store) (g.S.Store.calls c.fetch_named.new.store) c.in_ok-file.ensures.asks c.in_ok-input.ensures.asks in
    let refused = subst (λ t. RefusesContent t Faults (option_map (λ n. n.now) c.args.command.now.faults) (g.S.Store.failures c.fetch_named.new.store) (g.S.Store.failures c.fetch_named-2.new.store) (g.S.Store.calls c.fetch_named.new.store) (g.S.Store.calls c.fetch_named-2.new.store) c.in_err-list.field-0.0) told c.in_err-list.ensures.refused in
    let later = c.fetch.ensures.failures in
    let more = c.fetch_named.ensures.failures in
    let cause = content_cause (g.S.Store.told c.args.store.now) (to_run (run_by c.args.command.now)) (g.S.Store.calls c.args.store.now) (g.S.Store.calls c.fetch_named.new.store) (g.S.Store.calls c.fetch_named-2.new.store) Faults (accepted, input) before (g.S.Store.failures c.args.store.now) (g.S.Store.failures c.fetch_named.new.store) (g.S.Store.failures c.fetch_named-2.new.store) (omega (arith, later, more)) c.in_err-list.field-0.0 refused in
    search (cause.1, rules)

pub returns-in_err-faults-clause-refused : goal.returns-in_err-faults-clause-refused
returns-in_err-faults-clause-refused g c =
    let accepted : IsAccepted (g.S.Store.told c.args.store.now) (to_run (run_by c.args.command.now)) = record {
      executable = c.in_ok-file.file.items;
      executable_is = (c.in_ok-file.ensures.content, c.in_ok-file.ensures.short);
      accepted = ap bad_code (sym c.as_slice.ensures.value) ∙ c.in_ok-image.ensures.accepted;
    } in
    let input : HasInput (g.S.Store.told c.args.store.now) (to_run (run_by c.args.command.now)) = record {
      input = c.in_ok-input.input.items;
      input_is = subst (λ t. IsContent t Input (option_map (λ n. n.now) c.args.command.now.input) c.in_ok-input.input.items) c.fetch.ensures.told c.in_ok-input.ensures.content;
    } in
    let told = c.fetch_named.ensures.told ∙ c.fetch.ensures.told in
    let here = subst (λ t. IsContent t Faults (option_map (λ n. n.now) c.args.command.now.faults) c.as_slice-2.result.now) told (subst (IsContent _ Faults _) (sym c.as_slice-2.ensures.value) c.in_ok-list.ensures.content) in
    let cause = faults_cause (g.S.Store.told c.args.store.now) (to_run (run_by c.args.command.now)) (g.S.Store.failures c.args.store.now) (g.S.Store.failures c.fetch_named-2.new.store) c.as_slice-2.result.now accepted input here c.in_err-faults.field-0.0 c.in_err-faults.ensures.refused in
    search (cause, rules)

pub returns-in_err-faults-clause-stops : goal.returns-in_err-faults-clause-stops
returns-in_err-faults-clause-stops g c =
    let accepted : IsAccepted (g.S.Store.told c.args.store.now) (to_run (run_by c.args.command.now)) = record {
      executable = c.in_ok-file.file.items;
      executable_is = (c.in_ok-file.ensures.content, c.in_ok-file.ensures.short);
      accepted = ap bad_code (sym c.as_slice.ensures.value) ∙ c.in_ok-image.ensures.accepted;
    } in
    let input : HasInput (g.S.Store.told c.args.store.now) (to_run (run_by c.args.command.now)) = record {
      input = c.in_ok-input.input.items;
      input_is = subst (λ t. IsContent t Input (option_map (λ n. n.now) c.args.command.now.input) c.in_ok-input.input.items) c.fetch.ensures.told c.in_ok-input.ensures.content;
    } in
    let before = both_asked (to_run (run_by c.args.command.now)) (g.S.Store.calls c.args.store.now) (g.S.Store.calls c.fetch.new.store) (g.S.Store.calls c.fetch_named.new.store) c.in_ok-file.ensures.asks c.in_ok-input.ensures.asks in
    let to = asks_to (g.S.Store.told c.args.store.now) (to_run (run_by c.args.command.now)) (g.S.Store.calls c.args.store.now) (g.S.Store.calls c.fetch_named.new.store) (g.S.Store.calls c.fetch_named-2.new.store) Faults (accepted, input) before c.in_ok-list.ensures.asks in
    search (list_asks, to, rules)

pub returns-clause-asked : goal.returns-clause-asked
returns-clause-asked g c =
    let accepted : IsAccepted (g.S.Store.told c.args.store.now) (to_run (run_by c.args.command.now)) = record {
      executable = c.in_ok-file.file.items;
      executable_is = (c.in_ok-file.ensures.content, c.in_ok-file.ensures.short);
      accepted = ap bad_code (sym c.as_slice.ensures.value) ∙ c.in_ok-image.ensures.accepted;
    } in
    let input : HasInput (g.S.Store.told c.args.store.now) (to_run (run_by c.args.command.now)) = record {
      input = c.in_ok-input.input.items;
      input_is = subst (λ t. IsContent t Input (option_map (λ n. n.now) c.args.command.now.input) c.in_ok-input.input.items) c.fetch.ensures.told c.in_ok-input.ensures.content;
    } in
    let before = both_asked (to_run (run_by c.args.command.now)) (g.S.Store.calls c.args.store.now) (g.S.Store.calls c.fetch.new.store) (g.S.Store.calls c.fetch_named.new.store) c.in_ok-file.ensures.asks c.in_ok-input.ensures.asks in
    let to = asks_to (g.S.Store.told c.args.store.now) (to_run (run_by c.args.command.now)) (g.S.Store.calls c.args.store.now) (g.S.Store.calls c.fetch_named.new.store) (g.S.Store.calls c.fetch_named-2.new.store) Faults (accepted, input) before c.in_ok-list.ensures.asks in
    to

pub returns-clause-can_run : goal.returns-clause-can_run
returns-clause-can_run g c = can_run _ _ c.as_slice-2.result.now _ _ c.requires.0 c.in_ok-faults.ensures.faults

pub returns-clause-fit : goal.returns-clause-fit
returns-clause-fit g c =
    let here = subst (IsContent _ Faults _) (sym c.as_slice-2.ensures.value) c.in_ok-list.ensures.content in
    is_fit _ (run_by c.args.command.now) c.in_ok-image.image c.in_ok-input.input.items c.as_slice-2.result.now c.in_ok-faults.faults.items c.requires.1 here c.in_ok-faults.ensures.faults

pub returns-clause-job : goal.returns-clause-job
returns-clause-job g c =
    let told = c.fetch_named.ensures.told ∙ c.fetch.ensures.told in
    let read = ap (file_faults c.args.command.now.settings.replicas) (sym c.as_slice-2.ensures.value) ∙ c.in_ok-faults.ensures.faults in
    let image = c.in_ok-image.ensures.image ∙ ap image_of c.as_slice.ensures.value in (
      record {
        executable = c.in_ok-file.file.items;
        executable_is = (c.in_ok-file.ensures.content, c.in_ok-file.ensures.short);
        accepted = ap bad_code (sym c.as_slice.ensures.value) ∙ c.in_ok-image.ensures.accepted;
        input = c.in_ok-input.input.items;
        input_is = subst (λ t. IsContent t Input (option_map (λ n. n.now) c.args.command.now.input) c.in_ok-input.input.items) c.fetch.ensures.told c.in_ok-input.ensures.content;
        list = c.in_ok-list.list.items;
        list_is = subst (λ t. IsContent t Faults (option_map (λ n. n.now) c.args.command.now.faults) c.in_ok-list.list.items) told c.in_ok-list.ensures.content;
        faults = c.in_ok-faults.faults.items;
        faults_are = read;
        job_is = ap (λ i. job_of i c.in_ok-input.input.items c.in_ok-faults.faults.items c.args.command.now.settings) image;
      },
      refl,
    )
