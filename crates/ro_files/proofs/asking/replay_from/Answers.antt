use Rattle.std.proofs.Common.{Some, refl, rules, sym, ◌∙◌, ap, subst, arith}
use Rattle.std.specs.Prelude.{option_map}
use Rattle.ro_image.specs.Executable.{bad_code}
use Rattle.ro_io.proofs.Fetches.{asks-none}
use Rattle.ro_report.specs.declared.answers.FileKind.TheVariants.{Exe, Input, Plan}
use Rattle.ro_words.specs.Commands.{plan_by, to_plain}
use Rattle.ro_files.specs.Files.{IsContent}
use Rattle.ro_files.specs.Refusals.{RefusesContent, RefusesFiles}
use Rattle.ro_journal_text.specs.Records.{any_in, file_any}
use Rattle.ro_files.specs.Causes.{IsAccepted, HasInput}
use Rattle.ro_files.proofs.Asked.{asks_to, both_asked, content_cause, exe_asks, other_asks, other_cause, plan_asks}
use Rattle.ro_files.proofs.asking.replay_from.Goals as goal

pub returns-in_err-bytes-clause-stops : goal.returns-in_err-bytes-clause-stops
returns-in_err-bytes-clause-stops g c =
    let cause = content_cause (g.S.Store.told c.args.store.now) (to_plain (plan_by c.args.command.now)) (g.S.Store.calls c.args.store.now) (g.S.Store.calls c.args.store.now) (g.S.Store.calls c.fetch.new.store) Exe tt (asks-none (g.S.Store.calls c.args.store.now)) (g.S.Store.failures c.args.store.now) (g.S.Store.failures c.args.store.now) (g.S.Store.failures c.fetch.new.store) (omega arith) c.in_err-bytes.field-0.0 c.in_err-bytes.ensures.refused in
    search (cause.1, rules)

pub returns-in_err-image-clause-stops : goal.returns-in_err-image-clause-stops
returns-in_err-image-clause-stops g c =
    let to = asks_to (g.S.Store.told c.args.store.now) (to_plain (plan_by c.args.command.now)) (g.S.Store.calls c.args.store.now) (g.S.Store.calls c.args.store.now) (g.S.Store.calls c.fetch.new.store) Exe tt (asks-none (g.S.Store.calls c.args.store.now)) c.in_ok-bytes.ensures.asks in
    search (exe_asks, to, rules)

pub returns-in_err-input-clause-refused : goal.returns-in_err-input-clause-refused
returns-in_err-input-clause-refused g c =
    let accepted : IsAccepted (g.S.Store.told c.args.store.now) (to_plain (plan_by c.args.command.now)) = record {
      executable = c.in_ok-bytes.bytes.items;
      executable_is = (c.in_ok-bytes.ensures.content, c.in_ok-bytes.ensures.short);
      accepted = ap bad_code (sym c.as_slice.ensures.value) ∙ c.in_ok-image.ensures.accepted;
    } in
    let refused = subst (λ t. RefusesContent t Input (option_map (λ n. n.now) c.args.command.now.input) (g.S.Store.failures c.fetch.new.store) (g.S.Store.failures c.fetch_named.new.store) (g.S.Store.calls c.fetch.new.store) (g.S.Store.calls c.fetch_named.new.store) c.in_err-input.field-0.0) c.fetch.ensures.told c.in_err-input.ensures.refused in
    let cause = content_cause (g.S.Store.told c.args.store.now) (to_plain (plan_by c.args.command.now)) (g.S.Store.calls c.args.store.now) (g.S.Store.calls c.fetch.new.store) (g.S.Store.calls c.fetch_named.new.store) Input accepted c.in_ok-bytes.ensures.asks (g.S.Store.failures c.args.store.now) (g.S.Store.failures c.fetch.new.store) (g.S.Store.failures c.fetch_named.new.store) c.fetch.ensures.failures c.in_err-input.field-0.0 refused in
    search (cause.0, rules)

pub returns-in_err-input-clause-stops : goal.returns-in_err-input-clause-stops
returns-in_err-input-clause-stops g c =
    let accepted : IsAccepted (g.S.Store.told c.args.store.now) (to_plain (plan_by c.args.command.now)) = record {
      executable = c.in_ok-bytes.bytes.items;
      executable_is = (c.in_ok-bytes.ensures.content, c.in_ok-bytes.ensures.short);
      accepted = ap bad_code (sym c.as_slice.ensures.value) ∙ c.in_ok-image.ensures.accepted;
    } in
    let refused = subst (λ t. RefusesContent t Input (option_map (λ n. n.now) c.args.command.now.input) (g.S.Store.failures c.fetch.new.store) (g.S.Store.failures c.fetch_named.new.store) (g.S.Store.calls c.fetch.new.store) (g.S.Store.calls c.fetch_named.new.store) c.in_err-input.field-0.0) c.fetch.ensures.told c.in_err-input.ensures.refused in
    let cause = content_cause (g.S.Store.told c.args.store.now) (to_plain (plan_by c.args.command.now)) (g.S.Store.calls c.args.store.now) (g.S.Store.calls c.fetch.new.store) (g.S.Store.calls c.fetch_named.new.store) Input accepted c.in_ok-bytes.ensures.asks (g.S.Store.failures c.args.store.now) (g.S.Store.failures c.fetch.new.store) (g.S.Store.failures c.fetch_named.new.store) c.fetch.ensures.failures c.in_err-input.field-0.0 refused in
    search (cause.1, rules)

pub returns-in_err-text-clause-refused : goal.returns-in_err-text-clause-refused
returns-in_err-text-clause-refused g c =
    let accepted : IsAccepted (g.S.Store.told c.args.store.now) (to_plain (plan_by c.args.command.now)) = record {
      executable = c.in_ok-bytes.bytes.items;
      executable_is = (c.in_ok-bytes.ensures.content, c.in_ok-bytes.ensures.short);
      accepted = ap bad_code (sym c.as_slice.ensures.value) ∙ c.in_ok-image.ensures.accepted;
    } in
    let input : HasInput (g.S.Store.told c.args.store.now) (to_plain (plan_by c.args.command.now)) = record {
      input = c.in_ok-input.input.items;
      input_is = subst (λ t. IsContent t Input (option_map (λ n. n.now) c.args.command.now.input) c.in_ok-input.input.items) c.fetch.ensures.told c.in_ok-input.ensures.content;
    } in
    let told = c.fetch_named.ensures.told ∙ c.fetch.ensures.told in
    let before = both_asked (to_plain (plan_by c.args.command.now)) (g.S.Store.calls c.args.store.now) (g.S.Store.calls c.fetch.new.store) (g.S.Store.calls c.fetch_named.new.store) c.in_ok-bytes.ensures.asks c.in_ok-input.ensures.asks in
    let refused = subst (λ t. RefusesContent t Plan (Some c.args.command.now.plan.now) (g.S.Store.failures c.fetch_named.new.store) (g.S.Store.failures c.fetch-2.new.store) (g.S.Store.calls c.fetch_named.new.store) (g.S.Store.calls c.fetch-2.new.store) c.in_err-text.field-0.0) told c.in_err-text.ensures.refused in
    let later = c.fetch.ensures.failures in
    let more = c.fetch_named.ensures.failures in
    let cause = content_cause (g.S.Store.told c.args.store.now) (to_plain (plan_by c.args.command.now)) (g.S.Store.calls c.args.store.now) (g.S.Store.calls c.fetch_named.new.store) (g.S.Store.calls c.fetch-2.new.store) Plan (accepted, input) before (g.S.Store.failures c.args.store.now) (g.S.Store.failures c.fetch_named.new.store) (g.S.Store.failures c.fetch-2.new.store) (omega (arith, later, more)) c.in_err-text.field-0.0 refused in
    search (cause.0, rules)

pub returns-in_err-text-clause-stops : goal.returns-in_err-text-clause-stops
returns-in_err-text-clause-stops g c =
    let accepted : IsAccepted (g.S.Store.told c.args.store.now) (to_plain (plan_by c.args.command.now)) = record {
      executable = c.in_ok-bytes.bytes.items;
      executable_is = (c.in_ok-bytes.ensures.content, c.in_ok-bytes.ensures.short);
      accepted = ap bad_code (sym c.as_slice.ensures.value) ∙ c.in_ok-image.ensures.accepted;
    } in
    let input : HasInput (g.S.Store.told c.args.store.now) (to_plain (plan_by c.args.command.now)) = record {
      input = c.in_ok-input.input.items;
      input_is = subst (λ t. IsContent t Input (option_map (λ n. n.now) c.args.command.now.input) c.in_ok-input.input.items) c.fetch.ensures.told c.in_ok-input.ensures.content;
    } in
    let told = c.fetch_named.ensures.told ∙ c.fetch.ensures.told in
    let before = both_asked (to_plain (plan_by c.args.command.now)) (g.S.Store.calls c.args.store.now) (g.S.Store.calls c.fetch.new.store) (g.S.Store.calls c.fetch_named.new.store) c.in_ok-bytes.ensures.asks c.in_ok-input.ensures.asks in
    let refused = subst (λ t. RefusesContent t Plan (Some c.args.command.now.plan.now) (g.S.Store.failures c.fetch_named.new.store) (g.S.Store.failures c.fetch-2.new.store) (g.S.Store.calls c.fetch_named.new.store) (g.S.Store.calls c.fetch-2.new.store) c.in_err-text.field-0.0) told c.in_err-text.ensures.refused in
    let later = c.fetch.ensures.failures in
    let more = c.fetch_named.ensures.failures in
    let cause = content_cause (g.S.Store.told c.args.store.now) (to_plain (plan_by c.args.command.now)) (g.S.Store.calls c.args.store.now) (g.S.Store.calls c.fetch_named.new.store) (g.S.Store.calls c.fetch-2.new.store) Plan (accepted, input) before (g.S.Store.failures c.args.store.now) (g.S.Store.failures c.fetch_named.new.store) (g.S.Store.failures c.fetch-2.new.store) (omega (arith, later, more)) c.in_err-text.field-0.0 refused in
    search (cause.1, rules)

pub returns-in_err-journal-clause-stops : goal.returns-in_err-journal-clause-stops
returns-in_err-journal-clause-stops g c =
    let accepted : IsAccepted (g.S.Store.told c.args.store.now) (to_plain (plan_by c.args.command.now)) = record {
      executable = c.in_ok-bytes.bytes.items;
      executable_is = (c.in_ok-bytes.ensures.content, c.in_ok-bytes.ensures.short);
      accepted = ap bad_code (sym c.as_slice.ensures.value) ∙ c.in_ok-image.ensures.accepted;
    } in
    let input : HasInput (g.S.Store.told c.args.store.now) (to_plain (plan_by c.args.command.now)) = record {
      input = c.in_ok-input.input.items;
      input_is = subst (λ t. IsContent t Input (option_map (λ n. n.now) c.args.command.now.input) c.in_ok-input.input.items) c.fetch.ensures.told c.in_ok-input.ensures.content;
    } in
    let before = both_asked (to_plain (plan_by c.args.command.now)) (g.S.Store.calls c.args.store.now) (g.S.Store.calls c.fetch.new.store) (g.S.Store.calls c.fetch_named.new.store) c.in_ok-bytes.ensures.asks c.in_ok-input.ensures.asks in
    let to = asks_to (g.S.Store.told c.args.store.now) (to_plain (plan_by c.args.command.now)) (g.S.Store.calls c.args.store.now) (g.S.Store.calls c.fetch_named.new.store) (g.S.Store.calls c.fetch-2.new.store) Plan (accepted, input) before c.in_ok-text.ensures.asks in
    search (plan_asks, to, rules)

pub returns-clause-asked : goal.returns-clause-asked
returns-clause-asked g c =
    let accepted : IsAccepted (g.S.Store.told c.args.store.now) (to_plain (plan_by c.args.command.now)) = record {
      executable = c.in_ok-bytes.bytes.items;
      executable_is = (c.in_ok-bytes.ensures.content, c.in_ok-bytes.ensures.short);
      accepted = ap bad_code (sym c.as_slice.ensures.value) ∙ c.in_ok-image.ensures.accepted;
    } in
    let input : HasInput (g.S.Store.told c.args.store.now) (to_plain (plan_by c.args.command.now)) = record {
      input = c.in_ok-input.input.items;
      input_is = subst (λ t. IsContent t Input (option_map (λ n. n.now) c.args.command.now.input) c.in_ok-input.input.items) c.fetch.ensures.told c.in_ok-input.ensures.content;
    } in
    let before = both_asked (to_plain (plan_by c.args.command.now)) (g.S.Store.calls c.args.store.now) (g.S.Store.calls c.fetch.new.store) (g.S.Store.calls c.fetch_named.new.store) c.in_ok-bytes.ensures.asks c.in_ok-input.ensures.asks in
    let to = asks_to (g.S.Store.told c.args.store.now) (to_plain (plan_by c.args.command.now)) (g.S.Store.calls c.args.store.now) (g.S.Store.calls c.fetch_named.new.store) (g.S.Store.calls c.fetch-2.new.store) Plan (accepted, input) before c.in_ok-text.ensures.asks in
    to

pub returns-in_err-same_files-clause-refused : goal.returns-in_err-same_files-clause-refused
returns-in_err-same_files-clause-refused g c =
    let accepted : IsAccepted (g.S.Store.told c.args.store.now) (to_plain (plan_by c.args.command.now)) = record {
      executable = c.in_ok-bytes.bytes.items;
      executable_is = (c.in_ok-bytes.ensures.content, c.in_ok-bytes.ensures.short);
      accepted = ap bad_code (sym c.as_slice.ensures.value) ∙ c.in_ok-image.ensures.accepted;
    } in
    let input : HasInput (g.S.Store.told c.args.store.now) (to_plain (plan_by c.args.command.now)) = record {
      input = c.in_ok-input.input.items;
      input_is = subst (λ t. IsContent t Input (option_map (λ n. n.now) c.args.command.now.input) c.in_ok-input.input.items) c.fetch.ensures.told c.in_ok-input.ensures.content;
    } in
    let told = c.fetch_named.ensures.told ∙ c.fetch.ensures.told in
    let file = subst (λ t. IsContent t Plan (Some c.args.command.now.plan.now) c.in_ok-text.text.items) told (c.in_ok-text.ensures.content, c.in_ok-text.ensures.short) in
    let journal = any_in c.in_ok-journal.journal in
    let read = ap file_any (sym c.as_slice-2.ensures.value) ∙ c.in_ok-journal.ensures.journal in
    let answer = c.in_err-same_files.field-0.0 in
    let refused = subst (λ e. RefusesFiles journal.recorded e c.in_ok-input.input.items answer) c.as_slice-3.ensures.value
    (subst (λ i. RefusesFiles journal.recorded c.as_slice-3.result.now i answer) c.as_slice-4.ensures.value c.in_err-same_files.ensures.refused) in
    let cause = other_cause (g.S.Store.told c.args.store.now) (to_plain (plan_by c.args.command.now)) (g.S.Store.failures c.args.store.now) (g.S.Store.failures c.fetch-2.new.store) c.in_ok-text.text.items accepted input
    c.args.command.now.plan.now refl file.0 file.1 journal read answer refused in
    search (cause, rules)

pub returns-in_err-same_files-clause-stops : goal.returns-in_err-same_files-clause-stops
returns-in_err-same_files-clause-stops g c =
    let accepted : IsAccepted (g.S.Store.told c.args.store.now) (to_plain (plan_by c.args.command.now)) = record {
      executable = c.in_ok-bytes.bytes.items;
      executable_is = (c.in_ok-bytes.ensures.content, c.in_ok-bytes.ensures.short);
      accepted = ap bad_code (sym c.as_slice.ensures.value) ∙ c.in_ok-image.ensures.accepted;
    } in
    let input : HasInput (g.S.Store.told c.args.store.now) (to_plain (plan_by c.args.command.now)) = record {
      input = c.in_ok-input.input.items;
      input_is = subst (λ t. IsContent t Input (option_map (λ n. n.now) c.args.command.now.input) c.in_ok-input.input.items) c.fetch.ensures.told c.in_ok-input.ensures.content;
    } in
    let before = both_asked (to_plain (plan_by c.args.command.now)) (g.S.Store.calls c.args.store.now) (g.S.Store.calls c.fetch.new.store) (g.S.Store.calls c.fetch_named.new.store) c.in_ok-bytes.ensures.asks c.in_ok-input.ensures.asks in
    let to = asks_to (g.S.Store.told c.args.store.now) (to_plain (plan_by c.args.command.now)) (g.S.Store.calls c.args.store.now) (g.S.Store.calls c.fetch_named.new.store) (g.S.Store.calls c.fetch-2.new.store) Plan (accepted, input) before c.in_ok-text.ensures.asks in
    search (other_asks, to, rules)
