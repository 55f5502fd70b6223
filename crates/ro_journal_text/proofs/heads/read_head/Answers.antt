use Rattle.std.proofs.Common.{◌≡◌, Err, rules, ◌∙◌}
use Rattle.ro_text.specs.Lines.{parts_of}
use Rattle.ro_journal_text.specs.Records.{head_of}
use Rattle.ro_journal_text.proofs.heads.read_head.Goals as goal

pub returns-in_err-drivers-clause-refused : goal.returns-in_err-drivers-clause-refused
returns-in_err-drivers-clause-refused c =
    let bad : head_of (parts_of c.args.bytes.now) ≡ Err c.in_err-drivers.field-0.0 = c.in_ok-mode.ensures.read _ ∙ c.in_ok-replicas.ensures.read _ ∙ c.in_err-drivers.ensures.refused _ in
    search (bad, rules)

pub returns-in_err-watchdog-clause-refused : goal.returns-in_err-watchdog-clause-refused
returns-in_err-watchdog-clause-refused c =
    let bad : head_of (parts_of c.args.bytes.now) ≡ Err c.in_err-watchdog.field-0.0 = c.in_ok-mode.ensures.read _ ∙ c.in_ok-replicas.ensures.read _ ∙ c.in_ok-drivers.ensures.read _ ∙ c.in_err-watchdog.ensures.refused _ in
    search (bad, rules)

pub returns-in_err-quantum-clause-refused : goal.returns-in_err-quantum-clause-refused
returns-in_err-quantum-clause-refused c =
    let bad : head_of (parts_of c.args.bytes.now) ≡ Err c.in_err-quantum.field-0.0 = c.in_ok-mode.ensures.read _ ∙ c.in_ok-replicas.ensures.read _ ∙ c.in_ok-drivers.ensures.read _ ∙ c.in_ok-watchdog.ensures.read _ ∙ c.in_err-quantum.ensures.refused _ in
    search (bad, rules)

pub returns-in_err-limit-clause-refused : goal.returns-in_err-limit-clause-refused
returns-in_err-limit-clause-refused c =
    let bad : head_of (parts_of c.args.bytes.now) ≡ Err c.in_err-limit.field-0.0 = c.in_ok-mode.ensures.read _ ∙ c.in_ok-replicas.ensures.read _ ∙ c.in_ok-drivers.ensures.read _ ∙ c.in_ok-watchdog.ensures.read _ ∙ c.in_ok-quantum.ensures.read _ ∙ c.in_err-limit.ensures.refused _ in
    search (bad, rules)

pub returns-in_err-scrub-clause-refused : goal.returns-in_err-scrub-clause-refused
returns-in_err-scrub-clause-refused c =
    let bad : head_of (parts_of c.args.bytes.now) ≡ Err c.in_err-scrub.field-0.0 = c.in_ok-mode.ensures.read _ ∙ c.in_ok-replicas.ensures.read _ ∙ c.in_ok-drivers.ensures.read _ ∙ c.in_ok-watchdog.ensures.read _ ∙ c.in_ok-quantum.ensures.read _ ∙ c.in_ok-limit.ensures.read _ ∙ c.in_err-scrub.ensures.refused _ in
    search (bad, rules)

pub returns-in_err-exe-clause-refused : goal.returns-in_err-exe-clause-refused
returns-in_err-exe-clause-refused c =
    let bad : head_of (parts_of c.args.bytes.now) ≡ Err c.in_err-exe.field-0.0 = c.in_ok-mode.ensures.read _ ∙ c.in_ok-replicas.ensures.read _ ∙ c.in_ok-drivers.ensures.read _ ∙ c.in_ok-watchdog.ensures.read _ ∙ c.in_ok-quantum.ensures.read _ ∙ c.in_ok-limit.ensures.read _ ∙ c.in_ok-scrub.ensures.read _ ∙ c.in_err-exe.ensures.refused _ in
    search (bad, rules)

pub returns-in_err-input-clause-refused : goal.returns-in_err-input-clause-refused
returns-in_err-input-clause-refused c =
    let bad : head_of (parts_of c.args.bytes.now) ≡ Err c.in_err-input.field-0.0 = c.in_ok-mode.ensures.read _ ∙ c.in_ok-replicas.ensures.read _ ∙ c.in_ok-drivers.ensures.read _ ∙ c.in_ok-watchdog.ensures.read _ ∙ c.in_ok-quantum.ensures.read _ ∙ c.in_ok-limit.ensures.read _ ∙ c.in_ok-scrub.ensures.read _ ∙ c.in_ok-exe.ensures.read _ ∙ c.in_err-input.ensures.refused _ in
    search (bad, rules)

pub returns-in_err-faults-clause-refused : goal.returns-in_err-faults-clause-refused
returns-in_err-faults-clause-refused c =
    let bad : head_of (parts_of c.args.bytes.now) ≡ Err c.in_err-faults.field-0.0 = c.in_ok-mode.ensures.read _ ∙ c.in_ok-replicas.ensures.read _ ∙ c.in_ok-drivers.ensures.read _ ∙ c.in_ok-watchdog.ensures.read _ ∙ c.in_ok-quantum.ensures.read _ ∙ c.in_ok-limit.ensures.read _ ∙ c.in_ok-scrub.ensures.read _ ∙ c.in_ok-exe.ensures.read _ ∙ c.in_ok-input.ensures.read _ ∙ c.in_err-faults.ensures.refused _ in
    search (bad, rules)

pub returns-clause-read : goal.returns-clause-read
returns-clause-read c = c.in_ok-mode.ensures.read _ ∙ c.in_ok-replicas.ensures.read _ ∙ c.in_ok-drivers.ensures.read _ ∙ c.in_ok-watchdog.ensures.read _ ∙ c.in_ok-quantum.ensures.read _ ∙ c.in_ok-limit.ensures.read _ ∙ c.in_ok-scrub.ensures.read _ ∙ c.in_ok-exe.ensures.read _ ∙ c.in_ok-input.ensures.read _ ∙ c.in_ok-faults.ensures.read _
