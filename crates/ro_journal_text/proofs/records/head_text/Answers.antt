use Rattle.std.proofs.Common.{◌++◌, codes, refl, ap, ◌∙◌}
use Rattle.ro_settings.specs.Ranges.{replicas_range, drivers_range, watchdog_range, quantum_range, limit_range, scrub_range}
use Rattle.ro_text.specs.Lines.{line_text}
use Rattle.ro_journal_text.specs.Records.{number_words, digest_words, head_lines, record_header}
use Rattle.ro_journal_text.proofs.HeadLines.{joined}
use Rattle.ro_journal_text.proofs.records.head_text.Goals as goal

-- the lines appended one after another
pub returns : goal.returns
returns c =
    let r = c.args.recorded.now in
    c.in_ok-add_digest-3.ensures (codes "faults") refl
    ∙ ap (λ t. (t ++ line_text (digest_words (codes "faults") r.faults))) (c.in_ok-add_digest-2.ensures (codes "input") refl)
    ∙ ap (λ t. ((t ++ line_text (digest_words (codes "input") r.input)) ++ line_text (digest_words (codes "faults") r.faults))) (c.in_ok-add_digest.ensures (codes "exe") refl)
    ∙ ap (λ t. (((t ++ line_text (digest_words (codes "exe") r.exe)) ++ line_text (digest_words (codes "input") r.input)) ++ line_text (digest_words (codes "faults") r.faults))) (c.in_ok-add_number-2.ensures)
    ∙ ap (λ t. ((((t ++ line_text (number_words scrub_range r.settings.scrub)) ++ line_text (digest_words (codes "exe") r.exe)) ++ line_text (digest_words (codes "input") r.input)) ++ line_text (digest_words (codes "faults") r.faults))) (c.in_ok-add_number.ensures)
    ∙ ap (λ t. (((((t ++ line_text (number_words limit_range r.settings.limit)) ++ line_text (number_words scrub_range r.settings.scrub)) ++ line_text (digest_words (codes "exe") r.exe)) ++ line_text (digest_words (codes "input") r.input)) ++ line_text (digest_words (codes "faults") r.faults))) (c.in_ok-add_small_number-4.ensures)
    ∙ ap (λ t. ((((((t ++ line_text (number_words quantum_range r.settings.quantum)) ++ line_text (number_words limit_range r.settings.limit)) ++ line_text (number_words scrub_range r.settings.scrub)) ++ line_text (digest_words (codes "exe") r.exe)) ++ line_text (digest_words (codes "input") r.input)) ++ line_text (digest_words (codes "faults") r.faults))) (c.in_ok-add_small_number-3.ensures)
    ∙ ap (λ t. (((((((t ++ line_text (number_words watchdog_range r.settings.watchdog)) ++ line_text (number_words quantum_range r.settings.quantum)) ++ line_text (number_words limit_range r.settings.limit)) ++ line_text (number_words scrub_range r.settings.scrub)) ++ line_text (digest_words (codes "exe") r.exe)) ++ line_text (digest_words (codes "input") r.input)) ++ line_text (digest_words (codes "faults") r.faults))) (c.in_ok-add_small_number-2.ensures)
    ∙ ap (λ t. ((((((((t ++ line_text (number_words drivers_range r.settings.drivers)) ++ line_text (number_words watchdog_range r.settings.watchdog)) ++ line_text (number_words quantum_range r.settings.quantum)) ++ line_text (number_words limit_range r.settings.limit)) ++ line_text (number_words scrub_range r.settings.scrub)) ++ line_text (digest_words (codes "exe") r.exe)) ++ line_text (digest_words (codes "input") r.input)) ++ line_text (digest_words (codes "faults") r.faults))) (c.in_ok-add_small_number.ensures)
    ∙ ap (λ t. (((((((((t ++ line_text (number_words replicas_range r.settings.replicas)) ++ line_text (number_words drivers_range r.settings.drivers)) ++ line_text (number_words watchdog_range r.settings.watchdog)) ++ line_text (number_words quantum_range r.settings.quantum)) ++ line_text (number_words limit_range r.settings.limit)) ++ line_text (number_words scrub_range r.settings.scrub)) ++ line_text (digest_words (codes "exe") r.exe)) ++ line_text (digest_words (codes "input") r.input)) ++ line_text (digest_words (codes "faults") r.faults))) (c.in_ok-text.ensures.items ∙ c.record_header.ensures)
    ∙ joined (record_header r.settings.mode ++ codes "\n") (head_lines r)
