use Rattle.std.proofs.Common.{Some, ap, sym}
use Rattle.ro_event.proofs.Numbered.{none-beyond}
use Rattle.ro_journal_text.specs.Reading.{trapped_by, is_how, ranged}
use Rattle.ro_journal_text.proofs.words.read_cause.Goals as goal

pub returns-in_default-clause-read : goal.returns-in_default-clause-read
returns-in_default-clause-read c = sym (ap (λ found. ranged is_how (Some (trapped_by found))) (none-beyond _ c.in_default.ensures.none))
