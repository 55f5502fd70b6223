use Rattle.std.proofs.Common.{◌≡◌, map, ◌∙◌, rules}
use Rattle.ro_journal_text.specs.Reading.{free_of, end_of, is_entry, ranged}
use Rattle.ro_journal_text.proofs.Listed.{any_free, any_end}
use Rattle.ro_journal_text.proofs.entries.read_kind.Goals as goal

pub returns-then-eq-5 : goal.returns-then-eq-5
returns-then-eq-5 c =
    let e : c.read_free.result ≡ ranged (is_entry c.args.version) (free_of (map (λ word. word.now) c.args.fields.now)) = c.read_free.ensures ∙ any_free c.args.version (map (λ word. word.now) c.args.fields.now) in
    search (e, rules)

pub returns-then-eq-7 : goal.returns-then-eq-7
returns-then-eq-7 c =
    let e : c.read_end.result ≡ ranged (is_entry c.args.version) (end_of (map (λ word. word.now) c.args.fields.now)) = c.read_end.ensures ∙ any_end c.args.version (map (λ word. word.now) c.args.fields.now) in
    search (e, rules)
