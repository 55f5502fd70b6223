use Rattle.std.proofs.Common.{◌≡◌, ◌∷◌, sym, ap, ◌∙◌, rules}
use Rattle.ro_journal_text.specs.declared.versions.Version.TheVariants.{Second}
use Rattle.ro_journal_text.specs.Reading.{listed, is_lost, ranged}
use Rattle.ro_journal_text.proofs.Listed.{pair_listed, many_listed}
use Rattle.ro_journal_text.proofs.words.read_several.Goals as goal

pub returns-then-not-is_number-2 : goal.returns-then-not-is_number-2
returns-then-not-is_number-2 c =
    let cut : listed c.args.word.now ≡ c.in-Some.lower.now ∷ listed c.in-Some.rest.now = search rules in
    many_listed c.args.word.now c.in-Some.lower.now c.in-Some.rest.now cut (sym c.if-not-is_number.ensures) (sym c.if-not-are_numbers.ensures) (sym c.if-not-is_number-2.ensures)

pub returns : goal.returns
returns c =
    let cut : listed c.args.word.now ≡ c.in-Some.lower.now ∷ listed c.in-Some.rest.now = search rules in
    c.read_pair.ensures
    ∙ sym (ap (ranged (is_lost Second)) (pair_listed c.args.word.now c.in-Some.lower.now c.in-Some.rest.now cut (sym c.if-not-is_number.ensures) (sym c.if-not-is_number-2.ensures)))
