use Rattle.std.proofs.Common.{ap, sym, ◌∙◌}
use Rattle.ro_races.specs.Seen.{known_in}
use Rattle.ro_races.proofs.sources.known_in.Goals as goal

pub returns-in-Word : goal.returns-in-Word
returns-in-Word c u = c.known_word.ensures c.args.rows.now u ∙ ap (λ s. known_in c.args.rows.now c.args.words.now.entries s u) (sym c.in-Word.is)
