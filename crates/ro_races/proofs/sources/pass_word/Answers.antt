use Rattle.std.proofs.Common.{rules, ap, ◌∙◌, ℕ, max, Some, []}
use Rattle.std.specs.Prelude.{nat_eq}
use Rattle.std.specs.HashMap.{Updates}
use Rattle.ro_races.specs.Seen.{seen_by}
use Rattle.ro_races.proofs.Rows.{passes-word}
use Rattle.ro_races.proofs.sources.pass_word.Goals as goal

pub returns : goal.returns
returns c rows =
    let updates : Updates nat_eq c.args.words.now c.insert.new.self c.args.word (Some c.join.new.self) = search rules in
    passes-word rows c.args.words.now.entries c.insert.new.self.entries c.args.word c.args.past.now c.join.new.self updates.1 updates.2
    (λ u. c.join.ensures u ∙ ap (λ (n : ℕ). max n (seen_by c.args.past.now u)) (c.known_word-clock.ensures [] u))
