use Rattle.std.proofs.Common.{◌∙◌, ap, List}
use Rattle.std.specs.Prelude.{ℕ}
use Rattle.ro_audit.specs.declared.ranks.Rank.{Rank}
use Rattle.ro_audit.specs.Ranks.{rows_in}
use Rattle.ro_audit.proofs.Rows.{lookup-rows}
use Rattle.ro_audit.proofs.ranks.Ranks.taker.Goals as goal

-- src/ranks.rt:57:5
pub returns : goal.returns
returns c =
    c.copied.ensures
    ∙ c.get.ensures.value
    ∙ lookup-rows c.self.inside.takers.entries c.args.at
    ∙ ap (λ (entries : List (Rank × ℕ)). rows_in entries c.args.at.number c.args.at.rank) c.self.view_is
