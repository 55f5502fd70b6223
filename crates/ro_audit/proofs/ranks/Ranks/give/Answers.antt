use Rattle.std.proofs.Common.{◌≡◌, subst, List, None}
use Rattle.std.specs.Prelude.{ℕ}
use Rattle.ro_audit.specs.declared.ranks.Rank.{Rank}
use Rattle.ro_audit.specs.Ranks.{rows_in, with_taker}
use Rattle.ro_audit.proofs.Rows.{given-entries}
use Rattle.ro_audit.proofs.ranks.Ranks.give.Goals as goal

-- src/ranks.rt:64:5
pub returns : goal.returns
returns c =
    subst (λ (entries : List (Rank × ℕ)). rows_in entries c.args.at.number c.args.at.rank ≡ None → c.insert.new.self.entries ≡ with_taker entries c.args.at c.args.thread c.is_ok.result) c.self.view_is
    (λ none. given-entries c.self.inside.takers.entries c.insert.new.self.entries c.args.at c.args.thread c.insert.result c.is_ok.result c.is_ok.ensures.value none c.insert.ensures.entries c.insert.ensures.err)
    c.requires
