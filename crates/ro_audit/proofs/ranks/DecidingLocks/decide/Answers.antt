use Rattle.std.proofs.Common.{◌≡◌, ◌∙◌, sym, subst, List}
use Rattle.std.specs.Prelude.{◌⊎◌, ℕ, Some, true}
use mathlib.Core.Logic.{inl, inr}
use Rattle.ro_peer.specs.declared.locks.Decision.TheVariants.{Asker}
use Rattle.ro_peer.specs.Leases.{KeepsRows}
use Rattle.ro_locking.specs.Asking.{below}
use Rattle.ro_audit.specs.declared.ranks.Rank.{Rank}
use Rattle.ro_audit.specs.Ranks.{rows_in, won_in}
use Rattle.ro_audit.proofs.Rows.{keeps-given, keeps-below, given-below, given-wins}
use Rattle.ro_audit.proofs.ranks.DecidingLocks.decide.Goals as goal

-- src/ranks.rt:124:5
pub returns-in-None-clause-keeps : goal.returns-in-None-clause-keeps
returns-in-None-clause-keeps c =
    keeps-below c.args.self.now.ceilings.now c.args.self.now.ranks c.give.new.self
    (subst (λ (entries : List (Rank × ℕ)). KeepsRows (rows_in c.args.self.now.ranks) (rows_in entries)) (sym c.give.ensures)
    (keeps-given c.args.self.now.ranks (record { number = c.args.number; rank = c.args.rank }) c.args.thread c.give.result))

-- src/ranks.rt:124:5
pub returns-in-None-clause-knows : goal.returns-in-None-clause-knows
returns-in-None-clause-knows c =
    subst (λ (entries : List (Rank × ℕ)). KeepsRows (rows_in c.args.self.now.ranks) (rows_in entries)) (sym c.give.ensures)
    (keeps-given c.args.self.now.ranks (record { number = c.args.number; rank = c.args.rank }) c.args.thread c.give.result)

-- src/ranks.rt:124:5
pub returns-in-None-clause-asker : goal.returns-in-None-clause-asker
returns-in-None-clause-asker c is =
    subst (λ (entries : List (Rank × ℕ)). below c.args.self.now.ceilings.now (rows_in entries) c.args.number c.args.rank ≡ Some c.args.thread) (sym c.give.ensures)
    (given-below c.args.self.now.ceilings.now c.args.self.now.ranks (record { number = c.args.number; rank = c.args.rank }) c.args.thread c.give.result
    (c.decision.ensures.0 is) (c.is_below.ensures.0 c.if-not-is_below.false) (sym c.taker.ensures ∙ c.in-None.is))

-- src/ranks.rt:124:5
pub returns-in-None-clause-wins : goal.returns-in-None-clause-wins
returns-in-None-clause-wins c other at owner won =
    by (given-wins c.args.self.now.ranks (record { number = c.args.number; rank = c.args.rank }) c.args.thread c.give.result other at owner
    (subst (λ (entries : List (Rank × ℕ)). won_in entries other at owner) c.give.ensures won))
  where
    by : won_in c.args.self.now.ranks other at owner ⊎ ((c.give.result ≡ true) × (other ≡ c.args.number) × (at ≡ c.args.rank) × (owner ≡ c.args.thread))
        → won_in c.args.self.now.ranks other at owner ⊎ ((c.decision.result ≡ Asker) × (other ≡ c.args.number) × (at ≡ c.args.rank) × (owner ≡ c.args.thread))
    by (inl was) = inl was
    by (inr (given, number, rank, thread)) = inr (c.decision.ensures.1 given, number, rank, thread)
