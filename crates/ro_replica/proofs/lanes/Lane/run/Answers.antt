use Rattle.std.proofs.Common.{◌≡◌, ◌≤◌, ℕ, List, Option, length, sym, ap, subst, ◌∙◌}
use Rattle.ro_replica.proofs.Elements.{same_by_places}
use Rattle.ro_replica.proofs.Counted.{instructions_watched}
use Rattle.ro_replica.proofs.Lent.{lane-home, lane-runs}
use Rattle.ro_replica.proofs.lanes.Lane.run.Goals.{After-stop-1}
use Rattle.ro_replica.proofs.lanes.Lane.run.Goals as goal

pub run-count-requires-clause-learnt : goal.run-count-requires-clause-learnt
run-count-requires-clause-learnt c = c.nothing-learnt.ensures _ _ _

-- each page stays at its place
same_numbers : (c : After-stop-1) → c.run-count.new.memory.numbers ≡ c.self.inside.pages.numbers
same_numbers c = same_by_places _ _ (λ i. ap (λ (f : ℕ → Option ℕ). f i) c.run-count.ensures.kept)

pub invariant_of-self : goal.invariant_of-self
invariant_of-self c = (
  instructions_watched _ c.self.inside.watchdog _ c.run-count.result.count _ _ c.self.invariant.0 c.run-count.ensures.run.runs,
  subst (λ (ns : List ℕ). length c.self.inside.moved.items ≤ length ns) (sym (same_numbers c)) c.self.invariant.1,
  c.self.invariant.2,
)

pub returns-clause-numbers : goal.returns-clause-numbers
returns-clause-numbers c = same_numbers c ∙ ap (λ v. v.held.numbers) c.self.view_is

pub returns-clause-runs : goal.returns-clause-runs
returns-clause-runs c = lane-runs _ _ _ _ _ _ _ _ c.self.view_is c.run-count.ensures.run c.run-count.ensures.pages

pub returns-clause-home : goal.returns-clause-home
returns-clause-home c = λ replica thread is. lane-home _ _ _ _ _ _ _ _ c.self.view_is c.run-count.ensures.run c.run-count.ensures.pages thread replica is
