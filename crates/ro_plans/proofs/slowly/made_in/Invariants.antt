use Rattle.std.proofs.Common.{◌≡◌, take}
use Rattle.std.specs.List.{sum_by}
use Rattle.ro_plans.specs.Walks.{made_by}
use Rattle.ro_plans.proofs.slowly.made_in.Given as goal

abbrev pub invariant-loop-entry : goal.invariant-loop-entry
invariant-loop-entry l = l.made ≡ sum_by (λ entry. made_by entry l.replica l.thread) (take l.entry-index l.entries)
