use Rattle.std.proofs.Common.{subst, ◌∙◌, ℕ, ◌≡◌, ◌≤◌, ◌+◌, []}
use Rattle.std.specs.List.{filter}
use Rattle.ro_pages.specs.Held.{has_page, memory_of}
use Rattle.ro_replica.specs.Lent.{LentIn}
use Rattle.ro_replica.specs.Runs.{is_due}
use Rattle.ro_replica.specs.Seen.{ReplicaOf, replica_of}
use Rattle.ro_replica.proofs.boxes.ReplicaBox.lend_pages.Goals as goal

-- src/boxes.rt:219:5
pub returns-clause-lent : goal.returns-clause-lent
returns-clause-lent c = subst (λ (r : ReplicaOf). (count : ℕ) → ((k : ℕ) → k ≤ count → filter (is_due c.args.thread (c.lend_pages.new.lane.thread.done + k)) r.waiting ≡ []) → LentIn (has_page c.lend_pages.new.lane.held.pages) c.args.thread count (memory_of c.lend_pages.new.lane.held.pages) c.lend_pages.new.lane.thread (replica_of r)) (c.deref_mut.ensures.value ∙ c.self.view_is) c.lend_pages.ensures.lent
