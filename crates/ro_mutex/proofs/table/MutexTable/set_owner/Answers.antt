use Rattle.ro_mutex.proofs.Entries.{keeps-with_value_at}
use Rattle.ro_mutex.proofs.table.MutexTable.set_owner.Goals as goal

pub invariant_of-self : goal.invariant_of-self
invariant_of-self c = keeps-with_value_at c.self.inside.owners c.in-Some.place c.args.owner c.self.invariant
