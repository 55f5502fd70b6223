use Rattle.ro_peer.proofs.Indexing.{changed_keeps, changed_values}
use Rattle.ro_peer.proofs.mutexes.Mutexes.change.Goals as goal

pub invariant_of-self : goal.invariant_of-self
invariant_of-self c = changed_keeps c.self.inside.mutexes c.args.number c.index_mut.result.now c.change_mutex.new.mutex c.args.change c.index_mut.ensures.value c.change_mutex.ensures c.self.invariant

pub returns : goal.returns
returns c = changed_values c.self.inside.mutexes c.args.self.now c.args.number c.index_mut.result.now c.change_mutex.new.mutex c.args.change c.self.view_is c.index_mut.ensures.value c.change_mutex.ensures
