use Rattle.ro_peer.proofs.Indexing.{entered}
use Rattle.ro_peer.proofs.mutexes.Mutexes.enter.Goals as goal

pub invariant_of-self : goal.invariant_of-self
invariant_of-self c =
    (entered c.self.inside.mutexes c.insert.new.self c.insert.result c.args.self.now (record { address = c.args.address; owner = c.args.owner; rank = 0 })
    c.self.view_is c.requires.room c.requires.new c.insert.ensures.succeeds c.insert.ensures.entries c.insert.ensures.spare c.self.invariant).0

pub returns : goal.returns
returns c =
    (entered c.self.inside.mutexes c.insert.new.self c.insert.result c.args.self.now (record { address = c.args.address; owner = c.args.owner; rank = 0 })
    c.self.view_is c.requires.room c.requires.new c.insert.ensures.succeeds c.insert.ensures.entries c.insert.ensures.spare c.self.invariant).1
