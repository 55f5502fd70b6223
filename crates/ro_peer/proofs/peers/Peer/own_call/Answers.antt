use Rattle.std.proofs.Common.{sym, ◌∙◌}
use Rattle.ro_peer.proofs.Answering.{not_own}
use Rattle.ro_peer.proofs.peers.Peer.own_call.Goals as goal

pub returns-in_default-number : goal.returns-in_default-number
returns-in_default-number c = not_own c.args.self.now.mutexes c.args.stop c.in-Calls.call c.in-Calls.is (sym c.number.ensures.number ∙ c.in_default-number.is)
