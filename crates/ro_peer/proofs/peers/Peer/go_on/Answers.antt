use Rattle.std.proofs.Common.{◌≡◌, ◌+◌, ◌<◌, ◌≤◌, ◌^◌, Option, Some, IfSome, length, slice_get, sym, ap, ◌∙◌, subst, arith}
use Rattle.ro_event.specs.declared.calls.Call.{Call}
use Rattle.ro_event.specs.declared.stops.Stop.TheVariants.{Calls}
use Rattle.ro_replica.specs.Replica.{Replica}
use Rattle.ro_replica.specs.Seen.{replica_of}
use Rattle.ro_peer.specs.declared.peers.Peer.{Peer as PeerOf}
use Rattle.ro_peer.specs.declared.running.Came.{Came}
use Rattle.ro_peer.specs.Seen.{peer_of}
use Rattle.ro_peer.specs.Leases.{Meets, Wins, met_gets}
use Rattle.ro_peer.specs.Gets.{get_of}
use Rattle.ro_exec.specs.Next.{Layout}
use Rattle.ro_peer.proofs.Steps.{with_replica}
use Rattle.ro_peer.proofs.Parts.{ran_steps, forgotten_is, came_by_quantum, stands_at, came_by_stop, made_there, made_stopped, room_left, meets_same, stands_same, same_twice, came_on, came_either}
use Rattle.ro_peer.proofs.Winning.{wins_on}
use Rattle.ro_peer.proofs.peers.Peer.go_on.Goals as goal

pub returns-in_default-clause-faultless : goal.returns-in_default-clause-faultless
returns-in_default-clause-faultless g c =
    let steps = ran_steps _ _ _ c.args.thread (peer_of c.args.self.now) _ _ _ _ c.run-ran.ensures.runs c.requires.faultless c.requires.going in
    ap (λ (r : Replica). r.waiting) steps.new_is ∙ steps.free

pub returns-in_default-clause-goes : goal.returns-in_default-clause-goes
returns-in_default-clause-goes g c =
    let steps = ran_steps _ _ _ c.args.thread (peer_of c.args.self.now) _ _ _ _ c.run-ran.ensures.runs c.requires.faultless c.requires.going in
    came_by_quantum _ _ _ _ _ _ _ _ _ steps c.in_default.not-Some

pub returns-in_default-own_call-clause-faultless : goal.returns-in_default-own_call-clause-faultless
returns-in_default-own_call-clause-faultless g c =
    let steps = ran_steps _ _ _ c.args.thread (peer_of c.args.self.now) _ _ _ _ c.run-ran.ensures.runs c.requires.faultless c.requires.going in
    ap (λ (r : Replica). r.waiting) steps.new_is ∙ steps.free

pub returns-in_default-own_call-clause-goes : goal.returns-in_default-own_call-clause-goes
returns-in_default-own_call-clause-goes g c =
    let steps = ran_steps _ _ _ c.args.thread (peer_of c.args.self.now) _ _ _ _ c.run-ran.ensures.runs c.requires.faultless c.requires.going in
    came_by_stop _ _ _ _ _ _ _ _ _ c.in-Some.stop steps c.in-Some.is c.in_default-own_call.ensures

pub forget_stop-requires : goal.forget_stop-requires
forget_stop-requires g c =
    let steps = ran_steps _ _ _ c.args.thread (peer_of c.args.self.now) _ _ _ _ c.run-ran.ensures.runs c.requires.faultless c.requires.going in
    made_stopped c.args.thread steps.end (replica_of c.run-ran.new.self) c.run-ran.result.stop steps.going steps.new_is

pub meet-requires-clause-standing : goal.meet-requires-clause-standing
meet-requires-clause-standing g c =
    let steps = ran_steps _ _ _ c.args.thread (peer_of c.args.self.now) _ _ _ _ c.run-ran.ensures.runs c.requires.faultless c.requires.going in
    let forgot : replica_of c.forget_stop.new.self ≡ steps.end = forgotten_is c.args.thread steps.end (replica_of c.run-ran.new.self) (replica_of c.forget_stop.new.self) c.run-ran.result.stop steps.going steps.new_is c.forget_stop.ensures.forgotten in
    let call : Call = c.in-Some-own_call.own.call in
    let stop : c.in-Some.stop ≡ Calls call = let h = c.in-Some-own_call.ensures in h.0 in
    let stands = stands_at _ _ _ _ _ _ _ _ (Calls call) steps (c.in-Some.is ∙ ap Some stop) in
    stands_same c.forget_stop.new.self c.args.self.now.replica c.args.thread steps.end (replica_of c.forget_stop.new.self) (Calls call)
    (same_twice _ c.run-ran.new.self _ c.forget_stop.ensures.program c.run-ran.ensures.program) forgot stands.1

pub meet-requires-clause-thread : goal.meet-requires-clause-thread
meet-requires-clause-thread g c =
    let steps = ran_steps _ _ _ c.args.thread (peer_of c.args.self.now) _ _ _ _ c.run-ran.ensures.runs c.requires.faultless c.requires.going in
    let forgot : replica_of c.forget_stop.new.self ≡ steps.end = forgotten_is c.args.thread steps.end (replica_of c.run-ran.new.self) (replica_of c.forget_stop.new.self) c.run-ran.result.stop steps.going steps.new_is c.forget_stop.ensures.forgotten in
    let there : c.args.thread < length c.forget_stop.new.self.threads = subst (λ (r : Replica). c.args.thread < length r.threads) (sym forgot) (made_there c.args.thread steps.end steps.going) in
    omega (arith, there, c.forget_stop.ensures.few)

pub meet-requires-clause-countable : goal.meet-requires-clause-countable
meet-requires-clause-countable g c =
    let steps = ran_steps _ _ _ c.args.thread (peer_of c.args.self.now) _ _ _ _ c.run-ran.ensures.runs c.requires.faultless c.requires.going in
    let forgot : replica_of c.forget_stop.new.self ≡ steps.end = forgotten_is c.args.thread steps.end (replica_of c.run-ran.new.self) (replica_of c.forget_stop.new.self) c.run-ran.result.stop steps.going steps.new_is c.forget_stop.ensures.forgotten in
    let early : c.run-ran.result.count < c.args.most = (stands_at _ _ _ _ _ _ _ _ c.in-Some.stop steps c.in-Some.is).0 in
    let few : c.run-ran.result.count + 1 ≤ c.args.most = omega arith in
    subst (λ (r : Replica). IfSome (slice_get r.threads c.args.thread) (λ t. t.done + 1 < 2 ^ 128)) (sym forgot)
    (room_left c.args.thread c.run-ran.result.count 1 c.args.most c.args.self.now.replica.threads steps.end.threads steps.done few c.requires.countable)

pub returns-in-None-clause-faultless : goal.returns-in-None-clause-faultless
returns-in-None-clause-faultless g c =
    let steps = ran_steps _ _ _ c.args.thread (peer_of c.args.self.now) _ _ _ _ c.run-ran.ensures.runs c.requires.faultless c.requires.going in
    let forgot : replica_of c.forget_stop.new.self ≡ steps.end = forgotten_is c.args.thread steps.end (replica_of c.run-ran.new.self) (replica_of c.forget_stop.new.self) c.run-ran.result.stop steps.going steps.new_is c.forget_stop.ensures.forgotten in
    c.meet.ensures.waiting ∙ ap (λ (r : Replica). r.waiting) forgot ∙ steps.free

pub returns-in_default-meet-clause-faultless : goal.returns-in_default-meet-clause-faultless
returns-in_default-meet-clause-faultless g c =
    let steps = ran_steps _ _ _ c.args.thread (peer_of c.args.self.now) _ _ _ _ c.run-ran.ensures.runs c.requires.faultless c.requires.going in
    let forgot : replica_of c.forget_stop.new.self ≡ steps.end = forgotten_is c.args.thread steps.end (replica_of c.run-ran.new.self) (replica_of c.forget_stop.new.self) c.run-ran.result.stop steps.going steps.new_is c.forget_stop.ensures.forgotten in
    c.meet.ensures.waiting ∙ ap (λ (r : Replica). r.waiting) forgot ∙ steps.free

pub returns-in-None-clause-goes : goal.returns-in-None-clause-goes
returns-in-None-clause-goes g c =
    let steps = ran_steps _ _ _ c.args.thread (peer_of c.args.self.now) _ _ _ _ c.run-ran.ensures.runs c.requires.faultless c.requires.going in
    let forgot : replica_of c.forget_stop.new.self ≡ steps.end = forgotten_is c.args.thread steps.end (replica_of c.run-ran.new.self) (replica_of c.forget_stop.new.self) c.run-ran.result.stop steps.going steps.new_is c.forget_stop.ensures.forgotten in
    let mid : PeerOf = record c.args.self.now { replica = c.forget_stop.new.self } in
    let same = same_twice c.forget_stop.new.self c.run-ran.new.self c.args.self.now.replica c.forget_stop.ensures.program c.run-ran.ensures.program in
    let meets = meets_same c.forget_stop.new.self c.args.self.now.replica c.args.thread (g.L.Locks.rows c.meet.new.locks) (peer_of mid) (peer_of c.meet.new.self) c.meet.result same c.meet.ensures.meets in
    came_on _ _ _ c.args.thread (g.L.Locks.rows c.meet.new.locks) (peer_of c.args.self.now) (peer_of mid) (peer_of c.meet.new.self) (replica_of c.run-ran.new.self) _ _ c.in-Some.stop steps c.in-Some.is (ap (with_replica (peer_of c.args.self.now)) forgot)
    (subst (λ (came : Option Came). Meets c.args.self.now.replica.layout c.args.self.now.replica.watchdog c.args.thread (g.L.Locks.rows c.meet.new.locks) (peer_of mid) (peer_of c.meet.new.self) came) c.in-None.is meets)

pub returns-in_default-meet-clause-goes : goal.returns-in_default-meet-clause-goes
returns-in_default-meet-clause-goes g c =
    let steps = ran_steps _ _ _ c.args.thread (peer_of c.args.self.now) _ _ _ _ c.run-ran.ensures.runs c.requires.faultless c.requires.going in
    let forgot : replica_of c.forget_stop.new.self ≡ steps.end = forgotten_is c.args.thread steps.end (replica_of c.run-ran.new.self) (replica_of c.forget_stop.new.self) c.run-ran.result.stop steps.going steps.new_is c.forget_stop.ensures.forgotten in
    let mid : PeerOf = record c.args.self.now { replica = c.forget_stop.new.self } in
    let same = same_twice c.forget_stop.new.self c.run-ran.new.self c.args.self.now.replica c.forget_stop.ensures.program c.run-ran.ensures.program in
    let meets = meets_same c.forget_stop.new.self c.args.self.now.replica c.args.thread (g.L.Locks.rows c.meet.new.locks) (peer_of mid) (peer_of c.meet.new.self) c.meet.result same c.meet.ensures.meets in
    came_either _ _ _ c.args.thread (g.L.Locks.rows c.meet.new.locks) (peer_of c.args.self.now) (peer_of mid) (peer_of c.meet.new.self) (replica_of c.run-ran.new.self) _ _ c.in-Some.stop c.meet.result steps c.in-Some.is (ap (with_replica (peer_of c.args.self.now)) forgot)
    c.in_default-meet.not-None meets

pub returns-in-None-clause-wins : goal.returns-in-None-clause-wins
returns-in-None-clause-wins g c =
    let steps = ran_steps _ _ _ c.args.thread (peer_of c.args.self.now) _ _ _ _ c.run-ran.ensures.runs c.requires.faultless c.requires.going in
    let forgot : replica_of c.forget_stop.new.self ≡ steps.end =
    forgotten_is c.args.thread steps.end (replica_of c.run-ran.new.self) (replica_of c.forget_stop.new.self) c.run-ran.result.stop steps.going steps.new_is c.forget_stop.ensures.forgotten in
    let old = c.args.self.now in
    let mid : PeerOf = record old { replica = c.forget_stop.new.self } in
    let rows = g.L.Locks.rows c.meet.new.locks in
    let before = g.L.Locks.won c.args.locks.now in
    let after = g.L.Locks.won c.meet.new.locks in
    let same = same_twice c.forget_stop.new.self c.run-ran.new.self old.replica c.forget_stop.ensures.program c.run-ran.ensures.program in
    let meets = meets_same c.forget_stop.new.self old.replica c.args.thread rows (peer_of mid) (peer_of c.meet.new.self) c.meet.result same c.meet.ensures.meets in
    let wins = subst (λ (l : Layout). Wins before after old.mutexes (met_gets c.meet.result (get_of l (peer_of mid) c.args.thread))) same.layout c.meet.ensures.wins in
    wins_on old.replica.layout old.replica.watchdog c.args.most c.args.thread rows (peer_of old) (peer_of mid) (peer_of c.meet.new.self) (replica_of c.run-ran.new.self) c.run-ran.result.count c.run-ran.result.stop steps before after
    (ap (with_replica (peer_of old)) forgot)
    (subst (λ (came : Option Came). Meets old.replica.layout old.replica.watchdog c.args.thread rows (peer_of mid) (peer_of c.meet.new.self) came) c.in-None.is meets)
    (subst (λ (came : Option Came). Wins before after old.mutexes (met_gets came (get_of old.replica.layout (peer_of mid) c.args.thread))) c.in-None.is wins)
