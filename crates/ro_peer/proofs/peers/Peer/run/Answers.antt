use Rattle.std.proofs.Common.{◌+◌, ◌-◌, ◌≤◌, ◌∙◌, subst, arith}
use Rattle.ro_orders.specs.Copies.{Rows}
use Rattle.ro_peer.specs.Gets.{asker}
use Rattle.ro_peer.specs.Seen.{peer_of}
use Rattle.ro_peer.specs.Leases.{GoesOn}
use Rattle.ro_peer.proofs.Parts.{room_left, same_twice}
use Rattle.ro_peer.proofs.Steps.{run_kept}
use Rattle.ro_peer.proofs.Joining.{keeps_both, under_way_more, under_way_ends, goes_same}
use Rattle.ro_peer.proofs.Winning.{wins_joined, wins_same}
use Rattle.ro_peer.proofs.peers.Peer.run.Goals as goal

pub parts-preserved : goal.parts-preserved
parts-preserved g c =
    let count = c.parts.count in
    let more = c.go_on-went.result.count in
    let old = c.args.self.now.replica in
    let rows : Rows = g.L.Locks.rows c.go_on-went.new.locks in
    let goes = subst (GoesOn old.layout old.watchdog (c.args.quantum - count) c.args.thread rows (peer_of c.parts.self) (peer_of c.go_on-went.new.self) more) c.in_default.is
    (goes_same c.parts.self.replica old (c.args.quantum - count) c.args.thread rows (peer_of c.parts.self) (peer_of c.go_on-went.new.self) more c.go_on-went.result.came c.parts.invariant.program c.go_on-went.ensures.goes) in
    let few : more ≤ c.args.quantum - count = goes.2 in
    let before : count ≤ c.args.quantum = c.parts.invariant.within in
    let all : (count + more) + (c.args.quantum - (count + more)) ≤ c.args.quantum = omega arith in
    let way = under_way_more _ _ c.args.thread count more _ rows (peer_of c.args.self.now) (peer_of c.parts.self) (peer_of c.go_on-went.new.self) c.parts.invariant.way c.go_on-went.ensures.keeps goes.0 in
    let wins =
    wins_joined _ _ c.args.thread count more _ (peer_of c.args.self.now) (peer_of c.parts.self) (g.L.Locks.won c.args.locks.now) (g.L.Locks.won c.parts.locks) (g.L.Locks.won c.go_on-went.new.locks) c.parts.invariant.way c.parts.invariant.wins
    (wins_same c.parts.self.replica old c.args.thread more (peer_of c.parts.self) (g.L.Locks.won c.parts.locks) (g.L.Locks.won c.go_on-went.new.locks) c.parts.invariant.program c.go_on-went.ensures.wins) in
    let kept = run_kept _ (asker c.args.thread) _ (count + more) (peer_of c.args.self.now) (peer_of c.go_on-went.new.self) c.args.thread way.runs in
    record {
      within = omega arith;
      program = same_twice c.go_on-went.new.self.replica c.parts.self.replica old c.go_on-went.ensures.program c.parts.invariant.program;
      faultless = c.go_on-went.ensures.faultless;
      countable = room_left c.args.thread (count + more) (c.args.quantum - (count + more)) c.args.quantum old.threads c.go_on-went.new.self.replica.threads kept.done all c.requires.countable;
      keeps = keeps_both (g.L.Locks.rows c.args.locks.now) (g.L.Locks.rows c.parts.locks) rows c.parts.invariant.keeps c.go_on-went.ensures.keeps;
      knows = keeps_both (g.L.Locks.known c.args.locks.now) (g.L.Locks.known c.parts.locks) (g.L.Locks.known c.go_on-went.new.locks) c.parts.invariant.knows c.go_on-went.ensures.knows;
      stays = c.go_on-went.ensures.stays ∙ c.parts.invariant.stays;
      wins = wins;
      way = way;
    }

pub returns-in-Some-clause-runs : goal.returns-in-Some-clause-runs
returns-in-Some-clause-runs g c =
    let count = c.parts.count in
    let more = c.go_on-went.result.count in
    let old = c.args.self.now.replica in
    let rows : Rows = g.L.Locks.rows c.go_on-went.new.locks in
    let goes = subst (GoesOn old.layout old.watchdog (c.args.quantum - count) c.args.thread rows (peer_of c.parts.self) (peer_of c.go_on-went.new.self) more) c.in-Some.is
    (goes_same c.parts.self.replica old (c.args.quantum - count) c.args.thread rows (peer_of c.parts.self) (peer_of c.go_on-went.new.self) more c.go_on-went.result.came c.parts.invariant.program c.go_on-went.ensures.goes) in
    under_way_ends _ _ c.args.quantum c.args.thread count more _ rows (peer_of c.args.self.now) (peer_of c.parts.self) (peer_of c.go_on-went.new.self) c.in-Some.came c.parts.invariant.way c.parts.invariant.within c.go_on-went.ensures.keeps goes.0

pub returns-in-Some-clause-wins : goal.returns-in-Some-clause-wins
returns-in-Some-clause-wins g c =
    wins_joined _ _ c.args.thread c.parts.count c.go_on-went.result.count _ (peer_of c.args.self.now) (peer_of c.parts.self) (g.L.Locks.won c.args.locks.now) (g.L.Locks.won c.parts.locks) (g.L.Locks.won c.go_on-went.new.locks) c.parts.invariant.way c.parts.invariant.wins
    (wins_same c.parts.self.replica c.args.self.now.replica c.args.thread c.go_on-went.result.count (peer_of c.parts.self) (g.L.Locks.won c.parts.locks) (g.L.Locks.won c.go_on-went.new.locks) c.parts.invariant.program c.go_on-went.ensures.wins)
