use Rattle.std.proofs.Common.{refl, ◌≡◌, ◌+◌, ◌-◌, ◌<◌, ℕ, length, not, None, ◌∙◌, ap, subst, arith}
use Rattle.ro_exec.specs.Next.{Layout}
use Rattle.ro_thread.specs.declared.Thread.{Thread}
use Rattle.ro_replica.specs.Replica.{Replica, stop_of}
use Rattle.ro_replica.specs.Runs.{with_stop}
use Rattle.ro_replica.specs.Rounds.{IsStruck}
use Rattle.ro_replica.specs.Seen.{replica_of, CanCount}
use Rattle.ro_replica.proofs.Elements.{got_changed}
use Rattle.ro_replica.proofs.Loans.{unstopped-there}
use Rattle.ro_replica.proofs.SoFar.{same_again}
use Rattle.ro_replica.proofs.Going.{leads_same, struck_now, countable_struck}
use Rattle.ro_replica.proofs.UnderWay.{begins, goes, ends, smaller, some_not_none}
use Rattle.ro_replica.proofs.replicas.Replica.run.Goals as goal
use Rattle.ro_replica.proofs.replicas.Replica.run.Goals.{then-loop-ran-test+else-is_none, else-loop-ran-test}

pub loop-ran-init : goal.loop-ran-init
loop-ran-init c =
    let all : c.args.quantum ≡ c.args.quantum - 0 = omega arith in
    record {
      program = c.strike-hit.ensures.program;
      threads = c.strike-hit.ensures.threads;
      struck = struck_now c.args.self.now c.strike-hit.new.self c.args.thread _ c.strike-hit.ensures.program.layout c.strike-hit.ensures.struck;
      countable = subst (λ (n : ℕ). CanCount n c.strike-hit.new.self c.args.thread) all (countable_struck c.args.self.now c.strike-hit.new.self c.args.thread _ _ c.strike-hit.ensures.struck c.requires.countable);
      few = c.strike-hit.ensures.few;
      within = omega arith;
      way = begins _ _ _ _ _ _ _ c.strike-hit.ensures.struck;
    }

pub loop-ran-preserved : goal.loop-ran-preserved
loop-ran-preserved c =
    let count = c.loop-ran.ran.count in
    let more = c.go_on-more.result.count in
    let left : (c.args.quantum - count) - more ≡ c.args.quantum - (count + more) = omega arith in
    record {
      program = same_again c.go_on-more.new.self c.loop-ran.self c.args.self.now c.go_on-more.ensures.program c.loop-ran.invariant.program;
      threads = c.go_on-more.ensures.threads ∙ c.loop-ran.invariant.threads;
      struck = c.go_on-more.ensures.struck;
      countable = subst (λ (n : ℕ). CanCount n c.go_on-more.new.self c.args.thread) left c.go_on-more.ensures.countable;
      few = omega arith;
      within = omega arith;
      way = goes _ _ _ _ _ _ _ _ _ _ _ c.loop-ran.ran.stop _ c.loop-ran.invariant.way c.loop-ran-test.true (leads_same c.loop-ran.self c.args.self.now c.args.thread _ _ _ _ _ _ c.loop-ran.invariant.program c.go_on-more.ensures.leads);
    }

pub loop-ran-smaller : goal.loop-ran-smaller
loop-ran-smaller c = smaller _ _ c.args.thread _ _ _ _ _ _ c.loop-ran.ran.stop _ (c.is_none.ensures ∙ ap not c.if-is_none.true) c.loop-ran-test.true c.go_on-more.ensures.leads

pub returns-clause-runs : goal.returns-clause-runs
returns-clause-runs c =
    let stop = c.loop-ran.ran.stop in
    let over : c.loop-ran.ran.count < c.args.quantum → stop ≡ None → ⊥ =
    elim c.loop-ran-test.branch [
      | then-loop-ran-test+else-is_none w ↦ λ early none. some_not_none stop (w.is_none.ensures ∙ ap not w.if-is_none.false) none
      | else-loop-ran-test w ↦ λ early none. omega arith
    ] in
    let struck : IsStruck c.args.self.now.layout (replica_of c.loop-ran.self) c.args.thread =
    subst (λ (l : Layout). IsStruck l (replica_of c.loop-ran.self) c.args.thread) c.loop-ran.invariant.program.layout c.loop-ran.invariant.struck in
    ends _ _ _ _ _ _ _ _ _ _ c.loop-ran.invariant.way struck over c.set_stop.ensures.stop

pub returns-clause-stands : goal.returns-clause-stands
returns-clause-stands c =
    let made : c.args.thread < length c.loop-ran.self.threads =
    let was = unstopped-there c.args.self.now.threads c.args.thread c.requires.going in
    let same = c.loop-ran.invariant.threads in omega arith in
    ap (λ (r : Replica). stop_of r c.args.thread) c.set_stop.ensures.stop
    ∙ got_changed (λ (t : Thread). t.stop) (with_stop c.loop-ran.ran.stop) c.loop-ran.ran.stop (λ t. refl) c.loop-ran.self.threads c.args.thread made
