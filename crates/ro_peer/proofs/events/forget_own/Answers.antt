use Rattle.std.proofs.Common.{◌≡◌, ◌+◌, ◌<◌, ◌≤◌, ℕ, suc, List, length, ap, ◌∙◌, arith}
use Rattle.ro_thread.specs.declared.Thread.{Thread}
use Rattle.ro_replica.specs.Replica.{Replica, changed_at}
use Rattle.ro_replica.specs.Seen.{replica_of}
use Rattle.ro_peer.specs.Events.{without_own}
use Rattle.ro_peer.proofs.Forgetting.{changed_to, changed_more, changed_all, changed_to_length}
use Rattle.ro_peer.proofs.Parts.{same_twice}
use Rattle.ro_peer.proofs.events.forget_own.Goals as goal

pub forget_own_of-requires : goal.forget_own_of-requires
forget_own_of-requires c =
    let threads : List Thread = c.args.replica.now.threads in
    let same : length c.loop-thread.replica.threads ≡ length threads = ap (λ (r : Replica). length r.threads) c.loop-thread.invariant.forgotten ∙ changed_to_length (without_own c.args.mutexes.now) c.loop-thread.thread threads in
    let below : c.loop-thread.thread < c.thread_count-thread-end.result = c.loop-thread-test.true in
    let count : c.thread_count-thread-end.result ≡ length threads = c.thread_count-thread-end.ensures in
    omega arith

pub loop-thread-preserved : goal.loop-thread-preserved
loop-thread-preserved c =
    let replica : Replica = replica_of c.args.replica.now in
    let n : ℕ = c.loop-thread.thread in
    let one : suc n ≡ n + 1 = omega arith in
    record {
      program = same_twice c.forget_own_of.new.replica c.loop-thread.replica c.args.replica.now c.forget_own_of.ensures.program c.loop-thread.invariant.program;
      forgotten = c.forget_own_of.ensures.forgotten
          ∙ ap (λ (r : Replica). record r { threads = changed_at (without_own c.args.mutexes.now) r.threads n }) c.loop-thread.invariant.forgotten
          ∙ ap (λ (ts : List Thread). record replica { threads = ts }) (changed_more (without_own c.args.mutexes.now) n replica.threads)
          ∙ ap (λ (k : ℕ). record replica { threads = changed_to (without_own c.args.mutexes.now) k replica.threads }) one;
    }

pub returns-clause-forgotten : goal.returns-clause-forgotten
returns-clause-forgotten c =
    let replica : Replica = replica_of c.args.replica.now in
    let past : c.thread_count-thread-end.result ≤ c.loop-thread.thread = c.loop-thread-test.false in
    let within : c.loop-thread.thread ≤ c.thread_count-thread-end.result = c.loop-thread.auto.thread-end in
    let count : c.thread_count-thread-end.result ≡ length replica.threads = c.thread_count-thread-end.ensures in
    let all : c.loop-thread.thread ≡ length replica.threads = omega arith in
    c.loop-thread.invariant.forgotten
    ∙ ap (λ (k : ℕ). record replica { threads = changed_to (without_own c.args.mutexes.now) k replica.threads }) all
    ∙ ap (λ (ts : List Thread). record replica { threads = ts }) (changed_all (without_own c.args.mutexes.now) replica.threads)
