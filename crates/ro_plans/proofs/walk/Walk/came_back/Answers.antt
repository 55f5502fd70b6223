use Rattle.std.proofs.Common.{◌≡◌, ◌+◌, ◌<◌, ℕ, sym, subst, arith, slice_index, ⊎_elim}
use Rattle.ro_plans.specs.First.{Steps, steps_of}
use Rattle.ro_plans.specs.Walks.{IsMade, IsRaised, fresh}
use Rattle.ro_plans.proofs.Times.{times-le-length}
use Rattle.ro_plans.proofs.Runs.{are-within}
use Rattle.ro_plans.proofs.Knowing.{made-few, has-room, knows-lease, none-made}
use Rattle.ro_plans.proofs.walk.Walk.came_back.Goals as goal

pub add-requires-clause-behind : goal.add-requires-clause-behind
add-requires-clause-behind c = made-few c.args.self.now c.args.before.now c.args.lease.replica c.args.lease.thread c.requires c.if-replica-lt-REPLICAS.true c.if-thread-lt-THREADS.true

pub returns-then-thread-lt-THREADS-clause-fresh : goal.returns-then-thread-lt-THREADS-clause-fresh
returns-then-thread-lt-THREADS-clause-fresh c =
    let behind = c.requires.behind c.args.lease.replica c.args.lease.thread c.if-replica-lt-REPLICAS.true c.if-thread-lt-THREADS.true in
    omega (arith, behind, are-within c.args.before.now c.args.lease.replica c.args.lease.thread, c.add.ensures.added, c.from.ensures)

pub returns-then-thread-lt-THREADS-clause-knows : goal.returns-then-thread-lt-THREADS-clause-knows
returns-then-thread-lt-THREADS-clause-knows c fits =
    let walk = c.args.self.now in
    let lease = c.args.lease in
    let steps : Steps = steps_of c.args.before.now in
    let within = are-within c.args.before.now in
    let behind = c.requires.behind lease.replica lease.thread c.if-replica-lt-REPLICAS.true c.if-thread-lt-THREADS.true in
    let result_is : c.add.result ≡ fresh lease c.args.count steps = omega (arith, behind, within lease.replica lease.thread, c.add.ensures.added, c.from.ensures) in
    let room : slice_index walk.most lease.thread + c.add.result < 18446744073709551616 = omega (arith, result_is, has-room walk lease c.args.count steps within c.requires fits c.if-thread-lt-THREADS.true) in
    knows-lease walk c.add.new.self lease c.args.count steps within c.requires fits
    (subst (λ (n : ℕ). IsMade walk.made lease.replica lease.thread n c.add.new.self.made) c.from.ensures (c.add.ensures.made room))
    (subst (λ (n : ℕ). IsRaised walk.most lease.thread n c.add.new.self.most) result_is (c.add.ensures.most room))

pub added_slowly-added-requires : goal.added_slowly-added-requires
added_slowly-added-requires c = omega (arith, c.requires.fits, times-le-length c.args.lease.thread (steps_of c.args.before.now).first)

pub returns-clause-knows : goal.returns-clause-knows
returns-clause-knows c fits =
    let walk = c.args.self.now in
    let lease = c.args.lease in
    let steps : Steps = steps_of c.args.before.now in
    let within = are-within c.args.before.now in
    let result_is = c.added_slowly-added.ensures in
    let raised : IsRaised walk.most lease.thread c.added_slowly-added.result c.raise.new.self.most = c.raise.ensures.most (λ k. omega (arith, result_is, has-room walk lease c.args.count steps within c.requires fits k)) in
    knows-lease walk c.raise.new.self lease c.args.count steps within c.requires fits
    (subst (IsMade walk.made lease.replica lease.thread c.args.count) (sym c.raise.ensures.made) (none-made walk.made lease.replica lease.thread c.args.count (λ a b. ⊎_elim (λ p. omega (arith, p.1, b)) (λ p. omega (arith, p, a)) c.else-replica-lt-REPLICAS.either)))
    (subst (λ (n : ℕ). IsRaised walk.most lease.thread n c.raise.new.self.most) result_is raised)
