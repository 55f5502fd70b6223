use Rattle.std.proofs.Common.{◌≡◌, sym, ap, ◌∙◌, arith}
use Rattle.ro_legal.specs.Action.{lowest_below}
use Rattle.ro_legal.proofs.Lowest.{lowest-more, lend-test, lends-none, lends-found, lends-nothing}
use Rattle.ro_core.specs.Runs.{fields_of, state_of}
use Rattle.ro_core.proofs.Tests.{count-is}
use Rattle.ro_core.proofs.cores.Core.lowest_to_lend.Goals as goal

pub lowest_lendable-requires-clause-replica : goal.lowest_lendable-requires-clause-replica
lowest_lendable-requires-clause-replica c = omega (arith, count-is (fields_of c.args.self.now) c.requires.holds, c.loop-replica-test.true)

pub returns-in-Some : goal.returns-in-Some
returns-in-Some c =
    sym (lends-found (state_of c.args.self.now) c.loop-replica.replica c.in-Some.thread (omega (arith, count-is (fields_of c.args.self.now) c.requires.holds, c.loop-replica-test.true)) c.loop-replica.invariant (sym c.lowest_lendable.ensures ∙ c.in-Some.is))

pub loop-replica-preserved : goal.loop-replica-preserved
loop-replica-preserved c = lowest-more _ c.loop-replica.replica c.loop-replica.invariant (lends-none (state_of c.args.self.now) c.loop-replica.replica (sym c.lowest_lendable.ensures ∙ c.in_default.is))

pub returns : goal.returns
returns c =
    let at : c.args.self.now.settings.replicas ≡ c.loop-replica.replica = omega (arith, c.loop-replica.auto.replica-end, c.loop-replica-test.false) in
    sym (lends-nothing (state_of c.args.self.now) c.args.self.now.settings.replicas (sym (count-is (fields_of c.args.self.now) c.requires.holds)) (ap (λ n. lowest_below n (lend-test (state_of c.args.self.now))) at ∙ c.loop-replica.invariant))
