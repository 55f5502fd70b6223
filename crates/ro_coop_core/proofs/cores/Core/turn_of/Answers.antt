use Rattle.std.proofs.Common.{◌≡◌, ◌<◌, length, sym, ap, ◌∙◌, arith}
use Rattle.std.specs.Prelude.{if◌then◌else◌}
use Rattle.ro_legal.specs.declared.actions.Action.TheVariants.{Vote, Lend}
use Rattle.std.specs.Prelude.{Some}
use Rattle.ro_legal.specs.Core.{is_lendable}
use Rattle.ro_legal.specs.Action.{lowest_below, map_action}
use Rattle.ro_legal.proofs.Lowest.{lowest-more, lowest-found}
use Rattle.ro_coop_core.specs.Runs.{fields_of, state_of}
use Rattle.ro_coop_core.proofs.Tests.{count-is}
use Rattle.ro_coop_core.proofs.cores.Core.turn_of.Goals as goal

pub is_lendable-requires-clause-replica : goal.is_lendable-requires-clause-replica
is_lendable-requires-clause-replica c = omega (arith, count-is (fields_of c.args.self.now) c.requires.holds, c.loop-replica-test.true)

pub returns-then-is_lendable : goal.returns-then-is_lendable
returns-then-is_lendable c =
    let state = state_of c.args.self.now in
    let lend = map_action (λ replica. Lend replica c.args.thread) (lowest_below (length state.replicas) (λ replica. is_lendable state replica c.args.thread)) in
    let under : c.loop-replica.replica < length state.replicas = omega (arith, count-is (fields_of c.args.self.now) c.requires.holds, c.loop-replica-test.true) in
    sym (ap (λ b. if b then Some (Vote c.args.thread) else lend) (sym c.if-may_vote.ensures)
    ∙ ap (map_action (λ replica. Lend replica c.args.thread)) (lowest-found (λ replica. is_lendable state replica c.args.thread) c.loop-replica.replica (length state.replicas) under c.loop-replica.invariant (sym c.if-is_lendable.ensures)))

pub loop-replica-preserved : goal.loop-replica-preserved
loop-replica-preserved c = lowest-more _ c.loop-replica.replica c.loop-replica.invariant (sym c.if-is_lendable.ensures)

pub returns : goal.returns
returns c =
    let state = state_of c.args.self.now in
    let lend = map_action (λ replica. Lend replica c.args.thread) (lowest_below (length state.replicas) (λ replica. is_lendable state replica c.args.thread)) in
    let at : length state.replicas ≡ c.loop-replica.replica = omega (arith, count-is (fields_of c.args.self.now) c.requires.holds, c.loop-replica.auto.replica-end, c.loop-replica-test.false) in
    sym (ap (λ b. if b then Some (Vote c.args.thread) else lend) (sym c.if-may_vote.ensures)
    ∙ ap (map_action (λ replica. Lend replica c.args.thread)) (ap (λ n. lowest_below n (λ replica. is_lendable state replica c.args.thread)) at ∙ c.loop-replica.invariant))
