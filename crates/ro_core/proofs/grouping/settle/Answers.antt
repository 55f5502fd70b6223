use Rattle.std.proofs.Common.{◌≡◌, ◌<◌, ℕ, Some, length, sym, ap, ◌∙◌, subst, arith}
use Rattle.std.proofs.lemmas.Option.{slice_get-get_or}
use Rattle.ro_core.specs.Grouped.{Settles}
use Rattle.ro_core.proofs.Grouped.{seats-none, seats-more}
use Rattle.ro_core.proofs.grouping.settle.Goals as goal

pub loop-replica-init : goal.loop-replica-init
loop-replica-init c = seats-none _ _ _

pub loop-replica-preserved : goal.loop-replica-preserved
loop-replica-preserved c =
    let within : c.loop-replica.replica < length c.args.seats.now = (let many = c.requires.seats in let less = c.loop-replica-test.true in omega arith) in
    seats-more _ c.index-seats-replica.result _ _ _ _ _
    (slice_get-get_or c.args.seats.now c.loop-replica.replica c.index-seats-replica.result within ∙ ap Some (sym c.index-seats-replica.is))
    c.loop-replica.invariant c.settle_seat.ensures

pub returns : goal.returns
returns c =
    let all : c.loop-replica.replica ≡ c.args.replicas = (let most = c.loop-replica.auto.replica-end in let ends = c.loop-replica-test.false in omega arith) in
    subst (λ (n : ℕ). Settles c.args.seats.now n c.args.threads c.args.groups.now c.loop-replica.groups) all c.loop-replica.invariant
