use Rattle.std.proofs.Common.{◌+◌, refl, sym, ◌∙◌, subst, arith}
use Rattle.std.proofs.lemmas.Bool.{eq-eqb, ne_eqb}
use Rattle.ro_coop_core.proofs.Limiting.{LoweredBelow, lowered-none, lowered-more, lowered-own, lowered-all, read-parked}
use Rattle.ro_coop_core.proofs.ceilings.give_way.Goals as goal
use Rattle.ro_coop_core.proofs.ceilings.give_way.Goals.{then-other-thread, else-other-thread}

pub loop-other-init : goal.loop-other-init
loop-other-init c = record {
  count = refl;
  lowered = λ core side seat same know there parks each. lowered-none core side c.args.thread c.args.ceilings.now each;
}

pub loop-other-preserved : goal.loop-other-preserved
loop-other-preserved c = record {
  count = c.if-other-thread.auto.ceilings ∙ c.loop-other.invariant.count;
  lowered = λ core side seat same know there parks each.
      let read = read-parked c.args.seats.now c.args.place c.index-seats-place.result seat side c.requires.place c.index-seats-place.is there parks in
      let so_far = c.loop-other.invariant.lowered core side seat same know there parks each in
      elim c.if-other-thread.branch [
        | then-other-thread w ↦ subst (LoweredBelow core side c.args.thread (c.loop-other.other + 1)) (sym w.ceilings-is) (lowered-more core side c.args.thread c.loop-other.other c.loop-other.ceilings w.give_way_to.new.ceilings
            (w.give_way_to.ensures.ceilings core side c.loop-other.other same know (sym (w.parking.ensures ∙ read c.loop-other.other)) (ne_eqb c.loop-other.other c.args.thread w.if-other-thread.true)) so_far)
        | else-other-thread w ↦ subst (LoweredBelow core side c.args.thread (c.loop-other.other + 1)) (sym w.ceilings-is) (lowered-own core side c.args.thread c.loop-other.other c.loop-other.ceilings (eq-eqb c.loop-other.other c.args.thread w.if-other-thread.false) so_far)
      ];
}

pub returns-clause-ceilings : goal.returns-clause-ceilings
returns-clause-ceilings c core side seat same know there parks each =
    lowered-all core side c.args.thread c.loop-other.other c.loop-other.ceilings (omega (arith, c.loop-other-test.false, c.loop-other.auto.other-end)) (c.loop-other.invariant.lowered core side seat same know there parks each)
