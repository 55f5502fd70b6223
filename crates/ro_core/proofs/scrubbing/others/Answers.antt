use Rattle.std.proofs.Common.{rules, arith, ◌≡◌, ◌≢◌, ◌++◌, ◌∷◌, [], None}
use Rattle.std.specs.Prelude.{slice_index_or}
use Rattle.ro_journal.specs.Losers.{numbers}
use Rattle.ro_core.specs.Seated.{seat_snapshot}
use Rattle.ro_core.proofs.Scrubbed.{next-same, next-other, many-others, few-others, third-other}
use Rattle.ro_core.proofs.scrubbing.others.Goals as goal
use Rattle.ro_core.proofs.scrubbing.others.Goals.{then-not-are_same+in_ok-lost, else-not-are_same}

pub returns-in_err-lost-clause-none : goal.returns-in_err-lost-clause-none
returns-in_err-lost-clause-none c none =
    let other : seat_snapshot c.args.kernel.now.kernel (slice_index_or c.args.seats.now c.loop-number.number None) ≢ seat_snapshot c.args.kernel.now.kernel (slice_index_or c.args.seats.now c.args.won None) = search rules in
    third-other c.args.kernel.now.kernel c.args.seats.now c.args.won c.loop-number.number (numbers c.loop-number.lost) c.loop-number.invariant c.requires.there c.loop-number-test.true other (search rules) c.requires.few

pub returns-then-count-seats-clause-won : goal.returns-then-count-seats-clause-won
returns-then-count-seats-clause-won c below =
    few-others c.args.kernel.now.kernel c.args.seats.now c.args.won c.loop-number.number (numbers c.loop-number.lost) c.loop-number.invariant c.requires.there (omega (arith, c.loop-number-test.false)) (search (rules, arith)) below

pub returns-else-count-seats-clause-none : goal.returns-else-count-seats-clause-none
returns-else-count-seats-clause-none c none =
    many-others c.args.kernel.now.kernel c.args.seats.now c.args.won c.loop-number.number (numbers c.loop-number.lost) c.loop-number.invariant c.requires.there (search (rules, arith))

pub loop-number-preserved : goal.loop-number-preserved
loop-number-preserved c = elim c.if-not-are_same.branch [
  | then-not-are_same+in_ok-lost w ↦
      let other : seat_snapshot c.args.kernel.now.kernel (slice_index_or c.args.seats.now c.loop-number.number None) ≢ seat_snapshot c.args.kernel.now.kernel (slice_index_or c.args.seats.now c.args.won None) = search rules in
      let more : numbers c.if-not-are_same.lost ≡ numbers c.loop-number.lost ++ c.loop-number.number ∷ [] = search rules in
      rw more (next-other c.args.kernel.now.kernel c.args.seats.now c.args.won c.loop-number.number (numbers c.loop-number.lost) c.loop-number.invariant c.loop-number-test.true other)
  | else-not-are_same w ↦
      let same : seat_snapshot c.args.kernel.now.kernel (slice_index_or c.args.seats.now c.loop-number.number None) ≡ seat_snapshot c.args.kernel.now.kernel (slice_index_or c.args.seats.now c.args.won None) = search rules in
      rw (w.lost-is) (next-same c.args.kernel.now.kernel c.args.seats.now c.args.won c.loop-number.number (numbers c.loop-number.lost) c.loop-number.invariant c.loop-number-test.true same)
]
