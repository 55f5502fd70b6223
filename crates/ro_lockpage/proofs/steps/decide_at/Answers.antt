use Rattle.std.proofs.Common.{◌≢◌, ◌<◌, ◌++◌, ◌∷◌, [], ℕ, true, false, ap, ◌∙◌, subst, arith, eq-eqb, ne_eqb}
use Rattle.ro_lockpage.specs.Ranks.{first_word}
use Rattle.ro_lockpage.specs.Hands.{Hand, first_of}
use Rattle.ro_lockpage.specs.Seats.{Shows, holding, after_exchange}
use Rattle.ro_lockpage.proofs.Tries.{older_end, tried_won, tried_again, still, grown}
use Rattle.ro_lockpage.proofs.steps.decide_at.Goals as goal

pub returns-then-found-was-clause-decided : goal.returns-then-found-was-clause-decided
returns-then-found-was-clause-decided c =
    let i = c.loop-found.invariant in
    let h = first_of c.args.seat.now.me.0.hands in
    let bid = c.args.bid in
    let was = c.loop-found.found in
    let found = c.exchange_at-found.result in
    let less : was < first_word bid.rank = subst (λ (x : ℕ). was < x) c.first_of_rank-first.ensures c.loop-found-test.true in
    let hand = ap (λ m. first_of m.0.hands) i.2.2 in (
      i.2.0 ++ was ∷ [],
      older_end bid.rank i.2.0 was i.2.1 less,
      ap (λ m. m.0) c.exchange_at-found.ensures.seat.1
          ∙ ap (λ (x : Hand). holding (after_exchange x bid.mutex bid.rank bid.thread was found ∷ [])) hand
          ∙ ap (λ (x : Hand). holding (x ∷ [])) (tried_won h bid.mutex bid.rank bid.thread i.2.0 was found less (eq-eqb found was c.if-found-was.true)),
    )

pub loop-found-smaller : goal.loop-found-smaller
loop-found-smaller c =
    let i = c.loop-found.invariant in
    let h = first_of c.args.seat.now.me.0.hands in
    let bid = c.args.bid in
    let was = c.loop-found.found in
    let found = c.exchange_at-found.result in
    let less : was < first_word bid.rank = subst (λ (x : ℕ). was < x) c.first_of_rank-first.ensures c.loop-found-test.true in
    let hand = ap (λ m. first_of m.0.hands) i.2.2 in
    let grow = grown h bid.mutex bid.rank bid.thread i.2.0 was found less (subst (λ (x : Hand). Shows x bid.mutex bid.rank found) hand c.exchange_at-found.ensures.shows) in
    let other : found ≢ was = c.if-found-was.false in
    omega (arith, less, grow, other)

pub loop-found-preserved : goal.loop-found-preserved
loop-found-preserved c =
    let i = c.loop-found.invariant in
    let h = first_of c.args.seat.now.me.0.hands in
    let bid = c.args.bid in
    let was = c.loop-found.found in
    let found = c.exchange_at-found.result in
    let less : was < first_word bid.rank = subst (λ (x : ℕ). was < x) c.first_of_rank-first.ensures c.loop-found-test.true in
    let hand = ap (λ m. first_of m.0.hands) i.2.2 in
    let made = c.exchange_at-found.ensures.seat in (
      made.0 ∙ i.0,
      still h bid.mutex bid.rank bid.thread i.2.0 was found less (subst (λ (x : Hand). Shows x bid.mutex bid.rank found) hand c.exchange_at-found.ensures.shows),
      (
        i.2.0 ++ was ∷ [],
        older_end bid.rank i.2.0 was i.2.1 less,
        (λ k. (
          (ap (λ m. m.0) made.1
              ∙ ap (λ (x : Hand). holding (after_exchange x bid.mutex bid.rank bid.thread was found ∷ [])) hand
              ∙ ap (λ (x : Hand). holding (x ∷ [])) (tried_again h bid.mutex bid.rank bid.thread i.2.0 was found less (ne_eqb found was c.if-found-was.false))) k,
          (ap (λ m. m.1) made.1 ∙ ap (λ m. m.1) i.2.2) k,
        )),
      ),
    )
