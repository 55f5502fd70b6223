use Rattle.std.proofs.Common.{◌≡◌, ◌-◌, ◌+◌, ◌<◌, ◌++◌, ◌∷◌, [], ℕ, suc, ap, ◌∙◌, subst, arith}
use Rattle.ro_lockpage.specs.Hands.{fresh, fresh_hands, first_of, others_of}
use Rattle.ro_lockpage.specs.Seats.{holding}
use Rattle.ro_lockpage.specs.Pages.{fresh_passes, seen_of}
use Rattle.ro_lockpage.specs.declared.seats.View.{View}
use Rattle.ro_lockpage.proofs.pages.LockPage.seated.Goals as goal

-- the hands that are left, while there are more than one
left_hands : (n : ℕ) (v : View) → n < 7 → v ≡ holding (fresh_hands n (8 - n)) → v ≡ holding (fresh_hands n (suc (7 - n)))
left_hands n v less e = let same : 8 - n ≡ suc (7 - n) = omega arith in subst (λ (k : ℕ). v ≡ holding (fresh_hands n k)) same e

pub deal-dealt-requires-clause-view : goal.deal-dealt-requires-clause-view
deal-dealt-requires-clause-view c =
    let n = c.loop-number.number in
    (n, 7 - n, left_hands n c.loop-number.seat.me.0 c.loop-number-test.true (ap (λ m. m.0) c.loop-number.invariant.4))

pub loop-number-preserved : goal.loop-number-preserved
loop-number-preserved c =
    let i = c.loop-number.invariant in
    let n = c.loop-number.number in
    let name = c.args.self.now.name in
    let dealt = c.deal-dealt.ensures in
    let view = left_hands n c.loop-number.seat.me.0 c.loop-number-test.true (ap (λ m. m.0) i.4) in
    let next : suc n ≡ n + 1 = omega arith in
    let fewer : 7 - n ≡ 8 - (n + 1) = omega arith in
    let hand : first_of c.deal-dealt.result.me.0.hands ≡ fresh n = ap (λ m. first_of m.0.hands) dealt.new.1 ∙ ap (λ (v : View). first_of v.hands) view in
    let table = dealt.new.0 ∙ i.3 in
    let rest : c.deal-dealt.new.seat.me.0 ≡ holding (fresh_hands (n + 1) (7 - n)) = dealt.left ∙ ap (λ (v : View). holding (others_of v.hands)) view in (
      c.push_reserved.ensures.items ∙ (λ k. i.0 k ++ seen_of (table k) (hand k) ∷ []) ∙ ap (fresh_passes name) next,
      c.push_reserved.ensures.len ∙ ap (λ (k : ℕ). k + 1) i.1,
      c.push_reserved.ensures.capacity ∙ i.2,
      dealt.seat.0 ∙ i.3,
      (λ k. ((rest ∙ ap (λ (j : ℕ). holding (fresh_hands (n + 1) j)) fewer) k, (dealt.seat.1 ∙ ap (λ m. m.1) i.4) k)),
    )
