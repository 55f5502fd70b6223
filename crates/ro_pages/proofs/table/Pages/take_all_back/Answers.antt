use Rattle.std.proofs.Common.{refl, sym, ap, subst, arith, ◌≡◌, ◌+◌, ◌∙◌, ◌∷◌, [], length, length-append}
use Rattle.ro_pages.specs.Held.{Held, has_page, SomeBack}
use Rattle.ro_pages.proofs.Backs.{none-back, one-back, all-back, still-there}
use Rattle.ro_pages.proofs.table.Pages.take_all_back.Goals as goal

pub loop-init : goal.loop-init
loop-init c = record { some = none-back _ _; pages = refl; numbers = refl; spare = refl; room = refl }

pub take_back-requires-clause-low : goal.take_back-requires-clause-low
take_back-requires-clause-low c = λ page there. c.requires.low page (still-there _ _ _ _ page c.loop.invariant.some there)

pub take_back-requires-clause-mine : goal.take_back-requires-clause-mine
take_back-requires-clause-mine c = λ page there.
    ap (λ h. h page) c.loop.invariant.pages ∙ c.requires.mine page (still-there _ _ _ _ page c.loop.invariant.some there)

pub loop-smaller : goal.loop-smaller
loop-smaller c =
    let went = c.take_back.ensures.some c.loop-test.true in
    let fewer : length c.loop.few.numbers ≡ length c.take_back.new.few.numbers + 1 = ap length went.2 ∙ length-append c.take_back.new.few.numbers (went.0 ∷ []) in
    omega arith

pub loop-preserved : goal.loop-preserved
loop-preserved c =
    let went = c.take_back.ensures.some c.loop-test.true in
    let fewer : length c.loop.few.numbers ≡ length c.take_back.new.few.numbers + 1 = ap length went.2 ∙ length-append c.take_back.new.few.numbers (went.0 ∷ []) in
    record {
      some = one-back _ _ _ _ _ _ went.0 went.1 c.loop.invariant.some went.3;
      pages = c.take_back.ensures.pages ∙ c.loop.invariant.pages;
      numbers = c.take_back.ensures.numbers ∙ c.loop.invariant.numbers;
      spare = c.take_back.ensures.spare ∙ c.loop.invariant.spare;
      room = omega (arith, fewer, c.take_back.ensures.few_spare c.loop-test.true, c.loop.invariant.room);
    }

pub returns-clause-back : goal.returns-clause-back
returns-clause-back c =
    let stays = c.take_back.ensures.empty c.loop-test.false in
    all-back _ _ _ _ stays.2
    (subst (λ (h : Held). SomeBack c.args.few.now.pages c.loop.few.pages c.args.self.now.pages h.pages) (sym stays.1) c.loop.invariant.some)

pub returns-clause-pages : goal.returns-clause-pages
returns-clause-pages c = c.take_back.ensures.pages ∙ c.loop.invariant.pages

pub returns-clause-numbers : goal.returns-clause-numbers
returns-clause-numbers c = c.take_back.ensures.numbers ∙ c.loop.invariant.numbers

pub returns-clause-spare : goal.returns-clause-spare
returns-clause-spare c = c.take_back.ensures.spare ∙ c.loop.invariant.spare

pub returns-clause-gone : goal.returns-clause-gone
returns-clause-gone c = λ page.
    let stays = c.take_back.ensures.empty c.loop-test.false in
    ap (λ (h : Held). has_page h.pages page) stays.0 ∙ stays.2 page

pub returns-clause-few_spare : goal.returns-clause-few_spare
returns-clause-few_spare c =
    let stays = c.take_back.ensures.empty c.loop-test.false in
    let none : length c.loop.few.numbers ≡ 0 = ap length (c.take_back.ensures.none c.loop-test.false) in
    ap (λ (h : Held). h.spare) stays.0 ∙ omega (arith, none, c.loop.invariant.room)
