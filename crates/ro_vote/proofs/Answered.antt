-- What the answer of a vote says.
use Rattle.std.specs.Prelude.{◌≡◌, ◌≢◌, ◌⊎◌, ℕ, zero, suc, ◌+◌, ◌*◌, ◌<◌, ◌≤◌, Bool, true, false, cond, ◌||◌, List, [], ◌∷◌, ◌++◌, length, drop, nat_lt, Some, None, slice_get}
use Rattle.std.specs.List.{count_by}
use Rattle.std.proofs.Common.{refl, sym, ap, ◌∙◌, subst, arith, inl, inr, append-nil, length-append}
use Rattle.std.proofs.lemmas.Bool.{true≢false, eq-eqb, ltb-true, ltb-false, lt-ltb, le-ltb}
use Rattle.std.proofs.lemmas.Option.{slice_get_within}
use Rattle.ro_event.specs.Views.{View, same_view}
use Rattle.ro_event.proofs.Same.{view-true, view-same}
use Rattle.ro_journal.specs.declared.losers.Lost.{Lost}
use Rattle.ro_journal.specs.Losers.{numbers}
use Rattle.ro_vote.specs.Numbers.{is_among}
use Rattle.ro_vote.specs.Verdict.{Won, Split, most_hold, differing_from, verdict_among, verdict_of}
use Rattle.ro_vote.specs.Votes.{NoneIsHeld, ShowsAnother, IsRising, IsWonBy}
use Rattle.ro_vote.proofs.Places.{Outside, look, count-both}
use Rattle.ro_vote.proofs.Verdicts.{WonBy, won-by, split-none, lowest-wins, count-losers, differs-at, loses-at}

-- something is one thing
some-injective : {X : Type 0} {x y : X} → Some x ≡ Some y → x ≡ y
some-injective {x = x} {y = y} e = let f : Some x ≡ Some y = e in cc

-- what is left of a list from one of its places on
drop-at : {X : Type 0} (xs : List X) (place : ℕ) (x : X) → slice_get xs place ≡ Some x → drop place xs ≡ x ∷ drop (suc place) xs
drop-at [] place x there = absurd (let f : None ≡ Some x = there in cc)
drop-at (y ∷ xs) zero x there = ap (λ z. z ∷ xs) (some-injective there)
drop-at (y ∷ xs) (suc place) x there = drop-at xs place x there

-- nothing is left behind its end
drop-end : {X : Type 0} (xs : List X) (place : ℕ) → length xs ≤ place → drop place xs ≡ []
drop-end [] zero past = refl
drop-end [] (suc place) past = refl
drop-end (x ∷ xs) zero past = absurd (omega arith)
drop-end (x ∷ xs) (suc place) past = drop-end xs place (omega arith)

-- ---- the losers of a view

-- most hold a view exactly where fewer than half differ from it
pub most-by-losers : (views : List View) (v : View) → most_hold views v ≡ nat_lt (2 * length (differing_from v 0 views)) (length views)
most-by-losers views v = by (most_hold views v) refl
  where
    by : (b : Bool) → most_hold views v ≡ b → most_hold views v ≡ nat_lt (2 * length (differing_from v 0 views)) (length views)
    by true e =
        let most = ltb-true (length views) (2 * count_by (same_view v) views) e in
        let both = count-both (same_view v) views in let lost = count-losers v 0 views in
        e ∙ sym (lt-ltb (2 * length (differing_from v 0 views)) (length views) (omega arith))
    by false e =
        let few = ltb-false (length views) (2 * count_by (same_view v) views) e in
        let both = count-both (same_view v) views in let lost = count-losers v 0 views in
        e ∙ sym (le-ltb (2 * length (differing_from v 0 views)) (length views) (omega arith))

-- fewer than half differ, and these are all that do
pub losers-found : (views : List View) (v : View) (number : ℕ) (lost : Lost) → numbers lost ++ differing_from v number (drop number views) ≡ differing_from v 0 views → length views ≤ number → 2 * length (numbers lost) < length views
    → Some (numbers lost) ≡ cond (most_hold views v) (Some (differing_from v 0 views)) None
losers-found views v number lost so_far end few =
    let all : numbers lost ≡ differing_from v 0 views = sym (append-nil (numbers lost)) ∙ (ap (λ (xs : List View). numbers lost ++ differing_from v number xs) (sym (drop-end views number end)) ∙ so_far) in
    let most : most_hold views v ≡ true = most-by-losers views v ∙ lt-ltb _ _ (let n = ap {B = ℕ} length all in omega arith) in
    ap (λ (xs : List ℕ). Some xs) all ∙ sym (ap (λ (b : Bool). cond b (Some (differing_from v 0 views)) None) most)

-- half or more differ
pub losers-many : (views : List View) (v : View) (number : ℕ) (lost : Lost) → numbers lost ++ differing_from v number (drop number views) ≡ differing_from v 0 views → length views ≤ 2 * length (numbers lost)
    → None ≡ cond (most_hold views v) (Some (differing_from v 0 views)) None
losers-many views v number lost so_far many =
    let sum = length-append (numbers lost) (differing_from v number (drop number views)) in
    let all = ap {B = ℕ} length so_far in
    let most : most_hold views v ≡ false = most-by-losers views v ∙ le-ltb _ _ (omega arith) in
    sym (ap (λ (b : Bool). cond b (Some (differing_from v 0 views)) None) most)

-- a third differs, of at most five
pub losers-three : (views : List View) (v w : View) (number : ℕ) (lost : Lost) → numbers lost ++ differing_from v number (drop number views) ≡ differing_from v 0 views → slice_get views number ≡ Some w → same_view v w ≡ false
    → length (numbers lost) ≡ 2 → length views ≤ 5 → None ≡ cond (most_hold views v) (Some (differing_from v 0 views)) None
losers-three views v w number lost so_far there differs two five =
    let left : differing_from v number (drop number views) ≡ number ∷ differing_from v (suc number) (drop (suc number) views) =
    ap (differing_from v number) (drop-at views number w there)
    ∙ ap (λ (b : Bool). cond b (differing_from v (suc number) (drop (suc number) views)) (number ∷ differing_from v (suc number) (drop (suc number) views))) differs in
    let one = ap {B = ℕ} length left in
    let sum = length-append (numbers lost) (differing_from v number (drop number views)) in
    let all = ap {B = ℕ} length so_far in
    let most : most_hold views v ≡ false = most-by-losers views v ∙ le-ltb _ _ (omega arith) in
    sym (ap (λ (b : Bool). cond b (Some (differing_from v 0 views)) None) most)

-- ---- the verdict from one view on

-- this view is held by most
pub won-here : (views : List View) (number : ℕ) (v : View) (lost : Lost) → verdict_among views number (drop number views) ≡ verdict_of views → slice_get views number ≡ Some v
    → Some (numbers lost) ≡ cond (most_hold views v) (Some (differing_from v 0 views)) None → Won number (numbers lost) ≡ verdict_of views
won-here views number v lost left there found = by (most_hold views v) refl
  where
    here : verdict_of views ≡ cond (most_hold views v) (Won number (differing_from v 0 views)) (verdict_among views (suc number) (drop (suc number) views))
    here = sym left ∙ ap (verdict_among views number) (drop-at views number v there)

    by : (b : Bool) → most_hold views v ≡ b → Won number (numbers lost) ≡ verdict_of views
    by true e =
        let same : numbers lost ≡ differing_from v 0 views = some-injective (found ∙ ap (λ (b : Bool). cond b (Some (differing_from v 0 views)) None) e) in
        ap (Won number) same ∙ sym (here ∙ ap (λ (b : Bool). cond b (Won number (differing_from v 0 views)) (verdict_among views (suc number) (drop (suc number) views))) e)
    by false e = absurd (let f : Some (numbers lost) ≡ None = found ∙ ap (λ (b : Bool). cond b (Some (differing_from v 0 views)) None) e in cc)

-- this view is not
pub won-later : (views : List View) (number : ℕ) (v : View) → verdict_among views number (drop number views) ≡ verdict_of views → slice_get views number ≡ Some v
    → None ≡ cond (most_hold views v) (Some (differing_from v 0 views)) None → verdict_among views (number + 1) (drop (number + 1) views) ≡ verdict_of views
won-later views number v left there none =
    let next : number + 1 ≡ suc number = omega arith in
    ap (λ (n : ℕ). verdict_among views n (drop n views)) next ∙ by (most_hold views v) refl
  where
    here : verdict_of views ≡ cond (most_hold views v) (Won number (differing_from v 0 views)) (verdict_among views (suc number) (drop (suc number) views))
    here = sym left ∙ ap (verdict_among views number) (drop-at views number v there)

    by : (b : Bool) → most_hold views v ≡ b → verdict_among views (suc number) (drop (suc number) views) ≡ verdict_of views
    by true e = absurd (let f : None ≡ Some (differing_from v 0 views) = none ∙ ap (λ (b : Bool). cond b (Some (differing_from v 0 views)) None) e in cc)
    by false e = sym (here ∙ ap (λ (b : Bool). cond b (Won number (differing_from v 0 views)) (verdict_among views (suc number) (drop (suc number) views))) e)

-- no view is left
pub split-left : (views : List View) (number : ℕ) → verdict_among views number (drop number views) ≡ verdict_of views → length views ≤ number → Split ≡ verdict_of views
split-left views number left end = sym (ap (verdict_among views number) (drop-end views number end)) ∙ left

-- ---- what a verdict says

-- a split vote: no view is held by more than half
pub split-says : (views : List View) → Split ≡ verdict_of views → NoneIsHeld views
split-says views e view = by (look (same_view view) [] views)
  where
    by : Outside (same_view view) [] views 0 ⊎ (count_by (same_view view) views ≤ 0) → 2 * count_by (same_view view) views ≤ length views
    by (inr none) = omega arith
    by (inl o) =
        let same = view-true view o.element o.passes in
        let few : most_hold views view ≡ false = ap (most_hold views) same ∙ split-none views (sym e) o.place o.element o.there in
        ltb-false (length views) (2 * count_by (same_view view) views) few

-- a vote that is won is not split
pub won-not-split : (views : List View) (won : ℕ) (lost : List ℕ) → Won won lost ≡ verdict_of views → NoneIsHeld views → ⊥
won-not-split views won lost e none =
    let w = won-by views won lost (sym e) in
    let few = none w.view in let most = w.most in
    omega arith

-- a number before a rising list
rise : (n : ℕ) (xs : List ℕ) → IsRising xs → ((l : ℕ) → is_among xs l ≡ true → n < l) → IsRising (n ∷ xs)
rise n [] rising above = tt
rise n (m ∷ xs) rising above = (above m (ap (λ (b : Bool). b || is_among xs m) (eq-eqb m m refl)), rising)

-- the losers rise
losers-rise : (v : View) (number : ℕ) (views : List View) → IsRising (differing_from v number views)
losers-rise v number [] = tt
losers-rise v number (w ∷ views) = by (same_view v w) refl (losers-rise v (suc number) views)
  where
    by : (b : Bool) → same_view v w ≡ b → IsRising (differing_from v (suc number) views) → IsRising (cond (same_view v w) (differing_from v (suc number) views) (number ∷ differing_from v (suc number) views))
    by true e h = subst (λ (b : Bool). IsRising (cond b (differing_from v (suc number) views) (number ∷ differing_from v (suc number) views))) (sym e) h
    by false e h =
        subst (λ (b : Bool). IsRising (cond b (differing_from v (suc number) views) (number ∷ differing_from v (suc number) views))) (sym e)
        (rise number _ h (λ l k. let d = differs-at v (suc number) views l k in let p = d.2 in omega arith))

-- what does not pass is another view
another : (v w : View) → same_view v w ≡ false → w ≢ v
another v w h e = true≢false (sym (ap (same_view v) e ∙ view-same v) ∙ h)

-- another view does not pass
fails : (v w : View) → w ≢ v → same_view v w ≡ false
fails v w d = by (same_view v w) refl
  where
    by : (b : Bool) → same_view v w ≡ b → same_view v w ≡ false
    by true e = absurd (d (sym (view-true v w e)))
    by false e = e

-- an element at each place within
at-place : {X : Type 0} (xs : List X) (place : ℕ) → place < length xs → (x : X) × (slice_get xs place ≡ Some x)
at-place [] place low = absurd (omega arith)
at-place (x ∷ xs) zero low = (x, refl)
at-place (x ∷ xs) (suc place) low = at-place xs place (omega arith)

-- a vote that is won
pub won-says : (views : List View) (won : ℕ) (lost : List ℕ) → Won won lost ≡ verdict_of views → IsWonBy views won lost
won-says views won lost e = from (won-by views won lost (sym e))
  where
    from : WonBy views won lost → IsWonBy views won lost
    from w = record {
      view = w.view;
      shown = w.there;
      most = w.most;
      lowest = λ number low.
          let within = slice_get_within views won w.view w.there in
          let o = at-place views number (omega arith) in
          (o.0, o.1, another w.view o.0 (lowest-wins views won lost (sym e) number w.view o.0 low w.there o.1));
      losers = λ number. (loser number, lost-too number);
      rising = subst IsRising w.losers (losers-rise w.view 0 views);
    }
      where
        loser : (number : ℕ) → is_among lost number ≡ true → ShowsAnother views w.view number
        loser number h =
            let d = differs-at w.view 0 views number (ap (λ (k : List ℕ). is_among k number) w.losers ∙ h) in
            let same : d.0 ≡ number = (let k = d.2 in omega arith) in
            (d.1, ap (slice_get views) (sym same) ∙ d.3, another w.view d.1 d.4)

        lost-too : (number : ℕ) → ShowsAnother views w.view number → is_among lost number ≡ true
        lost-too number s =
            let z : 0 + number ≡ number = omega arith in
            sym (ap (λ (k : List ℕ). is_among k number) w.losers) ∙ (sym (ap (is_among (differing_from w.view 0 views)) z) ∙ loses-at w.view 0 views number s.0 s.1 (fails w.view s.0 s.2))

pub ruleset counts = (losers-found, losers-many)
