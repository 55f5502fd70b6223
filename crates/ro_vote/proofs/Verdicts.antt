-- What a vote decides where all views but a few, at most half, are the same.
use Rattle.std.specs.Prelude.{◌≡◌, ◌≢◌, ℕ, zero, suc, ◌+◌, ◌*◌, ◌<◌, ◌≤◌, ◌⊎◌, Bool, true, false, cond, not, ◌||◌, ◌==◌, List, [], ◌∷◌, length, Some, None, slice_get}
use Rattle.std.specs.List.{count_by}
use Rattle.std.proofs.Common.{refl, sym, ap, ◌∙◌, arith, inl, inr}
use Rattle.std.proofs.lemmas.Bool.{true≢false, false≢true, eqb-true, eq-eqb, ltb-true, lt-ltb, cases_eq}
use Rattle.std.proofs.lemmas.Option.{slice_get_within}
use Rattle.ro_event.specs.Views.{View, same_view}
use Rattle.ro_event.proofs.Same.{view-true, view-same}
use Rattle.ro_vote.specs.Numbers.{is_among, without, AtMostHalf}
use Rattle.ro_vote.specs.Verdict.{Won, Split, most_hold, differing_from, verdict_among, verdict_of}
use Rattle.ro_vote.proofs.Places.{Outside, look, some-outside, count-cons, count-both, without-shorter, without-other}

-- ---- what the verdict says

-- something is one thing
some-injective : {X : Type 0} {x y : X} → Some x ≡ Some y → x ≡ y
some-injective {x = x} {y = y} e = let f : Some x ≡ Some y = e in cc

-- The winner's view is held by most, and the losers are those that differ.
pub record WonBy (views : List View) (won : ℕ) (lost : List ℕ) : Type 0 where
  pub view : View
  pub there : slice_get views won ≡ Some view
  pub most : length views < 2 * count_by (same_view view) views
  pub losers : differing_from view 0 views ≡ lost

-- from a number on
won-among : (all : List View) (number : ℕ) (views : List View) (won : ℕ) (lost : List ℕ) → verdict_among all number views ≡ Won won lost
    → (place : ℕ) × (view : View) × (number + place ≡ won) × (slice_get views place ≡ Some view) × (most_hold all view ≡ true) × (differing_from view 0 all ≡ lost)
won-among all number [] won lost e = absurd (let f : Split ≡ Won won lost = e in cc)
won-among all number (v ∷ views) won lost e = by (most_hold all v) refl e (won-among all (suc number) views won lost)
  where
    by : (b : Bool) → most_hold all v ≡ b → cond (most_hold all v) (Won number (differing_from v 0 all)) (verdict_among all (suc number) views) ≡ Won won lost
        → (verdict_among all (suc number) views ≡ Won won lost → (place : ℕ) × (view : View) × (suc number + place ≡ won) × (slice_get views place ≡ Some view) × (most_hold all view ≡ true) × (differing_from view 0 all ≡ lost))
        → (place : ℕ) × (view : View) × (number + place ≡ won) × (slice_get (v ∷ views) place ≡ Some view) × (most_hold all view ≡ true) × (differing_from view 0 all ≡ lost)
    by true m f later =
        let g : Won number (differing_from v 0 all) ≡ Won won lost = sym (ap (λ (b : Bool). cond b (Won number (differing_from v 0 all)) (verdict_among all (suc number) views)) m) ∙ f in
        let here : number ≡ won = cc in
        let losers : differing_from v 0 all ≡ lost = cc in
        (0, v, omega arith, refl, m, losers)
    by false m f later =
        let r = later (sym (ap (λ (b : Bool). cond b (Won number (differing_from v 0 all)) (verdict_among all (suc number) views)) m) ∙ f) in
        (suc r.0, r.1, let h = r.2 in omega arith, r.3, r.4, r.5)

-- a vote that is won
pub won-by : (views : List View) (won : ℕ) (lost : List ℕ) → verdict_of views ≡ Won won lost → WonBy views won lost
unfolding verdict_of
won-by views won lost e =
    let r = won-among views 0 views won lost e in
    let same : r.0 ≡ won = (let h = r.2 in omega arith) in
    record { view = r.1; there = ap (slice_get views) (sym same) ∙ r.3; most = ltb-true (length views) (2 * count_by (same_view r.1) views) r.4; losers = r.5 }

-- a split vote has no view that most hold
split-among : (all : List View) (number : ℕ) (views : List View) → verdict_among all number views ≡ Split → (place : ℕ) (view : View) → slice_get views place ≡ Some view → most_hold all view ≡ false
split-among all number [] e place view there = absurd (let f : None ≡ Some view = there in cc)
split-among all number (v ∷ views) e place view there = by (most_hold all v) refl e place there (split-among all (suc number) views)
  where
    by : (b : Bool) → most_hold all v ≡ b → cond (most_hold all v) (Won number (differing_from v 0 all)) (verdict_among all (suc number) views) ≡ Split → (place : ℕ) → slice_get (v ∷ views) place ≡ Some view
        → (verdict_among all (suc number) views ≡ Split → (place : ℕ) (view : View) → slice_get views place ≡ Some view → most_hold all view ≡ false) → most_hold all view ≡ false
    by true m f place there later =
        absurd (let g : Won number (differing_from v 0 all) ≡ Split = sym (ap (λ (b : Bool). cond b (Won number (differing_from v 0 all)) (verdict_among all (suc number) views)) m) ∙ f in cc)
    by false m f zero there later = ap (most_hold all) (sym (some-injective there)) ∙ m
    by false m f (suc place) there later =
        later (sym (ap (λ (b : Bool). cond b (Won number (differing_from v 0 all)) (verdict_among all (suc number) views)) m) ∙ f) place view there

-- a vote that is split
pub split-none : (views : List View) → verdict_of views ≡ Split → (place : ℕ) (view : View) → slice_get views place ≡ Some view → most_hold views view ≡ false
unfolding verdict_of
split-none views e = split-among views 0 views e

-- ---- the losers

-- a loser's view differs
pub differs-at : (v : View) (number : ℕ) (views : List View) (l : ℕ) → is_among (differing_from v number views) l ≡ true
    → (place : ℕ) × (w : View) × (number + place ≡ l) × (slice_get views place ≡ Some w) × (same_view v w ≡ false)
differs-at v number [] l h = absurd (false≢true h)
differs-at v number (w ∷ views) l h = by (same_view v w) refl h (differs-at v (suc number) views l)
  where
    by : (b : Bool) → same_view v w ≡ b → is_among (cond (same_view v w) (differing_from v (suc number) views) (number ∷ differing_from v (suc number) views)) l ≡ true
        → (is_among (differing_from v (suc number) views) l ≡ true → (place : ℕ) × (x : View) × (suc number + place ≡ l) × (slice_get views place ≡ Some x) × (same_view v x ≡ false))
        → (place : ℕ) × (x : View) × (number + place ≡ l) × (slice_get (w ∷ views) place ≡ Some x) × (same_view v x ≡ false)
    by true e k later =
        let r = later (sym (ap (λ (b : Bool). is_among (cond b (differing_from v (suc number) views) (number ∷ differing_from v (suc number) views)) l) e) ∙ k) in
        (suc r.0, r.1, let h = r.2 in omega arith, r.3, r.4)
    by false e k later = here (number == l) refl (sym (ap (λ (b : Bool). is_among (cond b (differing_from v (suc number) views) (number ∷ differing_from v (suc number) views)) l) e) ∙ k)
      where
        here : (c : Bool) → (number == l) ≡ c → ((number == l) || is_among (differing_from v (suc number) views) l) ≡ true → (place : ℕ) × (x : View) × (number + place ≡ l) × (slice_get (w ∷ views) place ≡ Some x) × (same_view v x ≡ false)
        here true f k = let same = eqb-true number l f in (0, w, omega arith, refl, e)
        here false f k =
            let r = later (sym (ap (λ (c : Bool). c || is_among (differing_from v (suc number) views) l) f) ∙ k) in
            (suc r.0, r.1, let h = r.2 in omega arith, r.3, r.4)

-- a view that differs has lost
pub loses-at : (v : View) (number : ℕ) (views : List View) (place : ℕ) (w : View) → slice_get views place ≡ Some w → same_view v w ≡ false → is_among (differing_from v number views) (number + place) ≡ true
loses-at v number [] place w there h = absurd (let f : None ≡ Some w = there in cc)
loses-at v number (x ∷ views) place w there h = by (same_view v x) refl place there (loses-at v (suc number) views)
  where
    by : (b : Bool) → same_view v x ≡ b → (place : ℕ) → slice_get (x ∷ views) place ≡ Some w
        → ((place : ℕ) (w : View) → slice_get views place ≡ Some w → same_view v w ≡ false → is_among (differing_from v (suc number) views) (suc number + place) ≡ true)
        → is_among (cond (same_view v x) (differing_from v (suc number) views) (number ∷ differing_from v (suc number) views)) (number + place) ≡ true
    by true e zero there later = absurd (true≢false (sym e ∙ (ap (same_view v) (some-injective there) ∙ h)))
    by true e (suc place) there later =
        let same : number + suc place ≡ suc number + place = omega arith in
        ap (λ (b : Bool). is_among (cond b (differing_from v (suc number) views) (number ∷ differing_from v (suc number) views)) (number + suc place)) e
        ∙ (ap (is_among (differing_from v (suc number) views)) same ∙ later place w there h)
    by false e zero there later =
        let same : number ≡ number + 0 = omega arith in
        ap (λ (b : Bool). is_among (cond b (differing_from v (suc number) views) (number ∷ differing_from v (suc number) views)) (number + 0)) e
        ∙ ap (λ (c : Bool). c || is_among (differing_from v (suc number) views) (number + 0)) (eq-eqb number (number + 0) same)
    by false e (suc place) there later =
        let same : number + suc place ≡ suc number + place = omega arith in
        ap (λ (b : Bool). is_among (cond b (differing_from v (suc number) views) (number ∷ differing_from v (suc number) views)) (number + suc place)) e
        ∙ second (number == number + suc place) _ (ap (is_among (differing_from v (suc number) views)) same ∙ later place w there h)
      where
        second : (b c : Bool) → c ≡ true → (b || c) ≡ true
        second true c f = refl
        second false c f = f

-- as many lost as views differ
pub count-losers : (v : View) (number : ℕ) (views : List View) → length (differing_from v number views) ≡ count_by (λ w. not (same_view v w)) views
count-losers v number [] = refl
count-losers v number (w ∷ views) = by (same_view v w) refl (count-losers v (suc number) views)
  where
    by : (b : Bool) → same_view v w ≡ b → length (differing_from v (suc number) views) ≡ count_by (λ w. not (same_view v w)) views
        → length (cond (same_view v w) (differing_from v (suc number) views) (number ∷ differing_from v (suc number) views)) ≡ count_by (λ w. not (same_view v w)) (w ∷ views)
    by true e h =
        let c = count-cons (λ x. not (same_view v x)) w views in
        let d : cond {A = ℕ} (not (same_view v w)) 1 0 ≡ 0 = ap {B = ℕ} (λ (b : Bool). cond {A = ℕ} (not b) 1 0) e in
        let l : length (cond (same_view v w) (differing_from v (suc number) views) (number ∷ differing_from v (suc number) views)) ≡ length (differing_from v (suc number) views) =
        ap {B = ℕ} (λ (b : Bool). length (cond b (differing_from v (suc number) views) (number ∷ differing_from v (suc number) views))) e in
        omega arith
    by false e h =
        let c = count-cons (λ x. not (same_view v x)) w views in
        let d : cond {A = ℕ} (not (same_view v w)) 1 0 ≡ 1 = ap {B = ℕ} (λ (b : Bool). cond {A = ℕ} (not b) 1 0) e in
        let l : length (cond (same_view v w) (differing_from v (suc number) views) (number ∷ differing_from v (suc number) views)) ≡ suc (length (differing_from v (suc number) views)) =
        ap {B = ℕ} (λ (b : Bool). length (cond b (differing_from v (suc number) views) (number ∷ differing_from v (suc number) views))) e in
        omega arith

-- ---- all views but those of a few places are the good one

-- every view but those at these places is the good one
pub record AllBut (odds : List ℕ) (good : View) (views : List View) : Type 0 where
  pub others : (i : ℕ) (v : View) → is_among odds i ≡ false → slice_get views i ≡ Some v → v ≡ good

-- The winner's view is the good one. The losers are those of other views, all among the odd ones, and none is the winner, who may be odd too.
pub record WonWell (odds : List ℕ) (good : View) (views : List View) (won : ℕ) (lost : List ℕ) : Type 0 where
  pub winner : slice_get views won ≡ Some good
  pub losers_differ : (l : ℕ) → is_among lost l ≡ true → (w : View) × (slice_get views l ≡ Some w) × (w ≢ good)
  pub others_hold : (i : ℕ) (w : View) → is_among lost i ≡ false → slice_get views i ≡ Some w → w ≡ good
  pub losers_odd : (l : ℕ) → is_among lost l ≡ true → is_among odds l ≡ true
  pub winner_stays : is_among lost won ≡ false
  pub few_lost : length lost ≤ length odds

-- what is not false is true
not-false : (b : Bool) → (b ≡ false → ⊥) → b ≡ true
not-false true h = refl
not-false false h = absurd (h refl)

-- what is not true is false
not-true : (b : Bool) → (b ≡ true → ⊥) → b ≡ false
not-true true h = absurd (h refl)
not-true false h = refl

-- the test's answer turned round
turned : (b c : Bool) → not b ≡ c → b ≡ not c
turned true c e = ap not e
turned false c e = ap not e

module _ (odds : List ℕ) (good : View) (views : List View) (others : AllBut odds good views) where
  -- no more views differ from the good one than are odd
  few-differ : count_by (λ w. not (same_view good w)) views ≤ length odds
  few-differ = by (look (λ w. not (same_view good w)) odds views)
    where
      by : Outside (λ w. not (same_view good w)) odds views 0 ⊎ (count_by (λ w. not (same_view good w)) views ≤ length odds) → count_by (λ w. not (same_view good w)) views ≤ length odds
      by (inr h) = h
      by (inl o) =
          let same : o.element ≡ good = others.others o.place o.element (let z : 0 + o.place ≡ o.place = omega arith in sym (ap (is_among odds) z) ∙ o.outside) o.there in
          absurd (true≢false (sym (ap (same_view good) same ∙ view-same good) ∙ turned _ true o.passes))

  -- a view that more than half hold is the good one, where at most half are odd
  pub most-is-good : (v : View) → AtMostHalf (length views) odds → length views < 2 * count_by (same_view v) views → v ≡ good
  most-is-good v few most = by (look (same_view v) odds views)
    where
      by : Outside (same_view v) odds views 0 ⊎ (count_by (same_view v) views ≤ length odds) → v ≡ good
      by (inl o) = view-true v o.element o.passes ∙ others.others o.place o.element (let z : 0 + o.place ≡ o.place = omega arith in sym (ap (is_among odds) z) ∙ o.outside) o.there
      by (inr h) = absurd (omega arith)

  -- a vote is won well
  pub won-well : (won : ℕ) (lost : List ℕ) → AtMostHalf (length views) odds → verdict_of views ≡ Won won lost → WonWell odds good views won lost
  won-well won lost few e = from (won-by views won lost e)
    where
      from : WonBy views won lost → WonWell odds good views won lost
      from w = record {
        winner = w.there ∙ ap Some is_good;
        losers_differ = differ;
        others_hold = hold;
        losers_odd = λ l h. not-false (is_among odds l) (λ f. let d = differ l h in d.2 (others.others l d.0 f d.1));
        winner_stays = not-true (is_among lost won) (λ h. let d = differ won h in d.2 (some-injective (sym d.1 ∙ (w.there ∙ ap Some is_good))));
        few_lost = let c = count-losers w.view 0 views in
            let d : length (differing_from w.view 0 views) ≡ length lost = ap {B = ℕ} length w.losers in
            let s : count_by (λ x. not (same_view w.view x)) views ≡ count_by (λ x. not (same_view good x)) views = ap {B = ℕ} (λ (g : View). count_by (λ x. not (same_view g x)) views) is_good in
            let f = few-differ in omega arith;
      }
        where
          is_good : w.view ≡ good
          is_good = most-is-good w.view few w.most

          differ : (l : ℕ) → is_among lost l ≡ true → (x : View) × (slice_get views l ≡ Some x) × (x ≢ good)
          differ l h =
              let d = differs-at w.view 0 views l (ap (λ (k : List ℕ). is_among k l) w.losers ∙ h) in
              let same : d.0 ≡ l = (let k = d.2 in omega arith) in
              (d.1, ap (slice_get views) (sym same) ∙ d.3, λ f. true≢false (sym (ap (same_view w.view) (f ∙ sym is_good) ∙ view-same w.view) ∙ d.4))

          hold : (i : ℕ) (x : View) → is_among lost i ≡ false → slice_get views i ≡ Some x → x ≡ good
          hold i x h there =
              let same : same_view w.view x ≡ true = not-false (same_view w.view x) (λ f. true≢false (sym (let z : 0 + i ≡ i = omega arith in
              sym (ap (λ (k : List ℕ). is_among k i) w.losers) ∙ (sym (ap (is_among (differing_from w.view 0 views)) z) ∙ loses-at w.view 0 views i x there f)) ∙ h)) in
              sym (view-true w.view x same) ∙ is_good

  -- where less than half are odd there is a majority
  pub never-splits : 2 * length odds < length views → verdict_of views ≡ Split → ⊥
  never-splits few e =
      let o = some-outside odds views (omega arith) in
      let same : o.element ≡ good = others.others o.place o.element (let z : 0 + o.place ≡ o.place = omega arith in sym (ap (is_among odds) z) ∙ o.outside) o.there in
      let both = count-both (same_view good) views in
      let f = few-differ in
      let most : most_hold views good ≡ true = lt-ltb (length views) (2 * count_by (same_view good) views) (omega arith) in
      true≢false (sym most ∙ (ap (most_hold views) (sym same) ∙ split-none views e o.place o.element o.there))

-- Where as many lost as may be odd, every odd one lost: the winner, for one, is not odd.
pub all-odd-lost : (odds : List ℕ) (good : View) (views : List View) → AllBut odds good views → AtMostHalf (length views) odds → (won : ℕ) (lost : List ℕ) → verdict_of views ≡ Won won lost → length views < 2 * suc (length lost)
    → (x : ℕ) → is_among odds x ≡ true → is_among lost x ≡ true
all-odd-lost odds good views others few won lost e many x odd = not-false (is_among lost x) (λ f. too-few f)
  where
    too-few : is_among lost x ≡ false → ⊥
    too-few f =
        let w = won-well odds good views others won lost few e in
        let fewer : AllBut (without x odds) good views = record { others = λ i v h there. either i v h there w.others_hold (cases_eq x i) } in
        let short = without-shorter x odds odd in
        let r = won-well (without x odds) good views fewer won lost (omega arith) e in
        let l = r.few_lost in
        omega arith
      where
        either : (i : ℕ) (v : View) → is_among (without x odds) i ≡ false → slice_get views i ≡ Some v → ((i : ℕ) (w : View) → is_among lost i ≡ false → slice_get views i ≡ Some w → w ≡ good) → (x ≡ i) ⊎ (x ≢ i) → v ≡ good
        either i v h there hold (inl same) = hold i v (ap (is_among lost) (sym same) ∙ f) there
        either i v h there hold (inr d) = others.others i v (without-other x odds i h d) there

-- ---- what holds of every vote, whatever is odd

-- the winner is none of the losers
pub winner-stays : (views : List View) (won : ℕ) (lost : List ℕ) → verdict_of views ≡ Won won lost → is_among lost won ≡ false
winner-stays views won lost e = from (won-by views won lost e)
  where
    from : WonBy views won lost → is_among lost won ≡ false
    from w = not-true (is_among lost won) (λ h.
        let d = differs-at w.view 0 views won (ap (λ (k : List ℕ). is_among k won) w.losers ∙ h) in
        let same : d.0 ≡ won = (let k = d.2 in omega arith) in
        let view : d.1 ≡ w.view = some-injective (sym d.3 ∙ (ap (slice_get views) same ∙ w.there)) in
        true≢false (sym (ap (same_view w.view) view ∙ view-same w.view) ∙ d.4))

-- the losers are less than half: none of two, at most one of three, at most two of five
pub few-lose : (views : List View) (won : ℕ) (lost : List ℕ) → verdict_of views ≡ Won won lost → 2 * length lost < length views
few-lose views won lost e =
    let w = won-by views won lost e in
    let c = count-losers w.view 0 views in
    let d : length (differing_from w.view 0 views) ≡ length lost = ap {B = ℕ} length w.losers in
    let b = count-both (same_view w.view) views in
    let m = w.most in
    omega arith

-- each loser is a replica
pub loser-within : (views : List View) (won : ℕ) (lost : List ℕ) → verdict_of views ≡ Won won lost → (l : ℕ) → is_among lost l ≡ true → l < length views
loser-within views won lost e l h =
    let w = won-by views won lost e in
    let d = differs-at w.view 0 views l (ap (λ (k : List ℕ). is_among k l) w.losers ∙ h) in
    let s = slice_get_within views d.0 d.1 d.3 in
    let k = d.2 in
    omega arith

-- views that are the same are held by as many
same-held : (views : List View) (v w : View) → same_view v w ≡ true → most_hold views w ≡ most_hold views v
same-held views v w e = ap (most_hold views) (sym (view-true v w e))

-- an earlier view than the winner's is not held by most
earlier-among : (all : List View) (number : ℕ) (views : List View) (won : ℕ) (lost : List ℕ) → verdict_among all number views ≡ Won won lost → (i : ℕ) (w : View) → number + i < won → slice_get views i ≡ Some w → most_hold all w ≡ false
earlier-among all number [] won lost e i w low there = absurd (let f : None ≡ Some w = there in cc)
earlier-among all number (v ∷ views) won lost e i w low there = by (most_hold all v) refl e i low there (earlier-among all (suc number) views won lost)
  where
    by : (b : Bool) → most_hold all v ≡ b → cond (most_hold all v) (Won number (differing_from v 0 all)) (verdict_among all (suc number) views) ≡ Won won lost → (i : ℕ) → number + i < won → slice_get (v ∷ views) i ≡ Some w
        → (verdict_among all (suc number) views ≡ Won won lost → (i : ℕ) (w : View) → suc number + i < won → slice_get views i ≡ Some w → most_hold all w ≡ false) → most_hold all w ≡ false
    by true m f i low there later =
        let g : Won number (differing_from v 0 all) ≡ Won won lost = sym (ap (λ (b : Bool). cond b (Won number (differing_from v 0 all)) (verdict_among all (suc number) views)) m) ∙ f in
        let here : number ≡ won = cc in
        absurd (omega arith)
    by false m f zero low there later = ap (most_hold all) (sym (some-injective there)) ∙ m
    by false m f (suc i) low there later =
        later (sym (ap (λ (b : Bool). cond b (Won number (differing_from v 0 all)) (verdict_among all (suc number) views)) m) ∙ f) i w (omega arith) there

-- the winner is the lowest of those that show its view
pub lowest-wins : (views : List View) (won : ℕ) (lost : List ℕ) → verdict_of views ≡ Won won lost → (i : ℕ) (v w : View) → i < won → slice_get views won ≡ Some v → slice_get views i ≡ Some w → same_view v w ≡ false
unfolding verdict_of
lowest-wins views won lost e i v w low there earlier = not-true (same_view v w) (λ same.
    let r = won-among views 0 views won lost e in
    let place : r.0 ≡ won = (let h = r.2 in omega arith) in
    let is : r.1 ≡ v = some-injective (sym r.3 ∙ (ap (slice_get views) place ∙ there)) in
    let held : most_hold views v ≡ true = ap (most_hold views) (sym is) ∙ r.4 in
    true≢false (sym (same-held views v w same ∙ held) ∙ earlier-among views 0 views won lost e i w (omega arith) earlier))
