-- Each kind of step keeps the rule.
use Rattle.std.proofs.Common.{◌≡◌, ◌≢◌, ◌⊎◌, inl, inr, ℕ, zero, suc, ◌+◌, ◌*◌, ◌%◌, ◌<◌, ◌≤◌, ◌==◌, Bool, true, false, if◌then◌else◌, List, [], ◌∷◌, ◌++◌, length, set, slice_index, refl, sym, ap, ◌∙◌, subst, ⊎_elim, arith, eq-eqb, ne_eqb, length-set, Option, Some, None}
use Rattle.std.specs.Prelude.{replicate}
use Rattle.std.proofs.Math.Nat.{mod-lt}
use Rattle.std.proofs.lemmas.Bool.{eqb-true}
use Rattle.std.proofs.lemmas.List.{set-get_or}
use mathlib.Core.Option.{some, none, some-ne-none, some-injective}
use lib.ListN.{get_elem?}
use prog.Atomic.{either}
use Rattle.atomic_table.specs.Table.{State, Act, keeps, step, carried_after, Valid, Allows, Splits, Joins}
use Rattle.atomic_table.proofs.Lists.{at_set}
use Rattle.ro_lockpage.specs.Ranks.{Ranks, Asked, asked, is_at, noted, once, row_in, first_word, word_of, word_at, Since}
use Rattle.ro_lockpage.specs.Hands.{Hand, fresh, fresh_hands, first_of}
use Rattle.ro_lockpage.specs.Seats.{Fits, Each, Kept, Rule, Sat, Shows, Exchanges, Looks, holding, after_win, after_look}
use Rattle.ro_lockpage.specs.declared.words.Answer.TheVariants.{For, Passed}
use Rattle.ro_lockpage.specs.declared.seats.View.{View}
use Rattle.ro_lockpage.specs.declared.seats.Shape.{Shape}
use Rattle.ro_lockpage.proofs.Lists.{views_set, views_end, each_map, each_append, in_range}
use Rattle.ro_lockpage.proofs.Notes.{Kind, is_older, is_this, is_newer, word_is, decide, words_grow, newest_noted, undecided, none-some, some-same}
use Rattle.ro_lockpage.proofs.Hands.{won_by, since_end, since_last, fits_other, fits_winner, fits_told, fits_moved}

-- ---- the beginning

pub zero_at : (n p : ℕ) → slice_index (replicate n 0) p ≡ 0
zero_at zero p = refl
zero_at (suc n) zero = refl
zero_at (suc n) (suc p) = zero_at n p

length_zeros : (n : ℕ) → length {A = ℕ} (replicate n 0) ≡ n
length_zeros zero = refl
length_zeros (suc n) = ap suc (length_zeros n)

each_fresh : (P : Hand → Type 0) → ((n : ℕ) → n < 8 → P (fresh n)) → (n k : ℕ) → n + k ≤ 8 → Each P (fresh_hands n k)
each_fresh P f n zero most = tt
each_fresh P f n (suc k) most = (f n (omega arith), each_fresh P f (n + 1) k (omega arith))

empty_once : (b : Bool) (m r : ℕ) (o : Option ℕ) → o ≡ None → [] ≡ (if b then once m r o else [])
empty_once true m r o e = sym (ap (once m r) e)
empty_once false m r o e = refl

pub begins : (c : Shape) → Kept c (replicate (c.mutexes * c.rows) 0) (holding (fresh_hands 0 8) ∷ [])
begins c =
    let n : ℕ = c.mutexes * c.rows in
    let ranks : Ranks = λ m r. None in
    let word : ℕ → ℕ → ℕ = word_at c.rows (replicate n 0) in
    let F : ℕ → View → Type 0 = λ id v. Each (Fits ranks word (λ m r. 0) (λ d. 0) id) v.hands in
    let here : F 0 (holding (fresh_hands 0 8)) =
    each_fresh (Fits ranks word (λ m r. 0) (λ d. 0) 0)
    (λ k less. record { number = less; seat = refl; known = λ m r t e. absurd (none-some t e); won = λ m r. empty_once (0 == k) m r None refl; since = tt })
    0 8 (omega arith) in
    record {
      ranks = ranks;
      owner = λ d. 0;
      winner = λ m r. 0;
      wide = length_zeros n;
      newest = record {
        old = λ m r t e. absurd (none-some t e);
        own = λ m r t less e. let z = zero_at n (m * c.rows + r % c.rows) in absurd (omega (arith, e, z));
        some = λ m r nonzero. absurd (nonzero (zero_at n (m * c.rows + r % c.rows)));
      };
      below = λ m r. omega arith;
      fits = one F here;
    }
  where
    one : (F : ℕ → View → Type 0) → F 0 (holding (fresh_hands 0 8)) → (id : ℕ) (v : View) → get_elem? (holding (fresh_hands 0 8) ∷ []) id ≡ some v → F id v
    one F here zero v e = subst (F 0) (some-injective _ _ e) here
    one F here (suc id) v e = absurd (some-ne-none v (sym e))

-- ---- a seat deals its first hand

numbered_from : (n k : ℕ) → Each (λ h. n ≤ h.number) (fresh_hands n k)
numbered_from n zero = tt
numbered_from n (suc k) = (omega arith, each_map (λ h. n + 1 ≤ h.number) (λ h. n ≤ h.number) (λ h less. omega arith) (fresh_hands (n + 1) k) (numbered_from (n + 1) k))

each_both : (P Q R : Hand → Type 0) → ((h : Hand) → P h → Q h → R h) → (hs : List Hand) → Each P hs → Each Q hs → Each R hs
each_both P Q R f [] a b = tt
each_both P Q R f (h ∷ hs) a b = (f h a.0 b.0, each_both P Q R f hs a.1 b.1)

pub deals : (c : Shape) (id n k : ℕ) → Splits (Rule c) id (holding (fresh_hands n (suc k))) (holding (fresh_hands (n + 1) k)) (holding (fresh n ∷ []))
deals c id n k s kept at =
    let ranks : Ranks = kept.ranks in
    let word : ℕ → ℕ → ℕ = word_at c.rows s.words in
    let mine = kept.fits id (holding (fresh_hands n (suc k))) at in
    let left : List View = set s.views id (holding (fresh_hands (n + 1) k)) in
    let owner : ℕ → ℕ = λ d. if d == n then length left else kept.owner d in
    let F : ℕ → View → Type 0 = λ j u. Each (Fits ranks word kept.winner owner j) u.hands in
    record {
      ranks = ranks;
      owner = owner;
      winner = kept.winner;
      wide = kept.wide;
      newest = kept.newest;
      below = kept.below;
      fits =
          views_end F left (holding (fresh n ∷ []))
          (views_set F s.views id (holding (fresh_hands (n + 1) k))
          (λ j u apart e.
          each_map (Fits ranks word kept.winner kept.owner j) (Fits ranks word kept.winner owner j)
          (λ h f. fits_moved ranks word kept.winner kept.owner owner j j h (rw (ne_eqb h.number n (λ same. apart (sym f.seat ∙ ap kept.owner same ∙ mine.0.seat))) f.seat) f)
          u.hands (kept.fits j u e))
          (each_both (λ h. n + 1 ≤ h.number) (Fits ranks word kept.winner kept.owner id) (Fits ranks word kept.winner owner id)
          (λ h more f. fits_moved ranks word kept.winner kept.owner owner id id h (rw (ne_eqb h.number n (λ same. omega (arith, more, same))) f.seat) f)
          (fresh_hands (n + 1) k) (numbered_from (n + 1) k) mine.1))
          (fits_moved ranks word kept.winner kept.owner owner id (length left) (fresh n) (rw (eq-eqb n n refl) refl) mine.0, tt);
    }

-- ---- a seat gathers another's hands

pub gathers : (c : Shape) (id : ℕ) (v : View) (other : ℕ) (w : View) → Joins (Rule c) id v other w (holding (w.hands ++ v.hands)) (holding [])
gathers c id v other w s kept at apart there =
    let ranks : Ranks = kept.ranks in
    let word : ℕ → ℕ → ℕ = word_at c.rows s.words in
    let both : View = holding (w.hands ++ v.hands) in
    let mine = kept.fits id v at in
    let theirs : Each (Fits ranks word kept.winner kept.owner other) w.hands =
    ⊎_elim (λ (t : (other ≡ id) × (both ≡ w)). absurd (apart t.0)) (λ (t : (other ≢ id) × (get_elem? s.views other ≡ some w)). kept.fits other w t.1) (at_set s.views id other both w there) in
    let owner : ℕ → ℕ = λ d. if kept.owner d == other then id else kept.owner d in
    let F : ℕ → View → Type 0 = λ j u. Each (Fits ranks word kept.winner owner j) u.hands in
    let same : (j : ℕ) → j ≢ other → (h : Hand) → Fits ranks word kept.winner kept.owner j h → Fits ranks word kept.winner owner j h =
    λ j far h f. fits_moved ranks word kept.winner kept.owner owner j j h (rw (ne_eqb (kept.owner h.number) other (λ e. far (sym f.seat ∙ e))) f.seat) f in
    let come : (h : Hand) → Fits ranks word kept.winner kept.owner other h → Fits ranks word kept.winner owner id h =
    λ h f. fits_moved ranks word kept.winner kept.owner owner other id h (rw (eq-eqb (kept.owner h.number) other f.seat) refl) f in
    record {
      ranks = ranks;
      owner = owner;
      winner = kept.winner;
      wide = kept.wide;
      newest = kept.newest;
      below = kept.below;
      fits =
          views_set F (set s.views id both) other (holding [])
          (λ j u far e.
          views_set (λ i x. i ≢ other → F i x) s.views id both
          (λ i x off e' far'. each_map (Fits ranks word kept.winner kept.owner i) (Fits ranks word kept.winner owner i) (same i far') x.hands (kept.fits i x e'))
          (λ far'. each_append (Fits ranks word kept.winner owner id) w.hands v.hands (each_map (Fits ranks word kept.winner kept.owner other) (Fits ranks word kept.winner owner id) come w.hands theirs) (each_map (Fits ranks word kept.winner kept.owner id) (Fits ranks word kept.winner owner id) (same id far') v.hands mine))
          j u e far)
          tt;
    }

-- ---- a seat asks for a rank

-- the view of one hand changes, and no word
told : (c : Shape) (s : State (Unit {0}) View) (id p n : ℕ) (h : Hand) → slice_index s.words p ≡ n → (k : Rule c s)
    → Fits k.ranks (word_at c.rows s.words) k.winner k.owner id h → Kept c (set s.words p n) (set s.views id (holding (h ∷ [])))
told c s id p n h e k f =
    subst (λ (ws : List ℕ). Kept c ws (set s.views id (holding (h ∷ [])))) (sym (ap (set s.words p) (sym e) ∙ set-get_or s.words p 0))
    record {
      ranks = k.ranks;
      owner = k.owner;
      winner = k.winner;
      wide = k.wide;
      newest = k.newest;
      below = k.below;
      fits = views_set (λ j u. Each (Fits k.ranks (word_at c.rows s.words) k.winner k.owner j) u.hands) s.views id (holding (h ∷ [])) (λ j u apart e'. k.fits j u e') (f, tt);
    }

-- a rank is decided whose word was older
decides : (c : Shape) (s : State (Unit {0}) View) (id m r t n : ℕ) (h : Hand) → m < c.mutexes → 0 < c.rows → t < 16 → word_at c.rows s.words m r ≡ n → n < first_word r → (k : Rule c s)
    → Fits k.ranks (word_at c.rows s.words) k.winner k.owner id h → Kept c (set s.words (m * c.rows + r % c.rows) (word_of r t)) (set s.views id (holding (after_win h m r t n ∷ [])))
decides c s id m r t n h in_m some_rows in_t is less k f =
    let p : ℕ = m * c.rows + r % c.rows in
    let within : p < length s.words = subst (λ (x : ℕ). p < x) (sym k.wide) (in_range c.mutexes c.rows m (r % c.rows) in_m (mod-lt r some_rows)) in
    let word : ℕ → ℕ → ℕ = word_at c.rows s.words in
    let word' : ℕ → ℕ → ℕ = word_at c.rows (set s.words p (word_of r t)) in
    let older_word : word m r < first_word r = subst (λ (x : ℕ). x < first_word r) (sym is) less in
    let grow = words_grow c.rows s.words m r t some_rows within in_t older_word in
    let empty : k.ranks m r ≡ None = undecided c.rows k.ranks s.words m r k.newest older_word in
    let winner = won_by k.winner m r h.number in
    record {
      ranks = noted k.ranks m r t;
      owner = k.owner;
      winner = winner;
      wide = length-set s.words p (word_of r t) ∙ k.wide;
      newest = newest_noted c.rows s.words m r t some_rows within in_t older_word k.ranks k.newest;
      below = λ m' r'. decide (is_at m r m' r') (winner m' r' < 8) (λ b. rw b f.number) (λ b. rw b (k.below m' r'));
      fits =
          views_set (λ j u. Each (Fits (noted k.ranks m r t) word' winner k.owner j) u.hands) s.views id (holding (after_win h m r t n ∷ []))
          (λ j u apart e'.
          each_map (Fits k.ranks word k.winner k.owner j) (Fits (noted k.ranks m r t) word' winner k.owner j)
          (λ h' f'. fits_other k.ranks m r t empty word word' grow k.winner k.owner j h.number h' (λ same. apart (sym f'.seat ∙ ap k.owner (sym same) ∙ f.seat)) f')
          u.hands (k.fits j u e'))
          (fits_winner k.ranks m r t empty word word' grow k.winner k.owner id h n (let g = grow m r in omega (arith, is, g)) f, tt);
    }

module _ (c : Shape) (s : State (Unit {0}) View) (id m r n : ℕ) (h : Hand) (is : word_at c.rows s.words m r ≡ n) (k : Rule c s) (f : Fits k.ranks (word_at c.rows s.words) k.winner k.owner id h) where
  -- a thread that the word tells was decided
  own_thread : (t : ℕ) → row_in r n ≡ Some (For t) → k.ranks m r ≡ Some t
  own_thread t e = by (word_is r n)
    where
      by : Kind r n → k.ranks m r ≡ Some t
      by (is_older less e') = absurd (none_for (sym e' ∙ e))
        where
          none_for : None ≡ Some (For t) → ⊥
          none_for e = cc
      by (is_this t' less w e') = k.newest.own m r t' less (is ∙ w) ∙ ap (λ (x : ℕ). Some x) (for_same (sym e' ∙ e))
        where
          for_same : Some (For t') ≡ Some (For t) → t' ≡ t
          for_same e = cc
      by (is_newer least e') = absurd (passed_for (sym e' ∙ e))
        where
          passed_for : Some Passed ≡ Some (For t) → ⊥
          passed_for e = cc

  shown : Shows h m r n
  shown = record {
    knew = λ t known. by t (f.known m r t known) (word_is r n);
    since = λ before was e. let l = since_last (word_at c.rows s.words) before m r was (subst (λ (xs : List Asked). Since (word_at c.rows s.words) xs) e f.since) in omega (arith, l, is);
  }
    where
      by : (t : ℕ) → k.ranks m r ≡ Some t → Kind r n → (row_in r n ≡ Some (For t)) ⊎ (row_in r n ≡ Some Passed)
      by t known (is_older less e) = let old = (k.newest.old m r t known).1 in absurd (omega (arith, old, less, is))
      by t known (is_this t' less w e) = inl (e ∙ ap (λ (x : ℕ). Some (For x)) (some-same t' t (sym (own_thread t' e) ∙ known)))
      by t known (is_newer least e) = inr e

  looked : Fits k.ranks (word_at c.rows s.words) k.winner k.owner id (after_look h m r n)
  looked = fits_told k.ranks (word_at c.rows s.words) m r (row_in r n) k.winner k.owner id h (h.asked ++ asked m r n ∷ []) own_thread (since_end (word_at c.rows s.words) h.asked m r n f.since (omega (arith, is))) f

module _ (c : Shape) (slots id : ℕ) (me : Sat) (m r t was : ℕ) (s : State (Unit {0}) View) (k : Rule c s) (f : Fits k.ranks (word_at c.rows s.words) k.winner k.owner id (first_of me.0.hands)) where
  abbrev place : ℕ
  place = m * c.rows + r % c.rows

  abbrev AfterExchange : ℕ → Type 0
  AfterExchange n = (w : View) × (a : Act (Unit {0})) × Valid s.homes me.1 a × Kept c (set s.words place (either (n == was) (word_of r t) n)) (set s.views id w) × Exchanges m r t was (step slots place was (word_of r t) none) me n (w, carried_after me.1 a)

  abbrev AfterLook : ℕ → Type 0
  AfterLook n = (w : View) × (a : Act (Unit {0})) × Valid s.homes me.1 a × Kept c (set s.words place n) (set s.views id w) × Looks m r (step slots place 0 0 none) me n (w, carried_after me.1 a)

  after_step : m < c.mutexes → 0 < c.rows → t < 16 → was < first_word r → (n : ℕ) → word_at c.rows s.words m r ≡ n → AfterExchange n
  after_step in_m some_rows in_t less n e =
      let h = first_of me.0.hands in
      decide (n == was) (AfterExchange n)
      (λ b.
      let same = eqb-true n was b in (
        holding (after_win h m r t n ∷ []),
        keeps,
        tt,
        subst (λ (x : Bool). Kept c (set s.words place (either x (word_of r t) n)) (set s.views id (holding (after_win h m r t n ∷ [])))) (sym b)
            (decides c s id m r t n h in_m some_rows in_t e (subst (λ (x : ℕ). x < first_word r) (sym same) less) k f),
        (shown c s id m r n h e k f, ap (λ (x : Hand). holding (x ∷ [])) (sym (rw b refl)), refl),
      ))
      (λ b. (
        holding (after_look h m r n ∷ []),
        keeps,
        tt,
        subst (λ (x : Bool). Kept c (set s.words place (either x (word_of r t) n)) (set s.views id (holding (after_look h m r n ∷ [])))) (sym b)
            (told c s id place n (after_look h m r n) e k (looked c s id m r n h e k f)),
        (shown c s id m r n h e k f, ap (λ (x : Hand). holding (x ∷ [])) (sym (rw b refl)), refl),
      ))

  after_load : (n : ℕ) → word_at c.rows s.words m r ≡ n → AfterLook n
  after_load n e =
      let h = first_of me.0.hands in
      (holding (after_look h m r n ∷ []), keeps, tt, told c s id place n (after_look h m r n) e k (looked c s id m r n h e k f), (shown c s id m r n h e k f, refl, refl))

-- the fit of a seat's one hand
one_fits : (c : Shape) (id : ℕ) (me : Sat) (s : State (Unit {0}) View) (k : Rule c s) → me.0.hands ≡ first_of me.0.hands ∷ [] → get_elem? s.views id ≡ some me.0 → Fits k.ranks (word_at c.rows s.words) k.winner k.owner id (first_of me.0.hands)
one_fits c id me s k one at = (subst (λ (hs : List Hand). Each (Fits k.ranks (word_at c.rows s.words) k.winner k.owner id) hs) one (k.fits id me.0 at)).0

pub exchanges : (c : Shape) (slots id : ℕ) (me : Sat) (m r t was : ℕ) → me.0.hands ≡ first_of me.0.hands ∷ [] → m < c.mutexes → 0 < c.rows → t < 16 → was < first_word r
    → Allows (Rule c) slots id me (m * c.rows + r % c.rows) (λ n. either (n == was) (word_of r t) n) (Exchanges m r t was (step slots (m * c.rows + r % c.rows) was (word_of r t) none) me)
exchanges c slots id me m r t was one in_m some_rows in_t less s k len at range =
    after_step c slots id me m r t was s k (one_fits c id me s k one at) in_m some_rows in_t less (slice_index s.words (m * c.rows + r % c.rows)) refl

pub looks : (c : Shape) (slots id : ℕ) (me : Sat) (m r : ℕ) → me.0.hands ≡ first_of me.0.hands ∷ []
    → Allows (Rule c) slots id me (m * c.rows + r % c.rows) (λ n. n) (Looks m r (step slots (m * c.rows + r % c.rows) 0 0 none) me)
looks c slots id me m r one s k len at range =
    after_load c slots id me m r 0 0 s k (one_fits c id me s k one at) (slice_index s.words (m * c.rows + r % c.rows)) refl
