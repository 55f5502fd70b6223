-- A rank that is noted, and the words that tell it.
use Rattle.std.proofs.Common.{◌≡◌, ◌≢◌, ℕ, ◌+◌, ◌-◌, ◌*◌, ◌%◌, ◌<◌, ◌≤◌, ◌==◌, ◌&&◌, Bool, true, false, true≢false, if◌then◌else◌, List, length, set, slice_index, refl, sym, ap, ◌∙◌, subst, arith, eq-eqb, Option, Some, None}
use Rattle.std.specs.Prelude.{nat_lt}
use Rattle.std.proofs.Math.Nat.{mod-lt}
use Rattle.std.proofs.lemmas.Bool.{eqb-true, ltb-true, ltb-false, lt-ltb}
use Rattle.std.proofs.lemmas.List.{get_or-set_same, get_or-set_other}
use Rattle.ro_lockpage.specs.Ranks.{Ranks, is_at, noted, first_word, word_of, word_at, row_in, Tells}
use Rattle.ro_lockpage.specs.Seats.{Newest}
use Rattle.ro_lockpage.specs.declared.words.Answer.TheVariants.{For, Passed}
use Rattle.ro_lockpage.proofs.Lists.{apart}

both : (a b : Bool) → (a && b) ≡ true → (a ≡ true) × (b ≡ true)
both true true e = (refl, refl)
both true false e = absurd (true≢false (sym e))
both false b e = absurd (true≢false (sym e))

pub at_both : (m r m' r' : ℕ) → is_at m r m' r' ≡ true → (m ≡ m') × (r ≡ r')
at_both m r m' r' e = let p = both (m == m') (r == r') e in (eqb-true m m' p.0, eqb-true r r' p.1)

at_same : (m r m' r' : ℕ) → m ≡ m' → r ≡ r' → is_at m r m' r' ≡ true
at_same m r m' r' e f = rw (eq-eqb m m' e, eq-eqb r r' f) refl

-- a test with its answer
pub decide : (b : Bool) (P : Type 0) → (b ≡ true → P) → (b ≡ false → P) → P
decide b P on_true on_false = by b refl
  where
    by : (x : Bool) → b ≡ x → P
    by true e = on_true e
    by false e = on_false e

pub noted_at : (ranks : Ranks) (m r t m' r' : ℕ) → is_at m r m' r' ≡ true → noted ranks m r t m' r' ≡ Some t
noted_at ranks m r t m' r' e = rw e refl

pub noted_else : (ranks : Ranks) (m r t m' r' : ℕ) → is_at m r m' r' ≡ false → noted ranks m r t m' r' ≡ ranks m' r'
noted_else ranks m r t m' r' e = rw e refl

pub none-some : (t : ℕ) → None ≡ Some t → ⊥
none-some t e = cc

pub some-same : (t u : ℕ) → Some t ≡ Some u → t ≡ u
some-same t u e = cc

-- ---- what a word tells of a rank

-- the kinds of words, for a rank
pub data Kind (r w : ℕ) : Type 0 where
  is_older : w < first_word r → row_in r w ≡ None → Kind r w
  is_this : (t : ℕ) → t < 16 → w ≡ word_of r t → row_in r w ≡ Some (For t) → Kind r w
  is_newer : first_word r + 16 ≤ w → row_in r w ≡ Some Passed → Kind r w

pub row_older : (r w : ℕ) → w < first_word r → row_in r w ≡ None
row_older r w less = rw (lt-ltb w (first_word r) less) refl

pub word_is : (r w : ℕ) → Kind r w
word_is r w =
    decide (nat_lt w (first_word r)) (Kind r w)
    (λ b. is_older (ltb-true w (first_word r) b) (rw b refl))
    (λ b.
    decide (nat_lt w (first_word r + 16)) (Kind r w)
    (λ b'.
    let least : first_word r ≤ w = ltb-false w (first_word r) b in
    let most : w < first_word r + 16 = ltb-true w (first_word r + 16) b' in
    is_this (w - first_word r) (omega (arith, least, most)) (omega (arith, least)) (rw b (rw b' refl)))
    (λ b'. is_newer (ltb-false w (first_word r + 16) b') (rw b (rw b' refl))))

-- a word that is set, as each rank sees it
pub set_word : (n : ℕ) (words : List ℕ) (m r w : ℕ) → 0 < n → m * n + r % n < length words
    → (m' r' : ℕ) → word_at n (set words (m * n + r % n) w) m' r' ≡ (if is_at m (r % n) m' (r' % n) then w else word_at n words m' r')
set_word n words m r w some within m' r' =
    let p : ℕ = m * n + r % n in
    decide (is_at m (r % n) m' (r' % n)) (word_at n (set words p w) m' r' ≡ (if is_at m (r % n) m' (r' % n) then w else word_at n words m' r'))
    (λ here.
    let e = at_both m (r % n) m' (r' % n) here in
    ap (slice_index (set words p w)) (λ i. sym e.0 i * n + sym e.1 i)
    ∙ get_or-set_same words p w 0 within
    ∙ sym (rw here refl))
    (λ there.
    let other : m' * n + r' % n ≢ p = λ e.
    let q = apart n m (r % n) m' (r' % n) (mod-lt r some) (mod-lt r' some) (sym e) in
    true≢false (sym (at_same m (r % n) m' (r' % n) q.0 q.1) ∙ there) in
    get_or-set_other words p (m' * n + r' % n) w 0 other ∙ sym (rw there refl))

module _ (n : ℕ) (words : List ℕ) (m r t : ℕ) (some : 0 < n) (within : m * n + r % n < length words) (below : t < 16) (older : word_at n words m r < first_word r) where
  abbrev after : List ℕ
  after = set words (m * n + r % n) (word_of r t)

  word_same : (m' r' : ℕ) → is_at m (r % n) m' (r' % n) ≡ true → word_at n after m' r' ≡ word_of r t
  word_same m' r' here = set_word n words m r (word_of r t) some within m' r' ∙ rw here refl

  word_else : (m' r' : ℕ) → is_at m (r % n) m' (r' % n) ≡ false → word_at n after m' r' ≡ word_at n words m' r'
  word_else m' r' there = set_word n words m r (word_of r t) some within m' r' ∙ rw there refl

  -- before, such a rank's word was older
  word_before : (m' r' : ℕ) → is_at m (r % n) m' (r' % n) ≡ true → word_at n words m' r' < first_word r
  word_before m' r' here =
      let e = at_both m (r % n) m' (r' % n) here in
      subst (λ (p : ℕ). slice_index words p < first_word r) (λ i. e.0 i * n + e.1 i) older

  -- no word grows less
  pub words_grow : (m' r' : ℕ) → word_at n words m' r' ≤ word_at n after m' r'
  words_grow m' r' =
      decide (is_at m (r % n) m' (r' % n)) (word_at n words m' r' ≤ word_at n after m' r')
      (λ here. let e = word_same m' r' here in let l = word_before m' r' here in omega (arith, e, l))
      (λ there. let e = word_else m' r' there in omega (arith, e))

  -- the rank that is decided is the newest of its word
  pub newest_noted : (ranks : Ranks) → Newest n ranks words → Newest n (noted ranks m r t) after
  newest_noted ranks k = record { old = old; own = own; some = found }
    where
      old : (m' r' t' : ℕ) → noted ranks m r t m' r' ≡ Some t' → (t' < 16) × (word_of r' t' ≤ word_at n after m' r')
      old m' r' t' e =
          decide (is_at m r m' r') ((t' < 16) × (word_of r' t' ≤ word_at n after m' r'))
          (λ here.
          let p = at_both m r m' r' here in
          let same : t ≡ t' = some-same t t' (sym (noted_at ranks m r t m' r' here) ∙ e) in
          let is = word_same m' r' (at_same m (r % n) m' (r' % n) p.0 (ap (λ (x : ℕ). x % n) p.1)) in
          (subst (λ (x : ℕ). x < 16) same below, omega (arith, is, same, p.1)))
          (λ there.
          let k' = k.old m' r' t' (sym (noted_else ranks m r t m' r' there) ∙ e) in
          let grow = words_grow m' r' in
          (k'.0, omega (arith, k'.1, grow)))

      own : (m' r' t' : ℕ) → t' < 16 → word_at n after m' r' ≡ word_of r' t' → noted ranks m r t m' r' ≡ Some t'
      own m' r' t' less e =
          decide (is_at m (r % n) m' (r' % n)) (noted ranks m r t m' r' ≡ Some t')
          (λ here.
          let p = at_both m (r % n) m' (r' % n) here in
          let is : word_of r t ≡ word_of r' t' = sym (word_same m' r' here) ∙ e in
          let rank : r ≡ r' = omega (arith, is, below, less) in
          let thread : t ≡ t' = omega (arith, is, rank) in
          noted_at ranks m r t m' r' (at_same m r m' r' p.0 rank) ∙ ap (λ (x : ℕ). Some x) thread)
          (λ there.
          let other : is_at m r m' r' ≡ false = decide (is_at m r m' r') (is_at m r m' r' ≡ false)
          (λ b. let p = at_both m r m' r' b in absurd (true≢false (sym (at_same m (r % n) m' (r' % n) p.0 (ap (λ (x : ℕ). x % n) p.1)) ∙ there)))
          (λ b. b) in
          noted_else ranks m r t m' r' other ∙ k.own m' r' t' less (sym (word_else m' r' there) ∙ e))

      found : (m' r' : ℕ) → word_at n after m' r' ≢ 0 → (r'' : ℕ) × (t' : ℕ) × (t' < 16) × (r'' % n ≡ r' % n) × (word_at n after m' r' ≡ word_of r'' t')
      found m' r' nonzero =
          decide (is_at m (r % n) m' (r' % n)) ((r'' : ℕ) × (t' : ℕ) × (t' < 16) × (r'' % n ≡ r' % n) × (word_at n after m' r' ≡ word_of r'' t'))
          (λ here. (r, t, below, (at_both m (r % n) m' (r' % n) here).1, word_same m' r' here))
          (λ there.
          let e = word_else m' r' there in
          let k' = k.some m' r' (λ zero_is. nonzero (e ∙ zero_is)) in
          (k'.0, k'.1, k'.2, k'.3, e ∙ k'.4))

-- a rank that its word is older than is not decided
pub undecided : (n : ℕ) (ranks : Ranks) (words : List ℕ) (m r : ℕ) → Newest n ranks words → word_at n words m r < first_word r → ranks m r ≡ None
undecided n ranks words m r k less = by (ranks m r) refl
  where
    by : (o : Option ℕ) → ranks m r ≡ o → ranks m r ≡ None
    by None e = e
    by (Some t) e = let old = (k.old m r t e).1 in absurd (omega (arith, old, less))

-- each word tells of each of its ranks what was decided
pub tells : (n : ℕ) (ranks : Ranks) (words : List ℕ) → Newest n ranks words → (m r : ℕ) → Tells n ranks m r (row_in r (word_at n words m r))
tells n ranks words k m r = by (word_is r (word_at n words m r))
  where
    by : Kind r (word_at n words m r) → Tells n ranks m r (row_in r (word_at n words m r))
    by (is_older less e) = subst (Tells n ranks m r) (sym e) (undecided n ranks words m r k less)
    by (is_this t less is e) = subst (Tells n ranks m r) (sym e) (k.own m r t less is)
    by (is_newer least e) =
        let f = k.some m r (λ zero_is. omega (arith, least, zero_is)) in
        let w = f.4 in
        let below = f.2 in
        subst (Tells n ranks m r) (sym e) (f.0, f.1, omega (arith, least, w, below), f.3, k.own m f.0 f.1 below (ap (λ (x : ℕ). slice_index words (m * n + x)) f.3 ∙ w))
