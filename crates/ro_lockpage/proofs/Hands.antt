-- What a rank that is decided leaves of each hand.
use Rattle.std.proofs.Common.{◌≡◌, ◌≢◌, ℕ, ◌≤◌, ◌==◌, Bool, true, false, if◌then◌else◌, List, [], ◌∷◌, ◌++◌, refl, sym, ap, ◌∙◌, subst, arith, eq-eqb, ne_eqb, append_assoc, Option, Some, None}
use Rattle.std.proofs.lemmas.List.{append-nil}
use Rattle.std.proofs.lemmas.List.Elements.{filter-append}
use Rattle.ro_lockpage.specs.Ranks.{Ranks, Decided, decided, Asked, asked, is_at, noted, map_of, of_rank, once, thread_in, told, steps, Since}
use Rattle.ro_lockpage.specs.Hands.{Hand}
use Rattle.ro_lockpage.specs.Seats.{Fits, after_win}
use Rattle.ro_lockpage.specs.declared.words.Answer.{Answer}
use Rattle.ro_lockpage.specs.declared.words.Answer.TheVariants.{For, Passed}
use Rattle.ro_lockpage.proofs.Notes.{at_both, decide, noted_at, noted_else, none-some}

abbrev pub Winner : Type 0
Winner = ℕ → ℕ → ℕ

abbrev pub WordOf : Type 0
WordOf = ℕ → ℕ → ℕ

-- the rank of the mutex is won by n
abbrev pub won_by : Winner → ℕ → ℕ → ℕ → Winner
won_by winner m r n m' r' = if is_at m r m' r' then n else winner m' r'

none_once : (b : Bool) (m r : ℕ) (o : Option ℕ) → o ≡ None → (if b then once m r o else []) ≡ []
none_once true m r o e = ap (once m r) e
none_once false m r o e = refl

-- ---- what steps found, and words since

pub since_grows : (word word' : WordOf) → ((m r : ℕ) → word m r ≤ word' m r) → (xs : List Asked) → Since word xs → Since word' xs
since_grows word word' grow [] s = tt
since_grows word word' grow (a ∷ xs) s = (let g = grow a.mutex a.rank in omega (arith, g, s.0), since_grows word word' grow xs s.1)

pub since_end : (word : WordOf) (xs : List Asked) (m r w : ℕ) → Since word xs → w ≤ word m r → Since word (xs ++ asked m r w ∷ [])
since_end word [] m r w s less = (less, tt)
since_end word (a ∷ xs) m r w s less = (s.0, since_end word xs m r w s.1 less)

pub since_last : (word : WordOf) (xs : List Asked) (m r w : ℕ) → Since word (xs ++ asked m r w ∷ []) → w ≤ word m r
since_last word [] m r w s = s.0
since_last word (a ∷ xs) m r w s = since_last word xs m r w s.1

-- a step more for the rank
pub steps_end : (xs : List Asked) (m r : ℕ) (ws : List ℕ) (w : ℕ) → xs ++ steps m r (ws ++ w ∷ []) ≡ (xs ++ steps m r ws) ++ asked m r w ∷ []
steps_end xs m r ws w = ap (λ (l : List Asked). xs ++ l) (one ws) ∙ sym (append_assoc xs (steps m r ws) (asked m r w ∷ []))
  where
    one : (ws : List ℕ) → steps m r (ws ++ w ∷ []) ≡ steps m r ws ++ asked m r w ∷ []
    one [] = refl
    one (x ∷ xs) = ap (λ (l : List Asked). asked m r x ∷ l) (one xs)

-- ---- a rank that is decided

module _ (ranks : Ranks) (m r t : ℕ) (empty : ranks m r ≡ None) where
  -- what was known stands still
  known_on : (known : Ranks) → ((m' r' t' : ℕ) → known m' r' ≡ Some t' → ranks m' r' ≡ Some t') → (m' r' t' : ℕ) → known m' r' ≡ Some t' → noted ranks m r t m' r' ≡ Some t'
  known_on known stands m' r' t' e =
      decide (is_at m r m' r') (noted ranks m r t m' r' ≡ Some t')
      (λ here.
      let p = at_both m r m' r' here in
      let none : ranks m' r' ≡ None = subst (λ (y : ℕ × ℕ). ranks y.0 y.1 ≡ None) (λ i. (p.0 i, p.1 i)) empty in
      absurd (none-some t' (sym none ∙ stands m' r' t' e)))
      (λ there. noted_else ranks m r t m' r' there ∙ stands m' r' t' e)

  module _ (word word' : WordOf) (grow : (m r : ℕ) → word m r ≤ word' m r) (winner : Winner) (owner : ℕ → ℕ) (id : ℕ) where
    -- a hand of another number
    pub fits_other : (n : ℕ) (h : Hand) → n ≢ h.number → Fits ranks word winner owner id h → Fits (noted ranks m r t) word' (won_by winner m r n) owner id h
    fits_other n h other f = record {
      number = f.number;
      seat = f.seat;
      known = known_on (map_of h.known) f.known;
      won = λ m' r'.
          decide (is_at m r m' r') (of_rank m' r' h.won ≡ (if won_by winner m r n m' r' == h.number then once m' r' (noted ranks m r t m' r') else []))
          (λ here.
          let p = at_both m r m' r' here in
          let none : ranks m' r' ≡ None = subst (λ (y : ℕ × ℕ). ranks y.0 y.1 ≡ None) (λ i. (p.0 i, p.1 i)) empty in
          f.won m' r' ∙ none_once (winner m' r' == h.number) m' r' (ranks m' r') none ∙ sym (rw here (rw (ne_eqb n h.number other) refl)))
          (λ there. f.won m' r' ∙ sym (rw there refl));
      since = since_grows word word' grow h.asked f.since;
    }

    -- the hand that decided it
    pub fits_winner : (h : Hand) (found : ℕ) → found ≤ word' m r → Fits ranks word winner owner id h → Fits (noted ranks m r t) word' (won_by winner m r h.number) owner id (after_win h m r t found)
    fits_winner h found most f = record {
      number = f.number;
      seat = f.seat;
      known = λ m' r' t' e.
          decide (is_at m r m' r') (noted ranks m r t m' r' ≡ Some t')
          (λ here. noted_at ranks m r t m' r' here ∙ (sym (noted_at (map_of h.known) m r t m' r' here) ∙ e))
          (λ there. known_on (map_of h.known) f.known m' r' t' (sym (noted_else (map_of h.known) m r t m' r' there) ∙ e));
      won = λ m' r'.
          filter-append (λ (d : Decided). is_at d.mutex d.rank m' r') h.won (decided m r t ∷ [])
          ∙ decide (is_at m r m' r') ((of_rank m' r' h.won ++ of_rank m' r' (decided m r t ∷ [])) ≡ (if won_by winner m r h.number m' r' == h.number then once m' r' (noted ranks m r t m' r') else []))
          (λ here.
          let p = at_both m r m' r' here in
          let none : ranks m' r' ≡ None = subst (λ (y : ℕ × ℕ). ranks y.0 y.1 ≡ None) (λ i. (p.0 i, p.1 i)) empty in
          let before : of_rank m' r' h.won ≡ [] = f.won m' r' ∙ none_once (winner m' r' == h.number) m' r' (ranks m' r') none in
          let one : of_rank m' r' (decided m r t ∷ []) ≡ decided m' r' t ∷ [] = one_of_rank m' r' true here ∙ (λ i. decided (p.0 i) (p.1 i) t ∷ []) in
          (λ i. before i ++ one i) ∙ sym (rw here (rw (eq-eqb h.number h.number refl) refl)))
          (λ there.
          (λ i. f.won m' r' i ++ one_of_rank m' r' false there i)
          ∙ append-nil (if winner m' r' == h.number then once m' r' (ranks m' r') else [])
          ∙ sym (rw there refl));
      since = since_end word' h.asked m r found (since_grows word word' grow h.asked f.since) most;
    }
      where
        one_of_rank : (m' r' : ℕ) (b : Bool) → is_at m r m' r' ≡ b → of_rank m' r' (decided m r t ∷ []) ≡ (if b then decided m r t ∷ [] else [])
        one_of_rank m' r' b e = rw e (by b)
          where
            by : (b : Bool) → (if b then decided m r t ∷ [] else []) ≡ (if b then decided m r t ∷ [] else [])
            by b = refl

-- a hand that was told what was decided, or nothing
pub fits_told : (ranks : Ranks) (word : WordOf) (m r : ℕ) (o : Option Answer) (winner : Winner) (owner : ℕ → ℕ) (id : ℕ) (h : Hand) (xs : List Asked) → ((t : ℕ) → o ≡ Some (For t) → ranks m r ≡ Some t) → Since word xs
    → Fits ranks word winner owner id h → Fits ranks word winner owner id (record { number = h.number; known = told h.known m r (thread_in o); won = h.won; asked = xs })
fits_told ranks word m r None winner owner id h xs full since f = record { number = f.number; seat = f.seat; known = f.known; won = f.won; since = since }
fits_told ranks word m r (Some Passed) winner owner id h xs full since f = record { number = f.number; seat = f.seat; known = f.known; won = f.won; since = since }
fits_told ranks word m r (Some (For t)) winner owner id h xs full since f = record {
  number = f.number;
  seat = f.seat;
  known = λ m' r' t' e.
      decide (is_at m r m' r') (ranks m' r' ≡ Some t')
      (λ here.
      let p = at_both m r m' r' here in
      subst (λ (y : ℕ × ℕ). ranks y.0 y.1 ≡ Some t) (λ i. (p.0 i, p.1 i)) (full t refl) ∙ (sym (noted_at (map_of h.known) m r t m' r' here) ∙ e))
      (λ there. f.known m' r' t' (sym (noted_else (map_of h.known) m r t m' r' there) ∙ e));
  won = f.won;
  since = since;
}

-- hands of another seat
pub fits_moved : (ranks : Ranks) (word : WordOf) (winner : Winner) (owner owner' : ℕ → ℕ) (id id' : ℕ) → (h : Hand) → owner' h.number ≡ id' → Fits ranks word winner owner id h → Fits ranks word winner owner' id' h
fits_moved ranks word winner owner owner' id id' h e f = record { number = f.number; seat = e; known = f.known; won = f.won; since = f.since }
