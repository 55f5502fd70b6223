-- What one exchange more leaves of a hand whose steps found older words.
use Rattle.std.proofs.Common.{◌≡◌, ℕ, ◌<◌, ◌≤◌, ◌==◌, true, false, List, [], ◌∷◌, ◌++◌, sym, ap, ◌∙◌, subst, Option, Some, None}
use Rattle.std.proofs.lemmas.Bool.{eqb-true}
use Rattle.ro_lockpage.specs.Ranks.{Decided, decided, asked, first_word, row_in, thread_in, given, told, won_then, steps, AreOlder}
use Rattle.ro_lockpage.specs.Hands.{Hand}
use Rattle.ro_lockpage.specs.Seats.{Shows, Keeps, after_exchange, after_looks, after_decide}
use Rattle.ro_lockpage.specs.declared.words.Answer.{Answer}
use Rattle.ro_lockpage.proofs.Notes.{row_older}
use Rattle.ro_lockpage.proofs.Hands.{steps_end}

pub older_end : (r : ℕ) (ws : List ℕ) (w : ℕ) → AreOlder r ws → w < first_word r → AreOlder r (ws ++ w ∷ [])
older_end r [] w a less = (less, tt)
older_end r (x ∷ xs) w a less = (a.0, older_end r xs w a.1 less)

module _ (h : Hand) (m r t : ℕ) (older : List ℕ) (was found : ℕ) (less : was < first_word r) where
  -- what a word that is older leaves of what is known: all as it was
  known_same : told h.known m r (thread_in (row_in r was)) ≡ h.known
  known_same = ap (λ (o : Option Answer). told h.known m r (thread_in o)) (row_older r was less)

  one_more : (h.asked ++ steps m r (older ++ was ∷ [])) ++ asked m r found ∷ [] ≡ h.asked ++ steps m r ((older ++ was ∷ []) ++ found ∷ [])
  one_more = sym (steps_end h.asked m r (older ++ was ∷ []) found)

  -- the exchange found what it was for
  pub tried_won : (found == was) ≡ true → after_exchange (after_looks h m r older was) m r t was found ≡ after_decide h m r t (older ++ was ∷ []) found
  tried_won b =
      let none : row_in r found ≡ None = ap (row_in r) (eqb-true found was b) ∙ row_older r was less in
      rw b
      (λ i. record {
        number = h.number;
        known = (ap (λ (l : List Decided). decided m r t ∷ l) known_same ∙ sym (ap (λ (o : Option Answer). told h.known m r (thread_in (Some (given o t)))) none)) i;
        won = sym (ap (λ (o : Option Answer). won_then h.won o m r t) none) i;
        asked = one_more i;
      })

  -- it found another word
  pub tried_again : (found == was) ≡ false → after_exchange (after_looks h m r older was) m r t was found ≡ after_looks h m r (older ++ was ∷ []) found
  tried_again b =
      rw b
      (λ i. record {
        number = h.number;
        known = told (known_same i) m r (thread_in (row_in r found));
        won = h.won;
        asked = one_more i;
      })

  pub still : Shows (after_looks h m r older was) m r found → Keeps h.known m r found
  still s = subst (λ (l : List Decided). Keeps l m r found) known_same s.knew

  pub grown : Shows (after_looks h m r older was) m r found → was ≤ found
  grown s = s.since (h.asked ++ steps m r older) was (steps_end h.asked m r older was)
