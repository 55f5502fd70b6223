-- What clocks know, as a run goes on.
use Rattle.std.specs.Prelude.{◌≡◌, ◌≢◌, ℕ, suc, ◌<◌, ◌⊎◌, ◌↔◌, max, ◌==◌, Bool, true, false, List, Some, slice_get}
use Rattle.std.proofs.Common.{refl, sym, ap, ◌∙◌, subst, arith, inl, inr, ⊎_elim}
use Rattle.std.proofs.Math.Nat.{le-max_left, le-max_right}
use Rattle.ro_plain.specs.Machine.{Program}
use Rattle.ro_plain.specs.Order.{HappensBefore, in_thread}
use Rattle.ro_plain.proofs.Calls.{some-injective}
use Rattle.ro_plain.proofs.Unordered.{happens-later}
use Rattle.ro_races.specs.declared.sources.Source.{Source}
use Rattle.ro_races.specs.Clocks.{Clock, IsJoined, IsStepped, Knows, UpTo, Feeds, Past}

below-max : (i m n : ℕ) → i < max m n → (i < m) ⊎ (i < n)
below-max i m n h = grind arith

above-left : (i m n : ℕ) → i < m → i < max m n
above-left i m n h = let f = le-max_left m n in omega arith

above-right : (i m n : ℕ) → i < n → i < max m n
above-right i m n h = let f = le-max_right m n in omega arith

below-or-is : (i k : ℕ) → i < suc k → (i < k) ⊎ (i ≡ k)
below-or-is i k h = grind arith

module _ (program : Program) (threads : List ℕ) where
  pub knows-none : (clock : Clock) (P : ℕ → Type 0) → ((thread : ℕ) → clock thread ≡ 0) → ((i : ℕ) → P i → ⊥) → Knows program threads clock P
  knows-none clock P zero_all none i u there = (λ less. absurd (let e = zero_all u in omega arith), λ p. absurd (none i p))

  pub knows-joined : (a b c : Clock) (P Q : ℕ → Type 0) → Knows program threads a P → Knows program threads b Q → IsJoined a b c → Knows program threads c (λ i. P i ⊎ Q i)
  knows-joined a b c P Q f g is i u there = (
    λ less. ⊎_elim (λ h. inl ((f i u there).0 h)) (λ h. inr ((g i u there).0 h)) (below-max i (a u) (b u) (subst (λ (n : ℕ). i < n) (is u) less)),
    λ p. subst (λ (n : ℕ). i < n) (sym (is u)) (⊎_elim (λ h. above-left i (a u) (b u) ((f i u there).1 h)) (λ h. above-right i (a u) (b u) ((g i u there).1 h)) p),
  )

  pub knows-same : (a : Clock) (P Q : ℕ → Type 0) → Knows program threads a P → ((i : ℕ) → P i ↔ Q i) → Knows program threads a Q
  knows-same a P Q f is i u there = (λ less. (is i).0 ((f i u there).0 less), λ q. (f i u there).1 ((is i).1 q))

  -- nothing is known before the first place
  pub none-past : (source : Source) (i : ℕ) → Past program threads 0 source i → ⊥
  none-past source i p = let e = p.early in omega arith

  -- ---- after the step of a thread at a place

  module _ (k t : ℕ) (there : slice_get threads k ≡ Some t) where
    -- the clock of a step and the step itself
    pub knows-stepped : (old new : Clock) → Knows program threads old (λ i. HappensBefore program threads i k) → IsStepped old t k new → Knows program threads new (UpTo program threads k)
    knows-stepped old new f is i u at = by (u == t) refl
      where
        own : u ≡ t → (i < new u) ↔ UpTo program threads k i
        own e =
            let value : new u ≡ suc k = ap new e ∙ is.own in
            (λ less. split (below-or-is i k (omega arith)), λ up. ⊎_elim (λ h. omega arith) (λ h. let later = happens-later h in omega arith) up)
          where
            split : (i < k) ⊎ (i ≡ k) → UpTo program threads k i
            split (inl less) = inr (in_thread t less (at ∙ ap Some e) there)
            split (inr same) = inl same

        other : (u ≢ t) → (i < new u) ↔ UpTo program threads k i
        other ne =
            let value : new u ≡ old u = is.others u ne in
            (λ less. inr ((f i u at).0 (omega arith)), λ up. ⊎_elim (λ e. absurd (ne (some-injective (sym at ∙ (ap (slice_get threads) e ∙ there))))) (λ h. subst (λ (n : ℕ). i < n) (sym value) ((f i u at).1 h)) up)

        by : (b : Bool) → (u == t) ≡ b → (i < new u) ↔ UpTo program threads k i
        by true e = own (grind (arith, e))
        by false e = other (λ g. grind (arith, e, g))

    -- a source to which the step passes on
    pub past-more : (source : Source) → Feeds program threads source k → (i : ℕ) → (Past program threads k source i ⊎ UpTo program threads k i) ↔ Past program threads (suc k) source i
    past-more source f i = (⊎_elim (λ p. record { last = p.last; early = (let e = p.early in omega arith); feeds = p.feeds; up = p.up }) (λ up. record { last = k; early = omega arith; feeds = f; up = up }), λ p. by p (below-or-is p.last k p.early))
      where
        by : (p : Past program threads (suc k) source i) → (p.last < k) ⊎ (p.last ≡ k) → Past program threads k source i ⊎ UpTo program threads k i
        by p (inl less) = inl (record { last = p.last; early = less; feeds = p.feeds; up = p.up })
        by p (inr e) = inr (subst (λ (n : ℕ). UpTo program threads n i) e p.up)

    -- one to which it doesn't
    pub past-same : (source : Source) → (Feeds program threads source k → ⊥) → (i : ℕ) → Past program threads k source i ↔ Past program threads (suc k) source i
    past-same source not_fed i = (λ p. record { last = p.last; early = (let e = p.early in omega arith); feeds = p.feeds; up = p.up }, λ p. by p (below-or-is p.last k p.early))
      where
        by : (p : Past program threads (suc k) source i) → (p.last < k) ⊎ (p.last ≡ k) → Past program threads k source i
        by p (inl less) = record { last = p.last; early = less; feeds = p.feeds; up = p.up }
        by p (inr e) = absurd (not_fed (subst (λ (n : ℕ). Feeds program threads source n) e p.feeds))

    pub knows-more : (source : Source) (old past new : Clock) → Feeds program threads source k → Knows program threads old (Past program threads k source) → Knows program threads past (UpTo program threads k) → IsJoined old past new → Knows program threads new (Past program threads (suc k) source)
    knows-more source old past new f a b is =
        knows-same new _ (Past program threads (suc k) source) (knows-joined old past new (Past program threads k source) (UpTo program threads k) a b is) (past-more source f)

    -- passing on a second time teaches nothing
    pub knows-again : (source : Source) (old past new : Clock) → Feeds program threads source k → Knows program threads old (Past program threads (suc k) source) → Knows program threads past (UpTo program threads k) → IsJoined old past new → Knows program threads new (Past program threads (suc k) source)
    knows-again source old past new f a b is =
        knows-same new _ (Past program threads (suc k) source) (knows-joined old past new (Past program threads (suc k) source) (UpTo program threads k) a b is)
        (λ i. (⊎_elim (λ p. p) (λ up. (past-more source f i).0 (inr up)), inl))

    pub knows-still : (source : Source) (old : Clock) → (Feeds program threads source k → ⊥) → Knows program threads old (Past program threads k source) → Knows program threads old (Past program threads (suc k) source)
    knows-still source old not_fed a = knows-same old (Past program threads k source) (Past program threads (suc k) source) a (past-same source not_fed)
