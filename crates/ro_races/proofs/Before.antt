-- What happens before a step is what its thread's past and what it learns from bring.
use Rattle.std.specs.Prelude.{◌≡◌, ℕ, ◌⊎◌, ◌↔◌, ◌==◌, true, List, Option, Some, None, slice_get}
use Rattle.std.proofs.Common.{refl, sym, ap, ◌∙◌, subst, arith, inl, inr, ⊎_elim}
use Rattle.ro_plain.specs.Machine.{Program}
use Rattle.std.proofs.lemmas.Bool.{false≢true, eqb-true}
use Rattle.ro_plain.specs.Order.{Sync, Unlocks, Locks, Makes, Joins, Exits, Updates, Observes, Nothing, is_on_word, sync_at, HappensBefore, in_thread, by_mutex, by_word, by_creation, by_join, chain}
use Rattle.ro_plain.proofs.Calls.{some-injective}
use Rattle.ro_races.specs.declared.sources.Source.{Source}
use Rattle.ro_races.specs.declared.sources.Source.TheVariants.{Thread, Mutex, Exit, Word}
use Rattle.ro_races.specs.Clocks.{learns_from, passes_to, UpTo, Feeds, Past, PastOf}

same-number : (a : ℕ) → (a == a) ≡ true
same-number a = grind arith

-- a step on a word learns from it
on-word : (word : ℕ) (s : Sync) → is_on_word word s ≡ true → learns_from s ≡ Some (Word word)
on-word word (Updates other) h = ap (λ (w : ℕ). Some (Word w)) (eqb-true other word h)
on-word word (Observes other) h = ap (λ (w : ℕ). Some (Word w)) (eqb-true other word h)
on-word word (Unlocks mutex) h = absurd (false≢true h)
on-word word (Locks mutex) h = absurd (false≢true h)
on-word word (Makes thread) h = absurd (false≢true h)
on-word word (Joins thread) h = absurd (false≢true h)
on-word word Exits h = absurd (false≢true h)
on-word word Nothing h = absurd (false≢true h)

module _ (program : Program) (threads : List ℕ) where
  -- what is up to a place is before what that place is before
  pub up-to-before : (i m k : ℕ) → UpTo program threads m i → HappensBefore program threads m k → HappensBefore program threads i k
  up-to-before i m k (inl e) h = subst (λ (n : ℕ). HappensBefore program threads n k) (sym e) h
  up-to-before i m k (inr g) h = chain g h

  -- ---- of the step of a thread at a place

  module _ (k t : ℕ) (there : slice_get threads k ≡ Some t) where
    known-thread : (i : ℕ) → Past program threads k (Thread t) i → HappensBefore program threads i k
    known-thread i p = by p.feeds
      where
        by : Feeds program threads (Thread t) p.last → HappensBefore program threads i k
        by (inl own) = up-to-before i p.last k p.up (in_thread t p.early own there)
        by (inr made) = up-to-before i p.last k p.up (by_creation t p.early made there)

    known-source : (s : Sync) → sync_at program threads k ≡ s → (i : ℕ) → PastOf program threads k (learns_from s) i → HappensBefore program threads i k
    known-source (Locks mutex) e i p = up-to-before i p.last k p.up (by_mutex mutex p.early p.feeds e)
    known-source (Joins other) e i p = up-to-before i p.last k p.up (by_join other p.early p.feeds.0 p.feeds.1 e)
    known-source (Updates word) e i p = up-to-before i p.last k p.up (by_word word p.early p.feeds (ap (is_on_word word) e ∙ same-number word))
    known-source (Observes word) e i p = up-to-before i p.last k p.up (by_word word p.early p.feeds (ap (is_on_word word) e ∙ same-number word))
    known-source (Unlocks mutex) e i p = absurd p
    known-source (Makes other) e i p = absurd p
    known-source Exits e i p = absurd p
    known-source Nothing e i p = absurd p

    learnt : (s : Sync) (source : Source) (i : ℕ) → learns_from s ≡ Some source → Past program threads k source i → PastOf program threads k (learns_from s) i
    learnt s source i e p = subst (λ (o : Option Source). PastOf program threads k o i) (sym e) p

    -- by the last relation on the way to the step
    by-last : {i a b : ℕ} → HappensBefore program threads a b → b ≡ k → UpTo program threads a i → Past program threads k (Thread t) i ⊎ PastOf program threads k (learns_from (sync_at program threads k)) i
    by-last {i} {a} (in_thread u less own at) same up =
        let f : u ≡ t = some-injective (sym at ∙ (ap (slice_get threads) same ∙ there)) in
        inl (record { last = a; early = omega (arith, less, same); feeds = inl (own ∙ ap Some f); up = up })
    by-last {i} {a} (by_mutex mutex less un lo) same up =
        inr (learnt (sync_at program threads k) (Mutex mutex) i (ap learns_from (ap (sync_at program threads) (sym same) ∙ lo)) (record { last = a; early = omega (arith, less, same); feeds = un; up = up }))
    by-last {i} {a} (by_word word less up_dates on) same up =
        inr (learnt (sync_at program threads k) (Word word) i (on-word word (sync_at program threads k) (ap (λ (n : ℕ). is_on_word word (sync_at program threads n)) (sym same) ∙ on)) (record { last = a; early = omega (arith, less, same); feeds = up_dates; up = up }))
    by-last {i} {a} (by_creation u less made at) same up =
        let f : u ≡ t = some-injective (sym at ∙ (ap (slice_get threads) same ∙ there)) in
        inl (record { last = a; early = omega (arith, less, same); feeds = inr (made ∙ ap Makes f); up = up })
    by-last {i} {a} (by_join other less own ex jo) same up =
        inr (learnt (sync_at program threads k) (Exit other) i (ap learns_from (ap (sync_at program threads) (sym same) ∙ jo)) (record { last = a; early = omega (arith, less, same); feeds = (own, ex); up = up }))
    by-last {i} {a} (chain {j = j} g h) same up = by-last h same (inr (up-to-before i a j up g))

    -- a place happens before the step exactly where it is in one of these pasts
    pub before-is : (i : ℕ) → HappensBefore program threads i k ↔ (Past program threads k (Thread t) i ⊎ PastOf program threads k (learns_from (sync_at program threads k)) i)
    before-is i = (λ h. by-last h refl (inl refl), ⊎_elim (known-thread i) (known-source (sync_at program threads k) refl i))

    -- ---- to what the step passes on

    thread-fed : (u : ℕ) → Feeds program threads (Thread u) k → (Thread u ≡ Thread t) ⊎ (passes_to t (sync_at program threads k) ≡ Some (Thread u))
    thread-fed u (inl own) = inl (ap Thread (some-injective (sym own ∙ there)))
    thread-fed u (inr made) = inr (ap (passes_to t) made)

    pub fed : (source : Source) → Feeds program threads source k → (source ≡ Thread t) ⊎ (passes_to t (sync_at program threads k) ≡ Some source)
    fed (Thread u) f = thread-fed u f
    fed (Mutex mutex) f = inr (ap (passes_to t) f)
    fed (Word word) f = inr (ap (passes_to t) f)
    fed (Exit u) f = inr (ap (passes_to t) f.1 ∙ ap (λ v. Some (Exit v)) (some-injective (sym there ∙ f.0)))

    pub feeds-own : Feeds program threads (Thread t) k
    feeds-own = inl there

    pub feeds-passed : (s : Sync) (source : Source) → sync_at program threads k ≡ s → passes_to t s ≡ Some source → Feeds program threads source k
    feeds-passed (Unlocks mutex) source e f = subst (λ (x : Source). Feeds program threads x k) (some-injective f) e
    feeds-passed (Makes other) source e f = subst (λ (x : Source). Feeds program threads x k) (some-injective f) (inr e)
    feeds-passed Exits source e f = subst (λ (x : Source). Feeds program threads x k) (some-injective f) (there, e)
    feeds-passed (Updates word) source e f = subst (λ (x : Source). Feeds program threads x k) (some-injective f) e
    feeds-passed (Observes word) source e f = absurd (let g : None ≡ Some source = f in cc)
    feeds-passed (Locks mutex) source e f = absurd (let g : None ≡ Some source = f in cc)
    feeds-passed (Joins other) source e f = absurd (let g : None ≡ Some source = f in cc)
    feeds-passed Nothing source e f = absurd (let g : None ≡ Some source = f in cc)
