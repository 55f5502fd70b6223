-- A thread's steps are those up to its last event, the same in each peer, and those since then.
use Rattle.std.specs.Prelude.{◌≡◌, ◌≢◌, ℕ, zero, suc, ◌+◌, ◌<◌, Bool, cond, List, [], ◌∷◌, ◌++◌, length, map, Option, Some, None, slice_get}
use Rattle.std.proofs.Common.{refl, sym, ap, ◌∙◌, subst, arith}
use Rattle.std.proofs.lemmas.Bool.{eq-eqb}
use Rattle.ro_event.specs.declared.effects.Made.{Made}
use Rattle.ro_event.specs.Effects.{Effect}
use Rattle.ro_thread.specs.declared.Thread.{Thread}
use Rattle.ro_replica.specs.Replica.{changed_at, thread_after, with_made, without_cancelled, applied, cancelled}
use Rattle.ro_simulation.proofs.Effects.{IsOf, ThreadAfter, as_before, its_own, newly_made, thread-cases}
use Rattle.ro_legal.proofs.Effects.{backed_after, threads_after}
use Rattle.ro_legal.proofs.Lists.{get-map, MappedFrom}
use Rattle.ro_orders.specs.Turns.{times}
use Rattle.ro_orders.proofs.Owners.{differs}
use Rattle.ro_orders.proofs.Copies.{times-append}
use Rattle.ro_peer.specs.declared.mutexes.Mutex.{Mutex}
use Rattle.ro_peer.specs.Peers.{Peer}
use Rattle.ro_peer.specs.Events.{without_own}
use Rattle.ro_coop.specs.Core.{peer_after_event}

-- what each thread's count is, and that none passes the watchdog
abbrev pub Counted : (watchdog : ℕ) (times base : ℕ → ℕ) → List Thread → Type 0
Counted watchdog times base threads = (u : ℕ) (x : Thread) → slice_get threads u ≡ Some x → (times u ≡ base u + x.since) × (x.since < suc watchdog)

-- a thread that is not made has taken no step
abbrev pub Unmade : (times base : ℕ → ℕ) → List Thread → Type 0
Unmade times base threads = (u : ℕ) → slice_get threads u ≡ None → (times u ≡ 0) × (base u ≡ 0)

-- ---- counts

pub count-other : (t u : ℕ) (xs : List ℕ) → u ≢ t → times u (xs ++ t ∷ []) ≡ times u xs
count-other t u xs d = times-append u xs (t ∷ []) ∙ (ap (λ (b : Bool). times u xs + (cond b 1 0 + 0)) (differs t u (λ e. d (sym e))) ∙ as-many (times u xs))
  where
    as-many : (n : ℕ) → n + (0 + 0) ≡ n
    as-many n = omega arith

pub count-own : (t : ℕ) (xs : List ℕ) → times t (xs ++ t ∷ []) ≡ suc (times t xs)
count-own t xs = times-append t xs (t ∷ []) ∙ (ap (λ (b : Bool). times t xs + (cond b 1 0 + 0)) (eq-eqb t t refl) ∙ next-one (times t xs))
  where
    next-one : (n : ℕ) → n + (1 + 0) ≡ suc n
    next-one n = omega arith

-- ---- lists

none-map : {X Y : Type 0} (f : X → Y) (xs : List X) (u : ℕ) → slice_get (map f xs) u ≡ None → slice_get xs u ≡ None
none-map f [] u e = refl
none-map f (x ∷ xs) zero e = absurd (let g : Some (f x) ≡ None = e in cc)
none-map f (x ∷ xs) (suc u) e = none-map f xs u e

pub none-changed : {X : Type 0} (f : X → X) (xs : List X) (t u : ℕ) → slice_get (changed_at f xs t) u ≡ None → slice_get xs u ≡ None
none-changed f [] t u e = refl
none-changed f (x ∷ xs) zero zero e = absurd (let g : Some (f x) ≡ None = e in cc)
none-changed f (x ∷ xs) zero (suc u) e = e
none-changed f (x ∷ xs) (suc t) zero e = absurd (let g : Some x ≡ None = e in cc)
none-changed f (x ∷ xs) (suc t) (suc u) e = none-changed f xs t u e

none-append : {X : Type 0} (xs ys : List X) (u : ℕ) → slice_get (xs ++ ys) u ≡ None → slice_get xs u ≡ None
none-append [] ys u e = refl
none-append (x ∷ xs) ys zero e = absurd (let g : Some x ≡ None = e in cc)
none-append (x ∷ xs) ys (suc u) e = none-append xs ys u e

none-made : (made : Option Made) (xs : List Thread) (u : ℕ) → slice_get (with_made made xs) u ≡ None → slice_get xs u ≡ None
none-made None xs u e = e
none-made (Some made) [] u e = refl
none-made (Some made) (x ∷ xs) u e = none-append (x ∷ xs) _ u e

none-behind : {X : Type 0} (xs : List X) (u : ℕ) → u ≡ length xs → slice_get xs u ≡ None
none-behind [] u e = refl
none-behind (x ∷ xs) zero e = absurd (omega arith)
none-behind (x ∷ xs) (suc u) e = none-behind xs u (omega arith)

-- ---- behind an event of thread t

module _ (effect : Effect) (entered : List Mutex) (peer : Peer) (t : ℕ) (x : Thread) (there : slice_get peer.replica.threads t ≡ Some x) (own : IsOf effect t) (watchdog : ℕ) (old new base anew : ℕ → ℕ)
    (same : (u : ℕ) → u ≢ t → new u ≡ old u) (same_base : (u : ℕ) → u ≢ t → anew u ≡ base u) (its : new t ≡ anew t) (counted : Counted watchdog old base peer.replica.threads) (unmade : Unmade old base peer.replica.threads) where
  apart : (u : ℕ) → slice_get peer.replica.threads u ≡ None → u ≢ t
  apart u e q = let f : None ≡ Some x = sym e ∙ (ap (slice_get peer.replica.threads) q ∙ there) in cc

  is-zero : (a b c : ℕ) → a ≡ 0 → b ≡ 0 → c ≡ 0 → a ≡ b + c
  is-zero a b c e f g = omega arith

  and-none : (a b c : ℕ) → a ≡ b → c ≡ 0 → a ≡ b + c
  and-none a b c e f = omega arith

  below : (n w : ℕ) → n ≡ 0 → n < suc w
  below n w e = omega arith

  by-thread : (u : ℕ) (y : Thread) → ThreadAfter effect peer.replica.threads t x u y → (new u ≡ anew u + y.since) × (y.since < suc watchdog)
  by-thread u y (as_before d e) = let c = counted u y e in (same u d ∙ (c.0 ∙ ap (λ (n : ℕ). n + y.since) (sym (same_base u d))), c.1)
  by-thread u y (its_own d g) =
      let none : y.since ≡ 0 = ap (λ (z : Thread). z.since) (sym g) in
      (ap new d ∙ (its ∙ (and-none (anew t) (anew t) y.since refl none ∙ ap (λ (n : ℕ). anew n + y.since) (sym d))), below y.since watchdog none)
  by-thread u y (newly_made made e n g) =
      let none : y.since ≡ 0 = ap (λ (z : Thread). z.since) (sym g) in
      let before = none-behind peer.replica.threads u n in
      let d = apart u before in
      (is-zero (new u) (anew u) y.since (same u d ∙ (unmade u before).0) (same_base u d ∙ (unmade u before).1) none, below y.since watchdog none)

  pub counted-after : Counted watchdog new anew (peer_after_event effect entered peer).replica.threads
  unfolding applied cancelled
  counted-after u z at =
      let one : MappedFrom (without_own (peer.mutexes ++ entered)) (map (without_cancelled (backed_after effect peer.replica.backed)) (threads_after effect peer.replica.threads)) u z = get-map (without_own (peer.mutexes ++ entered)) _ u z at in
      let two : MappedFrom (without_cancelled (backed_after effect peer.replica.backed)) (threads_after effect peer.replica.threads) u one.from = get-map (without_cancelled (backed_after effect peer.replica.backed)) _ u one.from one.there in
      let c = by-thread u two.from (thread-cases effect peer.replica.threads t x u two.from own there two.there) in
      let since : two.from.since ≡ z.since = ap (λ (y : Thread). y.since) two.gives ∙ ap (λ (y : Thread). y.since) one.gives in
      (c.0 ∙ ap (λ (n : ℕ). anew u + n) since, subst (λ (n : ℕ). n < suc watchdog) since c.1)

  pub unmade-after : Unmade new anew (peer_after_event effect entered peer).replica.threads
  unfolding applied cancelled
  unmade-after u e =
      let before : slice_get peer.replica.threads u ≡ None =
      none-changed (thread_after effect) peer.replica.threads effect.thread u (none-made effect.made _ u (none-map (without_cancelled (backed_after effect peer.replica.backed)) (threads_after effect peer.replica.threads) u (none-map (without_own (peer.mutexes ++ entered)) _ u e))) in
      let d = apart u before in
      (same u d ∙ (unmade u before).0, same_base u d ∙ (unmade u before).1)
