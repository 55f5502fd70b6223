-- Whether a step happens before another can be told, by the clocks of a run.
use Rattle.std.specs.Prelude.{◌≡◌, ℕ, zero, suc, ◌<◌, ◌≤◌, ◌⊎◌, ◌↔◌, max, ◌==◌, nat_lt, Bool, true, false, if◌then◌else◌, List, length, Option, Some, None, slice_get, get_or}
use Rattle.std.proofs.Common.{refl, sym, ap, ◌∙◌, arith, inl, inr, ⊎_elim}
use Rattle.std.proofs.lemmas.Bool.{true≢false, ltb-true, eqb-true, lt-ltb}
use Rattle.std.proofs.lemmas.Option.{slice_get-get_or}
use Rattle.ro_plain.specs.Machine.{Program, IsExecution}
use Rattle.ro_plain.specs.Order.{Sync, Unlocks, Locks, Makes, Joins, Exits, Updates, Observes, Nothing, sync_at, HappensBefore, RaceFree}
use Rattle.ro_plain.proofs.Calls.{some-injective}
use Rattle.ro_races.specs.declared.sources.Source.{Source}
use Rattle.ro_races.specs.declared.sources.Source.TheVariants.{Thread, Mutex, Exit, Word}
use Rattle.ro_races.specs.First.{HasNoRace}
use Rattle.ro_races.specs.Clocks.{Clock, IsStepped, learns_from, Knows, Feeds, Past, PastOf}
use Rattle.ro_races.proofs.Before.{before-is}
use Rattle.ro_races.proofs.Knowing.{knows-none, knows-joined, knows-same, none-past, knows-stepped, knows-more, knows-still}

-- it holds, or not
abbrev pub Told : Type 0 → Type 0
Told P = P ⊎ (P → ⊥)

pub numbers-told : (a b : ℕ) → Told (a ≡ b)
numbers-told a b = by (a == b) refl
  where
    by : (x : Bool) → (a == b) ≡ x → Told (a ≡ b)
    by true e = inl (eqb-true a b e)
    by false e = inr (λ f. grind (arith, e, f))

below-told : (a b : ℕ) → Told (a < b)
below-told a b = by (nat_lt a b) refl
  where
    by : (x : Bool) → nat_lt a b ≡ x → Told (a < b)
    by true e = inl (ltb-true a b e)
    by false e = inr (λ f. true≢false (sym (lt-ltb a b f) ∙ e))

option-told : (o : Option ℕ) (n : ℕ) → Told (o ≡ Some n)
option-told None n = inr (λ e. cc)
option-told (Some m) n = ⊎_elim (λ e. inl (ap Some e)) (λ f. inr (λ e. f (some-injective e))) (numbers-told m n)

unlocks-told : (s : Sync) (n : ℕ) → Told (s ≡ Unlocks n)
unlocks-told (Unlocks m) n = ⊎_elim (λ e. inl (ap Unlocks e)) (λ f. inr (λ e. f (let g : Unlocks m ≡ Unlocks n = e in cc))) (numbers-told m n)
unlocks-told (Locks m) n = inr (λ e. cc)
unlocks-told (Makes m) n = inr (λ e. cc)
unlocks-told (Joins m) n = inr (λ e. cc)
unlocks-told Exits n = inr (λ e. cc)
unlocks-told (Updates m) n = inr (λ e. cc)
unlocks-told (Observes m) n = inr (λ e. cc)
unlocks-told Nothing n = inr (λ e. cc)

makes-told : (s : Sync) (n : ℕ) → Told (s ≡ Makes n)
makes-told (Makes m) n = ⊎_elim (λ e. inl (ap Makes e)) (λ f. inr (λ e. f (let g : Makes m ≡ Makes n = e in cc))) (numbers-told m n)
makes-told (Locks m) n = inr (λ e. cc)
makes-told (Unlocks m) n = inr (λ e. cc)
makes-told (Joins m) n = inr (λ e. cc)
makes-told Exits n = inr (λ e. cc)
makes-told (Updates m) n = inr (λ e. cc)
makes-told (Observes m) n = inr (λ e. cc)
makes-told Nothing n = inr (λ e. cc)

exits-told : (s : Sync) → Told (s ≡ Exits)
exits-told (Makes m) = inr (λ e. cc)
exits-told (Locks m) = inr (λ e. cc)
exits-told (Unlocks m) = inr (λ e. cc)
exits-told (Joins m) = inr (λ e. cc)
exits-told Exits = inl refl
exits-told (Updates m) = inr (λ e. cc)
exits-told (Observes m) = inr (λ e. cc)
exits-told Nothing = inr (λ e. cc)

updates-told : (s : Sync) (n : ℕ) → Told (s ≡ Updates n)
updates-told (Updates m) n = ⊎_elim (λ e. inl (ap Updates e)) (λ f. inr (λ e. f (let g : Updates m ≡ Updates n = e in cc))) (numbers-told m n)
updates-told (Observes m) n = inr (λ e. cc)
updates-told (Unlocks m) n = inr (λ e. cc)
updates-told (Locks m) n = inr (λ e. cc)
updates-told (Makes m) n = inr (λ e. cc)
updates-told (Joins m) n = inr (λ e. cc)
updates-told Exits n = inr (λ e. cc)
updates-told Nothing n = inr (λ e. cc)

either-told : {P Q : Type 0} → Told P → Told Q → Told (P ⊎ Q)
either-told (inl p) q = inl (inl p)
either-told (inr f) (inl q) = inl (inr q)
either-told (inr f) (inr g) = inr (λ h. ⊎_elim f g h)

both-told : {P Q : Type 0} → Told P → Told Q → Told (P × Q)
both-told (inl p) (inl q) = inl (p, q)
both-told (inl p) (inr g) = inr (λ h. g h.1)
both-told (inr f) q = inr (λ h. f h.0)

module _ (program : Program) (threads : List ℕ) where
  feeds-told : (source : Source) (k : ℕ) → Told (Feeds program threads source k)
  feeds-told (Thread u) k = either-told (option-told (slice_get threads k) u) (makes-told (sync_at program threads k) u)
  feeds-told (Mutex m) k = unlocks-told (sync_at program threads k) m
  feeds-told (Word w) k = updates-told (sync_at program threads k) w
  feeds-told (Exit u) k = both-told (option-told (slice_get threads k) u) (exits-told (sync_at program threads k))

  -- a clock that knows these places
  abbrev ClockOf : (ℕ → Type 0) → Type 0
  ClockOf P = (clock : Clock) × Knows program threads clock P

  nothing-known : (P : ℕ → Type 0) → ((i : ℕ) → P i → ⊥) → ClockOf P
  nothing-known P none = (λ _. 0, knows-none program threads (λ _. 0) P (λ _. refl) none)

  both-known : (P Q : ℕ → Type 0) → ClockOf P → ClockOf Q → ClockOf (λ i. P i ⊎ Q i)
  both-known P Q p q = (λ u. max (p.0 u) (q.0 u), knows-joined program threads p.0 q.0 (λ u. max (p.0 u) (q.0 u)) P Q p.1 q.1 (λ _. refl))

  abbrev stepped : Clock → (t k : ℕ) → Clock
  stepped clock t k u = if u == t then suc k else clock u

  stepped-is : (clock : Clock) (t k : ℕ) → IsStepped clock t k (stepped clock t k)
  stepped-is clock t k = record { own = grind arith; others = λ other ne. grind (arith, ne) }

  of-known : (k : ℕ) → ((source : Source) → ClockOf (Past program threads k source)) → (o : Option Source) → ClockOf (PastOf program threads k o)
  of-known k all None = nothing-known (λ _. ⊥) (λ i p. p)
  of-known k all (Some source) = all source

  before-clock : (k t : ℕ) → slice_get threads k ≡ Some t → ((source : Source) → ClockOf (Past program threads k source)) → ClockOf (λ i. HappensBefore program threads i k)
  before-clock k t there all =
      let both = both-known (Past program threads k (Thread t)) (PastOf program threads k (learns_from (sync_at program threads k))) (all (Thread t)) (of-known k all (learns_from (sync_at program threads k))) in
      (both.0, knows-same program threads both.0 _ (λ i. HappensBefore program threads i k) both.1 (λ i. ((before-is program threads k t there i).1, (before-is program threads k t there i).0)))

  here : (k : ℕ) → k < length threads → (t : ℕ) × (slice_get threads k ≡ Some t)
  here k less = (get_or threads k 0, slice_get-get_or threads k 0 less)

  -- the clocks after one place more
  next-clock : (k : ℕ) → k < length threads → ((source : Source) → ClockOf (Past program threads k source)) → (source : Source) → Told (Feeds program threads source k) → ClockOf (Past program threads (suc k) source)
  next-clock k less all source (inl f) =
      let at = here k less in
      let before = before-clock k at.0 at.1 all in
      let past = knows-stepped program threads k at.0 at.1 before.0 (stepped before.0 at.0 k) before.1 (stepped-is before.0 at.0 k) in
      let old = all source in
      (λ u. max (old.0 u) (stepped before.0 at.0 k u), knows-more program threads k at.0 at.1 source old.0 (stepped before.0 at.0 k) (λ u. max (old.0 u) (stepped before.0 at.0 k u)) f old.1 past (λ _. refl))
  next-clock k less all source (inr n) =
      let at = here k less in
      let old = all source in (old.0, knows-still program threads k at.0 at.1 source old.0 n old.1)

  -- there are clocks of every source, at every place
  pub clocks : (k : ℕ) → k ≤ length threads → (source : Source) → ClockOf (Past program threads k source)
  clocks zero short source = nothing-known (Past program threads 0 source) (none-past program threads source)
  clocks (suc k) short source = next-clock k (omega arith) (clocks k (omega arith)) source (feeds-told source k)

  pub before-told : (i j : ℕ) → i < j → j < length threads → Told (HappensBefore program threads i j)
  before-told i j less short =
      let there = here j short in
      let at = here i (omega arith) in
      let clock = before-clock j there.0 there.1 (clocks j (omega arith)) in
      let known = clock.1 i at.0 at.1 in
      ⊎_elim (λ h. inl (known.0 h)) (λ n. inr (λ h. n (known.1 h))) (below-told i (clock.0 at.0))

  pub ordered : (i j : ℕ) → i < j → j < length threads → ((HappensBefore program threads i j → ⊥) → ⊥) → HappensBefore program threads i j
  ordered i j less short h = ⊎_elim (λ b. b) (λ n. absurd (h n)) (before-told i j less short)

pub race-free-is : (program : Program) → RaceFree program ↔ ((threads : List ℕ) → IsExecution program threads → HasNoRace program threads)
race-free-is program = (
  λ free threads runs i j byte race. race.unordered (free threads runs i j byte race.order race.within race.apart race.conflict),
  λ none threads runs i j byte less short different conflicting. ordered program threads i j less short
      (λ n. none threads runs i j byte (record { order = less; within = short; apart = different; conflict = conflicting; unordered = n })),
)
