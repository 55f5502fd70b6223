-- In a cooperative run no thread has retired more than there are steps, and steps pass the limit by no more than a watchdog for each thread.
use Rattle.std.specs.Prelude.{◌≡◌, ◌≢◌, ℕ, zero, suc, ◌+◌, ◌-◌, ◌*◌, ◌<◌, ◌≤◌, ◌⊎◌, max, Bool, true, false, ◌==◌, List, [], ◌∷◌, ◌++◌, length, map, Option, Some, None, slice_get}
use Rattle.std.specs.Option.{option_map_or}
use Rattle.std.proofs.Common.{refl, sym, ap, ◌∙◌, subst, arith, inl, inr}
use Rattle.std.proofs.Math.Nat.{le-max_left, le-max_right, max-le, suc-mul}
use Rattle.std.proofs.lemmas.Bool.{true≢false, eqb-true, eq-eqb}
use Rattle.std.proofs.lemmas.Option.{slice_get_within}
use Rattle.ro_event.specs.declared.effects.Made.{Made}
use Rattle.ro_event.specs.declared.stops.Stop.{Stop}
use Rattle.ro_event.specs.Effects.{Effect}
use Rattle.ro_journal.specs.declared.Lease.{Lease}
use Rattle.ro_exec.specs.Threads.{made_cpu}
use Rattle.ro_kernel.proofs.Kept.{slice_get-set_other}
use Rattle.ro_thread.specs.declared.Thread.{Thread}
use Rattle.ro_replica.specs.Replica.{Replica, unstopped, changed_at, thread_after, creator_of, with_made, without_cancelled, applied, cancelled}
use Rattle.ro_replica.specs.Runs.{with_stop}
use Rattle.ro_plain.proofs.Calls.{some-injective}
use Rattle.ro_peer.specs.declared.mutexes.Mutex.{Mutex}
use Rattle.ro_peer.specs.Peers.{Peer}
use Rattle.ro_peer.specs.Gets.{Get}
use Rattle.ro_peer.specs.Events.{without_own}
use Rattle.ro_legal.specs.Core.{Job, Core}
use Rattle.ro_legal.specs.Sides.{Side, Parking}
use Rattle.ro_legal.specs.Kept.{IsUnstruck}
use Rattle.ro_legal.specs.Cooperative.{done_in, most_done, stopped, core_after_lease, replica_after}
use Rattle.ro_legal.proofs.Lists.{ChangedFrom, unchanged, changed_here, get-changed, get-set-cases, get-set-same, MappedFrom, get-map, get-append-cases}
use Rattle.ro_legal.proofs.Effects.{backed_after, threads_after}
use Rattle.ro_legal.proofs.TogetherRuns.{GoesOn, moved, after-step, LentParts, lease-keeps}

-- ---- totals

-- f 0 + f 1 + .., of the numbers below n
pub total : (n : ℕ) → (ℕ → ℕ) → ℕ
total zero f = 0
total (suc n) f = total n f + f n

total-least : (n : ℕ) (f g : ℕ → ℕ) → ((u : ℕ) → f u ≤ g u) → total n f ≤ total n g
unfolding total
total-least zero f g low = omega arith
total-least (suc n) f g low = let rest = total-least n f g low in let last = low n in omega arith

-- one that is larger by k makes the total so much larger
total-more : (n t k : ℕ) (f g : ℕ → ℕ) → ((u : ℕ) → f u ≤ g u) → t < n → f t + k ≤ g t → total n f + k ≤ total n g
unfolding total
total-more zero t k f g low below more = absurd (omega arith)
total-more (suc n) t k f g low below more = by (t == n) refl (λ less. total-more n t k f g low less more)
  where
    by : (b : Bool) → (t == n) ≡ b → (t < n → total n f + k ≤ total n g) → total n f + f n + k ≤ total n g + g n
    by true e later =
        let last : f n + k ≤ g n = subst (λ (u : ℕ). f u + k ≤ g u) (eqb-true t n e) more in
        let rest = total-least n f g low in
        omega arith
    by false e later =
        let other : t ≢ n = λ same. true≢false (sym (eq-eqb t n same) ∙ e) in
        let rest = later (omega arith) in
        let last = low n in
        omega arith

-- where none is larger by more than w
total-apart : (n w : ℕ) (f g : ℕ → ℕ) → ((u : ℕ) → f u ≤ g u + w) → total n f ≤ total n g + n * w
unfolding total
total-apart zero w f g low = omega arith
total-apart (suc n) w f g low =
    let rest = total-apart n w f g low in
    let last = low n in
    let product = suc-mul n w in
    omega arith

-- ---- what was retired

-- no thread has retired more than this of it
abbrev pub AtMost : (most : ℕ → ℕ) → List Thread → Type 0
AtMost most threads = (place : ℕ) (thread : Thread) → slice_get threads place ≡ Some thread → thread.done ≤ most place

pub done-least : (replica : Replica) (u m : ℕ) → ((thread : Thread) → slice_get replica.threads u ≡ Some thread → thread.done ≤ m) → done_in replica u ≤ m
done-least replica u m low = by (slice_get replica.threads u) refl
  where
    by : (o : Option Thread) → slice_get replica.threads u ≡ o → option_map_or (λ (t : Thread). t.done) o 0 ≤ m
    by None e = omega arith
    by (Some thread) e = low thread e

done-is : (replica : Replica) (u : ℕ) (thread : Thread) → slice_get replica.threads u ≡ Some thread → done_in replica u ≡ thread.done
done-is replica u thread e = ap (λ (o : Option Thread). option_map_or (λ (t : Thread). t.done) o 0) e

pub most-least : (replicas : List Replica) (u m : ℕ) → ((number : ℕ) (replica : Replica) → slice_get replicas number ≡ Some replica → done_in replica u ≤ m) → most_done replicas u ≤ m
most-least [] u m low = omega arith
most-least (r ∷ replicas) u m low = max-le (low 0 r refl) (most-least replicas u m (λ number replica e. low (suc number) replica e))

pub most-bounds : (replicas : List Replica) (number : ℕ) (replica : Replica) (u : ℕ) → slice_get replicas number ≡ Some replica → done_in replica u ≤ most_done replicas u
most-bounds [] number replica u e = absurd (let f : None ≡ Some replica = e in cc)
most-bounds (r ∷ replicas) zero replica u e =
    subst (λ (x : Replica). done_in x u ≤ max (done_in r u) (most_done replicas u)) (some-injective e) (le-max_left (done_in r u) (most_done replicas u))
most-bounds (r ∷ replicas) (suc number) replica u e =
    let rest = most-bounds replicas number replica u e in
    let more = le-max_right (done_in r u) (most_done replicas u) in
    omega arith

-- in any replica at the most
pub most-of : (replicas : List Replica) (number : ℕ) (replica : Replica) → slice_get replicas number ≡ Some replica → AtMost (λ u. most_done replicas u) replica.threads
most-of replicas number replica e place thread f =
    let bound = most-bounds replicas number replica place e in
    let same = done-is replica place thread f in
    omega arith

-- a stop retires nothing
done-stopped : (t : ℕ) (stop : Option Stop) (replica : Replica) (u : ℕ) → done_in (stopped t stop replica) u ≡ done_in replica u
done-stopped t stop replica u = by replica.threads t u
  where
    by : (threads : List Thread) (t u : ℕ) → option_map_or (λ (x : Thread). x.done) (slice_get (changed_at (with_stop stop) threads t) u) 0 ≡ option_map_or (λ (x : Thread). x.done) (slice_get threads u) 0
    by [] t u = refl
    by (x ∷ threads) zero zero = refl
    by (x ∷ threads) zero (suc u) = refl
    by (x ∷ threads) (suc t) zero = refl
    by (x ∷ threads) (suc t) (suc u) = by threads t u

-- ---- an event

-- an event retires nothing, and a thread that it makes has retired nothing
pub after-event : (most : ℕ → ℕ) (effect : Effect) (entered : List Mutex) (side : Side) (replica : Replica) → AtMost most replica.threads → AtMost most (replica_after effect entered side replica).threads
unfolding applied cancelled
after-event most effect entered side replica low place thread e =
    let one : MappedFrom (without_own (side.mutexes ++ entered)) (map (without_cancelled (backed_after effect replica.backed)) (threads_after effect replica.threads)) place thread = get-map _ _ place thread e in
    let two : MappedFrom (without_cancelled (backed_after effect replica.backed)) (threads_after effect replica.threads) place one.from = get-map _ _ place one.from one.there in
    subst (λ (n : ℕ). n ≤ most place) (ap (λ (x : Thread). x.done) two.gives ∙ ap (λ (x : Thread). x.done) one.gives)
    (made effect.made (changed_at (thread_after effect) replica.threads effect.thread) (λ p x f. changed p x (get-changed _ replica.threads effect.thread p x f)) place two.from two.there)
  where
    changed : (p : ℕ) (x : Thread) → ChangedFrom (thread_after effect) replica.threads effect.thread p x → x.done ≤ most p
    changed p x (unchanged d f) = low p x f
    changed p x (changed_here y d f g) = subst (λ (z : Thread). z.done ≤ most p) g (low p y f)

    made : (m : Option Made) (threads : List Thread) → AtMost most threads → AtMost most (with_made m threads)
    made None threads all p x f = all p x f
    made (Some m) [] all p x f = absurd (let g : None ≡ Some x = f in cc)
    made (Some m) (y ∷ threads) all p x f = by (get-append-cases (y ∷ threads) (unstopped (made_cpu m (creator_of m (y ∷ threads) y) (length (y ∷ threads)))) p x f)
      where
        by : (slice_get (y ∷ threads) p ≡ Some x) ⊎ ((p ≡ length (y ∷ threads)) × (unstopped (made_cpu m (creator_of m (y ∷ threads) y) (length (y ∷ threads))) ≡ x)) → x.done ≤ most p
        by (inl g) = all p x g
        by (inr g) = subst (λ (z : Thread). z.done ≤ most p) g.1 (omega arith)

-- ---- the counts of a core

-- what each thread has retired beyond this, it retired since its release
abbrev pub HasSince : (behind : ℕ → ℕ) → List Thread → Type 0
HasSince behind threads = (place : ℕ) (thread : Thread) → slice_get threads place ≡ Some thread → thread.done ≤ behind place + thread.since

-- How many steps there are. `behind` is what had been retired of each thread when the last event came, in any replica at the most: no more steps
-- than the limit had been taken then, and those that came since were taken of threads that were not released since.
pub record KeepsCounts (job : Job) (core : Core) : Type 0 where
  pub within : (thread : ℕ) → most_done core.replicas thread ≤ core.steps
  pub behind : ℕ → ℕ
  pub since : (number : ℕ) (replica : Replica) → slice_get core.replicas number ≡ Some replica → HasSince behind replica.threads
  pub fits : core.steps + total 16 behind ≤ job.settings.limit + total 16 (λ u. most_done core.replicas u)

-- where the limit is not passed
pub counted-fits : (job : Job) (core : Core) → ((thread : ℕ) → most_done core.replicas thread ≤ core.steps) → core.steps ≤ job.settings.limit → KeepsCounts job core
counted-fits job core within fits = record {
  within = within;
  behind = λ u. most_done core.replicas u;
  since = λ number replica e place thread f. let low = most-of core.replicas number replica e place thread f in omega arith;
  fits = omega arith;
}

-- so steps pass the limit by no more than a watchdog for each thread
pub steps-bounded : (job : Job) (core : Core) → ((number : ℕ) (replica : Replica) → slice_get core.replicas number ≡ Some replica → IsUnstruck job core replica) → KeepsCounts job core → core.steps ≤ job.settings.limit + 16 * job.settings.watchdog
steps-bounded job core unstruck c =
    let apart = total-apart 16 job.settings.watchdog (λ u. most_done core.replicas u) c.behind low in
    let fits = c.fits in
    omega arith
  where
    low : (u : ℕ) → most_done core.replicas u ≤ c.behind u + job.settings.watchdog
    low u = most-least core.replicas u _ (λ number replica e. done-least replica u _ (λ thread f.
        let retired = c.since number replica e u thread f in
        let watched = (unstruck number replica e).within_watch u thread f in
        omega arith))

-- ---- a lease

-- the run of a lease retires in its own thread alone
record RanOn (number : ℕ) (lent replica : Replica) : Type 0 where
  pub others : (u : ℕ) → u ≢ number → done_in replica u ≡ done_in lent u
  pub more : done_in lent number ≤ done_in replica number

ran-step : (watchdog number : ℕ) (lent before after : Replica) → GoesOn watchdog number before after → RanOn number lent before → RanOn number lent after
ran-step watchdog number lent before after step h = record {
  others = λ u d. ap (λ (ts : List Thread). option_map_or (λ (t : Thread). t.done) (slice_get ts u) 0) step.threads_are
      ∙ (ap (λ (o : Option Thread). option_map_or (λ (t : Thread). t.done) o 0) (slice_get-set_other before.threads number u (moved step.thread step.cpu) (λ e. d (sym e))) ∙ h.others u d);
  more =
      let now : done_in after number ≡ step.thread.done + 1 =
      done-is after number (moved step.thread step.cpu) (ap (λ (ts : List Thread). slice_get ts number) step.threads_are ∙ get-set-same before.threads number step.thread (moved step.thread step.cpu) step.there)
      in
      let old = done-is before number step.thread step.there in
      let low = h.more in
      omega arith;
}

since-step : (behind : ℕ → ℕ) (watchdog number : ℕ) (before after : Replica) → GoesOn watchdog number before after → HasSince behind before.threads → HasSince behind after.threads
since-step behind watchdog number before after step h place thread e = by (after-step step place thread e)
  where
    by : ((place ≢ number) × (slice_get before.threads place ≡ Some thread)) ⊎ ((place ≡ number) × (moved step.thread step.cpu ≡ thread)) → thread.done ≤ behind place + thread.since
    by (inl f) = h place thread f.1
    by (inr f) =
        subst (λ (u : ℕ). thread.done ≤ behind u + thread.since) (sym f.0)
        (subst (λ (x : Thread). x.done ≤ behind number + x.since) f.1 (let low = h number step.thread step.there in omega arith))

since-stopped : (behind : ℕ → ℕ) (number : ℕ) (stop : Option Stop) (replica : Replica) → HasSince behind replica.threads → HasSince behind (stopped number stop replica).threads
since-stopped behind number stop replica h place thread e = by (get-changed (with_stop stop) replica.threads number place thread e)
  where
    by : ChangedFrom (with_stop stop) replica.threads number place thread → thread.done ≤ behind place + thread.since
    by (unchanged d f) = h place thread f
    by (changed_here x d f g) = subst (λ (y : Thread). y.done ≤ behind place + y.since) g (h place x f)

module _ (job : Job) (core : Core) (lease : Lease) (count : ℕ) (peer : Peer) (parts : LentParts job core lease count peer) (few : length peer.replica.threads ≤ 16) (c : KeepsCounts job core) (gets : List Get) (stop : Option Stop) (parking : Option Parking) where
  new : Core
  new = core_after_lease core lease peer gets stop parking

  came : Replica
  came = stopped lease.thread stop peer.replica

  ran : RanOn lease.thread parts.lent peer.replica
  ran = lease-keeps job core lease count peer parts (RanOn lease.thread parts.lent) (ran-step job.settings.watchdog lease.thread parts.lent) (record { others = λ u d. refl; more = omega arith })

  -- how much more any replica has made of the thread
  abbrev grown : ℕ
  grown = done_in peer.replica lease.thread - most_done core.replicas lease.thread

  in-came : (u : ℕ) → done_in came u ≡ done_in peer.replica u
  unfolding came
  in-came u = done-stopped lease.thread stop peer.replica u

  -- it is there
  came-there : slice_get new.replicas lease.replica ≡ Some came
  unfolding new came
  came-there = get-set-same core.replicas lease.replica parts.lent _ parts.there

  steps-are : new.steps ≡ core.steps + grown
  unfolding new
  steps-are = refl

  replica-cases : (number : ℕ) (replica : Replica) → slice_get new.replicas number ≡ Some replica → ((number ≢ lease.replica) × (slice_get core.replicas number ≡ Some replica)) ⊎ ((number ≡ lease.replica) × (came ≡ replica))
  unfolding new came
  replica-cases number replica e = get-set-cases core.replicas lease.replica number came replica e

  -- what its replica has retired
  came-within : (u : ℕ) → done_in came u ≤ core.steps + grown
  came-within u = by (u == lease.thread) refl
    where
      by : (b : Bool) → (u == lease.thread) ≡ b → done_in came u ≤ core.steps + grown
      by true e =
          let same = in-came u in
          let own : done_in peer.replica u ≡ done_in peer.replica lease.thread = ap (λ (v : ℕ). done_in peer.replica v) (eqb-true u lease.thread e) in
          let low = c.within lease.thread in
          omega arith
      by false e =
          let same = in-came u in
          let other = ran.others u (λ f. true≢false (sym (eq-eqb u lease.thread f) ∙ e)) in
          let bound = most-bounds core.replicas lease.replica parts.lent u parts.there in
          let low = c.within u in
          omega arith

  within-new : (u : ℕ) → most_done new.replicas u ≤ new.steps
  within-new u = subst (λ (n : ℕ). most_done new.replicas u ≤ n) (sym steps-are) (most-least new.replicas u (core.steps + grown) (λ number replica e. by number replica (replica-cases number replica e)))
    where
      by : (number : ℕ) (replica : Replica) → ((number ≢ lease.replica) × (slice_get core.replicas number ≡ Some replica)) ⊎ ((number ≡ lease.replica) × (came ≡ replica)) → done_in replica u ≤ core.steps + grown
      by number replica (inl e) =
          let bound = most-bounds core.replicas number replica u e.1 in
          let low = c.within u in
          omega arith
      by number replica (inr e) = subst (λ (x : Replica). done_in x u ≤ core.steps + grown) e.1 (came-within u)

  -- nothing that was retired is lost
  lent-less : (u : ℕ) → done_in parts.lent u ≤ done_in came u
  lent-less u = by (u == lease.thread) refl
    where
      by : (b : Bool) → (u == lease.thread) ≡ b → done_in parts.lent u ≤ done_in came u
      by true e = subst (λ (v : ℕ). done_in parts.lent v ≤ done_in came v) (sym (eqb-true u lease.thread e)) (let same = in-came lease.thread in let more = ran.more in omega arith)
      by false e = let same = in-came u in let other = ran.others u (λ f. true≢false (sym (eq-eqb u lease.thread f) ∙ e)) in omega arith

  others-stay : (number : ℕ) (replica : Replica) → slice_get core.replicas number ≡ Some replica → number ≢ lease.replica → slice_get new.replicas number ≡ Some replica
  unfolding new
  others-stay number replica e d = slice_get-set_other core.replicas lease.replica number _ (λ g. d (sym g)) ∙ e

  most-grows : (u : ℕ) → most_done core.replicas u ≤ most_done new.replicas u
  most-grows u = most-least core.replicas u _ (λ number replica e. by number replica e (number == lease.replica) refl)
    where
      by : (number : ℕ) (replica : Replica) → slice_get core.replicas number ≡ Some replica → (b : Bool) → (number == lease.replica) ≡ b → done_in replica u ≤ most_done new.replicas u
      by number replica e true f =
          let is : parts.lent ≡ replica = some-injective (sym parts.there ∙ (ap (slice_get core.replicas) (sym (eqb-true number lease.replica f)) ∙ e)) in
          subst (λ (x : Replica). done_in x u ≤ most_done new.replicas u) is
          (let less = lent-less u in let bound = most-bounds new.replicas lease.replica came u came-there in omega arith)
      by number replica e false f = most-bounds new.replicas number replica u (others-stay number replica e (λ g. true≢false (sym (eq-eqb number lease.replica g) ∙ f)))

  -- a thread that is there is one of the sixteen
  grown-below : (o : Option Thread) → slice_get peer.replica.threads lease.thread ≡ o → total 16 (λ u. most_done core.replicas u) + grown ≤ total 16 (λ u. most_done new.replicas u)
  grown-below None e =
      let none : done_in peer.replica lease.thread ≡ 0 = ap (λ (o : Option Thread). option_map_or (λ (t : Thread). t.done) o 0) e in
      let least = total-least 16 (λ u. most_done core.replicas u) (λ u. most_done new.replicas u) most-grows in
      omega arith
  grown-below (Some thread) e =
      let place = slice_get_within peer.replica.threads lease.thread thread e in
      let bound = most-bounds new.replicas lease.replica came lease.thread came-there in
      let same = in-came lease.thread in
      let least = most-grows lease.thread in
      total-more 16 lease.thread grown (λ u. most_done core.replicas u) (λ u. most_done new.replicas u) most-grows (omega arith) (omega arith)

  since-came : HasSince c.behind came.threads
  unfolding came
  since-came = since-stopped c.behind lease.thread stop peer.replica
      (lease-keeps job core lease count peer parts (λ r. HasSince c.behind r.threads) (since-step c.behind job.settings.watchdog lease.thread) (c.since lease.replica parts.lent parts.there))

  since-new : (number : ℕ) (replica : Replica) → ((number ≢ lease.replica) × (slice_get core.replicas number ≡ Some replica)) ⊎ ((number ≡ lease.replica) × (came ≡ replica)) → HasSince c.behind replica.threads
  since-new number replica (inl e) = c.since number replica e.1
  since-new number replica (inr e) = subst (λ (x : Replica). HasSince c.behind x.threads) e.1 since-came

  its-counts : KeepsCounts job new
  its-counts = record {
    within = within-new;
    behind = c.behind;
    since = λ number replica e. since-new number replica (replica-cases number replica e);
    fits = let more = grown-below (slice_get peer.replica.threads lease.thread) refl in let steps = steps-are in let fits = c.fits in omega arith;
  }

  pub counted-lease : KeepsCounts job (core_after_lease core lease peer gets stop parking)
  unfolding new
  counted-lease = its-counts
