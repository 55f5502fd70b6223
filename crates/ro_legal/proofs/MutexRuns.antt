-- What a lease's run keeps of a replica that answers calls: the addresses of its mutexes and its threads' stops; and how far it takes their ranks.
use Rattle.std.specs.Prelude.{◌≡◌, ◌≢◌, ◌⊎◌, ℕ, zero, suc, ◌+◌, ◌<◌, ◌≤◌, Bool, true, false, not, ◌&&◌, ◌==◌, cond, List, [], ◌∷◌, ◌++◌, length, Option, Some, None, slice_get, slice_set}
use Rattle.std.specs.Option.{option_and_then, option_map, option_map_or}
use Rattle.std.proofs.Common.{refl, sym, ap, ◌∙◌, subst, arith, inl, inr, length-append}
use Rattle.std.proofs.lemmas.Bool.{true≢false, eqb-true, eq-eqb, ne_eqb}
use Rattle.std.proofs.lemmas.Option.{option_and_then_some}
use Rattle.ro_event.specs.declared.calls.Call.{Call}
use Rattle.ro_event.specs.declared.stops.Stop.TheVariants.{Calls, Trap, PageFault, Watchdog}
use Rattle.ro_exec.specs.Next.{Layout, Next, Stands, Executes, next}
use Rattle.ro_thread.specs.declared.Thread.{Thread}
use Rattle.ro_replica.specs.Replica.{Replica}
use Rattle.ro_plain.specs.Machine.{layout_in}
use Rattle.ro_plain.proofs.Calls.{some-injective}
use Rattle.ro_journal.specs.declared.Lease.{Lease}
use Rattle.ro_orders.specs.Turns.{is_lock_or_unlock}
use Rattle.ro_orders.specs.Answers.{Answer, Answers, Waits, answer_by}
use Rattle.ro_peer.specs.declared.mutexes.Mutex.{Mutex}
use Rattle.ro_peer.specs.Peers.{Peer, mutex_in, mutex_after, with_mutex, is_row, is_got, peer_after, leased_answer, leased_call, leased_next, leased_at, leased, leased_run}
use Rattle.ro_peer.specs.Gets.{Get, asker, get_answer, get_call, get_next, get_of, got_in}
use Rattle.ro_legal.specs.Sides.{Side, peer_with, threads_of, rank_in}
use Rattle.ro_legal.specs.Core.{Job, Core}
use Rattle.ro_legal.specs.Cooperative.{peer_in, lease_run, lease_gets}
use Rattle.ro_legal.specs.Kept.{addresses_of}
use Rattle.ro_legal.proofs.Lists.{get-set-cases}

-- ---- one answered call

no-more : (n : ℕ) → n ≡ n + 0
no-more n = omega arith

address-after : (change : Option (Option ℕ)) (m : Mutex) → (mutex_after change m).address ≡ m.address
address-after None m = refl
address-after (Some owner) m = refl

-- the addresses are the same
addresses-with : (ms : List Mutex) (a : ℕ) (change : Option (Option ℕ)) → addresses_of (with_mutex ms a change) ≡ addresses_of ms
addresses-with [] a change = refl
addresses-with (m ∷ ms) a change = by (m.address == a) (addresses-with ms a change)
  where
    by : (b : Bool) → addresses_of (with_mutex ms a change) ≡ addresses_of ms → addresses_of (cond b (mutex_after change m ∷ ms) (m ∷ with_mutex ms a change)) ≡ m.address ∷ addresses_of ms
    by true rest = ap {B = List ℕ} (λ (n : ℕ). n ∷ addresses_of ms) (address-after change m)
    by false rest = ap {B = List ℕ} (λ (ns : List ℕ). m.address ∷ ns) rest

-- the rank grows by one where the mutex is got
rank-after : (change : Option (Option ℕ)) (m : Mutex) → (mutex_after change m).rank ≡ m.rank + cond (is_got change) 1 0
rank-after None m = no-more m.rank
rank-after (Some None) m = refl
rank-after (Some (Some thread)) m = refl

abbrev rank_of : Option Mutex → ℕ
rank_of o = option_map_or (λ m. m.rank) o 0

module _ (a b : ℕ) (change : Option (Option ℕ)) where
  abbrev more : ℕ
  more = cond (a == b) (cond (is_got change) 1 0) 0

  more-is : (t : Bool) → (a == b) ≡ t → cond t (cond (is_got change) 1 0) 0 ≡ more
  more-is t e = ap (λ (s : Bool). cond s (cond (is_got change) 1 0) 0) (sym e)

  rank-cons : (m x : Mutex) (ms : List Mutex) (p q : Bool) → (m.address == a) ≡ p → (m.address == b) ≡ q → cond p (Some m) (mutex_in ms a) ≡ Some x → (mutex_in ms a ≡ Some x → rank_in (with_mutex ms a change) b ≡ rank_in ms b + more)
      → rank_in (cond p (mutex_after change m ∷ ms) (m ∷ with_mutex ms a change)) b ≡ rank_of (cond q (Some m) (mutex_in ms b)) + more
  rank-cons m x ms true true e f listed rest =
      ap (λ (n : ℕ). rank_of (cond (n == b) (Some (mutex_after change m)) (mutex_in ms b))) (address-after change m)
      ∙ (ap (λ (t : Bool). rank_of (cond t (Some (mutex_after change m)) (mutex_in ms b))) f
      ∙ (rank-after change m
      ∙ ap (λ (n : ℕ). m.rank + n) (more-is true (eq-eqb a b (sym (eqb-true m.address a e) ∙ eqb-true m.address b f)))))
  rank-cons m x ms true false e f listed rest =
      ap (λ (n : ℕ). rank_of (cond (n == b) (Some (mutex_after change m)) (mutex_in ms b))) (address-after change m)
      ∙ (ap (λ (t : Bool). rank_of (cond t (Some (mutex_after change m)) (mutex_in ms b))) f
      ∙ (no-more (rank_in ms b)
      ∙ ap (λ (n : ℕ). rank_in ms b + n) (more-is false (ap (λ (n : ℕ). n == b) (sym (eqb-true m.address a e)) ∙ f))))
  rank-cons m x ms false true e f listed rest =
      ap (λ (t : Bool). rank_of (cond t (Some m) (mutex_in (with_mutex ms a change) b))) f
      ∙ (no-more m.rank
      ∙ ap (λ (n : ℕ). m.rank + n) (more-is false (ne_eqb a b (λ same. true≢false (sym (eq-eqb m.address a (eqb-true m.address b f ∙ sym same)) ∙ e)))))
  rank-cons m x ms false false e f listed rest = ap (λ (t : Bool). rank_of (cond t (Some m) (mutex_in (with_mutex ms a change) b))) f ∙ rest listed

  rank-with : (ms : List Mutex) (x : Mutex) → mutex_in ms a ≡ Some x → rank_in (with_mutex ms a change) b ≡ rank_in ms b + more
  rank-with [] x listed = absurd (let f : None ≡ Some x = listed in cc)
  rank-with (m ∷ ms) x listed = rank-cons m x ms (m.address == a) (m.address == b) refl refl listed (rank-with ms x)

-- ---- what a run of some steps keeps

-- each thread has the stop that it had
abbrev pub SameStops : (before after : List Thread) → Type 0
SameStops before after = (place : ℕ) (thread : Thread) → slice_get after place ≡ Some thread → (old : Thread) × (slice_get before place ≡ Some old) × (old.stop ≡ thread.stop)

-- the mutex was got below a bound alone
abbrev pub AllBelow : (mutex bound : ℕ) → List Get → Type 0
AllBelow mutex bound [] = Unit {0}
AllBelow mutex bound (get ∷ gets) = (get.mutex ≡ mutex → get.rank < bound) × AllBelow mutex bound gets

-- the same mutexes and stops; a mutex's rank grows by how often it was got, and goes past no bound below which it was got
pub record RunKeeps (before after : Peer) (gets : List Get) : Type 0 where
  pub addresses_are : addresses_of after.mutexes ≡ addresses_of before.mutexes
  pub stops_are : SameStops before.replica.threads after.replica.threads
  pub grows : (mutex : ℕ) → rank_in after.mutexes mutex ≡ rank_in before.mutexes mutex + length (threads_of mutex gets)
  pub bounded : (mutex bound : ℕ) → AllBelow mutex bound gets → rank_in before.mutexes mutex ≤ bound → rank_in after.mutexes mutex ≤ bound

same-threads : (threads : List Thread) → SameStops threads threads
same-threads threads place thread e = (thread, e, refl)

same-peer : (peer : Peer) → RunKeeps peer peer []
same-peer peer = record { addresses_are = refl; stops_are = same-threads peer.replica.threads; grows = λ mutex. no-more (rank_in peer.mutexes mutex); bounded = λ mutex bound below h. h }

-- ---- one run after another

threads-append : (mutex : ℕ) (xs ys : List Get) → threads_of mutex (xs ++ ys) ≡ threads_of mutex xs ++ threads_of mutex ys
threads-append mutex [] ys = refl
threads-append mutex (x ∷ xs) ys = by (x.mutex == mutex) (threads-append mutex xs ys)
  where
    by : (b : Bool) → threads_of mutex (xs ++ ys) ≡ threads_of mutex xs ++ threads_of mutex ys → cond b (x.thread ∷ threads_of mutex (xs ++ ys)) (threads_of mutex (xs ++ ys)) ≡ cond b (x.thread ∷ threads_of mutex xs) (threads_of mutex xs) ++ threads_of mutex ys
    by true e = ap {B = List ℕ} (λ (r : List ℕ). x.thread ∷ r) e
    by false e = e

-- how often it was got in all
pub count-append : (mutex : ℕ) (xs ys : List Get) → length (threads_of mutex (xs ++ ys)) ≡ length (threads_of mutex xs) + length (threads_of mutex ys)
count-append mutex xs ys = ap length (threads-append mutex xs ys) ∙ length-append (threads_of mutex xs) (threads_of mutex ys)

below-parts : (mutex bound : ℕ) (xs ys : List Get) → AllBelow mutex bound (xs ++ ys) → AllBelow mutex bound xs × AllBelow mutex bound ys
below-parts mutex bound [] ys h = (tt, h)
below-parts mutex bound (x ∷ xs) ys h = let rest = below-parts mutex bound xs ys h.1 in ((h.0, rest.0), rest.1)

both-runs : (before between after : Peer) (xs ys : List Get) → RunKeeps before between xs → RunKeeps between after ys → RunKeeps before after (xs ++ ys)
both-runs before between after xs ys h k = record {
  addresses_are = k.addresses_are ∙ h.addresses_are;
  stops_are = λ place thread e.
      let late = k.stops_are place thread e in
      let early = h.stops_are place late.0 late.1 in
      (early.0, early.1, early.2 ∙ late.2);
  grows = λ mutex.
      let late = k.grows mutex in
      let early = h.grows mutex in
      let all = count-append mutex xs ys in
      omega arith;
  bounded = λ mutex bound below e. let parts = below-parts mutex bound xs ys below in k.bounded mutex bound parts.1 (h.bounded mutex bound parts.0 e);
}

-- ---- one step

set-stops : (threads : List Thread) (number : ℕ) (old new : Thread) → slice_get threads number ≡ Some old → old.stop ≡ new.stop → SameStops threads (slice_set threads number new)
set-stops threads number old new there same place thread e = by (get-set-cases threads number place new thread e)
  where
    by : ((place ≢ number) × (slice_get threads place ≡ Some thread)) ⊎ ((place ≡ number) × (new ≡ thread)) → (x : Thread) × (slice_get threads place ≡ Some x) × (x.stop ≡ thread.stop)
    by (inl f) = (thread, f.1, refl)
    by (inr f) = (old, ap (slice_get threads) f.0 ∙ there, same ∙ ap (λ (t : Thread). t.stop) f.1)

module _ (peer : Peer) (number : ℕ) (call : Call) (m : Mutex) (listed : mutex_in peer.mutexes call.a0 ≡ Some m) (change : Option (Option ℕ)) (after : Peer) (mutexes_are : after.mutexes ≡ with_mutex peer.mutexes call.a0 change) (stops : SameStops peer.replica.threads after.replica.threads) where
  abbrev get : Get
  get = record { mutex = call.a0; rank = m.rank; thread = number }

  grown : (g : Bool) → is_got change ≡ g → (b : ℕ) → rank_in after.mutexes b ≡ rank_in peer.mutexes b + cond (call.a0 == b) (cond g 1 0) 0
  grown g q b =
      ap (λ (ms : List Mutex). rank_in ms b) mutexes_are
      ∙ (rank-with call.a0 b change peer.mutexes m listed
      ∙ ap (λ (t : Bool). rank_in peer.mutexes b + cond (call.a0 == b) (cond t 1 0) 0) q)

  rank-here : (b : ℕ) → call.a0 ≡ b → rank_in peer.mutexes b ≡ m.rank
  rank-here b same = ap (rank_in peer.mutexes) (sym same) ∙ ap rank_of listed

  at-most : (b bound : ℕ) → (call.a0 ≡ b → m.rank < bound) → rank_in peer.mutexes b ≤ bound → (t : Bool) → (call.a0 == b) ≡ t → rank_in after.mutexes b ≡ rank_in peer.mutexes b + cond t 1 0 → rank_in after.mutexes b ≤ bound
  at-most b bound below h true e is = let same = eqb-true call.a0 b e in let less = below same in let rank = rank-here b same in omega arith
  at-most b bound below h false e is = omega arith

  none-got : (b : ℕ) (t : Bool) → rank_in after.mutexes b ≡ rank_in peer.mutexes b + cond t 0 0 → rank_in after.mutexes b ≡ rank_in peer.mutexes b + 0
  none-got b true e = e
  none-got b false e = e

  one-got : (b : ℕ) (t : Bool) → rank_in after.mutexes b ≡ rank_in peer.mutexes b + cond t 1 0 → rank_in after.mutexes b ≡ rank_in peer.mutexes b + length (cond t (number ∷ []) [])
  one-got b true e = e
  one-got b false e = e

  answered-keeps : (g : Bool) → is_got change ≡ g → RunKeeps peer after (cond g (get ∷ []) [])
  answered-keeps true q = record {
    addresses_are = ap addresses_of mutexes_are ∙ addresses-with peer.mutexes call.a0 change;
    stops_are = stops;
    grows = λ b. one-got b (call.a0 == b) (grown true q b);
    bounded = λ b bound below h. at-most b bound below.0 h (call.a0 == b) refl (grown true q b);
  }
  answered-keeps false q = record {
    addresses_are = ap addresses_of mutexes_are ∙ addresses-with peer.mutexes call.a0 change;
    stops_are = stops;
    grows = λ b. none-got b (call.a0 == b) (grown false q b);
    bounded = λ b bound below h. let same = none-got b (call.a0 == b) (grown false q b) in omega arith;
  }

module _ (layout : Layout) (watchdog : ℕ) (peer : Peer) (number : ℕ) where
  module _ (thread : Thread) (there : slice_get peer.replica.threads number ≡ Some thread) where
    answer-keeps : (call : Call) (m : Mutex) (answer : Answer) (after : Peer) → mutex_in peer.mutexes call.a0 ≡ Some m → leased_answer (asker number) peer number thread call m answer ≡ Some after → RunKeeps peer after (get_answer number call m answer)
    answer-keeps call m Waits after listed e = absurd (let f : None ≡ Some after = e in cc)
    answer-keeps call m (Answers change value) after listed e = by (is_got change && not (is_row (Some number) number)) e
      where
        by : (b : Bool) → cond b None (Some (peer_after peer number thread call change value)) ≡ Some after → RunKeeps peer after (get_answer number call m (Answers change value))
        by true f = absurd (let g : None ≡ Some after = f in cc)
        by false f = subst (λ (r : Peer). RunKeeps peer r (get_answer number call m (Answers change value))) (some-injective f)
            (answered-keeps peer number call m listed change (peer_after peer number thread call change value) refl (set-stops peer.replica.threads number thread _ there refl) (is_got change) refl)

    call-keeps : (call : Call) (o : Option Mutex) (after : Peer) → mutex_in peer.mutexes call.a0 ≡ o → leased_call (asker number) peer number thread call o ≡ Some after → RunKeeps peer after (get_call number call o)
    call-keeps call None after listed e = absurd (let f : None ≡ Some after = e in cc)
    call-keeps call (Some m) after listed e = answer-keeps call m (answer_by call.which number m.owner) after listed e

    which-keeps : (b : Bool) (call : Call) (after : Peer) → cond b (leased_call (asker number) peer number thread call (mutex_in peer.mutexes call.a0)) None ≡ Some after → RunKeeps peer after (cond b (get_call number call (mutex_in peer.mutexes call.a0)) [])
    which-keeps true call after e = call-keeps call (mutex_in peer.mutexes call.a0) after refl e
    which-keeps false call after e = absurd (let f : None ≡ Some after = e in cc)

    next-keeps : (n : Next) (after : Peer) → leased_next (asker number) peer number thread n ≡ Some after → RunKeeps peer after (get_next peer number n)
    next-keeps (Executes instr) after e = subst (λ (r : Peer). RunKeeps peer r []) (some-injective e)
        (record { addresses_are = refl; stops_are = set-stops peer.replica.threads number thread _ there refl; grows = λ mutex. no-more (rank_in peer.mutexes mutex); bounded = λ mutex bound below h. h })
    next-keeps (Stands (Calls call)) after e = which-keeps (is_lock_or_unlock call.which) call after e
    next-keeps (Stands (Trap code)) after e = absurd (let f : None ≡ Some after = e in cc)
    next-keeps (Stands (PageFault page)) after e = absurd (let f : None ≡ Some after = e in cc)
    next-keeps (Stands Watchdog) after e = absurd (let f : None ≡ Some after = e in cc)

    at-keeps : (b : Bool) (n : Next) (after : Peer) → cond b None (leased_next (asker number) peer number thread n) ≡ Some after → RunKeeps peer after (get_next peer number n)
    at-keeps true n after e = absurd (let f : None ≡ Some after = e in cc)
    at-keeps false n after e = next-keeps n after e

  thread-keeps : (o : Option Thread) (after : Peer) → slice_get peer.replica.threads number ≡ o → option_and_then (leased_at layout (asker number) watchdog peer number) o ≡ Some after
      → RunKeeps peer after (option_map_or (λ thread. get_next peer number (next layout peer.replica.backed peer.replica.memory thread.cpu)) o [])
  thread-keeps None after there e = absurd (let f : None ≡ Some after = e in cc)
  thread-keeps (Some thread) after there e = at-keeps thread there (thread.since == watchdog) _ after e

  step-keeps : (after : Peer) → leased layout (asker number) watchdog peer number ≡ Some after → RunKeeps peer after (get_of layout peer number)
  unfolding leased
  step-keeps after e = thread-keeps (slice_get peer.replica.threads number) after refl e

-- ---- a run

pub run-keeps : (layout : Layout) (watchdog n : ℕ) (peer last : Peer) (number : ℕ) → leased_run layout (asker number) watchdog n peer number ≡ Some last → RunKeeps peer last (got_in layout watchdog n peer number)
run-keeps layout watchdog zero peer last number e = subst (λ (r : Peer). RunKeeps peer r []) (some-injective e) (same-peer peer)
run-keeps layout watchdog (suc n) peer last number e =
    option_and_then_some (λ after. leased_run layout (asker number) watchdog n after number) (leased layout (asker number) watchdog peer number) last e (λ between f g.
    both-runs peer between last (get_of layout peer number) _ (step-keeps layout watchdog peer number between f)
    (subst (λ (o : Option Peer). RunKeeps between last (option_map_or (λ after. got_in layout watchdog n after number) o [])) (sym f) (run-keeps layout watchdog n between last number g)))

-- a lease's replica, what it has beside, and what its run keeps of them
pub record LeaseParts (job : Job) (core : Core) (lease : Lease) (count : ℕ) (last : Peer) : Type 0 where
  pub replica : Replica
  pub side : Side
  pub here : slice_get core.replicas lease.replica ≡ Some replica
  pub beside : slice_get core.sides lease.replica ≡ Some side
  pub keeps : RunKeeps (peer_with replica side) last (lease_gets job core lease count)

pub lease-parts : (job : Job) (core : Core) (lease : Lease) (count : ℕ) (last : Peer) → lease_run job core lease count ≡ Some last → LeaseParts job core lease count last
lease-parts job core lease count last e =
    option_and_then_some (λ peer. leased_run (layout_in job.program core.kernel) (asker lease.thread) job.settings.watchdog count peer lease.thread) (peer_in core lease.replica) last e (λ peer f g.
    option_and_then_some (λ replica. option_map (peer_with replica) (slice_get core.sides lease.replica)) (slice_get core.replicas lease.replica) peer f (λ replica here h. by peer f g replica here (slice_get core.sides lease.replica) refl h))
  where
    by : (peer : Peer) → peer_in core lease.replica ≡ Some peer → leased_run (layout_in job.program core.kernel) (asker lease.thread) job.settings.watchdog count peer lease.thread ≡ Some last
        → (replica : Replica) → slice_get core.replicas lease.replica ≡ Some replica → (o : Option Side) → slice_get core.sides lease.replica ≡ o → option_map (peer_with replica) o ≡ Some peer → LeaseParts job core lease count last
    by peer f g replica here None beside h = absurd (let k : None ≡ Some peer = h in cc)
    by peer f g replica here (Some side) beside h = record {
      replica = replica;
      side = side;
      here = here;
      beside = beside;
      keeps = subst (λ (r : Peer). RunKeeps r last (lease_gets job core lease count)) (sym (some-injective h))
          (subst (λ (o : Option Peer). RunKeeps peer last (option_map_or (λ r. got_in (layout_in job.program core.kernel) job.settings.watchdog count r lease.thread) o [])) (sym f)
          (run-keeps (layout_in job.program core.kernel) job.settings.watchdog count peer last lease.thread g));
    }
