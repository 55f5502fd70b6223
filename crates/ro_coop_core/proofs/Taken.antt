-- What a lease's run got, as the lists of who got each mutex have it: so many more by its thread.
use Rattle.std.proofs.Common.{◌≡◌, ℕ, zero, suc, ◌+◌, ◌-◌, Bool, true, false, cond, List, [], ◌∷◌, ◌++◌, length, map, replicate, take, Option, Some, None, refl, sym, ap, ◌∙◌, subst, arith}
use Rattle.std.specs.Prelude.{◌==◌, slice_get, slice_set}
use Rattle.std.specs.Option.{option_map_or}
use Rattle.std.proofs.lemmas.List.{length-map}
use Rattle.ro_event.specs.declared.calls.Call.{Call}
use Rattle.ro_event.specs.declared.stops.Stop.TheVariants.{Calls, Trap, PageFault, Watchdog}
use Rattle.ro_exec.specs.Next.{Layout, Next, Stands, Executes, next}
use Rattle.ro_thread.specs.declared.Thread.{Thread}
use Rattle.ro_plain.proofs.Calls.{some-injective}
use Rattle.ro_orders.specs.Turns.{is_lock_or_unlock}
use Rattle.ro_orders.specs.Answers.{Answer, Answers, Waits, answer_by}
use Rattle.ro_peer.specs.declared.mutexes.Mutex.{Mutex}
use Rattle.ro_peer.specs.Peers.{Peer, mutex_in, is_got, leased}
use Rattle.ro_peer.specs.Gets.{Get, get_answer, get_call, get_next, get_of, asker, got_in}
use Rattle.ro_takers.specs.Recalls.{Taken, Recalls, list_of}
use Rattle.ro_legal.specs.declared.parkings.Parking.{Parking}
use Rattle.ro_legal.specs.Sides.{Side, threads_of, rank_in}
use Rattle.ro_legal.specs.Cooperative.{side_after}
use Rattle.ro_legal.specs.Kept.{addresses_of}
use Rattle.ro_legal.proofs.MutexRuns.{RunKeeps}
use Rattle.ro_coop_core.specs.Seats.{IsRanked, takers_of, noted}
use Rattle.ro_coop_core.proofs.Distinct.{AreDistinct, its-rank}

-- ---- each get is of the thread

abbrev pub AreBy : (number : ℕ) → List Get → Type 0
AreBy number [] = Unit {0}
AreBy number (get ∷ gets) = (get.thread ≡ number) × AreBy number gets

by-append : (number : ℕ) (xs ys : List Get) → AreBy number xs → AreBy number ys → AreBy number (xs ++ ys)
by-append number [] ys h k = k
by-append number (x ∷ xs) ys h k = (h.0, by-append number xs ys h.1 k)

module _ (peer : Peer) (number : ℕ) where
  answer-by : (call : Call) (m : Mutex) (answer : Answer) → AreBy number (get_answer number call m answer)
  answer-by call m Waits = tt
  answer-by call m (Answers change value) = by (is_got change)
    where
      by : (b : Bool) → AreBy number (cond b (record { mutex = call.a0; rank = m.rank; thread = number } ∷ []) [])
      by true = (refl, tt)
      by false = tt

  call-by : (call : Call) (o : Option Mutex) → AreBy number (get_call number call o)
  call-by call None = tt
  call-by call (Some m) = answer-by call m (answer_by call.which number m.owner)

  which-by : (b : Bool) (call : Call) → AreBy number (cond b (get_call number call (mutex_in peer.mutexes call.a0)) [])
  which-by true call = call-by call (mutex_in peer.mutexes call.a0)
  which-by false call = tt

  next-by : (n : Next) → AreBy number (get_next peer number n)
  next-by (Executes instr) = tt
  next-by (Stands (Calls call)) = which-by (is_lock_or_unlock call.which) call
  next-by (Stands (Trap code)) = tt
  next-by (Stands (PageFault page)) = tt
  next-by (Stands Watchdog) = tt

  step-by : (layout : Layout) → AreBy number (get_of layout peer number)
  step-by layout = by (slice_get peer.replica.threads number)
    where
      by : (o : Option Thread) → AreBy number (option_map_or (λ thread. get_next peer number (next layout peer.replica.backed peer.replica.memory thread.cpu)) o [])
      by None = tt
      by (Some thread) = next-by (next layout peer.replica.backed peer.replica.memory thread.cpu)

pub got-by : (layout : Layout) (watchdog n : ℕ) (peer : Peer) (number : ℕ) → AreBy number (got_in layout watchdog n peer number)
got-by layout watchdog zero peer number = tt
got-by layout watchdog (suc n) peer number = by-append number (get_of layout peer number) _ (step-by peer number layout) (by (leased layout (asker number) watchdog peer number) (λ after. got-by layout watchdog n after number))
  where
    by : (o : Option Peer) → ((after : Peer) → AreBy number (got_in layout watchdog n after number)) → AreBy number (option_map_or (λ after. got_in layout watchdog n after number) o [])
    by None later = tt
    by (Some after) later = later after

-- so each list of who got a mutex is of that thread alone
all-by : (number mutex : ℕ) (gets : List Get) → AreBy number gets → threads_of mutex gets ≡ replicate (length (threads_of mutex gets)) number
all-by number mutex [] h = refl
all-by number mutex (get ∷ gets) h = by (get.mutex == mutex) (all-by number mutex gets h.1)
  where
    by : (b : Bool) → threads_of mutex gets ≡ replicate (length (threads_of mutex gets)) number → cond b (get.thread ∷ threads_of mutex gets) (threads_of mutex gets) ≡ replicate (length (cond b (get.thread ∷ threads_of mutex gets) (threads_of mutex gets))) number
    by true rest = ap {B = List ℕ} (λ (n : ℕ). n ∷ threads_of mutex gets) h.0 ∙ ap {B = List ℕ} (λ (ns : List ℕ). number ∷ ns) rest
    by false rest = rest

threads-append : (mutex : ℕ) (xs ys : List Get) → threads_of mutex (xs ++ ys) ≡ threads_of mutex xs ++ threads_of mutex ys
threads-append mutex [] ys = refl
threads-append mutex (x ∷ xs) ys = by (x.mutex == mutex) (threads-append mutex xs ys)
  where
    by : (b : Bool) → threads_of mutex (xs ++ ys) ≡ threads_of mutex xs ++ threads_of mutex ys → cond b (x.thread ∷ threads_of mutex (xs ++ ys)) (threads_of mutex (xs ++ ys)) ≡ cond b (x.thread ∷ threads_of mutex xs) (threads_of mutex xs) ++ threads_of mutex ys
    by true e = ap {B = List ℕ} (λ (r : List ℕ). x.thread ∷ r) e
    by false e = e

-- ---- all lists

-- where each list grows so, they are noted so
noted-each : (thread : ℕ) (f g : ℕ → List ℕ) (mutexes : List Mutex) → ((number : ℕ) (mutex : Mutex) → slice_get mutexes number ≡ Some mutex → f mutex.address ++ replicate (mutex.rank - length (f mutex.address)) thread ≡ g mutex.address)
    → noted thread mutexes (map (λ mutex. f mutex.address) mutexes) ≡ map (λ mutex. g mutex.address) mutexes
noted-each thread f g [] each = refl
noted-each thread f g (m ∷ mutexes) each =
    ap {B = List (List ℕ)} (λ (l : List ℕ). l ∷ noted thread mutexes (map (λ mutex. f mutex.address) mutexes)) (each 0 m refl)
    ∙ ap {B = List (List ℕ)} (λ (ls : List (List ℕ)). g m.address ∷ ls) (noted-each thread f g mutexes (λ number mutex e. each (suc number) mutex e))

by-address : (f : ℕ → List ℕ) (mutexes : List Mutex) → map (λ mutex. f mutex.address) mutexes ≡ map f (addresses_of mutexes)
by-address f [] = refl
by-address f (m ∷ mutexes) = ap {B = List (List ℕ)} (λ (ls : List (List ℕ)). f m.address ∷ ls) (by-address f mutexes)

module _ (thread : ℕ) (side : Side) (last old : Peer) (gets : List Get) (parking : Option Parking) (same : old.mutexes ≡ side.mutexes) (keeps : RunKeeps old last gets) (ranked : IsRanked side) (distinct : AreDistinct (addresses_of side.mutexes)) (its : AreBy thread gets) where
  here : addresses_of last.mutexes ≡ addresses_of side.mutexes
  here = keeps.addresses_are ∙ ap addresses_of same

  each-grows : (number : ℕ) (mutex : Mutex) → slice_get last.mutexes number ≡ Some mutex
      → threads_of mutex.address side.gets ++ replicate (mutex.rank - length (threads_of mutex.address side.gets)) thread ≡ threads_of mutex.address (side.gets ++ gets)
  each-grows number mutex e =
      let a : ℕ = mutex.address in
      let rank : rank_in last.mutexes a ≡ mutex.rank = its-rank last.mutexes number mutex (subst AreDistinct (sym here) distinct) e in
      let grown : rank_in last.mutexes a ≡ rank_in old.mutexes a + length (threads_of a gets) = keeps.grows a in
      let was : rank_in old.mutexes a ≡ rank_in side.mutexes a = ap (λ (ms : List Mutex). rank_in ms a) same in
      let counted : length (threads_of a side.gets) ≡ rank_in side.mutexes a = ranked a in
      let more : mutex.rank - length (threads_of a side.gets) ≡ length (threads_of a gets) = omega arith in
      ap (λ (n : ℕ). threads_of a side.gets ++ replicate n thread) more
      ∙ (ap (λ (l : List ℕ). threads_of a side.gets ++ l) (sym (all-by thread a gets its))
      ∙ sym (threads-append a side.gets gets))

  -- what was got is noted by the ranks alone
  pub run-noted : noted thread last.mutexes (takers_of side) ≡ takers_of (side_after thread last gets parking side)
  run-noted =
      ap (noted thread last.mutexes) (by-address (λ a. threads_of a side.gets) side.mutexes ∙ (ap (map (λ a. threads_of a side.gets)) (sym here) ∙ sym (by-address (λ a. threads_of a side.gets) last.mutexes)))
      ∙ noted-each thread (λ a. threads_of a side.gets) (λ a. threads_of a (side.gets ++ gets)) last.mutexes each-grows

-- ---- one mutex after another

-- one more is noted
pub noted-more : (thread : ℕ) (mutexes : List Mutex) (lists : List (List ℕ)) (number : ℕ) (mutex : Mutex) → slice_get mutexes number ≡ Some mutex → length lists ≡ length mutexes
    → slice_set (noted thread (take number mutexes) lists) number (list_of (noted thread (take number mutexes) lists) number ++ replicate (mutex.rank - length (list_of (noted thread (take number mutexes) lists) number)) thread) ≡ noted thread (take (number + 1) mutexes) lists
noted-more thread mutexes lists number mutex e count = one-more mutexes lists number e count ∙ ap (λ (n : ℕ). noted thread (take n mutexes) lists) (let next : suc number ≡ number + 1 = omega arith in next)
  where
    one-more : (ms : List Mutex) (ls : List (List ℕ)) (n : ℕ) → slice_get ms n ≡ Some mutex → length ls ≡ length ms
        → slice_set (noted thread (take n ms) ls) n (list_of (noted thread (take n ms) ls) n ++ replicate (mutex.rank - length (list_of (noted thread (take n ms) ls) n)) thread) ≡ noted thread (take (suc n) ms) ls
    one-more [] ls n f many = absurd (let g : None ≡ Some mutex = f in cc)
    one-more (m ∷ ms) [] n f many = absurd (omega arith)
    one-more (m ∷ ms) (l ∷ ls) zero f many = ap {B = List (List ℕ)} (λ (x : Mutex). (l ++ replicate (x.rank - length l) thread) ∷ ls) (sym (some-injective f))
    one-more (m ∷ ms) (l ∷ ls) (suc n) f many = ap {B = List (List ℕ)} (λ (r : List (List ℕ)). (l ++ replicate (m.rank - length l) thread) ∷ r) (one-more ms ls n f (omega arith))

pub noted-count : (thread : ℕ) (mutexes : List Mutex) (lists : List (List ℕ)) → length (noted thread mutexes lists) ≡ length lists
noted-count thread [] lists = refl
noted-count thread (m ∷ mutexes) [] = refl
noted-count thread (m ∷ mutexes) (l ∷ lists) = ap suc (noted-count thread mutexes lists)

-- two that are recalled are as many
pub recalled-count : (lists others : List (List ℕ)) (takers : Taken) → Recalls lists takers → Recalls others takers → length lists ≡ length others
recalled-count lists others takers h k = sym (length-map lists length) ∙ (ap length (sym h.ranks ∙ k.ranks) ∙ length-map others length)

pub recalled-ranks : (lists : List (List ℕ)) (takers : Taken) → Recalls lists takers → length takers.ranks ≡ length lists
recalled-ranks lists takers h = ap length h.ranks ∙ length-map lists length
