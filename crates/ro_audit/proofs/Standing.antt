-- A thread that stands where its entry does not tell, and one that stands as told.
use Rattle.std.specs.Prelude.{◌≡◌, ◌≢◌, ℕ, zero, suc, Bool, true, false, ◌&&◌, ◌==◌, cond, IsSome, List, [], ◌∷◌, Option, Some, None, is_none, is_some}
use Rattle.std.specs.Option.{option_and_then, option_map_or}
use Rattle.std.proofs.Common.{refl, sym, ap, ◌∙◌, subst, arith}
use Rattle.std.proofs.lemmas.Bool.{eq-eqb, true≢false}
use Rattle.ro_event.specs.declared.calls.Call.{Call}
use Rattle.ro_event.specs.declared.calls.Which.{Which}
use Rattle.ro_event.specs.declared.calls.Which.TheVariants.{Function}
use Rattle.ro_event.specs.declared.functions.Function.TheVariants.{Lock}
use Rattle.ro_event.specs.declared.stops.Stop.{Stop}
use Rattle.ro_event.specs.declared.stops.Stop.TheVariants.{Calls}
use Rattle.ro_exec.specs.Next.{Layout}
use Rattle.ro_replica.specs.Runs.{standing_at}
use Rattle.ro_orders.specs.Turns.{is_lock_or_unlock}
use Rattle.ro_peer.specs.declared.mutexes.Mutex.{Mutex}
use Rattle.ro_peer.specs.declared.running.Came.{Came}
use Rattle.ro_peer.specs.declared.running.Came.TheVariants.{Quantum, Stopped, Owned, Row, Full}
use Rattle.ro_peer.specs.Peers.{Peer, mutex_in, leased, leased_run}
use Rattle.ro_peer.specs.Gets.{Get, InRows, asker, get_of, got_in, is_own_call, voted}
use Rattle.ro_peer.specs.Seen.{number_of, by_address}
use Rattle.ro_peer.specs.Leases.{PeerRuns, CameBy, IsAtLock, waiting_at}
use Rattle.ro_legal.specs.Cooperative.{is_lock, parking_by}
use Rattle.ro_legal.specs.Cooperative.{parking_at as lock_parking}
use Rattle.ro_legal.specs.declared.parkings.Parking.{Parking}
use Rattle.ro_audit.proofs.Onward.{stays-at-stop, stays-at-owned, gets-free}
use Rattle.ro_audit.proofs.Gets.{rows-parts}

-- ---- a stop for which a vote is held

pub record IsVoted (layout : Layout) (watchdog thread : ℕ) (peer : Peer) : Type 0 where
  pub stop : Stop
  pub standing : standing_at layout watchdog peer.replica thread ≡ Some stop
  pub other : is_own_call peer.mutexes stop ≡ false

-- at a lock of a mutex that the thread doesn't own
pub record IsParked (layout : Layout) (watchdog thread : ℕ) (peer : Peer) : Type 0 where
  pub call : Call
  pub mutex : Mutex
  pub standing : standing_at layout watchdog peer.replica thread ≡ Some (Calls call)
  pub locks : call.which ≡ Function Lock
  pub own : mutex_in peer.mutexes call.a0 ≡ Some mutex
  pub other : option_map_or (λ owner. owner == thread) mutex.owner false ≡ false

module _ (layout : Layout) (watchdog thread : ℕ) (peer : Peer) where
  -- where one would be voted on, the thread stands there
  pub is-voted : IsSome (voted peer.mutexes (standing_at layout watchdog peer.replica thread)) → IsVoted layout watchdog thread peer
  is-voted = by (standing_at layout watchdog peer.replica thread) refl
    where
      at : (stop : Stop) → standing_at layout watchdog peer.replica thread ≡ Some stop → (b : Bool) → is_own_call peer.mutexes stop ≡ b → is_some (cond b None (Some stop)) ≡ true → IsVoted layout watchdog thread peer
      at stop stands true own some = absurd (let f : false ≡ true = some in cc)
      at stop stands false own some = record { stop = stop; standing = stands; other = own }

      by : (o : Option Stop) → standing_at layout watchdog peer.replica thread ≡ o → IsSome (voted peer.mutexes o) → IsVoted layout watchdog thread peer
      by None stands some = absurd (let f : false ≡ true = some in cc)
      by (Some stop) stands some = at stop stands (is_own_call peer.mutexes stop) refl some

  is-locking : (which : Which) → is_lock which ≡ true → which ≡ Function Lock
  is-locking (Function Lock) e = refl
  is-locking which e = absurd (let f : false ≡ true = e in cc)

  -- and where one would wait, at such a lock
  pub is-parked : IsSome (lock_parking thread peer.mutexes (standing_at layout watchdog peer.replica thread)) → IsParked layout watchdog thread peer
  is-parked = by (standing_at layout watchdog peer.replica thread) refl
    where
      own-by : (call : Call) → standing_at layout watchdog peer.replica thread ≡ Some (Calls call) → call.which ≡ Function Lock → (m : Mutex) → mutex_in peer.mutexes call.a0 ≡ Some m
          → (b : Bool) → option_map_or (λ owner. owner == thread) m.owner false ≡ b → is_some {T = Parking} (cond b None (Some (record { mutex = call.a0; rank = m.rank; asked = is_none m.owner }))) ≡ true → IsParked layout watchdog thread peer
      own-by call stands locks m own true its some = absurd (let f : false ≡ true = some in cc)
      own-by call stands locks m own false its some = record { call = call; mutex = m; standing = stands; locks = locks; own = own; other = its }

      at : (call : Call) → standing_at layout watchdog peer.replica thread ≡ Some (Calls call) → (b : Bool) → is_lock call.which ≡ b → (o : Option Mutex) → mutex_in peer.mutexes call.a0 ≡ o → is_some (cond b (parking_by thread call.a0 o) None) ≡ true → IsParked layout watchdog thread peer
      at call stands false locks o own some = absurd (let f : false ≡ true = some in cc)
      at call stands true locks None own some = absurd (let f : false ≡ true = some in cc)
      at call stands true locks (Some m) own some = own-by call stands (is-locking call.which locks) m own (option_map_or (λ owner. owner == thread) m.owner false) refl some

      by : (o : Option Stop) → standing_at layout watchdog peer.replica thread ≡ o → IsSome (lock_parking thread peer.mutexes o) → IsParked layout watchdog thread peer
      by (Some (Calls call)) stands some = at call stands (is_lock call.which) refl (mutex_in peer.mutexes call.a0) refl some
      by o stands some = absurd (let f : false ≡ true = some in cc)

  -- a lock of a mutex for which the peer answers is no stop for which a vote is held
  own-lock : (call : Call) (m : Mutex) → call.which ≡ Function Lock → mutex_in peer.mutexes call.a0 ≡ Some m → is_own_call peer.mutexes (Calls call) ≡ true
  own-lock call m locks own =
      ap (λ (which : Which). is_lock_or_unlock which && is_some (mutex_in peer.mutexes call.a0)) locks
      ∙ ap (λ (o : Option Mutex). is_some o) own

  -- so no thread stands at both
  pub not-both : IsVoted layout watchdog thread peer → (call : Call) (m : Mutex) → standing_at layout watchdog peer.replica thread ≡ Some (Calls call) → call.which ≡ Function Lock → mutex_in peer.mutexes call.a0 ≡ Some m → ⊥
  not-both vote call m stands locks own =
      let same : vote.stop ≡ Calls call = (let f : Some vote.stop ≡ Some (Calls call) = sym vote.standing ∙ stands in cc) in
      true≢false (sym (own-lock call m locks own) ∙ (ap (is_own_call peer.mutexes) (sym same) ∙ vote.other))

  -- ---- one more instruction

  none-known : (gets : List Get) → InRows (by_address peer.mutexes (λ number rank. None)) gets → gets ≡ []
  none-known [] known = refl
  none-known (get ∷ gets) known = absurd (by (number_of peer.mutexes get.mutex) known.0)
    where
      by : (o : Option ℕ) → option_and_then (λ (number : ℕ). None) o ≡ Some get.thread → ⊥
      by None e = let f : None ≡ Some get.thread = e in cc
      by (Some number) e = let f : None ≡ Some get.thread = e in cc

  module _ (last : Peer) (steps : ℕ) (came : Came) (looks : PeerRuns layout watchdog 1 thread (λ number rank. None) peer last steps came) where
    -- if there was one, there is a step
    pub moved : steps ≢ 0 → (after : Peer) × (leased layout (asker thread) watchdog peer thread ≡ Some after)
    moved more = by steps more looks.runs
      where
        at : (n : ℕ) (o : Option Peer) → leased layout (asker thread) watchdog peer thread ≡ o → option_and_then (λ after. leased_run layout (asker thread) watchdog n after thread) o ≡ Some looks.end → (after : Peer) × (leased layout (asker thread) watchdog peer thread ≡ Some after)
        at n None is e = absurd (let f : None ≡ Some looks.end = e in cc)
        at n (Some after) is e = (after, is)

        by : (n : ℕ) → n ≢ 0 → leased_run layout (asker thread) watchdog n peer thread ≡ Some looks.end → (after : Peer) × (leased layout (asker thread) watchdog peer thread ≡ Some after)
        by zero more e = absurd (more refl)
        by (suc n) more e = at n (leased layout (asker thread) watchdog peer thread) refl e

    -- by which nothing was got
    got-nothing : steps ≢ 0 → get_of layout peer thread ≡ []
    got-nothing more = by steps more looks.gets
      where
        by : (n : ℕ) → n ≢ 0 → InRows (by_address peer.mutexes (λ number rank. None)) (got_in layout watchdog n peer thread) → get_of layout peer thread ≡ []
        by zero more known = absurd (more refl)
        by (suc n) more known = none-known (get_of layout peer thread) (rows-parts (by_address peer.mutexes (λ number rank. None)) (get_of layout peer thread) _ known).0

    -- a thread that goes on stands at no stop
    pub moves-no-vote : steps ≢ 0 → IsVoted layout watchdog thread peer → ⊥
    moves-no-vote more vote =
        let step = moved more in
        (let f : None ≡ Some step.0 = sym (stays-at-stop layout watchdog thread peer vote.stop vote.standing vote.other) ∙ step.1 in cc)

    -- and at no lock
    pub moves-no-lock : steps ≢ 0 → IsParked layout watchdog thread peer → ⊥
    moves-no-lock more lock = by lock.mutex.owner refl
      where
        by : (o : Option ℕ) → lock.mutex.owner ≡ o → ⊥
        by None free =
            let get : Get = record { mutex = lock.call.a0; rank = lock.mutex.rank; thread = thread } in
            let f : get ∷ [] ≡ [] = sym (gets-free layout watchdog thread peer lock.call lock.mutex lock.standing lock.locks lock.own free) ∙ got-nothing more in cc
        by (Some owner) owned =
            let step = moved more in
            let differs : owner ≢ thread = λ e. true≢false (sym (ap (λ (o : Option ℕ). option_map_or (λ (n : ℕ). n == thread) o false) owned ∙ eq-eqb owner thread e) ∙ lock.other) in
            let f : None ≡ Some step.0 = sym (stays-at-owned layout watchdog thread peer lock.call lock.mutex lock.standing lock.locks lock.own owner owned differs) ∙ step.1 in cc

    -- one that comes back at a lock stands at no stop
    lock-no-vote : (number : ℕ) (m : Mutex) → IsAtLock layout watchdog thread peer number m → IsVoted layout watchdog thread peer → ⊥
    lock-no-vote number m lock vote = not-both vote lock.call m lock.standing lock.locks lock.own

    -- however it waits there
    pub waits-no-vote : steps ≡ 0 → is_some (waiting_at came) ≡ true → IsVoted layout watchdog thread peer → ⊥
    waits-no-vote none waits vote = by came waits (subst (λ (p : Peer). CameBy layout watchdog 1 thread steps p came) (sym same-peer) looks.came_by)
      where
        same-peer : peer ≡ looks.end
        same-peer = let f : Some peer ≡ Some looks.end = subst (λ (n : ℕ). leased_run layout (asker thread) watchdog n peer thread ≡ Some looks.end) none looks.runs in cc

        by : (c : Came) → is_some (waiting_at c) ≡ true → CameBy layout watchdog 1 thread steps peer c → ⊥
        by (Owned number) e (less, (m, lock, owner, owned, distinct)) = lock-no-vote number m lock vote
        by (Row number) e (less, (m, lock, free, counted)) = lock-no-vote number m lock vote
        by (Full number) e (less, (m, lock, free, counted)) = lock-no-vote number m lock vote
        by c e at = let f : false ≡ true = e in cc

    -- and one that comes back at a stop, at no lock
    pub stops-no-lock : steps ≡ 0 → is_some (waiting_at came) ≡ false → IsParked layout watchdog thread peer → ⊥
    stops-no-lock none stops lock = by came stops (subst (λ (p : Peer). CameBy layout watchdog 1 thread steps p came) (sym same-peer) looks.came_by)
      where
        same-peer : peer ≡ looks.end
        same-peer = let f : Some peer ≡ Some looks.end = subst (λ (n : ℕ). leased_run layout (asker thread) watchdog n peer thread ≡ Some looks.end) none looks.runs in cc

        by : (c : Came) → is_some (waiting_at c) ≡ false → CameBy layout watchdog 1 thread steps peer c → ⊥
        by Quantum e all = omega (arith, none, all)
        by (Stopped stop) e (less, stands, other) = not-both (record { stop = stop; standing = stands; other = other }) lock.call lock.mutex lock.standing lock.locks lock.own
        by c e at = let f : true ≡ false = e in cc
