-- What a peer's run comes to may be put back, while its lease is out.
use Rattle.std.specs.Prelude.{◌≡◌, ◌<◌, ℕ, ◌==◌, Bool, true, false, not, if◌then◌else◌, IfSome, IsTrue, IsSome, List, [], length, Option, Some, None, is_none, slice_get}
use Rattle.std.specs.List.{list_all}
use Rattle.std.specs.Option.{option_map, option_map_or, option_and_then}
use Rattle.std.proofs.Common.{refl, sym, ap, ◌∙◌, subst, arith, inl, inr}
use Rattle.std.proofs.lemmas.Bool.{eq-eqb, ne_eqb}
use Rattle.ro_event.specs.declared.stops.Stop.{Stop}
use Rattle.ro_exec.specs.Next.{Layout}
use Rattle.ro_journal.specs.declared.Entry.{Entry}
use Rattle.ro_journal.specs.declared.Entry.TheVariants.{Put, Part}
use Rattle.ro_journal.specs.declared.Lease.{Lease}
use Rattle.ro_thread.specs.declared.Thread.{Thread}
use Rattle.ro_replica.specs.Replica.{Replica}
use Rattle.ro_replica.specs.Runs.{standing_at}
use Rattle.ro_replica.specs.Views.{is_unstopped}
use Rattle.ro_replica.proofs.Elements.{get_changed}
use Rattle.ro_plain.specs.Machine.{layout_in}
use Rattle.ro_peer.specs.declared.mutexes.Mutex.{Mutex}
use Rattle.ro_peer.specs.declared.running.Came.{Came}
use Rattle.ro_peer.specs.declared.running.Came.TheVariants.{Quantum, Stopped, Owned, Row, Full}
use Rattle.ro_peer.specs.Peers.{Peer, mutex_in, leased_run}
use Rattle.ro_peer.specs.Gets.{Get, asker, got_in, is_own_call, voted}
use Rattle.ro_peer.specs.Leases.{waiting_at, IsAtLock, CameBy}
use Rattle.ro_peer.specs.Leases.{stopped as came_back}
use Rattle.ro_peer.proofs.Parts.{unstopped_same}
use Rattle.ro_peer.proofs.Places.{at_its_number, number_within}
use Rattle.ro_peer.proofs.Steps.{run_kept}
use Rattle.ro_legal.specs.declared.parkings.Parking.{Parking}
use Rattle.ro_legal.specs.Sides.{Side, is_ahead, peer_with}
use Rattle.ro_legal.specs.Core.{Job, Core, is_out}
use Rattle.ro_legal.specs.Cooperative.{peer_in, lease_run, lease_gets, arrival, parking_by, parking_of, is_lock, stopped, side_after, core_after_lease, core_after_put, core_after_part, after, Ran, MayPart, IsAllowed}
use Rattle.ro_legal.specs.Cooperative.{parking_at as lock_parking}
use Rattle.ro_legal.proofs.Lists.{get-set-same}
use Rattle.ro_legal.proofs.TogetherRuns.{LentParts, lent-parts}
use Rattle.ro_coop_core.specs.Seen.{return_of, parking_at, parked_in}
use Rattle.ro_coop_lease.proofs.Ceilings.{numbered}

-- The return of a lease: it is allowed, and leaves this peer, whose thread waits where it came back.
pub record Returned (job : Job) (core : Core) (lease : Lease) (last : Peer) (count : ℕ) (came : Came) : Type 0 where
  pub allowed : IsAllowed job core (return_of lease count came)
  pub became : peer_in (after job core (return_of lease count came)) lease.replica ≡ Some last
  pub within : IfSome (waiting_at came) (λ number. number < length last.mutexes)
  pub waits : parked_in (after job core (return_of lease count came)) lease.replica lease.thread ≡ parking_at last.mutexes came

-- ---- a core behind a lease that came back

module _ (core : Core) (lease : Lease) (replica : Replica) (side : Side) (here : slice_get core.replicas lease.replica ≡ Some replica) (beside : slice_get core.sides lease.replica ≡ Some side) (end : Peer) (gets : List Get) (stop : Option Stop) (parking : Option Parking) where
  abbrev changes : Side → Side
  changes = side_after lease.thread end gets parking

  abbrev behind : Core
  behind = core_after_lease core lease end gets stop parking

  side-is : slice_get behind.sides lease.replica ≡ Some (changes side)
  side-is = get_changed changes core.sides lease.replica ∙ ap (option_map changes) beside

  -- its peer
  peer-is : peer_in behind lease.replica ≡ Some (record end { replica = stopped lease.thread stop end.replica })
  peer-is =
      ap (option_and_then (λ (r : Replica). option_map (peer_with r) (slice_get behind.sides lease.replica))) (get-set-same core.replicas lease.replica replica (stopped lease.thread stop end.replica) here)
      ∙ ap (option_map (peer_with (stopped lease.thread stop end.replica))) side-is

  -- where its thread waits
  parked-is : parked_in behind lease.replica lease.thread ≡ parking
  parked-is =
      ap (option_and_then (λ (s : Side). s.parked lease.thread)) side-is
      ∙ ap (λ (b : Bool). if b then parking else side.parked lease.thread) (eq-eqb lease.thread lease.thread refl)

-- a thread that goes on is the same without a stop
same-without : (thread : ℕ) (replica : Replica) → IsTrue (is_unstopped thread replica) → stopped thread None replica ≡ replica
same-without thread replica going = ap (λ (threads : List Thread). record replica { threads = threads }) (unstopped_same thread replica going)

-- ---- a lock that waits

-- a thread that waits at this mutex
abbrev mutex-parking : Mutex → Parking
mutex-parking mutex = record { mutex = mutex.address; rank = mutex.rank; asked = is_none mutex.owner }

module _ (layout : Layout) (watchdog thread : ℕ) (peer : Peer) (number : ℕ) (mutex : Mutex) (at : IsAtLock layout watchdog thread peer number mutex) where
  abbrev its-parking : Parking
  its-parking = record { mutex = at.call.a0; rank = mutex.rank; asked = is_none mutex.owner }

  -- where it waits, by what it stands at
  lock-parks : option_map_or (λ owner. owner == thread) mutex.owner false ≡ false → lock_parking thread peer.mutexes (standing_at layout watchdog peer.replica thread) ≡ Some its-parking
  lock-parks other =
      ap (lock_parking thread peer.mutexes) at.standing
      ∙ (ap (λ which. if is_lock which then parking_by thread at.call.a0 (mutex_in peer.mutexes at.call.a0) else None) at.locks
      ∙ (ap (parking_by thread at.call.a0) at.own
      ∙ ap (λ (b : Bool). if b then None else Some its-parking) other))

  -- and by the mutex's number
  number-parks : option_map mutex-parking (slice_get peer.mutexes number) ≡ Some its-parking
  number-parks =
      let its = numbered peer.mutexes at.call.a0 number at.numbered in
      let same : its.mutex ≡ mutex = (let f : Some its.mutex ≡ Some mutex = sym (at_its_number peer.mutexes at.call.a0 number its.mutex at.numbered its.there) ∙ at.own in cc) in
      ap (option_map mutex-parking) its.there
      ∙ (ap (λ (a : ℕ). Some (record { mutex = a; rank = its.mutex.rank; asked = is_none its.mutex.owner })) its.address_is
      ∙ ap (λ (m : Mutex). Some (record { mutex = at.call.a0; rank = m.rank; asked = is_none m.owner })) same)

-- ---- a return

-- what the lease's run got
pub gets-are : (job : Job) (core : Core) (lease : Lease) (lent : Peer) (count : ℕ) → peer_in core lease.replica ≡ Some lent → lease_gets job core lease count ≡ got_in (layout_in job.program core.kernel) job.settings.watchdog count lent lease.thread
gets-are job core lease lent count there = ap (λ (o : Option Peer). option_map_or (λ peer. got_in (layout_in job.program core.kernel) job.settings.watchdog count peer lease.thread) o []) there

module _ (job : Job) (core : Core) (lease : Lease) (lent end : Peer) (count : ℕ)
    (there : peer_in core lease.replica ≡ Some lent)
    (runs : leased_run (layout_in job.program core.kernel) (asker lease.thread) job.settings.watchdog count lent lease.thread ≡ Some end)
    (going : IsTrue (is_unstopped lease.thread lent.replica))
    (out : is_out core lease ≡ true) (not_ended : core.ended ≡ None)
    (within : list_all (λ get. not (is_ahead core.sides get.mutex get.rank)) (lease_gets job core lease count) ≡ true) where
  abbrev is-own : Option ℕ → Bool
  is-own owner = option_map_or (λ o. o == lease.thread) owner false

  run-is : lease_run job core lease count ≡ Some end
  run-is = ap (option_and_then (λ (peer : Peer). leased_run (layout_in job.program core.kernel) (asker lease.thread) job.settings.watchdog count peer lease.thread)) there ∙ runs

  ran : Ran job core lease count
  ran = record { not_ended = not_ended; out = out; peer = end; runs = run-is; within = within }

  parts : LentParts job core lease count end
  parts = lent-parts job core lease count end run-is

  still : IsTrue (is_unstopped lease.thread end.replica)
  still = (run_kept (layout_in job.program core.kernel) (asker lease.thread) job.settings.watchdog count lent end lease.thread runs).going ∙ going

  abbrev stop-is : Option Stop → Peer
  stop-is stop = record end { replica = stopped lease.thread stop end.replica }

  -- the core behind a put, whose thread stands so
  put-peer : (stop : Option Stop) → arrival job core.kernel lease.thread count end ≡ stop → peer_in (after job core (Put lease count 0)) lease.replica ≡ Some (stop-is stop)
  unfolding after
  put-peer stop is =
      ap (λ (o : Option Peer). peer_in (core_after_put job core lease count o) lease.replica) run-is
      ∙ (peer-is core lease parts.lent parts.side parts.there parts.beside end (lease_gets job core lease count) (arrival job core.kernel lease.thread count end) None
      ∙ ap (λ (s : Option Stop). Some (stop-is s)) is)

  put-parked : parked_in (after job core (Put lease count 0)) lease.replica lease.thread ≡ None
  unfolding after
  put-parked =
      ap (λ (o : Option Peer). parked_in (core_after_put job core lease count o) lease.replica lease.thread) run-is
      ∙ parked-is core lease parts.lent parts.side parts.there parts.beside end (lease_gets job core lease count) (arrival job core.kernel lease.thread count end) None

  -- after a whole quantum
  by-quantum : count ≡ job.settings.quantum → Returned job core lease end count Quantum
  by-quantum all = record {
    allowed = record { ran = ran; unstruck = refl; arrives = inl all };
    became = put-peer None (ap (λ (b : Bool). if b then None else voted end.mutexes (standing_at (layout_in job.program core.kernel) job.settings.watchdog end.replica lease.thread)) (eq-eqb count job.settings.quantum all))
        ∙ ap (λ (r : Replica). Some (record end { replica = r })) (same-without lease.thread end.replica still);
    within = tt;
    waits = put-parked;
  }

  -- at a stop
  by-stop : (stop : Stop) → count < job.settings.quantum → standing_at (layout_in job.program core.kernel) job.settings.watchdog end.replica lease.thread ≡ Some stop → is_own_call end.mutexes stop ≡ false
      → Returned job core lease (came_back lease.thread (Stopped stop) end) count (Stopped stop)
  unfolding ran
  by-stop stop less stands not_own = record {
    allowed = record { ran = ran; unstruck = refl; arrives = inr (less, subst (λ (o : Option Stop). IsSome o) (sym arrives) refl) };
    became = put-peer (Some stop) arrives;
    within = tt;
    waits = put-parked;
  }
    where
      arrives : arrival job core.kernel lease.thread count end ≡ Some stop
      arrives =
          ap (λ (b : Bool). if b then None else voted end.mutexes (standing_at (layout_in job.program core.kernel) job.settings.watchdog end.replica lease.thread)) (ne_eqb count job.settings.quantum (λ all. omega arith))
          ∙ (ap (voted end.mutexes) stands
          ∙ ap (λ (b : Bool). if b then None else Some stop) not_own)

  -- at a lock
  module _ (number : ℕ) (mutex : Mutex) (at : IsAtLock (layout_in job.program core.kernel) job.settings.watchdog lease.thread end number mutex) (less : count < job.settings.quantum) (other : is-own mutex.owner ≡ false) where
    parks : parking_of job core.kernel lease.thread end ≡ Some (its-parking (layout_in job.program core.kernel) job.settings.watchdog lease.thread end number mutex at)
    parks = lock-parks (layout_in job.program core.kernel) job.settings.watchdog lease.thread end number mutex at other

    may-part : MayPart job core lease count 0
    unfolding ran
    may-part = record { ran = ran; unstruck = refl; below = less; waits = subst (λ (o : Option Parking). IsSome o) (sym parks) refl }

    part-peer : peer_in (after job core (Part lease count 0)) lease.replica ≡ Some end
    unfolding after
    part-peer =
        ap (λ (o : Option Peer). peer_in (core_after_part job core lease count o) lease.replica) run-is
        ∙ (peer-is core lease parts.lent parts.side parts.there parts.beside end (lease_gets job core lease count) None (parking_of job core.kernel lease.thread end)
        ∙ ap (λ (r : Replica). Some (record end { replica = r })) (same-without lease.thread end.replica still))

    part-parked : parked_in (after job core (Part lease count 0)) lease.replica lease.thread ≡ option_map mutex-parking (slice_get end.mutexes number)
    unfolding after
    part-parked =
        ap (λ (o : Option Peer). parked_in (core_after_part job core lease count o) lease.replica lease.thread) run-is
        ∙ (parked-is core lease parts.lent parts.side parts.there parts.beside end (lease_gets job core lease count) None (parking_of job core.kernel lease.thread end)
        ∙ (parks ∙ sym (number-parks (layout_in job.program core.kernel) job.settings.watchdog lease.thread end number mutex at)))

    by-lock : (came : Came) → return_of lease count came ≡ Part lease count 0 → waiting_at came ≡ Some number → Returned job core lease end count came
    by-lock came entry waits = record {
      allowed = subst (IsAllowed job core) (sym entry) may-part;
      became = ap (λ (e : Entry). peer_in (after job core e) lease.replica) entry ∙ part-peer;
      within = subst (λ (o : Option ℕ). IfSome o (λ n. n < length end.mutexes)) (sym waits) (number_within end.mutexes at.call.a0 number at.numbered);
      waits = ap (λ (e : Entry). parked_in (after job core e) lease.replica lease.thread) entry
          ∙ (part-parked
          ∙ sym (ap (λ (o : Option ℕ). option_map mutex-parking (option_and_then (λ n. slice_get end.mutexes n) o)) waits));
    }

  -- as it came back
  pub returned : (came : Came) → CameBy (layout_in job.program core.kernel) job.settings.watchdog job.settings.quantum lease.thread count end came → Returned job core lease (came_back lease.thread came end) count came
  returned Quantum all = by-quantum all
  returned (Stopped stop) at = by-stop stop at.0 at.1 at.2
  returned (Owned number) (less, (mutex, at, owner, owned, other)) = by-lock number mutex at less (ap is-own owned ∙ ne_eqb owner lease.thread other) (Owned number) refl refl
  returned (Row number) (less, (mutex, at, free, more)) = by-lock number mutex at less (ap is-own free) (Row number) refl refl
  returned (Full number) (less, (mutex, at, free, full)) = by-lock number mutex at less (ap is-own free) (Full number) refl refl
