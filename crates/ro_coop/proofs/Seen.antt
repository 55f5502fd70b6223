-- The core of a cooperative run's rules as the core of this theory: what the rules allow is allowed here, and does the same.
use Rattle.std.specs.Prelude.{◌≡◌, ℕ, zero, suc, Bool, true, false, not, ◌&&◌, cond, ◌==◌, List, [], ◌∷◌, ◌++◌, length, map, Option, Some, None, is_some, slice_get, slice_set}
use Rattle.std.specs.List.{filter}
use Rattle.std.specs.Option.{option_and_then, option_map, option_map_or}
use Rattle.std.proofs.Common.{refl, sym, ap, ◌∙◌, arith}
use Rattle.std.proofs.lemmas.Bool.{false≢true, and_from}
use Rattle.std.proofs.lemmas.Option.{option_and_then_some, slice_get_within}
use Rattle.ro_legal.proofs.Lists.{get-within}
use Rattle.ro_event.specs.declared.calls.Which.{Which}
use Rattle.ro_event.specs.declared.calls.Which.TheVariants.{Function}
use Rattle.ro_event.specs.declared.functions.Function.TheVariants.{Lock}
use Rattle.ro_event.specs.declared.stops.Stop.{Stop}
use Rattle.ro_event.specs.declared.stops.Stop.TheVariants.{Calls}
use Rattle.ro_event.specs.Effects.{Effect}
use Rattle.ro_region.specs.declared.Range.{Range}
use Rattle.ro_journal.specs.declared.Lease.{Lease}
use Rattle.ro_journal.specs.declared.Entry.{Entry}
use Rattle.ro_journal.specs.declared.Entry.TheVariants.{Put, Part}
use Rattle.ro_kernel.specs.Kernel.{Kernel, ranges_in, released}
use Rattle.ro_kernel.specs.Serve.{serve}
use Rattle.ro_replica.specs.Replica.{Replica, stop_of, changed_at}
use Rattle.ro_replica.specs.Runs.{standing_at}
use Rattle.ro_replica.specs.Views.{payload_at}
use Rattle.ro_plain.specs.Machine.{setup_of, layout_in}
use Rattle.ro_plain.proofs.Calls.{some-injective}
use Rattle.ro_orders.specs.Turns.{is_lock_or_unlock}
use Rattle.ro_orders.specs.Choices.{chosen_of}
use Rattle.ro_peer.specs.declared.mutexes.Mutex.{Mutex}
use Rattle.ro_peer.specs.Peers.{Peer, mutex_in, leased_run}
use Rattle.ro_peer.specs.Gets.{Get, asker, got_in, is_own_call, voted}
use Rattle.ro_peer.specs.Events.{unanswered}
use Rattle.ro_legal.specs.Core.{Job as Asked, Core as Run}
use Rattle.ro_legal.specs.declared.parkings.Parking.{Parking}
use Rattle.ro_legal.specs.Sides.{Side, peer_with, peers_of}
use Rattle.ro_legal.specs.Event.{Event, event_of, call_event}
use Rattle.ro_legal.specs.Cooperative as rules
use Rattle.ro_coop.specs.Core.{Job, Core, kernel_for, peer_after_event, core_after, arrival, after_put, run_in, vote_event, voted_stop, free_event, after_event, MayPut}
use Rattle.ro_coop.proofs.Choices.{chosen-enters}

abbrev pub as-job : Asked → Job
as-job job = record { program = job.program; settings = job.settings; chosen = chosen_of job.program; one_enters = chosen-enters job.program }

abbrev pub seen : Run → Core
seen core = record {
  peers = peers_of core.replicas core.sides;
  leases = core.leases;
  kernel = core.kernel;
  blocked = core.blocked;
  output = core.output;
  due = core.due;
  ended = core.ended;
}

-- a lease that comes back at a lock is one that comes back with no stop
abbrev pub as-put : Entry → Entry
as-put (Part lease count hit) = Put lease count hit
as-put entry = entry

-- ---- replicas and what they have beside

abbrev with-side : List Side → ℕ → Replica → Option Peer
with-side sides n replica = option_map (peer_with replica) (slice_get sides n)

no-side : (o : Option Replica) → option_and_then (λ (r : Replica). option_map (peer_with r) None) o ≡ None
no-side None = refl
no-side (Some r) = refl

pub peers-get : (replicas : List Replica) (sides : List Side) (n : ℕ) → slice_get (peers_of replicas sides) n ≡ option_and_then (with-side sides n) (slice_get replicas n)
peers-get [] sides n = refl
peers-get (r ∷ replicas) [] n = sym (no-side (slice_get (r ∷ replicas) n))
peers-get (r ∷ replicas) (s ∷ sides) zero = refl
peers-get (r ∷ replicas) (s ∷ sides) (suc n) = peers-get replicas sides n

-- a peer's replica and what it has beside
pub record IsPeerOf (core : Run) (n : ℕ) (peer : Peer) : Type 0 where
  pub replica : Replica
  pub side : Side
  pub here : slice_get core.replicas n ≡ Some replica
  pub beside : slice_get core.sides n ≡ Some side
  pub is : peer_with replica side ≡ peer

pub peer-parts : (core : Run) (n : ℕ) (peer : Peer) → option_and_then (with-side core.sides n) (slice_get core.replicas n) ≡ Some peer → IsPeerOf core n peer
peer-parts core n peer e = option_and_then_some (with-side core.sides n) (slice_get core.replicas n) peer e (λ replica here f. by replica here (slice_get core.sides n) refl f)
  where
    by : (replica : Replica) → slice_get core.replicas n ≡ Some replica → (o : Option Side) → slice_get core.sides n ≡ o → option_map (peer_with replica) o ≡ Some peer → IsPeerOf core n peer
    by replica here None g f = absurd (let k : None ≡ Some peer = f in cc)
    by replica here (Some side) g f = record { replica = replica; side = side; here = here; beside = g; is = some-injective f }

set-peers : (replicas : List Replica) (sides : List Side) (n : ℕ) (r : Replica) (f : Side → Side) (side : Side) → slice_get sides n ≡ Some side → slice_set (peers_of replicas sides) n (peer_with r (f side)) ≡ peers_of (slice_set replicas n r) (changed_at f sides n)
set-peers [] [] n r f side e = absurd (let k : None ≡ Some side = e in cc)
set-peers [] (s ∷ sides) n r f side e = refl
set-peers (x ∷ replicas) [] n r f side e = absurd (let k : None ≡ Some side = e in cc)
set-peers (x ∷ replicas) (s ∷ sides) zero r f side e = ap (λ (y : Side). peer_with r (f y) ∷ peers_of replicas sides) (sym (some-injective e))
set-peers (x ∷ replicas) (s ∷ sides) (suc n) r f side e = ap (λ (ps : List Peer). peer_with x s ∷ ps) (set-peers replicas sides n r f side e)

-- ---- a thread that waits at a lock

lock-is : (which : Which) → rules.is_lock which ≡ true → is_lock_or_unlock which ≡ true
lock-is (Function Lock) e = refl
lock-is which e = absurd (false≢true e)

parked-known : (thread address : ℕ) (o : Option Mutex) → is_some (rules.parking_by thread address o) ≡ true → is_some o ≡ true
parked-known thread address None e = e
parked-known thread address (Some mutex) e = refl

-- it stands at no stop that needs a vote
unvoted : (thread : ℕ) (mutexes : List Mutex) (o : Option Stop) → is_some (rules.parking_at thread mutexes o) ≡ true → voted mutexes o ≡ None
unvoted thread mutexes (Some (Calls call)) h = ap (λ (b : Bool). cond b None (Some (Calls call))) (by (rules.is_lock call.which) refl h)
  where
    by : (b : Bool) → rules.is_lock call.which ≡ b → is_some (cond b (rules.parking_by thread call.a0 (mutex_in mutexes call.a0)) None) ≡ true → is_own_call mutexes (Calls call) ≡ true
    by true e f = and_from (is_lock_or_unlock call.which) (is_some (mutex_in mutexes call.a0)) (lock-is call.which e) (parked-known thread call.a0 (mutex_in mutexes call.a0) f)
    by false e f = absurd (false≢true f)
unvoted thread mutexes o h = absurd (false≢true h)

-- ---- a lease

module _ (job : Asked) (core : Run) (lease : Lease) (count : ℕ) where
  run-same : run_in (as-job job) (asker lease.thread) (seen core) lease count ≡ rules.lease_run job core lease count
  run-same = ap (option_and_then (λ peer. leased_run (layout_in job.program core.kernel) (asker lease.thread) job.settings.watchdog count peer lease.thread)) (peers-get core.replicas core.sides lease.replica)

  pub gets-same : option_map_or (λ peer. got_in (layout_in job.program core.kernel) job.settings.watchdog count peer lease.thread) (slice_get (peers_of core.replicas core.sides) lease.replica) [] ≡ rules.lease_gets job core lease count
  gets-same = ap (λ (o : Option Peer). option_map_or (λ peer. got_in (layout_in job.program core.kernel) job.settings.watchdog count peer lease.thread) o []) (peers-get core.replicas core.sides lease.replica)

  module _ (ran : rules.Ran job core lease count) where
    pub may-put : MayPut (as-job job) (asker lease.thread) (seen core) lease count
    may-put = record { not_ended = ran.not_ended; out = ran.out; peer = ran.peer; runs = run-same ∙ ran.runs }

    its-side : (side : Side) × (slice_get core.sides lease.replica ≡ Some side)
    its-side = option_and_then_some (λ peer. leased_run (layout_in job.program core.kernel) (asker lease.thread) job.settings.watchdog count peer lease.thread) (rules.peer_in core lease.replica) ran.peer ran.runs
        (λ peer e f. let p = peer-parts core lease.replica peer e in (p.side, p.beside))

    -- it comes back with this stop, or waits at a lock
    came : (gets : List Get) (parking : Option Parking) (stop : Option Stop) → arrival (as-job job) core.kernel lease.thread count ran.peer ≡ stop → after_put (as-job job) (seen core) lease count (Some ran.peer) ≡ seen (rules.core_after_lease core lease ran.peer gets stop parking)
    came gets parking stop e =
        ap (λ (o : Option Stop). record (seen core) {
          peers = slice_set (peers_of core.replicas core.sides) lease.replica (record ran.peer { replica = rules.stopped lease.thread o ran.peer.replica });
          leases = filter (λ other. not ((other.driver == lease.driver) && (other.replica == lease.replica) && (other.thread == lease.thread))) core.leases;
        }) e
        ∙ ap (λ (ps : List Peer). record (seen core) {
          peers = ps;
          leases = filter (λ other. not ((other.driver == lease.driver) && (other.replica == lease.replica) && (other.thread == lease.thread))) core.leases;
        }) (set-peers core.replicas core.sides lease.replica (rules.stopped lease.thread stop ran.peer.replica) (rules.side_after lease.thread ran.peer gets parking) its-side.0 its-side.1)

    put-after : (gets : List Get) (parking : Option Parking) (stop : Option Stop) → arrival (as-job job) core.kernel lease.thread count ran.peer ≡ stop
        → after_put (as-job job) (seen core) lease count (run_in (as-job job) (asker lease.thread) (seen core) lease count) ≡ seen (rules.core_after_lease core lease ran.peer gets stop parking)
    put-after gets parking stop e = ap (after_put (as-job job) (seen core) lease count) (run-same ∙ ran.runs) ∙ came gets parking stop e

    pub put-same : after_put (as-job job) (seen core) lease count (run_in (as-job job) (asker lease.thread) (seen core) lease count) ≡ seen (rules.core_after_put job core lease count (rules.lease_run job core lease count))
    put-same =
        put-after (rules.lease_gets job core lease count) None (rules.arrival job core.kernel lease.thread count ran.peer) refl
        ∙ ap (λ (o : Option Peer). seen (rules.core_after_put job core lease count o)) (sym ran.runs)

    pub part-same : is_some (rules.parking_of job core.kernel lease.thread ran.peer) ≡ true → after_put (as-job job) (seen core) lease count (run_in (as-job job) (asker lease.thread) (seen core) lease count) ≡ seen (rules.core_after_part job core lease count (rules.lease_run job core lease count))
    part-same waits =
        put-after (rules.lease_gets job core lease count) (rules.parking_of job core.kernel lease.thread ran.peer) None unstopped
        ∙ ap (λ (o : Option Peer). seen (rules.core_after_part job core lease count o)) (sym ran.runs)
      where
        unstopped : arrival (as-job job) core.kernel lease.thread count ran.peer ≡ None
        unstopped = by (count == job.settings.quantum)
          where
            by : (b : Bool) → cond b None (voted ran.peer.mutexes (standing_at (layout_in job.program core.kernel) job.settings.watchdog ran.peer.replica lease.thread)) ≡ None
            by true = refl
            by false = unvoted lease.thread ran.peer.mutexes _ waits

-- ---- an event

-- the kernel that serves a thread gives the same ranges
for-ranges : (job : Asked) (core : Run) (thread : ℕ) → ranges_in (setup_of job.program) (rules.kernel_for core thread) ≡ ranges_in (setup_of job.program) core.kernel
for-ranges job core thread = by (slice_get core.sides 0)
  where
    one : (b : Bool) → ranges_in (setup_of job.program) (cond b (released core.kernel thread) core.kernel) ≡ ranges_in (setup_of job.program) core.kernel
    one true = refl
    one false = refl

    by : (o : Option Side) → ranges_in (setup_of job.program) (option_map_or (λ (side : Side). cond (side.answered thread) (released core.kernel thread) core.kernel) o core.kernel) ≡ ranges_in (setup_of job.program) core.kernel
    by None = refl
    by (Some side) = one (side.answered thread)

module _ (job : Asked) (core : Run) (as_many : length core.sides ≡ length core.replicas) (thread : ℕ) where
  -- each replica is a peer
  pub peer-of : (n : ℕ) (replica : Replica) → slice_get core.replicas n ≡ Some replica → (side : Side) × (slice_get core.sides n ≡ Some side) × (slice_get (peers_of core.replicas core.sides) n ≡ Some (peer_with replica side))
  peer-of n replica e =
      let side = get-within core.sides n (let w = slice_get_within core.replicas n replica e in omega arith) in
      (side.0, side.1, peers-get core.replicas core.sides n ∙ (ap (option_and_then (with-side core.sides n)) e ∙ ap (option_map (peer_with replica)) side.1))

  pub kernel-same : kernel_for (seen core) thread ≡ rules.kernel_for core thread
  kernel-same = by core.replicas core.sides as_many
    where
      by : (replicas : List Replica) (sides : List Side) → length sides ≡ length replicas → option_map_or (λ (peer : Peer). cond (peer.answered thread) (released core.kernel thread) core.kernel) (slice_get (peers_of replicas sides) 0) core.kernel ≡ option_map_or (λ (side : Side). cond (side.answered thread) (released core.kernel thread) core.kernel) (slice_get sides 0) core.kernel
      by [] [] e = refl
      by [] (s ∷ sides) e = absurd (omega arith)
      by (r ∷ replicas) [] e = absurd (omega arith)
      by (r ∷ replicas) (s ∷ sides) e = refl

  stop-same : voted_stop (seen core) thread ≡ rules.voted_stop core thread
  stop-same = by core.replicas core.sides as_many
    where
      by : (replicas : List Replica) (sides : List Side) → length sides ≡ length replicas → option_and_then (λ (peer : Peer). stop_of peer.replica thread) (slice_get (peers_of replicas sides) 0) ≡ option_and_then (λ (replica : Replica). stop_of replica thread) (slice_get replicas 0)
      by [] [] e = refl
      by [] (s ∷ sides) e = absurd (omega arith)
      by (r ∷ replicas) [] e = absurd (omega arith)
      by (r ∷ replicas) (s ∷ sides) e = refl

  abbrev event-by : Kernel → List Range → Replica → Stop → Event
  event-by kernel ranges replica stop = event_of (setup_of job.program) kernel thread stop (payload_at ranges replica.memory stop)

  abbrev shown : Replica → Option Event
  shown replica = option_map (event-by (rules.kernel_for core thread) (ranges_in (setup_of job.program) core.kernel) replica) (stop_of replica thread)

  pub event-same : vote_event (as-job job) (seen core) thread ≡ rules.voted_event job core thread
  event-same =
      ap (λ (k : Kernel). option_and_then (λ (peer : Peer). option_map (event-by k (ranges_in (setup_of job.program) core.kernel) peer.replica) (stop_of peer.replica thread)) (slice_get (peers_of core.replicas core.sides) 0)) kernel-same
      ∙ (by core.replicas core.sides as_many
      ∙ ap (λ (ranges : List Range). option_and_then (λ (replica : Replica). option_map (event-by (rules.kernel_for core thread) ranges replica) (stop_of replica thread)) (slice_get core.replicas 0)) (sym (for-ranges job core thread)))
    where
      by : (replicas : List Replica) (sides : List Side) → length sides ≡ length replicas → option_and_then (λ (peer : Peer). shown peer.replica) (slice_get (peers_of replicas sides) 0) ≡ option_and_then shown (slice_get replicas 0)
      by [] [] e = refl
      by [] (s ∷ sides) e = absurd (omega arith)
      by (r ∷ replicas) [] e = absurd (omega arith)
      by (r ∷ replicas) (s ∷ sides) e = refl

  -- what an event does in each
  served-same : (effect : Effect) (entered : List Mutex) (replicas : List Replica) (sides : List Side) → map (peer_after_event effect entered) (map (unanswered thread) (peers_of replicas sides)) ≡ peers_of (rules.replicas_after effect entered replicas sides) (map (rules.side_served thread entered) sides)
  served-same effect entered [] sides = refl
  served-same effect entered (r ∷ replicas) [] = refl
  served-same effect entered (r ∷ replicas) (s ∷ sides) =
      ap (λ (ps : List Peer). peer_with (rules.replica_after effect entered s r) (rules.side_served thread entered s) ∷ ps) (served-same effect entered replicas sides)

  -- the core behind an event
  done-same : (stop : Option Stop) (event : Option Event) → after_event (chosen_of job.program) (seen core) thread stop event ≡ seen (rules.core_after_event job core thread stop event)
  done-same stop None = refl
  done-same stop (Some event) =
      ap (λ (k : Kernel). core_after (chosen_of job.program) (record (seen core) { peers = map (unanswered thread) (peers_of core.replicas core.sides); kernel = k }) thread stop event) kernel-same
      ∙ ap (λ (ps : List Peer). record {
        peers = ps;
        leases = core.leases;
        kernel = event.kernel;
        blocked = λ t. cond (t == thread) event.blocked (core.blocked t);
        output = core.output ++ event.payload;
        due = event.due;
        ended = core.ended;
      }) (served-same event.effect (rules.entered_by (chosen_of job.program) (rules.kernel_for core thread) event.kernel stop) core.replicas core.sides)

  pub voted-same : after_event (chosen_of job.program) (seen core) thread (voted_stop (seen core) thread) (vote_event (as-job job) (seen core) thread) ≡ seen (rules.core_after_event job core thread (rules.voted_stop core thread) (rules.voted_event job core thread))
  voted-same =
      ap (λ (o : Option Stop). after_event (chosen_of job.program) (seen core) thread o (vote_event (as-job job) (seen core) thread)) stop-same
      ∙ (ap (after_event (chosen_of job.program) (seen core) thread (rules.voted_stop core thread)) event-same
      ∙ done-same (rules.voted_stop core thread) (rules.voted_event job core thread))

  pub freed-same : after_event (chosen_of job.program) (seen core) thread (option_map Calls (core.blocked thread)) (free_event (as-job job) (seen core) thread) ≡ seen (rules.core_after_event job core thread (option_map Calls (core.blocked thread)) (rules.freed_event job core thread))
  freed-same =
      ap (λ (k : Kernel). after_event (chosen_of job.program) (seen core) thread (option_map Calls (core.blocked thread)) (option_map (λ call. call_event k thread call [] (serve (setup_of job.program) k thread call)) (core.blocked thread))) kernel-same
      ∙ done-same (option_map Calls (core.blocked thread)) (rules.freed_event job core thread)
