-- A cooperative run, in which replicas answer the calls on some mutexes by themselves: which entries are allowed in its core,
-- and the core that each leaves. There are no faults, copies and scrubs. A lease is judged as if whoever asks got the mutex;
-- what was got is held against the rows of the lock page when it is closed.
pub use Rattle.ro_legal.specs.Legal.{stopped}
use Rattle.std.specs.Prelude.{◌≡◌, ◌⊎◌, ℕ, ◌+◌, ◌-◌, ◌<◌, ◌≤◌, max, IsTrue, IsSome, Bool, true, false, not, ◌&&◌, ◌||◌, List, [], ◌∷◌, ◌++◌, length, map, replicate, Option, Some, None, is_none, ◌==◌, if◌then◌else◌, slice_get, slice_set}
use Rattle.std.specs.List.{filter, list_all}
use Rattle.std.specs.Option.{option_and_then, option_map, option_map_or}
use Rattle.ro_event.specs.declared.calls.Which.{Which}
use Rattle.ro_event.specs.declared.calls.Which.TheVariants.{Function}
use Rattle.ro_event.specs.declared.functions.Function.TheVariants.{Lock}
use Rattle.ro_event.specs.declared.stops.Stop.{Stop}
use Rattle.ro_event.specs.declared.stops.Stop.TheVariants.{Calls}
use Rattle.ro_event.specs.Effects.{Effect}
use Rattle.ro_event.specs.Views.{View}
use Rattle.ro_journal.specs.declared.Did.{Did}
use Rattle.ro_journal.specs.declared.How.{How}
use Rattle.ro_journal.specs.declared.How.TheVariants.{Limit, Differ}
use Rattle.ro_journal.specs.declared.Entry.{Entry}
use Rattle.ro_journal.specs.declared.Entry.TheVariants.{Take, Put, Part, Vote, Free, Scrub, End}
use Rattle.ro_journal.specs.declared.Lease.{Lease}
use Rattle.ro_journal.specs.declared.losers.Lost.{Lost}
use Rattle.ro_journal.specs.declared.losers.Lost.TheVariants.{Nobody}
use Rattle.ro_journal.specs.Plan.{event_steps}
use Rattle.ro_mutex.specs.Owners.{owner_of}
use Rattle.ro_kernel.specs.Kernel.{Kernel, released}
use Rattle.ro_kernel.specs.Reserved.{reservation_of}
use Rattle.ro_replica.specs.Replica.{Replica, changed_at, stop_of, applied, cancelled}
use Rattle.ro_replica.specs.Runs.{standing_at}
use Rattle.ro_plain.specs.Machine.{layout_in}
use Rattle.ro_orders.specs.Turns.{Chosen, is_cooperative}
use Rattle.ro_orders.specs.Choices.{chosen_of}
use Rattle.ro_peer.specs.declared.mutexes.Mutex.{Mutex}
use Rattle.ro_peer.specs.Peers.{Peer, mutex_in, leased_run}
use Rattle.ro_peer.specs.Gets.{Get, asker, got_in, voted}
use Rattle.ro_peer.specs.Events.{without_own}
use Rattle.ro_legal.specs.Sides.{Parking, Side, opening_side, peer_with, is_ahead}
use Rattle.ro_legal.specs.Core.{Job, Core, is_lease, is_out, may_vote, may_free, views_of}
use Rattle.ro_legal.specs.Core.{opening_core as opening_voted}
use Rattle.ro_legal.specs.Event.{Event}
use Rattle.ro_legal.specs.Waits.{waited_behind}
use Rattle.ro_legal.specs.Legal.{MayTake, EndsAlone, EndsFree, core_after_take, event_in, freed_event as freed_in, since_in, cut_output}

unfoldable pub opening_core : Job → Core
opening_core job = record (opening_voted job) { sides = replicate job.settings.replicas opening_side; sharing = None }

-- the replica of this number, as one that answers
abbrev pub peer_in : Core → (number : ℕ) → Option Peer
peer_in core number = option_and_then (λ replica. option_map (peer_with replica) (slice_get core.sides number)) (slice_get core.replicas number)

-- ---- a lease

-- the run of a lease, if its steps exist
abbrev pub lease_run : Job → Core → Lease → (count : ℕ) → Option Peer
lease_run job core lease count =
    option_and_then (λ peer. leased_run (layout_in job.program core.kernel) (asker lease.thread) job.settings.watchdog count peer lease.thread) (peer_in core lease.replica)

-- what it got
abbrev pub lease_gets : Job → Core → Lease → (count : ℕ) → List Get
lease_gets job core lease count =
    option_map_or (λ peer. got_in (layout_in job.program core.kernel) job.settings.watchdog count peer lease.thread) (peer_in core lease.replica) []

-- the stop at which the thread arrives, for which a vote is to be held: none after a whole quantum
abbrev pub arrival : Job → Kernel → (thread count : ℕ) → Peer → Option Stop
arrival job kernel thread count peer =
    if count == job.settings.quantum then None
    else voted peer.mutexes (standing_at (layout_in job.program kernel) job.settings.watchdog peer.replica thread)

abbrev pub is_lock : Which → Bool
is_lock (Function Lock) = true
is_lock _ = false

-- the lock of a mutex that the thread doesn't own
abbrev pub parking_by : (thread : ℕ) → (address : ℕ) → Option Mutex → Option Parking
parking_by thread address None = None
parking_by thread address (Some mutex) =
    if option_map_or (λ owner. owner == thread) mutex.owner false then None
    else Some (record { mutex = address; rank = mutex.rank; asked = is_none mutex.owner })

abbrev pub parking_at : (thread : ℕ) → List Mutex → Option Stop → Option Parking
parking_at thread mutexes (Some (Calls call)) = if is_lock call.which then parking_by thread call.a0 (mutex_in mutexes call.a0) else None
parking_at thread mutexes _ = None

-- where the thread waits at a lock, if it does
abbrev pub parking_of : Job → Kernel → (thread : ℕ) → Peer → Option Parking
parking_of job kernel thread peer =
    parking_at thread peer.mutexes (standing_at (layout_in job.program kernel) job.settings.watchdog peer.replica thread)

-- how many instructions a thread has retired in a replica, and in any at the most
abbrev pub done_in : Replica → (thread : ℕ) → ℕ
done_in replica thread = option_map_or (λ t. t.done) (slice_get replica.threads thread) 0

abbrev pub most_done : List Replica → (thread : ℕ) → ℕ
most_done [] thread = 0
most_done (replica ∷ replicas) thread = max (done_in replica thread) (most_done replicas thread)

-- what the replica has beside: what it got more, and where the thread came back
abbrev pub side_after : (thread : ℕ) → Peer → List Get → Option Parking → Side → Side
side_after thread peer gets parking side = record {
  mutexes = peer.mutexes;
  answered = peer.answered;
  gets = side.gets ++ gets;
  parked = λ t. if t == thread then parking else side.parked t;
}

-- the core behind a lease that came back; steps that no replica made before are new ones
abbrev pub core_after_lease : Core → Lease → Peer → List Get → Option Stop → Option Parking → Core
core_after_lease core lease peer gets stop parking = record core {
  replicas = slice_set core.replicas lease.replica (stopped lease.thread stop peer.replica);
  sides = changed_at (side_after lease.thread peer gets parking) core.sides lease.replica;
  leases = filter (λ other. not (is_lease lease other)) core.leases;
  steps = core.steps + (done_in peer.replica lease.thread - most_done core.replicas lease.thread);
  wrote = 0;
}

abbrev pub core_after_put : Job → Core → Lease → (count : ℕ) → Option Peer → Core
core_after_put job core lease count None = core
core_after_put job core lease count (Some peer) =
    core_after_lease core lease peer (lease_gets job core lease count) (arrival job core.kernel lease.thread count peer) None

abbrev pub core_after_part : Job → Core → Lease → (count : ℕ) → Option Peer → Core
core_after_part job core lease count None = core
core_after_part job core lease count (Some peer) =
    core_after_lease core lease peer (lease_gets job core lease count) None (parking_of job core.kernel lease.thread peer)

-- ---- an event

-- the kernel that serves a thread: the thread's reservation has ended where replica 0, as any other, answered a call of it
abbrev pub kernel_for : Core → (thread : ℕ) → Kernel
kernel_for core thread =
    option_map_or (λ side. if side.answered thread then released core.kernel thread else core.kernel) (slice_get core.sides 0) core.kernel

-- the mutex that an event makes cooperative, if any
abbrev pub entered_by : Chosen → Kernel → Kernel → Option Stop → List Mutex
entered_by chosen before after (Some (Calls call)) =
    if is_cooperative chosen after call.a0 && not (is_cooperative chosen before call.a0)
    then record { address = call.a0; owner = option_map_or (λ owner. owner) (owner_of after.owners call.a0) None; rank = 0 } ∷ [] else []
entered_by chosen before after _ = []

-- the effect in a replica: page faults that it settles go, and so do stops at calls that the replica answers by itself from now on
abbrev pub replica_after : Effect → List Mutex → Side → Replica → Replica
replica_after effect entered side replica =
    record (cancelled (applied effect replica)) { threads = map (without_own (side.mutexes ++ entered)) (cancelled (applied effect replica)).threads }

abbrev pub replicas_after : Effect → List Mutex → List Replica → List Side → List Replica
replicas_after effect entered (replica ∷ replicas) (side ∷ sides) =
    replica_after effect entered side replica ∷ replicas_after effect entered replicas sides
replicas_after effect entered _ _ = []

-- the kernel has served a call of the thread
abbrev pub side_served : (thread : ℕ) → List Mutex → Side → Side
side_served thread entered side =
    record side { mutexes = side.mutexes ++ entered; answered = λ t. if t == thread then false else side.answered t }

-- the core after an event of a thread
abbrev pub core_after : Job → Core → (thread : ℕ) → Option Stop → Event → Core
core_after job core thread stop event = record {
  replicas = replicas_after event.effect (entered_by (chosen_of job.program) core.kernel event.kernel stop) core.replicas core.sides;
  sides = map (side_served thread (entered_by (chosen_of job.program) core.kernel event.kernel stop)) core.sides;
  leases = core.leases;
  sharing = core.sharing;
  lent = core.lent;
  wishes = core.wishes;
  misses = core.misses;
  kernel = event.kernel;
  blocked = λ t. if t == thread then event.blocked else core.blocked t;
  steps = core.steps + event_steps event.did;
  scrubbed = core.scrubbed;
  waited = waited_behind core.waited thread (core.blocked thread);
  output = core.output ++ event.payload;
  wrote = length event.payload;
  due = event.due;
  ended = core.ended;
}

-- the core whose kernel knows of all calls of the thread that replicas answered
abbrev pub settled : Core → (thread : ℕ) → Core
settled core thread = record core { kernel = kernel_for core thread }

-- the stop of a vote, and the event that it comes to, by replica 0, as by any
abbrev pub voted_stop : Core → (thread : ℕ) → Option Stop
voted_stop core thread = option_and_then (λ replica. stop_of replica thread) (slice_get core.replicas 0)

abbrev pub voted_event : Job → Core → (thread : ℕ) → Option Event
voted_event job core thread = event_in job (settled core thread) thread 0

-- a blocked call that is served
abbrev pub freed_event : Job → Core → (thread : ℕ) → Option Event
freed_event job core thread = freed_in job (settled core thread) thread

abbrev pub core_after_event : Job → Core → (thread : ℕ) → Option Stop → Option Event → Core
core_after_event job core thread stop None = core
core_after_event job core thread stop (Some event) = core_after job (settled core thread) thread stop event

-- the core after an entry
unfoldable pub after : Job → Core → Entry → Core
after job core (Take lease) = core_after_take core lease
after job core (Put lease count hit) = core_after_put job core lease count (lease_run job core lease count)
after job core (Part lease count hit) = core_after_part job core lease count (lease_run job core lease count)
after job core (Vote thread count won lost did) = core_after_event job core thread (voted_stop core thread) (voted_event job core thread)
after job core (Free thread) = core_after_event job core thread (option_map Calls (core.blocked thread)) (freed_event job core thread)
after job core (Scrub won lost) = core
after job core (End how) = record core { output = cut_output core how; wrote = 0; due = None; ended = Some how }

-- ---- what is allowed

-- a run of a lease that is out; nothing that it got is too far ahead
pub record Ran (job : Job) (core : Core) (lease : Lease) (count : ℕ) : Type 0 where
  pub not_ended : core.ended ≡ None
  pub out : IsTrue (is_out core lease)
  pub peer : Peer
  pub runs : lease_run job core lease count ≡ Some peer
  pub within : list_all (λ get. not (is_ahead core.sides get.mutex get.rank)) (lease_gets job core lease count) ≡ true

-- it came back after a whole quantum, or at a stop for which a vote is to be held
pub record MayPut (job : Job) (core : Core) (lease : Lease) (count hit : ℕ) : Type 0 where
  pub ran : Ran job core lease count
  pub unstruck : hit ≡ 0
  pub arrives : (count ≡ job.settings.quantum) ⊎ ((count < job.settings.quantum) × IsSome (arrival job core.kernel lease.thread count ran.peer))

-- it came back at a lock
pub record MayPart (job : Job) (core : Core) (lease : Lease) (count hit : ℕ) : Type 0 where
  pub ran : Ran job core lease count
  pub unstruck : hit ≡ 0
  pub below : count < job.settings.quantum
  pub waits : IsSome (parking_of job core.kernel lease.thread ran.peer)

-- each of these is the view
abbrev pub AreAll : View → List View → Type 0
AreAll view [] = Unit {0}
AreAll view (other ∷ views) = (other ≡ view) × AreAll view views

-- all replicas answered a call of the thread since the kernel last served one, or none did
abbrev pub answered_alike : (thread : ℕ) → List Side → Bool
answered_alike thread sides = list_all (λ side. side.answered thread) sides || list_all (λ side. not (side.answered thread)) sides

-- By all replicas the same is left of the thread's reservation: it has none in the kernel, or all of them have ended it, or none has.
abbrev pub lapses_alike : Core → (thread : ℕ) → Bool
lapses_alike core thread = is_none (reservation_of core.kernel.reserved thread) || answered_alike thread core.sides

-- all views of the thread are one, and the replicas leave the same of its reservation
abbrev pub AgreeOn : Job → Core → (thread : ℕ) → View → Type 0
AgreeOn job core thread view = AreAll view (views_of job core thread) × IsTrue (lapses_alike core thread)

pub record MayVote (job : Job) (core : Core) (thread count won : ℕ) (lost : Lost) (did : Did) : Type 0 where
  pub may : IsTrue (may_vote core thread)
  pub view : View
  pub agreed : AgreeOn job core thread view
  pub first : won ≡ 0
  pub none_lost : lost ≡ Nobody
  pub count_is : since_in core thread 0 ≡ Some count
  pub event : Event
  pub comes : voted_event job core thread ≡ Some event
  pub did_is : event.did ≡ did
  pub fits : core.steps + event_steps did ≤ job.settings.limit

pub record MayFree (job : Job) (core : Core) (thread : ℕ) : Type 0 where
  pub may : IsTrue (may_free job core thread)
  pub fits : core.steps + 1 ≤ job.settings.limit

-- the event of a vote on the thread would take the first steps past the limit
pub record PassesLimit (job : Job) (core : Core) (thread steps next : ℕ) : Type 0 where
  pub view : View
  pub agreed : AgreeOn job core thread view
  pub event : Event
  pub comes : voted_event job core thread ≡ Some event
  pub steps_are : steps ≡ core.steps
  pub next_is : next ≡ event_steps event.did
  pub above : job.settings.limit < steps + next

-- the end in the place of an enabled vote on the thread
abbrev pub EndsVote : Job → Core → (thread : ℕ) → How → Type 0
EndsVote job core thread Differ = (view : View) → AgreeOn job core thread view → ⊥
EndsVote job core thread (Limit steps next) = PassesLimit job core thread steps next
EndsVote job core thread how = ⊥

-- the end is due, or comes alone, or in the place of a vote or a free
pub data MayEnd (job : Job) (core : Core) : How → Type 0 where
  due : {how : How} → core.due ≡ Some how → MayEnd job core how
  alone : {how : How} → EndsAlone job core how → MayEnd job core how
  for_vote : {how : How} → (thread : ℕ) → IsTrue (may_vote core thread) → EndsVote job core thread how → MayEnd job core how
  for_free : {how : How} → (thread : ℕ) → IsTrue (may_free job core thread) → EndsFree job core how → MayEnd job core how

-- the entry is allowed in the core
abbrev pub IsAllowed : Job → Core → Entry → Type 0
IsAllowed job core (Take lease) = MayTake job core lease
IsAllowed job core (Put lease count hit) = MayPut job core lease count hit
IsAllowed job core (Part lease count hit) = MayPart job core lease count hit
IsAllowed job core (Vote thread count won lost did) = MayVote job core thread count won lost did
IsAllowed job core (Free thread) = MayFree job core thread
IsAllowed job core (Scrub won lost) = ⊥
IsAllowed job core (End how) = (core.ended ≡ None) × MayEnd job core how

-- each entry is allowed in the core that those before it leave
abbrev pub LegalFrom : Job → Core → List Entry → Type 0
LegalFrom job core [] = Unit {0}
LegalFrom job core (entry ∷ journal) = IsAllowed job core entry × LegalFrom job (after job core entry) journal

abbrev pub Legal : Job → List Entry → Type 0
Legal job journal = LegalFrom job (opening_core job) journal

-- the core that a journal leaves
abbrev pub replay_from : Job → Core → List Entry → Core
replay_from job core [] = core
replay_from job core (entry ∷ journal) = replay_from job (after job core entry) journal

abbrev pub replay : Job → List Entry → Core
replay job journal = replay_from job (opening_core job) journal

-- what an entry's lease got, and all that was got
abbrev pub gets_of : Job → Core → Entry → List Get
gets_of job core (Put lease count hit) = lease_gets job core lease count
gets_of job core (Part lease count hit) = lease_gets job core lease count
gets_of job core entry = []

abbrev pub gets_from : Job → Core → List Entry → List Get
gets_from job core [] = []
gets_from job core (entry ∷ journal) = gets_of job core entry ++ gets_from job (after job core entry) journal
