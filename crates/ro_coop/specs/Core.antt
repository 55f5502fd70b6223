-- The core of a cooperative run, which entries are allowed in it, and what each does. There are no faults, copies and scrubs.
use Rattle.std.specs.Prelude.{◌≡◌, ◌≢◌, ◌⊎◌, ℕ, IsTrue, Bool, true, false, not, ◌&&◌, List, [], ◌∷◌, ◌++◌, map, replicate, Option, Some, None, is_some, is_none, ◌==◌, if◌then◌else◌, slice_get, slice_set}
use Rattle.std.specs.List.{filter, list_any}
use Rattle.std.specs.Option.{option_and_then, option_map, option_map_or}
use Rattle.ro_event.specs.declared.calls.Call.{Call}
use Rattle.ro_event.specs.declared.stops.Stop.{Stop}
use Rattle.ro_event.specs.declared.stops.Stop.TheVariants.{Calls}
use Rattle.ro_event.specs.Effects.{Effect}
use Rattle.ro_event.specs.Views.{View}
use Rattle.ro_region.specs.declared.Range.{Range}
use Rattle.ro_journal.specs.declared.Lease.{Lease}
use Rattle.ro_journal.specs.declared.Did.{Did}
use Rattle.ro_journal.specs.declared.How.{How}
use Rattle.ro_journal.specs.declared.How.TheVariants.{Exit as ExitHow, Trap as TrapHow}
use Rattle.ro_journal.specs.declared.Entry.{Entry}
use Rattle.ro_journal.specs.declared.Entry.TheVariants.{Take, Put, Part, Vote, Free, Scrub, End}
pub use Rattle.ro_plans.specs.First.{first_run, Steps, served_all, lease_steps, steps_after, steps_from, first_of}
use Rattle.ro_mutex.specs.Owners.{owner_of}
use Rattle.ro_exec.specs.Next.{Layout}
use Rattle.ro_kernel.specs.Kernel.{Setup, Kernel, ranges_in, lives_on, released, opening_kernel}
use Rattle.ro_kernel.specs.Serve.{Done, serve, blocks}
use Rattle.ro_replica.specs.Replica.{opening_replica, changed_at, stop_of, applied, cancelled}
use Rattle.ro_replica.specs.Runs.{standing_at, with_stop}
use Rattle.ro_replica.specs.Views.{is_unstopped, payload_at, view_of}
use Rattle.ro_plain.specs.Machine.{Program, layout_in, setup_of}
use Rattle.ro_legal.specs.Core.{is_lease}
use Rattle.ro_legal.specs.Event.{Event, event_of, call_event}
use Rattle.ro_settings.specs.declared.Settings.{Settings}
use Rattle.ro_orders.specs.Turns.{Chosen, is_cooperative}
use Rattle.ro_orders.specs.Copies.{Rows}
use Rattle.ro_peer.specs.declared.mutexes.Mutex.{Mutex}
use Rattle.ro_peer.specs.Peers.{Peer, leased_run}
use Rattle.ro_peer.specs.Events.{without_own, unanswered}
use Rattle.ro_peer.specs.Gets.{voted}

-- A call that the kernel serves makes no other mutex cooperative than its own, and that one only where it comes into the table.
pub record OneEnters (chosen : Chosen) : Type 0 where
  pub own : (setup : Setup) (kernel after : Kernel) (thread : ℕ) (call : Call) (effect : Effect) (other : ℕ) → serve setup kernel thread call ≡ Done after effect → other ≢ call.a0 → is_cooperative chosen after other ≡ is_cooperative chosen kernel other
  pub news : (setup : Setup) (kernel after : Kernel) (thread : ℕ) (call : Call) (effect : Effect) (mutex : ℕ) → serve setup kernel thread call ≡ Done after effect → is_cooperative chosen kernel mutex ≡ false → is_cooperative chosen after mutex ≡ true → is_some (owner_of kernel.owners mutex) ≡ false

-- what is asked for: which mutexes are cooperative is a matter of the kernel
pub record Job : Type 0 where
  pub program : Program
  pub settings : Settings
  pub chosen : Chosen
  pub one_enters : OneEnters chosen

pub record Core : Type 0 where
  pub peers : List Peer
  pub leases : List Lease
  pub kernel : Kernel  -- it does not see who owns a cooperative mutex, nor which calls the peers answered
  pub blocked : ℕ → Option Call
  pub output : List ℕ
  pub due : Option How
  pub ended : Option How

abbrev pub opening_peer : Program → Peer
opening_peer program = record { replica = opening_replica program.image [] 0; mutexes = []; answered = λ thread. false }

abbrev pub opening_core : Job → Core
opening_core job = record {
  peers = replicate job.settings.replicas (opening_peer job.program);
  leases = [];
  kernel = opening_kernel job.program.image.heap;
  blocked = λ thread. None;
  output = [];
  due = None;
  ended = None;
}

abbrev pub layout_here : Job → Core → Layout
layout_here job core = layout_in job.program core.kernel

abbrev pub ranges_here : Job → Core → List Range
ranges_here job core = ranges_in (setup_of job.program) core.kernel

-- ---- a lease

-- the stop at which the thread stands for a vote
abbrev pub voted_at : Layout → (watchdog : ℕ) → Peer → (number : ℕ) → Option Stop
voted_at layout watchdog peer number = voted peer.mutexes (standing_at layout watchdog peer.replica number)

-- none behind a whole quantum
abbrev pub arrival : Job → Kernel → (number count : ℕ) → Peer → Option Stop
arrival job kernel number count peer =
    if count == job.settings.quantum then None else voted_at (layout_in job.program kernel) job.settings.watchdog peer number

abbrev pub arrived : Job → Kernel → (number count : ℕ) → Peer → Peer
arrived job kernel number count peer =
    record peer { replica = record peer.replica { threads = changed_at (with_stop (arrival job kernel number count peer)) peer.replica.threads number } }

-- ---- an event

-- the kernel that serves a thread: the thread's reservation has ended where peer 0, as any other, answered a call of it
abbrev pub kernel_for : Core → (thread : ℕ) → Kernel
kernel_for core thread =
    option_map_or (λ peer. if peer.answered thread then released core.kernel thread else core.kernel) (slice_get core.peers 0) core.kernel

-- the core at an event of the thread: its kernel knows of all that the peers answered it
abbrev pub settled : Core → (thread : ℕ) → Core
settled core thread = record core { peers = map (unanswered thread) core.peers; kernel = kernel_for core thread }

-- the mutex that a call made cooperative, if any
abbrev pub entered_by : Chosen → Kernel → Kernel → Option Stop → List Mutex
entered_by chosen before after (Some (Calls call)) =
    if is_cooperative chosen after call.a0 && not (is_cooperative chosen before call.a0)
    then record { address = call.a0; owner = option_map_or (λ owner. owner) (owner_of after.owners call.a0) None; rank = 0 } ∷ [] else []
entered_by chosen before after _ = []

abbrev pub peer_after_event : Effect → List Mutex → Peer → Peer
peer_after_event effect entered peer = record {
  replica = record (cancelled (applied effect peer.replica)) { threads = map (without_own (peer.mutexes ++ entered)) (cancelled (applied effect peer.replica)).threads };
  mutexes = peer.mutexes ++ entered;
  answered = peer.answered;
}

abbrev pub core_after : Chosen → Core → (thread : ℕ) → Option Stop → Event → Core
core_after chosen core thread stop event = record {
  peers = map (peer_after_event event.effect (entered_by chosen core.kernel event.kernel stop)) core.peers;
  leases = core.leases;
  kernel = event.kernel;
  blocked = λ t. if t == thread then event.blocked else core.blocked t;
  output = core.output ++ event.payload;
  due = event.due;
  ended = core.ended;
}

-- the stop and the event of a vote are those of peer 0, as of any
abbrev pub voted_stop : Core → (thread : ℕ) → Option Stop
voted_stop core thread = option_and_then (λ peer. stop_of peer.replica thread) (slice_get core.peers 0)

abbrev pub event_with : Job → Core → (thread : ℕ) → Peer → Stop → Event
event_with job core thread peer stop =
    event_of (setup_of job.program) (kernel_for core thread) thread stop (payload_at (ranges_here job core) peer.replica.memory stop)

abbrev pub vote_event : Job → Core → (thread : ℕ) → Option Event
vote_event job core thread =
    option_and_then (λ peer. option_map (event_with job core thread peer) (stop_of peer.replica thread)) (slice_get core.peers 0)

abbrev pub free_event : Job → Core → (thread : ℕ) → Option Event
free_event job core thread =
    option_map (λ call. call_event (kernel_for core thread) thread call [] (serve (setup_of job.program) (kernel_for core thread) thread call)) (core.blocked thread)

abbrev pub after_event : Chosen → Core → (thread : ℕ) → Option Stop → Option Event → Core
after_event chosen core thread stop None = core
after_event chosen core thread stop (Some event) = core_after chosen (settled core thread) thread stop event

abbrev pub after_put : Job → Core → Lease → (count : ℕ) → Option Peer → Core
after_put job core lease count None = core
after_put job core lease count (Some peer) = record core {
  peers = slice_set core.peers lease.replica (arrived job core.kernel lease.thread count peer);
  leases = filter (λ other. not (is_lease lease other)) core.leases;
}

abbrev pub run_in : Job → Rows → Core → Lease → (count : ℕ) → Option Peer
run_in job rows core lease count =
    option_and_then (λ peer. leased_run (layout_here job core) rows job.settings.watchdog count peer lease.thread) (slice_get core.peers lease.replica)

abbrev pub after : Job → Rows → Core → Entry → Core
after job rows core (Take lease) = record core { leases = lease ∷ core.leases }
after job rows core (Put lease count hit) = after_put job core lease count (run_in job rows core lease count)
after job rows core (Part lease count hit) = core
after job rows core (Vote thread count won lost did) = after_event job.chosen core thread (voted_stop core thread) (vote_event job core thread)
after job rows core (Free thread) = after_event job.chosen core thread (option_map Calls (core.blocked thread)) (free_event job core thread)
after job rows core (Scrub won lost) = core
after job rows core (End how) = record core { due = None; ended = Some how }

-- ---- what is allowed, as far as the theorem asks for it

abbrev pub is_going : Core → Bool
is_going core = is_none core.due && is_none core.ended

abbrev pub is_out : Core → Lease → Bool
is_out core lease = list_any (is_lease lease) core.leases

pub record MayTake (core : Core) (lease : Lease) : Type 0 where
  pub going : IsTrue (is_going core)
  pub lives : IsTrue (lives_on core.kernel lease.thread)
  pub unstopped : IsTrue (option_map_or (λ peer. is_unstopped lease.thread peer.replica) (slice_get core.peers lease.replica) false)
  pub home : IsTrue (not (list_any (λ other. other.replica == lease.replica) core.leases))

pub record MayPut (job : Job) (rows : Rows) (core : Core) (lease : Lease) (count : ℕ) : Type 0 where
  pub not_ended : core.ended ≡ None
  pub out : IsTrue (is_out core lease)
  pub peer : Peer
  pub runs : run_in job rows core lease count ≡ Some peer

-- every peer's view is that of peer 0
pub record MayVote (job : Job) (core : Core) (thread : ℕ) (did : Did) : Type 0 where
  pub going : IsTrue (is_going core)
  pub nothing_lent : core.leases ≡ []
  pub lives : IsTrue (lives_on core.kernel thread)
  pub not_blocked : core.blocked thread ≡ None
  pub view : View
  pub agreed : (number : ℕ) (peer : Peer) → slice_get core.peers number ≡ Some peer → view_of (ranges_here job core) thread peer.replica ≡ Some view
  pub event : Event
  pub comes : vote_event job core thread ≡ Some event
  pub did_is : event.did ≡ did

pub record MayFree (job : Job) (core : Core) (thread : ℕ) : Type 0 where
  pub going : IsTrue (is_going core)
  pub nothing_lent : core.leases ≡ []
  pub call : Call
  pub is_blocked : core.blocked thread ≡ Some call
  pub frees : blocks (setup_of job.program) (kernel_for core thread) thread call ≡ false

-- how the program itself ends
abbrev pub is_outcome : How → Bool
is_outcome (ExitHow status) = true
is_outcome (TrapHow cause) = true
is_outcome _ = false

abbrev pub IsAllowed : Job → Rows → Core → Entry → Type 0
IsAllowed job rows core (Take lease) = MayTake core lease
IsAllowed job rows core (Put lease count hit) = MayPut job rows core lease count
-- no lease comes back so
IsAllowed job rows core (Part lease count hit) = ⊥
IsAllowed job rows core (Vote thread count won lost did) = MayVote job core thread did
IsAllowed job rows core (Free thread) = MayFree job core thread
IsAllowed job rows core (Scrub won lost) = ⊥
-- an end that is not due is none of the program's own: that it is due is another matter
IsAllowed job rows core (End how) = (core.ended ≡ None) × ((core.due ≡ Some how) ⊎ ((core.due ≡ None) × (is_outcome how ≡ false)))

abbrev pub LegalFrom : Job → Rows → Core → List Entry → Type 0
LegalFrom job rows core [] = Unit {0}
LegalFrom job rows core (entry ∷ journal) = IsAllowed job rows core entry × LegalFrom job rows (after job rows core entry) journal
