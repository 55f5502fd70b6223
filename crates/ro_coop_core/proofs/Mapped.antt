-- After every cooperative journal the ranges that were given lie where they may.
use Rattle.std.specs.Prelude.{ℕ, List, [], ◌∷◌, Option, Some, None, slice_get}
use Rattle.std.specs.Option.{option_map, option_and_then}
use Rattle.std.proofs.Common.{sym, subst, arith}
use Rattle.ro_event.specs.declared.calls.Call.{Call}
use Rattle.ro_event.specs.declared.stops.Stop.{Stop}
use Rattle.ro_event.specs.declared.stops.Stop.TheVariants.{Calls, Trap, PageFault, Watchdog}
use Rattle.ro_journal.specs.declared.Entry.{Entry}
use Rattle.ro_journal.specs.declared.Entry.TheVariants.{Take, Put, Part, Vote, Free, Scrub, End}
use Rattle.ro_journal.specs.declared.Lease.{Lease}
use Rattle.ro_kernel.specs.Kernel.{Setup, Kernel}
use Rattle.ro_kernel.specs.Mapped.{IsMapped}
use Rattle.ro_kernel.specs.Serve.{Served, Done, Parked, Blocked, Ends, serve, put_out, asked}
use Rattle.ro_kernel.proofs.Given.{MapsMore, serve-maps}
use Rattle.ro_replica.specs.Replica.{Replica, stop_of}
use Rattle.ro_peer.specs.Peers.{Peer}
use Rattle.ro_plain.specs.Machine.{setup_of}
use Rattle.ro_legal.specs.Core.{Job, Core, opening_core as opening_voted}
use Rattle.ro_legal.specs.Event.{call_event, event_of}
use Rattle.ro_legal.specs.Legal.{event_with}
use Rattle.ro_legal.specs.Cooperative.{opening_core, kernel_for, settled, core_after_put, core_after_part, core_after_event, lease_run, voted_stop, after, replay_from, replay}
use Rattle.ro_coop_core.specs.Fields.{Fields, Holds}
use Rattle.ro_coop_core.proofs.Lapsing.{for-either}

-- a call, which may be served with what a vote found
call-mapped : (setup : Setup) (kernel : Kernel) (thread : ℕ) (call put : Call) (payload : List ℕ) → IsMapped kernel.given → IsMapped (call_event kernel thread call payload (serve setup kernel thread put)).kernel.given
call-mapped setup kernel thread call put payload mapped = by (serve setup kernel thread put) (serve-maps setup kernel thread put)
  where
    by : (served : Served) → MapsMore kernel served → IsMapped (call_event kernel thread call payload served).kernel.given
    by (Done after effect) maps = maps mapped
    by (Parked after) maps = maps mapped
    by Blocked maps = mapped
    by (Ends after how) maps = maps mapped

-- whatever a thread stands at
event-mapped : (setup : Setup) (kernel : Kernel) (thread : ℕ) (stop : Stop) (payload : List ℕ) → IsMapped kernel.given → IsMapped (event_of setup kernel thread stop payload).kernel.given
unfolding event_of
event-mapped setup kernel thread (Calls call) payload mapped = call-mapped setup kernel thread call (asked call payload) (put_out call.which payload) mapped
event-mapped setup kernel thread (Trap code) payload mapped = mapped
event-mapped setup kernel thread (PageFault page) payload mapped = mapped
event-mapped setup kernel thread Watchdog payload mapped = mapped

module _ (job : Job) (core : Core) (mapped : IsMapped core.kernel.given) where
  -- a lease that comes back
  put-mapped : (lease : Lease) (count : ℕ) (o : Option Peer) → IsMapped (core_after_put job core lease count o).kernel.given
  put-mapped lease count None = mapped
  put-mapped lease count (Some peer) = mapped

  part-mapped : (lease : Lease) (count : ℕ) (o : Option Peer) → IsMapped (core_after_part job core lease count o).kernel.given
  part-mapped lease count None = mapped
  part-mapped lease count (Some peer) = mapped

  for-mapped : (thread : ℕ) → IsMapped (kernel_for core thread).given
  for-mapped thread = for-either core thread (λ k. IsMapped k.given) mapped mapped

  -- a vote
  vote-mapped : (thread : ℕ) (stop : Option Stop) (o : Option Replica) → IsMapped (core_after_event job core thread stop (option_and_then (λ winner. option_map (event_with job (settled core thread) thread winner) (stop_of winner thread)) o)).kernel.given
  vote-mapped thread stop None = mapped
  vote-mapped thread stop (Some winner) = by (stop_of winner thread)
    where
      by : (o : Option Stop) → IsMapped (core_after_event job core thread stop (option_map (event_with job (settled core thread) thread winner) o)).kernel.given
      by None = mapped
      by (Some at) = event-mapped (setup_of job.program) (kernel_for core thread) thread at _ (for-mapped thread)

  -- a blocked call that is served
  free-mapped : (thread : ℕ) (o : Option Call) → IsMapped (core_after_event job core thread (option_map Calls o) (option_map (λ call. call_event (kernel_for core thread) thread call [] (serve (setup_of job.program) (kernel_for core thread) thread call)) o)).kernel.given
  free-mapped thread None = mapped
  free-mapped thread (Some call) = call-mapped (setup_of job.program) (kernel_for core thread) thread call call [] (for-mapped thread)

  -- an entry
  after-mapped : (entry : Entry) → IsMapped (after job core entry).kernel.given
  unfolding after
  after-mapped (Take lease) = mapped
  after-mapped (Put lease count hit) = put-mapped lease count (lease_run job core lease count)
  after-mapped (Part lease count hit) = part-mapped lease count (lease_run job core lease count)
  after-mapped (Vote thread count won lost did) = vote-mapped thread (voted_stop core thread) (slice_get core.replicas 0)
  after-mapped (Free thread) = free-mapped thread (core.blocked thread)
  after-mapped (Scrub won lost) = mapped
  after-mapped (End how) = mapped

-- any number of them
replay-mapped : (job : Job) (core : Core) (journal : List Entry) → IsMapped core.kernel.given → IsMapped (replay_from job core journal).kernel.given
replay-mapped job core [] mapped = mapped
replay-mapped job core (entry ∷ journal) mapped = replay-mapped job (after job core entry) journal (after-mapped job core mapped entry)

stays-mapped : (job : Job) (journal : List Entry) → IsMapped (replay job journal).kernel.given
unfolding opening_core opening_voted
stays-mapped job journal = replay-mapped job (opening_core job) journal (record { pages = omega arith; within = omega arith })

pub holds-mapped : (f : Fields) → Holds f → IsMapped f.kernel.kernel.given
holds-mapped f h = subst (λ (k : Kernel). IsMapped k.given) (sym h.kernel_is) (stays-mapped f.job f.journal)
