-- After every journal the ranges that were given lie where they may.
use Rattle.std.specs.Prelude.{ℕ, List, [], ◌∷◌, Option, Some, None, slice_get}
use Rattle.std.specs.Option.{option_map, option_and_then}
use Rattle.std.proofs.Common.{arith}
use Rattle.ro_event.specs.declared.calls.Call.{Call}
use Rattle.ro_event.specs.declared.stops.Stop.{Stop}
use Rattle.ro_event.specs.declared.stops.Stop.TheVariants.{Calls, Trap, PageFault, Watchdog}
use Rattle.ro_journal.specs.declared.Entry.{Entry}
use Rattle.ro_journal.specs.declared.Entry.TheVariants.{Take, Put, Part, Vote, Free, Scrub, End}
use Rattle.ro_journal.specs.Losers.{numbers}
use Rattle.ro_journal.specs.declared.Lease.{Lease}
use Rattle.ro_kernel.specs.Kernel.{Setup, Kernel}
use Rattle.ro_kernel.specs.Mapped.{IsMapped}
use Rattle.ro_kernel.specs.Serve.{Served, Done, Parked, Blocked, Ends, serve, put_out, asked}
use Rattle.ro_kernel.proofs.Given.{MapsMore, serve-maps}
use Rattle.ro_replica.specs.Replica.{Replica, stop_of}
use Rattle.ro_replica.specs.Runs.{RanTo}
use Rattle.ro_plain.specs.Machine.{setup_of}
use Rattle.ro_legal.specs.Core.{Job, Core, opening_core}
use Rattle.ro_legal.specs.Event.{call_event, event_of, with_recovered}
use Rattle.ro_legal.specs.Legal.{core_after_put, core_after_part, core_after_event, lease_run, event_with, after, replay_from, replay}

-- a call, which may be served with what a vote found
call-mapped : (setup : Setup) (kernel : Kernel) (thread : ℕ) (call put : Call) (payload : List ℕ) → IsMapped kernel.given → IsMapped (call_event kernel thread call payload (serve setup kernel thread put)).kernel.given
call-mapped setup kernel thread call put payload mapped = by (serve setup kernel thread put) (serve-maps setup kernel thread put)
  where
    by : (served : Served) → MapsMore kernel served → IsMapped (call_event kernel thread call payload served).kernel.given
    by (Done after effect) maps = maps mapped
    by (Parked after) maps = maps mapped
    by Blocked maps = mapped
    by (Ends after how) maps = maps mapped

-- whatever a thread stands at
event-mapped : (setup : Setup) (kernel : Kernel) (thread : ℕ) (stop : Stop) (payload : List ℕ) → IsMapped kernel.given → IsMapped (event_of setup kernel thread stop payload).kernel.given
unfolding event_of
event-mapped setup kernel thread (Calls call) payload mapped = call-mapped setup kernel thread call (asked call payload) (put_out call.which payload) mapped
event-mapped setup kernel thread (Trap code) payload mapped = mapped
event-mapped setup kernel thread (PageFault page) payload mapped = mapped
event-mapped setup kernel thread Watchdog payload mapped = mapped

module _ (job : Job) (core : Core) (mapped : IsMapped core.kernel.given) where
  -- a put
  put-mapped : (lease : Lease) (count : ℕ) (o : Option RanTo) → IsMapped (core_after_put job core lease count o).kernel.given
  put-mapped lease count None = mapped
  put-mapped lease count (Some ran) = mapped

  -- a part
  part-mapped : (lease : Lease) (o : Option RanTo) → IsMapped (core_after_part job core lease o).kernel.given
  part-mapped lease None = mapped
  part-mapped lease (Some ran) = mapped

  -- a vote
  vote-mapped : (thread count : ℕ) (replicas : List Replica) (o : Option Replica) → IsMapped (core_after_event core thread count replicas (option_and_then (λ winner. option_map (event_with job core thread winner) (stop_of winner thread)) o)).kernel.given
  vote-mapped thread count replicas None = mapped
  vote-mapped thread count replicas (Some winner) = by (stop_of winner thread)
    where
      by : (o : Option Stop) → IsMapped (core_after_event core thread count replicas (option_map (event_with job core thread winner) o)).kernel.given
      by None = mapped
      by (Some stop) = event-mapped (setup_of job.program) core.kernel thread stop _ mapped

  -- a blocked call that is served
  free-mapped : (thread : ℕ) (o : Option Call) → IsMapped (core_after_event core thread 0 core.replicas (option_map (λ call. call_event core.kernel thread call [] (serve (setup_of job.program) core.kernel thread call)) o)).kernel.given
  free-mapped thread None = mapped
  free-mapped thread (Some call) = call-mapped (setup_of job.program) core.kernel thread call call [] mapped

  -- an entry
  after-mapped : (entry : Entry) → IsMapped (after job core entry).kernel.given
  unfolding after
  after-mapped (Take lease) = mapped
  after-mapped (Put lease count hit) = put-mapped lease count (lease_run job core lease count)
  after-mapped (Part lease count hit) = part-mapped lease (lease_run job core lease count)
  after-mapped (Vote thread count won lost did) = vote-mapped thread count (with_recovered won (numbers lost) core.replicas) (slice_get core.replicas won)
  after-mapped (Free thread) = free-mapped thread (core.blocked thread)
  after-mapped (Scrub won lost) = mapped
  after-mapped (End how) = mapped

-- any number of them
replay-mapped : (job : Job) (core : Core) (journal : List Entry) → IsMapped core.kernel.given → IsMapped (replay_from job core journal).kernel.given
replay-mapped job core [] mapped = mapped
replay-mapped job core (entry ∷ journal) mapped = replay-mapped job (after job core entry) journal (after-mapped job core mapped entry)

pub stays-mapped : (job : Job) (journal : List Entry) → IsMapped (replay job journal).kernel.given
unfolding opening_core
stays-mapped job journal = replay-mapped job (opening_core job) journal (record { pages = omega arith; within = omega arith })
