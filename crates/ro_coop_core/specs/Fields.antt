-- The fields of a cooperative core against its journal.
use Rattle.std.specs.Prelude.{◌≡◌, ◌≤◌, ◌+◌, ◌*◌, ℕ, Bool, not, List, [], length, Option, Some, None, slice_index_or, nat_lt, if◌then◌else◌}
use Rattle.ro_event.specs.declared.calls.Call.{Call}
use Rattle.ro_event.specs.Functions.{functions}
use Rattle.ro_event.specs.Views.{View}
use Rattle.ro_journal.specs.declared.How.{How}
use Rattle.ro_journal.specs.declared.Entry.{Entry}
use Rattle.ro_journal.specs.declared.Lease.{Lease}
use Rattle.ro_kernel.specs.State.{State}
use Rattle.ro_plain.specs.Machine.{setup_of}
use Rattle.ro_orders.specs.Choices.{has_otherwise}
use Rattle.ro_settings.specs.Ranges.{InRange}
use Rattle.ro_legal.specs.declared.actions.Waits.{Waits}
use Rattle.ro_legal.specs.Waits.{NotesWaits}
use Rattle.ro_legal.specs.Core.{Job, Core}
use Rattle.ro_legal.specs.Cooperative.{Legal, replay, most_done}
use Rattle.ro_coop_core.specs.declared.seats.Seat.{Seat}
use Rattle.ro_coop_core.specs.Seen.{KeepsViews}
use Rattle.ro_coop_core.specs.Seats.{AreSeated}

-- the journal's spare places, where there is one for a lease too
abbrev pub spare_of : (places leases : ℕ) → ℕ
spare_of places leases = if nat_lt 0 leases then places else 0

-- how many entries the end takes
abbrev pub one_end : Option How → ℕ
one_end None = 1
one_end (Some how) = 0

-- what a core's fields hold
pub record Fields : Type 0 where
  pub job : Job
  pub journal : List Entry
  pub seats : List Seat
  pub leases : List Lease
  pub kernel : State
  pub cooperates : Bool
  pub blocked : List (Option Call)
  pub most_done : List ℕ
  pub steps : ℕ
  pub waits : Waits
  pub sent : ℕ
  pub wrote : ℕ
  pub due : Option How
  pub ended : Option How
  pub views : List View
  pub places : ℕ
  pub lease_places : ℕ

-- the core that their journal leaves
abbrev pub core_in : Fields → Core
core_in f = replay f.job f.journal

-- the call on which a thread is blocked
abbrev pub blocked_at : List (Option Call) → (thread : ℕ) → Option Call
blocked_at blocked thread = slice_index_or blocked thread None

-- so many bytes were written, at most 4,096 a step, and so many of them by the last entry
pub record CountsBytes (sent wrote steps : ℕ) (core : Core) : Type 0 where
  pub sent_are : sent ≡ length core.output
  pub wrote_is : wrote ≡ core.wrote
  pub within : wrote ≤ sent
  pub few : sent ≤ 4096 * steps

-- a job without faults and scrubs, as a cooperative run has
pub record IsCalm (job : Job) : Type 0 where
  pub in_range : InRange job.settings
  pub unstruck : job.faults ≡ []
  pub unscrubbed : job.settings.scrub ≡ 0

-- the fields are what the journal says
pub record Holds (f : Fields) : Type 0 where
  pub calm : IsCalm f.job
  pub legal : Legal f.job f.journal
  pub leases_are : f.leases ≡ (core_in f).leases
  pub setup_is : f.kernel.setup ≡ setup_of f.job.program
  pub kernel_is : f.kernel.kernel ≡ (core_in f).kernel
  pub cooperates_is : f.cooperates ≡ not (has_otherwise f.job.program.image.calls.addresses functions)
  pub blocked_count : length f.blocked ≡ 16
  pub blocked_are : (thread : ℕ) → blocked_at f.blocked thread ≡ (core_in f).blocked thread
  pub most_count : length f.most_done ≡ 16
  pub most_are : (thread : ℕ) → slice_index_or f.most_done thread 0 ≡ most_done (core_in f).replicas thread
  pub steps_are : f.steps ≡ (core_in f).steps
  pub waits_are : NotesWaits f.waits (core_in f).waited (length f.journal)
  pub counts : CountsBytes f.sent f.wrote f.steps (core_in f)
  pub due_is : f.due ≡ (core_in f).due
  pub ended_is : f.ended ≡ (core_in f).ended
  pub seats_are : AreSeated f.job (core_in f) f.seats
  pub views_count : f.ended ≡ None → length f.views ≡ length f.seats
  pub views_kept : KeepsViews f.job f.journal f.views
  pub room : length f.leases + one_end f.ended ≤ f.places

-- the fields are what the journal says, but for the views
abbrev pub HoldsUnseen : Fields → Type 0
HoldsUnseen f = (views : List View) × Holds (record f { views = views })
