-- A core amid a vote or a free: room was made, its thread's reservation ended, and an event changed its kernel.
use Rattle.std.specs.Prelude.{◌≡◌, ◌^◌, ◌<◌, ◌≤◌, ◌&&◌, ℕ, Bool, true, false, List, [], ◌∷◌, length, Option, Some, None, IfSome, is_none, if◌then◌else◌, slice_get, slice_set}
use Rattle.std.specs.Option.{option_map, option_map_or}
use Rattle.ro_event.specs.declared.stops.Stop.{Stop}
use Rattle.ro_event.specs.declared.stops.Stop.TheVariants.{Calls}
use Rattle.ro_journal.specs.declared.Entry.{Entry}
use Rattle.ro_journal.specs.Plan.{event_steps, outcome_of}
use Rattle.ro_mutex.specs.Owners.{Owners, owner_of}
use Rattle.ro_kernel.specs.declared.reservations.Reservation.{Reservation}
use Rattle.ro_kernel.specs.Reserved.{reservation_of}
use Rattle.ro_kernel.specs.Kernel.{lives_on, released}
use Rattle.ro_kernel.specs.State.{State}
use Rattle.ro_orders.specs.Choices.{chosen_of}
use Rattle.ro_serving.specs.declared.events.Event.{Event as Happening}
use Rattle.ro_serving.specs.Happening.{event_by, ComesOf}
use Rattle.ro_legal.specs.Core.{is_going}
use Rattle.ro_legal.specs.Event.{Event}
use Rattle.ro_legal.specs.Cooperative.{IsAllowed, after, core_after, entered_by, kernel_for, settled}
use Rattle.ro_coop_core.specs.declared.cores.Core.{Core as Run}
use Rattle.ro_coop_core.specs.declared.seats.Seat.{Seat}
use Rattle.ro_coop_core.specs.declared.seats.Entering.{Entering}
use Rattle.ro_coop_core.specs.Seats.{AreSpared, entered_of, seat_answered}
use Rattle.ro_coop_core.specs.Fields.{Fields, Holds}
use Rattle.ro_coop_core.specs.Runs.{fields_of, job_of, state_of, payload_by}

-- Room was made, and nothing else.
pub record MakesRoom (old new : Fields) : Type 0 where
  pub holds : Holds new
  pub job : new.job ≡ old.job
  pub journal : new.journal ≡ old.journal
  pub leases : new.leases ≡ old.leases
  pub kernel : new.kernel ≡ old.kernel
  pub cooperates : new.cooperates ≡ old.cooperates
  pub blocked : new.blocked ≡ old.blocked
  pub steps : new.steps ≡ old.steps
  pub views : new.views ≡ old.views

-- ---- the reservation of a thread

-- whether the first peer, as any other, answered a call of the thread
abbrev pub first_answered : (thread : ℕ) → List Seat → Bool
first_answered thread seats = option_map_or (seat_answered thread) (slice_get seats 0) false

-- the kernel that serves the thread: its reservation has ended where a call of it was answered
abbrev pub lapsed : (answered : Bool) → (thread : ℕ) → State → State
lapsed answered thread state = if answered then record state { kernel = released state.kernel thread } else state

-- the reservation that ended so
abbrev pub lapsed_one : (answered : Bool) → (thread : ℕ) → State → Option Reservation
lapsed_one answered thread state = if answered then reservation_of state.kernel.reserved thread else None

-- it is given back
abbrev pub revived : (answered : Bool) → (thread : ℕ) → Option Reservation → State → State
revived answered thread reservation state =
    if answered then record state { kernel = record state.kernel { reserved = slice_set state.kernel.reserved thread reservation } } else state

-- ---- the mutex that becomes cooperative

-- the address, where it does not stand in the table of a program whose mutexes cooperate
abbrev pub newcomer_at : (cooperates : Bool) → Owners → (address : ℕ) → Option ℕ
newcomer_at cooperates owners address = if cooperates && is_none (owner_of owners address) then Some address else None

-- that of the mutex that a stop's event may make cooperative
abbrev pub newcomer_of : (cooperates : Bool) → Owners → Stop → Option ℕ
newcomer_of cooperates owners (Calls call) = newcomer_at cooperates owners call.a0
newcomer_of cooperates owners stop = None

-- the mutex that became cooperative, if it stands in the table now
abbrev pub entering_of : Owners → (newcomer : Option ℕ) → Option Entering
entering_of owners None = None
entering_of owners (Some address) = option_map (λ owner. record { address = address; owner = owner }) (owner_of owners address)

-- ---- an event

-- An event that has changed the kernel, and what is to be noted of it.
pub record Occurrence : Type 0 where
  pub thread : ℕ
  pub event : Happening
  pub entry : Entry
  pub steps : ℕ
  pub writes : Bool
  pub newcomer : Option ℕ

-- the event of the definition
abbrev pub event_of : Run → Occurrence → Event
event_of r o = event_by o.event r.kernel.kernel (payload_by r.views.items o.writes)

-- An event that has changed the kernel of a run can be done in every replica, and noted so. `before` is the run before it.
pub record CanOccur (r : Run) (o : Occurrence) : Type 0 where
  pub before : Run
  pub holds : Holds (fields_of before)
  pub is : r ≡ record before { kernel = r.kernel }
  pub setup : r.kernel.setup ≡ before.kernel.setup
  pub going : is_going (state_of before) ≡ true
  pub alone : before.leases.items ≡ []
  pub stop : Option Stop
  pub allowed : IsAllowed (job_of before) (state_of before) o.entry
  pub came : after (job_of before) (state_of before) o.entry ≡ core_after (job_of before) (settled (state_of before) o.thread) o.thread stop (event_of r o)
  pub no_end : outcome_of (o.entry ∷ []) ≡ None
  pub comes : ComesOf before.kernel.setup (kernel_for (state_of before) o.thread) o.thread (event_of r o)
  pub live : lives_on before.kernel.kernel o.thread ≡ true
  pub low : IfSome o.event.effect.page (λ page. page < 2 ^ 20)
  pub room : IfSome o.event.effect.range (λ range. length before.kernel.kernel.given < 4096)
  pub enters : entered_of (entering_of r.kernel.kernel.owners o.newcomer) ≡ entered_by (chosen_of (job_of before).program) (kernel_for (state_of before) o.thread) r.kernel.kernel stop
  pub absent : (address : ℕ) → o.newcomer ≡ Some address → owner_of before.kernel.kernel.owners address ≡ None
  pub spared : AreSpared before.seats.items
  pub places : 2 ≤ (fields_of before).places
  pub counted : o.steps ≡ event_steps o.event.did
