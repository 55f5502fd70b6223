-- The code's events against the definition's.
use Rattle.std.specs.Prelude.{◌≡◌, ◌≤◌, ℕ, List, [], length, None, if◌then◌else◌}
use Rattle.ro_event.specs.declared.calls.Call.{Call as Asked}
use Rattle.ro_event.specs.declared.stops.Stop.{Stop}
use Rattle.ro_event.specs.declared.stops.Stop.TheVariants.{Calls}
use Rattle.ro_journal.specs.declared.Did.{Did}
use Rattle.ro_kernel.specs.Kernel.{Setup, Kernel}
use Rattle.ro_kernel.specs.declared.outcome.Served.{Served}
use Rattle.ro_kernel.specs.declared.outcome.Served.TheVariants.{Done, Parked, Blocked, Ends}
use Rattle.ro_kernel.specs.Serve.{put_out, asked, serve, Served as Outcome, Done as DoneWith, Parked as ParkedWith, Blocked as BlockedAtAll, Ends as EndsWith}
use Rattle.ro_serving.specs.declared.events.Cause.{Cause}
use Rattle.ro_serving.specs.declared.events.Cause.TheVariants.{Call, Quiet}
use Rattle.ro_serving.specs.declared.events.Event.{Event as Happening}
use Rattle.ro_legal.specs.Event.{Event, quiet_effect, call_event, event_of}

-- what comes of a call, by the code's answer and the kernel after it
abbrev pub outcome_with : (after : Kernel) → Served → Outcome
outcome_with after (Done effect) = DoneWith after effect
outcome_with after Parked = ParkedWith after
outcome_with after Blocked = BlockedAtAll
outcome_with after (Ends how) = EndsWith after how

-- the event of the code, with the kernel that it left, and what it writes
abbrev pub event_by : Happening → Kernel → (payload : List ℕ) → Event
event_by e kernel payload = record { did = e.did; kernel = kernel; effect = e.effect; payload = payload; blocked = e.blocked; due = e.due }

-- where the event of a thread that shows this stop and payload comes from: a call as it is served, or nothing that changes the kernel
abbrev pub IsCause : Setup → Kernel → (thread : ℕ) → Stop → (payload : List ℕ) → Did → Cause → Type 0
IsCause setup kernel thread stop payload did (Call put) = (call : Asked) × (stop ≡ Calls call) × (put ≡ asked call payload)
IsCause setup kernel thread stop payload did (Quiet page releases due) =
    event_of setup kernel thread stop payload ≡ record { did = did; kernel = kernel; effect = quiet_effect thread page releases; payload = []; blocked = None; due = due }

-- what a code's event is, over the kernels before and after it: the definition's
abbrev pub IsEvent : Setup → (old new : Kernel) → (thread : ℕ) → Stop → (payload : List ℕ) → Happening → Type 0
IsEvent setup old new thread stop payload e = event_of setup old thread stop payload ≡ event_by e new (if e.writes then payload else [])

-- the same of a call that is served as it is, whatever the payload
abbrev pub IsCallEvent : Setup → (old new : Kernel) → (thread : ℕ) → Asked → Happening → Type 0
IsCallEvent setup old new thread call e =
    (payload : List ℕ) → call_event old thread call (put_out call.which payload) (serve setup old thread call) ≡ event_by e new (if e.writes then payload else [])

-- what comes of a thread: of its stop with what it shows, or of the call on which it is blocked
pub data ComesOf (setup : Setup) (kernel : Kernel) (thread : ℕ) : Event → Type 0 where
  of_stop : (stop : Stop) (shown : List ℕ) → length shown ≤ 4096 → ComesOf setup kernel thread (event_of setup kernel thread stop shown)
  of_blocked : (call : Asked) → ComesOf setup kernel thread (call_event kernel thread call [] (serve setup kernel thread call))

-- what is left as it was: all on which hangs whether the call of a thread that is blocked would be done
pub record LeavesWaiting (old new : Kernel) : Type 0 where
  pub lives : new.lives ≡ old.lives
  pub owners : new.owners ≡ old.owners
  pub waiters : new.waiters ≡ old.waiters
  pub given : new.given ≡ old.given
