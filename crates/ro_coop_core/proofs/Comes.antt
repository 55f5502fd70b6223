-- What comes of a thread's stop, or of the call on which it is blocked.
use Rattle.std.proofs.Common.{◌≡◌, ℕ, ◌*◌, ◌<◌, ◌≤◌, true, List, [], length, Option, Some, None, refl, sym, arith, true≢false}
use Rattle.std.specs.Prelude.{◌^◌, IfSome, slice_get}
use Rattle.std.proofs.lemmas.Option.{slice_get_within}
use Rattle.ro_journal.specs.Plan.{event_steps}
use Rattle.ro_event.specs.declared.calls.Which.{Which}
use Rattle.ro_event.specs.declared.calls.Which.TheVariants.{System, Function, Atomic}
use Rattle.ro_event.specs.declared.calls.Call.{Call}
use Rattle.ro_event.specs.declared.stops.Stop.{Stop}
use Rattle.ro_event.specs.declared.stops.Stop.TheVariants.{Calls, Trap as TrapStop, PageFault, Watchdog}
use Rattle.ro_kernel.specs.declared.Life.{Life}
use Rattle.ro_kernel.specs.Kernel.{Setup, Kernel, live_option, lives_on}
use Rattle.ro_kernel.specs.Serve.{Served, Done, Parked, Blocked, Ends, put_out, asked, serve}
use Rattle.ro_kernel.proofs.Fits.{fit-effect}
use Rattle.ro_exec.specs.Next.{Backed}
use Rattle.ro_serving.specs.Happening.{ComesOf, of_stop, of_blocked}
use Rattle.ro_legal.specs.Event.{Event, call_event, event_of}
use Rattle.ro_legal.specs.Sound.{IsFault}
use Rattle.ro_legal.proofs.Happens.{Happens, call-happens, event-happens}

-- a live thread was made
pub lives-within : (kernel : Kernel) (thread : ℕ) → lives_on kernel thread ≡ true → thread < length kernel.lives
lives-within kernel thread e = by (slice_get kernel.lives thread) refl e
  where
    by : (o : Option Life) → slice_get kernel.lives thread ≡ o → live_option o ≡ true → thread < length kernel.lives
    by None f g = absurd (true≢false (sym g))
    by (Some life) f g = slice_get_within kernel.lives thread life f

-- ---- the page that an event backs

module _ (setup : Setup) (kernel : Kernel) (thread : ℕ) where
  -- of a call, as it is served
  pub call-low : (call put : Call) (payload : List ℕ) → IfSome (call_event kernel thread call payload (serve setup kernel thread put)).effect.page (λ page. page < 2 ^ 20)
  call-low call put payload = by (serve setup kernel thread put) refl
    where
      by : (served : Served) → serve setup kernel thread put ≡ served → IfSome (call_event kernel thread call payload served).effect.page (λ page. page < 2 ^ 20)
      by (Done after effect) e = (fit-effect setup kernel thread put after effect e).backs_low
      by (Parked after) e = tt
      by Blocked e = tt
      by (Ends after how) e = tt

  pub page-low : (backed : Backed) (stop : Stop) (payload : List ℕ) → IsFault backed (Some stop) → IfSome (event_of setup kernel thread stop payload).effect.page (λ page. page < 2 ^ 20)
  unfolding event_of
  page-low backed (Calls call) payload low = call-low call (asked call payload) (put_out call.which payload)
  page-low backed (PageFault page) payload low = (low page refl).0
  page-low backed Watchdog payload low = tt
  page-low backed (TrapStop code) payload low = tt

-- ---- what a write's event is

module _ (kernel : Kernel) (thread : ℕ) (call : Call) (out : List ℕ) where
  payload-call : (served : Served) → 0 < length (call_event kernel thread call out served).payload → (call_event kernel thread call out served).due ≡ None
  payload-call (Done after effect) some = refl
  payload-call (Parked after) some = refl
  payload-call Blocked some = refl
  payload-call (Ends after how) some = absurd (omega arith)

  payload-few-call : (served : Served) → length out ≤ 4096 → length (call_event kernel thread call out served).payload ≤ 4096
  payload-few-call (Done after effect) few = few
  payload-few-call (Parked after) few = omega arith
  payload-few-call Blocked few = omega arith
  payload-few-call (Ends after how) few = omega arith

  writes-step-call : (served : Served) → length out ≤ 4096 → length (call_event kernel thread call out served).payload ≤ 4096 * event_steps (call_event kernel thread call out served).did
  writes-step-call (Done after effect) few = few
  writes-step-call (Parked after) few = omega arith
  writes-step-call Blocked few = omega arith
  writes-step-call (Ends after how) few = omega arith

-- what is put out is short where the payload is
out-few : (which : Which) (payload : List ℕ) → length payload ≤ 4096 → length (put_out which payload) ≤ 4096
out-few (Atomic word) payload few = omega arith
out-few (System number) payload few = few
out-few (Function function) payload few = few

module _ (setup : Setup) (kernel : Kernel) (thread : ℕ) where
  due-of : (stop : Stop) (payload : List ℕ) → 0 < length (event_of setup kernel thread stop payload).payload → (event_of setup kernel thread stop payload).due ≡ None
  unfolding event_of
  due-of (Calls call) payload some = payload-call kernel thread call (put_out call.which payload) (serve setup kernel thread (asked call payload)) some
  due-of (PageFault page) payload some = refl
  due-of Watchdog payload some = refl
  due-of (TrapStop code) payload some = absurd (omega arith)

  few-of : (stop : Stop) (payload : List ℕ) → length payload ≤ 4096 → length (event_of setup kernel thread stop payload).payload ≤ 4096
  unfolding event_of
  few-of (Calls call) payload few = payload-few-call kernel thread call (put_out call.which payload) (serve setup kernel thread (asked call payload)) (out-few call.which payload few)
  few-of (PageFault page) payload few = omega arith
  few-of Watchdog payload few = omega arith
  few-of (TrapStop code) payload few = omega arith

  step-of : (stop : Stop) (payload : List ℕ) → length payload ≤ 4096
      → length (event_of setup kernel thread stop payload).payload ≤ 4096 * event_steps (event_of setup kernel thread stop payload).did
  unfolding event_of
  step-of (Calls call) payload few = writes-step-call kernel thread call (put_out call.which payload) (serve setup kernel thread (asked call payload)) (out-few call.which payload few)
  step-of (PageFault page) payload few = omega arith
  step-of Watchdog payload few = omega arith
  step-of (TrapStop code) payload few = omega arith

  -- an event that writes does not end the program
  pub payload-due : (event : Event) → ComesOf setup kernel thread event → 0 < length event.payload → event.due ≡ None
  payload-due event (of_stop stop shown few) some = due-of stop shown some
  payload-due event (of_blocked call) some = payload-call kernel thread call [] (serve setup kernel thread call) some

  -- what is written is short
  pub payload-few : (event : Event) → ComesOf setup kernel thread event → length event.payload ≤ 4096
  payload-few event (of_stop stop shown few) = few-of stop shown few
  payload-few event (of_blocked call) = payload-few-call kernel thread call [] (serve setup kernel thread call) (omega arith)

  -- and fits the steps of its event
  pub writes-step : (event : Event) → ComesOf setup kernel thread event → length event.payload ≤ 4096 * event_steps event.did
  writes-step event (of_stop stop shown few) = step-of stop shown few
  writes-step event (of_blocked call) = writes-step-call kernel thread call [] (serve setup kernel thread call) (omega arith)

  pub comes-happens : (event : Event) → ComesOf setup kernel thread event → Happens kernel thread event
  comes-happens event (of_stop stop shown few) = event-happens setup kernel thread stop shown
  comes-happens event (of_blocked call) = call-happens setup kernel thread call []
