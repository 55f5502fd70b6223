-- The code's event against the definition's.
use Rattle.std.proofs.Common.{◌≡◌, ℕ, ◌<◌, List, [], length, refl, ap}
use Rattle.std.specs.Prelude.{IfSome}
use Rattle.ro_event.specs.declared.calls.Which.{Which}
use Rattle.ro_event.specs.declared.calls.Which.TheVariants.{System, Function, Atomic}
use Rattle.ro_event.specs.declared.calls.Call.{Call}
use Rattle.ro_event.specs.Effects.{Effect}
use Rattle.ro_kernel.specs.Kernel.{Setup, Kernel}
use Rattle.ro_kernel.specs.Mapped.{IsMapped}
use Rattle.ro_kernel.specs.State.{State}
use Rattle.ro_kernel.specs.Serve.{Served as Outcome, Done as DoneWith, Parked as ParkedWith, Blocked as BlockedAtAll, Ends as EndsWith, is_atomic, put_out, asked, serve}
use Rattle.ro_kernel.proofs.Given.{range-room}
use Rattle.ro_kernel.proofs.Waiting.{parked-waits}
use Rattle.ro_kernel.proofs.Words.{asked-same, blocked-plain}
use Rattle.ro_legal.specs.Event.{call_event}
use Rattle.ro_kernel.specs.Served.{Brings}
use Rattle.ro_kernel.specs.declared.outcome.Served.{Served}
use Rattle.ro_kernel.specs.declared.outcome.Served.TheVariants.{Done, Parked, Blocked, Ends}
use Rattle.ro_serving.specs.Happening.{outcome_with}

-- the definition's outcome of a call, by the code's answer
pub brings-outcome : (outcome : Outcome) (old new : State) (served : Served) → Brings outcome old new served → outcome ≡ outcome_with new.kernel served
brings-outcome outcome old new (Done effect) h = h.0
brings-outcome outcome old new Parked h = h.0
brings-outcome outcome old new Blocked h = h.0
brings-outcome outcome old new (Ends how) h = h.0

pub brings-blocked : (outcome : Outcome) (old new : State) (served : Served) → Brings outcome old new served → served ≡ Blocked → new.kernel ≡ old.kernel
brings-blocked outcome old new (Done effect) h e = absurd (let f : Done effect ≡ Blocked = e in cc)
brings-blocked outcome old new Parked h e = absurd (let f : Parked ≡ Blocked = e in cc)
brings-blocked outcome old new Blocked h e = ap (λ (s : State). s.kernel) h.1
brings-blocked outcome old new (Ends how) h e = absurd (let f : Ends how ≡ Blocked = e in cc)

-- a call that is not done at once is no atomic instruction, so it is what it was
pub asked-event : (setup : Setup) (kernel : Kernel) (u : ℕ) (call : Call) (payload out : List ℕ) → call_event kernel u (asked call payload) out (serve setup kernel u (asked call payload)) ≡ call_event kernel u call out (serve setup kernel u (asked call payload))
asked-event setup kernel u call payload out = by (serve setup kernel u (asked call payload)) refl
  where
    by : (served : Outcome) → serve setup kernel u (asked call payload) ≡ served → call_event kernel u (asked call payload) out served ≡ call_event kernel u call out served
    by (DoneWith after effect) e = refl
    by (ParkedWith after) e = ap (λ (c : Call). call_event kernel u c out (ParkedWith after)) (asked-same call payload (ap is_atomic (parked-waits setup kernel u (asked call payload) after e)))
    by BlockedAtAll e = ap (λ (c : Call). call_event kernel u c out BlockedAtAll) (asked-same call payload (blocked-plain setup kernel u (asked call payload) e))
    by (EndsWith after how) e = refl

-- no call writes bytes that it has not
pub nothing-out : (which : Which) → put_out which [] ≡ []
nothing-out (Atomic word) = refl
nothing-out (System number) = refl
nothing-out (Function function) = refl

-- where a served call gives a range there is a place for it
pub room-now : (old new : State) (u : ℕ) (call : Call) (effect : Effect) → Brings (serve old.setup old.kernel u call) old new (Done effect) → IsMapped old.kernel.given → IfSome effect.range (λ range. length old.kernel.given < 4096)
room-now old new u call effect h mapped = range-room old.setup old.kernel u call new.kernel effect h.0 mapped

-- and so of the event that comes of a call
pub room-by : (kernel after : Kernel) (u : ℕ) (call : Call) (payload : List ℕ) (served : Served) → ((effect : Effect) → served ≡ Done effect → IfSome effect.range (λ range. length kernel.given < 4096))
    → IfSome (call_event kernel u call payload (outcome_with after served)).effect.range (λ range. length kernel.given < 4096)
room-by kernel after u call payload (Done effect) room = room effect refl
room-by kernel after u call payload Parked room = tt
room-by kernel after u call payload Blocked room = tt
room-by kernel after u call payload (Ends how) room = tt
