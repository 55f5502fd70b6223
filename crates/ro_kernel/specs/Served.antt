-- What a call of the kernel's `serve` leaves.
use Rattle.std.specs.Prelude.{◌≡◌, ◌==◌, Bool, true, false, Result, Ok, Err}
use Rattle.std.specs.declared.alloc.AllocError.{AllocError}
use Rattle.ro_event.specs.declared.calls.Which.{Which}
use Rattle.ro_event.specs.declared.calls.Which.TheVariants.{System, Function, Atomic}
use Rattle.ro_event.specs.declared.functions.Function.TheVariants.{Create, Join, Wait}
use Rattle.ro_kernel.specs.declared.outcome.Served.{Served}
use Rattle.ro_kernel.specs.declared.outcome.Served.TheVariants.{Done, Parked, Blocked, Ends}
use Rattle.ro_kernel.specs.State.{State}
use Rattle.ro_kernel.specs.Serve.{Served as Outcome, Done as DoneWith, Parked as ParkedWith, Blocked as BlockedAtAll, Ends as EndsWith}

-- the outcome of the call, with the kernel after it
abbrev pub Brings : Outcome → (old new : State) → Served → Type 0
Brings outcome old new (Done effect) = (outcome ≡ DoneWith new.kernel effect) × (new.setup ≡ old.setup)
Brings outcome old new Parked = (outcome ≡ ParkedWith new.kernel) × (new.setup ≡ old.setup)
Brings outcome old new Blocked = (outcome ≡ BlockedAtAll) × (new ≡ old)
Brings outcome old new (Ends how) = (outcome ≡ EndsWith new.kernel how) × (new.setup ≡ old.setup)

-- the same, or memory was wanting and nothing changed
abbrev pub IsServe : Outcome → (old new : State) → Result Served AllocError → Type 0
IsServe outcome old new (Ok served) = Brings outcome old new served
IsServe outcome old new (Err error) = new ≡ old

-- whether serving a call may take memory: for the bytes that it stores, or for the place of one who waits
abbrev pub may_take_memory : Which → Bool
may_take_memory (System number) = number == 63
may_take_memory (Function Create) = true
may_take_memory (Function Join) = true
may_take_memory (Function Wait) = true
may_take_memory (Atomic word) = true
may_take_memory _ = false
