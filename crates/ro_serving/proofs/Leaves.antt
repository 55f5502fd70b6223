-- Which calls leave that on which hangs whether the call of a thread that is blocked would be done.
use Rattle.std.specs.Prelude.{◌≡◌, ◌≢◌, ℕ, Bool, true, false, cond, not, List, Option, Some, None, slice_get, slice_set}
use Rattle.std.proofs.Common.{refl, sym, ap, ◌∙◌, subst}
use Rattle.ro_event.specs.declared.calls.Which.{Which}
use Rattle.ro_event.specs.declared.calls.Which.TheVariants.{System, Function, Atomic}
use Rattle.ro_event.specs.declared.functions.Function.{Function as Posix}
use Rattle.ro_event.specs.declared.functions.Function.TheVariants.{Create, Join, Exit, ThreadSelf, MutexInit, MutexDestroy, Lock, TryLock, Unlock, ConditionInit, ConditionDestroy, Wait, Signal, Broadcast}
use Rattle.ro_event.specs.declared.calls.Call.{Call}
use Rattle.ro_event.specs.Effects.{Effect}
use Rattle.ro_journal.specs.declared.How.{How}
use Rattle.ro_mutex.specs.Owners.{Owners, owner_of}
use Rattle.ro_condition.specs.declared.waiters.Waiter.{Waiter}
use Rattle.ro_condition.specs.Waiters.{wait_of}
use Rattle.ro_kernel.specs.declared.Life.{Life}
use Rattle.ro_kernel.specs.declared.Life.TheVariants.{Live, Exited, Joined}
use Rattle.ro_kernel.specs.declared.outcome.Served.{Served as Code}
use Rattle.ro_kernel.specs.declared.outcome.Served.TheVariants.{Done as CodeDone, Parked as CodeParked, Blocked as CodeBlocked, Ends as CodeEnds}
use Rattle.ro_kernel.specs.declared.reservations.Reservation.{Reservation}
use Rattle.ro_kernel.specs.Kernel.{Setup, Kernel, ranges_in, released}
use Rattle.ro_region.specs.declared.Range.{Range}
use Rattle.ro_region.specs.Permission.{with_range}
use Rattle.ro_kernel.specs.State.{State}
use Rattle.ro_kernel.proofs.Given.{given-done, given-ended}
use Rattle.ro_kernel.proofs.Shapes.{IsOnMutex, on_init, on_lock, on_trylock, on_unlock, IsWaking, wakes_first, wakes_all, IsWaiting, for_thread, for_mutex, for_signal, Shape, says, reads, breaks, maps_more, owns, wakes, parks_at, resumes, makes, joins, leaves, of_word, waits, stops, stops_last, shape-of}
use Rattle.ro_kernel.proofs.Kept.{IsServed, is_done, is_end, system-served, atomic-served}
use Rattle.ro_kernel.specs.Served.{Brings}
use Rattle.ro_kernel.specs.Serve.{Served, Done, Parked, Blocked, Ends, answers, fits, is_served, serve_join_at, init_at, lock_at, trylock_at, unlock_at, wait_at, on_word, serve_function, serve_which, serve, serves}
use Rattle.ro_serving.specs.Happening.{LeavesWaiting}

-- ---- a call of no function leaves it, where it gives no range

-- all of it but what is given
record LeavesRest (old new : Kernel) : Type 0 where
  pub lives : new.lives ≡ old.lives
  pub owners : new.owners ≡ old.owners
  pub waiters : new.waiters ≡ old.waiters

data Leaving (old : Kernel) : Served → Type 0 where
  by_done : {after : Kernel} {effect : Effect} → LeavesRest old after → Leaving old (Done after effect)
  by_end : {after : Kernel} {how : How} → LeavesRest old after → Leaving old (Ends after how)

-- a call on a mutex, one that wakes and one that waits are calls of a function
of-mutex : {owners : Owners} {address : ℕ} {which : Which} → IsOnMutex owners address which → (function : Posix) × (which ≡ Function function)
of-mutex (on_init e) = (MutexInit, refl)
of-mutex on_lock = (Lock, refl)
of-mutex on_trylock = (TryLock, refl)
of-mutex on_unlock = (Unlock, refl)

of-waking : {before : List Waiter} {condition : ℕ} {which : Which} {after : List Waiter} → IsWaking before condition which after → (function : Posix) × (which ≡ Function function)
of-waking wakes_first = (Signal, refl)
of-waking wakes_all = (Broadcast, refl)

of-waiting : {kernel : Kernel} {u : ℕ} {which : Which} → IsWaiting kernel u which → (function : Posix) × (which ≡ Function function)
of-waiting for_thread = (Join, refl)
of-waiting for_mutex = (Lock, refl)
of-waiting (for_signal waiter e) = (Wait, refl)

module _ (setup : Setup) (kernel : Kernel) (u : ℕ) (call : Call) (other : (function : Posix) → call.which ≢ Function function) where
  no-function : ((function : Posix) × (call.which ≡ Function function)) → ⊥
  no-function f = other f.0 f.1

  leaving-of : {served : Served} → Shape setup kernel u call served → Leaving kernel served
  leaving-of (says value) = by_done (record { lives = refl; owners = refl; waiters = refl })
  leaving-of (reads number e xs h) = by_done (record { lives = refl; owners = refl; waiters = refl })
  leaving-of (breaks e end) = by_done (record { lives = refl; owners = refl; waiters = refl })
  leaving-of (maps_more e some room) = by_done (record { lives = refl; owners = refl; waiters = refl })
  leaving-of (owns on fit owner) = absurd (no-function (of-mutex on))
  leaving-of (wakes ws w) = absurd (no-function (of-waking w))
  leaving-of (parks_at w e h) = absurd (other Wait w)
  leaving-of (resumes w waiter e h) = absurd (other Wait w)
  leaving-of (makes w f n) = absurd (other Create w)
  leaving-of (joins w value e h) = absurd (other Join w)
  leaving-of (leaves w) = absurd (other Exit w)
  leaving-of (of_word word value reserved e low store) = by_done (record { lives = refl; owners = refl; waiters = refl })
  leaving-of (waits w) = absurd (no-function (of-waiting w))
  leaving-of (stops status) = by_end (record { lives = refl; owners = refl; waiters = refl })
  leaving-of (stops_last w) = absurd (other Exit w)

  others-leave : Leaving kernel (serve setup kernel u call)
  others-leave = leaving-of (shape-of setup kernel u call)

leaves-done : (old after : Kernel) (effect : Effect) → Leaving old (Done after effect) → LeavesRest old after
leaves-done old after effect (by_done h) = h

leaves-end : (old after : Kernel) (how : How) → Leaving old (Ends after how) → LeavesRest old after
leaves-end old after how (by_end h) = h

leaves-all : (old new : Kernel) → LeavesRest old new → new.given ≡ old.given → LeavesWaiting old new
leaves-all old new h given = record { lives = h.lives; owners = h.owners; waiters = h.waiters; given = given }

not-parked : (old after : Kernel) → Leaving old (Parked after) → ⊥
not-parked old after h = elim h [ ]

-- whatever the code answers for it
pub brings-leaves : (old new : State) (u : ℕ) (call : Call) (served : Code) → ((function : Posix) → call.which ≢ Function function) → ((effect : Effect) → served ≡ CodeDone effect → effect.range ≡ None) → Brings (serve old.setup old.kernel u call) old new served → LeavesWaiting old.kernel new.kernel
brings-leaves old new u call served other none b = by served none b
  where
    left : Leaving old.kernel (serve old.setup old.kernel u call)
    left = others-leave old.setup old.kernel u call other

    by : (code : Code) → ((effect : Effect) → code ≡ CodeDone effect → effect.range ≡ None) → Brings (serve old.setup old.kernel u call) old new code → LeavesWaiting old.kernel new.kernel
    by (CodeDone effect) unmapped h =
        leaves-all old.kernel new.kernel (leaves-done old.kernel new.kernel effect (subst (Leaving old.kernel) h.0 left))
        (given-done old.setup old.kernel u call new.kernel effect h.0 ∙ ap (λ (range : Option Range). with_range range old.kernel.given) (unmapped effect refl))
    by CodeParked unmapped h = absurd (not-parked old.kernel new.kernel (subst (Leaving old.kernel) h.0 left))
    by CodeBlocked unmapped h = record { lives = ap (λ (s : State). s.kernel.lives) h.1; owners = ap (λ (s : State). s.kernel.owners) h.1; waiters = ap (λ (s : State). s.kernel.waiters) h.1; given = ap (λ (s : State). s.kernel.given) h.1 }
    by (CodeEnds how) unmapped h =
        leaves-all old.kernel new.kernel (leaves-end old.kernel new.kernel how (subst (Leaving old.kernel) h.0 left))
        (given-ended old.setup old.kernel u call new.kernel how h.0)

-- ---- whether a call would be done hangs on nothing else

data Alike : Served → Served → Type 0 where
  both_done : {k j : Kernel} {e f : Effect} → Alike (Done k e) (Done j f)
  both_parked : {k j : Kernel} → Alike (Parked k) (Parked j)
  both_blocked : Alike Blocked Blocked
  both_end : {k j : Kernel} {h g : How} → Alike (Ends k h) (Ends j g)

alike-cond : (b : Bool) (x y z w : Served) → Alike x z → Alike y w → Alike (cond b x y) (cond b z w)
alike-cond true x y z w p q = p
alike-cond false x y z w p q = q

alike-served : (x y : Served) → Alike x y → is_served x ≡ is_served y
alike-served x y both_done = refl
alike-served x y both_parked = refl
alike-served x y both_blocked = refl
alike-served x y both_end = refl

module _ (setup : Setup) (kernel : Kernel) (heap_end taken : ℕ) (reserved : List (Option Reservation)) (u : ℕ) (call : Call) where
  abbrev other : Kernel
  other = record kernel { heap_end = heap_end; taken = taken; reserved = reserved }

  same-word : (x y : Served) → Alike x y → Alike (on_word setup other u call x) (on_word setup kernel u call y)
  same-word x y p = alike-cond (not (fits (ranges_in setup kernel) call.a0)) (answers other u call 14) x (answers kernel u call 14) y both_done p

  same-join : (o : Option Life) → Alike (serve_join_at setup other u call o) (serve_join_at setup kernel u call o)
  same-join None = both_done
  same-join (Some Joined) = search (alike-cond, both_done)
  same-join (Some Live) = search (alike-cond, both_done, both_blocked)
  same-join (Some (Exited value)) = search (alike-cond, both_done)

  same-init : (o : Option (Option ℕ)) → Alike (init_at other u call o) (init_at kernel u call o)
  same-init None = search (alike-cond, both_done)
  same-init (Some owner) = both_done

  same-lock : (o : Option (Option ℕ)) → Alike (lock_at other u call o) (lock_at kernel u call o)
  same-lock None = search (alike-cond, both_done)
  same-lock (Some None) = both_done
  same-lock (Some (Some owner)) = search (alike-cond, both_done, both_blocked)

  same-trylock : (o : Option (Option ℕ)) → Alike (trylock_at other u call o) (trylock_at kernel u call o)
  same-trylock None = search (alike-cond, both_done)
  same-trylock (Some None) = both_done
  same-trylock (Some (Some owner)) = both_done

  same-unlock : (o : Option (Option ℕ)) → Alike (unlock_at other u call o) (unlock_at kernel u call o)
  same-unlock None = both_done
  same-unlock (Some None) = both_done
  same-unlock (Some (Some owner)) = search (alike-cond, both_done)

  same-wait : (o : Option Waiter) → Alike (wait_at setup other u call o) (wait_at setup kernel u call o)
  same-wait None = search (alike-cond, both_done, both_parked)
  same-wait (Some waiter) = search (alike-cond, both_done, both_blocked)

  same-function : (function : Posix) → Alike (serve_function setup other u call function) (serve_function setup kernel u call function)
  same-function Create = search (alike-cond, both_done) depth 10
  same-function Join = same-join (slice_get kernel.lives call.a0)
  same-function Exit = search (alike-cond, both_done, both_end)
  same-function ThreadSelf = both_done
  same-function MutexInit = same-word _ _ (same-init (owner_of kernel.owners call.a0))
  same-function MutexDestroy = same-word (answers other u call 0) (answers kernel u call 0) both_done
  same-function Lock = same-word _ _ (same-lock (owner_of kernel.owners call.a0))
  same-function TryLock = same-word _ _ (same-trylock (owner_of kernel.owners call.a0))
  same-function Unlock = same-word _ _ (same-unlock (owner_of kernel.owners call.a0))
  same-function ConditionInit = same-word (answers other u call 0) (answers kernel u call 0) both_done
  same-function ConditionDestroy = same-word (answers other u call 0) (answers kernel u call 0) both_done
  same-function Wait = same-word _ _ (same-wait (wait_of kernel.waiters u))
  same-function Signal = same-word _ _ both_done
  same-function Broadcast = same-word _ _ both_done

is-served : (served : Served) → IsServed served → is_served served ≡ true
is-served served is_done = refl
is-served served is_end = refl

pub serves-same : (setup : Setup) (old new : Kernel) → LeavesWaiting old new → (u : ℕ) (call : Call) → serves setup new u call ≡ serves setup old u call
unfolding serve
serves-same setup old new left u call = by call.which refl
  where
    after : Kernel
    after = record (released old u) { heap_end = new.heap_end; taken = new.taken; reserved = slice_set new.reserved u None }

    is-after : released new u ≡ after
    is-after = λ i. record { lives = left.lives i; owners = left.owners i; waiters = left.waiters i; heap_end = new.heap_end; taken = new.taken; given = left.given i; reserved = slice_set new.reserved u None }

    by : (which : Which) → call.which ≡ which → serves setup new u call ≡ serves setup old u call
    by (System number) e = is-served _ (system-served setup new u call number e) ∙ sym (is-served _ (system-served setup old u call number e))
    by (Atomic word) e = is-served _ (atomic-served setup new u call word e) ∙ sym (is-served _ (atomic-served setup old u call word e))
    by (Function function) e =
        ap (λ (w : Which). is_served (serve_which setup new u call w)) e
        ∙ ap (λ (k : Kernel). is_served (serve_function setup k u call function)) is-after
        ∙ alike-served (serve_function setup after u call function) (serve_function setup (released old u) u call function) (same-function setup (released old u) new.heap_end new.taken (slice_set new.reserved u None) u call function)
        ∙ ap (λ (w : Which). is_served (serve_which setup old u call w)) (sym e)
