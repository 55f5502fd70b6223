-- A thread that is blocked at a call stands at it in every peer until it is freed.
use Rattle.std.specs.Prelude.{◌≡◌, ◌≢◌, ℕ, zero, suc, Bool, true, false, not, ◌&&◌, cond, List, [], ◌∷◌, ◌++◌, Option, Some, None, is_some, ◌==◌, slice_get}
use Rattle.std.proofs.Common.{refl, sym, ap, ◌∙◌, subst, append-nil}
use Rattle.std.proofs.lemmas.Bool.{true≢false, eqb-true}
use Rattle.ro_event.specs.declared.calls.Which.{Which}
use Rattle.ro_event.specs.declared.calls.Which.TheVariants.{System, Function, Atomic}
use Rattle.ro_event.specs.declared.calls.Call.{Call}
use Rattle.ro_event.specs.declared.effects.Made.{Made}
use Rattle.ro_event.specs.declared.stops.Stop.{Stop}
use Rattle.ro_event.specs.declared.stops.Stop.TheVariants.{Calls}
use Rattle.ro_event.specs.Effects.{Effect}
use Rattle.ro_mutex.specs.Owners.{owner_of}
use Rattle.ro_kernel.specs.Kernel.{Setup, Kernel, ranges_in, released}
use Rattle.ro_kernel.specs.Serve.{Served, Done, Blocked, fits, is_full, lock_at, unlock_at, serve_which, serve, is_write, is_atomic}
use Rattle.ro_kernel.proofs.Kept.{IsServed, system-served, atomic-served}
use Rattle.ro_thread.specs.declared.Thread.{Thread}
use Rattle.ro_replica.specs.Replica.{changed_at, thread_after, with_made, is_cancelled, without_cancelled, applied, cancelled}
use Rattle.ro_plain.proofs.Calls.{slice_get-append}
use Rattle.ro_legal.specs.Event.{quiet_effect}
use Rattle.ro_legal.proofs.Effects.{backed_after, threads_after}
use Rattle.ro_legal.proofs.Lists.{get-map-there}
use Rattle.ro_orders.specs.Turns.{Chosen, is_cooperative, is_lock_or_unlock}
use Rattle.ro_orders.proofs.Mutexes.{IsMutexCall, a_lock, an_unlock, is-mutex-call}
use Rattle.ro_peer.specs.declared.mutexes.Mutex.{Mutex}
use Rattle.ro_peer.specs.Peers.{Peer, mutex_in}
use Rattle.ro_peer.specs.Gets.{is_own_call, voted}
use Rattle.ro_peer.specs.Events.{without_own}
use Rattle.ro_coop.specs.Core.{OneEnters, entered_by, peer_after_event}
use Rattle.ro_coop.proofs.Events.{changed-there}
use Rattle.ro_coop.proofs.Standing.{voted-from}
use Rattle.ro_coop.proofs.Entered.{new, bits, in-right}

-- ---- what blocks

-- a call that blocks is no write and no atomic instruction, and a lock or an unlock that blocks is on a mutex that stands in the table
pub record Blocks (kernel : Kernel) (call : Call) : Type 0 where
  pub no_write : is_write call.which ≡ false
  pub no_atomic : is_atomic call.which ≡ false
  pub in_table : is_lock_or_unlock call.which ≡ true → is_some (owner_of kernel.owners call.a0) ≡ true

never-blocked : IsServed Blocked → ⊥
never-blocked h = elim h [ ]

done-not : (b : Bool) (k l : Kernel) (e f : Effect) → cond b (Done k e) (Done l f) ≡ Blocked → ⊥
done-not true k l e f h = let g : Done k e ≡ Blocked = h in cc
done-not false k l e f h = let g : Done l f ≡ Blocked = h in cc

one-not : (k : Kernel) (e : Effect) → Done k e ≡ Blocked → ⊥
one-not k e h = cc

module _ (setup : Setup) (kernel : Kernel) (t : ℕ) (call : Call) where
  by-owner : (o : Option (Option ℕ)) → lock_at (released kernel t) t call o ≡ Blocked → is_some o ≡ true
  by-owner None e = absurd (done-not (is_full (released kernel t)) _ _ _ _ e)
  by-owner (Some owner) e = refl

  unlock-not : (o : Option (Option ℕ)) → unlock_at (released kernel t) t call o ≡ Blocked → ⊥
  unlock-not None e = one-not _ _ e
  unlock-not (Some None) e = one-not _ _ e
  unlock-not (Some (Some owner)) e = done-not (owner == t) _ _ _ _ e

  fit-not : (b : Bool) (k : Kernel) (f : Effect) (served : Served) → cond b (Done k f) served ≡ Blocked → served ≡ Blocked
  fit-not true k f served e = absurd (one-not k f e)
  fit-not false k f served e = e

  which-table : {which : Which} → IsMutexCall which → serve_which setup kernel t call which ≡ Blocked → is_some (owner_of kernel.owners call.a0) ≡ true
  which-table a_lock e = by-owner (owner_of kernel.owners call.a0) (fit-not (not (fits (ranges_in setup kernel) call.a0)) _ _ _ e)
  which-table an_unlock e = absurd (unlock-not (owner_of kernel.owners call.a0) (fit-not (not (fits (ranges_in setup kernel) call.a0)) _ _ _ e))

  blocked-in-table : serve setup kernel t call ≡ Blocked → is_lock_or_unlock call.which ≡ true → is_some (owner_of kernel.owners call.a0) ≡ true
  unfolding serve
  blocked-in-table e w = which-table (is-mutex-call call.which w) e

  pub blocks-so : serve setup kernel t call ≡ Blocked → Blocks kernel call
  blocks-so e = by call.which refl
    where
      by : (w : Which) → call.which ≡ w → Blocks kernel call
      by (System number) f = absurd (never-blocked (subst IsServed e (system-served setup kernel t call number f)))
      by (Atomic word) f = absurd (never-blocked (subst IsServed e (atomic-served setup kernel t call word f)))
      by (Function function) f = record { no_write = ap is_write f; no_atomic = ap is_atomic f; in_table = blocked-in-table e }

-- ---- it stays at its call

-- the mutex that a call made cooperative did not stand in the table
pub entered-not : (chosen : Chosen) (one : OneEnters chosen) (setup : Setup) (kernel after : Kernel) (t : ℕ) (call : Call) (effect : Effect) → serve setup kernel t call ≡ Done after effect → (a : ℕ) → is_some (owner_of kernel.owners a) ≡ true → mutex_in (entered_by chosen kernel after (Some (Calls call))) a ≡ None
entered-not chosen one setup kernel after t call effect served a inside = by _ refl
  where
    fresh : Mutex
    fresh = new chosen one setup kernel after t call effect served

    at : (b : Bool) → (call.a0 == a) ≡ b → is_cooperative chosen after call.a0 ≡ true → is_cooperative chosen kernel call.a0 ≡ false → cond b (Some (new chosen one setup kernel after t call effect served)) None ≡ None
    at true q h k =
        absurd (true≢false (sym inside ∙ (ap (λ (n : ℕ). is_some (owner_of kernel.owners n)) (sym (eqb-true call.a0 a q)) ∙ one.news setup kernel after t call effect call.a0 served k h)))
    at false q h k = refl

    by : (b : Bool) → (is_cooperative chosen after call.a0 && not (is_cooperative chosen kernel call.a0)) ≡ b → mutex_in (cond b (new chosen one setup kernel after t call effect served ∷ []) []) a ≡ None
    by false e = refl
    by true e = let parts = bits chosen one setup kernel after t call effect served (is_cooperative chosen after call.a0) (is_cooperative chosen kernel call.a0) e in at (call.a0 == a) refl parts.0 parts.1

-- a call that no peer answered before is not answered by one afterwards
not-own-bit : (b : Bool) (o p : Option Mutex) → (b ≡ true → o ≡ None → p ≡ None) → (b && is_some o) ≡ false → (b && is_some p) ≡ false
not-own-bit true None p h e = ap is_some (h refl refl)
not-own-bit true (Some x) p h e = absurd (true≢false e)
not-own-bit false o p h e = refl

pub not-own-after : (mutexes entered : List Mutex) (call : Call) → (is_lock_or_unlock call.which ≡ true → mutex_in entered call.a0 ≡ None) → is_own_call mutexes (Calls call) ≡ false → is_own_call (mutexes ++ entered) (Calls call) ≡ false
not-own-after mutexes entered call h e =
    not-own-bit (is_lock_or_unlock call.which) (mutex_in mutexes call.a0) (mutex_in (mutexes ++ entered) call.a0) (λ w none. in-right mutexes entered call.a0 none ∙ h w) e

pub other-changed : (f : Thread → Thread) (xs : List Thread) (i j : ℕ) (y : Thread) → j ≢ i → slice_get xs j ≡ Some y → slice_get (changed_at f xs i) j ≡ Some y
other-changed f [] i j y d e = absurd (let g : None ≡ Some y = e in cc)
other-changed f (x ∷ xs) zero zero y d e = absurd (d refl)
other-changed f (x ∷ xs) zero (suc j) y d e = e
other-changed f (x ∷ xs) (suc i) zero y d e = e
other-changed f (x ∷ xs) (suc i) (suc j) y d e = other-changed f xs i j y (λ q. d (ap suc q)) e

pub kept-made : (made : Option Made) (xs : List Thread) (i : ℕ) (y : Thread) → slice_get xs i ≡ Some y → slice_get (with_made made xs) i ≡ Some y
kept-made None xs i y e = e
kept-made (Some made) [] i y e = absurd (let g : None ≡ Some y = e in cc)
kept-made (Some made) (x ∷ xs) i y e = slice_get-append (x ∷ xs) _ i y e

module _ (effect : Effect) (entered : List Mutex) (peer : Peer) (number : ℕ) (call : Call) (free_of : is_own_call (peer.mutexes ++ entered) (Calls call) ≡ false) where
  -- what is left of a thread that stands at the call
  stop-left : (y : Thread) → y.stop ≡ Some (Calls call) → (without_own (peer.mutexes ++ entered) (without_cancelled (backed_after effect peer.replica.backed) y)).stop ≡ Some (Calls call)
  stop-left y e =
      ap (voted (peer.mutexes ++ entered)) (ap (λ (o : Option Stop). cond (is_cancelled (backed_after effect peer.replica.backed) o) None o) e)
      ∙ voted-from (peer.mutexes ++ entered) (Some (Calls call)) (Calls call) refl free_of

  at-call : (y : Thread) → slice_get (threads_after effect peer.replica.threads) number ≡ Some y → y.stop ≡ Some (Calls call) → (z : Thread) × (slice_get (peer_after_event effect entered peer).replica.threads number ≡ Some z) × (z.stop ≡ Some (Calls call))
  unfolding applied cancelled
  at-call y e f = (
    without_own (peer.mutexes ++ entered) (without_cancelled (backed_after effect peer.replica.backed) y),
    get-map-there (without_own (peer.mutexes ++ entered)) _ number _ (get-map-there (without_cancelled (backed_after effect peer.replica.backed)) (threads_after effect peer.replica.threads) number y e),
    stop-left y f,
  )

  -- another thread than the event's
  pub other-at-call : (y : Thread) → number ≢ effect.thread → slice_get peer.replica.threads number ≡ Some y → y.stop ≡ Some (Calls call) → (z : Thread) × (slice_get (peer_after_event effect entered peer).replica.threads number ≡ Some z) × (z.stop ≡ Some (Calls call))
  other-at-call y d e f = at-call y (kept-made effect.made _ number y (other-changed (thread_after effect) peer.replica.threads effect.thread number y d e)) f

-- the event's own, where its call blocks
pub own-at-call : (peer : Peer) (t : ℕ) (x : Thread) (call : Call) → is_own_call peer.mutexes (Calls call) ≡ false → slice_get peer.replica.threads t ≡ Some x → x.stop ≡ Some (Calls call)
    → (z : Thread) × (slice_get (peer_after_event (quiet_effect t None false) [] peer).replica.threads t ≡ Some z) × (z.stop ≡ Some (Calls call))
own-at-call peer t x call own there stopped =
    at-call (quiet_effect t None false) [] peer t call (ap (λ (ms : List Mutex). is_own_call ms (Calls call)) (append-nil peer.mutexes) ∙ own) (thread_after (quiet_effect t None false) x)
    (changed-there (quiet_effect t None false) peer.replica.threads t x there) stopped
