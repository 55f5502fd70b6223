-- The first step of a wait makes no mutex cooperative: behind it a broadcast and the second step lead to where the broadcast alone leads.
use Rattle.std.specs.Prelude.{◌≡◌, ℕ, Bool, true, false, not, ◌&&◌, ◌==◌, cond, List, [], ◌∷◌, ◌++◌, Option, Some, None, slice_set}
use Rattle.std.proofs.Common.{refl, sym, ap, ap₂, ◌∙◌}
use Rattle.std.proofs.lemmas.Bool.{true≢false, eq-eqb, false_from_ne_true}
use Rattle.ro_event.specs.declared.calls.Which.TheVariants.{Function}
use Rattle.ro_event.specs.declared.functions.Function.TheVariants.{Broadcast}
use Rattle.ro_event.specs.declared.calls.Call.{Call}
use Rattle.ro_event.specs.Effects.{Effect}
use Rattle.ro_condition.specs.declared.waiters.Waiter.{Waiter}
use Rattle.ro_condition.specs.Waiters.{wait_of, without, waits_for, woken, heard_of, with_broadcast}
use Rattle.ro_mutex.specs.Owners.{Owners, owner_of, with_owner}
use Rattle.ro_mutex.proofs.Given.{owner_of-given}
use Rattle.ro_kernel.specs.declared.reservations.Reservation.{Reservation}
use Rattle.ro_kernel.specs.Kernel.{Setup, Kernel, ranges_in, released}
use Rattle.ro_kernel.specs.Serve.{Done, Parked, Blocked, answers, answer_effect, fits, is_owner, is_free, ends_wait, wait_at, serve_which, serve}
use Rattle.ro_kernel.proofs.Waiting.{parked-waits, wait-begun-well}
use Rattle.ro_orders.specs.Turns.{Chosen, is_cooperative}
use Rattle.ro_orders.proofs.Reservations.{set-again}
use Rattle.ro_coop.specs.Core.{OneEnters}
use Rattle.ro_coop.proofs.Tables.{with_owner-twice}
use Rattle.ro_coop.proofs.Entered.{owner-itself}

done-not : (k after : Kernel) (e : Effect) → Done k e ≡ Parked after → ⊥
done-not k after e f = cc

-- the thread's wait that begins
abbrev mine : (thread condition : ℕ) → Waiter
mine thread condition = record { thread = thread; condition = condition; signalled = false }

-- ---- what begins a wait

module _ (setup : Setup) (kernel after : Kernel) (t : ℕ) (call : Call) where
  abbrev begun : Kernel
  begun = record (released kernel t) { owners = with_owner kernel.owners call.a1 None; waiters = kernel.waiters ++ mine t call.a0 ∷ [] }

  by-owner : (b : Bool) → cond b (Parked begun) (answers (released kernel t) t call 1) ≡ Parked after → begun ≡ after
  by-owner true e = let f : Parked begun ≡ Parked after = e in cc
  by-owner false e = absurd (done-not _ _ _ e)

  by-fit : (b : Bool) → cond (not b) (answers (released kernel t) t call 14) (cond (is_owner t (owner_of kernel.owners call.a1)) (Parked begun) (answers (released kernel t) t call 1)) ≡ Parked after → begun ≡ after
  by-fit true e = by-owner _ e
  by-fit false e = absurd (done-not _ _ _ e)

  ends-not : (b : Bool) → cond b (ends_wait (released kernel t) t call) Blocked ≡ Parked after → ⊥
  ends-not true e = done-not _ _ _ e
  ends-not false e = let f : Blocked ≡ Parked after = e in cc

  by-wait : (o : Option Waiter) → wait_at setup (released kernel t) t call o ≡ Parked after → (o ≡ None) × (begun ≡ after)
  by-wait None e = (refl, by-fit (fits (ranges_in setup kernel) call.a1) e)
  by-wait (Some waiter) e = absurd (ends-not (waiter.signalled && is_free (owner_of kernel.owners call.a1)) e)

  by-word : (b : Bool) → cond (not b) (answers (released kernel t) t call 14) (wait_at setup (released kernel t) t call (wait_of kernel.waiters t)) ≡ Parked after → (b ≡ true) × (wait_of kernel.waiters t ≡ None) × (begun ≡ after)
  by-word true e = let h = by-wait (wait_of kernel.waiters t) e in (refl, h.0, h.1)
  by-word false e = absurd (done-not _ _ _ e)

  begins : serve setup kernel t call ≡ Parked after → (fits (ranges_in setup kernel) call.a0 ≡ true) × (wait_of kernel.waiters t ≡ None) × (begun ≡ after)
  unfolding serve
  begins e = by-word (fits (ranges_in setup kernel) call.a0) (sym (ap (serve_which setup kernel t call) (parked-waits setup kernel t call after e)) ∙ e)

-- ---- a broadcast reaches it

module _ (t a : ℕ) where
  abbrev heard : List Waiter → List Waiter
  heard ws = with_broadcast (ws ++ mine t a ∷ []) a

  mine-heard : heard_of a (mine t a) ≡ woken (mine t a)
  mine-heard = ap (λ (b : Bool). cond (b && true) (woken (mine t a)) (mine t a)) (eq-eqb a a refl)

  heard-thread : (x : Waiter) → (heard_of a x).thread ≡ x.thread
  heard-thread x = by (waits_for a x)
    where
      by : (b : Bool) → (cond b (woken x) x).thread ≡ x.thread
      by true = refl
      by false = refl

  not-here : (b : Bool) (x : Waiter) (o : Option Waiter) → cond b (Some x) o ≡ None → (b ≡ false) × (o ≡ None)
  not-here true x o e = absurd (let f : Some x ≡ None = e in cc)
  not-here false x o e = (refl, e)

  -- it is the thread's, and the others' are as without it
  reached : (ws : List Waiter) → wait_of ws t ≡ None → (wait_of (heard ws) t ≡ Some (woken (mine t a))) × (without (heard ws) t ≡ with_broadcast ws a)
  reached [] e = (
    ap (λ (x : Waiter). wait_of (x ∷ []) t) mine-heard ∙ ap (λ (b : Bool). cond b (Some (woken (mine t a))) None) (eq-eqb t t refl),
    ap (λ (x : Waiter). without (x ∷ []) t) mine-heard ∙ ap {B = List Waiter} (λ (b : Bool). cond b [] (woken (mine t a) ∷ [])) (eq-eqb t t refl),
  )
  reached (x ∷ ws) e =
      let parts = not-here (x.thread == t) x (wait_of ws t) e in
      let rest = reached ws parts.1 in
      let other : ((heard_of a x).thread == t) ≡ false = ap (λ (n : ℕ). n == t) (heard-thread x) ∙ parts.0 in (
        ap (λ (b : Bool). cond b (Some (heard_of a x)) (wait_of (heard ws) t)) other ∙ rest.0,
        ap (λ (b : Bool). cond b (heard ws) (heard_of a x ∷ without (heard ws) t)) other ∙ ap {B = List Waiter} (λ (r : List Waiter). heard_of a x ∷ r) rest.1,
      )

-- ---- a broadcast, and the second step behind it

module _ (setup : Setup) (t : ℕ) (call : Call) where
  abbrev wakes : Call
  wakes = record { which = Function Broadcast; a0 = call.a0; a1 = 0; a2 = 0; a3 = 0 }

  abbrev woken_in : Kernel → Kernel
  woken_in k = record (released k t) { waiters = with_broadcast k.waiters call.a0 }

  broadcast : (k : Kernel) → fits (ranges_in setup k) call.a0 ≡ true → serve setup k t wakes ≡ Done (woken_in k) (answer_effect t wakes 0)
  unfolding serve
  broadcast k fit = ap (λ (b : Bool). cond (not b) (answers (released k t) t wakes 14) (answers (woken_in k) t wakes 0)) fit

  module _ (kernel after : Kernel) (e : serve setup kernel t call ≡ Parked after) (fit : fits (ranges_in setup kernel) call.a0 ≡ true) (none : wait_of kernel.waiters t ≡ None) where
    abbrev there : Kernel
    there = woken_in (begun setup kernel after t call)

    abbrev back : Kernel
    back = record (released there t) { owners = with_owner there.owners call.a1 (Some t); waiters = without there.waiters t }

    second : serve setup there t call ≡ Done back (answer_effect t call 0)
    unfolding serve
    second =
        ap (serve_which setup there t call) (parked-waits setup kernel t call after e)
        ∙ (ap (λ (b : Bool). cond (not b) (answers (released there t) t call 14) (wait_at setup (released there t) t call (wait_of there.waiters t))) fit
        ∙ (ap (wait_at setup (released there t) t call) (reached t call.a0 kernel.waiters none).0
        ∙ ap (λ (o : Option (Option ℕ)). cond (is_free o) (ends_wait (released there t) t call) Blocked) (owner_of-given kernel.owners call.a1 None)))

    same : back ≡ woken_in kernel
    same =
        ap (λ (rs : List (Option Reservation)). record back { reserved = rs }) (set-again (slice_set kernel.reserved t None) t None None ∙ set-again kernel.reserved t None None)
        ∙ ap₂ (λ (owners : Owners) (ws : List Waiter). record (released kernel t) { owners = owners; waiters = ws })
        (with_owner-twice kernel.owners call.a1 None (Some t) ∙ owner-itself kernel.owners call.a1 (Some t) (wait-begun-well setup kernel t call after e).0)
        (reached t call.a0 kernel.waiters none).1

-- a mutex that is not cooperative is not so behind the first step
pub begins-keeps : (chosen : Chosen) (one : OneEnters chosen) (setup : Setup) (kernel after : Kernel) (t : ℕ) (call : Call) → serve setup kernel t call ≡ Parked after → (m : ℕ) → is_cooperative chosen kernel m ≡ false → is_cooperative chosen after m ≡ false
begins-keeps chosen one setup kernel after t call e m before =
    let parts = begins setup kernel after t call e in
    false_from_ne_true _ (λ coop.
    let first = chosen.lasts setup (begun setup kernel after t call) (there setup t call kernel after e parts.0 parts.1) t (wakes setup t call) _ m (broadcast setup t call (begun setup kernel after t call) parts.0) (ap (λ (k : Kernel). is_cooperative chosen k m) parts.2 ∙ coop) in
    let behind = chosen.lasts setup (there setup t call kernel after e parts.0 parts.1) (back setup t call kernel after e parts.0 parts.1) t call _ m (second setup t call kernel after e parts.0 parts.1) first in
    let alone : is_cooperative chosen (woken_in setup t call kernel) m ≡ true = ap (λ (k : Kernel). is_cooperative chosen k m) (sym (same setup t call kernel after e parts.0 parts.1)) ∙ behind in
    true≢false (sym (chosen.inside (woken_in setup t call kernel) m alone) ∙ one.news setup kernel (woken_in setup t call kernel) t (wakes setup t call) _ m (broadcast setup t call kernel parts.0) before alone))
