-- Who waits: a signal and a broadcast leave that, and one who began to wait does.
use Rattle.std.specs.Prelude.{◌≡◌, ◌≢◌, ℕ, Bool, true, false, cond, List, [], ◌∷◌, ◌++◌, Option, Some, is_some, ◌==◌}
use Rattle.std.specs.List.{find}
use Rattle.std.proofs.Common.{refl, sym, ap, ◌∙◌}
use Rattle.std.proofs.lemmas.Bool.{eq-eqb}
use Rattle.ro_condition.specs.declared.waiters.Waiter.{Waiter}
use Rattle.ro_condition.specs.Waiters.{wait_of, is_of, waits_for, without, woken, with_signal, heard_of, with_broadcast}
use Rattle.ro_condition.proofs.Signals.{wait-begun, wait-ended}

-- whether a thread waits
abbrev pub is_waiting : List Waiter → ℕ → Bool
is_waiting waiters thread = is_some (wait_of waiters thread)

one-here : (b : Bool) (v w : Waiter) (o p : Option Waiter) → is_some o ≡ is_some p → is_some (cond b (Some v) o) ≡ is_some (cond b (Some w) p)
one-here true v w o p e = refl
one-here false v w o p e = e

pub signal-waits : (condition : ℕ) (ws : List Waiter) (thread : ℕ) → is_waiting (with_signal ws condition) thread ≡ is_waiting ws thread
signal-waits condition [] thread = refl
signal-waits condition (w ∷ ws) thread = by (waits_for condition w) (signal-waits condition ws thread)
  where
    by : (b : Bool) → is_waiting (with_signal ws condition) thread ≡ is_waiting ws thread → is_waiting (cond b (woken w ∷ ws) (w ∷ with_signal ws condition)) thread ≡ is_waiting (w ∷ ws) thread
    by true rest = one-here (w.thread == thread) (woken w) w (wait_of ws thread) (wait_of ws thread) refl
    by false rest = one-here (w.thread == thread) w w (wait_of (with_signal ws condition) thread) (wait_of ws thread) rest

pub broadcast-waits : (condition : ℕ) (ws : List Waiter) (thread : ℕ) → is_waiting (with_broadcast ws condition) thread ≡ is_waiting ws thread
broadcast-waits condition [] thread = refl
broadcast-waits condition (w ∷ ws) thread = by (waits_for condition w) (broadcast-waits condition ws thread)
  where
    by : (b : Bool) → is_waiting (with_broadcast ws condition) thread ≡ is_waiting ws thread → is_waiting (cond b (woken w) w ∷ with_broadcast ws condition) thread ≡ is_waiting (w ∷ ws) thread
    by true rest = one-here (w.thread == thread) (woken w) w (wait_of (with_broadcast ws condition) thread) (wait_of ws thread) rest
    by false rest = one-here (w.thread == thread) w w (wait_of (with_broadcast ws condition) thread) (wait_of ws thread) rest

pub begun-waits : (ws : List Waiter) (w : Waiter) → is_waiting (ws ++ w ∷ []) w.thread ≡ true
begun-waits [] w = ap (λ b. is_some (cond b (Some w) (wait_of [] w.thread))) (eq-eqb w.thread w.thread refl)
begun-waits (x ∷ ws) w = by (x.thread == w.thread) (begun-waits ws w)
  where
    by : (b : Bool) → is_waiting (ws ++ w ∷ []) w.thread ≡ true → is_some (cond b (Some x) (wait_of (ws ++ w ∷ []) w.thread)) ≡ true
    by true rest = refl
    by false rest = rest

pub begun-others : (ws : List Waiter) (w : Waiter) (other : ℕ) → w.thread ≢ other → is_waiting (ws ++ w ∷ []) other ≡ is_waiting ws other
begun-others ws w other h = ap is_some (wait-begun ws w other h)

pub ended-others : (ws : List Waiter) (thread other : ℕ) → thread ≢ other → is_waiting (without ws thread) other ≡ is_waiting ws other
ended-others ws thread other h = ap is_some (wait-ended ws thread other h)
