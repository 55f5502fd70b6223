-- What signals and the ends of waits do to the list.
use Rattle.std.specs.Prelude.{◌≡◌, ◌≢◌, ℕ, Bool, true, false, cond, not, ◌&&◌, ◌||◌, List, [], ◌∷◌, ◌++◌, Option, Some, None, ◌==◌}
use Rattle.std.specs.List.{list_any, find}
use Rattle.std.proofs.Common.{refl, sym, ap, ◌∙◌, ⊎_elim}
use Rattle.std.proofs.lemmas.Bool.{false≢true, eqb-true, cases_eq}
use Rattle.ro_condition.specs.declared.waiters.Waiter.{Waiter}
use Rattle.ro_condition.specs.Waiters.{wait_of, is_of, waits_for, without, woken, with_signal, heard_of, with_broadcast}

or-parts : (b c : Bool) → (b || c) ≡ false → (b ≡ false) × (c ≡ false)
or-parts true c h = absurd (false≢true (sym h))
or-parts false c h = (refl, h)

module _ (condition : ℕ) where
  pub signal-first : (before : List Waiter) (waiter : Waiter) (behind : List Waiter) → list_any (waits_for condition) before ≡ false → waits_for condition waiter ≡ true → with_signal (before ++ waiter ∷ behind) condition ≡ before ++ woken waiter ∷ behind
  signal-first [] waiter behind h e = ap (λ b. cond b (woken waiter ∷ behind) (waiter ∷ with_signal behind condition)) e
  signal-first (w ∷ ws) waiter behind h e =
      let parts = or-parts (waits_for condition w) (list_any (waits_for condition) ws) h in
      ap (λ b. cond b (woken w ∷ (ws ++ waiter ∷ behind)) (w ∷ with_signal (ws ++ waiter ∷ behind) condition)) parts.0
      ∙ ap (λ (xs : List Waiter). w ∷ xs) (signal-first ws waiter behind parts.1 e)

  pub signal-nobody : (ws : List Waiter) → list_any (waits_for condition) ws ≡ false → with_signal ws condition ≡ ws
  signal-nobody [] h = refl
  signal-nobody (w ∷ ws) h =
      let parts = or-parts (waits_for condition w) (list_any (waits_for condition) ws) h in
      ap (λ b. cond b (woken w ∷ ws) (w ∷ with_signal ws condition)) parts.0 ∙ ap (λ (xs : List Waiter). w ∷ xs) (signal-nobody ws parts.1)

  pub broadcast-nobody : (ws : List Waiter) → list_any (waits_for condition) ws ≡ false → with_broadcast ws condition ≡ ws
  broadcast-nobody [] h = refl
  broadcast-nobody (w ∷ ws) h =
      let parts = or-parts (waits_for condition w) (list_any (waits_for condition) ws) h in
      ap (λ b. cond b (woken w) w ∷ with_broadcast ws condition) parts.0 ∙ ap (λ (xs : List Waiter). w ∷ xs) (broadcast-nobody ws parts.1)

  heard-no-more : (w : Waiter) → waits_for condition (heard_of condition w) ≡ false
  heard-no-more w = by (waits_for condition w) refl
    where
      and-not-true : (b : Bool) → (b && false) ≡ false
      and-not-true true = refl
      and-not-true false = refl

      by : (b : Bool) → waits_for condition w ≡ b → waits_for condition (cond b (woken w) w) ≡ false
      by true e = and-not-true (w.condition == condition)
      by false e = e

  pub broadcast-all : (ws : List Waiter) → list_any (waits_for condition) (with_broadcast ws condition) ≡ false
  broadcast-all [] = refl
  broadcast-all (w ∷ ws) = ap (λ b. b || list_any (waits_for condition) (with_broadcast ws condition)) (heard-no-more w) ∙ broadcast-all ws

different : (w : Waiter) (other : ℕ) → w.thread ≢ other → is_of other w ≡ false
different w other h = by (is_of other w) refl
  where
    by : (b : Bool) → is_of other w ≡ b → b ≡ false
    by true e = absurd (h (eqb-true w.thread other e))
    by false e = refl

pub wait-begun : (ws : List Waiter) (w : Waiter) (other : ℕ) → w.thread ≢ other → wait_of (ws ++ w ∷ []) other ≡ wait_of ws other
wait-begun [] w other h = ap (λ b. cond b (Some w) None) (different w other h)
wait-begun (x ∷ ws) w other h = ap (cond (is_of other x) (Some x)) (wait-begun ws w other h)

pub wait-ended : (ws : List Waiter) (thread other : ℕ) → thread ≢ other → wait_of (without ws thread) other ≡ wait_of ws other
wait-ended [] thread other h = refl
wait-ended (x ∷ ws) thread other h = by (x.thread == thread) refl (wait-ended ws thread other h)
  where
    by : (b : Bool) → (x.thread == thread) ≡ b → wait_of (without ws thread) other ≡ wait_of ws other → wait_of (cond b ws (x ∷ without ws thread)) other ≡ wait_of (x ∷ ws) other
    by true e rest = sym (ap (λ b. cond b (Some x) (wait_of ws other)) (different x other (λ f. h (sym (eqb-true x.thread thread e) ∙ f))))
    by false e rest = ap (cond (is_of other x) (Some x)) rest

pub ruleset signal_laws = (signal-first, signal-nobody, broadcast-nobody, broadcast-all, wait-begun, wait-ended)
