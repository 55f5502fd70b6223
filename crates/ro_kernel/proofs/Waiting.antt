-- What a wait comes to, and what each call does to who waits.
use Rattle.std.specs.Prelude.{◌≡◌, ◌≢◌, ℕ, Bool, true, false, cond, ◌&&◌, Option, Some, None, is_some}
use Rattle.std.proofs.Common.{refl, sym, ap, ◌∙◌, subst}
use Rattle.std.proofs.lemmas.Bool.{true≢false, false≢true, eqb-true, and_parts}
use Rattle.ro_event.specs.declared.calls.Which.{Which}
use Rattle.ro_event.specs.declared.calls.Which.TheVariants.{Function}
use Rattle.ro_event.specs.declared.functions.Function.TheVariants.{Join, Lock, Wait}
use Rattle.ro_event.specs.declared.calls.Call.{Call}
use Rattle.ro_event.specs.Effects.{Effect}
use Rattle.ro_journal.specs.declared.How.{How}
use Rattle.ro_mutex.specs.Owners.{owner_of}
use Rattle.ro_mutex.proofs.Given.{owner_of-given}
use Rattle.ro_condition.specs.declared.waiters.Waiter.{Waiter}
use Rattle.ro_condition.specs.Waiters.{wait_of}
use Rattle.ro_condition.proofs.Whose.{is_waiting, signal-waits, broadcast-waits, begun-waits, begun-others as listed-others, ended-others}
use Rattle.ro_kernel.specs.Kernel.{Setup, Kernel, released}
use Rattle.ro_kernel.specs.Serve.{Served, Done, Parked, Blocked, Ends, answers, is_owner, is_free, begins_wait, ends_wait, wait_at, is_blocked, is_parked, serve_which, serve, parks}
use Rattle.ro_kernel.proofs.Shapes.{IsWaking, wakes_first, wakes_all, IsWaiting, for_thread, for_mutex, for_signal, Shape, says, reads, breaks, maps_more, owns, wakes, parks_at, resumes, makes, joins, leaves, of_word, waits, stops, stops_last, shape-of}

-- the others who wait go on waiting, whatever comes of a call of thread u
pub data OthersWait (before : Kernel) (u : ℕ) : Served → Type 0 where
  wait_done : {after : Kernel} {effect : Effect} → ((t : ℕ) → t ≢ u → is_waiting after.waiters t ≡ is_waiting before.waiters t) → OthersWait before u (Done after effect)
  wait_parked : {after : Kernel} → ((t : ℕ) → t ≢ u → is_waiting after.waiters t ≡ is_waiting before.waiters t) → is_waiting after.waiters u ≡ true → is_waiting before.waiters u ≡ false → OthersWait before u (Parked after)
  wait_blocked : OthersWait before u Blocked
  wait_ends : {after : Kernel} {how : How} → OthersWait before u (Ends after how)

module _ (setup : Setup) (kernel : Kernel) (u : ℕ) (call : Call) where
  woken-waits : {which : Which} {after : _} → IsWaking kernel.waiters call.a0 which after → (t : ℕ) → is_waiting after t ≡ is_waiting kernel.waiters t
  woken-waits wakes_first t = signal-waits call.a0 kernel.waiters t
  woken-waits wakes_all t = broadcast-waits call.a0 kernel.waiters t

  others-of : {served : Served} → Shape setup kernel u call served → OthersWait kernel u served
  others-of (says value) = wait_done (λ t h. refl)
  others-of (reads number e xs h) = wait_done (λ t k. refl)
  others-of (breaks e end) = wait_done (λ t h. refl)
  others-of (maps_more e some room) = wait_done (λ t h. refl)
  others-of (owns on fit owner) = wait_done (λ t h. refl)
  others-of (wakes ws w) = wait_done (λ t h. woken-waits w t)
  others-of (parks_at w e h) =
      let mine : Waiter = record { thread = u; condition = call.a0; signalled = false } in
      wait_parked (λ t k. listed-others kernel.waiters mine t (λ f. k (sym f))) (begun-waits kernel.waiters mine) (ap is_some e)
  others-of (resumes w waiter e h) = wait_done (λ t k. ended-others kernel.waiters u t (λ f. k (sym f)))
  others-of (makes w f n) = wait_done (λ t h. refl)
  others-of (joins w value e h) = wait_done (λ t k. refl)
  others-of (leaves w) = wait_done (λ t h. refl)
  others-of (of_word word value reserved e low store) = wait_done (λ t h. refl)
  others-of (waits w) = wait_blocked
  others-of (stops status) = wait_ends
  others-of (stops_last w) = wait_ends

  pub others-wait : OthersWait kernel u (serve setup kernel u call)
  others-wait = others-of (shape-of setup kernel u call)

  -- a thread that waits does not begin to wait
  unparked : (served : Served) → OthersWait kernel u served → is_waiting kernel.waiters u ≡ true → is_parked served ≡ false
  unparked (Done after effect) (wait_done h) e = refl
  unparked (Parked after) (wait_parked h begun before) e = absurd (true≢false (sym e ∙ before))
  unparked Blocked wait_blocked e = refl
  unparked (Ends after how) wait_ends e = refl

  pub waiter-unparked : is_waiting kernel.waiters u ≡ true → parks setup kernel u call ≡ false
  waiter-unparked e = unparked _ others-wait e

-- what a wait that is served comes to: an error that changes nothing, or its end
abbrev pub EndsWell : Kernel → ℕ → Call → Kernel → Effect → Type 0
EndsWell kernel thread call after effect =
    effect.answer ≡ Some 0 → ((waiter : Waiter) × (wait_of kernel.waiters thread ≡ Some waiter) × (waiter.signalled ≡ true)) × (owner_of kernel.owners call.a1 ≡ Some None) × (owner_of after.owners call.a1 ≡ Some (Some thread))

-- what a wait that does its first step comes to
abbrev pub Begins : Kernel → ℕ → Call → Kernel → Type 0
Begins kernel thread call after = (owner_of kernel.owners call.a1 ≡ Some (Some thread)) × (owner_of after.owners call.a1 ≡ Some None)

owner-is : (thread : ℕ) (o : Option (Option ℕ)) → is_owner thread o ≡ true → o ≡ Some (Some thread)
owner-is thread None h = absurd (false≢true h)
owner-is thread (Some None) h = absurd (false≢true h)
owner-is thread (Some (Some owner)) h = ap (λ (t : ℕ). Some (Some t)) (eqb-true owner thread h)

free-is : (o : Option (Option ℕ)) → is_free o ≡ true → o ≡ Some None
free-is None h = absurd (false≢true h)
free-is (Some None) h = refl
free-is (Some (Some owner)) h = absurd (false≢true h)

-- of a wait alone
pub data WaitComes (kernel : Kernel) (u : ℕ) (call : Call) : Served → Type 0 where
  comes_done : {after : Kernel} {effect : Effect} → EndsWell kernel u call after effect → WaitComes kernel u call (Done after effect)
  comes_parked : {after : Kernel} → Begins kernel u call after → WaitComes kernel u call (Parked after)
  comes_blocked : WaitComes kernel u call Blocked
  comes_end : {after : Kernel} {how : How} → WaitComes kernel u call (Ends after how)

module _ (setup : Setup) (kernel : Kernel) (u : ℕ) (call : Call) where
  comes-either : (b : Bool) (x y : Served) → (b ≡ true → WaitComes kernel u call x) → (b ≡ false → WaitComes kernel u call y) → WaitComes kernel u call (cond b x y)
  comes-either true x y p q = p refl
  comes-either false x y p q = q refl

  refused : (value : ℕ) → (Some value ≡ Some 0 → ⊥) → WaitComes kernel u call (answers (released kernel u) u call value)
  refused value h = comes_done (λ e. absurd (h e))

  comes-begin : is_owner u (owner_of kernel.owners call.a1) ≡ true → WaitComes kernel u call (begins_wait (released kernel u) u call)
  comes-begin h = comes_parked (owner-is u _ h, owner_of-given kernel.owners call.a1 None)

  comes-end : (waiter : Waiter) → wait_of kernel.waiters u ≡ Some waiter → (waiter.signalled && is_free (owner_of kernel.owners call.a1)) ≡ true → WaitComes kernel u call (ends_wait (released kernel u) u call)
  comes-end waiter e h =
      let parts = and_parts waiter.signalled (is_free (owner_of kernel.owners call.a1)) h in
      comes_done (λ f. ((waiter, e, parts.0), free-is _ parts.1, owner_of-given kernel.owners call.a1 (Some u)))

  comes-at : (o : Option Waiter) → wait_of kernel.waiters u ≡ o → WaitComes kernel u call (wait_at setup (released kernel u) u call o)
  comes-at None e =
      comes-either _ _ _ (λ h. refused 14 (λ (f : Some 14 ≡ Some 0). cc))
      (λ h. comes-either _ _ _ (λ k. comes-begin k) (λ k. refused 1 (λ (f : Some 1 ≡ Some 0). cc)))
  comes-at (Some waiter) e = comes-either _ _ _ (λ h. comes-end waiter e h) (λ h. comes_blocked)

  comes : call.which ≡ Function Wait → WaitComes kernel u call (serve setup kernel u call)
  unfolding serve
  comes w = subst (λ (v : Which). WaitComes kernel u call (serve_which setup kernel u call v)) (sym w) (comes-either _ _ _ (λ h. refused 14 (λ (f : Some 14 ≡ Some 0). cc)) (λ h. comes-at (wait_of kernel.waiters u) refl))

  done-so : (after : Kernel) (effect : Effect) → WaitComes kernel u call (Done after effect) → EndsWell kernel u call after effect
  done-so after effect (comes_done h) = h

  parked-so : (after : Kernel) → WaitComes kernel u call (Parked after) → Begins kernel u call after
  parked-so after (comes_parked h) = h

  pub wait-ended-well : (after : Kernel) (effect : Effect) → call.which ≡ Function Wait → serve setup kernel u call ≡ Done after effect → EndsWell kernel u call after effect
  wait-ended-well after effect w e = done-so after effect (subst (WaitComes kernel u call) e (comes w))

  -- only a wait has two steps
  parks-so : {served : Served} → Shape setup kernel u call served → is_parked served ≡ true → call.which ≡ Function Wait
  parks-so (says value) h = absurd (false≢true h)
  parks-so (reads number e xs p) h = absurd (false≢true h)
  parks-so (breaks e end) h = absurd (false≢true h)
  parks-so (maps_more e some room) h = absurd (false≢true h)
  parks-so (owns on fit owner) h = absurd (false≢true h)
  parks-so (wakes ws w) h = absurd (false≢true h)
  parks-so (parks_at w e o) h = w
  parks-so (resumes w waiter e o) h = absurd (false≢true h)
  parks-so (makes w f n) h = absurd (false≢true h)
  parks-so (joins w value e p) h = absurd (false≢true h)
  parks-so (leaves w) h = absurd (false≢true h)
  parks-so (of_word word value reserved e low store) h = absurd (false≢true h)
  parks-so (waits w) h = absurd (false≢true h)
  parks-so (stops status) h = absurd (false≢true h)
  parks-so (stops_last w) h = absurd (false≢true h)

  pub parked-waits : (after : Kernel) → serve setup kernel u call ≡ Parked after → call.which ≡ Function Wait
  parked-waits after e = parks-so (shape-of setup kernel u call) (ap is_parked e)

  pub wait-begun-well : (after : Kernel) → serve setup kernel u call ≡ Parked after → Begins kernel u call after
  wait-begun-well after e = parked-so after (subst (WaitComes kernel u call) e (comes (parked-waits after e)))

  -- a wait blocks only where the thread waits already
  blocked-of : {served : Served} → Shape setup kernel u call served → is_blocked served ≡ true → IsWaiting kernel u call.which
  blocked-of (says value) h = absurd (false≢true h)
  blocked-of (reads number e xs p) h = absurd (false≢true h)
  blocked-of (breaks e end) h = absurd (false≢true h)
  blocked-of (maps_more e some room) h = absurd (false≢true h)
  blocked-of (owns on fit owner) h = absurd (false≢true h)
  blocked-of (wakes ws w) h = absurd (false≢true h)
  blocked-of (parks_at w e o) h = absurd (false≢true h)
  blocked-of (resumes w waiter e o) h = absurd (false≢true h)
  blocked-of (makes w f n) h = absurd (false≢true h)
  blocked-of (joins w value e p) h = absurd (false≢true h)
  blocked-of (leaves w) h = absurd (false≢true h)
  blocked-of (of_word word value reserved e low store) h = absurd (false≢true h)
  blocked-of (waits w) h = w
  blocked-of (stops status) h = absurd (false≢true h)
  blocked-of (stops_last w) h = absurd (false≢true h)

  waits-already : {which : Which} → IsWaiting kernel u which → which ≡ Function Wait → is_waiting kernel.waiters u ≡ true
  waits-already for_thread e = absurd (let f : Function Join ≡ Function Wait = e in cc)
  waits-already for_mutex e = absurd (let f : Function Lock ≡ Function Wait = e in cc)
  waits-already (for_signal waiter h) e = ap is_some h

  pub blocked-waits : serve setup kernel u call ≡ Blocked → call.which ≡ Function Wait → is_waiting kernel.waiters u ≡ true
  blocked-waits e = waits-already (blocked-of (shape-of setup kernel u call) (ap is_blocked e))

  -- the others' waits behind a call that is served, and behind a first step; then the thread waits too
  done-others : (after : Kernel) (effect : Effect) → OthersWait kernel u (Done after effect) → (t : ℕ) → t ≢ u → is_waiting after.waiters t ≡ is_waiting kernel.waiters t
  done-others after effect (wait_done h) = h

  parked-others : (after : Kernel) → OthersWait kernel u (Parked after) → (t : ℕ) → t ≢ u → is_waiting after.waiters t ≡ is_waiting kernel.waiters t
  parked-others after (wait_parked h begun before) = h

  parked-begun : (after : Kernel) → OthersWait kernel u (Parked after) → is_waiting after.waiters u ≡ true
  parked-begun after (wait_parked h begun before) = begun

  pub served-others : (after : Kernel) (effect : Effect) → serve setup kernel u call ≡ Done after effect → (t : ℕ) → t ≢ u → is_waiting after.waiters t ≡ is_waiting kernel.waiters t
  served-others after effect e = done-others after effect (subst (OthersWait kernel u) e (others-wait setup kernel u call))

  pub begun-others : (after : Kernel) → serve setup kernel u call ≡ Parked after → (t : ℕ) → t ≢ u → is_waiting after.waiters t ≡ is_waiting kernel.waiters t
  begun-others after e = parked-others after (subst (OthersWait kernel u) e (others-wait setup kernel u call))

  pub begun-now : (after : Kernel) → serve setup kernel u call ≡ Parked after → is_waiting after.waiters u ≡ true
  begun-now after e = parked-begun after (subst (OthersWait kernel u) e (others-wait setup kernel u call))

pub ruleset waiting_laws = (wait-ended-well, parked-waits, wait-begun-well, waiter-unparked)
