-- An init leaves a mutex that is in the table, and enters one that is not, where it answers 0.
use Rattle.std.specs.Prelude.{◌≡◌, ℕ, true, [], ◌∷◌, ◌++◌, Option, Some, None, is_some}
use Rattle.std.proofs.Common.{refl, sym, ap, ◌∙◌, subst}
use Rattle.ro_event.specs.declared.calls.Which.{Which}
use Rattle.ro_event.specs.declared.calls.Which.TheVariants.{Function}
use Rattle.ro_event.specs.declared.functions.Function.TheVariants.{MutexInit}
use Rattle.ro_event.specs.declared.calls.Call.{Call}
use Rattle.ro_event.specs.Effects.{Effect}
use Rattle.ro_mutex.specs.Owners.{Owners, owner_of}
use Rattle.ro_mutex.proofs.Given.{comes-last, owner_of-given}
use Rattle.ro_kernel.specs.Kernel.{Setup, Kernel, released}
use Rattle.ro_kernel.specs.Serve.{Done, init_at, on_word, serve_which, serve}
use Rattle.ro_kernel.proofs.Yields.{Yields, done, yields-cond, yields-done}

-- the owners are these
abbrev Are : Owners → Kernel → Effect → Type 0
Are owners after effect = after.owners ≡ owners

-- where the answer is 0, they are these
abbrev AreAtZero : Owners → Kernel → Effect → Type 0
AreAtZero owners after effect = effect.answer ≡ Some 0 → after.owners ≡ owners

module _ (setup : Setup) (kernel : Kernel) (thread : ℕ) (call : Call) where
  known-at : (o : Option (Option ℕ)) (owner : Option ℕ) → o ≡ Some owner → Yields (Are kernel.owners) (init_at kernel thread call o)
  known-at None owner h = absurd (let f : None ≡ Some owner = h in cc)
  known-at (Some other) owner h = done refl

  new-at : (o : Option (Option ℕ)) → o ≡ None → owner_of kernel.owners call.a0 ≡ None → Yields (AreAtZero (kernel.owners ++ (call.a0, None) ∷ [])) (init_at kernel thread call o)
  new-at None h none = yields-cond _ _ _ _ (done (λ (e : Some 11 ≡ Some 0). absurd (let f : Some 11 ≡ Some 0 = e in cc))) (done (λ e. comes-last kernel.owners call.a0 None none))
  new-at (Some other) h none = absurd (let f : Some other ≡ None = h in cc)

  known-word : (owner : Option ℕ) → owner_of kernel.owners call.a0 ≡ Some owner → Yields (Are kernel.owners) (on_word setup kernel thread call (init_at kernel thread call (owner_of kernel.owners call.a0)))
  known-word owner h = yields-cond _ _ _ _ (done refl) (known-at (owner_of kernel.owners call.a0) owner h)

  new-word : owner_of kernel.owners call.a0 ≡ None → Yields (AreAtZero (kernel.owners ++ (call.a0, None) ∷ [])) (on_word setup kernel thread call (init_at kernel thread call (owner_of kernel.owners call.a0)))
  new-word h = yields-cond _ _ _ _ (done (λ (e : Some 14 ≡ Some 0). absurd (let f : Some 14 ≡ Some 0 = e in cc))) (new-at (owner_of kernel.owners call.a0) h h)

module _ (setup : Setup) (kernel : Kernel) (thread : ℕ) (call : Call) where
  served : (P : Kernel → Effect → Type 0) (after : Kernel) (effect : Effect) → call.which ≡ Function MutexInit → Yields P (serve_which setup kernel thread call (Function MutexInit))
      → serve setup kernel thread call ≡ Done after effect → P after effect
  unfolding serve
  served P after effect w h e = yields-done P _ after effect (subst (λ (v : Which). Yields P (serve_which setup kernel thread call v)) (sym w) h) e

  pub init-known : (after : Kernel) (effect : Effect) (owner : Option ℕ) → call.which ≡ Function MutexInit → serve setup kernel thread call ≡ Done after effect → owner_of kernel.owners call.a0 ≡ Some owner → after.owners ≡ kernel.owners
  init-known after effect owner w e h = served (Are kernel.owners) after effect w (known-word setup (released kernel thread) thread call owner h) e

  pub init-new : (after : Kernel) (effect : Effect) → call.which ≡ Function MutexInit → serve setup kernel thread call ≡ Done after effect → effect.answer ≡ Some 0 → owner_of kernel.owners call.a0 ≡ None → after.owners ≡ kernel.owners ++ (call.a0, None) ∷ []
  init-new after effect w e zero h = served (AreAtZero (kernel.owners ++ (call.a0, None) ∷ [])) after effect w (new-word setup (released kernel thread) thread call h) e zero

  pub init-stands : (after : Kernel) (effect : Effect) → call.which ≡ Function MutexInit → serve setup kernel thread call ≡ Done after effect → effect.answer ≡ Some 0 → is_some (owner_of after.owners call.a0) ≡ true
  init-stands after effect w e zero = by (owner_of kernel.owners call.a0) refl
    where
      by : (o : Option (Option ℕ)) → owner_of kernel.owners call.a0 ≡ o → is_some (owner_of after.owners call.a0) ≡ true
      by None h =
          ap (λ (owners : Owners). is_some (owner_of owners call.a0)) (init-new after effect w e zero h ∙ sym (comes-last kernel.owners call.a0 None h))
          ∙ ap is_some (owner_of-given kernel.owners call.a0 None)
      by (Some owner) h = ap (λ (owners : Owners). is_some (owner_of owners call.a0)) (init-known after effect owner w e h) ∙ ap is_some h

pub ruleset init_laws = (init-known, init-new, init-stands)
