-- A lock that succeeds makes the caller the owner, and an unlock that succeeds leaves none.
use Rattle.std.specs.Prelude.{◌≡◌, ℕ, true, Option, Some, None, nat_lt}
use Rattle.std.proofs.Common.{refl, sym, ap, ◌∙◌, subst}
use Rattle.std.proofs.lemmas.Bool.{false≢true}
use Rattle.ro_event.specs.declared.calls.Which.{Which}
use Rattle.ro_event.specs.declared.calls.Which.TheVariants.{Function}
use Rattle.ro_event.specs.declared.functions.Function.TheVariants.{Lock, TryLock, Unlock}
use Rattle.ro_event.specs.declared.calls.Call.{Call}
use Rattle.ro_event.specs.Effects.{Effect}
use Rattle.ro_mutex.specs.Owners.{owner_of, with_owner}
use Rattle.ro_mutex.proofs.Given.{owner_of-given}
use Rattle.ro_kernel.specs.Kernel.{Setup, Kernel, released}
use Rattle.ro_kernel.specs.Serve.{Served, Done, answers, gets, lock_at, trylock_at, unlock_at, on_word, serve_which, serve}
use Rattle.ro_kernel.proofs.Yields.{Yields, done, blocked, yields-cond, yields-done}

-- where the answer is 0, the address has this owner
abbrev pub Owned : ℕ → Option ℕ → Kernel → Effect → Type 0
Owned address owner after effect = effect.answer ≡ Some 0 → owner_of after.owners address ≡ Some owner

above : (value : ℕ) → nat_lt 0 value ≡ true → Some value ≡ Some 0 → ⊥
above value h e = let same : value ≡ 0 = cc in false≢true (sym (ap (nat_lt 0) same) ∙ h)

owned-refused : (kernel : Kernel) (thread : ℕ) (call : Call) (owner : Option ℕ) (value : ℕ) → nat_lt 0 value ≡ true → Yields (Owned call.a0 owner) (answers kernel thread call value)
owned-refused kernel thread call owner value h = done (λ e. absurd (above value h e))

owned-gets : (kernel : Kernel) (thread : ℕ) (call : Call) → Yields (Owned call.a0 (Some thread)) (gets kernel thread call)
owned-gets kernel thread call = done (λ e. owner_of-given kernel.owners call.a0 (Some thread))

owned-frees : (kernel : Kernel) (thread : ℕ) (call : Call) → Yields (Owned call.a0 None) (answers (record kernel { owners = with_owner kernel.owners call.a0 None }) thread call 0)
owned-frees kernel thread call = done (λ e. owner_of-given kernel.owners call.a0 None)

module _ (setup : Setup) (kernel : Kernel) (thread : ℕ) (call : Call) where
  refused : (owner : Option ℕ) (value : ℕ) → nat_lt 0 value ≡ true → Yields (Owned call.a0 owner) (answers kernel thread call value)
  refused owner value h = owned-refused kernel thread call owner value h

  got : Yields (Owned call.a0 (Some thread)) (gets kernel thread call)
  got = owned-gets kernel thread call

  owned-lock_at : (o : Option (Option ℕ)) → Yields (Owned call.a0 (Some thread)) (lock_at kernel thread call o)
  owned-lock_at None = yields-cond _ _ _ _ (refused (Some thread) 11 refl) got
  owned-lock_at (Some None) = got
  owned-lock_at (Some (Some owner)) = yields-cond _ _ _ _ (refused (Some thread) 35 refl) blocked

  owned-trylock_at : (o : Option (Option ℕ)) → Yields (Owned call.a0 (Some thread)) (trylock_at kernel thread call o)
  owned-trylock_at None = yields-cond _ _ _ _ (refused (Some thread) 11 refl) got
  owned-trylock_at (Some None) = got
  owned-trylock_at (Some (Some owner)) = refused (Some thread) 16 refl

  owned-unlock_at : (o : Option (Option ℕ)) → Yields (Owned call.a0 None) (unlock_at kernel thread call o)
  owned-unlock_at None = refused None 1 refl
  owned-unlock_at (Some None) = refused None 1 refl
  owned-unlock_at (Some (Some owner)) = yields-cond _ _ _ _ (owned-frees kernel thread call) (refused None 1 refl)

  owned-mutex : (owner : Option ℕ) (served : Served) → Yields (Owned call.a0 owner) served → Yields (Owned call.a0 owner) (on_word setup kernel thread call served)
  owned-mutex owner served h = yields-cond _ _ _ _ (refused owner 14 refl) h

module _ (setup : Setup) (kernel : Kernel) (thread : ℕ) (call : Call) where
  owned : (which : Which) (owner : Option ℕ) (after : Kernel) (effect : Effect) → call.which ≡ which → Yields (Owned call.a0 owner) (serve_which setup kernel thread call which)
      → serve setup kernel thread call ≡ Done after effect → effect.answer ≡ Some 0 → owner_of after.owners call.a0 ≡ Some owner
  unfolding serve
  owned which owner after effect w h e = yields-done (Owned call.a0 owner) _ after effect (subst (λ (v : Which). Yields (Owned call.a0 owner) (serve_which setup kernel thread call v)) (sym w) h) e

  pub lock-owned : (after : Kernel) (effect : Effect) → call.which ≡ Function Lock → serve setup kernel thread call ≡ Done after effect → effect.answer ≡ Some 0 → owner_of after.owners call.a0 ≡ Some (Some thread)
  lock-owned after effect w = owned (Function Lock) (Some thread) after effect w (owned-mutex setup (released kernel thread) thread call (Some thread) _ (owned-lock_at setup (released kernel thread) thread call (owner_of kernel.owners call.a0)))

  pub trylock-owned : (after : Kernel) (effect : Effect) → call.which ≡ Function TryLock → serve setup kernel thread call ≡ Done after effect → effect.answer ≡ Some 0 → owner_of after.owners call.a0 ≡ Some (Some thread)
  trylock-owned after effect w = owned (Function TryLock) (Some thread) after effect w (owned-mutex setup (released kernel thread) thread call (Some thread) _ (owned-trylock_at setup (released kernel thread) thread call (owner_of kernel.owners call.a0)))

  pub unlock-free : (after : Kernel) (effect : Effect) → call.which ≡ Function Unlock → serve setup kernel thread call ≡ Done after effect → effect.answer ≡ Some 0 → owner_of after.owners call.a0 ≡ Some None
  unlock-free after effect w = owned (Function Unlock) None after effect w (owned-mutex setup (released kernel thread) thread call None _ (owned-unlock_at setup (released kernel thread) thread call (owner_of kernel.owners call.a0)))

pub ruleset owned_laws = (lock-owned, trylock-owned, unlock-free)
