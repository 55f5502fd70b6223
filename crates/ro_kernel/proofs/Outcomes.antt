-- Which calls block, and what a served call leaves of the other threads.
use Rattle.std.specs.Prelude.{◌≡◌, ◌≢◌, ℕ, true, false, not, ◌&&◌, List, slice_get}
use Rattle.std.proofs.Common.{refl, ap, subst}
use Rattle.std.proofs.lemmas.Bool.{false≢true}
use Rattle.ro_event.specs.declared.calls.Which.TheVariants.{System}
use Rattle.ro_event.specs.declared.calls.Call.{Call}
use Rattle.ro_event.specs.Effects.{Effect}
use Rattle.ro_kernel.specs.declared.Life.{Life}
use Rattle.ro_kernel.specs.Kernel.{Setup, Kernel, live_option, lives_on}
use Rattle.ro_kernel.specs.Serve.{Served, Done, Parked, Blocked, Ends, is_blocked, is_parked, is_served, serve, blocks, parks, serves}
use Rattle.ro_kernel.proofs.Kept.{IsOwn, Own, done, parked, IsServed, serve-own, system-served}

blocked-only : (served : Served) → is_blocked served ≡ true → served ≡ Blocked
blocked-only (Done after effect) h = absurd (false≢true h)
blocked-only (Parked after) h = absurd (false≢true h)
blocked-only Blocked h = refl
blocked-only (Ends after how) h = absurd (false≢true h)

served-not-blocked : (served : Served) → IsServed served → is_blocked served ≡ false
served-not-blocked (Done after effect) h = refl
served-not-blocked (Parked after) h = elim h [ ]
served-not-blocked Blocked h = elim h [ ]
served-not-blocked (Ends after how) h = refl

-- it is served where it neither blocks nor parks
one-of-three : (served : Served) → (not (is_blocked served) && not (is_parked served)) ≡ is_served served
one-of-three (Done after effect) = refl
one-of-three (Parked after) = refl
one-of-three Blocked = refl
one-of-three (Ends after how) = refl

parked-lives : (before : Kernel) (u : ℕ) (after : Kernel) → Own before u (Parked after) → after.lives ≡ before.lives
parked-lives before u after (parked h) = h

its : (before : Kernel) (u : ℕ) (after : Kernel) (effect : Effect) → Own before u (Done after effect) → IsOwn before u after effect
its before u after effect (done h) = h

module _ (setup : Setup) (kernel : Kernel) (thread : ℕ) (call : Call) where
  pub blocks-serve : blocks setup kernel thread call ≡ true → serve setup kernel thread call ≡ Blocked
  blocks-serve h = blocked-only (serve setup kernel thread call) h

  pub serve-blocks : serve setup kernel thread call ≡ Blocked → blocks setup kernel thread call ≡ true
  serve-blocks e = ap is_blocked e

  pub system-goes-on : (number : ℕ) → call.which ≡ System number → blocks setup kernel thread call ≡ false
  system-goes-on number e = served-not-blocked (serve setup kernel thread call) (system-served setup kernel thread call number e)

  pub others-live : (after : Kernel) (effect : Effect) (other : ℕ) → serve setup kernel thread call ≡ Done after effect → other ≢ thread → lives_on kernel other ≡ true → lives_on after other ≡ true
  others-live after effect other e different h =
      (its kernel thread after effect (subst (Own kernel thread) e (serve-own setup kernel thread call))).keeps_live other different h

  -- whether it is served, by the two tests
  pub serves-by : (not (blocks setup kernel thread call) && not (parks setup kernel thread call)) ≡ serves setup kernel thread call
  serves-by = one-of-three (serve setup kernel thread call)

  pub parked-live : (after : Kernel) (other : ℕ) → serve setup kernel thread call ≡ Parked after → lives_on after other ≡ lives_on kernel other
  parked-live after other e = ap (λ (l : List Life). live_option (slice_get l other)) (parked-lives kernel thread after (subst (Own kernel thread) e (serve-own setup kernel thread call)))

pub ruleset outcome_laws = (blocks-serve, serve-blocks, system-goes-on, others-live, parked-live, serves-by)
