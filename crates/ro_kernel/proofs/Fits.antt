-- An effect that can be applied where each thread has its life: it stores little, makes a thread only where there is a place for it, and backs a page that is one.
use Rattle.std.specs.Prelude.{◌≡◌, ℕ, ◌+◌, ◌^◌, ◌<◌, ◌≤◌, Bool, true, false, cond, List, [], ◌∷◌, length, Option, Some, None, IfSome, ◌==◌, nat_le}
use Rattle.std.proofs.Common.{refl, sym, ◌∙◌, inl, inr, arith, length-take, length-append}
use Rattle.std.proofs.lemmas.Bool.{cases_lt, true≢false, le-leb}
use Rattle.std.proofs.lemmas.List.{length-set}
use Rattle.ro_event.specs.declared.calls.Call.{Call}
use Rattle.ro_event.specs.declared.effects.Made.{Made}
use Rattle.ro_event.specs.Effects.{Effect}
use Rattle.ro_region.specs.declared.Range.{Range}
use Rattle.ro_journal.specs.declared.How.{How}
use Rattle.ro_pages.specs.Bytes.{bytes_of}
use Rattle.ro_mutex.specs.Owners.{with_owner}
use Rattle.ro_condition.specs.Waiters.{without}
use Rattle.ro_kernel.specs.declared.Life.TheVariants.{Live, Exited, Joined}
use Rattle.ro_kernel.specs.Kernel.{Setup, Kernel, released}
use Rattle.ro_kernel.specs.Serve.{Served, Done, Parked, Blocked, Ends, answers, capped, serve}
use Rattle.ro_kernel.proofs.Shapes.{IsWordStore, stores_none, stores_all, Shape, says, reads, breaks, maps_more, owns, wakes, parks_at, resumes, makes, joins, leaves, of_word, waits, stops, stops_last, shape-of}

-- how many threads an effect makes
abbrev pub made_count : Option Made → ℕ
made_count None = 0
made_count (Some made) = 1

-- the effect of a call that this kernel served
pub record IsFit (before after : Kernel) (effect : Effect) : Type 0 where
  pub one_life_each : length after.lives ≡ length before.lives + made_count effect.made
  pub few : length effect.bytes ≤ 4096
  pub place_left : IfSome effect.made (λ made. length before.lives < 16)
  pub backs_low : IfSome effect.page (λ page. page < 2 ^ 20)

-- whatever comes of a call
pub data Fit (before : Kernel) : Served → Type 0 where
  fit_done : {after : Kernel} {effect : Effect} → IsFit before after effect → Fit before (Done after effect)
  fit_parked : {after : Kernel} → length after.lives ≡ length before.lives → Fit before (Parked after)
  fit_blocked : Fit before Blocked
  fit_end : {after : Kernel} {how : How} → length after.lives ≡ length before.lives → Fit before (Ends after how)

add-none : (n : ℕ) → n ≡ n + 0
add-none n = omega arith

below : (n : ℕ) → nat_le 16 n ≡ false → n < 16
below n e = elim (cases_lt n 16) [
  | inl less ↦ less
  | inr more ↦ absurd (true≢false (sym (le-leb 16 n more) ∙ e))
]

few-bytes : (b : Bool) (value : ℕ) → length (cond b [] (bytes_of 4 value)) ≤ 4096
few-bytes true value = omega arith
few-bytes false value = omega arith

word-few : {ranges : List Range} {address place : ℕ} {bytes : List ℕ} → IsWordStore ranges address place bytes → length bytes ≤ 4096
word-few stores_none = omega arith
word-few (stores_all n fit) = omega arith

module _ (setup : Setup) (kernel : Kernel) (u : ℕ) (call : Call) where
  -- an answer that leaves the lives
  fit-answers : (after : Kernel) (value : ℕ) → length after.lives ≡ length kernel.lives → Fit kernel (answers after u call value)
  fit-answers after value same = fit_done (record { one_life_each = same ∙ add-none (length kernel.lives); few = omega arith; place_left = tt; backs_low = tt })

  fit-of : {served : Served} → Shape setup kernel u call served → Fit kernel served
  fit-of (says value) = fit-answers (released kernel u) value refl
  fit-of (reads number e xs h) = fit_done (record { one_life_each = add-none (length kernel.lives); few = omega (arith, length-take (capped call.a2) xs); place_left = tt; backs_low = tt })
  fit-of (breaks e end) = fit-answers (record (released kernel u) { heap_end = end }) end refl
  fit-of (maps_more e some room) = fit_done (record { one_life_each = add-none (length kernel.lives); few = omega arith; place_left = tt; backs_low = tt })
  fit-of (owns on fit owner) = fit-answers (record (released kernel u) { owners = with_owner kernel.owners call.a0 owner }) 0 refl
  fit-of (wakes ws w) = fit-answers (record (released kernel u) { waiters = ws }) 0 refl
  fit-of (parks_at w e h) = fit_parked refl
  fit-of (resumes w waiter e h) = fit-answers (record (released kernel u) { owners = with_owner kernel.owners call.a1 (Some u); waiters = without kernel.waiters u }) 0 refl
  fit-of (makes w f n) = fit_done (record { one_life_each = length-append kernel.lives (Live ∷ []); few = omega arith; place_left = below (length kernel.lives) n; backs_low = tt })
  fit-of (joins w value e h) = fit_done (record { one_life_each = length-set kernel.lives call.a0 Joined ∙ add-none (length kernel.lives); few = few-bytes (call.a1 == 0) value; place_left = tt; backs_low = tt })
  fit-of (leaves w) = fit_done (record { one_life_each = length-set kernel.lives u (Exited call.a0) ∙ add-none (length kernel.lives); few = omega arith; place_left = tt; backs_low = tt })
  fit-of (of_word word value reserved e low store) = fit_done (record { one_life_each = add-none (length kernel.lives); few = word-few store; place_left = tt; backs_low = low })
  fit-of (waits w) = fit_blocked
  fit-of (stops status) = fit_end refl
  fit-of (stops_last w) = fit_end (length-set kernel.lives u (Exited call.a0))

  serve-fit : Fit kernel (serve setup kernel u call)
  serve-fit = fit-of (shape-of setup kernel u call)

its : (before after : Kernel) (effect : Effect) → Fit before (Done after effect) → IsFit before after effect
its before after effect (fit_done h) = h

pub fit-effect : (setup : Setup) (kernel : Kernel) (u : ℕ) (call : Call) (after : Kernel) (effect : Effect) → serve setup kernel u call ≡ Done after effect → IsFit kernel after effect
fit-effect setup kernel u call after effect e = its kernel after effect (rw e at (serve-fit setup kernel u call))

ended : (before after : Kernel) (how : How) → Fit before (Ends after how) → length after.lives ≡ length before.lives
ended before after how (fit_end h) = h

pub fit-ended : (setup : Setup) (kernel : Kernel) (u : ℕ) (call : Call) (after : Kernel) (how : How) → serve setup kernel u call ≡ Ends after how → length after.lives ≡ length kernel.lives
fit-ended setup kernel u call after how e = ended kernel after how (rw e at (serve-fit setup kernel u call))

parked-fit : (before after : Kernel) → Fit before (Parked after) → length after.lives ≡ length before.lives
parked-fit before after (fit_parked h) = h

pub fit-parked : (setup : Setup) (kernel : Kernel) (u : ℕ) (call : Call) (after : Kernel) → serve setup kernel u call ≡ Parked after → length after.lives ≡ length kernel.lives
fit-parked setup kernel u call after e = parked-fit kernel after (rw e at (serve-fit setup kernel u call))
