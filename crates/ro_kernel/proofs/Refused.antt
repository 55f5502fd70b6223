-- An error answer changes nothing but the caller's a0 and pc, and ends its reservation.
use Rattle.std.specs.Prelude.{◌≡◌, ℕ, Bool, true, false, not, ◌&&◌, List, length, take, Some, None, ◌==◌, ◌+◌, ◌-◌, ◌<◌, ◌≤◌, ◌^◌, cond, nat_le, nat_lt}
use Rattle.std.proofs.Common.{refl, sym, ap, ◌∙◌, arith, rules, length-take}
use Rattle.std.proofs.lemmas.Bool.{true≢false}
use Rattle.ro_event.specs.declared.calls.Which.{Which}
use Rattle.ro_event.specs.declared.calls.Which.TheVariants.{System, Function, Atomic}
use Rattle.ro_event.specs.declared.functions.Function.TheVariants.{ThreadSelf}
use Rattle.ro_event.specs.declared.calls.Call.{Call}
use Rattle.ro_event.specs.Effects.{Effect}
use Rattle.ro_kernel.specs.Kernel.{Setup, Kernel, released}
use Rattle.ro_kernel.specs.Mapped.{mapped_to, in_pages}
use Rattle.ro_kernel.specs.Serve.{Served, Done, answer_effect, capped, serve}
use Rattle.ro_kernel.specs.Errors.{is_error}
use Rattle.ro_kernel.proofs.Given.{at-most}
use Rattle.ro_kernel.proofs.Yields.{Yields, done, parked, blocked, ends, yields-done}
use Rattle.ro_kernel.proofs.Shapes.{Shape, says, reads, breaks, maps_more, owns, wakes, parks_at, resumes, makes, joins, leaves, of_word, waits, stops, stops_last, shape-of}

-- if the answer is an error of that call, the kernel stays but for the reservation, and the effect is the answer alone
abbrev pub Refuses : Kernel → ℕ → Call → Kernel → Effect → Type 0
Refuses kernel thread call after effect =
    (value : ℕ) → effect.answer ≡ Some value → is_error call.which value ≡ true → (after ≡ released kernel thread) × (effect ≡ answer_effect thread call value)

le-false : (m n : ℕ) → n < m → nat_le m n ≡ false
le-false m n h = search rules

-- 0 is never an error
no-error : (which : Which) → is_error which 0 ≡ false
no-error (System number) = by (number == 222) (not (number == 214))
  where
    by : (a b : Bool) → cond a false (b && false) ≡ false
    by true b = refl
    by false true = refl
    by false false = refl
no-error (Function ThreadSelf) = refl
no-error (Function function) = refl
no-error (Atomic word) = refl

-- nor is what a system call moved
moved-few : (number : ℕ) (call : Call) (xs : List ℕ) → is_error (System number) (length (take (capped call.a2) xs)) ≡ false
moved-few number call xs =
    let few : length (take (capped call.a2) xs) ≤ 4096 = omega (arith, length-take (capped call.a2) xs) in
    by (number == 222) (not (number == 214)) _ _ (le-false (2 ^ 32 - 4095) (length (take (capped call.a2) xs)) (omega arith)) (grind (arith, length-take))
  where
    by : (a b c d : Bool) → c ≡ false → d ≡ false → cond a c (b && d) ≡ false
    by true b c d e f = e
    by false true c d e f = f
    by false false c d e f = refl

-- nor is an address of what may be given
mapped-low : (start count : ℕ) → nat_lt 0x51000000 (start + count) ≡ false → nat_le (2 ^ 32 - 4095) start ≡ false
mapped-low start count room =
    let most = at-most 0x51000000 (start + count) room in
    le-false (2 ^ 32 - 4095) start (omega arith)

module _ (setup : Setup) (kernel : Kernel) (thread : ℕ) (call : Call) where
  -- an answer that is no error
  fine : (value : ℕ) (after : Kernel) (effect : Effect) → effect.answer ≡ Some value → is_error call.which value ≡ false → Yields (Refuses kernel thread call) (Done after effect)
  fine value after effect is f = done (λ v e h. let same : Some value ≡ Some v = sym is ∙ e in let equal : value ≡ v = cc in absurd (true≢false (sym h ∙ (sym (ap (is_error call.which) equal) ∙ f))))

  refuses-of : {served : Served} → Shape setup kernel thread call served → Yields (Refuses kernel thread call) served
  refuses-of (says value) = done (λ v (e : Some value ≡ Some v) h. let same : value ≡ v = cc in (refl, ap (answer_effect thread call) same))
  refuses-of (reads number e xs h) = fine _ _ _ refl (ap (λ (w : Which). is_error w (length (take (capped call.a2) xs))) e ∙ moved-few number call xs)
  refuses-of (breaks e end) = fine end _ _ refl (ap (λ (w : Which). is_error w end) e)
  refuses-of (maps_more e some room) = fine (mapped_to kernel.given) _ _ refl (ap (λ (w : Which). is_error w (mapped_to kernel.given)) e ∙ mapped-low (mapped_to kernel.given) (in_pages call.a1) room)
  refuses-of (owns on fit owner) = fine 0 _ _ refl (no-error call.which)
  refuses-of (wakes ws w) = fine 0 _ _ refl (no-error call.which)
  refuses-of (parks_at w e h) = parked
  refuses-of (resumes w waiter e h) = fine 0 _ _ refl (no-error call.which)
  refuses-of (makes w f n) = fine 0 _ _ refl (no-error call.which)
  refuses-of (joins w value e h) = fine 0 _ _ refl (no-error call.which)
  refuses-of (leaves w) = done (λ value (e : None ≡ Some value) h. absurd (let f : None ≡ Some value = e in cc))
  refuses-of (of_word word value reserved e low store) = fine value _ _ refl (ap (λ (w : Which). is_error w value) e)
  refuses-of (waits w) = blocked
  refuses-of (stops status) = ends
  refuses-of (stops_last w) = ends

  pub error-alone : (after : Kernel) (effect : Effect) (value : ℕ) → serve setup kernel thread call ≡ Done after effect → effect.answer ≡ Some value → is_error call.which value ≡ true → (after ≡ released kernel thread) × (effect ≡ answer_effect thread call value)
  error-alone after effect value e = yields-done (Refuses kernel thread call) _ after effect (refuses-of (shape-of setup kernel thread call)) e value

pub ruleset error_law = (error-alone)
