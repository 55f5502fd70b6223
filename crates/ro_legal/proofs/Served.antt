-- What a served call leaves as it is: dead threads stay dead, one life for each thread, the caller goes on, and the program ends by an exit only.
use Rattle.std.specs.Prelude.{◌≡◌, ◌≢◌, ℕ, zero, suc, ◌+◌, ◌<◌, true, false, List, [], ◌∷◌, ◌++◌, length, Option, Some, None, slice_get, slice_set}
use Rattle.std.proofs.Common.{refl, sym, ap, ◌∙◌, subst, arith, ⊎_elim, length-append}
use Rattle.std.proofs.lemmas.Bool.{false≢true, cases_eq}
use Rattle.std.proofs.lemmas.List.{length-set}
use Rattle.ro_event.specs.declared.calls.Call.{Call}
use Rattle.ro_event.specs.declared.effects.Made.{Made}
use Rattle.ro_event.specs.Effects.{Effect}
use Rattle.ro_journal.specs.declared.How.{How}
use Rattle.ro_mutex.specs.Owners.{with_owner}
use Rattle.ro_condition.specs.Waiters.{without}
use Rattle.ro_kernel.specs.declared.Life.{Life}
use Rattle.ro_kernel.specs.declared.Life.TheVariants.{Live, Exited, Joined}
use Rattle.ro_kernel.specs.Kernel.{Setup, Kernel, released, is_live, live_option, lives_on}
use Rattle.ro_kernel.specs.Serve.{Served, Done, Parked, Blocked, Ends, answers, serve}
use Rattle.ro_kernel.proofs.Kept.{slice_get-set_other}
use Rattle.ro_legal.specs.Sound.{IsOver, exits}
use Rattle.ro_kernel.proofs.Shapes.{Shape, says, reads, breaks, maps_more, owns, wakes, parks_at, resumes, makes, joins, leaves, of_word, waits, stops, stops_last, shape-of}

-- how many threads an effect makes
abbrev pub made_count : Option Made → ℕ
made_count None = 0
made_count (Some made) = 1

-- what a served call leaves
pub record IsTidy (before : Kernel) (u : ℕ) (after : Kernel) (effect : Effect) : Type 0 where
  pub one_life_each : length after.lives ≡ length before.lives + made_count effect.made
  pub stays_dead : (t : ℕ) → t ≢ u → t < length before.lives → lives_on after t ≡ true → lives_on before t ≡ true
  pub goes_on : effect.releases ≡ true

-- whatever comes of a call
pub data Tidy (before : Kernel) (u : ℕ) : Served → Type 0 where
  tidy_done : {after : Kernel} {effect : Effect} → IsTidy before u after effect → Tidy before u (Done after effect)
  tidy_parked : {after : Kernel} → Tidy before u (Parked after)
  tidy_blocked : Tidy before u Blocked
  tidy_end : {after : Kernel} {how : How} → length after.lives ≡ length before.lives → IsOver how → Tidy before u (Ends after how)

-- none is added
add-none : (n : ℕ) → n ≡ n + 0
add-none n = omega arith

-- an answer that leaves the lives
tidy-answers : (before after : Kernel) (u : ℕ) (call : Call) (value : ℕ) → before.lives ≡ after.lives → Tidy before u (answers after u call value)
tidy-answers before after u call value same = tidy_done (record {
  one_life_each = ap length (sym same) ∙ add-none (length before.lives);
  stays_dead = λ t d short h. subst (λ (l : List Life). live_option (slice_get l t) ≡ true) (sym same) h;
  goes_on = refl;
})

-- an old element of a longer list
get-append-short : {X : Type 0} (xs ys : List X) (i : ℕ) → i < length xs → slice_get (xs ++ ys) i ≡ slice_get xs i
get-append-short [] ys i h = absurd (omega arith)
get-append-short (x ∷ xs) ys zero h = refl
get-append-short (x ∷ xs) ys (suc i) h = get-append-short xs ys i (omega arith)

-- the element that is set, if it is there
get-set-at : {X : Type 0} (xs : List X) (i : ℕ) (x : X) (P : Option X → Type 0) → P None → P (Some x) → P (slice_get (slice_set xs i x) i)
get-set-at [] i x P n s = n
get-set-at (y ∷ xs) zero x P n s = s
get-set-at (y ∷ xs) (suc i) x P n s = get-set-at xs i x P n s

module _ (setup : Setup) (kernel : Kernel) (u : ℕ) (call : Call) where
  -- a life that is set to another one than live
  set-dead : (place t : ℕ) (life : Life) → is_live life ≡ false → lives_on (record kernel { lives = slice_set kernel.lives place life }) t ≡ true → lives_on kernel t ≡ true
  set-dead place t life dead h =
      ⊎_elim
      (λ same. absurd (false≢true (sym (subst (λ (i : ℕ). live_option (slice_get (slice_set kernel.lives place life) i) ≡ false) (sym same) (get-set-at kernel.lives place life (λ o. live_option o ≡ false) refl dead)) ∙ h)))
      (λ other. ap live_option (sym (slice_get-set_other kernel.lives place t life (λ f. other (sym f)))) ∙ h)
      (cases_eq t place)

  tidy-of : {served : Served} → Shape setup kernel u call served → Tidy kernel u served
  tidy-of (says value) = tidy-answers kernel (released kernel u) u call value refl
  tidy-of (reads number e xs h) = tidy_done (record { one_life_each = add-none (length kernel.lives); stays_dead = λ t d short h. h; goes_on = refl })
  tidy-of (breaks e end) = tidy-answers kernel (record (released kernel u) { heap_end = end }) u call end refl
  tidy-of (maps_more e some room) = tidy_done (record { one_life_each = add-none (length kernel.lives); stays_dead = λ t d short h. h; goes_on = refl })
  tidy-of (owns on fit owner) = tidy-answers kernel (record (released kernel u) { owners = with_owner kernel.owners call.a0 owner }) u call 0 refl
  tidy-of (wakes ws w) = tidy-answers kernel (record (released kernel u) { waiters = ws }) u call 0 refl
  tidy-of (parks_at w e h) = tidy_parked
  tidy-of (resumes w waiter e h) = tidy-answers kernel (record (released kernel u) { owners = with_owner kernel.owners call.a1 (Some u); waiters = without kernel.waiters u }) u call 0 refl
  tidy-of (makes w f n) = tidy_done (record {
    one_life_each = length-append kernel.lives (Live ∷ []);
    stays_dead = λ t d short h. ap live_option (sym (get-append-short kernel.lives (Live ∷ []) t short)) ∙ h;
    goes_on = refl;
  })
  tidy-of (joins w value e h) = tidy_done (record {
    one_life_each = length-set kernel.lives call.a0 Joined ∙ add-none (length kernel.lives);
    stays_dead = λ t d short h. set-dead call.a0 t Joined refl h;
    goes_on = refl;
  })
  tidy-of (leaves w) = tidy_done (record {
    one_life_each = length-set kernel.lives u (Exited call.a0) ∙ add-none (length kernel.lives);
    stays_dead = λ t d short h. set-dead u t (Exited call.a0) refl h;
    goes_on = refl;
  })
  tidy-of (of_word word value reserved e low store) = tidy_done (record { one_life_each = add-none (length kernel.lives); stays_dead = λ t d short h. h; goes_on = refl })
  tidy-of (waits w) = tidy_blocked
  tidy-of (stops status) = tidy_end refl exits
  tidy-of (stops_last w) = tidy_end (length-set kernel.lives u (Exited call.a0)) exits

  -- what comes of a call
  pub serve-tidy : Tidy kernel u (serve setup kernel u call)
  serve-tidy = tidy-of (shape-of setup kernel u call)
