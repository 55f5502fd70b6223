-- Wishes that are noted, one at a time.
use Rattle.std.proofs.Common.{◌≡◌, ◌≢◌, ℕ, zero, suc, ◌+◌, ◌<◌, ◌≤◌, List, [], ◌∷◌, ◌++◌, length, Option, Some, None, refl, sym, ap, ◌∙◌, subst, arith, inl, inr}
use Rattle.std.specs.Prelude.{◌⊎◌, slice_get, slice_set}
use Rattle.std.proofs.lemmas.Bool.{cases_eq}
use Rattle.std.proofs.lemmas.List.{length-set}
use Rattle.std.proofs.lemmas.Option.{slice_get_within}
use Rattle.arrayvec.specs.ArrayVec.{ArrayVec}
use Rattle.ro_kernel.proofs.Kept.{slice_get-set_other}
use Rattle.ro_legal.specs.Parts.{Whole}
use Rattle.ro_legal.proofs.Lists.{get-set-same, get-append-cases}
use Rattle.ro_core.specs.declared.wishing.Wish.{Wish}
use Rattle.ro_core.specs.Wishing.{wish_place, Changes, Forgives, ForgetsMisses}
use Rattle.ro_core.specs.Fields.{lent_at}

-- one is set
pub changes_set : (place : ℕ) (old : List Wish) (after : Wish) (f : Wish → Wish → Type 0) → ((wish : Wish) → slice_get old place ≡ Some wish → f wish after) → Changes place old (slice_set old place after) f
changes_set place old after f is = record {
  count = length-set old place after;
  others = λ other apart. slice_get-set_other old place other after (λ e. apart (sym e));
  its = λ wish there. (after, get-set-same old place wish after there, is wish there);
}

-- there is none at this place
pub changes_none : (place : ℕ) (old : List Wish) (f : Wish → Wish → Type 0) → length old ≤ place → Changes place old old f
changes_none place old f past = record {
  count = refl;
  others = λ other apart. refl;
  its = λ wish there. absurd (let n = slice_get_within old place wish there in omega arith);
}

-- ---- a vote

pub forgives_none : (thread : ℕ) (old : List Wish) → Forgives thread 0 old old
forgives_none thread old = record { count = refl; its = λ replica wish less there. absurd (omega arith); others = λ place apart. refl }

pub forgives_empty : (thread replicas : ℕ) (old : List Wish) → length old ≡ 0 → Forgives thread replicas old old
forgives_empty thread replicas old none = record {
  count = refl;
  its = λ replica wish less there. absurd (let n = slice_get_within old (wish_place replica thread) wish there in omega arith);
  others = λ place apart. refl;
}

pub forgives_more : (thread replicas : ℕ) (first old new : List Wish) → Forgives thread replicas first old → ForgetsMisses (wish_place replicas thread) old new → Forgives thread (replicas + 1) first new
forgives_more thread replicas first old new so one = record {
  count = one.count ∙ so.count;
  its = λ replica wish less there. by replica wish less there (cases_eq replica replicas);
  others = λ place apart. one.others place (apart replicas (omega arith)) ∙ so.others place (λ replica less. apart replica (omega arith));
}
  where
    by : (replica : ℕ) (wish : Wish) → replica < replicas + 1 → slice_get first (wish_place replica thread) ≡ Some wish → (replica ≡ replicas) ⊎ (replica ≢ replicas)
        → (after : Wish) × (slice_get new (wish_place replica thread) ≡ Some after) × (after.pages.items ≡ wish.pages.items) × (after.misses ≡ 0)
    by replica wish less there (inr apart) =
        let was = so.its replica wish (omega arith) there in
        (was.0, one.others (wish_place replica thread) (λ e. apart (omega arith)) ∙ was.1, was.2, was.3)
    by replica wish less there (inl e) =
        let here : slice_get first (wish_place replicas thread) ≡ Some wish = ap (λ (n : ℕ). slice_get first (wish_place n thread)) (sym e) ∙ there in
        let was : slice_get old (wish_place replicas thread) ≡ Some wish = so.others (wish_place replicas thread) (λ other small f. let g : wish_place replicas thread ≡ wish_place other thread = f in absurd (omega arith)) ∙ here in
        let now = one.its wish was in
        (now.0, ap (λ (n : ℕ). slice_get new (wish_place n thread)) e ∙ now.1, now.2.0, now.2.1)

-- ---- the opening

pub first_pushed : (wishes : List Wish) (last : Wish) → ((place : ℕ) (wish : Wish) → slice_get wishes place ≡ Some wish → (wish.pages.items ≡ []) × (wish.misses ≡ 0)) → (last.pages.items ≡ []) × (last.misses ≡ 0)
    → (place : ℕ) (wish : Wish) → slice_get (wishes ++ last ∷ []) place ≡ Some wish → (wish.pages.items ≡ []) × (wish.misses ≡ 0)
first_pushed wishes last each is place wish there = by (get-append-cases wishes last place wish there)
  where
    by : (slice_get wishes place ≡ Some wish) ⊎ ((place ≡ length wishes) × (last ≡ wish)) → (wish.pages.items ≡ []) × (wish.misses ≡ 0)
    by (inl e) = each place wish e
    by (inr e) = subst (λ (w : Wish). (w.pages.items ≡ []) × (w.misses ≡ 0)) e.1 is

pub whole_pushed : (lent : List (Option (ArrayVec ℕ))) → ((driver : ℕ) → lent_at lent driver ≡ Whole) → (driver : ℕ) → lent_at (lent ++ None ∷ []) driver ≡ Whole
whole_pushed [] each zero = refl
whole_pushed [] each (suc driver) = refl
whole_pushed (x ∷ lent) each zero = each zero
whole_pushed (x ∷ lent) each (suc driver) = whole_pushed lent (λ d. each (suc d)) driver

-- ---- what a lease has

pub lent_other : (lent : List (Option (ArrayVec ℕ))) (driver other : ℕ) (pages : Option (ArrayVec ℕ)) → other ≢ driver → lent_at (slice_set lent driver pages) other ≡ lent_at lent other
lent_other [] driver other pages apart = refl
lent_other (x ∷ lent) zero zero pages apart = absurd (apart refl)
lent_other (x ∷ lent) zero (suc other) pages apart = refl
lent_other (x ∷ lent) (suc driver) zero pages apart = refl
lent_other (x ∷ lent) (suc driver) (suc other) pages apart = lent_other lent driver other pages (λ e. apart (ap suc e))

pub lent_own : (lent : List (Option (ArrayVec ℕ))) (driver : ℕ) (pages : Option (ArrayVec ℕ)) → driver < length lent → lent_at (slice_set lent driver pages) driver ≡ lent_at (pages ∷ []) 0
lent_own [] driver pages less = absurd (omega arith)
lent_own (x ∷ lent) zero pages less = refl
lent_own (x ∷ lent) (suc driver) pages less = lent_own lent driver pages (omega arith)

pub lent_past : (lent : List (Option (ArrayVec ℕ))) (driver : ℕ) → length lent ≤ driver → lent_at lent driver ≡ Whole
lent_past [] driver past = refl
lent_past (x ∷ lent) zero past = absurd (omega arith)
lent_past (x ∷ lent) (suc driver) past = lent_past lent driver (omega arith)
