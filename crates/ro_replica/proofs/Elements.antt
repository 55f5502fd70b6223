-- Elements of lists that are changed in one place, and of lists that are filtered.
use Rattle.std.specs.Prelude.{◌≡◌, ℕ, zero, suc, ◌<◌, Bool, true, false, not, cond, List, [], ◌∷◌, length, Option, Some, None, slice_get, slice_set}
use Rattle.std.specs.List.{filter}
use Rattle.std.specs.Option.{option_map, option_and_then}
use Rattle.std.proofs.Common.{refl, sym, ap, ◌∙◌, arith}
use Rattle.ro_replica.specs.Replica.{changed_at}

-- the element that was changed
pub get_changed : {X : Type 0} (f : X → X) (xs : List X) (i : ℕ) → slice_get (changed_at f xs i) i ≡ option_map f (slice_get xs i)
get_changed f [] i = refl
get_changed f (x ∷ xs) zero = refl
get_changed f (x ∷ xs) (suc i) = get_changed f xs i

-- the element that was set
pub get_set : {X : Type 0} (xs : List X) (i : ℕ) (x y : X) → slice_get xs i ≡ Some x → slice_get (slice_set xs i y) i ≡ Some y
get_set [] i x y h = absurd (let e : None ≡ Some x = h in cc)
get_set (z ∷ xs) zero x y h = refl
get_set (z ∷ xs) (suc i) x y h = get_set xs i x y h

-- of one that is there, what the change makes
pub got_changed : {X Y : Type 0} (g : X → Option Y) (f : X → X) (y : Option Y) → ((x : X) → g (f x) ≡ y) → (xs : List X) (i : ℕ) → i < length xs → option_and_then g (slice_get (changed_at f xs i) i) ≡ y
got_changed g f y is [] i within = absurd (omega arith)
got_changed g f y is (x ∷ xs) zero within = is x
got_changed g f y is (x ∷ xs) (suc i) within = got_changed g f y is xs i (omega arith)

-- an element that is set to itself
pub set_itself : {X : Type 0} (xs : List X) (i : ℕ) (x : X) → slice_get xs i ≡ Some x → slice_set xs i x ≡ xs
set_itself [] i x h = refl
set_itself (z ∷ xs) zero x h = let e : z ≡ x = cc in ap {B = List _} (λ w. w ∷ xs) (sym e)
set_itself (z ∷ xs) (suc i) x h = ap {B = List _} (λ r. z ∷ r) (set_itself xs i x h)

-- a change in one place sets that element
pub changed_is_set : {X : Type 0} (f : X → X) (xs : List X) (i : ℕ) (x : X) → slice_get xs i ≡ Some x → changed_at f xs i ≡ slice_set xs i (f x)
changed_is_set f [] i x h = refl
changed_is_set f (y ∷ xs) zero x h = let e : y ≡ x = cc in ap {B = List _} (λ z. f z ∷ xs) e
changed_is_set f (y ∷ xs) (suc i) x h = ap {B = List _} (λ r. y ∷ r) (changed_is_set f xs i x h)

-- and a change of an element that was set is another one
pub changed_of_set : {X : Type 0} (f : X → X) (xs : List X) (i : ℕ) (x : X) → changed_at f (slice_set xs i x) i ≡ slice_set xs i (f x)
changed_of_set f [] i x = refl
changed_of_set f (y ∷ xs) zero x = refl
changed_of_set f (y ∷ xs) (suc i) x = ap {B = List _} (λ r. y ∷ r) (changed_of_set f xs i x)

-- another element than the one that was set
pub get_set_other : {X : Type 0} (xs : List X) (i j : ℕ) (x : X) → (i ≡ j → ⊥) → slice_get (slice_set xs i x) j ≡ slice_get xs j
get_set_other [] i j x apart = refl
get_set_other (y ∷ xs) zero zero x apart = absurd (apart refl)
get_set_other (y ∷ xs) zero (suc j) x apart = refl
get_set_other (y ∷ xs) (suc i) zero x apart = refl
get_set_other (y ∷ xs) (suc i) (suc j) x apart = get_set_other xs i j x (λ e. apart (ap suc e))

pub set_twice : {X : Type 0} (xs : List X) (i : ℕ) (x y : X) → slice_set (slice_set xs i x) i y ≡ slice_set xs i y
set_twice [] i x y = refl
set_twice (z ∷ xs) zero x y = refl
set_twice (z ∷ xs) (suc i) x y = ap {B = List _} (λ r. z ∷ r) (set_twice xs i x y)

-- lists that have the same at each place are the same
pub same_by_places : {X : Type 0} (xs ys : List X) → ((i : ℕ) → slice_get xs i ≡ slice_get ys i) → xs ≡ ys
same_by_places [] [] h = refl
same_by_places [] (y ∷ ys) h = absurd (let e : None ≡ Some y = h 0 in cc)
same_by_places (x ∷ xs) [] h = absurd (let e : Some x ≡ None = h 0 in cc)
same_by_places (x ∷ xs) (y ∷ ys) h =
    let first : Some x ≡ Some y = h 0 in
    let e : x ≡ y = cc in
    ap {B = List _} (λ z. z ∷ xs) e ∙ ap {B = List _} (λ r. y ∷ r) (same_by_places xs ys (λ i. h (suc i)))

-- what was left out is not found again
pub filter_other : {X : Type 0} (p : X → Bool) (xs : List X) → filter p (filter (λ x. not (p x)) xs) ≡ []
filter_other p [] = refl
filter_other p (x ∷ xs) = by (p x) refl (filter_other p xs)
  where
    by : (b : Bool) → p x ≡ b → filter p (filter (λ x. not (p x)) xs) ≡ [] → filter p (cond (not b) (x ∷ filter (λ x. not (p x)) xs) (filter (λ x. not (p x)) xs)) ≡ []
    by true e h = h
    by false e h = rw e h

-- where nothing is found nothing is left out
pub filter_none : {X : Type 0} (p : X → Bool) (xs : List X) → filter p xs ≡ [] → filter (λ x. not (p x)) xs ≡ xs
filter_none p [] h = refl
filter_none p (x ∷ xs) h = by (p x) (filter_none p xs) h
  where
    by : (b : Bool) → (filter p xs ≡ [] → filter (λ x. not (p x)) xs ≡ xs) → cond b (x ∷ filter p xs) (filter p xs) ≡ [] → cond (not b) (x ∷ filter (λ x. not (p x)) xs) (filter (λ x. not (p x)) xs) ≡ x ∷ xs
    by true rest g = absurd (cc)
    by false rest g = ap {B = List _} (λ r. x ∷ r) (rest g)
