-- Elements of lists that are changed in one place, filtered, mapped or made longer.
use Rattle.std.specs.Prelude.{◌≡◌, ◌≢◌, ℕ, zero, suc, Bool, true, false, cond, ◌||◌, ◌==◌, List, [], ◌∷◌, ◌++◌, length, map, Option, Some, None, is_some, slice_get, slice_set}
use Rattle.std.specs.List.{filter, list_all, list_any, filter_map, cons_option}
use Rattle.std.proofs.Common.{refl, sym, ap, ◌∙◌, arith}
use Rattle.std.proofs.lemmas.Bool.{true≢false, and_parts, and_from, or_parts, eq-eqb}
use Rattle.ro_journal.specs.declared.losers.Lost.{Lost}
use Rattle.ro_journal.specs.declared.losers.Lost.TheVariants.{One, Two}
use Rattle.ro_journal.specs.Losers.{numbers}
use Rattle.ro_vote.specs.Numbers.{is_among}
use Rattle.ro_plain.proofs.Calls.{some-injective}
pub use Rattle.ro_plain.proofs.Places.{get-within, get-set-same, get-set-cases, get-append-cases}
use Rattle.ro_replica.specs.Replica.{changed_at}
use Rattle.ro_legal.specs.Sound.{Listed}

-- setting an element to itself changes nothing
pub set-same : {X : Type 0} (xs : List X) (i : ℕ) (x : X) → slice_get xs i ≡ Some x → slice_set xs i x ≡ xs
set-same [] i x h = refl
set-same (z ∷ xs) zero x h = ap {B = List _} (λ w. w ∷ xs) (some-injective (sym h))
set-same (z ∷ xs) (suc i) x h = ap {B = List _} (λ r. z ∷ r) (set-same xs i x h)

-- the last element
pub get-append-last : {X : Type 0} (xs : List X) (y : X) → slice_get (xs ++ y ∷ []) (length xs) ≡ Some y
get-append-last [] y = refl
get-append-last (x ∷ xs) y = get-append-last xs y

-- an element of a mapped list
pub record MappedFrom {X Y : Type 0} (f : X → Y) (xs : List X) (i : ℕ) (y : Y) : Type 0 where
  pub from : X
  pub there : slice_get xs i ≡ Some from
  pub gives : f from ≡ y

-- an element of a mapped list comes from one
pub get-map : {X Y : Type 0} (f : X → Y) (xs : List X) (i : ℕ) (y : Y) → slice_get (map f xs) i ≡ Some y → MappedFrom f xs i y
get-map f [] i y h = absurd (let e : None ≡ Some y = h in cc)
get-map f (x ∷ xs) zero y h = record { from = x; there = refl; gives = some-injective h }
get-map f (x ∷ xs) (suc i) y h =
    let m = get-map f xs i y h in record { from = m.from; there = m.there; gives = m.gives }

-- each element is mapped
pub get-map-there : {X Y : Type 0} (f : X → Y) (xs : List X) (i : ℕ) (x : X) → slice_get xs i ≡ Some x → slice_get (map f xs) i ≡ Some (f x)
get-map-there f [] i x h = absurd (let e : None ≡ Some x = h in cc)
get-map-there f (y ∷ xs) zero x h = ap (λ z. Some (f z)) (some-injective h)
get-map-there f (y ∷ xs) (suc i) x h = get-map-there f xs i x h

-- a mapped list is as long
pub length-mapped : {X Y : Type 0} (f : X → Y) (xs : List X) → length (map f xs) ≡ length xs
length-mapped f [] = refl
length-mapped f (x ∷ xs) = ap suc (length-mapped f xs)

-- an element of a list that is changed in one place
pub data ChangedFrom {X : Type 0} (f : X → X) (xs : List X) (t i : ℕ) (y : X) : Type 0 where
  unchanged : i ≢ t → slice_get xs i ≡ Some y → ChangedFrom f xs t i y
  changed_here : (x : X) → i ≡ t → slice_get xs i ≡ Some x → f x ≡ y → ChangedFrom f xs t i y

-- an element of the changed list
pub get-changed : {X : Type 0} (f : X → X) (xs : List X) (t i : ℕ) (y : X) → slice_get (changed_at f xs t) i ≡ Some y → ChangedFrom f xs t i y
get-changed f [] t i y h = absurd (let e : None ≡ Some y = h in cc)
get-changed f (x ∷ xs) zero zero y h = changed_here x refl refl (some-injective h)
get-changed f (x ∷ xs) zero (suc i) y h = unchanged (λ (e : suc i ≡ 0). omega arith) h
get-changed f (x ∷ xs) (suc t) zero y h = unchanged (λ (e : 0 ≡ suc t). omega arith) h
get-changed f (x ∷ xs) (suc t) (suc i) y h = by (get-changed f xs t i y h)
  where
    by : ChangedFrom f xs t i y → ChangedFrom f (x ∷ xs) (suc t) (suc i) y
    by (unchanged d e) = unchanged (λ (g : suc i ≡ suc t). d (omega arith)) e
    by (changed_here z e g k) = changed_here z (ap suc e) g k

-- every other element stays
pub changed-other : {X : Type 0} (f : X → X) (xs : List X) (t i : ℕ) → i ≢ t → slice_get (changed_at f xs t) i ≡ slice_get xs i
changed-other f [] t i d = refl
changed-other f (x ∷ xs) zero zero d = absurd (d refl)
changed-other f (x ∷ xs) zero (suc i) d = refl
changed-other f (x ∷ xs) (suc t) zero d = refl
changed-other f (x ∷ xs) (suc t) (suc i) d = changed-other f xs t i (λ e. d (ap suc e))

-- a change in one place sets that element
pub changed-is-set : {X : Type 0} (f : X → X) (xs : List X) (t : ℕ) (x : X) → slice_get xs t ≡ Some x → changed_at f xs t ≡ slice_set xs t (f x)
changed-is-set f [] t x h = refl
changed-is-set f (y ∷ xs) zero x h = ap {B = List _} (λ z. f z ∷ xs) (some-injective h)
changed-is-set f (y ∷ xs) (suc t) x h = ap {B = List _} (λ r. y ∷ r) (changed-is-set f xs t x h)

-- a changed list is as long
pub length-changed : {X : Type 0} (f : X → X) (xs : List X) (t : ℕ) → length (changed_at f xs t) ≡ length xs
length-changed f [] t = refl
length-changed f (x ∷ xs) zero = refl
length-changed f (x ∷ xs) (suc t) = ap suc (length-changed f xs t)

-- a filter of one element more
filtered-cons : {X : Type 0} (p : X → Bool) (y : X) (xs : List X) (x : X) → (Listed (filter p xs) x → Listed xs x × (p x ≡ true)) → (b : Bool) → p y ≡ b → Listed (cond b (y ∷ filter p xs) (filter p xs)) x → Listed (y ∷ xs) x × (p x ≡ true)
filtered-cons p y xs x rec false e k = let r = rec k in ((suc r.0.0, r.0.1), r.1)
filtered-cons p y xs x rec true e (zero, k) = ((0, k), ap p (some-injective (sym k)) ∙ e)
filtered-cons p y xs x rec true e (suc i, k) = let r = rec (i, k) in ((suc r.0.0, r.0.1), r.1)

-- what a filter leaves was in the list and passes
pub listed-filter : {X : Type 0} (p : X → Bool) (xs : List X) (x : X) → Listed (filter p xs) x → Listed xs x × (p x ≡ true)
listed-filter p [] x h = absurd (let e : None ≡ Some x = h.1 in cc)
listed-filter p (y ∷ xs) x h = filtered-cons p y xs x (listed-filter p xs x) (p y) refl h

-- the same with one element more
filter-map-cons : {X Y : Type 0} (f : X → Option Y) (z : X) (xs : List X) (x : X) (o : Option Y) → is_some o ≡ true → f z ≡ o → ((i : ℕ) → slice_get xs i ≡ Some x → slice_get (filter_map f xs) i ≡ f x) → (i : ℕ) → slice_get (z ∷ xs) i ≡ Some x → slice_get (cons_option o (filter_map f xs)) i ≡ f x
filter-map-cons f z xs x None k e rec i h = absurd (true≢false (sym k))
filter-map-cons f z xs x (Some y) k e rec zero h = sym e ∙ ap f (some-injective h)
filter-map-cons f z xs x (Some y) k e rec (suc i) h = rec i h

-- where a function gives something of each element, the list of what it gives goes along with the elements
pub get-filter-map : {X Y : Type 0} (f : X → Option Y) (xs : List X) → list_all (λ x. is_some (f x)) xs ≡ true → (i : ℕ) (x : X) → slice_get xs i ≡ Some x → slice_get (filter_map f xs) i ≡ f x
get-filter-map f [] all i x h = absurd (let e : None ≡ Some x = h in cc)
get-filter-map f (z ∷ xs) all i x h =
    let parts = and_parts _ _ all in
    filter-map-cons f z xs x (f z) parts.0 refl (λ j k. get-filter-map f xs parts.1 j x k) i h

-- its length with one element more
filter-map-length-cons : {X Y : Type 0} (f : X → Option Y) (xs : List X) (o : Option Y) → is_some o ≡ true → length (filter_map f xs) ≡ length xs → length (cons_option o (filter_map f xs)) ≡ suc (length xs)
filter-map-length-cons f xs None k e = absurd (true≢false (sym k))
filter-map-length-cons f xs (Some y) k e = ap suc e

-- then they are as many
pub length-filter-map : {X Y : Type 0} (f : X → Option Y) (xs : List X) → list_all (λ x. is_some (f x)) xs ≡ true → length (filter_map f xs) ≡ length xs
length-filter-map f [] all = refl
length-filter-map f (z ∷ xs) all =
    let parts = and_parts _ _ all in filter-map-length-cons f xs (f z) parts.0 (length-filter-map f xs parts.1)

-- what passes in a whole list passes at each place
pub get-all : {X : Type 0} (p : X → Bool) (xs : List X) → list_all p xs ≡ true → (i : ℕ) (x : X) → slice_get xs i ≡ Some x → p x ≡ true
get-all p [] h i x e = absurd (let f : None ≡ Some x = e in cc)
get-all p (y ∷ xs) h zero x e = ap p (some-injective (sym e)) ∙ (and_parts _ _ h).0
get-all p (y ∷ xs) h (suc i) x e = get-all p xs (and_parts _ _ h).1 i x e

-- what passes at each place passes in the whole
pub all-from : {X : Type 0} (p : X → Bool) (xs : List X) → ((i : ℕ) (x : X) → slice_get xs i ≡ Some x → p x ≡ true) → list_all p xs ≡ true
all-from p [] h = refl
all-from p (y ∷ xs) h = and_from _ _ (h 0 y refl) (all-from p xs (λ i x e. h (suc i) x e))

-- where none passes in the whole, none passes at a place
pub get-none : {X : Type 0} (p : X → Bool) (xs : List X) → list_any p xs ≡ false → (i : ℕ) (x : X) → slice_get xs i ≡ Some x → p x ≡ false
get-none p [] h i x e = absurd (let f : None ≡ Some x = e in cc)
get-none p (y ∷ xs) h zero x e = ap p (some-injective (sym e)) ∙ (or_parts _ _ h).0
get-none p (y ∷ xs) h (suc i) x e = get-none p xs (or_parts _ _ h).1 i x e

-- where none passes at any place, none passes in the whole
pub none-from : {X : Type 0} (p : X → Bool) (xs : List X) → ((i : ℕ) (x : X) → slice_get xs i ≡ Some x → p x ≡ false) → list_any p xs ≡ false
none-from p [] h = refl
none-from p (y ∷ xs) h = ap (λ (b : Bool). b || list_any p xs) (h 0 y refl) ∙ none-from p xs (λ i x e. h (suc i) x e)

-- ---- lists of one or two numbers

pub only-among : (lost : Lost) (n : ℕ) → lost ≡ One n → is_among (numbers lost) n ≡ true
only-among lost n e = ap (λ (l : Lost). is_among (numbers l) n) e ∙ ap (λ (b : Bool). b || false) (eq-eqb n n refl)

pub first-among : (lost : Lost) (m n : ℕ) → lost ≡ Two m n → is_among (numbers lost) m ≡ true
first-among lost m n e = ap (λ (l : Lost). is_among (numbers l) m) e ∙ ap (λ (b : Bool). b || is_among (n ∷ []) m) (eq-eqb m m refl)

pub second-among : (lost : Lost) (m n : ℕ) → lost ≡ Two m n → is_among (numbers lost) n ≡ true
second-among lost m n e = ap (λ (l : Lost). is_among (numbers l) n) e ∙ by (m == n) (ap (λ (b : Bool). b || false) (eq-eqb n n refl))
  where
    by : (b : Bool) {c : Bool} → c ≡ true → (b || c) ≡ true
    by true f = refl
    by false f = f
