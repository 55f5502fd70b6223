-- Setting an owner changes the owner of that address alone, and an address that is not in the table comes to its end.
use Rattle.std.specs.Prelude.{◌≡◌, ◌≢◌, ℕ, Bool, true, false, cond, [], ◌∷◌, ◌++◌, Option, Some, None, ◌==◌}
use Rattle.std.proofs.Common.{refl, sym, ap, ◌∙◌}
use Rattle.std.proofs.lemmas.Bool.{eqb-true, eq-eqb}
use Rattle.ro_mutex.specs.Owners.{Owners, owner_of, with_owner}

unset : (b : Bool) → (b ≡ true → ⊥) → b ≡ false
unset true h = absurd (h refl)
unset false h = refl

differs : (a b : ℕ) → b ≢ a → (a == b) ≡ false
differs a b h = unset (a == b) (λ e. h (sym (eqb-true a b e)))

first : (address : ℕ) (owner : Option ℕ) (owners : Owners) → owner_of ((address, owner) ∷ owners) address ≡ Some owner
first address owner owners = ap (λ b. cond b (Some owner) (owner_of owners address)) (eq-eqb address address refl)

later : (address other : ℕ) (owner : Option ℕ) (owners : Owners) → other ≢ address → owner_of ((address, owner) ∷ owners) other ≡ owner_of owners other
later address other owner owners h = ap (λ b. cond b (Some owner) (owner_of owners other)) (differs address other h)

given-cons : (e : ℕ × Option ℕ) (owners : Owners) (address : ℕ) (owner : Option ℕ) (b : Bool) → (e.0 == address) ≡ b
    → owner_of (with_owner owners address owner) address ≡ Some owner → owner_of (cond b ((address, owner) ∷ owners) (e ∷ with_owner owners address owner)) address ≡ Some owner
given-cons e owners address owner true h rest = first address owner owners
given-cons e owners address owner false h rest =
    ap (λ b. cond b (Some e.1) (owner_of (with_owner owners address owner) address)) h ∙ rest

pub owner_of-given : (owners : Owners) (address : ℕ) (owner : Option ℕ) → owner_of (with_owner owners address owner) address ≡ Some owner
owner_of-given [] address owner = first address owner []
owner_of-given (e ∷ owners) address owner = given-cons e owners address owner (e.0 == address) refl (owner_of-given owners address owner)

other-cons : (e : ℕ × Option ℕ) (owners : Owners) (address other : ℕ) (owner : Option ℕ) (b : Bool) → (e.0 == address) ≡ b → other ≢ address
    → owner_of (with_owner owners address owner) other ≡ owner_of owners other
    → owner_of (cond b ((address, owner) ∷ owners) (e ∷ with_owner owners address owner)) other ≡ owner_of (e ∷ owners) other
other-cons e owners address other owner true h different rest =
    later address other owner owners different
    ∙ sym (ap (λ b. cond b (Some e.1) (owner_of owners other)) (differs e.0 other (λ q. different (q ∙ eqb-true e.0 address h))))
other-cons e owners address other owner false h different rest = ap (λ r. cond (e.0 == other) (Some e.1) r) rest

pub owner_of-other : (owners : Owners) (address other : ℕ) (owner : Option ℕ) → other ≢ address → owner_of (with_owner owners address owner) other ≡ owner_of owners other
owner_of-other [] address other owner different = later address other owner [] different
owner_of-other (e ∷ owners) address other owner different =
    other-cons e owners address other owner (e.0 == address) refl different (owner_of-other owners address other owner different)

pub ruleset one_owner = (owner_of-given, owner_of-other)

last-cons : (e : ℕ × Option ℕ) (owners : Owners) (address : ℕ) (owner : Option ℕ) (b : Bool) → cond b (Some e.1) (owner_of owners address) ≡ None
    → (owner_of owners address ≡ None → with_owner owners address owner ≡ owners ++ (address, owner) ∷ [])
    → cond b ((address, owner) ∷ owners) (e ∷ with_owner owners address owner) ≡ e ∷ owners ++ (address, owner) ∷ []
last-cons e owners address owner true h rest = absurd (let f : Some e.1 ≡ None = h in cc)
last-cons e owners address owner false h rest = ap (λ (r : Owners). e ∷ r) (rest h)

pub comes-last : (owners : Owners) (address : ℕ) (owner : Option ℕ) → owner_of owners address ≡ None → with_owner owners address owner ≡ owners ++ (address, owner) ∷ []
comes-last [] address owner h = refl
comes-last (e ∷ owners) address owner h = last-cons e owners address owner (e.0 == address) h (comes-last owners address owner)

pub ruleset at_the_end = (comes-last)
