-- The map's words and the owners' say the same.
use Rattle.std.specs.Prelude.{◌≡◌, ℕ, ◌+◌, ◌≤◌, Bool, true, false, cond, [], ◌∷◌, Option, Some, None, is_some, ◌==◌, nat_eq, position}
use Rattle.std.proofs.Common.{refl, sym, ap, subst, ◌∙◌}
use Rattle.std.proofs.lemmas.Bool.{false≢true, eqb-true, eq-eqb}
use Rattle.std.specs.List.{IsDistinct}
use Rattle.std.specs.Map.{keys_of, lookup}
use Rattle.indexmap.specs.IndexMap.{IndexMap, insert_entry, set_value_at, with_value_at, index_map_len, spare, IsUnique}
use Rattle.indexmap.proofs.CallerLemmas.{keys-with_value_at, index_map_len-with_value_at}
use Rattle.indexmap.proofs.MapLemmas.{Found-position, insert_entry-first}
use Rattle.ro_mutex.specs.Owners.{Owners, owner_of, with_owner}

eqb-flip : (a b : ℕ) → (a == b) ≡ (b == a)
eqb-flip a b = by (a == b) (b == a) refl refl
  where
    by : (x y : Bool) → (a == b) ≡ x → (b == a) ≡ y → x ≡ y
    by true true p q = refl
    by false false p q = refl
    by true false p q = sym (eq-eqb b a (sym (eqb-true a b p))) ∙ q
    by false true p q = sym p ∙ eq-eqb a b (sym (eqb-true b a q))

-- the owner is what the map has at the address
pub owner_of-lookup : (owners : Owners) (address : ℕ) → owner_of owners address ≡ lookup (nat_eq address) owners
owner_of-lookup [] address = refl
owner_of-lookup (e ∷ owners) address =
    (λ i. cond (eqb-flip e.0 address i) (Some e.1) (owner_of-lookup owners address i))

-- an entry takes the owner, or one is added
pub with_owner-insert : (owners : Owners) (address : ℕ) (owner : Option ℕ) → with_owner owners address owner ≡ insert_entry nat_eq owners address owner
with_owner-insert [] address owner = refl
with_owner-insert (e ∷ owners) address owner = by (with_owner-insert owners address owner) (e.0 == address) refl
  where
    by : with_owner owners address owner ≡ insert_entry nat_eq owners address owner → (b : Bool) → (e.0 == address) ≡ b → with_owner (e ∷ owners) address owner ≡ insert_entry nat_eq (e ∷ owners) address owner
    by rest true h =
        ap (λ b. cond b ((address, owner) ∷ owners) (e ∷ with_owner owners address owner)) h
        ∙ (ap (λ (a : ℕ). (a, owner) ∷ owners) (sym (eqb-true e.0 address h))
        ∙ sym (ap (λ b. cond b ((e.0, owner) ∷ owners) (e ∷ insert_entry nat_eq owners address owner)) (eqb-flip address e.0 ∙ h)))
    by rest false h =
        ap (λ b. cond b ((address, owner) ∷ owners) (e ∷ with_owner owners address owner)) h
        ∙ (ap (λ (r : Owners). e ∷ r) rest
        ∙ sym (ap (λ b. cond b ((e.0, owner) ∷ owners) (e ∷ insert_entry nat_eq owners address owner)) (eqb-flip address e.0 ∙ h)))

-- where the address has a place, the owner there changes
pub with_owner-there : (owners : Owners) (address place : ℕ) (owner : Option ℕ) → position (nat_eq address) (keys_of owners) ≡ Some place → with_owner owners address owner ≡ set_value_at owners place owner
with_owner-there owners address place owner h =
    with_owner-insert owners address owner ∙ insert_entry-first nat_eq address owner owners place (Found-position (nat_eq address) owners place h).first

-- an address that is no key is not in the table
pub owner_of-absent : (owners : Owners) (address : ℕ) → false ≡ is_some (lookup (nat_eq address) owners) → owner_of owners address ≡ None
owner_of-absent owners address h = owner_of-lookup owners address ∙ absent (lookup (nat_eq address) owners) h
  where
    absent : (o : Option (Option ℕ)) → false ≡ is_some o → o ≡ None
    absent None h = refl
    absent (Some x) h = absurd (false≢true h)

-- a new owner of an address leaves the number of addresses, the room and that they are distinct
pub keeps-with_value_at : {S : Type 0} (m : IndexMap ℕ (Option ℕ) S) (place : ℕ) (owner : Option ℕ)
    → (index_map_len m ≤ 256) × (256 ≤ index_map_len m + spare m) × IsUnique nat_eq m
    → (index_map_len (with_value_at m place owner) ≤ 256) × (256 ≤ index_map_len (with_value_at m place owner) + spare m) × IsUnique nat_eq (with_value_at m place owner)
keeps-with_value_at m place owner h =
    let len = sym (index_map_len-with_value_at m place owner) in
    (subst (λ n. n ≤ 256) len h.0, subst (λ n. 256 ≤ n + spare m) len h.1, subst (IsDistinct nat_eq) (sym (keys-with_value_at m place owner)) h.2)

pub ruleset of_owners = (owner_of-lookup, with_owner-insert, with_owner-there, owner_of-absent)
