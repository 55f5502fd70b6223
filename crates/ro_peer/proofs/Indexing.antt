-- Mutexes by the keys of a map and by their addresses.
use Rattle.std.specs.Prelude.{◌≡◌, ℕ, zero, suc, ◌+◌, ◌<◌, ◌≤◌, Bool, true, false, cond, is_some, ◌==◌, List, [], ◌∷◌, ◌++◌, length, position, Option, Some, None, nat_eq, slice_get, OnOk, IsOk}
use Rattle.std.specs.Option.{option_map}
use Rattle.std.specs.List.{position_from}
use Rattle.std.specs.Map.{keys_of, values_of, lookup}
use Rattle.std.proofs.Common.{Result, Ok, Err, refl, sym, ap, ◌∙◌, subst, arith, eqb-true, eq-eqb, ne_eqb}
use Rattle.std.proofs.lemmas.Iterator.Adapters.{position_from-zero}
use Rattle.indexmap.specs.IndexMap.{IndexMap, values, index_map_len, spare, insert_entry, set_value_at, with_value_at}
use Rattle.indexmap.proofs.CallerLemmas.{insert_entry-new, index_map_len-with_value_at}
use Rattle.indexmap.proofs.MapLemmas.{some_index}
use Rattle.ro_replica.specs.Replica.{changed_at}
use Rattle.ro_peer.specs.declared.mutexes.Mutex.{Mutex}
use Rattle.ro_peer.specs.Peers.{mutex_after}
use Rattle.ro_peer.specs.Seen.{number_of}
use Rattle.ro_peer.specs.Indexed.{IsIndexed}
use Rattle.ro_peer.proofs.Places.{after_address}

abbrev pub Entries : Type 0
Entries = List (ℕ × Mutex)

-- ---- keys and values of entries

length_keys : (entries : Entries) → length (keys_of entries) ≡ length entries
length_keys [] = refl
length_keys (e ∷ entries) = ap suc (length_keys entries)

pub length_values : (entries : Entries) → length (values_of entries) ≡ length entries
length_values [] = refl
length_values (e ∷ entries) = ap suc (length_values entries)

length_more : (entries : Entries) (e : ℕ × Mutex) → length (entries ++ e ∷ []) ≡ suc (length entries)
length_more [] e = refl
length_more (x ∷ entries) e = ap suc (length_more entries e)

keys_more : (entries : Entries) (e : ℕ × Mutex) → keys_of (entries ++ e ∷ []) ≡ keys_of entries ++ e.0 ∷ []
keys_more [] e = refl
keys_more (x ∷ entries) e = ap {B = List _} (λ ks. x.0 ∷ ks) (keys_more entries e)

values_more : (entries : Entries) (e : ℕ × Mutex) → values_of (entries ++ e ∷ []) ≡ values_of entries ++ e.1 ∷ []
values_more [] e = refl
values_more (x ∷ entries) e = ap {B = List _} (λ ms. x.1 ∷ ms) (values_more entries e)

keys_set : (entries : Entries) (place : ℕ) (m : Mutex) → keys_of (set_value_at entries place m) ≡ keys_of entries
keys_set [] place m = refl
keys_set (e ∷ entries) zero m = refl
keys_set (e ∷ entries) (suc i) m = ap {B = List _} (λ ks. e.0 ∷ ks) (keys_set entries i m)

values_set : (f : Mutex → Mutex) (entries : Entries) (place : ℕ) (m : Mutex) → slice_get (values_of entries) place ≡ Some m → values_of (set_value_at entries place (f m)) ≡ changed_at f (values_of entries) place
values_set f [] place m at = refl
values_set f (e ∷ entries) zero m at = let same : e.1 ≡ m = cc in ap {B = List _} (λ x. f x ∷ values_of entries) (sym same)
values_set f (e ∷ entries) (suc i) m at = ap {B = List _} (λ ms. e.1 ∷ ms) (values_set f entries i m at)

-- ---- one more at the end

-- what is found, or else the last
or_last : Option ℕ → Bool → ℕ → Option ℕ
or_last (Some i) b n = Some i
or_last None b n = cond b (Some n) None

from_more : {X : Type 0} (t : X → Bool) (i : ℕ) (xs : List X) (x : X) → position_from t i (xs ++ x ∷ []) ≡ or_last (position_from t i xs) (t x) (i + length xs)
unfolding or_last
from_more t i [] x = let same : i ≡ i + 0 = omega arith in ap (λ (n : ℕ). cond (t x) (Some n) None) same
from_more t i (y ∷ xs) x = by (t y) (from_more t (i + 1) xs x)
  where
    by : (b : Bool) → position_from t (i + 1) (xs ++ x ∷ []) ≡ or_last (position_from t (i + 1) xs) (t x) (i + 1 + length xs)
        → cond b (Some i) (position_from t (i + 1) (xs ++ x ∷ [])) ≡ or_last (cond b (Some i) (position_from t (i + 1) xs)) (t x) (i + suc (length xs))
    by true rest = refl
    by false rest = let same : i + 1 + length xs ≡ i + suc (length xs) = omega arith in rest ∙ ap (or_last (position_from t (i + 1) xs) (t x)) same

position_more : {X : Type 0} (t : X → Bool) (xs : List X) (x : X) → position t (xs ++ x ∷ []) ≡ or_last (position t xs) (t x) (length xs)
position_more t xs x =
    let same : 0 + length xs ≡ length xs = omega arith in
    position_from-zero t (xs ++ x ∷ [])
    ∙ from_more t 0 xs x
    ∙ ap (or_last (position_from t 0 xs) (t x)) same
    ∙ ap (λ (o : Option ℕ). or_last o (t x) (length xs)) (sym (position_from-zero t xs))

number_more : (mutexes : List Mutex) (m : Mutex) (address : ℕ) → number_of (mutexes ++ m ∷ []) address ≡ or_last (number_of mutexes address) (m.address == address) (length mutexes)
unfolding or_last
number_more [] m address = refl
number_more (x ∷ mutexes) m address = by (x.address == address) (number_of mutexes address) (m.address == address) (number_more mutexes m address)
  where
    by : (b : Bool) (o : Option ℕ) (last : Bool) → number_of (mutexes ++ m ∷ []) address ≡ or_last o last (length mutexes)
        → cond b (Some 0) (option_map suc (number_of (mutexes ++ m ∷ []) address)) ≡ or_last (cond b (Some 0) (option_map suc o)) last (suc (length mutexes))
    by true o last rest = refl
    by false (Some i) last rest = ap (option_map suc) rest
    by false None true rest = ap (option_map suc) rest
    by false None false rest = ap (option_map suc) rest

-- ---- a new key

flip : (a b : ℕ) → (a == b) ≡ (b == a)
flip a b = by (a == b) refl
  where
    by : (c : Bool) → (a == b) ≡ c → (a == b) ≡ (b == a)
    by true e = e ∙ sym (eq-eqb b a (sym (eqb-true a b e)))
    by false e = e ∙ sym (ne_eqb b a (λ same. let bad : true ≡ false = sym (eq-eqb a b (sym same)) ∙ e in cc))

none_is : {X : Type 0} (o : Option X) → is_some o ≡ false → o ≡ None
none_is None e = refl
none_is (Some x) e = absurd (cc)

is_new : (entries : Entries) (address : ℕ) → IsIndexed entries → number_of (values_of entries) address ≡ None → lookup (nat_eq address) entries ≡ None
is_new entries address indexed none =
    none_is (lookup (nat_eq address) entries) (sym (some_index (nat_eq address) entries) ∙ ap is_some (indexed.found address ∙ none))

more_indexed : (entries : Entries) (m : Mutex) → IsIndexed entries → IsIndexed (entries ++ (m.address, m) ∷ [])
more_indexed entries m indexed = record {
  found = λ a.
      ap (position (nat_eq a)) (keys_more entries (m.address, m))
      ∙ position_more (nat_eq a) (keys_of entries) m.address
      ∙ ap (λ (o : Option ℕ). or_last o (a == m.address) (length (keys_of entries))) (indexed.found a)
      ∙ ap (or_last (number_of ms a) (a == m.address)) (length_keys entries ∙ sym (length_values entries))
      ∙ ap (λ (b : Bool). or_last (number_of ms a) b (length ms)) (flip a m.address)
      ∙ sym (number_more ms m a)
      ∙ ap (λ (xs : List Mutex). number_of xs a) (sym (values_more entries (m.address, m)));
}
  where
    ms : List Mutex
    ms = values_of entries

on_ok : {T E P : Type 0} (r : Result T E) → IsOk r → OnOk r P → P
on_ok (Ok x) ok p = p
on_ok (Err e) ok p = absurd (cc)

-- a map behind an insertion
pub entered : {S E : Type 0} (old new : IndexMap ℕ Mutex S) (r : Result (Option Mutex) E) (ms : List Mutex) (m : Mutex)
    → values old ≡ ms → length ms < 256 → number_of ms m.address ≡ None
    → (0 < spare old → IsOk r) → OnOk r (new.entries ≡ insert_entry nat_eq old.entries m.address m) → spare old ≤ spare new + 1
    → (index_map_len old ≤ 256) × (256 ≤ index_map_len old + spare old) × IsIndexed old.entries
    → ((index_map_len new ≤ 256) × (256 ≤ index_map_len new + spare new) × IsIndexed new.entries) × (values new ≡ ms ++ m ∷ [])
entered old new r ms m view few none succeeds is spared holds =
    let len : index_map_len old ≡ length ms = sym (length_values old.entries) ∙ ap length view in
    let small : index_map_len old < 256 = subst (λ (n : ℕ). n < 256) (sym len) few in
    let room : 256 ≤ index_map_len old + spare old = holds.1 in
    let some : 0 < spare old = omega (arith, small, room) in
    let before : number_of (values old) m.address ≡ None = ap (λ (xs : List Mutex). number_of xs m.address) view ∙ none in
    let entries : new.entries ≡ old.entries ++ (m.address, m) ∷ [] = on_ok r (succeeds some) is ∙ insert_entry-new nat_eq old m.address m (is_new old.entries m.address holds.2 before) in
    let more : index_map_len new ≡ suc (index_map_len old) = ap length entries ∙ length_more old.entries (m.address, m) in
    let within : index_map_len new ≤ 256 = omega (arith, more, small) in
    let left : spare old ≤ spare new + 1 = spared in
    let still : 256 ≤ index_map_len new + spare new = omega (arith, more, room, left) in (
      (within, still, subst IsIndexed (sym entries) (more_indexed old.entries m holds.2)),
      ap values_of entries ∙ values_more old.entries (m.address, m) ∙ ap (λ (xs : List Mutex). xs ++ m ∷ []) view,
    )

-- ---- no key, and a change

pub none_indexed : (entries : Entries) → entries ≡ [] → IsIndexed entries
none_indexed entries none = subst IsIndexed (sym none) (record { found = λ a. refl })

changed_numbers : (change : Option (Option ℕ)) (mutexes : List Mutex) (place address : ℕ) → number_of (changed_at (mutex_after change) mutexes place) address ≡ number_of mutexes address
changed_numbers change [] place address = refl
changed_numbers change (m ∷ mutexes) zero address = ap (λ (a : ℕ). cond (a == address) (Some 0) (option_map suc (number_of mutexes address))) (after_address change m)
changed_numbers change (m ∷ mutexes) (suc i) address = ap (λ (o : Option ℕ). cond (m.address == address) (Some 0) (option_map suc o)) (changed_numbers change mutexes i address)

changed_indexed : (change : Option (Option ℕ)) (entries : Entries) (place : ℕ) (m : Mutex) → slice_get (values_of entries) place ≡ Some m → IsIndexed entries → IsIndexed (set_value_at entries place (mutex_after change m))
changed_indexed change entries place m at indexed =
    let now = set_value_at entries place (mutex_after change m) in
    let keys : keys_of now ≡ keys_of entries = keys_set entries place (mutex_after change m) in
    record {
      found = λ a.
          ap (position (nat_eq a)) keys
          ∙ indexed.found a
          ∙ sym (changed_numbers change (values_of entries) place a)
          ∙ ap (λ (ms : List Mutex). number_of ms a) (sym (values_set (mutex_after change) entries place m at));
    }

pub changed_keeps : {S : Type 0} (map : IndexMap ℕ Mutex S) (place : ℕ) (m n : Mutex) (change : Option (Option ℕ)) → slice_get (values map) place ≡ Some m → n ≡ mutex_after change m
    → (index_map_len map ≤ 256) × (256 ≤ index_map_len map + spare map) × IsIndexed map.entries
    → (index_map_len (with_value_at map place n) ≤ 256) × (256 ≤ index_map_len (with_value_at map place n) + spare map) × IsIndexed (with_value_at map place n).entries
changed_keeps map place m n change at is holds =
    let len = sym (index_map_len-with_value_at map place n) in (
      subst (λ (k : ℕ). k ≤ 256) len holds.0,
      subst (λ (k : ℕ). 256 ≤ k + spare map) len holds.1,
      subst (λ (x : Mutex). IsIndexed (set_value_at map.entries place x)) (sym is) (changed_indexed change map.entries place m at holds.2),
    )

pub changed_values : {S : Type 0} (map : IndexMap ℕ Mutex S) (old : List Mutex) (place : ℕ) (m n : Mutex) (change : Option (Option ℕ)) → values map ≡ old → slice_get (values map) place ≡ Some m → n ≡ mutex_after change m
    → values (with_value_at map place n) ≡ changed_at (mutex_after change) old place
changed_values map old place m n change view at is =
    ap (λ (x : Mutex). values_of (set_value_at map.entries place x)) is
    ∙ values_set (mutex_after change) map.entries place m at
    ∙ ap (λ (ms : List Mutex). changed_at (mutex_after change) ms place) view

pub ruleset of_keys = (length_values, none_indexed)
