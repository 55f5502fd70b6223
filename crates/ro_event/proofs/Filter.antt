-- Looking a place up in the call table.
use Rattle.std.specs.Prelude.{◌≡◌, ℕ, suc, ◌+◌, ◌<◌, ◌/◌, ◌%◌, ◌^◌, ◌==◌, Bool, true, false, ◌||◌, cond, List, [], ◌∷◌, length, take, drop, Option, Some, None}
use Rattle.std.proofs.Common.{refl, ap, sym, ◌∙◌, get_or, add-one, drop-cons}
use Rattle.std.proofs.lemmas.Bool.{true≢false}
use Rattle.std.proofs.lemmas.List.{take_more}
use Rattle.std.proofs.lemmas.List.Folds.{list_any-append, list_any_at}
use Rattle.std.specs.List.{list_any}
use Rattle.ro_event.specs.declared.calls.Which.{Which}
use Rattle.ro_event.specs.declared.calls.Which.TheVariants.{Function}
use Rattle.ro_event.specs.declared.functions.Function.{Function as Posix}
use Rattle.ro_event.specs.Addresses.{Addresses, is_at, IsFilter}
use Rattle.ro_event.specs.Functions.{functions}
use Rattle.ro_event.specs.Table.{function_at, call_at}

none_at : (b c : Bool) (w : Which) (o : Option Which) → (b || c) ≡ false → (c ≡ false → o ≡ None) → cond b (Some w) o ≡ None
none_at true c w o h k = absurd (true≢false h)
none_at false c w o h k = k h

none_of : (addresses : List (Option ℕ)) (fs : List Posix) (pc : ℕ) → list_any (is_at pc) addresses ≡ false → function_at addresses fs pc ≡ None
none_of [] fs pc h = refl
none_of (a ∷ addresses) [] pc h = refl
none_of (None ∷ addresses) (f ∷ fs) pc h = none_of addresses fs pc h
none_of (Some a ∷ addresses) (f ∷ fs) pc h = none_at (a == pc) _ (Function f) _ h (none_of addresses fs pc)

unset : (b : Bool) → (b ≡ true → ⊥) → b ≡ false
unset true h = absurd (h refl)
unset false h = refl

-- a place whose bit is not set is none of the addresses
pub none_elsewhere : (table : Addresses) (filter pc : ℕ) → IsFilter table.addresses filter → (filter / 2 ^ (pc / 4 % 64) % 2 ≡ 1 → ⊥) → call_at table pc ≡ None
unfolding call_at
none_elsewhere table filter pc h n = none_of table.addresses functions pc (unset _ (λ e. n (h pc e)))

one_passes : (o : Option ℕ) (rest : List (Option ℕ)) (f : Posix) (fs : List Posix) (pc : ℕ) → is_at pc o ≡ false → function_at (o ∷ rest) (f ∷ fs) pc ≡ function_at rest fs pc
one_passes None rest f fs pc h = refl
one_passes (Some a) rest f fs pc h = ap (λ b. cond b (Some (Function f)) (function_at rest fs pc)) h

one_found : (o : Option ℕ) (rest : List (Option ℕ)) (f : Posix) (fs : List Posix) (pc : ℕ) → is_at pc o ≡ true → function_at (o ∷ rest) (f ∷ fs) pc ≡ Some (Function f)
one_found None rest f fs pc h = absurd (true≢false (sym h))
one_found (Some a) rest f fs pc h = ap (λ b. cond b (Some (Function f)) (function_at rest fs pc)) h

-- another address comes first
pub passes : (addresses : List (Option ℕ)) (f : Posix) (fs : List Posix) (i pc : ℕ) (d : Option ℕ) → i < length addresses → is_at pc (get_or addresses i d) ≡ false → function_at (drop i addresses) (f ∷ fs) pc ≡ function_at (drop (i + 1) addresses) fs pc
passes addresses f fs i pc d l h =
    ap (λ a. function_at a (f ∷ fs) pc) (drop-cons addresses i d l)
    ∙ (one_passes (get_or addresses i d) (drop (suc i) addresses) f fs pc h ∙ ap (λ k. function_at (drop k addresses) fs pc) (sym (add-one i)))

-- it stands here
pub finds : (addresses : List (Option ℕ)) (f : Posix) (fs : List Posix) (i pc : ℕ) (d : Option ℕ) → i < length addresses → is_at pc (get_or addresses i d) ≡ true → function_at (drop i addresses) (f ∷ fs) pc ≡ Some (Function f)
finds addresses f fs i pc d l h =
    ap (λ a. function_at a (f ∷ fs) pc) (drop-cons addresses i d l) ∙ one_found (get_or addresses i d) (drop (suc i) addresses) f fs pc h

-- no function is left
pub ends : (addresses : List (Option ℕ)) (pc : ℕ) → function_at addresses [] pc ≡ None
ends [] pc = refl
ends (a ∷ addresses) pc = refl

none_first : (addresses : List (Option ℕ)) (fs : List Posix) (pc : ℕ) → list_any (is_at pc) (take (length fs) addresses) ≡ false → function_at addresses fs pc ≡ None
none_first [] fs pc h = refl
none_first (a ∷ addresses) [] pc h = refl
none_first (None ∷ addresses) (f ∷ fs) pc h = none_first addresses fs pc h
none_first (Some a ∷ addresses) (f ∷ fs) pc h = none_at (a == pc) _ (Function f) _ h (none_first addresses fs pc)

-- a place that is none of the addresses of the functions
pub none_in : (table : Addresses) (pc : ℕ) → list_any (is_at pc) (take (length functions) table.addresses) ≡ false → call_at table pc ≡ None
unfolding call_at
none_in table pc h = none_first table.addresses functions pc h

-- a place that is none of the addresses, and no next one
pub none_more : (addresses : List (Option ℕ)) (i pc : ℕ) (d : Option ℕ) → i < length addresses → list_any (is_at pc) (take i addresses) ≡ false → is_at pc (get_or addresses i d) ≡ false → list_any (is_at pc) (take (i + 1) addresses) ≡ false
none_more addresses i pc d l h k =
    ap (λ (xs : List (Option ℕ)). list_any (is_at pc) xs) (take_more addresses i d l) ∙ list_any-append (is_at pc) (take i addresses) (get_or addresses i d ∷ []) ∙ neither _ _ h k
  where
    neither : (a b : Bool) → a ≡ false → b ≡ false → (a || (b || false)) ≡ false
    neither true b x y = x
    neither false true x y = y
    neither false false x y = refl

-- where a place is none of the addresses, it is not the one that stands here
pub none_here : (addresses : List (Option ℕ)) (i pc : ℕ) (d : Option ℕ) → i < length addresses → list_any (is_at pc) addresses ≡ false → is_at pc (get_or addresses i d) ≡ false
none_here addresses i pc d l h = unset _ (λ e. true≢false (sym (list_any_at (is_at pc) addresses i d l e) ∙ h))
