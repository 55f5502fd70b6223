-- Strings that are ended.
use Rattle.std.proofs.Common.{◌≡◌, ℕ, Bool, true, false, cond, ◌&&◌, nat_lt, List, [], ◌∷◌, Some, None, length, position, not, refl, sym, ap, ◌∙◌, arith}
use Rattle.std.specs.Prelude.{unwrap_or}
use Rattle.std.specs.List.{list_all, position_or_len}
use Rattle.std.proofs.lemmas.Bool.{ltb-false}
use Rattle.std.proofs.lemmas.List.Sums.{prefix_len-le-length}
use Rattle.ro_sym.specs.Symbols.{is_ended, is_function, ends, is_below, are_ended}
use Rattle.ro_sym.specs.declared.symbols.Symbol.{Symbol}

-- a function's name starts below the size of what is ended exactly where it is ended
below_one : (strings : List ℕ) (size : ℕ) → ((place : ℕ) → is_ended strings place ≡ nat_lt place size) → (symbol : Symbol) → is_below size symbol ≡ ends strings symbol
below_one strings size ended symbol = ap (λ (b : Bool). cond (is_function symbol) b true) (sym (ended symbol.name))

pub below_all : (strings : List ℕ) (size : ℕ) → ((place : ℕ) → is_ended strings place ≡ nat_lt place size) → (symbols : List Symbol)
    → list_all (is_below size) symbols ≡ are_ended strings symbols
below_all strings size ended [] = refl
below_all strings size ended (symbol ∷ symbols) =
    ap (λ (b : Bool). b && list_all (is_below size) symbols) (below_one strings size ended symbol)
    ∙ ap (λ (b : Bool). ends strings symbol && b) (below_all strings size ended symbols)

-- where the first that passes stands, or the length
pub first_place : (p : ℕ → Bool) (xs : List ℕ) → unwrap_or (position p xs) (length xs) ≡ position_or_len p xs
first_place p xs = by (nat_lt (position_or_len p xs) (length xs)) refl
  where
    by : (b : Bool) → nat_lt (position_or_len p xs) (length xs) ≡ b → unwrap_or (cond b (Some (position_or_len p xs)) None) (length xs) ≡ position_or_len p xs
    by true t = refl
    by false t = omega (arith, ltb-false (position_or_len p xs) (length xs) t, prefix_len-le-length (λ x. not (p x)) xs)
