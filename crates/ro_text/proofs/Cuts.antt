-- Bytes cut at the first that passes.
use Rattle.std.proofs.Common.{◌≡◌, ◌+◌, ◌-◌, ◌<◌, ℕ, Bool, true, false, List, [], ◌∷◌, Some, None, length, take, drop, arith, position, nat_lt, cond, refl, sym, ap, ◌∙◌, length-drop}
use Rattle.std.specs.List.{All, slice_split, position_or_len}
use Rattle.std.proofs.lemmas.Bool.{ltb-true, ltb-false}
use Rattle.std.proofs.lemmas.List.Splits.{slice_split_first, slice_split_none}
use Rattle.std.proofs.lemmas.List.Sums.{fails_before_first}
use Rattle.std.proofs.lemmas.List.{take_all}

place_is : (p : ℕ → Bool) (bytes : List ℕ) (place : ℕ) → position p bytes ≡ Some place → (position_or_len p bytes ≡ place) × (place < length bytes)
place_is p bytes place e = by (nat_lt (position_or_len p bytes) (length bytes)) refl e
  where
    by : (b : Bool) → nat_lt (position_or_len p bytes) (length bytes) ≡ b → cond b (Some (position_or_len p bytes)) None ≡ Some place → (position_or_len p bytes ≡ place) × (place < length bytes)
    by true t h = let same : position_or_len p bytes ≡ place = cc in (same, omega (arith, ltb-true (position_or_len p bytes) (length bytes) t))
    by false t h = absurd (cc)

pub cut_some : (p : ℕ → Bool) (bytes : List ℕ) (place : ℕ) → position p bytes ≡ Some place → slice_split p bytes ≡ take place bytes ∷ slice_split p (take (length bytes - (place + 1)) (drop (place + 1) bytes))
cut_some p bytes place e =
    let is = place_is p bytes place e in
    let same : position_or_len p bytes ≡ place = is.0 in
    let inside : position_or_len p bytes < length bytes = omega (arith, is) in
    slice_split_first p bytes 0 inside
    ∙ ap (λ n. take n bytes ∷ slice_split p (drop (n + 1) bytes)) same
    ∙ ap (λ rest. take place bytes ∷ slice_split p rest) (sym (take_all (length bytes - (place + 1)) (drop (place + 1) bytes) (omega (arith, length-drop (place + 1) bytes))))

pub cut_none : (p : ℕ → Bool) (bytes : List ℕ) → position p bytes ≡ None → slice_split p bytes ≡ bytes ∷ []
cut_none p bytes e = slice_split_none p bytes (by (nat_lt (position_or_len p bytes) (length bytes)) refl e)
  where
    by : (b : Bool) → nat_lt (position_or_len p bytes) (length bytes) ≡ b → cond b (Some (position_or_len p bytes)) None ≡ None → All (λ x. p x ≡ false) bytes
    by true t h = absurd (cc)
    by false t h = λ k d l. fails_before_first p bytes k d (omega (arith, ltb-false (position_or_len p bytes) (length bytes) t))
