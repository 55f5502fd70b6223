-- A text and a byte behind it.
use Rattle.std.proofs.Common.{◌≡◌, ℕ, Bool, true, false, ◌&&◌, List, [], ◌∷◌, ◌++◌, length, drop, nat_eq, refl, sym, ap, ◌∙◌}
use Rattle.std.specs.List.{starts_with}

and-assoc : (a b c : Bool) → (a && (b && c)) ≡ ((a && b) && c)
and-assoc true b c = refl
and-assoc false b c = refl

-- a text stands in front with a byte behind it, where the text does and the byte stands behind it
pub starts_with_behind : (xs text : List ℕ) (b : ℕ) → starts_with nat_eq xs (text ++ b ∷ []) ≡ (starts_with nat_eq xs text && starts_with nat_eq (drop (length text) xs) (b ∷ []))
starts_with_behind xs [] b = refl
starts_with_behind [] (t ∷ text) b = refl
starts_with_behind (x ∷ xs) (t ∷ text) b = ap (λ (r : Bool). nat_eq t x && r) (starts_with_behind xs text b) ∙ and-assoc (nat_eq t x) _ _
