-- Values one after the other.
use Rattle.std.proofs.Common.{◌≡◌, ℕ, suc, ◌+◌, ◌<◌, List, [], ◌∷◌, refl, ◌&&◌, length, drop, get_or, sym, ap, ◌∙◌, arith}
use Rattle.std.specs.List.{list_all}
use Rattle.std.proofs.Math.Seq.{drop-cons}
use Rattle.ro_sym.specs.Calls.{differs, are_different}
use Rattle.ro_sym.specs.declared.symbols.Place.{Place}

-- the next differs from those behind it, and they from one another
pub are_different_step : (places : List Place) (i : ℕ) (d : Place) → i < length places
    → are_different (drop i places) ≡ (list_all (differs (get_or places i d)) (drop (i + 1) places) && are_different (drop (i + 1) places))
are_different_step places i d h =
    let next : i + 1 ≡ suc i = omega arith in
    ap are_different (drop-cons places i d h)
    ∙ ap (λ (k : ℕ). list_all (differs (get_or places i d)) (drop k places) && are_different (drop k places)) (sym next)
