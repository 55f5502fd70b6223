-- What the holder of a pass knows.
use Rattle.std.specs.Prelude.{ℕ, zero, suc, ◌+◌, List, [], ◌∷◌}
use Rattle.ro_lockpage.specs.Ranks.{Decided, Asked}

-- what a pass knows: the ranks whose thread it was told, the ranks that it decided, and what each of its steps found
pub record Hand : Type 0 where
  pub number : ℕ
  pub known : List Decided
  pub won : List Decided
  pub asked : List Asked

abbrev pub fresh : ℕ → Hand
fresh number = record { number = number; known = []; won = []; asked = [] }

-- k hands, with the numbers from n on
abbrev pub fresh_hands : ℕ → ℕ → List Hand
fresh_hands n zero = []
fresh_hands n (suc k) = fresh n ∷ fresh_hands (n + 1) k

abbrev pub first_of : List Hand → Hand
first_of [] = fresh 0
first_of (h ∷ hs) = h

abbrev pub others_of : List Hand → List Hand
others_of [] = []
others_of (h ∷ hs) = hs
