-- Checks in their order, each with the code of a file that fails it.
use Rattle.std.specs.Prelude.{ℕ, Bool, List, [], ◌∷◌, Option, Some, None, if◌then◌else◌}

-- what must hold, and the code where it doesn't
abbrev pub Check : Type 0
Check = Bool × ℕ

-- the code of the first check that fails, if one does
abbrev pub first_failing : List Check → Option ℕ
first_failing [] = None
first_failing (check ∷ checks) = if check.0 then first_failing checks else Some check.1
