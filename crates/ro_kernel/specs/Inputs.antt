-- The input, which is kept three times.
use Rattle.std.specs.Prelude.{◌≡◌, ◌||◌, ℕ, List, Option, Some, None, if◌then◌else◌, drop, take}
use Rattle.std.specs.Str.{bytes_eq}
use Rattle.ro_kernel.specs.declared.inputs.Input.{Input}

-- what two of three say at least
abbrev pub prevailing : (one two three : List ℕ) → Option (List ℕ)
prevailing one two three = if bytes_eq one two || bytes_eq one three then Some one else (if bytes_eq two three then Some two else None)

-- the bytes of one copy behind so many, at most so many
abbrev pub part : (from most : ℕ) → List ℕ → List ℕ
part from most bytes = take most (drop from bytes)

-- all three are these bytes
abbrev pub IsThrice : Input → List ℕ → Type 0
IsThrice input bytes = (input.first.items ≡ bytes) × (input.second.items ≡ bytes) × (input.third.items ≡ bytes)
