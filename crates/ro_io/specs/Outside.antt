-- What stores and sinks hold, how often they failed, and for what a store was asked.
use Rattle.std.specs.Prelude.{◌≡◌, ◌⊎◌, ℕ, ◌+◌, ◌-◌, ◌^◌, min, ◌<◌, ◌≤◌, Bool, false, List, ◌++◌, length, map, take, Option, Some, IfSome}
use Rattle.std.specs.Option.{option_map}

-- A count of failures rose. At the last value of a 64-bit counter it counts as risen.
abbrev pub Rose : ℕ → ℕ → Type 0
Rose before after = (before < after) ⊎ (2 ^ 64 - 1 ≤ after)

-- a counter after one more, which stays at its last value
abbrev pub risen : ℕ → ℕ
risen count = min (count + 1) (2 ^ 64 - 1)

-- the bytes of each name that is a file
abbrev pub Files : Type 0
Files = List ℕ → Option (List ℕ)

-- the file of this name has these bytes at its front, at most so many
abbrev pub IsFront : Files → (name : List ℕ) → (most : ℕ) → List ℕ → Type 0
IsFront files name most bytes = (content : List ℕ) × (files name ≡ Some content) × (bytes ≡ take most content)

-- a call of a store: for which name, and whether it failed
pub record Call : Type 0 where
  pub name : List ℕ
  pub failed : Bool

-- calls for these names of which none failed
abbrev pub unfailed : (names : List (List ℕ)) → List Call
unfailed names = map (λ name. record { name = name; failed = false }) names

-- how many calls a store had, and which, where it tells
pub record Calls : Type 0 where
  pub count : ℕ
  pub list : Option (List Call)

-- A store had these calls more, and no other. A count that is full stays so, and a store may cease to tell.
pub record Asks (old new : Calls) (calls : List Call) : Type 0 where
  pub counted : (new.count ≡ old.count + length calls) ⊎ (2 ^ 64 - 1 ≤ new.count)
  pub told : IfSome new.list (λ all. (earlier : List Call) × (old.list ≡ Some earlier) × (all ≡ earlier ++ calls))

-- what a sink holds after one more piece, where it tells
abbrev pub more : Option (List ℕ) → List ℕ → Option (List ℕ)
more held piece = option_map (λ bytes. bytes ++ piece) held
