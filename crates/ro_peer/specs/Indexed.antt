-- How a peer looks a mutex up: in a map by its address, whose order is that of the mutexes.
use Rattle.std.specs.Prelude.{◌≡◌, ℕ, suc, ◌==◌, nat_eq, if◌then◌else◌, List, [], ◌∷◌, position, Option, Some, None}
use Rattle.std.specs.Option.{option_map}
use Rattle.std.specs.Map.{keys_of, values_of}
use Rattle.ro_peer.specs.declared.mutexes.Mutex.{Mutex}

-- the number of a mutex: its place in the list
abbrev pub number_of : List Mutex → (address : ℕ) → Option ℕ
number_of [] address = None
number_of (m ∷ mutexes) address = if m.address == address then Some 0 else option_map suc (number_of mutexes address)

-- what is found at an address is its mutex
pub record IsIndexed (entries : List (ℕ × Mutex)) : Type 0 where
  pub found : (address : ℕ) → position (nat_eq address) (keys_of entries) ≡ number_of (values_of entries) address
