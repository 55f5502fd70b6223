-- Which race of a run is told: the first.
use Rattle.std.specs.Prelude.{◌≡◌, ◌≢◌, ℕ, ◌<◌, ◌≤◌, ◌⊎◌, IsTrue, List, length, slice_get}
use Rattle.ro_plain.specs.Machine.{Program}
use Rattle.ro_plain.specs.Accesses.{conflict_at}
use Rattle.ro_plain.specs.Order.{accesses_at, HappensBefore}

-- two steps of different threads access a byte, one of them writes it, and the first does not happen before the second
pub record IsRace (program : Program) (threads : List ℕ) (i j byte : ℕ) : Type 0 where
  pub order : i < j
  pub within : j < length threads
  pub apart : slice_get threads i ≢ slice_get threads j
  pub conflict : IsTrue (conflict_at (accesses_at program threads i) (accesses_at program threads j) byte)
  pub unordered : HappensBefore program threads i j → ⊥

-- no step has a race
abbrev pub HasNoRace : Program → List ℕ → Type 0
HasNoRace program threads = (i j byte : ℕ) → IsRace program threads i j byte → ⊥

-- this race, or one that comes after it: its second step is later, or is the same and the byte is higher, or both are the
-- same and its first step is earlier
abbrev pub ComesAfter : (i j byte : ℕ) → (other_i other_j other_byte : ℕ) → Type 0
ComesAfter i j byte other_i other_j other_byte =
    (j < other_j) ⊎ ((j ≡ other_j) × ((byte < other_byte) ⊎ ((byte ≡ other_byte) × (other_i ≤ i))))

-- a race, and every race is this one or comes after it
pub record IsFirstRace (program : Program) (threads : List ℕ) (i j byte : ℕ) : Type 0 where
  pub race : IsRace program threads i j byte
  pub first : (other_i other_j other_byte : ℕ) → IsRace program threads other_i other_j other_byte → ComesAfter i j byte other_i other_j other_byte
