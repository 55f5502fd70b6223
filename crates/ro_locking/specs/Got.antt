-- What runs got that asked a lock page, against what its passes know and won.
use Rattle.std.specs.Prelude.{◌≡◌, ◌<◌, ℕ, List, [], ◌∷◌, Some, Contains, slice_get}
use Rattle.ro_lockpage.specs.Pages.{PassOf}
use Rattle.ro_peer.specs.declared.mutexes.Mutex.{Mutex}
use Rattle.ro_peer.specs.Gets.{Get, InRows}
use Rattle.ro_peer.specs.Seen.{number_of, by_address}
use Rattle.ro_peer.specs.Leases.{IsAmong}
use Rattle.ro_locking.specs.Asking.{ceiling_of, known_by, won_by}

-- What runs by a pass got: each is a row that the pass knows, and what the pass won is among it.
pub record HasGot (mutexes : List Mutex) (pass : PassOf) (gets : List Get) : Type 0 where
  pub in_rows : InRows (by_address mutexes (known_by pass)) gets
  pub won : (number rank thread : ℕ) → won_by pass number rank thread → IsAmong mutexes gets number rank thread

-- so for each pass, by its place
abbrev pub AllGot : List Mutex → List PassOf → (gets : ℕ → List Get) → Type 0
AllGot mutexes passes gets = (place : ℕ) (pass : PassOf) → slice_get passes place ≡ Some pass → HasGot mutexes pass (gets place)

-- each of these was got by one of so many passes
abbrev pub AreAmong : (count : ℕ) → (gets : ℕ → List Get) → List Get → Type 0
AreAmong count gets all = (get : Get) → Contains all get → (place : ℕ) × (place < count) × Contains (gets place) get

-- a mutex that had a number has it still
abbrev pub KeepsNumbers : (old new : List Mutex) → Type 0
KeepsNumbers old new = (address number : ℕ) → number_of old address ≡ Some number → number_of new address ≡ Some number

-- each was got below the ceiling of its mutex
abbrev pub IsBelow : List Mutex → (ceilings : List ℕ) → Get → Type 0
IsBelow mutexes ceilings get = (number : ℕ) × (number_of mutexes get.mutex ≡ Some number) × (get.rank < ceiling_of ceilings number)

abbrev pub AreBelow : List Mutex → (ceilings : List ℕ) → List Get → Type 0
AreBelow mutexes ceilings [] = Unit {0}
AreBelow mutexes ceilings (get ∷ gets) = IsBelow mutexes ceilings get × AreBelow mutexes ceilings gets
