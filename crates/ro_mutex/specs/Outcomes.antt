-- What an entry into the table, a lock, a try at one and an unlock come to. Where nothing is said of a change, nothing changes.
use Rattle.std.specs.Prelude.{◌≡◌, ◌≢◌, ◌⊎◌, ℕ, ◌<◌, ◌≤◌, length, Option, Some, None}
use Rattle.ro_mutex.specs.declared.outcomes.Entered.{Entered}
use Rattle.ro_mutex.specs.declared.outcomes.Entered.TheVariants.{Added, Known, Full as NoPlace}
use Rattle.ro_mutex.specs.declared.outcomes.Locked.{Locked}
use Rattle.ro_mutex.specs.declared.outcomes.Locked.TheVariants.{Got, Held, Deadlock, Full}
use Rattle.ro_mutex.specs.declared.outcomes.Tried.{Tried}
use Rattle.ro_mutex.specs.declared.outcomes.Tried.TheVariants.{Got as GotAtOnce, Busy, Full as FullAtOnce}
use Rattle.ro_mutex.specs.declared.outcomes.Unlocked.{Unlocked}
use Rattle.ro_mutex.specs.declared.outcomes.Unlocked.TheVariants.{Freed, NotOwner}
use Rattle.ro_mutex.specs.Owners.{Owners, owner_of, with_owner}

-- nobody holds it, and it is in the table or has a place there
abbrev pub IsFree : Owners → (address : ℕ) → Type 0
IsFree owners address = (owner_of owners address ≡ Some None) ⊎ ((owner_of owners address ≡ None) × (length owners < 256))

-- the table has no place for a new address
abbrev pub HasNoPlace : Owners → (address : ℕ) → Type 0
HasNoPlace owners address = (owner_of owners address ≡ None) × (256 ≤ length owners)

-- another thread holds it
abbrev pub IsHeldByOther : Owners → (address thread : ℕ) → Type 0
IsHeldByOther owners address thread = (owner : ℕ) × (owner_of owners address ≡ Some (Some owner)) × (owner ≢ thread)

-- an address that is not in the table comes there, where there is a place, and nobody holds it; one that is there stays as it is
abbrev pub IsEnter : Entered → (old new : Owners) → (address : ℕ) → Type 0
IsEnter Added old new address = (owner_of old address ≡ None) × (length old < 256) × (new ≡ with_owner old address None)
IsEnter Known old new address = ((owner : Option ℕ) × (owner_of old address ≡ Some owner)) × (new ≡ old)
IsEnter NoPlace old new address = HasNoPlace old address × (new ≡ old)

abbrev pub IsLock : Locked → (old new : Owners) → (address thread : ℕ) → Type 0
IsLock Got old new address thread = IsFree old address × (new ≡ with_owner old address (Some thread))
IsLock Held old new address thread = IsHeldByOther old address thread × (new ≡ old)
IsLock Deadlock old new address thread = (owner_of old address ≡ Some (Some thread)) × (new ≡ old)
IsLock Full old new address thread = HasNoPlace old address × (new ≡ old)

abbrev pub IsTry : Tried → (old new : Owners) → (address thread : ℕ) → Type 0
IsTry GotAtOnce old new address thread = IsFree old address × (new ≡ with_owner old address (Some thread))
IsTry Busy old new address thread = ((owner : ℕ) × (owner_of old address ≡ Some (Some owner))) × (new ≡ old)
IsTry FullAtOnce old new address thread = HasNoPlace old address × (new ≡ old)

abbrev pub IsUnlock : Unlocked → (old new : Owners) → (address thread : ℕ) → Type 0
IsUnlock Freed old new address thread = (owner_of old address ≡ Some (Some thread)) × (new ≡ with_owner old address None)
IsUnlock NotOwner old new address thread = (owner_of old address ≢ Some (Some thread)) × (new ≡ old)
