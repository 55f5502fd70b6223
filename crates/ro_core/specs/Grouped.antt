-- Which threads stand still, kept beside the replicas.
use Rattle.std.specs.Prelude.{◌≡◌, ◌≢◌, ◌⊎◌, ◌<◌, ◌≤◌, ◌&&◌, ℕ, Bool, true, false, is_some, List, [], ◌∷◌, length, Option, Some, None, slice_get}
use Rattle.ro_event.specs.Effects.{Effect}
use Rattle.ro_group.specs.Groups.{Groups, stands, Changes, Releases as ReleasesIn}
use Rattle.ro_replica.specs.Replica.{Replica, stop_of}
use Rattle.ro_replica.specs.Seen.{ReplicaOf, replica_of}

-- the groups say of each replica's threads whether they stand still
pub record AreGrouped (replicas : List Replica) (groups : Groups) : Type 0 where
  pub count : length groups ≡ length replicas
  pub each : (number thread : ℕ) (replica : Replica) → slice_get replicas number ≡ Some replica → stands groups number thread ≡ is_some (stop_of replica thread)

-- so many threads were made in each replica
abbrev pub AreMade : (threads : ℕ) → List Replica → Type 0
AreMade threads replicas = (number : ℕ) (replica : Replica) → slice_get replicas number ≡ Some replica → length replica.threads ≡ threads

-- of a seat: whether its replica is there and the thread stands still
abbrev pub seat_stopped : (thread : ℕ) → Option ReplicaOf → Bool
seat_stopped thread None = false
seat_stopped thread (Some value) = is_some (stop_of (replica_of value) thread)

-- a thread comes back with its replica, and stands still or not
pub record Returns (replica thread : ℕ) (stopped : Bool) (old new : Groups) : Type 0 where
  pub noted : stopped ≡ true → Changes old new replica thread true
  pub same : stopped ≡ false → new ≡ old

-- a thread of one replica stands still where that of another does
abbrev pub CopiesStop : (from to thread : ℕ) → (old new : Groups) → Type 0
CopiesStop from to thread old new = Changes old new to thread (stands old from thread)

-- and so do the threads below a number
pub record CopiesRow (from to threads : ℕ) (old new : Groups) : Type 0 where
  pub count : length new ≡ length old
  pub copied : (thread : ℕ) → thread < threads → stands new to thread ≡ stands old from thread
  pub others : (number thread : ℕ) → (number ≢ to) ⊎ (threads ≤ thread) → stands new number thread ≡ stands old number thread

-- those of each loser in turn, where the winner's do
abbrev pub Copies : (won : ℕ) (lost : List ℕ) (threads : ℕ) → (old new : Groups) → Type 0
Copies won [] threads old new = new ≡ old
Copies won (lost ∷ losers) threads old new = (amid : Groups) × CopiesRow won lost threads old amid × Copies won losers threads amid new

-- an effect's thread, if it is released, stands still nowhere
pub record Releases (effect : Effect) (old new : Groups) : Type 0 where
  pub count : length new ≡ length old
  pub released : effect.releases ≡ true → ReleasesIn old new effect.thread
  pub same : effect.releases ≡ false → new ≡ old

-- a thread that does not stand still any more is cancelled
abbrev pub SettlesStop : Option ReplicaOf → (replica thread : ℕ) → (old new : Groups) → Type 0
SettlesStop seat replica thread old new = Changes old new replica thread (stands old replica thread && seat_stopped thread seat)

-- and so are the threads of one replica below a number
pub record SettlesSeat (seat : Option ReplicaOf) (replica threads : ℕ) (old new : Groups) : Type 0 where
  pub count : length new ≡ length old
  pub settled : (thread : ℕ) → thread < threads → stands new replica thread ≡ (stands old replica thread && seat_stopped thread seat)
  pub others : (number thread : ℕ) → (number ≢ replica) ⊎ (threads ≤ thread) → stands new number thread ≡ stands old number thread

-- those of the replicas below a number
pub record Settles (seats : List (Option ReplicaOf)) (replicas threads : ℕ) (old new : Groups) : Type 0 where
  pub count : length new ≡ length old
  pub settled : (number thread : ℕ) (seat : Option ReplicaOf) → number < replicas → slice_get seats number ≡ Some seat → thread < threads → stands new number thread ≡ (stands old number thread && seat_stopped thread seat)
  pub others : (number thread : ℕ) → (replicas ≤ number) ⊎ (threads ≤ thread) → stands new number thread ≡ stands old number thread
