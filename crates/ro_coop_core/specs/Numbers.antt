-- The mutexes of a replica, by their numbers.
use Rattle.std.specs.Prelude.{◌≡◌, ℕ, List, Some, slice_get}
use Rattle.ro_peer.specs.declared.mutexes.Mutex.{Mutex}
use Rattle.ro_peer.specs.Seen.{number_of}
use Rattle.ro_legal.specs.Sides.{Side, rank_in}
use Rattle.ro_legal.specs.Core.{Core}

-- some replica answers for these mutexes
pub record HasMutexes (core : Core) (mutexes : List Mutex) : Type 0 where
  pub place : ℕ
  pub side : Side
  pub there : slice_get core.sides place ≡ Some side
  pub are : side.mutexes ≡ mutexes

-- in some replica the mutex at this address has this number, and was got so often
pub record HasRank (core : Core) (number address rank : ℕ) : Type 0 where
  pub mutexes : List Mutex
  pub had : HasMutexes core mutexes
  pub numbered : number_of mutexes address ≡ Some number
  pub ranked : rank_in mutexes address ≡ rank
