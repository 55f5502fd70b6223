-- Cores of a cooperative run, at the edges of what is allowed.
use Rattle.std.specs.Prelude.{ℕ, [], ◌∷◌, ◌++◌, map}
use Rattle.ro_replica.specs.Replica.{changed_at}
use Rattle.ro_peer.specs.declared.mutexes.Mutex.{Mutex}
use Rattle.ro_legal.specs.Sides.{Side}
use Rattle.ro_legal.specs.Core.{Job, Core}
use Rattle.ro_legal.specs.Cooperative.{replay}
use Rattle.ro_coop.specs.Guests.{take_by, both_leases}
use Rattle.ro_coop.specs.Contests.{writers_job, writers_alone}

-- two threads that write under one mutex, with a limit
abbrev pub limited_job : (limit : ℕ) → Job
limited_job limit = record writers_job { settings = record writers_job.settings { limit = limit } }

-- thread 0 is lent in replica 0
abbrev pub first_lent : Core
first_lent = replay writers_job (take_by 0 0 ∷ [])

-- thread 0 comes to its lock in both replicas, at three steps
abbrev pub both_there : (limit : ℕ) → Core
both_there limit = replay (limited_job limit) (both_leases 0 3 3)

-- every mutex of the first replica was got so often in it
abbrev pub ranked : (rank : ℕ) → Core → Core
ranked rank core =
    record core { sides = changed_at (λ (side : Side). record side { mutexes = map (λ (mutex : Mutex). record mutex { rank = rank }) side.mutexes }) core.sides 0 }

-- thread 1 is lent in replica 0, where the mutex that it locks was got so often, and in replica 1 never
abbrev pub lent_at : (rank : ℕ) → Core
lent_at rank = ranked rank (replay writers_job (writers_alone ++ take_by 0 1 ∷ []))
