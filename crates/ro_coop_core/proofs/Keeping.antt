-- What the journal of a core keeps, as every legal cooperative journal does.
use Rattle.ro_legal.specs.Kept.{KeepsReplicas, KeepsMutexes}
use Rattle.ro_legal.proofs.Together.{keeps-replicas as every-keeps-replicas}
use Rattle.ro_legal.proofs.Mutexes.{mutexes-kept}
use Rattle.ro_coop_core.specs.Fields.{Fields, core_in, Holds}

pub keeps-replicas : (f : Fields) → Holds f → KeepsReplicas f.job (core_in f)
keeps-replicas f h = every-keeps-replicas f.job f.journal h.calm.unstruck h.legal

pub keeps-mutexes : (f : Fields) → Holds f → KeepsMutexes f.job (core_in f)
keeps-mutexes f h = mutexes-kept f.job f.journal h.legal
