use Rattle.std.proofs.Common.{inl, inr, refl}
use Rattle.ro_coop_core.specs.Runs.{fields_of, job_of}
use Rattle.ro_cores.proofs.Majorities.{no-majority}
use Rattle.ro_cores.proofs.together.CoreRunCore.finish.Goals as goal

pub returns-clause-kept : goal.returns-clause-kept
returns-clause-kept c =
    elim [
      | inl differ ↦ c.finish-image.ensures.kept c.requires.holds.0 differ
      | inr majority ↦ absurd (no-majority (job_of c.args.self) (fields_of c.args.self).journal refl c.requires.holds.0.legal majority)
    ]
