-- Where a sink took a part of the last write nothing is lent, and the journal has no end.
use Rattle.std.proofs.Common.{◌≡◌, ◌<◌, ℕ, [], Option, Some, None, sym, ◌∙◌, arith}
use Rattle.std.specs.Prelude.{IsSome}
use Rattle.std.proofs.lemmas.Bool.{false≢true}
use Rattle.ro_journal.specs.Plan.{outcome_of}
use Rattle.ro_legal.specs.Rules.{IsFit, Legal}
use Rattle.ro_legal.proofs.Ordered.{going-parts}
use Rattle.ro_legal.proofs.Rules.{ended-is, wrote-alone}
use Rattle.ro_core.specs.Seen.{CoreOf}
use Rattle.ro_cores.specs.Cores.{left_by}
use Rattle.ro_master.specs.Sessions.{Cuts}

module _ (core : CoreOf) (fit : IsFit core.job) (legal : Legal core.job core.journal) where
  pub failed_alone : (failed : Option ℕ) → Cuts core failed → IsSome failed → (left_by core).leases ≡ []
  failed_alone None cuts some = absurd (false≢true some)
  failed_alone (Some taken) cuts some = wrote-alone core.job core.journal fit legal (let less : taken < (left_by core).wrote = cuts.0 in omega arith)

  pub failed_open : (failed : Option ℕ) → Cuts core failed → IsSome failed → outcome_of core.journal ≡ None
  failed_open None cuts some = absurd (false≢true some)
  failed_open (Some taken) cuts some = sym (ended-is core.job core.journal legal) ∙ (going-parts (left_by core) cuts.1).1
