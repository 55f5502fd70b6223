use Rattle.std.proofs.Common.{◌≡◌, [], ◌∙◌, subst}
use Rattle.std.specs.Prelude.{IsSome}
use Rattle.ro_core.specs.Seen.{CoreOf}
use Rattle.ro_cores.specs.Cores.{state}
use Rattle.ro_master.proofs.Calm.{failed_alone}
use Rattle.ro_master.proofs.Failing.{with-leases}
use Rattle.ro_master.proofs.sessions.Session.entries.Goals as goal

pub returns-clause-calm : goal.returns-clause-calm
returns-clause-calm g c =
    let core = g.C.RunCore.seen c.self.inside.core in
    subst (λ (v : CoreOf). IsSome v.failed → (state v).leases ≡ []) c.self.view_is (λ some. with-leases core.job core.journal c.self.inside.failed ∙ failed_alone core c.entries.ensures.fit c.entries.ensures.legal c.self.inside.failed c.self.invariant.1 some)
