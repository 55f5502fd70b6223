use Rattle.std.proofs.Common.{ℕ, Option, sym, ap, ◌∙◌, subst}
use Rattle.ro_legal.specs.Rules.{replay_with}
use Rattle.ro_legal.specs.Action.{next_action as next}
use Rattle.ro_master.specs.Sessions.{Cuts}
use Rattle.ro_core.specs.Seen.{CoreOf}
use Rattle.ro_cores.specs.Cores.{state}
use Rattle.ro_master.proofs.Failing.{sink-next}
use Rattle.ro_master.proofs.sessions.Session.next_action.Goals as goal

pub returns-in-Some : goal.returns-in-Some
returns-in-Some g c =
    let core = g.C.RunCore.seen c.self.inside.core in
    record {
      next = sym (sink-next core c.in-Some.taken (subst (Cuts core) c.in-Some.is c.self.invariant.1))
          ∙ ap (λ (o : Option ℕ). next core.job (replay_with core.job core.journal o)) (sym c.in-Some.is)
          ∙ ap (λ (v : CoreOf). next v.job (state v)) c.self.view_is;
    }

pub returns-in-None : goal.returns-in-None
returns-in-None g c =
    let core = g.C.RunCore.seen c.self.inside.core in
    record {
      next = c.next_action.ensures.next
          ∙ ap (λ (o : Option ℕ). next core.job (replay_with core.job core.journal o)) (sym c.in-None.is)
          ∙ ap (λ (v : CoreOf). next v.job (state v)) c.self.view_is;
    }
