use Rattle.std.proofs.Common.{◌≡◌, sym, subst}
use Rattle.ro_core.specs.Seen.{CoreOf}
use Rattle.ro_cores.specs.Cores.{left_by}
use Rattle.ro_cores.specs.Loans.{MayReturn, entry_of}
use Rattle.ro_master.proofs.sessions.Session.entry.Goals as goal

pub entry-requires-clause-returns : goal.entry-requires-clause-returns
entry-requires-clause-returns g c =
    subst (λ (v : CoreOf). MayReturn v.job v.journal (g.C.RunCore.back_of c.args.back.now)) (sym c.self.view_is) c.requires

pub returns : goal.returns
returns g c = subst (λ (v : CoreOf). c.entry.result ≡ entry_of (left_by v) (g.C.RunCore.back_of c.args.back.now)) c.self.view_is c.entry.ensures
