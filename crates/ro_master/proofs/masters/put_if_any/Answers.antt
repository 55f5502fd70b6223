use Rattle.std.proofs.Common.{◌≡◌, Option, sym, subst}
use Rattle.std.specs.Option.{MatchOption}
use Rattle.ro_cores.specs.Loans.{BackOf}
use Rattle.ro_master.specs.Masters.{PutDid}
use Rattle.ro_master.proofs.masters.put_if_any.Goals as goal

pub returns-clause-did : goal.returns-clause-did
returns-clause-did g c =
    subst (λ (o : Option BackOf). MatchOption o (c.put.new.pass ≡ c.args.pass.now) (λ b. PutDid g.N.Naming.start b c.args.pass.now c.put.new.pass)) (sym c.in-Some.is)
    (record { old = c.args.desk.now; new = c.put.new.self; tied = c.put.ensures.tied.0; now = c.put.ensures.tied.1; did = c.put.ensures.did })
