use Rattle.std.proofs.Common.{◌≡◌, subst}
use Rattle.ro_exec.specs.Next.{Layout}
use Rattle.ro_replica.specs.Runs.{struck}
use Rattle.ro_replica.specs.Seen.{replica_of}
use Rattle.ro_replica.proofs.Going.{countable_struck, struck_now, leads_struck}
use Rattle.ro_replica.proofs.replicas.Replica.go_on.Goals as goal

pub returns-clause-leads : goal.returns-clause-leads
returns-clause-leads c =
    let hit = c.strike.result in
    leads_struck _ _ c.args.thread _ _ _ _ _ _ _ c.advance-ran.ensures.leads
    (subst (λ (l : Layout). struck l.ranges (replica_of c.advance-ran.new.self) c.args.thread ≡ record { replica = replica_of c.strike.new.self; hit = hit }) c.advance-ran.ensures.program.layout c.strike.ensures.struck)

pub returns-clause-countable : goal.returns-clause-countable
returns-clause-countable c = countable_struck c.advance-ran.new.self c.strike.new.self c.args.thread _ _ c.strike.ensures.struck c.advance-ran.ensures.countable

pub returns-clause-struck : goal.returns-clause-struck
returns-clause-struck c = struck_now c.advance-ran.new.self c.strike.new.self c.args.thread _ c.strike.ensures.program.layout c.strike.ensures.struck
