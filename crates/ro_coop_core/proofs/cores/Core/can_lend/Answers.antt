use Rattle.std.proofs.Common.{◌∙◌, arith}
use Rattle.std.proofs.lemmas.Bool.{le-ltb}
use Rattle.ro_coop_core.specs.Runs.{fields_of}
use Rattle.ro_coop_core.proofs.Tests.{count-is, lends-within}
use Rattle.ro_coop_core.proofs.cores.Core.can_lend.Goals as goal

pub is_lendable-requires-clause-replica : goal.is_lendable-requires-clause-replica
is_lendable-requires-clause-replica c = omega (arith, count-is (fields_of c.args.self.now) c.requires.holds)

pub returns-else-replica-self : goal.returns-else-replica-self
returns-else-replica-self c = le-ltb c.args.replica c.args.self.now.settings.replicas c.if-replica-self.false ∙ lends-within (fields_of c.args.self.now) c.requires.holds c.args.replica c.args.thread c.if-replica-self.false
