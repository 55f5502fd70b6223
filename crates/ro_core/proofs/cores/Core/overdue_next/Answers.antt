use Rattle.std.proofs.Common.{sym, arith}
use Rattle.ro_core.specs.Runs.{fields_of}
use Rattle.ro_core.proofs.Tests.{calm-none}
use Rattle.ro_core.proofs.cores.Core.overdue_next.Goals as goal

pub returns-then-votes-self : goal.returns-then-votes-self
returns-then-votes-self c =
    sym (calm-none (fields_of c.args.self.now) c.requires.holds (let votes = c.votes.ensures in let early = c.if-votes-self.true in omega arith))
