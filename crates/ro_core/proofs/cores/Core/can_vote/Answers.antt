use Rattle.std.proofs.Common.{sym, ◌∙◌}
use Rattle.ro_core.specs.Runs.{fields_of}
use Rattle.ro_core.proofs.Tests.{vote-test}
use Rattle.ro_core.proofs.Votes.{live-few}
use Rattle.ro_core.proofs.cores.Core.can_vote.Goals as goal

pub ready-requires : goal.ready-requires
ready-requires c = live-few (fields_of c.args.self.now) c.requires.holds c.args.thread (sym c.if-lives_on.ensures)

pub returns-then-lives_on : goal.returns-then-lives_on
returns-then-lives_on c =
    c.ready.ensures
    ∙ vote-test (fields_of c.args.self.now) c.requires.holds c.args.thread c.requires.idle (sym c.if-lives_on.ensures) (sym (c.blocked_call.ensures c.requires.holds) ∙ c.in-None.is)
