use Rattle.std.proofs.Common.{sym, ap, ◌∙◌}
use Rattle.std.specs.List.{list_all}
use Rattle.ro_coop_core.specs.Seats.{seat_stopped}
use Rattle.ro_coop_core.specs.Runs.{fields_of}
use Rattle.ro_coop_core.proofs.Tests.{vote-test}
use Rattle.ro_coop_core.proofs.cores.Core.can_vote.Goals as goal

pub returns-then-lives_on : goal.returns-then-lives_on
returns-then-lives_on c =
    c.stands_in_all.ensures
    ∙ ap (λ seats. list_all (seat_stopped c.args.thread) seats) c.as_slice.ensures.value
    ∙ vote-test (fields_of c.args.self.now) c.requires.holds c.args.thread c.requires.idle (sym c.if-lives_on.ensures) (sym (c.blocked_call.ensures c.requires.holds) ∙ c.in-None.is)
