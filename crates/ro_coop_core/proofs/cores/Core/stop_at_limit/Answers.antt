use Rattle.ro_legal.specs.Cooperative.{for_vote}
use Rattle.ro_legal.proofs.Ordered.{vote-parts}
use Rattle.ro_coop_core.specs.Runs.{fields_of, state_of}
use Rattle.ro_coop_core.proofs.Held.{goes, limit-keeps}
use Rattle.ro_coop_core.proofs.cores.Core.stop_at_limit.Goals as goal

pub conclude-requires-clause-allowed : goal.conclude-requires-clause-allowed
conclude-requires-clause-allowed c = for_vote c.requires.passes.0 c.requires.passes.1 c.requires.passes.2

pub conclude-requires-clause-views : goal.conclude-requires-clause-views
conclude-requires-clause-views c =
    let going = (vote-parts (state_of c.args.self.now) c.requires.passes.0 c.requires.passes.1).going in
    limit-keeps (fields_of c.args.self.now) c.requires.holds (goes (fields_of c.args.self.now) c.requires.holds going).not_ended c.args.self.now.steps c.args.next
