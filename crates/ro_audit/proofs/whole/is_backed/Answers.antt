use Rattle.std.proofs.Common.{ap, ◌∙◌}
use Rattle.std.specs.Prelude.{is_some}
use Rattle.ro_replica.specs.Seen.{replica_of}
use Rattle.ro_audit.proofs.Pages.{first-word}
use Rattle.ro_audit.proofs.whole.is_backed.Goals as goal

pub returns : goal.returns
returns c = c.is_some.ensures ∙ ap is_some c.word.ensures ∙ first-word (replica_of c.args.replica.now) c.args.page
