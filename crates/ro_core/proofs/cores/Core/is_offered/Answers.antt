use Rattle.std.proofs.Common.{sym, ◌∙◌}
use Rattle.ro_core.specs.Runs.{fields_of, state_of}
use Rattle.ro_core.proofs.Going.{offers-open, the-sharing}
use Rattle.ro_core.proofs.cores.Core.is_offered.Goals as goal

pub returns-then-shares : goal.returns-then-shares
returns-then-shares c =
    let s = the-sharing (state_of c.args.self.now).sharing c.requires.lends in
    c.is_open.ensures s.0 s.1 ∙ offers-open (fields_of c.args.self.now) c.requires.holds c.args.replica c.args.thread c.requires.seat s.0 s.1 (sym (c.shares.ensures s.0 s.1) ∙ c.if-shares.true)
