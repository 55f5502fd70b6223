use Rattle.std.proofs.Common.{not, refl, sym, ap, ◌∙◌}
use Rattle.ro_core.specs.Runs.{fields_of, job_of}
use Rattle.ro_core.proofs.Going.{lends-is, offers-whole}
use Rattle.ro_core.proofs.cores.Core.offers.Goals as goal

pub is_offered-requires-clause-lends : goal.is_offered-requires-clause-lends
is_offered-requires-clause-lends c = (lends-is (fields_of c.args.self.now) c.lends_pages.result (c.lends_pages.ensures (job_of c.args.self.now) refl)).0 c.if-not-lends_pages.false

pub returns-then-not-lends_pages : goal.returns-then-not-lends_pages
returns-then-not-lends_pages c =
    let f = fields_of c.args.self.now in
    let none = (lends-is f c.lends_pages.result (c.lends_pages.ensures (job_of c.args.self.now) refl)).1 c.if-not-lends_pages.true in
    ap not c.if-not-lends_pages.true ∙ sym (offers-whole f c.requires.holds c.args.replica c.args.thread c.requires.seat none)
