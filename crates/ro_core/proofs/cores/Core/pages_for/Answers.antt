use Rattle.std.proofs.Common.{◌≡◌, ℕ, Some, sym, ap, ◌∙◌, refl}
use Rattle.arrayvec.specs.ArrayVec.{ArrayVec}
use Rattle.ro_legal.specs.Parts.{Pages}
use Rattle.ro_core.specs.Runs.{fields_of, job_of, state_of}
use Rattle.ro_core.proofs.Going.{lends-is, lent-alone, lent-pages, lent-whole, the-sharing}
use Rattle.ro_core.proofs.cores.Core.pages_for.Goals.{else-lends_pages-via-then-lends_pages+else-shares, else-lends_pages-via-else-lends_pages}
use Rattle.ro_core.proofs.cores.Core.pages_for.Goals as goal

pub shares-requires-clause-lends : goal.shares-requires-clause-lends
shares-requires-clause-lends c = (lends-is (fields_of c.args.self.now) c.lends_pages.result (c.lends_pages.ensures (job_of c.args.self.now) refl)).0 c.if-lends_pages.true

pub free_pages-requires-clause-lends : goal.free_pages-requires-clause-lends
free_pages-requires-clause-lends c = (lends-is (fields_of c.args.self.now) c.lends_pages.result (c.lends_pages.ensures (job_of c.args.self.now) refl)).0 c.if-lends_pages.true

pub returns-then-shares-clause-lends : goal.returns-then-shares-clause-lends
returns-then-shares-clause-lends c some = (lends-is (fields_of c.args.self.now) c.lends_pages.result (c.lends_pages.ensures (job_of c.args.self.now) refl)).0 c.if-lends_pages.true

pub returns-then-shares-clause-pages : goal.returns-then-shares-clause-pages
returns-then-shares-clause-pages c pages same =
    let f = fields_of c.args.self.now in
    let lends = (lends-is f c.lends_pages.result (c.lends_pages.ensures (job_of c.args.self.now) refl)).0 c.if-lends_pages.true in
    let s = the-sharing (state_of c.args.self.now).sharing lends in
    let its : c.free_pages.result ≡ pages = (let e : Some c.free_pages.result ≡ Some pages = same in cc) in
    lent-pages f c.requires.holds c.args.replica c.args.thread c.requires.seat s.0 s.1 (sym (c.shares.ensures s.0 s.1) ∙ c.if-shares.true)
    ∙ ap Pages (sym (c.free_pages.ensures s.0 s.1)) ∙ ap (λ (p : ArrayVec ℕ). Pages p.items) its

pub returns-else-lends_pages-clause-whole : goal.returns-else-lends_pages-clause-whole
returns-else-lends_pages-clause-whole c none =
    let f = fields_of c.args.self.now in
    elim c.else-lends_pages.branch [
      | else-lends_pages-via-then-lends_pages+else-shares w ↦
          let lends = (lends-is f c.lends_pages.result (c.lends_pages.ensures (job_of c.args.self.now) refl)).0 w.if-lends_pages.true in
          let s = the-sharing (state_of c.args.self.now).sharing lends in
          lent-whole f c.requires.holds c.args.replica c.args.thread c.requires.seat s.0 s.1 (sym (w.shares.ensures s.0 s.1) ∙ w.if-shares.false)
      | else-lends_pages-via-else-lends_pages w ↦ lent-alone f c.args.replica c.args.thread ((lends-is f c.lends_pages.result (c.lends_pages.ensures (job_of c.args.self.now) refl)).1 w.if-lends_pages.false)
    ]
