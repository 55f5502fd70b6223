use Rattle.std.proofs.Common.{arith, ap, ◌∙◌, ◌/◌}
use Rattle.ro_pages.specs.Words.{bytes_in}
use Rattle.ro_pages.proofs.Shown.{shown, kept-listed, kept-there, inside, number-read}
use Rattle.ro_pages.proofs.table.PagesMemory.load_kept.Goals as goal

pub index-requires : goal.index-requires
index-requires c =
    let shows = shown (λ b. bytes_in b.value) c.args.self.now c.self.inside.directory.numbers c.self.inside.backed.items _ c.self.view_is c.self.invariant.0 in
    let page = c.args.address / 4096 in
    omega (arith, inside shows page c.args.place (c.each_once.ensures page c.args.place (kept-listed shows c.args.place page c.requires.kept)) (kept-there shows c.args.place page c.requires.kept))

pub returns-clause-value : goal.returns-clause-value
returns-clause-value c =
    let shows = shown (λ b. bytes_in b.value) c.args.self.now c.self.inside.directory.numbers c.self.inside.backed.items _ c.self.view_is c.self.invariant.0 in
    let page = c.args.address / 4096 in
    c.load_from.ensures.value
    ∙ number-read shows c.args.address c.args.size c.args.place c.index.result.now c.deref-words.result.now (c.each_once.ensures page c.args.place (kept-listed shows c.args.place page c.requires.kept)) (kept-there shows c.args.place page c.requires.kept) c.requires.size c.requires.aligned c.index.ensures (ap bytes_in c.deref-words.ensures)
