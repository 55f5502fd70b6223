use Rattle.std.proofs.Common.{arith, refl, ap, sym, ◌∙◌}
use Rattle.std.specs.FinMap as map
use Rattle.ro_pages.specs.Words.{bytes_in}
use Rattle.ro_pages.proofs.PageBytes.{same_get, other_get}
use Rattle.ro_pages.proofs.Shown.{shown, inside, read}
use Rattle.ro_pages.proofs.table.Pages.lend_copy.Goals as goal

pub index-requires : goal.index-requires
index-requires c =
    let shows = shown (λ b. bytes_in b.value) c.args.self.now c.self.inside.directory.numbers c.self.inside.backed.items _ c.self.view_is c.self.invariant.0 in
    omega (arith, inside shows c.args.page c.entry-place.result c.entry-place.ensures c.requires.there)

pub returns-clause-lent : goal.returns-clause-lent
returns-clause-lent c =
    let shows = shown (λ b. bytes_in b.value) c.args.self.now c.self.inside.directory.numbers c.self.inside.backed.items _ c.self.view_is c.self.invariant.0 in
    ap (λ m. map.get m c.args.page) c.take_copy.ensures.pages ∙ same_get c.args.few.now.pages c.args.page (bytes_in c.index.result.now.value)
    ∙ sym (read shows c.args.page c.entry-place.result c.entry-place.ensures c.requires.there c.index.result.now (bytes_in c.index.result.now.value) c.index.ensures refl)

pub returns-clause-others : goal.returns-clause-others
returns-clause-others c other apart =
    ap (λ m. map.get m other) c.take_copy.ensures.pages ∙ other_get c.args.few.now.pages c.args.page other (bytes_in c.index.result.now.value) apart
