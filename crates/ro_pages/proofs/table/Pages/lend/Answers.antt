use Rattle.std.proofs.Common.{arith, refl, ap, sym, ◌∙◌}
use Rattle.std.specs.FinMap as map
use Rattle.ro_pages.specs.Words.{bytes_in}
use Rattle.ro_pages.proofs.PageBytes.{same_get, other_get}
use Rattle.ro_pages.proofs.Shown.{shown, inside, read, written, has-written}
use Rattle.ro_pages.proofs.table.Pages.lend.Goals as goal

pub index_mut-requires : goal.index_mut-requires
index_mut-requires c =
    let shows = shown (λ b. bytes_in b.value) c.args.self.now c.self.inside.directory.numbers c.self.inside.backed.items _ c.self.view_is c.self.invariant.0 in
    omega (arith, inside shows c.args.page c.entry-place.result c.entry-place.ensures c.requires.there)

pub returns-clause-lent : goal.returns-clause-lent
returns-clause-lent c =
    let shows = shown (λ b. bytes_in b.value) c.args.self.now c.self.inside.directory.numbers c.self.inside.backed.items _ c.self.view_is c.self.invariant.0 in
    ap (λ m. map.get m c.args.page) c.take_in.ensures.pages ∙ same_get c.args.few.now.pages c.args.page (bytes_in c.index_mut.result.now.value)
    ∙ sym (read shows c.args.page c.entry-place.result c.entry-place.ensures c.requires.there c.index_mut.result.now (bytes_in c.index_mut.result.now.value) c.index_mut.ensures.value refl)

pub returns-clause-others : goal.returns-clause-others
returns-clause-others c other apart =
    ap (λ m. map.get m other) c.take_in.ensures.pages ∙ other_get c.args.few.now.pages c.args.page other (bytes_in c.index_mut.result.now.value) apart

pub returns-clause-kept : goal.returns-clause-kept
returns-clause-kept c other apart =
    let shows = shown (λ b. bytes_in b.value) c.args.self.now c.self.inside.directory.numbers c.self.inside.backed.items _ c.self.view_is c.self.invariant.0 in
    ap (λ m. map.get m other) (written shows c.args.page c.entry-place.result c.entry-place.ensures c.requires.there c.take_in.new.page) ∙ other_get c.args.self.now.pages c.args.page other (bytes_in c.take_in.new.page.value) apart

pub returns-clause-pages : goal.returns-clause-pages
returns-clause-pages c =
    let shows = shown (λ b. bytes_in b.value) c.args.self.now c.self.inside.directory.numbers c.self.inside.backed.items _ c.self.view_is c.self.invariant.0 in
    has-written shows c.args.page c.entry-place.result c.entry-place.ensures c.requires.there c.take_in.new.page
