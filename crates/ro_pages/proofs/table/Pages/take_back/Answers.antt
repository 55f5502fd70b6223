use Rattle.std.proofs.Common.{arith, ap, sym, ◌∙◌}
use Rattle.std.specs.FinMap as map
use Rattle.ro_pages.specs.Words.{bytes_in}
use Rattle.ro_pages.proofs.PageBytes.{same_get, other_get}
use Rattle.ro_pages.proofs.Shown.{shown, inside, written, has-written}
use Rattle.ro_pages.proofs.Shorts.{absent}
use Rattle.ro_pages.proofs.table.Pages.take_back.Goals as goal

pub index_mut-requires : goal.index_mut-requires
index_mut-requires c =
    let shows = shown (λ b. bytes_in b.value) c.args.self.now c.self.inside.directory.numbers c.self.inside.backed.items _ c.self.view_is c.self.invariant.0 in
    omega (arith, inside shows c.in-Some.page c.entry-place.result c.entry-place.ensures (c.requires.mine c.in-Some.page c.in-Some.ensures.some.0))

pub returns-clause-some : goal.returns-clause-some
returns-clause-some c = λ yes.
    let shows = shown (λ b. bytes_in b.value) c.args.self.now c.self.inside.directory.numbers c.self.inside.backed.items _ c.self.view_is c.self.invariant.0 in
    let page = c.in-Some.page in
    let home = c.args.self.now.pages in
    let after = written shows page c.entry-place.result c.entry-place.ensures (c.requires.mine page c.in-Some.ensures.some.0) c.give_back.new.page in (
      page,
      c.in-Some.ensures.some.0,
      c.give_back.ensures.numbers,
      record {
        back = ap (λ m. map.get m page) after ∙ same_get home page (bytes_in c.give_back.new.page.value)
            ∙ sym (ap (λ m. map.get m page) c.give_back.ensures.pages ∙ same_get c.give_back.new.self.pages page (bytes_in c.give_back.new.page.value));
        gone = absent c.give_back.new.self.pages page c.give_back.ensures.gone;
        kept = λ other apart. ap (λ m. map.get m other) after ∙ other_get home page other (bytes_in c.give_back.new.page.value) apart;
        rest = λ other apart. sym (ap (λ m. map.get m other) c.give_back.ensures.pages ∙ other_get c.give_back.new.self.pages page other (bytes_in c.give_back.new.page.value) apart);
      },
    )

pub returns-clause-pages : goal.returns-clause-pages
returns-clause-pages c =
    let shows = shown (λ b. bytes_in b.value) c.args.self.now c.self.inside.directory.numbers c.self.inside.backed.items _ c.self.view_is c.self.invariant.0 in
    has-written shows c.in-Some.page c.entry-place.result c.entry-place.ensures (c.requires.mine c.in-Some.page c.in-Some.ensures.some.0) c.give_back.new.page
