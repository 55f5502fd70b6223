use Rattle.std.proofs.Common.{arith, ap, ◌∙◌}
use Rattle.std.specs.Box.{with_value}
use Rattle.ro_pages.specs.Held.{memory_of}
use Rattle.ro_pages.specs.Words.{bytes_in}
use Rattle.ro_pages.proofs.Shown.{shown, inside, read, written, has-written}
use Rattle.ro_pages.proofs.Stretches.{stored_page}
use Rattle.ro_pages.proofs.table.Pages.write_in_page.Goals as goal

pub index_mut-requires : goal.index_mut-requires
index_mut-requires c =
    let shows = shown (λ b. bytes_in b.value) c.args.self.now c.self.inside.directory.numbers c.self.inside.backed.items _ c.self.view_is c.self.invariant.0 in
    omega (arith, inside shows c.args.page c.entry-place.result c.entry-place.ensures c.requires.backed)

pub returns-clause-bytes : goal.returns-clause-bytes
returns-clause-bytes c =
    let shows = shown (λ b. bytes_in b.value) c.args.self.now c.self.inside.directory.numbers c.self.inside.backed.items _ c.self.view_is c.self.invariant.0 in
    let words = c.deref_mut-words.result.now in
    let new = c.write_to.new.words in
    let got = read shows c.args.page c.entry-place.result c.entry-place.ensures c.requires.backed c.index_mut.result.now (bytes_in words) c.index_mut.ensures.value (ap bytes_in c.deref_mut-words.ensures.value) in
    ap memory_of (written shows c.args.page c.entry-place.result c.entry-place.ensures c.requires.backed (with_value c.index_mut.result.now new))
    ∙ stored_page c.args.self.now.pages words new c.args.page c.args.offset c.args.bytes.now got c.requires.within c.write_to.ensures

pub returns-clause-pages : goal.returns-clause-pages
returns-clause-pages c =
    let shows = shown (λ b. bytes_in b.value) c.args.self.now c.self.inside.directory.numbers c.self.inside.backed.items _ c.self.view_is c.self.invariant.0 in
    has-written shows c.args.page c.entry-place.result c.entry-place.ensures c.requires.backed (with_value c.index_mut.result.now c.write_to.new.words)
