use Rattle.std.proofs.Common.{ap, ap₂, ◌∙◌}
use Rattle.std.specs.FinMap as map
use Rattle.ro_pages.specs.Held.{pages_of}
use Rattle.ro_pages.specs.Words.{bytes_in}
use Rattle.ro_pages.proofs.Shown.{shown, listed-is, pushed}
use Rattle.ro_pages.proofs.few.FewPages.take_in.Goals as goal

pub add-requires-clause-new : goal.add-requires-clause-new
add-requires-clause-new c =
    let shows = shown (λ b. bytes_in b.value) c.args.self.now c.self.inside.directory.numbers c.self.inside.backed.items _ c.self.view_is c.self.invariant.0 in
    listed-is shows c.args.number ∙ c.requires.new

pub returns-in-Some-clause-pages : goal.returns-in-Some-clause-pages
returns-in-Some-clause-pages c =
    let shows = shown (λ b. bytes_in b.value) c.args.self.now c.self.inside.directory.numbers c.self.inside.backed.items _ c.self.view_is c.self.invariant.0 in
    ap₂ (pages_of (λ b. bytes_in b.value)) c.add.ensures.numbers c.push_reserved.ensures.items ∙ pushed shows c.args.number c.replace.result c.requires.new
    ∙ ap (λ b. map.insert c.args.self.now.pages c.args.number (bytes_in b.value)) c.replace.ensures.value
