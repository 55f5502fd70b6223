use Rattle.std.proofs.Common.{◌∙◌}
use Rattle.ro_pages.specs.Words.{bytes_in}
use Rattle.ro_pages.proofs.Shown.{shown, listed-is}
use Rattle.ro_pages.proofs.table.Pages.has_page.Goals as goal

pub returns : goal.returns
returns c =
    let shows = shown (λ b. bytes_in b.value) c.args.self.now c.self.inside.directory.numbers c.self.inside.backed.items _ c.self.view_is c.self.invariant.0 in
    c.has.ensures ∙ listed-is shows c.args.page
