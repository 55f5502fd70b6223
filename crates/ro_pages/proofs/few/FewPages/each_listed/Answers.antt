use Rattle.ro_pages.specs.Words.{bytes_in}
use Rattle.std.proofs.Common.{sym, ap, ◌∙◌}
use Rattle.ro_pages.specs.Directories.{is_listed}
use Rattle.ro_pages.proofs.Shown.{shown, listed-is}
use Rattle.ro_pages.proofs.few.FewPages.each_listed.Goals as goal

pub returns-clause-listed : goal.returns-clause-listed
returns-clause-listed c = λ page.
    let shows = shown (λ b. bytes_in b.value) c.args.self.now c.self.inside.directory.numbers c.self.inside.backed.items _ c.self.view_is c.self.invariant.0 in
    ap (λ ns. is_listed ns page) (sym shows.listed) ∙ listed-is shows page
