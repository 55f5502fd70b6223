use Rattle.std.proofs.Common.{ap, sym, ◌∙◌}
use Rattle.ro_pages.specs.Directories.{is_listed}
use Rattle.ro_pages.specs.Words.{bytes_in}
use Rattle.ro_pages.proofs.Shorts.{in_some}
use Rattle.ro_pages.proofs.Shown.{shown, listed-is}
use Rattle.ro_pages.proofs.few.FewPages.last.Goals as goal

pub returns-clause-some : goal.returns-clause-some
returns-clause-some c =
    let shows = shown (λ b. bytes_in b.value) c.args.self.now c.self.inside.directory.numbers c.self.inside.backed.items _ c.self.view_is c.self.invariant.0 in
    in_some c.last.result (λ page h. (sym (listed-is shows page) ∙ h.0, (h.1.0, sym shows.listed ∙ h.1.1))) c.last.ensures.some

pub returns-clause-empty : goal.returns-clause-empty
returns-clause-empty c = λ none page.
    let shows = shown (λ b. bytes_in b.value) c.args.self.now c.self.inside.directory.numbers c.self.inside.backed.items _ c.self.view_is c.self.invariant.0 in
    sym (listed-is shows page) ∙ ap (λ ns. is_listed ns page) (c.last.ensures.none none)
