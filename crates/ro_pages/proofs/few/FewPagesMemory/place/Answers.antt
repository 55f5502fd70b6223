use Rattle.std.proofs.Common.{ap, sym, ◌∙◌}
use Rattle.std.specs.List.{slice_get}
use Rattle.ro_pages.specs.Words.{bytes_in}
use Rattle.ro_pages.proofs.Shown.{shown, listed-at}
use Rattle.ro_pages.proofs.few.FewPagesMemory.place.Goals as goal

pub returns : goal.returns
returns c =
    let shows = shown (λ b. bytes_in b.value) c.args.self.now c.self.inside.directory.numbers c.self.inside.backed.items _ c.self.view_is c.self.invariant.0 in
    ap (λ ns. slice_get ns c.entry.result) (sym shows.listed) ∙ listed-at shows c.args.page c.entry.result c.entry.ensures c.requires.backed
