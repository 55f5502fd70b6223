use Rattle.std.proofs.Common.{ap, subst, ◌∙◌}
use Rattle.std.specs.List.{slice_get}
use Rattle.ro_pages.specs.Directories.{IsEntry}
use Rattle.ro_pages.proofs.Entries.{once}
use Rattle.ro_pages.proofs.directory.Directory.each_once.Goals as goal

pub returns : goal.returns
returns c page place h =
    subst (λ l. IsEntry l.numbers page place) c.self.view_is (once _ _ c.self.inside.numbers.items page place c.self.invariant.1 (ap (λ l. slice_get l.numbers place) c.self.view_is ∙ h))
