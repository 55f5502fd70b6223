use Rattle.std.proofs.Common.{ℕ, ◌≡◌, false, drop}
use Rattle.std.specs.FinMap as map
use Rattle.ro_pages.specs.Directories.{is_listed}
use Rattle.ro_pages.proofs.table.Pages.is_same.Given as goal

abbrev pub invariant-loop-page : goal.invariant-loop-page
invariant-loop-page l = (q : ℕ) → is_listed (drop l.page-index l.page-items) q ≡ false → map.get l.self.pages q ≡ map.get l.other.pages q
