use Rattle.ro_exec.proofs.Openings.{nothing}
use Rattle.ro_exec.proofs.data.open_in_page.Goals as goal

pub returns-then-page-ge-LAST_PAGE : goal.returns-then-page-ge-LAST_PAGE
returns-then-page-ge-LAST_PAGE g c = nothing _ _ _ _
