use Rattle.std.proofs.Common.{List, ap, ap₂, ◌∙◌}
use Rattle.std.specs.List.{filter}
use Rattle.ro_region.specs.Permission.{ranges_of}
use Rattle.ro_journal.specs.declared.Lease.{Lease}
use Rattle.ro_core.specs.Fields.{is_free_page}
use Rattle.ro_core.specs.Runs.{fields_of}
use Rattle.ro_core.proofs.Going.{free-are, ranges-here}
use Rattle.ro_core.proofs.cores.Core.free_pages.Goals as goal

pub returns : goal.returns
returns c sharing is =
    let core = c.args.self.now in
    let ranges = ranges_of c.regions.result.now in
    c.keep_free.ensures
    ∙ ap (filter (is_free_page ranges c.as_slice.result.now c.as_slice-2.result.now c.args.replica)) c.copy_of-pages.ensures
    ∙ ap₂ (λ (ls : List Lease) (lent : _). filter (is_free_page ranges ls lent c.args.replica) c.wish.result.now.pages.items) c.as_slice.ensures.value c.as_slice-2.ensures.value
    ∙ free-are (fields_of core) c.requires.holds c.args.replica c.args.thread c.requires.seat sharing is c.wish.result.now c.wish.ensures ranges (ranges-here (fields_of core) c.requires.holds c.regions.result.now c.regions.ensures)
