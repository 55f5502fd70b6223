use Rattle.std.proofs.Common.{Bool, List, sym, ap, ap₂, ◌∙◌}
use Rattle.std.specs.Prelude.{◌&&◌, ◌==◌, not, take}
use Rattle.std.specs.List.{list_all, list_any}
use Rattle.ro_region.specs.Permission.{ranges_of}
use Rattle.ro_journal.specs.declared.Lease.{Lease}
use Rattle.ro_core.specs.Fields.{is_free_page}
use Rattle.ro_core.specs.Runs.{fields_of}
use Rattle.ro_core.proofs.Going.{open-is, open-out, ranges-here}
use Rattle.ro_core.proofs.cores.Core.is_open.Goals as goal

pub returns-then-not-is_out : goal.returns-then-not-is_out
returns-then-not-is_out c sharing is =
    let core = c.args.self.now in
    let ranges = ranges_of c.regions.result.now in
    let out = sym c.is_out.ensures ∙ c.if-not-is_out.true in
    let leases = ap (list_any (λ (l : Lease). (l.replica == c.args.replica) && (l.thread == c.args.thread))) c.as_slice.ensures.value in
    c.are_free.ensures
    ∙ ap (list_all (is_free_page ranges c.as_slice-then-not-is_out.result.now c.as_slice-then-not-is_out-2.result.now c.args.replica)) c.first_of.ensures
    ∙ ap₂ (λ (ls : List Lease) (lent : _). list_all (is_free_page ranges ls lent c.args.replica) (take 2 c.wish.result.now.pages.items)) c.as_slice-then-not-is_out.ensures.value c.as_slice-then-not-is_out-2.ensures.value
    ∙ ap (λ (b : Bool). not b && list_all (is_free_page ranges core.leases.items core.lent.items c.args.replica) (take 2 c.wish.result.now.pages.items)) (sym (sym leases ∙ out))
    ∙ open-is (fields_of core) c.requires.holds c.args.replica c.args.thread c.requires.seat sharing is c.wish.result.now c.wish.ensures ranges (ranges-here (fields_of core) c.requires.holds c.regions.result.now c.regions.ensures)

pub returns-else-not-is_out : goal.returns-else-not-is_out
returns-else-not-is_out c sharing is =
    let leases = ap (list_any (λ (l : Lease). (l.replica == c.args.replica) && (l.thread == c.args.thread))) c.as_slice.ensures.value in
    ap not c.if-not-is_out.false ∙ sym (open-out (fields_of c.args.self.now) c.requires.holds c.args.replica c.args.thread c.requires.seat sharing (sym leases ∙ sym c.is_out.ensures ∙ c.if-not-is_out.false))
