use Rattle.std.proofs.Common.{arith, sym, ◌∙◌, get_or, ◌+◌, ◌%◌}
use Rattle.std.proofs.lemmas.Option.{slice_get-get_or}
use Rattle.ro_region.specs.declared.grants.Grant.TheVariants.{Nothing}
use Rattle.ro_region.proofs.Granted.{granted-open}
use Rattle.ro_region.proofs.grants.window.Goals as goal

pub returns-then-grants : goal.returns-then-grants
returns-then-grants c ranges h =
    let place = (c.args.page + 4294639616) % 4294967296 in
    let few = h.count in
    granted-open ranges c.args.pages.now c.args.page place c.args.kind (get_or c.args.pages.now place Nothing) h (omega arith) (slice_get-get_or c.args.pages.now place Nothing (omega arith)) (sym c.grants.ensures ∙ c.if-grants.true)
