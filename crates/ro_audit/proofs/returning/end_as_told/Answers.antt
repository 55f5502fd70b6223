use Rattle.std.proofs.Common.{ap, ◌∙◌, Option}
use Rattle.std.specs.Prelude.{ℕ, is_some}
use Rattle.ro_audit.proofs.Running.{differs, goes-on, comes-otherwise, waits-nowhere}
use Rattle.ro_audit.proofs.returning.end_as_told.Goals as goal
use Rattle.ro_audit.proofs.returning.end_as_told.Goals.{then-told-lent+else-ran-ne0, else-told-lent}

-- src/returning.rt:111:13
pub returns-then-ran-ne0 : goal.returns-then-ran-ne0
returns-then-ran-ne0 c = (c.refusal-then-ran-ne0.ensures, goes-on c.args.told c.args.lent.now c.look-ran.new.lent c.look-ran.result.count c.look-ran.result.came c.if-told-lent.true c.look-ran.ensures c.if-ran-ne0.true)

-- src/returning.rt:118:9
pub returns-then-is_some-told : goal.returns-then-is_some-told
returns-then-is_some-told c =
    let waits = c.is_some.ensures ∙ ap (λ (o : Option ℕ). is_some o) c.waits_at.ensures in
    let other = differs c.is_some.result c.args.told.waits c.if-is_some-told.true in (
      c.refusal-then-is_some-told.ensures,
      elim c.if-told-lent.branch [
        | then-told-lent+else-ran-ne0 w ↦ comes-otherwise c.args.told c.args.lent.now w.look-ran.new.lent w.look-ran.result.count w.look-ran.result.came c.if-told-lent.came c.is_some.result w.if-told-lent.true w.look-ran.ensures w.came-is waits other
        | else-told-lent w ↦ waits-nowhere c.args.told c.args.lent.now c.if-told-lent.came c.is_some.result c.requires.within w.if-told-lent.false w.came-is waits other
      ],
    )
