use Rattle.std.proofs.Common.{refl, ◌∙◌}
use Rattle.ro_audit.proofs.Running.{runs-for}
use Rattle.ro_audit.proofs.returning.run_for.Goals as goal

-- src/returning.rt:56:1
pub returns : goal.returns
returns c =
    runs-for c.args.most c.args.lent.now _ c.args.got.now c.into_ranks.result c.new-locks.result.ranks c.run-ran.new.locks.ranks c.run-ran.new.locks.ceilings.now c.run-ran.result.count c.run-ran.result.came
    (record { lease = refl; quantum = refl; program = c.run-ran.ensures.program; faultless = c.run-ran.ensures.faultless; ceilings = refl })
    (c.run-ran.ensures.stays ∙ (c.new-locks.ensures.ceilings ∙ c.as_slice.ensures.value))
    (c.new-locks.ensures.ranks ∙ c.take.ensures.taken)
    c.into_ranks.ensures
    c.run-ran.ensures.runs c.run-ran.ensures.knows c.run-ran.ensures.wins
