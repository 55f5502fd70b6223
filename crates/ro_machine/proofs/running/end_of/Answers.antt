use Rattle.std.proofs.Common.{◌≡◌, ◌∙◌, None, subst, below_more, arith}
use Rattle.ro_machine.specs.Seen.{Refuses}
use Rattle.ro_machine.proofs.Planned.{goes-on, is-stuck, none-there}
use Rattle.ro_machine.proofs.running.end_of.Goals as goal

pub returns-in-Ok : goal.returns-in-Ok
returns-in-Ok c =
    let none : c.args.plain.ended ≡ None = cc in
    goes-on c.args.plain c.loop-thread.plain c.step.new.self c.loop-thread.thread none c.loop-thread.invariant.program c.loop-thread.invariant.same c.in-Ok.ensures.steps

pub loop-thread-preserved : goal.loop-thread-preserved
loop-thread-preserved c =
    let i = c.loop-thread.invariant in
    let refused = subst (Refuses c.loop-thread.plain c.loop-thread.thread) c.in-Err-NoStep.field-0-is c.in-Err-NoStep.ensures.refused in
    record {
      program = c.in-Err-NoStep.ensures.program ∙ i.program;
      same = λ output. c.in-Err-NoStep.ensures.same output ∙ i.same output;
      none = below_more _ _ i.none (none-there c.args.plain c.loop-thread.plain c.loop-thread.thread i.program i.same refused);
    }

pub returns : goal.returns
returns c =
    let none : c.args.plain.ended ≡ None = cc in
    is-stuck c.args.plain none (λ k less. c.loop-thread.invariant.none k (omega arith))
