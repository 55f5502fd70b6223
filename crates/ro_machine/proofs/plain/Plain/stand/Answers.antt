use Rattle.ro_kernel.specs.Kernel.{ranges_in}
use Rattle.std.proofs.Common.{subst, ap, ◌∙◌, ◌++◌}
use Rattle.std.specs.Arc.{arc_value}
use Rattle.ro_machine.specs.Seen.{PlainOf, StepsFrom}
use Rattle.ro_machine.proofs.Stepping.{stand-call}
use Rattle.ro_machine.proofs.plain.Plain.stand.Goals as goal

pub returns-in_ok-came-in-Calls-clause-steps : goal.returns-in_ok-came-in-Calls-clause-steps
returns-in_ok-came-in-Calls-clause-steps c =
    subst (λ (v : PlainOf). StepsFrom v c.args.thread c.args.stop (record { program = record { image = (arc_value c.self.inside.image); input = c.serve.new.kernel.setup.input }; held = c.serve.new.pages; cpus = c.serve.new.cpus.items; kernel = c.serve.new.kernel.kernel; ended = c.in_ok-came-in-Calls.came.how; written = c.serve.new.written.items })) c.self.view_is
    (stand-call (arc_value c.self.inside.image) c.self.inside.kernel c.self.inside.pages c.self.inside.cpus.items c.self.inside.written.items (ranges_in c.self.inside.kernel.setup c.self.inside.kernel.kernel) c.self.inside.ended c.args.thread c.in-Calls.call c.args.stop (record { program = record { image = (arc_value c.self.inside.image); input = c.serve.new.kernel.setup.input }; held = c.serve.new.pages; cpus = c.serve.new.cpus.items; kernel = c.serve.new.kernel.kernel; ended = c.in_ok-came-in-Calls.came.how; written = c.serve.new.written.items }) c.in-Calls.is (ap (λ v. v.ended) c.self.view_is ∙ c.requires.going) (ap (λ r. c.self.inside.kernel.kernel.given ++ r) c.self.invariant.ranges_are) c.self.invariant.ranges_are c.self.invariant.heap_is
    c.in_ok-came-in-Calls.ensures.served)
