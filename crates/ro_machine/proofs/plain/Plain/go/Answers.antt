use Rattle.std.proofs.Common.{inl, inr, ap, ◌∙◌, sym}
use Rattle.std.specs.Prelude.{is_some}
use Rattle.ro_kernel.specs.Kernel.{lives_on}
use Rattle.ro_machine.specs.Seen.{machine_of, SameMachine}
use Rattle.ro_machine.proofs.Stepping.{no-step, on-err}
use Rattle.ro_machine.proofs.plain.Plain.go.Goals as goal
use Rattle.ro_machine.proofs.plain.Plain.go.Goals.{then-is_some-via-then-is_some, then-is_some-via-else-is_some+then-not-lives_on}

pub returns-then-is_some-clause-refused : goal.returns-then-is_some-clause-refused
returns-then-is_some-clause-refused c output =
    no-step c.args.self.now.program (machine_of c.args.self.now output) c.args.thread
    (elim c.then-is_some.branch [
      | then-is_some-via-then-is_some w ↦ inl (ap (λ v. is_some v.ended) (sym c.self.view_is) ∙ (sym c.is_some.ensures ∙ w.if-is_some.true))
      | then-is_some-via-else-is_some+then-not-lives_on w ↦ inr (ap (λ v. lives_on v.kernel c.args.thread) (sym c.self.view_is) ∙ (sym w.lives_on.ensures ∙ w.if-not-lives_on.true))
    ])

pub returns-clause-same : goal.returns-clause-same
returns-clause-same c = on-err c.go_on.result _ (SameMachine c.go_on.new.self c.args.self.now) (λ h output. h output ∙ ap (λ v. machine_of v output) c.self.view_is) c.go_on.ensures.same
