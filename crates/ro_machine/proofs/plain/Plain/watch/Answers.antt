use Rattle.std.proofs.Common.{sym, ap, ◌∙◌, length}
use Rattle.ro_plain.proofs.Calls.{steppable-parts}
use Rattle.ro_machine.specs.Seen.{machine_of}
use Rattle.ro_machine.specs.Watched.{Sees}
use Rattle.ro_machine.proofs.Noted.{from-step}
use Rattle.ro_machine.proofs.plain.Plain.watch.Goals as goal

pub returns-clause-sees : goal.returns-clause-sees
returns-clause-sees c output =
    let program = c.args.self.now.program in
    let machine = machine_of c.args.self.now output in
    from-step program machine c.args.thread _ (Sees program machine c.args.thread c.told_of.result) (c.in_ok-went.ensures.steps output) (λ cpu live.
    let there = (steppable-parts machine c.args.thread cpu live).there in
    c.told_of.ensures.sees program machine c.args.thread cpu
    (sym (c.made-made.ensures.made ∙ ap (λ v. length v.kernel.lives) c.self.view_is))
    live (c.look_at-look.ensures cpu there) (c.in_ok-went.ensures.told cpu there))
