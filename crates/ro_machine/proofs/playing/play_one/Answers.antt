use Rattle.std.proofs.Common.{refl, ap, ◌∙◌, subst, length, take, ◌<◌}
use Rattle.std.specs.Prelude.{List, ℕ}
use Rattle.ro_io.specs.Outside.{more}
use Rattle.ro_machine.specs.Seen.{Refuses}
use Rattle.ro_machine.proofs.Joined.{lacks-first, stops-first, breaks-first}
use Rattle.ro_machine.proofs.playing.play_one.Goals as goal

pub returns-in-Err-NoStep-clause-halts : goal.returns-in-Err-NoStep-clause-halts
returns-in-Err-NoStep-clause-halts g c = (
  lacks-first c.args.plain.now c.args.thread (g.K.Sink.held c.args.out.now) c.args.progress.steps (subst (Refuses c.args.plain.now c.args.thread) c.in-Err-NoStep.field-0-is c.in-Err-NoStep.ensures.refused),
  refl,
)

pub returns-in-Err-NoMemory-clause-halts : goal.returns-in-Err-NoMemory-clause-halts
returns-in-Err-NoMemory-clause-halts g c = (stops-first c.args.plain.now c.args.thread (g.K.Sink.held c.args.out.now), refl)

pub returns-in-Some-clause-halts : goal.returns-in-Some-clause-halts
returns-in-Some-clause-halts g c =
    let part = c.in-Some.ensures.part in (
      breaks-first c.args.plain.now c.step.new.self c.args.thread c.in-Some.taken (g.K.Sink.held c.args.out.now) (g.K.Sink.held c.send.new.out) c.in-Ok.ensures.steps
          (subst (λ (xs : List ℕ). c.in-Some.taken < length xs) c.written-written.ensures.bytes part.0)
          (part.1 ∙ ap (λ xs. more (g.K.Sink.held c.args.out.now) (take c.in-Some.taken xs)) c.written-written.ensures.bytes),
      part.2,
    )
