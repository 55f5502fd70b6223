use Rattle.std.proofs.Common.{◌<◌, ◌∙◌, [], length, ap, subst}
use Rattle.std.specs.Prelude.{IfSome}
use Rattle.ro_kernel.specs.declared.outcome.Served.{Served}
use Rattle.ro_kernel.specs.Served.{Brings}
use Rattle.ro_kernel.specs.Serve.{Served as Outcome, put_out, serve}
use Rattle.ro_legal.specs.Event.{Event, call_event}
use Rattle.ro_serving.proofs.Occurs.{brings-outcome, brings-blocked, room-now, room-by}
use Rattle.ro_serving.proofs.Leaves.{brings-leaves}
use Rattle.ro_serving.proofs.events.serve.Goals as goal

pub returns-clause-event : goal.returns-clause-event
returns-clause-event c payload =
    let o : Outcome = serve c.args.kernel.now.setup c.args.kernel.now.kernel c.args.thread c.args.call in
    ap (call_event c.args.kernel.now.kernel c.args.thread c.args.call (put_out c.args.call.which payload)) (brings-outcome o c.args.kernel.now c.serve.new.self c.in_ok-served.served c.in_ok-served.ensures.served)
    ∙ c.write_served.ensures.event c.args.kernel.now.kernel c.serve.new.self.kernel payload (brings-blocked o c.args.kernel.now c.serve.new.self c.in_ok-served.served c.in_ok-served.ensures.served)

pub returns-clause-leaves : goal.returns-clause-leaves
returns-clause-leaves c = λ e.
    let plain = c.write_served.ensures.moves e in
    let old = c.args.kernel.now in
    let new = c.serve.new.self in
    brings-leaves old new c.args.thread c.args.call c.in_ok-served.served plain.0 plain.1 c.in_ok-served.ensures.served

pub returns-clause-room : goal.returns-clause-room
returns-clause-room c mapped =
    let old = c.args.kernel.now in
    let new = c.serve.new.self in
    let o : Outcome = serve old.setup old.kernel c.args.thread c.args.call in
    subst (λ (x : Event). IfSome x.effect.range (λ range. length old.kernel.given < 4096))
    (c.write_served.ensures.event old.kernel new.kernel [] (brings-blocked o old new c.in_ok-served.served c.in_ok-served.ensures.served))
    (room-by old.kernel new.kernel c.args.thread c.args.call (put_out c.args.call.which []) c.in_ok-served.served (λ effect e. room-now old new c.args.thread c.args.call effect (subst (λ (x : Served). Brings o old new x) e c.in_ok-served.ensures.served) mapped))
