use Rattle.std.proofs.Common.{sym, ap, ◌∙◌, subst}
use Rattle.std.specs.Prelude.{if◌then◌else◌, []}
use Rattle.std.proofs.lemmas.Result.{on_ok_weaker}
use Rattle.ro_event.specs.declared.calls.Call.{Call}
use Rattle.ro_event.specs.declared.stops.Stop.{Stop}
use Rattle.ro_kernel.specs.Serve.{put_out}
use Rattle.ro_serving.specs.declared.events.Event.{Event as Happening}
use Rattle.ro_legal.specs.Event.{event_of}
use Rattle.ro_serving.specs.Happening.{event_by, IsCause, IsCallEvent}
use Rattle.ro_serving.proofs.Occurs.{asked-event}
use Rattle.ro_serving.proofs.events.Coming.happen.Goals as goal

pub returns-in-Call-clause-event : goal.returns-in-Call-clause-event
unfolding event_of
returns-in-Call-clause-event c =
    on_ok_weaker c.serve.result (λ x stop payload caused.
    let k = c.args.kernel.now in
    let at = subst (IsCause k.setup k.kernel c.args.thread stop payload c.args.self.now.did) c.in-Call.is caused in
    let call : Call = at.0 in
    ap (λ (s : Stop). event_of k.setup k.kernel c.args.thread s payload) at.1
    ∙ sym (asked-event k.setup k.kernel c.args.thread call payload (put_out call.which payload))
    ∙ subst (λ (put : Call). IsCallEvent k.setup k.kernel c.serve.new.kernel.kernel c.args.thread put c.serve.new.event) at.2 x payload) c.serve.ensures.event

pub returns-in-Quiet-clause-event : goal.returns-in-Quiet-clause-event
returns-in-Quiet-clause-event c stop payload caused =
    let k = c.args.kernel.now in
    subst (IsCause k.setup k.kernel c.args.thread stop payload c.args.self.now.did) c.in-Quiet.is caused ∙ ap (λ (e : Happening). event_by e k.kernel (if e.writes then payload else [])) (sym c.quiet_event.ensures)
