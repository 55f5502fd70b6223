use Rattle.std.proofs.Common.{◌-◌, length, take, drop, sym, ap, ◌∙◌, arith, length-take, length-drop}
use Rattle.ro_io.specs.Outside.{more}
use Rattle.ro_io.proofs.Sends.{more-more, sent-more}
use Rattle.ro_io.proofs.sending.send.Goals as goal

pub loop-sent-preserved : goal.loop-sent-preserved
loop-sent-preserved g c =
    let i = c.loop-sent.invariant in
    let e = c.in-Ok.ensures in (
      omega (arith, c.loop-sent-test.true, e.count.1, length-take (length c.args.bytes.now - c.loop-sent.sent) (drop c.loop-sent.sent c.args.bytes.now), length-drop c.loop-sent.sent c.args.bytes.now),
      e.taken ∙ ap (λ h. more h (take c.in-Ok.taken (take (length c.args.bytes.now - c.loop-sent.sent) (drop c.loop-sent.sent c.args.bytes.now)))) i.1
          ∙ more-more (g.K.Sink.held c.args.out.now) (take c.loop-sent.sent c.args.bytes.now) _
          ∙ ap (more (g.K.Sink.held c.args.out.now)) (sym (sent-more c.args.bytes.now c.loop-sent.sent c.in-Ok.taken (length c.args.bytes.now - c.loop-sent.sent) e.count.1)),
      e.calm ∙ i.2,
      (let before = i.3 in let more = e.sure in omega (arith, before, more)),
    )
