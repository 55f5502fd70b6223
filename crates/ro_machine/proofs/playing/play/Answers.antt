use Rattle.std.proofs.Common.{◌≤◌, ◌∙◌, arith}
use Rattle.std.proofs.lemmas.Result.{err_from_is_err_and}
use Rattle.ro_machine.proofs.Joined.{halts-left, played-more}
use Rattle.ro_machine.proofs.playing.play.Goals as goal

pub loop-now-preserved : goal.loop-now-preserved
loop-now-preserved g c =
    let i = c.loop-now.invariant in
    let e = c.in_ok-now.ensures in
    let further : c.loop-now.now.steps ≤ c.in_ok-now.now.steps = omega (arith, e.some) in
    record {
      from = omega (arith, i.from, further);
      most = omega (arith, i.most, e.most);
      bytes = e.bytes;
      calm = e.calm ∙ i.calm;
      played = played-more c.args.plain.now c.loop-now.plain c.play_part.new.plain c.args.thread _ _ _ c.args.progress.steps c.loop-now.now.steps c.in_ok-now.now.steps _ _ _ i.from further i.played e.played;
    }

pub returns-in_err-now-clause-halts : goal.returns-in_err-now-clause-halts
returns-in_err-now-clause-halts g c =
    let p = err_from_is_err_and c.from_residual.result c.from_residual.ensures.1 in
    let i = c.loop-now.invariant in
    let e = c.in_err-now.field-0.0 in
    rw (p.1, p.2)
    (halts-left c.args.plain.now c.loop-now.plain c.args.thread c.args.count _ _ _ c.args.progress.steps c.loop-now.now.steps _ _ (g.K.Sink.failures c.args.out.now) (g.K.Sink.failures c.loop-now.out) (g.K.Sink.failures c.play_part.new.out) e i.from i.most i.played i.calm c.in_err-now.ensures.halts)
