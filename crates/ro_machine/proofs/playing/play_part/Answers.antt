use Rattle.std.proofs.Common.{◌<◌, ◌+◌, ◌∷◌, [], ℕ, replicate, refl, ap, arith}
use Rattle.ro_machine.proofs.Stepping.{if-err}
use Rattle.ro_machine.proofs.Joined.{if-ok, played-plain, played-join, part-counted, halts-later, halts-all}
use Rattle.ro_machine.proofs.playing.play_part.Goals as goal

pub returns-clause-played : goal.returns-clause-played
returns-clause-played g c =
    let h = g.K.Sink.held c.args.out.now in
    let first = played-plain c.args.plain.now c.run_on-ran.new.self c.args.thread c.run_on-ran.result h c.args.progress.steps (c.args.progress.steps + c.from.result) c.args.progress.bytes (ap (λ (n : ℕ). c.args.progress.steps + n) c.from.ensures) c.run_on-ran.ensures.plays in
    if-ok c.play_one.result _ _
    (λ p q. part-counted c.args.plain.now c.play_one.new.plain c.args.thread c.run_on-ran.result h (g.K.Sink.held c.play_one.new.out) c.args.progress.steps p.steps c.args.progress.bytes p.bytes
    (played-join c.args.plain.now c.run_on-ran.new.self (replicate c.run_on-ran.result c.args.thread) (c.args.thread ∷ []) h h (g.K.Sink.held c.play_one.new.out) _ _ p.steps _ _ p.bytes first c.play_one.new.plain q))
    c.play_one.ensures.played

pub returns-clause-halts : goal.returns-clause-halts
returns-clause-halts g c =
    let h = g.K.Sink.held c.args.out.now in
    let first = played-plain c.args.plain.now c.run_on-ran.new.self c.args.thread c.run_on-ran.result h c.args.progress.steps (c.args.progress.steps + c.from.result) c.args.progress.bytes (ap (λ (n : ℕ). c.args.progress.steps + n) c.from.ensures) c.run_on-ran.ensures.plays in
    let less : c.run_on-ran.result < c.args.most = omega (arith, c.run_on-ran.ensures.count, c.if-ran-most.false) in
    if-err c.play_one.result _ _
    (λ e q. halts-all c.args.plain.now c.args.thread c.run_on-ran.result c.args.most h (g.K.Sink.held c.play_one.new.out) c.args.progress.steps (g.K.Sink.failures c.args.out.now) (g.K.Sink.failures c.play_one.new.out) e less
    (halts-later c.args.plain.now c.run_on-ran.new.self (replicate c.run_on-ran.result c.args.thread) (c.args.thread ∷ []) h h (g.K.Sink.held c.play_one.new.out) _ _ 0 _ _ 0 first (g.K.Sink.failures c.args.out.now) (g.K.Sink.failures c.args.out.now) (g.K.Sink.failures c.play_one.new.out) e refl q))
    c.play_one.ensures.halts
