use Rattle.std.proofs.Common.{◌≡◌, ◌+◌, ◌-◌, ◌*◌, ◌≤◌, replicate}
use Rattle.ro_machine.specs.Parts.{Played}
use Rattle.ro_machine.proofs.playing.play.Given as goal

abbrev pub invariant-loop-now : goal.invariant-loop-now
invariant-loop-now g l = record {
  from : l.fn.progress.steps ≤ l.now.steps;
  most : l.now.steps ≤ l.fn.progress.steps + l.fn.count;
  bytes : l.now.bytes ≤ 4096 * l.now.steps;
  calm : g.K.Sink.failures l.out ≡ g.K.Sink.failures l.fn.out;
  played : Played l.fn.plain (replicate (l.now.steps - l.fn.progress.steps) l.thread) l.plain (g.K.Sink.held l.fn.out) (g.K.Sink.held l.out) l.fn.progress.steps l.now.steps l.fn.progress.bytes l.now.bytes;
}

abbrev pub decreases-loop-now : goal.decreases-loop-now
decreases-loop-now g l = l.fn.progress.steps + l.fn.count - l.now.steps
