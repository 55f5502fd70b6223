use Rattle.std.proofs.Common.{◌≡◌, ◌*◌, ◌≤◌, take}
use Rattle.ro_plans.specs.Plans.{plan_in}
use Rattle.ro_plans.specs.Walks.{Passed, mode_of}
use Rattle.ro_machine.specs.Parts.{Played}
use Rattle.ro_machine.proofs.playing.play_all.Given as goal

abbrev pub invariant-loop-place : goal.invariant-loop-place
invariant-loop-place g l = record {
  mode : mode_of l.walk ≡ l.fn.mode;
  passed : Passed l.walk (take l.place l.journal);
  bytes : l.now.bytes ≤ 4096 * l.now.steps;
  calm : g.K.Sink.failures l.out ≡ g.K.Sink.failures l.fn.out;
  played : Played l.fn.plain (plan_in l.fn.mode (take l.place l.journal)) l.plain (g.K.Sink.held l.fn.out) (g.K.Sink.held l.out) 0 l.now.steps 0 l.now.bytes;
}
