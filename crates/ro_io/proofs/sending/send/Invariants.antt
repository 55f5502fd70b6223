use Rattle.std.proofs.Common.{length, ◌+◌, ◌-◌, ◌≡◌, ◌≤◌, take}
use Rattle.ro_io.specs.Outside.{more}
use Rattle.ro_io.proofs.sending.send.Given as goal

abbrev pub invariant-loop-sent : goal.invariant-loop-sent
invariant-loop-sent g l = (l.sent ≤ length l.bytes) × (g.K.Sink.held l.out ≡ more (g.K.Sink.held l.fn.out) (take l.sent l.bytes)) × (g.K.Sink.failures l.out ≡ g.K.Sink.failures l.fn.out) × (g.K.Sink.sure l.fn.out ≤ g.K.Sink.sure l.out + l.sent)

abbrev pub decreases-loop-sent : goal.decreases-loop-sent
decreases-loop-sent g l = length l.bytes - l.sent
