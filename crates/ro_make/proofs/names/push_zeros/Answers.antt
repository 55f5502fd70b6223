use Rattle.ro_make.proofs.Parts.{zeros_more}
use Rattle.ro_make.proofs.names.push_zeros.Goals as goal

pub loop-preserved : goal.loop-preserved
loop-preserved c = zeros_more c.loop.file.items c.push.new.self.items _ c.args.count c.loop.counter c.loop-test.true c.loop.invariant c.in_ok-push.ensures.items
