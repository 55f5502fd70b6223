use Rattle.std.proofs.Common.{◌≡◌, ◌++◌, ◌∷◌, [], rules}
use Rattle.ro_inject.proofs.Words.{faults-more}
use Rattle.ro_inject.proofs.drawing.draw.Goals as goal

pub loop-preserved : goal.loop-preserved
loop-preserved c =
    let more : c.push.new.self.items ≡ c.loop.faults.items ++ c.next_fault.result ∷ [] = search rules in
    faults-more c.args.bounds.now.ranges.now c.args.bounds.now.only c.args.count c.loop.counter c.loop.generator c.next_fault.new.generator c.loop.faults.items c.push.new.self.items _ c.next_fault.result
    c.loop-test.true c.loop.invariant c.next_fault.ensures.fault c.next_fault.ensures.words more
