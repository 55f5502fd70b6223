use Rattle.std.proofs.Common.{◌∙◌}
use Rattle.ro_inject.proofs.Words.{fault-drawn, words-drawn}
use Rattle.ro_inject.proofs.drawing.next_fault.Goals as goal

pub returns-clause-fault : goal.returns-clause-fault
returns-clause-fault c =
    fault-drawn c.args.bounds.now.ranges.now c.args.bounds.now.only c.args.generator.now c.next_replica-replica.new.generator c.below-thread.new.generator c.below.new.generator c.below-kind.new.generator
    c.next_replica-replica.ensures.after c.below-thread.ensures.after c.below.ensures.after c.below-kind.ensures.after
    c.next_replica-replica.result c.below-thread.result c.from-at.result c.below-kind.result c.next_target-target.result
    c.next_replica-replica.ensures.replica c.below-thread.ensures.word (c.from-at.ensures ∙ c.below.ensures.word) c.below-kind.ensures.word c.next_target-target.ensures.target

pub returns-clause-words : goal.returns-clause-words
returns-clause-words c =
    words-drawn c.args.bounds.now.ranges.now c.args.bounds.now.only c.args.generator.now c.next_replica-replica.new.generator c.below-thread.new.generator c.below.new.generator c.below-kind.new.generator
    c.next_replica-replica.ensures.after c.below-thread.ensures.after c.below.ensures.after c.below-kind.ensures.after
    c.below-kind.result c.next_target-target.new.generator c.below-kind.ensures.word c.next_target-target.ensures.words
