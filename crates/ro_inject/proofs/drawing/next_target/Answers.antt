use Rattle.std.proofs.Common.{◌≡◌, arith, ap}
use Rattle.ro_inject.specs.Draws.{target_words}
use Rattle.ro_inject.proofs.Words.{register-target, pc-target, byte-target, two-words, one-word}
use Rattle.ro_inject.proofs.drawing.next_target.Goals as goal

pub returns-in-0-clause-target : goal.returns-in-0-clause-target
returns-in-0-clause-target c = register-target c.args.ranges.now c.args.generator.now c.below.new.generator c.below.ensures.after c.args.kind c.below.result c.below-in-0.result c.in-0.is c.below.ensures.word c.below-in-0.ensures.word

pub returns-in-0-clause-words : goal.returns-in-0-clause-words
returns-in-0-clause-words c = two-words c.args.ranges.now c.args.generator.now c.below.new.generator c.below.ensures.after c.args.kind c.below-in-0.new.generator (ap target_words c.in-0.is) c.below-in-0.ensures.after

pub returns-in-1-clause-target : goal.returns-in-1-clause-target
returns-in-1-clause-target c = pc-target c.args.ranges.now c.args.generator.now c.below-in-1.new.generator c.below-in-1.ensures.after c.args.kind c.below-in-1.result c.in-1.is c.below-in-1.ensures.word

pub returns-in-1-clause-words : goal.returns-in-1-clause-words
returns-in-1-clause-words c = one-word c.args.ranges.now c.args.generator.now c.below-in-1.new.generator c.below-in-1.ensures.after c.args.kind (ap target_words c.in-1.is)

pub returns-in_default-clause-target : goal.returns-in_default-clause-target
returns-in_default-clause-target c =
    let two : c.args.kind ≡ 2 = omega (arith, c.requires.kind, c.in_default) in
    byte-target c.args.ranges.now c.args.generator.now c.below-in_default.new.generator c.below-in_default.ensures.after c.args.kind c.args.size c.below-in_default.result c.address_at.result c.below-in_default-2.result two c.requires.size c.below-in_default.ensures.word c.address_at.ensures c.below-in_default-2.ensures.word

pub returns-in_default-clause-words : goal.returns-in_default-clause-words
returns-in_default-clause-words c =
    let two : c.args.kind ≡ 2 = omega (arith, c.requires.kind, c.in_default) in
    two-words c.args.ranges.now c.args.generator.now c.below-in_default.new.generator c.below-in_default.ensures.after c.args.kind c.below-in_default-2.new.generator (ap target_words two) c.below-in_default-2.ensures.after
