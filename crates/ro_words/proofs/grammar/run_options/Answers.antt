use Rattle.std.proofs.Common.{refl}
use Rattle.ro_words.proofs.Grown.{adds_arg, goes, goes_on, gone}
use Rattle.ro_words.proofs.grammar.run_options.Goals as goal

pub loop-option-init : goal.loop-option-init
loop-option-init c = λ app reads.
    let a = adds_arg _ _ _ _ _ c.in_ok-arg.ensures reads c.option.ensures.rule c.option.ensures.local in
    goes _ _ _ _ (adds_arg _ _ _ _ _ c.in_ok-whole.ensures a c.option-2.ensures.rule c.option-2.ensures.local) refl

pub loop-option-preserved : goal.loop-option-preserved
loop-option-preserved c = λ app reads. goes_on _ _ _ _ _ c.loop-option.option-index _ c.loop-option-test.true c.in_ok-whole-2.ensures (c.loop-option.invariant app reads) c.number.ensures.rule c.number.ensures.local

pub returns : goal.returns
returns c = λ app reads. gone _ _ c.loop-option.option-index _ c.loop-option-test.false (c.loop-option.invariant app reads)
