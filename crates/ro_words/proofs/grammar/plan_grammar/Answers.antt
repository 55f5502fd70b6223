use Rattle.std.proofs.lemmas.Result.{IfOk-weaker}
use Rattle.ro_words.proofs.Grown.{adds_arg}
use Rattle.ro_words.proofs.grammar.plan_grammar.Goals as goal

pub returns : goal.returns
returns c =
    let none = adds_arg _ _ _ _ _ c.in_ok-arg.ensures (c.new.ensures.app, c.new.ensures.local) c.place.ensures.rule c.place.ensures.local in
    let a = adds_arg _ _ _ _ _ c.in_ok-arg-2.ensures none c.needed.ensures.rule c.needed.ensures.local in
    IfOk-weaker c.arg-3.result _ _ (λ command added. adds_arg _ command _ _ _ added a c.option.ensures.rule c.option.ensures.local) c.arg-3.ensures
