use Rattle.std.proofs.lemmas.Result.{IfOk-weaker}
use Rattle.ro_words.proofs.Grown.{adds_arg}
use Rattle.ro_words.proofs.grammar.bench_grammar.Goals as goal

pub returns : goal.returns
returns c =
    let one = adds_arg _ _ _ _ _ c.in_ok-arg.ensures (c.new.ensures.app, c.new.ensures.local) c.place.ensures.rule c.place.ensures.local in
    IfOk-weaker c.arg-2.result _ _ (λ command added. adds_arg _ command _ _ _ added one c.place-2.ensures.rule c.place-2.ensures.local) c.arg-2.ensures
