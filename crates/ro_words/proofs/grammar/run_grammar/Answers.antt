use Rattle.std.proofs.lemmas.Result.{IfOk-weaker}
use Rattle.ro_words.proofs.Grown.{adds_arg}
use Rattle.ro_words.proofs.grammar.run_grammar.Goals as goal

pub returns : goal.returns
returns c =
    let place = adds_arg _ _ _ _ _ c.in_ok-arg.ensures (c.new.ensures.app, c.new.ensures.local) c.place.ensures.rule c.place.ensures.local in
    let run = adds_arg _ _ _ _ _ c.in_ok-run.ensures place c.option.ensures.rule c.option.ensures.local in
    let options = c.in_ok-run_options.ensures _ run in
    let journal = adds_arg _ _ _ _ _ c.in_ok-arg-2.ensures options c.flag.ensures.rule c.flag.ensures.local in
    IfOk-weaker c.arg-4.result _ _ (λ command added. adds_arg _ command _ _ _ added journal c.flag-2.ensures.rule c.flag-2.ensures.local) c.arg-4.ensures
