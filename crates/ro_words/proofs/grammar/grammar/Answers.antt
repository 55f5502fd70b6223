use Rattle.std.proofs.lemmas.Result.{IfOk-weaker}
use Rattle.ro_words.proofs.Grown.{adds_subcommand}
use Rattle.ro_words.proofs.grammar.grammar.Goals as goal

pub returns : goal.returns
returns c =
    let run = adds_subcommand _ _ _ _ _ c.in_ok-subcommand.ensures c.line.ensures c.in_ok-run_grammar.ensures in
    let plain = adds_subcommand _ _ _ _ _ c.in_ok-subcommand-2.ensures run c.in_ok-plan_grammar.ensures in
    let races = adds_subcommand _ _ _ _ _ c.in_ok-subcommand-3.ensures plain c.in_ok-plan_grammar-2.ensures in
    let inject = adds_subcommand _ _ _ _ _ c.in_ok-subcommand-4.ensures races c.in_ok-inject_grammar.ensures in
    IfOk-weaker c.subcommand-5.result _ _ (λ command added. adds_subcommand _ command _ _ _ added inject c.in_ok-bench_grammar.ensures) c.subcommand-5.ensures
