use Rattle.std.proofs.lemmas.Result.{IfOk-weaker}
use Rattle.ro_words.proofs.Grown.{adds_subcommand}
use Rattle.ro_words.proofs.grammar.audit_line.Goals as goal

pub returns : goal.returns
returns c =
    IfOk-weaker c.subcommand.result _ _ (λ command added. adds_subcommand _ command _ _ _ added c.line.ensures c.in_ok-audit_grammar.ensures) c.subcommand.ensures
