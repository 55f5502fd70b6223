use Rattle.ro_words.proofs.Grown.{is_line}
use Rattle.ro_words.proofs.grammar.line.Goals as goal

pub returns : goal.returns
returns c = is_line _ _ _ _ _ (c.new.ensures.app, c.new.ensures.local) c.disable_help_flag.ensures c.disable_help_subcommand.ensures c.subcommand_required.ensures
