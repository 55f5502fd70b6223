use Rattle.std.proofs.Common.{drop}
use Rattle.clap.specs.Faults.{is_free_app}
use Rattle.clap.specs.Simple.{app_of, built, is_simple}
use Rattle.std.specs.List.{list_all}
use Rattle.ro_words.specs.Uses.{is_word, texts_of}
use Rattle.ro_words.proofs.Once.{and_parts}
use Rattle.ro_words.proofs.Refused.{by_kind, failed}
use Rattle.ro_words.proofs.commands.matches_of.Goals as goal

pub returns-in_err-try_get_matches_from-clause-refused : goal.returns-in_err-try_get_matches_from-clause-refused
returns-in_err-try_get_matches_from-clause-refused c =
    failed c.from_residual.result (λ w is. by_kind (list_all is_word (drop 1 (texts_of c.args.words.now))) _ c.in_err-try_get_matches_from.field-0.0 w
    (c.in_err-try_get_matches_from.ensures.kinds c.requires) is) c.from_residual.ensures.1

pub returns-clause-parsed : goal.returns-clause-parsed
returns-clause-parsed c = c.in_ok-try_get_matches_from.ensures.kinds c.requires

pub returns-clause-rows : goal.returns-clause-rows
returns-clause-rows c =
    (c.in_ok-try_get_matches_from.ensures.matches (and_parts (is_simple (app_of c.args.grammar)) (is_free_app (built (app_of c.args.grammar))) c.requires).0).1
