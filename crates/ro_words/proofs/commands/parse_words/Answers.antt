use Rattle.std.proofs.Common.{◌≡◌, ◌∙◌, ap, refl, option_map}
use Rattle.clap.specs.Faults.{is_simple_and_free}
use Rattle.clap.specs.Simple.{app_of, subcommand_rows_of}
use Rattle.clap.proofs.TakesLemmas.{passed_up}
use Rattle.ro_words.specs.Commands.{asked_by, command_of}
use Rattle.ro_words.specs.Uses.{texts_of}
use Rattle.ro_words.proofs.Alike.{all_spoken, romain_is_plain}
use Rattle.ro_words.proofs.Found.{given_ok, given_refused, read_words, refused_words}
use Rattle.ro_words.proofs.commands.parse_words.Goals as goal

pub matches_of-requires : goal.matches_of-requires
matches_of-requires c = ap is_simple_and_free c.in_ok-grammar.ensures.0 ∙ romain_is_plain

pub returns-in_err-matches-clause-refused : goal.returns-in_err-matches-clause-refused
returns-in_err-matches-clause-refused c =
    let none = refused_words all_spoken (texts_of c.args.words.now) (app_of c.in_ok-grammar.field-0) c.in_err-matches.field-0.0 (refl, (refl, (refl, (refl, (refl, tt))))) c.in_ok-grammar.ensures.0
    c.in_err-matches.ensures.refused in
    passed_up c.from_residual-in_err-matches.result c.in_err-matches.field-0.0 _ c.from_residual-in_err-matches.ensures.1 none

-- what is read of the matches is what the words ask for
read : (c : goal.Joined-matches) → option_map asked_by c.command_in.result ≡ command_of (texts_of c.args.words.now)
read c =
    let reads = c.command_in.ensures in
    read_words all_spoken (texts_of c.args.words.now) (app_of c.in_ok-grammar.field-0) (subcommand_rows_of c.in_ok-matches.matches) _ c.in_ok-grammar.ensures.0
    c.in_ok-matches.ensures.words c.in_ok-matches.ensures.parsed c.in_ok-matches.ensures.rows
    ((λ ends flags is used. reads.run ends flags is used.0 used.1.0), ((λ ends flags is used. reads.plain ends is), ((λ ends flags is used. reads.races ends is), ((λ ends flags is used. reads.inject ends is), ((λ ends flags is used. reads.bench ends is), tt)))))

pub returns-clause-spelled : goal.returns-clause-spelled
returns-clause-spelled c = given_ok asked_by c.command_in.result c.ok_or.result _ c.ok_or.ensures.ok_part (read c)

pub returns-clause-refused : goal.returns-clause-refused
returns-clause-refused c = given_refused asked_by c.command_in.result c.ok_or.result _ c.ok_or.ensures.ok_part (read c)
