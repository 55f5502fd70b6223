use Rattle.std.proofs.Common.{◌≡◌, false, codes, sym, ◌∙◌, rules}
use Rattle.std.specs.Str.{bytes_eq}
use Rattle.ro_journal_text.specs.Reading.{lost_of, is_lost}
use Rattle.ro_journal_text.proofs.Listed.{later_read, ranged_given, ranged_inside}
use Rattle.ro_journal_text.proofs.words.read_lost.Goals as goal

pub returns-in-Second-clause-read : goal.returns-in-Second-clause-read
returns-in-Second-clause-read c =
    let no_dash : bytes_eq c.args.word.now (codes "-") ≡ false = search rules in
    c.read_several.ensures ∙ later_read c.args.version c.args.word.now (sym c.is_number.ensures ∙ c.if-is_number.false) no_dash c.in-Second.is

pub returns-in-Second-clause-given : goal.returns-in-Second-clause-given
returns-in-Second-clause-given c =
    let no_dash : bytes_eq c.args.word.now (codes "-") ≡ false = search rules in
    ranged_given (is_lost c.args.version) (lost_of c.args.version c.args.word.now) c.read_several.result
    (c.read_several.ensures ∙ later_read c.args.version c.args.word.now (sym c.is_number.ensures ∙ c.if-is_number.false) no_dash c.in-Second.is)

pub returns-in-Second-clause-inside : goal.returns-in-Second-clause-inside
returns-in-Second-clause-inside c =
    let no_dash : bytes_eq c.args.word.now (codes "-") ≡ false = search rules in
    ranged_inside (is_lost c.args.version) (lost_of c.args.version c.args.word.now) c.read_several.result
    (c.read_several.ensures ∙ later_read c.args.version c.args.word.now (sym c.is_number.ensures ∙ c.if-is_number.false) no_dash c.in-Second.is)
