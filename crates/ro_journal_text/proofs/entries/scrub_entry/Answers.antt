use Rattle.std.proofs.Common.{rules}
use Rattle.ro_text.specs.Numbers.{value_of}
use Rattle.ro_journal_text.specs.declared.versions.Version.TheVariants.{Second}
use Rattle.ro_journal_text.specs.Reading.{lost_of}
use Rattle.ro_journal_text.proofs.Listed.{scrub_refused}
use Rattle.ro_journal_text.proofs.entries.scrub_entry.Goals as goal

pub returns-in-Err : goal.returns-in-Err
returns-in-Err c =
    let refused = scrub_refused (value_of c.args.won.now) (lost_of Second c.args.lost.now) c.in-Err.code c.in-Err.ensures.read in
    search (refused, rules)
