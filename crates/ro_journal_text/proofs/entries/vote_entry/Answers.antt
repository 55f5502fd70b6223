use Rattle.std.proofs.Common.{rules}
use Rattle.ro_text.specs.Numbers.{value_of}
use Rattle.ro_journal_text.specs.Reading.{lost_of}
use Rattle.ro_journal_text.proofs.Listed.{vote_refused}
use Rattle.ro_journal_text.proofs.entries.vote_entry.Goals as goal

pub returns-in_default-Err : goal.returns-in_default-Err
returns-in_default-Err c =
    let refused = vote_refused c.args.version (value_of c.args.thread.now) (value_of c.args.count.now) (value_of c.args.won.now) (lost_of c.args.version c.args.lost.now) c.in_default-Err.code c.in_default-Err.ensures'.read in
    search (refused, rules)
