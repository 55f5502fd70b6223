use Rattle.std.proofs.Common.{option_map, codes}
use Rattle.clap.specs.Matches.{found_of}
use Rattle.clap.specs.Walk.{rows_of}
use Rattle.ro_words.specs.Commands.{audit_by, audit_given}
use Rattle.ro_words.proofs.Found.{flag_read, inner_rows, read_given}
use Rattle.ro_words.proofs.commands.audit_in.Goals as goal

pub returns-clause-audit : goal.returns-clause-audit
returns-clause-audit c = λ rows flags is json.
    let found = found_of c.in_ok-subcommand_matches.field-0.now in
    let same = inner_rows _ _ (rows_of found) rows is c.in_ok-subcommand_matches.ensures.rows in
    read_given found rows (option_map audit_by c.audit_command.result) audit_given flags same
    (c.audit_command.ensures.asked flags (flag_read found rows (codes "json") _ same json))
