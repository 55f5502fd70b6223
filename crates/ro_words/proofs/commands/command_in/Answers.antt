use Rattle.std.proofs.Common.{option_map, codes}
use Rattle.clap.specs.Matches.{found_of}
use Rattle.clap.specs.Walk.{rows_of}
use Rattle.ro_words.specs.Commands.{asked_by, bench_given, inject_given, plain_given, races_given, run_given}
use Rattle.ro_words.specs.Uses.{no_flags}
use Rattle.ro_words.proofs.Found.{flag_read, inner_rows, read_given}
use Rattle.ro_words.proofs.commands.command_in.Goals as goal

pub returns-in-Some-clause-run : goal.returns-in-Some-clause-run
returns-in-Some-clause-run c = λ rows flags is journal recorded.
    let found = found_of c.in-Some.run'.now in
    let same = inner_rows _ _ (rows_of found) rows is c.in-Some.ensures.rows in
    read_given found rows (option_map asked_by c.run_command.result) run_given flags same
    (c.run_command.ensures.asked flags (flag_read found rows (codes "journal") _ same journal) (flag_read found rows (codes "record") _ same recorded))

pub returns-in-Some-subcommand_matches-clause-plain : goal.returns-in-Some-subcommand_matches-clause-plain
returns-in-Some-subcommand_matches-clause-plain c = λ rows is.
    let same = inner_rows _ _ (rows_of (found_of c.in-Some-subcommand_matches.plain.now)) rows is c.in-Some-subcommand_matches.ensures.rows in
    read_given (found_of c.in-Some-subcommand_matches.plain.now) rows (option_map asked_by c.plain_command.result) plain_given no_flags same c.plain_command.ensures.asked

pub returns-in-Some-subcommand_matches-2-clause-races : goal.returns-in-Some-subcommand_matches-2-clause-races
returns-in-Some-subcommand_matches-2-clause-races c = λ rows is.
    let same = inner_rows _ _ (rows_of (found_of c.in-Some-subcommand_matches-2.races.now)) rows is c.in-Some-subcommand_matches-2.ensures.rows in
    read_given (found_of c.in-Some-subcommand_matches-2.races.now) rows (option_map asked_by c.races_command.result) races_given no_flags same c.races_command.ensures.asked

pub returns-in-Some-subcommand_matches-3-clause-inject : goal.returns-in-Some-subcommand_matches-3-clause-inject
returns-in-Some-subcommand_matches-3-clause-inject c = λ rows is.
    let same = inner_rows _ _ (rows_of (found_of c.in-Some-subcommand_matches-3.inject.now)) rows is c.in-Some-subcommand_matches-3.ensures.rows in
    read_given (found_of c.in-Some-subcommand_matches-3.inject.now) rows (option_map asked_by c.inject_command.result) inject_given no_flags same c.inject_command.ensures.asked

pub returns-in_ok-subcommand_matches-clause-bench : goal.returns-in_ok-subcommand_matches-clause-bench
returns-in_ok-subcommand_matches-clause-bench c = λ rows is.
    let same = inner_rows _ _ (rows_of (found_of c.in_ok-subcommand_matches.field-0.now)) rows is c.in_ok-subcommand_matches.ensures.rows in
    read_given (found_of c.in_ok-subcommand_matches.field-0.now) rows (option_map asked_by c.bench_command.result) bench_given no_flags same c.bench_command.ensures.asked
