use Rattle.std.proofs.Common.{rules, sym}
use Rattle.std.specs.Prelude.{◌≡◌, true, false, map}
use Rattle.ro_sym.specs.Symbols.{symbol_in}
use Rattle.ro_sym.proofs.Tables.{not-ended, not-clear, is-table}
use Rattle.ro_sym.proofs.table.table_in.Goals as goal

pub returns-then-not-names_end-clause-refused : goal.returns-then-not-names_end-clause-refused
returns-then-not-names_end-clause-refused c = not-ended c.args.strings.now (map symbol_in c.args.symbols.now) c.names_end.result c.names_end.ensures (search rules)

pub returns-then-not-clear-clause-refused : goal.returns-then-not-clear-clause-refused
returns-then-not-clear-clause-refused c =
    not-clear c.args.strings.now (map symbol_in c.args.symbols.now) c.names_end.result c.clear.result c.find_places-places.result c.names_end.ensures (search rules) c.find_places-places.ensures c.clear.ensures (search rules)

pub returns-clause-found : goal.returns-clause-found
returns-clause-found c =
    is-table c.args.strings.now (map symbol_in c.args.symbols.now) c.names_end.result c.clear.result c.find_places-places.result c.call_table.result
    c.names_end.ensures (search rules) c.find_places-places.ensures c.clear.ensures (search rules) c.call_table.ensures
