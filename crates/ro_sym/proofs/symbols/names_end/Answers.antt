use Rattle.std.proofs.Common.{◌∙◌, map}
use Rattle.ro_sym.specs.Symbols.{symbol_in}
use Rattle.ro_sym.proofs.Ends.{below_all}
use Rattle.ro_sym.proofs.symbols.names_end.Goals as goal

pub returns : goal.returns
returns c = c.all_below.ensures ∙ below_all c.args.strings.now c.ended_size.result c.ended_size.ensures (map symbol_in c.args.symbols.now)
