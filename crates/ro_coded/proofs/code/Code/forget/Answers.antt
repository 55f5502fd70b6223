use Rattle.std.proofs.Common.{sym}
use Rattle.ro_coded.proofs.Entries.{at_set, beside_set, coded_set, nothing}
use Rattle.ro_coded.proofs.code.Code.forget.Goals as goal

pub returns-clause-code : goal.returns-clause-code
returns-clause-code c words after are same = coded_set words after c.args.self.now.entries c.args.at _ (nothing (after c.args.at) c.args.at) are same

pub returns-clause-fresh : goal.returns-clause-fresh
returns-clause-fresh c entry e = sym (at_set c.args.self.now.entries c.args.at _ entry e)

pub returns-clause-others : goal.returns-clause-others
returns-clause-others c = beside_set c.args.self.now.entries c.args.at _
