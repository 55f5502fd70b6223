use Rattle.std.proofs.Common.{◌∙◌, arith}
use Rattle.ro_cores.proofs.Passes.{each-from, each-agrees}
use Rattle.ro_cores.proofs.together.CoreRunCore.close.Goals as goal

pub close-requires-clause-ours : goal.close-requires-clause-ours
close-requires-clause-ours c = each-from c.args.page 0 c.args.passes.items (λ number pass at. let its = c.requires.each number pass at in (its.0, its.1 ∙ omega arith))

pub returns : goal.returns
returns c = (c.close.ensures.0, each-agrees c.close.ensures.0 c.args.passes.items c.close.ensures.1)
