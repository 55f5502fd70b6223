use Rattle.std.proofs.Common.{sym, ◌∙◌}
use Rattle.ro_legal.proofs.Ordered.{ordered}
use Rattle.ro_legal.proofs.laws.same_pages.Goals as goal

pub returns : goal.returns
returns c job journal legal number other one two here there =
    let o = ordered job journal legal in
    (o.sound number one here).same_backed ∙ sym (o.sound other two there).same_backed
