use Rattle.std.proofs.Common.{sym, ◌∙◌}
use Rattle.ro_legal.proofs.Upsets.{ordered-moments}
use Rattle.ro_legal.proofs.corruptions.corrupted_pages_are_the_same.Goals as goal

pub returns : goal.returns
returns c job moments possible number other one two here there =
    let o = ordered-moments job moments possible in
    (o.sound number one here).same_backed ∙ sym (o.sound other two there).same_backed
