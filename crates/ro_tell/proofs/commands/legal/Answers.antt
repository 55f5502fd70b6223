use Rattle.std.proofs.Common.{List, refl, ◌∙◌, subst}
use Rattle.ro_event.specs.Views.{View}
use Rattle.ro_tell.specs.Judging.{IsSplitBy}
use Rattle.ro_tell.proofs.Splits.{told_end}
use Rattle.ro_tell.proofs.commands.legal.Goals as goal

pub returns : goal.returns
returns c job fit tells =
    let entries = c.args.case.now.entries.now in
    let views = c.args.audited.views.items in
    let how = c.ended.ensures.how ∙ tells.how in
    let by = subst (λ (vs : List View). IsSplitBy vs c.in_ok-split.split) c.as_slice.ensures.value c.in_ok-split.ensures in
    record {
      count = refl;
      judged = (tells.legal, tells.joined, tells.steps, how, told_end job entries fit tells.legal views c.in_ok-split.split c.ended.result tells.views how c.ended.ensures.split by, c.odd_at.ensures job tells.next);
      copies = c.in_ok-copies_made.ensures;
    }
