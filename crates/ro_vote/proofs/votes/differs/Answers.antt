-- A replica's own view is the same.
use Rattle.std.specs.Prelude.{◌≡◌, true, not}
use Rattle.std.proofs.Common.{sym, ap, subst, ◌∙◌}
use Rattle.ro_event.specs.Views.{View, same_view}
use Rattle.ro_event.proofs.Same.{view-same}
use Rattle.ro_vote.proofs.votes.differs.Goals as goal

pub returns-else-not-is_own : goal.returns-else-not-is_own
returns-else-not-is_own c =
    let own = c.if-not-is_own.false in
    let P : View → Type 0 = λ w. same_view c.args.view.now w ≡ true in
    ap not (own ∙ sym (subst P (sym (c.requires own)) (view-same c.args.view.now)))
