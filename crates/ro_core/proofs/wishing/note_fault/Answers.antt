use Rattle.std.proofs.Common.{ap, sym, ◌∙◌, arith, eqb-true}
use Rattle.std.proofs.lemmas.Option.{get_or_from_slice_get}
use Rattle.ro_core.specs.declared.wishing.Wish.{Wish}
use Rattle.ro_core.specs.Seen.{stop_in}
use Rattle.ro_core.specs.Wishing.{wished_behind, missed_behind}
use Rattle.ro_core.proofs.Wishings.{changes_set, changes_none}
use Rattle.ro_core.proofs.wishing.note_fault.Goals as goal

pub returns-then-place-wishes : goal.returns-then-place-wishes
returns-then-place-wishes c = changes_set c.args.place c.args.wishes.now _ _ (λ wish there. (
  c.note_in.ensures.pages ∙ ap (λ (w : Wish). wished_behind (stop_in c.args.thread c.args.loan.now) w.pages.items) (get_or_from_slice_get c.args.wishes.now c.args.place wish _ there),
  c.note_in.ensures.misses ∙ ap (λ (w : Wish). missed_behind c.args.missed w.misses) (get_or_from_slice_get c.args.wishes.now c.args.place wish _ there),
))

pub returns-then-is_empty : goal.returns-then-is_empty
returns-then-is_empty c = changes_none c.args.place c.args.wishes.now _ (let none = eqb-true _ _ (sym c.is_empty.ensures ∙ c.if-is_empty.true) in omega arith)

pub returns-else-place-wishes : goal.returns-else-place-wishes
returns-else-place-wishes c = changes_none c.args.place c.args.wishes.now _ (omega arith)
