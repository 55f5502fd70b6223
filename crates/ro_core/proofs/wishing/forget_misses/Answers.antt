use Rattle.std.proofs.Common.{refl, ap, arith}
use Rattle.std.proofs.lemmas.Option.{get_or_from_slice_get}
use Rattle.ro_core.specs.declared.wishing.Wish.{Wish}
use Rattle.ro_core.proofs.Wishings.{changes_set, changes_none}
use Rattle.ro_core.proofs.wishing.forget_misses.Goals as goal

pub returns-then-place-wishes : goal.returns-then-place-wishes
returns-then-place-wishes c = changes_set c.args.place c.args.wishes.now _ _ (λ wish there. (ap (λ (w : Wish). w.pages.items) (get_or_from_slice_get c.args.wishes.now c.args.place wish _ there), refl))

pub returns-else-place-wishes : goal.returns-else-place-wishes
returns-else-place-wishes c = changes_none c.args.place c.args.wishes.now _ (omega arith)
