use Rattle.std.proofs.Common.{◌∷◌, [], sym, subst}
use Rattle.atomic_table.specs.Table.{Splits}
use Rattle.ro_lockpage.specs.Hands.{first_of, others_of}
use Rattle.ro_lockpage.specs.Seats.{Rule, holding}
use Rattle.ro_lockpage.specs.declared.seats.View.{View}
use Rattle.ro_lockpage.proofs.Moves.{deals}
use Rattle.ro_lockpage.proofs.steps.deal.Goals as goal

pub split_seat-requires : goal.split_seat-requires
split_seat-requires c =
    let r = c.requires in
    let key = c.args.words.now.key in
    let id = c.args.seat.now.id in
    (r.seat.0, r.seat.1, subst (λ (v : View). Splits (Rule key) id v (holding (others_of v.hands)) (holding (first_of v.hands ∷ []))) (sym r.view.2) (deals key id r.view.0 r.view.1))
