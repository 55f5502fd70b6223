use Rattle.std.proofs.Common.{ℕ, ◌*◌, ◌+◌, ◌%◌, sym, ◌∙◌, subst}
use mathlib.Core.Option.{none}
use Rattle.atomic_table.specs.Table.{Allows, step}
use Rattle.ro_lockpage.specs.Seats.{Rule, Looks}
use Rattle.ro_lockpage.proofs.Moves.{looks}
use Rattle.ro_lockpage.proofs.steps.load.Goals as goal

pub load-requires : goal.load-requires
load-requires g c =
    let r = c.requires in
    let words = c.args.words.now in
    let seat = c.args.seat.now in
    let A = g.A.Asking in
    let rows = words.key.rows in (
      r.seat.0,
      r.seat.1,
      subst
          (λ (p : ℕ). Allows (Rule words.key) words.table_id.slots seat.id seat.me p (λ n. n) (Looks A.at_mutex A.at_rank (step words.table_id.slots p 0 0 none) seat.me))
          (sym (r.place ∙ (λ i. r.asking.0 i * rows + r.asking.1 i % rows)))
          (looks words.key words.table_id.slots seat.id seat.me A.at_mutex A.at_rank r.one),
    )
