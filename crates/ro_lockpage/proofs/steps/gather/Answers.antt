use Rattle.ro_lockpage.proofs.Moves.{gathers}
use Rattle.ro_lockpage.proofs.steps.gather.Goals as goal

pub join_seat-requires : goal.join_seat-requires
join_seat-requires c =
    let r = c.requires in
    (r.seat.0, r.seat.1, r.empty, r.seat.2, gathers c.args.words.now.key c.args.seat.now.id c.args.seat.now.me.0 c.args.other.id c.args.other.me.0)
