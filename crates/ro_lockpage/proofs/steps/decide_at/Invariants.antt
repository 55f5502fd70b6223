use Rattle.std.proofs.Common.{◌≡◌, ◌-◌, ℕ, List, [], ◌∷◌}
use Rattle.ro_lockpage.specs.Ranks.{AreOlder, first_word}
use Rattle.ro_lockpage.specs.Hands.{first_of}
use Rattle.ro_lockpage.specs.Seats.{Keeps, holding, after_looks}
use Rattle.ro_lockpage.proofs.steps.decide_at.Given as goal

abbrev pub invariant-loop-found : goal.invariant-loop-found
invariant-loop-found l =
    (l.seat.table_id ≡ l.fn.seat.table_id)
    × Keeps (first_of l.fn.seat.me.0.hands).known l.fn.bid.mutex l.fn.bid.rank l.found
    × ((older : List ℕ) × AreOlder l.fn.bid.rank older × (l.seat.me ≡ (holding (after_looks (first_of l.fn.seat.me.0.hands) l.fn.bid.mutex l.fn.bid.rank older l.found ∷ []), l.fn.seat.me.1)))

abbrev pub decreases-loop-found : goal.decreases-loop-found
decreases-loop-found l = first_word l.fn.bid.rank - l.found
