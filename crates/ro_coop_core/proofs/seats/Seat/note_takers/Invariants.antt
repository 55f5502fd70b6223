use Rattle.std.proofs.Common.{◌≡◌, ℕ, List, take}
use Rattle.ro_takers.specs.Recalls.{Recalls}
use Rattle.ro_coop_core.specs.Seats.{noted}
use Rattle.ro_coop_core.proofs.seats.Seat.note_takers.Given as goal

-- so many mutexes are noted
abbrev pub invariant-loop-number : goal.invariant-loop-number
invariant-loop-number l = record {
  home : l.self.home ≡ l.fn.self.home;
  parked : l.self.parked ≡ l.fn.self.parked;
  done : l.self.done ≡ l.fn.self.done;
  takers : (lists : List (List ℕ)) → Recalls lists l.fn.self.takers → Recalls (noted l.thread (take l.number l.peer.mutexes) lists) l.self.takers;
}
