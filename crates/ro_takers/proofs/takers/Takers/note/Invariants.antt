use Rattle.std.proofs.Common.{ℕ, ◌≡◌, ◌-◌, ◌≤◌, ◌++◌, List, length, max, replicate, slice_index, slice_set}
use Rattle.ro_takers.specs.Recalls.{Recalls, list_of}
use Rattle.ro_takers.proofs.takers.Takers.note.Given as goal

-- so far it was got up to the counter
abbrev pub invariant-loop : goal.invariant-loop
invariant-loop l = record {
  count : length l.self.ranks ≡ length l.fn.self.ranks;
  counted : slice_index l.self.ranks l.number ≡ l.counter;
  from : slice_index l.fn.self.ranks l.number ≤ l.counter;
  upto : l.counter ≤ max (slice_index l.fn.self.ranks l.number) l.rank;
  lists : (lists : List (List ℕ)) → Recalls lists l.fn.self → Recalls (slice_set lists l.number (list_of lists l.number ++ replicate (l.counter - length (list_of lists l.number)) l.thread)) l.self;
  room : l.self.room ≡ l.fn.self.room;
}
