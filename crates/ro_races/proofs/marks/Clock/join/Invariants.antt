use Rattle.std.proofs.Common.{ℕ, ◌≡◌, ◌<◌, ◌≤◌, max, length}
use Rattle.ro_races.specs.Seen.{seen_by}
use Rattle.ro_races.proofs.marks.Clock.join.Given as goal

abbrev pub invariant-loop-thread : goal.invariant-loop-thread
invariant-loop-thread l = record {
  places : length l.self.seen ≡ 16;
  whole : length l.other.seen ≡ 16;
  joined : (v : ℕ) → v < l.thread → seen_by l.self v ≡ max (seen_by l.fn.self v) (seen_by l.other v);
  others : (v : ℕ) → l.thread ≤ v → seen_by l.self v ≡ seen_by l.fn.self v;
}
