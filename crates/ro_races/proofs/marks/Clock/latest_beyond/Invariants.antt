use Rattle.std.proofs.Common.{ℕ, ◌≡◌, ◌<◌, ◌≤◌, ◌⊎◌, length}
use Rattle.ro_races.specs.Seen.{seen_by}
use Rattle.ro_races.proofs.marks.Clock.latest_beyond.Given as goal

abbrev pub invariant-loop-thread : goal.invariant-loop-thread
invariant-loop-thread l = record {
  places : length l.self.seen ≡ 16;
  above : (v : ℕ) → v < l.thread → (seen_by l.self v ≤ seen_by l.past v) ⊎ (seen_by l.self v ≤ l.latest);
  found : (l.latest ≡ 0) ⊎ ((v : ℕ) × (l.latest ≡ seen_by l.self v) × (seen_by l.past v < l.latest));
}
