use Rattle.std.proofs.Common.{◌≡◌}
use Rattle.test_threaded.proofs.lock_pages.Hall.ask.Given as goal

abbrev pub invariant-loop-rank : goal.invariant-loop-rank
invariant-loop-rank l = (l.self ≡ l.fn.self) × (l.pass.page ≡ l.fn.pass.page)
