use Rattle.std.proofs.Common.{◌≡◌, [], ◌++◌, map, vec_len}
use Rattle.ro_lockpage.specs.Pages.{seen_of}
use Rattle.ro_lockpage.proofs.pages.LockPage.gathered.Given as goal

abbrev pub invariant-loop-pass : goal.invariant-loop-pass
invariant-loop-pass l =
    (l.seat.table_id ≡ l.fn.self.name) × (l.seat.me.1 ≡ [])
    × (l.fn.passes.items ≡ l.passes.items ++ map (seen_of l.fn.self.name) l.seat.me.0.hands)

abbrev pub decreases-loop-pass : goal.decreases-loop-pass
decreases-loop-pass l = vec_len l.passes
