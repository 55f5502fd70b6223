use Rattle.std.proofs.Common.{◌≡◌, ◌-◌, [], vec_len, vec_capacity}
use Rattle.ro_lockpage.specs.Hands.{fresh_hands}
use Rattle.ro_lockpage.specs.Seats.{holding}
use Rattle.ro_lockpage.specs.Pages.{fresh_passes}
use Rattle.ro_lockpage.proofs.pages.LockPage.seated.Given as goal

abbrev pub invariant-loop-number : goal.invariant-loop-number
invariant-loop-number l =
    (l.passes.items ≡ fresh_passes l.fn.self.name l.number) × (vec_len l.passes ≡ l.number) × (vec_capacity l.passes ≡ 8)
    × (l.seat.table_id ≡ l.fn.self.name) × (l.seat.me ≡ (holding (fresh_hands l.number (8 - l.number)), []))
