use Rattle.std.proofs.Common.{ℕ, List, refl, sym, ap, subst}
use Rattle.std.specs.Mem.Slots.{slots_items}
use Rattle.atomic_table.specs.Table.{Final, Seen}
use Rattle.ro_lockpage.specs.Ranks.{row_in, word_at, Tells}
use Rattle.ro_lockpage.specs.Seats.{Rule}
use Rattle.ro_lockpage.specs.Pages.{PageOf, PassOf, ClosedOf, AllSince, history}
use Rattle.ro_lockpage.specs.declared.seats.Shape.{Shape}
use Rattle.ro_lockpage.proofs.Closing.{ended, all_since}
use Rattle.ro_lockpage.proofs.pages.LockPage.close.Goals as goal

pub returns-clause-known : goal.returns-clause-known
returns-clause-known c =
    let shape = c.self.inside.shape in
    let seat = c.gathered-seat.result in
    let words = slots_items c.close_with.result.words in
    let slots = slots_items c.close_with.result.slots in
    let final = subst (λ (k : Shape). Final (Seen (Rule k) seat.id seat.me.0) words slots) c.self.invariant.0 c.close_with.ensures.values.2 in
    (ended shape seat.id seat.me.0 words slots c.args.self.name final c.args.passes.items c.gathered-seat.ensures.hands c.requires.0 c.requires.1).known

pub returns-clause-won : goal.returns-clause-won
returns-clause-won c =
    let shape = c.self.inside.shape in
    let seat = c.gathered-seat.result in
    let words = slots_items c.close_with.result.words in
    let slots = slots_items c.close_with.result.slots in
    let final = subst (λ (k : Shape). Final (Seen (Rule k) seat.id seat.me.0) words slots) c.self.invariant.0 c.close_with.ensures.values.2 in
    (ended shape seat.id seat.me.0 words slots c.args.self.name final c.args.passes.items c.gathered-seat.ensures.hands c.requires.0 c.requires.1).won

pub returns-clause-rows : goal.returns-clause-rows
returns-clause-rows c =
    let shape = c.self.inside.shape in
    let seat = c.gathered-seat.result in
    let words = slots_items c.close_with.result.words in
    let slots = slots_items c.close_with.result.slots in
    let final = subst (λ (k : Shape). Final (Seen (Rule k) seat.id seat.me.0) words slots) c.self.invariant.0 c.close_with.ensures.values.2 in
    let told = (ended shape seat.id seat.me.0 words slots c.args.self.name final c.args.passes.items c.gathered-seat.ensures.hands c.requires.0 c.requires.1).told in
    λ m r. subst (λ (n : ℕ). Tells n (history c.args.passes.items) m r (row_in r (word_at shape.rows words m r))) (ap (λ (v : PageOf). v.rows) c.self.view_is) (told m r)

pub returns-clause-since : goal.returns-clause-since
returns-clause-since c =
    let shape = c.self.inside.shape in
    let seat = c.gathered-seat.result in
    let words = slots_items c.close_with.result.words in
    let slots = slots_items c.close_with.result.slots in
    let final = subst (λ (k : Shape). Final (Seen (Rule k) seat.id seat.me.0) words slots) c.self.invariant.0 c.close_with.ensures.values.2 in
    let closed : ClosedOf = record { mutexes = shape.mutexes; rows = shape.rows; words = words } in
    subst (λ (ps : List PassOf). AllSince closed ps) (sym c.gathered-seat.ensures.hands) (all_since shape seat.id seat.me.0 words slots c.args.self.name closed refl refl final)
