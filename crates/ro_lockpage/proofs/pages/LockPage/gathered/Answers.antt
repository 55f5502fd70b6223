use Rattle.std.proofs.Common.{◌≡◌, ◌++◌, List, map, sym, ap, ◌∙◌, arith}
use Rattle.atomic_table.specs.Seated.{TableId}
use Rattle.ro_lockpage.specs.Hands.{Hand, first_of}
use Rattle.ro_lockpage.specs.Pages.{PageOf, PassOf, seen_of}
use Rattle.ro_lockpage.proofs.Lists.{in_range}
use Rattle.ro_lockpage.proofs.Closing.{taken_more, page_of_taken}
use Rattle.ro_lockpage.proofs.pages.LockPage.gathered.Goals as goal

pub gather-requires-clause-seat : goal.gather-requires-clause-seat
gather-requires-clause-seat c =
    let i = c.loop-pass.invariant in
    let name = c.args.self.now.name in
    let inside = c.self.inside in
    let is : inside.table.shared.table_id ≡ name = ap (λ (v : PageOf). v.name) c.self.view_is in
    let page = page_of_taken name c.args.passes.items c.loop-pass.passes.items c.pop-in-loop-pass.new.self.items c.pop-in-loop-pass.result c.in-Some-pop.pass (map (seen_of name) c.loop-pass.seat.me.0.hands) i.2 c.pop-in-loop-pass.ensures.items c.in-Some-pop.is c.requires.0 in
    let shape = c.self.invariant.3 in
    let some = in_range inside.shape.mutexes inside.shape.rows 0 0 shape.0 shape.2 in (
      i.0 ∙ sym is,
      sym (ap (λ (p : PassOf). p.page) c.into_seat.ensures.seat.0) ∙ page ∙ sym is,
      omega (arith, some, c.self.invariant.1),
    )

pub loop-pass-preserved : goal.loop-pass-preserved
loop-pass-preserved c =
    let i = c.loop-pass.invariant in
    let name = c.args.self.now.name in
    let seat = c.into_seat.result in
    let page = page_of_taken name c.args.passes.items c.loop-pass.passes.items c.pop-in-loop-pass.new.self.items c.pop-in-loop-pass.result c.in-Some-pop.pass (map (seen_of name) c.loop-pass.seat.me.0.hands) i.2 c.pop-in-loop-pass.ensures.items c.in-Some-pop.is c.requires.0 in
    let mine : PassOf = c.in-Some-pop.pass in
    let here : seat.table_id ≡ name = sym (ap (λ (p : PassOf). p.page) c.into_seat.ensures.seat.0) ∙ page in
    let made = c.gather.ensures.seat.1 in (
      c.gather.ensures.seat.0 ∙ i.0,
      ap (λ m. m.1) made ∙ i.1,
      taken_more name c.args.passes.items c.loop-pass.passes.items c.pop-in-loop-pass.new.self.items c.pop-in-loop-pass.result mine c.loop-pass.seat.me.0.hands c.gather.new.seat.me.0.hands (first_of seat.me.0.hands)
          i.2 c.pop-in-loop-pass.ensures.items c.in-Some-pop.is (c.into_seat.ensures.seat.0 ∙ ap (λ (n : TableId). seen_of n (first_of seat.me.0.hands)) here)
          (ap (λ m. m.0.hands) made ∙ ap (λ (l : List Hand). l ++ c.loop-pass.seat.me.0.hands) c.into_seat.ensures.seat.1.1),
    )
