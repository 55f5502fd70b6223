use Rattle.std.proofs.Common.{◌≡◌, length, sym, ◌∙◌, subst, arith}
use Rattle.std.proofs.lemmas.List.{with_items_is}
use Rattle.ro_journal.specs.Losers.{numbers}
use Rattle.ro_legal.specs.Event.{with_recovered}
use Rattle.ro_core.specs.Fields.{AreHome, IsSeat, AreAllTwins, AreLosers}
use Rattle.ro_legal.proofs.Copies.{length-with-copy}
use Rattle.ro_core.proofs.Grouped.{copies-grouped}
use Rattle.ro_core.proofs.Sitting.{home-count, home-get, seat-within}
use Rattle.ro_core.proofs.seats.Seats.heal.Goals as goal

pub recover_losers-requires-clause-won : goal.recover_losers-requires-clause-won
recover_losers-requires-clause-won c = subst (λ xs. IsSeat xs c.args.won.now.won) (sym c.as_mut_slice.ensures.value) c.requires.won

pub recover_losers-requires-clause-lost : goal.recover_losers-requires-clause-lost
recover_losers-requires-clause-lost c = subst (λ xs. AreLosers xs c.args.won.now.won (numbers c.args.won.now.lost)) (sym c.as_mut_slice.ensures.value) c.requires.lost

pub recover_losers-requires-clause-twins : goal.recover_losers-requires-clause-twins
recover_losers-requires-clause-twins c = subst AreAllTwins (sym c.as_mut_slice.ensures.value) c.requires.twins

pub copy_stops-requires-clause-won : goal.copy_stops-requires-clause-won
copy_stops-requires-clause-won c =
    let stands = c.requires.home.3 in
    let count = home-count c.requires.home.0 c.requires.home.1 c.args.self.now.homes.items c.requires.home.2 stands.home in
    let groups = stands.grouped.count in
    omega (arith, seat-within c.args.self.now.homes.items c.args.won.now.won c.requires.won)

pub copy_stops-requires-clause-lost : goal.copy_stops-requires-clause-lost
copy_stops-requires-clause-lost c loser among =
    let stands = c.requires.home.3 in
    let count = home-count c.requires.home.0 c.requires.home.1 c.args.self.now.homes.items c.requires.home.2 stands.home in
    let groups = stands.grouped.count in
    let l = c.requires.lost loser among in (omega (arith, seat-within c.args.self.now.homes.items loser l.0), l.1)

pub returns-clause-stands : goal.returns-clause-stands
returns-clause-stands c job kernel replicas stands made =
    let old = c.args.self.now.homes in
    let new = c.recover_losers.new.seats in
    let lost = numbers c.args.won.now.lost in
    let after = with_recovered c.args.won.now.won lost replicas in
    let home : AreHome job kernel new after = c.recover_losers.ensures.recovered job kernel replicas (subst (λ xs. AreHome job kernel xs replicas) (sym c.as_mut_slice.ensures.value) stands.home) in
    let count : length new ≡ old.len = home-count job kernel new after home ∙ length-with-copy c.args.won.now.won lost replicas ∙ sym (home-count job kernel old.items replicas stands.home) ∙ sym old.ok.0 in
    record {
      home = subst (λ xs. AreHome job kernel xs after) (sym (with_items_is old new count)) home;
      grouped = copies-grouped _ _ _ replicas _ _ _ (home-get job kernel old.items replicas _ c.requires.won.0 stands.home c.requires.won.1).1 made stands.grouped c.copy_stops.ensures;
    }
