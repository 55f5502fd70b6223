use Rattle.std.proofs.Common.{◌≡◌, length, sym, ◌∙◌, subst, arith}
use Rattle.std.proofs.lemmas.List.{with_items_is}
use Rattle.ro_legal.specs.Event.{all_applied}
use Rattle.ro_core.specs.Fields.{AreHome}
use Rattle.ro_core.proofs.Sitting.{home-count}
use Rattle.ro_core.proofs.Votes.{length-applied}
use Rattle.ro_core.proofs.seats.Seats.apply.Goals as goal

pub regroup-requires-clause-groups : goal.regroup-requires-clause-groups
regroup-requires-clause-groups c =
    let stands = c.requires.home.3 in
    let count = home-count _ _ _ _ stands.home in
    let groups = stands.grouped.count in
    omega (arith, c.len-replicas.ensures, c.args.self.now.homes.ok.0)

pub returns : goal.returns
returns c = record {
  stands = λ job before after replicas gives stands made wait.
      let old = c.args.self.now.homes in
      let new = c.apply_to_all.new.seats in
      let applied = all_applied c.args.effect.now replicas in
      let home : AreHome job after new applied = c.apply_to_all.ensures job before after replicas gives (subst (λ xs. AreHome job before xs replicas) (sym c.as_mut_slice.ensures.value) stands.home) in
      let count : length new ≡ old.len = home-count job after new applied home ∙ length-applied c.args.effect.now replicas ∙ sym (home-count job before old.items replicas stands.home) ∙ sym old.ok.0 in
      let here = subst (λ xs. AreHome job after xs applied) (sym (with_items_is old new count)) home in
      record {
        home = here;
        grouped = c.regroup.ensures job after replicas stands.grouped made wait (subst (λ xs. AreHome job after xs applied) (sym c.as_slice.ensures.value) here);
      };
}
