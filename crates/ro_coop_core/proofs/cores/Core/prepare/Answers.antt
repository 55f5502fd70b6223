use Rattle.std.proofs.Common.{refl, sym, ◌∙◌, subst, arith}
use Rattle.std.proofs.lemmas.List.{with_items_is}
use Rattle.ro_coop_core.specs.Seats.{AreHome}
use Rattle.ro_coop_core.specs.Fields.{Fields, core_in}
use Rattle.ro_coop_core.specs.Runs.{fields_of}
use Rattle.ro_coop_core.proofs.AtHome.{home-count}
use Rattle.ro_coop_core.proofs.Makes.{made-room, ready-home}
use Rattle.ro_coop_core.proofs.cores.Core.prepare.Goals as goal

pub returns-clause-makes : goal.returns-clause-makes
returns-clause-makes c =
    let f : Fields = fields_of c.args.self.now in
    let core = core_in f in
    let old = subst (AreHome f.job core.kernel core.replicas core.sides) (sym c.as_mut_slice.ensures.value) (ready-home f c.requires.holds c.requires.alone) in
    let new = c.reserve_all.ensures.kept f.job core.kernel core.replicas core.sides old in
    let many = (home-count f.job core.kernel core.replicas core.sides c.reserve_all.new.seats new).0 ∙ sym (home-count f.job core.kernel core.replicas core.sides c.as_mut_slice.result.now old).0 in
    let items = with_items_is c.args.self.now.seats c.reserve_all.new.seats (many ∙ c.as_mut_slice.ensures.len) in
    made-room f _ c.requires.holds c.requires.alone refl c.in_ok-reserve.ensures.items (subst (AreHome f.job core.kernel core.replicas core.sides) (sym items) new)
    refl refl refl refl refl refl refl refl refl refl refl refl (omega (arith, c.in_ok-reserve.ensures.capacity, c.in_ok-reserve.ensures.len))
