use Rattle.ro_core.proofs.Sitting.{applied-cons}
use Rattle.ro_core.proofs.seats.+apply_to_all.Goals as goal

pub returns : goal.returns
returns n c job before after replicas gives home =
    applied-cons job before after c.args.effect.now c.args.seats.now replicas c.in-Some.seat.now c.apply_in.new.seat c.in-Some.others.now c.apply_to_all.new.seats c.in-Some.ensures.cases.0 home
    (λ replica one. c.apply_in.ensures job before after replica gives one) (λ rest all. c.apply_to_all.ensures job before after rest gives all)
