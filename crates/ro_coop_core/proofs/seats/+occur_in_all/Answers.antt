use Rattle.ro_coop_core.proofs.Sitting.{nobody-there, occurred-cons}
use Rattle.ro_coop_core.proofs.seats.+occur_in_all.Goals as goal

pub returns-in_default : goal.returns-in_default
returns-in_default n c job before after replicas sides gives ranked home = nobody-there job before after c.args.effect.now c.args.thread c.args.entering replicas sides c.args.seats.now c.in_default.ensures.cases home

pub returns : goal.returns
returns n c job before after replicas sides gives ranked home =
    occurred-cons job before after c.args.effect.now c.args.thread c.args.entering c.args.seats.now c.in-Some.seat.now c.occur.new.self c.in-Some.others.now c.occur_in_all.new.seats c.in-Some.ensures.cases.0
    (λ r d its h. c.occur.ensures job before after r d gives its h) (λ rs ds all k. c.occur_in_all.ensures job before after rs ds gives all k) replicas sides ranked home
