use Rattle.ro_coop_core.proofs.Sitting.{nobody-shown, shown-cons}
use Rattle.ro_coop_core.proofs.seats.+show_all.Goals as goal

pub returns-in_default-clause-views : goal.returns-in_default-clause-views
returns-in_default-clause-views n c job kernel replicas sides home = nobody-shown job kernel _ replicas sides c.args.seats.now c.args.views.now c.in_default.ensures.cases c.requires.count home

pub returns-clause-views : goal.returns-clause-views
returns-clause-views n c job kernel replicas sides home =
    shown-cons job kernel c.args.seats.now c.in-Some.seat.now c.in-Some.other_seats.now c.in-Some.ensures.cases.0 _ c.show.new.view c.show_all.new.views (λ r d h. c.show.ensures job kernel r d h) (λ rs ds h. c.show_all.ensures.views job kernel rs ds h) replicas sides home
