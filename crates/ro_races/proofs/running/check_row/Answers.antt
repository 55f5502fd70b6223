use Rattle.std.proofs.Common.{ℕ, sym, subst, replicate}
use Rattle.ro_machine.specs.Seen.{PlainOf}
use Rattle.ro_machine.specs.Lanes.{closed}
use Rattle.ro_races.specs.Follows.{Follows, StandsAt}
use Rattle.ro_races.proofs.Follow.{follows-same, follows-rows}
use Rattle.ro_races.proofs.running.check_row.Goals as goal

pub returns-in_default-clause-follows : goal.returns-in_default-clause-follows
returns-in_default-clause-follows c program threads f s = follows-same program threads c.args.checker.now c.open.new.self c.open.ensures.program c.open.ensures.same f

pub returns-clause-follows : goal.returns-clause-follows
returns-clause-follows c program threads f s =
    let old = c.args.checker.now in
    let plain = subst (λ (p : PlainOf). Follows program threads (record old { plain = p })) (sym c.in-Some.ensures.closed) (follows-same program threads old c.open.new.self c.open.ensures.program c.open.ensures.same f) in
    let rows = follows-rows program threads (record old { plain = closed c.open.new.self c.in-Some.lane }) c.own_place.new.rows c.in_ok-own.ensures.same plain in
    let stands = subst (λ (t : ℕ). StandsAt threads old.steps (replicate c.args.most t)) (sym c.in-Some.ensures.thread) s in
    subst (λ (p : PlainOf). Follows program threads (record c.check_lane.new.checker { plain = p })) (sym c.close.ensures) (c.in_ok-taken.ensures.follows program threads rows stands)
