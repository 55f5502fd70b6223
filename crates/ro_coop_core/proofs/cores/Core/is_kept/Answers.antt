use Rattle.std.proofs.Common.{true, false, refl, sym, ◌∙◌}
use Rattle.ro_legal.specs.Sides.{has_asked}
use Rattle.ro_legal.specs.Core.{is_barred}
use Rattle.ro_coop_core.specs.Runs.{state_of}
use Rattle.ro_coop_core.proofs.Barred.{kept-none, kept-some, asks-next}
use Rattle.ro_coop_core.proofs.cores.Core.is_kept.Goals as goal

pub returns-in_default : goal.returns-in_default
returns-in_default c side same parks = kept-none (state_of c.args.self.now) side c.args.mutexes.now c.args.thread c.args.parking same (sym c.number.ensures.number ∙ c.in_default.is)

pub is_barred-requires-clause-next : goal.is_barred-requires-clause-next
is_barred-requires-clause-next c =
    asks-next (state_of c.args.self.now) c.args.mutexes.now c.in-Some.number c.args.parking c.mutex-mutex.result c.requires.had (sym c.number.ensures.number ∙ c.in-Some.is) c.mutex-mutex.ensures c.if-has_asked.ensures

pub returns-then-is_some : goal.returns-then-is_some
returns-then-is_some c side same parks =
    let parking = c.args.parking in
    let mutex = c.mutex-mutex.result in
    c.if-is_some.true
    ∙ kept-some (state_of c.args.self.now) side c.args.mutexes.now c.args.thread c.in-Some.number parking mutex same (sym c.number.ensures.number ∙ c.in-Some.is) c.mutex-mutex.ensures
    true (has_asked parking mutex.rank) (is_barred (state_of c.args.self.now) side c.args.thread parking.mutex parking.rank) c.if-is_some.ensures refl refl

pub returns-then-has_asked : goal.returns-then-has_asked
returns-then-has_asked c side same parks =
    let parking = c.args.parking in
    let mutex = c.mutex-mutex.result in
    kept-some (state_of c.args.self.now) side c.args.mutexes.now c.args.thread c.in-Some.number parking mutex same (sym c.number.ensures.number ∙ c.in-Some.is) c.mutex-mutex.ensures
    false true c.is_barred.result c.if-is_some.ensures c.if-has_asked.ensures (c.is_barred.ensures side parks)

pub returns-else-has_asked : goal.returns-else-has_asked
returns-else-has_asked c side same parks =
    let parking = c.args.parking in
    let mutex = c.mutex-mutex.result in
    c.if-has_asked.false
    ∙ kept-some (state_of c.args.self.now) side c.args.mutexes.now c.args.thread c.in-Some.number parking mutex same (sym c.number.ensures.number ∙ c.in-Some.is) c.mutex-mutex.ensures
    false false (is_barred (state_of c.args.self.now) side c.args.thread parking.mutex parking.rank) c.if-is_some.ensures c.if-has_asked.ensures refl
