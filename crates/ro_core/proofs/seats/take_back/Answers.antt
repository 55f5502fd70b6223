use Rattle.std.proofs.Common.{◌≡◌, refl, sym, ◌∙◌, subst}
use Rattle.ro_plain.proofs.Calls.{some-injective}
use Rattle.ro_replica.specs.Seen.{ReplicaOf}
use Rattle.ro_core.specs.Seated.{TakesBack}
use Rattle.ro_core.proofs.seats.take_back.Goals as goal

pub put_back-requires-clause-program : goal.put_back-requires-clause-program
put_back-requires-clause-program c = (c.requires.can c.in-Some.replica c.in-Some.is).watchdog

pub put_back-requires-clause-low : goal.put_back-requires-clause-low
put_back-requires-clause-low c = (c.requires.can c.in-Some.replica c.in-Some.is).low

pub put_back-requires-clause-mine : goal.put_back-requires-clause-mine
put_back-requires-clause-mine c = (c.requires.can c.in-Some.replica c.in-Some.is).mine

pub returns-in-Some-clause-back : goal.returns-in-Some-clause-back
returns-in-Some-clause-back c = λ value there.
    let same : c.in-Some.replica ≡ value = some-injective (sym c.in-Some.is ∙ there) in
    (c.put_back.new.self, refl, subst (λ (v : ReplicaOf). TakesBack c.args.thread c.args.lane.now c.args.stop v c.put_back.new.self) same (record { program = c.put_back.ensures.program; back = c.put_back.ensures.back }))
