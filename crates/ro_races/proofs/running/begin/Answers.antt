use Rattle.std.proofs.Common.{refl}
use Rattle.ro_races.proofs.Standing.{follows-begin}
use Rattle.ro_races.proofs.running.begin.Goals as goal

pub returns-clause-follows : goal.returns-clause-follows
returns-clause-follows c threads =
    follows-begin _ threads _ c.in_ok-plain.ensures.program c.in_ok-plain.ensures.opening c.new.ensures.items c.new-2.ensures.empty c.in_ok-reads.ensures.none c.in_ok-writes.ensures.none refl refl refl
