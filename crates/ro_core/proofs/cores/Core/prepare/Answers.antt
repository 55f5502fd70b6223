use Rattle.std.proofs.Common.{refl, arith}
use Rattle.ro_core.specs.Runs.{fields_of}
use Rattle.ro_core.proofs.Votes.{made-room, ready-home}
use Rattle.ro_core.proofs.cores.Core.prepare.Goals as goal

pub reserve-requires-2 : goal.reserve-requires-2
reserve-requires-2 c = record { home = (_, _, _, ready-home (fields_of c.args.self.now) c.requires.holds c.requires.alone) }

pub returns-in_err-reserve-2-clause-makes : goal.returns-in_err-reserve-2-clause-makes
returns-in_err-reserve-2-clause-makes c =
    made-room (fields_of c.args.self.now) _ c.requires.holds c.requires.alone refl c.in_ok-reserve.ensures.items
    (c.reserve-2.ensures.kept _ _ _ (ready-home (fields_of c.args.self.now) c.requires.holds c.requires.alone)) refl (record { lent = refl; wishes = refl; lanes = refl }) refl refl refl refl refl refl refl refl refl refl refl refl c.reserve-2.ensures.groups
    (omega (arith, c.in_ok-reserve.ensures.capacity, c.in_ok-reserve.ensures.len))

pub returns-clause-makes : goal.returns-clause-makes
returns-clause-makes c =
    made-room (fields_of c.args.self.now) _ c.requires.holds c.requires.alone refl c.in_ok-reserve.ensures.items
    (c.reserve-2.ensures.kept _ _ _ (ready-home (fields_of c.args.self.now) c.requires.holds c.requires.alone)) refl (record { lent = refl; wishes = refl; lanes = refl }) refl refl refl refl refl refl refl refl refl refl refl refl c.reserve-2.ensures.groups
    (omega (arith, c.in_ok-reserve.ensures.capacity, c.in_ok-reserve.ensures.len))
