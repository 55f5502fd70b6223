use Rattle.ro_legal.proofs.Lists.{only-among, first-among, second-among}
use Rattle.ro_core.proofs.seats.recover_losers.Goals as goal

pub overwrite-requires-clause-loser : goal.overwrite-requires-clause-loser
overwrite-requires-clause-loser c = (c.requires.lost c.in-One.loser (only-among c.args.lost c.in-One.loser c.in-One.is)).0

pub overwrite-requires-clause-differ : goal.overwrite-requires-clause-differ
overwrite-requires-clause-differ c = (c.requires.lost c.in-One.loser (only-among c.args.lost c.in-One.loser c.in-One.is)).1

pub overwrite-requires-in-Two-clause-loser : goal.overwrite-requires-in-Two-clause-loser
overwrite-requires-in-Two-clause-loser c = (c.requires.lost c.in-Two.first (first-among c.args.lost c.in-Two.first c.in-Two.second c.in-Two.is)).0

pub overwrite-requires-in-Two-clause-differ : goal.overwrite-requires-in-Two-clause-differ
overwrite-requires-in-Two-clause-differ c = (c.requires.lost c.in-Two.first (first-among c.args.lost c.in-Two.first c.in-Two.second c.in-Two.is)).1

pub overwrite-requires-in-Two-2-clause-winner : goal.overwrite-requires-in-Two-2-clause-winner
overwrite-requires-in-Two-2-clause-winner c = c.overwrite-in-Two.ensures.seats c.args.won c.requires.won

pub overwrite-requires-in-Two-2-clause-loser : goal.overwrite-requires-in-Two-2-clause-loser
overwrite-requires-in-Two-2-clause-loser c =
    c.overwrite-in-Two.ensures.seats c.in-Two.second (c.requires.lost c.in-Two.second (second-among c.args.lost c.in-Two.first c.in-Two.second c.in-Two.is)).0

pub overwrite-requires-in-Two-2-clause-differ : goal.overwrite-requires-in-Two-2-clause-differ
overwrite-requires-in-Two-2-clause-differ c = (c.requires.lost c.in-Two.second (second-among c.args.lost c.in-Two.first c.in-Two.second c.in-Two.is)).1
