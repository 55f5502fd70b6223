use Rattle.std.proofs.Common.{arith}
use Rattle.ro_legal.proofs.Lists.{only-among, first-among, second-among}
use Rattle.ro_core.proofs.grouping.copy_stops.Goals as goal

pub copy_row-requires-clause-to : goal.copy_row-requires-clause-to
copy_row-requires-clause-to c = (c.requires.lost c.in-One.loser (only-among c.args.lost c.in-One.loser c.in-One.is)).0

pub copy_row-requires-clause-differ : goal.copy_row-requires-clause-differ
copy_row-requires-clause-differ c = (c.requires.lost c.in-One.loser (only-among c.args.lost c.in-One.loser c.in-One.is)).1

pub copy_row-requires-in-Two-clause-to : goal.copy_row-requires-in-Two-clause-to
copy_row-requires-in-Two-clause-to c = (c.requires.lost c.in-Two.first (first-among c.args.lost c.in-Two.first c.in-Two.second c.in-Two.is)).0

pub copy_row-requires-in-Two-clause-differ : goal.copy_row-requires-in-Two-clause-differ
copy_row-requires-in-Two-clause-differ c = (c.requires.lost c.in-Two.first (first-among c.args.lost c.in-Two.first c.in-Two.second c.in-Two.is)).1

pub copy_row-requires-in-Two-2-clause-to : goal.copy_row-requires-in-Two-2-clause-to
copy_row-requires-in-Two-2-clause-to c =
    let less = (c.requires.lost c.in-Two.second (second-among c.args.lost c.in-Two.first c.in-Two.second c.in-Two.is)).0 in
    let count = c.copy_row-in-Two.ensures.count in omega arith

pub copy_row-requires-in-Two-2-clause-differ : goal.copy_row-requires-in-Two-2-clause-differ
copy_row-requires-in-Two-2-clause-differ c = (c.requires.lost c.in-Two.second (second-among c.args.lost c.in-Two.first c.in-Two.second c.in-Two.is)).1
