use Rattle.ro_replica.proofs.Starts.{twins}
use Rattle.ro_replica.proofs.rows.recover_second.Goals as goal

pub recover_one-requires : goal.recover_one-requires
recover_one-requires g c =
    twins _ _ 0 1 1000 _ c.in_ok-loser.loser c.requires.winner c.in_ok-loser.ensures
