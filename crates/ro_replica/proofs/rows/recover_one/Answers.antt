use Rattle.ro_replica.proofs.Starts.{twins_stay}
use Rattle.ro_replica.proofs.rows.recover_one.Goals as goal

pub recover-requires : goal.recover-requires
recover-requires g c =
    twins_stay _ _ c.stand.new.replica c.stand-2.new.replica c.requires c.stand.ensures.program c.stand-2.ensures.program c.stand.ensures.held c.stand-2.ensures.held c.stand.ensures.threads c.stand-2.ensures.threads
