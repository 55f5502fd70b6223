use Rattle.ro_legal.proofs.TogetherLeases.{put-idles, part-idles, all-idle}
use Rattle.ro_legal.proofs.laws.cooperative_leases_come_back.Goals as goal

pub returns-clause-put : goal.returns-clause-put
returns-clause-put c = put-idles

pub returns-clause-part : goal.returns-clause-part
returns-clause-part c = part-idles

pub returns-clause-idle : goal.returns-clause-idle
returns-clause-idle c = all-idle
