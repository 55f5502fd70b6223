use Rattle.ro_legal.proofs.Lasting.{put_idles, part-idles}
use Rattle.ro_legal.proofs.laws.leases_come_back.Goals as goal

pub returns-clause-put : goal.returns-clause-put
returns-clause-put c = put_idles

pub returns-clause-part : goal.returns-clause-part
returns-clause-part c = part-idles
