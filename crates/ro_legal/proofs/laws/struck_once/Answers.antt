use Rattle.ro_legal.proofs.Moments.{all-meet}
use Rattle.ro_legal.proofs.laws.struck_once.Goals as goal

pub returns-clause-waiting : goal.returns-clause-waiting
returns-clause-waiting c job journal legal number replica there = (all-meet job journal legal number replica there).waiting

pub returns-clause-struck : goal.returns-clause-struck
returns-clause-struck c job journal legal number replica there = (all-meet job journal legal number replica there).struck
