use Rattle.std.proofs.Common.{refl}
use Rattle.ro_plans.proofs.Knowing.{none-passed}
use Rattle.ro_plans.proofs.walk.Walk.new.Goals as goal

pub returns-clause-passed : goal.returns-clause-passed
returns-clause-passed c = none-passed c.args.mode _ refl refl
