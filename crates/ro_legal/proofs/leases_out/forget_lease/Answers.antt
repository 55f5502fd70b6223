use Rattle.std.proofs.Common.{rules}
use Rattle.std.proofs.lemmas.Fn.{filter_same}
use Rattle.ro_legal.proofs.leases_out.forget_lease.Goals as goal

pub returns-else-is_alone : goal.returns-else-is_alone
returns-else-is_alone c = record { items = filter_same _ _ _ (λ x b f' k. search rules) _ _ c.retain.ensures.filtered }
