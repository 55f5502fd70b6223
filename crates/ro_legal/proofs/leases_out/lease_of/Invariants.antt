use Rattle.std.proofs.Common.{◌≡◌, drop}
use Rattle.std.specs.Prelude.{◌==◌}
use Rattle.std.specs.List.{find}
use Rattle.ro_legal.proofs.leases_out.lease_of.Given as goal

abbrev pub invariant-loop-lease : goal.invariant-loop-lease
invariant-loop-lease l = find (λ lease. lease.driver == l.driver) (drop l.lease-index l.leases) ≡ find (λ lease. lease.driver == l.driver) l.leases
