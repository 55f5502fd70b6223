-- How many replicas may run.
use Rattle.std.proofs.Common.{◌≤◌, ℕ, arith, inl, inr}
use Rattle.ro_settings.specs.Ranges.{IsReplicas}

-- at least two and at most five
pub few-replicas : (n : ℕ) → IsReplicas n → (2 ≤ n) × (n ≤ 5)
few-replicas n (inl e) = (omega arith, omega arith)
few-replicas n (inr (inl e)) = (omega arith, omega arith)
few-replicas n (inr (inr e)) = (omega arith, omega arith)
