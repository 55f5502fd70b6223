use Rattle.std.proofs.Common.{◌≡◌, ◌+◌, ◌^◌, ◌%◌, ℕ, ap, ◌∙◌, rules}
use Rattle.std.specs.Prelude.{◌*◌}
use Rattle.ro_report.proofs.Weights.{cut_place}
use Rattle.ro_report.proofs.summaries.add_weight.Goals as goal

pub returns-clause-sum : goal.returns-clause-sum
returns-clause-sum c =
    let same : c.from.result ≡ c.args.byte = search rules in
    ap (λ (n : ℕ). (c.args.sum + c.args.place % 2 ^ 32 * n) % 2 ^ 32) same ∙ cut_place c.args.sum c.args.place c.args.byte
