use Rattle.std.proofs.Common.{rules, ◌≡◌, None, sym, ◌∙◌}
use Rattle.ro_legal.specs.Core.{may_free}
use Rattle.ro_legal.proofs.Nexts.{none-freed}
use Rattle.ro_core.specs.Runs.{job_of, state_of}
use Rattle.ro_core.proofs.cores.Core.first_to_free.Goals as goal

pub returns-in_err-lowest : goal.returns-in_err-lowest
returns-in_err-lowest c =
    let none : c.lowest_to_free.result ≡ None = search (rules) in
    c.from_residual.ensures ∙ sym (none-freed (job_of c.args.self.now) (state_of c.args.self.now) (sym c.lowest_to_free.ensures ∙ none))
