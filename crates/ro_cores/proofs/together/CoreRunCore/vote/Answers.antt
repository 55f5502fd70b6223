use Rattle.std.proofs.Common.{◌≡◌, ◌⊎◌, [], refl, sym, ap, ◌∙◌, subst}
use Rattle.ro_legal.specs.Core.{may_vote, views_of}
use Rattle.ro_legal.specs.Modes.{Mode, replay}
use Rattle.ro_core.specs.Seen.{IsOfMajority}
use Rattle.ro_coop_core.specs.Runs.{fields_of, job_of, state_of, payload_by}
use Rattle.ro_cores.proofs.Majorities.{agreed-majority, written-majority}
use Rattle.ro_cores.proofs.together.CoreRunCore.vote.Goals as goal

pub returns-clause-majority : goal.returns-clause-majority
returns-clause-majority c =
    let job = job_of c.args.self.now in
    let journal = (fields_of c.args.self.now).journal in
    let views = c.vote.new.self.views.items in
    let writes = c.in_ok-entry.field-0.writes in
    let may = ap (λ (m : Mode). may_vote (replay m job journal) c.args.thread) (sym c.requires.holds.1) ∙ c.requires.may in
    subst (λ (m : Mode). (payload_by views writes ≡ []) ⊎ IsOfMajority (views_of job (replay m job journal) c.args.thread) (payload_by views writes)) (sym c.requires.holds.1)
    (written-majority views (views_of job (state_of c.args.self.now) c.args.thread) writes (λ yes.
    let agreed = c.in_ok-entry.ensures.agreed yes in
    (agreed.0, agreed-majority job journal refl c.requires.holds.0.legal c.requires.holds.0.calm.in_range c.args.thread agreed.0 may agreed.1, agreed.2)))
