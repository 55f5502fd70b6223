use Rattle.std.proofs.Common.{sym, ap, ◌∙◌, subst}
use Rattle.ro_legal.specs.Core.{Job}
use Rattle.ro_legal.specs.Modes.{Mode, replay}
use Rattle.ro_core.specs.Seen.{Appends, return_of}
use Rattle.ro_core.specs.Runs.{fields_of, job_of, silent}
use Rattle.ro_cores.proofs.voted.CoreRunCore.give_back.Goals as goal

pub returns-clause-entry : goal.returns-clause-entry
returns-clause-entry c =
    subst (λ (m : Mode). Appends (silent c.args.self.now) (silent c.put.new.self) (return_of (replay m (job_of c.args.self.now) (fields_of c.args.self.now).journal) c.args.back)) (sym c.requires.holds.1) c.put.ensures.entry

pub returns-clause-holds : goal.returns-clause-holds
returns-clause-holds c = (c.put.ensures.holds, ap (λ (j : Job). j.settings.mode) (returns-clause-entry c).job ∙ c.requires.holds.1)

pub returns-clause-output : goal.returns-clause-output
returns-clause-output c =
    let new = ap (λ (m : Mode). (replay m (job_of c.put.new.self) (fields_of c.put.new.self).journal).output) (returns-clause-holds c).1 in
    let old = ap (λ (m : Mode). (replay m (job_of c.args.self.now) (fields_of c.args.self.now).journal).output) c.requires.holds.1 in
    new ∙ (c.put.ensures.output ∙ sym old)
