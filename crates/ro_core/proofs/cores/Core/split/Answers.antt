use Rattle.std.proofs.Common.{◌≢◌, ◌++◌, ◌∷◌, [], ℕ, sym, ap, ◌∙◌, subst}
use Rattle.ro_journal.specs.declared.How.{How}
use Rattle.ro_journal.specs.declared.How.TheVariants.{Sink}
use Rattle.ro_journal.specs.declared.Entry.{Entry}
use Rattle.ro_journal.specs.declared.Entry.TheVariants.{End}
use Rattle.ro_legal.specs.Legal.{IsAllowed, MayEnd}
use Rattle.ro_core.specs.Seen.{KeepsViews, Appends}
use Rattle.ro_legal.specs.Decides.{DecidesVote}
use Rattle.ro_core.specs.Fields.{split_end}
use Rattle.ro_core.specs.Runs.{fields_of, job_of, state_of, silent}
use Rattle.ro_core.proofs.Splits.{split-ends, split-may, split-keeps, split-going, split-not-over, not-sink}
use Rattle.ro_core.proofs.Concludes.{ended-wrote}
use Rattle.ro_core.proofs.cores.Core.split.Goals as goal

pub conclude-requires-clause-holds : goal.conclude-requires-clause-holds
conclude-requires-clause-holds c = (c.args.self.now.views.items, c.requires.holds)

pub conclude-requires-clause-going : goal.conclude-requires-clause-going
conclude-requires-clause-going c = split-going (fields_of c.args.self.now) c.requires.holds c.args.thread c.requires.may

pub conclude-requires-clause-allowed : goal.conclude-requires-clause-allowed
conclude-requires-clause-allowed c =
    subst (MayEnd (job_of c.args.self.now) (state_of c.args.self.now)) (sym (c.split_of-how.ensures ∙ ap split_end (c.len.ensures ∙ c.args.self.now.views.ok.0)))
    (split-may (fields_of c.args.self.now) c.requires.holds c.args.thread c.requires.may c.requires.views c.requires.verdict)

pub conclude-requires-clause-views : goal.conclude-requires-clause-views
conclude-requires-clause-views c =
    subst (λ (how : How). KeepsViews (job_of c.args.self.now) (c.args.self.now.journal.items ++ End how ∷ []) c.args.self.now.views.items) (sym (c.split_of-how.ensures ∙ ap split_end (c.len.ensures ∙ c.args.self.now.views.ok.0)))
    (split-keeps (fields_of c.args.self.now) c.requires.holds c.args.thread c.requires.may c.requires.views c.requires.verdict)

pub conclude-requires-clause-not_sink : goal.conclude-requires-clause-not_sink
conclude-requires-clause-not_sink c = subst (λ (how : How). (bytes : ℕ) → how ≢ Sink bytes) (sym c.split_of-how.ensures) (not-sink c.len.result)

pub returns-clause-allowed : goal.returns-clause-allowed
returns-clause-allowed c =
    subst (IsAllowed (job_of c.args.self.now) (state_of c.args.self.now)) (sym (c.conclude.ensures.entry ∙ ap End (c.split_of-how.ensures ∙ ap split_end (c.len.ensures ∙ c.args.self.now.views.ok.0))))
    (split-not-over (fields_of c.args.self.now) c.requires.holds c.args.thread c.requires.may, split-may (fields_of c.args.self.now) c.requires.holds c.args.thread c.requires.may c.requires.views c.requires.verdict)

pub returns-clause-decides : goal.returns-clause-decides
returns-clause-decides c =
    subst (DecidesVote (job_of c.args.self.now) (state_of c.args.self.now) c.args.thread) (sym (c.conclude.ensures.entry ∙ ap End (c.split_of-how.ensures ∙ ap split_end (c.len.ensures ∙ c.args.self.now.views.ok.0))))
    (split-ends (fields_of c.args.self.now) c.requires.holds c.args.thread c.requires.may c.requires.views c.requires.verdict)

pub returns-clause-appends : goal.returns-clause-appends
returns-clause-appends c = subst (λ (e : Entry). Appends (silent c.args.self.now) (silent c.conclude.new.self) e) (sym c.conclude.ensures.entry) c.conclude.ensures.appends

pub returns-clause-wrote : goal.returns-clause-wrote
returns-clause-wrote c = ended-wrote c.args.self.now c.conclude.new.self c.split_of-how.result c.conclude.ensures.appends c.conclude.ensures.output
