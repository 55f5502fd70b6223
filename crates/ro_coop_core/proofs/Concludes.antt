-- An end in the place of a vote or a free, in the fields of a run.
use Rattle.std.proofs.Common.{◌≡◌, ◌≢◌, ℕ, ◌+◌, ◌<◌, true, List, [], ◌∷◌, ◌++◌, Some, refl, sym, ap, ◌∙◌, arith, append-nil}
use Rattle.ro_journal.specs.declared.How.{How}
use Rattle.ro_journal.specs.declared.How.TheVariants.{Sink}
use Rattle.ro_journal.specs.declared.Entry.{Entry}
use Rattle.ro_journal.specs.declared.Entry.TheVariants.{End}
use Rattle.ro_legal.specs.Core.{Job, Core, is_going}
use Rattle.ro_legal.specs.Cooperative.{after, MayEnd, replay}
use Rattle.ro_coop_core.specs.declared.cores.Core.{Core as Run}
use Rattle.ro_coop_core.specs.Seen.{Appends, KeepsViews}
use Rattle.ro_coop_core.specs.Fields.{one_end, Fields, core_in, Holds}
use Rattle.ro_coop_core.specs.Runs.{fields_of, job_of, seen, LastWrote}
use Rattle.ro_legal.proofs.TogetherJournals.{replay_more}
use Rattle.ro_coop_core.proofs.Held.{Goes, goes, same-counts}
use Rattle.ro_coop_core.proofs.Ends.{cut-none, ended-holds}

module _ (f : Fields) (h : Holds f) (how : How) (going : is_going (core_in f) ≡ true) (allowed : MayEnd f.job (core_in f) how) where
  concluding : Goes f
  concluding = goes f h going

  pub conclude-room : 0 < f.places
  conclude-room = let e : one_end f.ended ≡ 1 = ap one_end concluding.not_ended in let k = h.room in omega arith

  module _ (not_sink : (bytes : ℕ) → how ≢ Sink bytes) where
    pub conclude-output : (replay f.job (f.journal ++ End how ∷ [])).output ≡ (replay f.job f.journal).output
    unfolding after
    conclude-output = ap (λ (c : Core). c.output) (replay_more f.job f.journal (End how)) ∙ cut-none (core_in f) how not_sink

    pub conclude-holds : (f' : Fields) → f'.job ≡ f.job → f'.kernel ≡ f.kernel → f'.cooperates ≡ f.cooperates → f'.blocked ≡ f.blocked → f'.most_done ≡ f.most_done → f'.steps ≡ f.steps → f'.waits ≡ f.waits → f'.seats ≡ f.seats → f'.leases ≡ f.leases → f'.due ≡ f.due → f'.ended ≡ Some how → f'.sent ≡ f.sent → f'.wrote ≡ 0
        → f'.journal ≡ f.journal ++ End how ∷ [] → f.places ≡ f'.places + 1 → KeepsViews f.job (f.journal ++ End how ∷ []) f'.views → Holds f'
    unfolding after
    conclude-holds f' job kernel cooperates blocked most steps waits seats leases due ended sent wrote journal less kept =
        ended-holds f f' h how concluding.not_ended allowed (same-counts f f' h (after f.job (core_in f) (End how)) (cut-none (core_in f) how not_sink) refl sent wrote (omega arith)) kept job kernel cooperates blocked most steps waits seats leases (due ∙ concluding.not_due) ended journal less

-- an end writes nothing
pub ended-wrote : (old new : Run) (how : How) → Appends (seen old) (seen new) (End how) → (replay (job_of new) new.journal.items).output ≡ (replay (job_of old) old.journal.items).output → LastWrote (fields_of new) (replay (job_of old) old.journal.items).output []
unfolding after
ended-wrote old new how a output = record {
  few = omega arith;
  output = output ∙ sym (append-nil _);
  wrote = ap (λ (j : Job). (replay j new.journal.items).wrote) a.job ∙ ap (λ (js : List Entry). (replay (job_of old) js).wrote) a.journal ∙ ap (λ (c : Core). c.wrote) (replay_more (job_of old) old.journal.items (End how));
  goes_on = λ some. absurd (omega arith);
}
