-- An end in the place of a vote, a free or a scrub, in the fields of a run.
use Rattle.std.proofs.Common.{◌≡◌, ◌≢◌, ℕ, ◌+◌, ◌<◌, true, List, [], ◌∷◌, ◌++◌, Some, refl, sym, ap, ◌∙◌, arith, append-nil}
use Rattle.ro_journal.specs.declared.How.{How}
use Rattle.ro_journal.specs.declared.How.TheVariants.{Sink}
use Rattle.ro_journal.specs.declared.Entry.{Entry}
use Rattle.ro_journal.specs.declared.Entry.TheVariants.{End}
use Rattle.ro_core.specs.declared.cores.Core.{Core as Run}
use Rattle.ro_legal.specs.Core.{Job, Core, is_going}
use Rattle.ro_legal.specs.Legal.{after, MayEnd, replay, output_of}
use Rattle.ro_core.specs.Seen.{Appends, KeepsViews}
use Rattle.ro_core.specs.Fields.{one_end, Fields, core_in, Holds}
use Rattle.ro_core.specs.Runs.{fields_of, job_of, silent, LastWrote}
use Rattle.ro_legal.proofs.Journals.{replay_more}
use Rattle.ro_core.proofs.Held.{Goes, SameLending, goes, same-counts}
use Rattle.ro_core.proofs.Ends.{cut-none, ended-holds}

module _ (f : Fields) (h : Holds f) (how : How) (going : is_going (core_in f) ≡ true) (allowed : MayEnd f.job (core_in f) how) where
  concluding : Goes f
  concluding = goes f h going

  pub conclude-room : 0 < f.places
  conclude-room = let e : one_end f.ended ≡ 1 = ap one_end concluding.not_ended in let k = h.room in omega arith

  module _ (not_sink : (bytes : ℕ) → how ≢ Sink bytes) where
    pub conclude-output : output_of f.job (f.journal ++ End how ∷ []) ≡ output_of f.job f.journal
    unfolding after
    conclude-output = ap (λ (c : Core). c.output) (replay_more f.job f.journal (End how)) ∙ cut-none (core_in f) how not_sink

    pub conclude-holds : (f' : Fields) → f'.job ≡ f.job → f'.kernel ≡ f.kernel → f'.blocked ≡ f.blocked → f'.unblocked ≡ f.unblocked → f'.calm ≡ f.calm → f'.steps ≡ f.steps → f'.scrubbed ≡ f.scrubbed → f'.waits ≡ f.waits → f'.seats ≡ f.seats → f'.groups ≡ f.groups → f'.leases ≡ f.leases → SameLending f f' → f'.due ≡ f.due → f'.ended ≡ Some how → f'.sent ≡ f.sent → f'.wrote ≡ 0
        → f'.journal ≡ f.journal ++ End how ∷ [] → f.places ≡ f'.places + 1 → KeepsViews f.job (f.journal ++ End how ∷ []) f'.views → Holds f'
    unfolding after
    conclude-holds f' job kernel blocked unblocked calm steps scrubbed waits seats groups leases lending due ended sent wrote journal less kept =
        ended-holds f f' h how concluding.not_ended allowed (same-counts f f' h (after f.job (core_in f) (End how)) (cut-none (core_in f) how not_sink) refl sent wrote steps) kept job kernel blocked unblocked calm steps scrubbed waits seats groups leases lending (due ∙ concluding.not_due) ended journal less

-- an end writes nothing
pub ended-wrote : (old new : Run) (how : How) → Appends (silent old) (silent new) (End how) → output_of (job_of new) new.journal.items ≡ output_of (job_of old) old.journal.items → LastWrote (fields_of new) (output_of (job_of old) old.journal.items) []
unfolding after
ended-wrote old new how a output = record {
  few = omega arith;
  output = output ∙ sym (append-nil _);
  wrote = ap (λ (j : Job). (replay j new.journal.items).wrote) a.job ∙ ap (λ (js : List Entry). (replay (job_of old) js).wrote) a.journal ∙ ap (λ (c : Core). c.wrote) (replay_more (job_of old) old.journal.items (End how));
  goes_on = λ some. absurd (omega arith);
}
