-- How a legal cooperative journal ends.
use Rattle.std.proofs.Common.{◌≡◌, ℕ, ◌+◌, ◌-◌, List, [], ◌∷◌, ◌++◌, length, take, Option, Some, None, refl, sym, ap, ◌∙◌, subst, arith}
use Rattle.std.specs.Prelude.{IsSome, true, false}
use Rattle.std.proofs.lemmas.Bool.{false≢true}
use Rattle.std.proofs.lemmas.List.{take_all}
use Rattle.ro_journal.specs.declared.How.{How}
use Rattle.ro_journal.specs.declared.How.TheVariants.{Sink}
use Rattle.ro_journal.specs.declared.Entry.{Entry}
use Rattle.ro_journal.specs.declared.Entry.TheVariants.{End}
use Rattle.ro_journal.specs.Plan.{outcome_of}
use Rattle.ro_legal.specs.Core.{Job, Core}
use Rattle.ro_legal.specs.Core.{opening_core as opening_voted}
use Rattle.ro_legal.specs.Legal.{cut_output}
use Rattle.ro_legal.specs.Cooperative.{MayEnd, IsAllowed, LegalFrom, Legal, opening_core, after, replay_from, replay}
use Rattle.ro_legal.proofs.TogetherJournals.{replay_more}
use Rattle.ro_legal.proofs.TogetherOutcomes.{over-from as nothing_behind, ended-outcome}

-- ---- the last entry

pub record LastEntry (job : Job) (core : Core) (journal : List Entry) (how : How) : Type 0 where
  pub before : List Entry
  pub journal_is : journal ≡ before ++ End how ∷ []
  pub legal : LegalFrom job core before
  pub may : MayEnd job (replay_from job core before) how

later_last : (job : Job) (core : Core) (entry : Entry) (journal : List Entry) (how : How) → IsAllowed job core entry → LastEntry job (after job core entry) journal how → LastEntry job core (entry ∷ journal) how
later_last job core entry journal how m l = record { before = entry ∷ l.before; journal_is = ap (λ (js : List Entry). entry ∷ js) l.journal_is; legal = (m, l.legal); may = l.may }

end_ended : (job : Job) (core : Core) (how : How) → (after job core (End how)).ended ≡ Some how
unfolding after
end_ended job core how = refl

-- a legal journal that ends has an end as its last entry, which was allowed
pub last-from : (job : Job) (core : Core) (journal : List Entry) (how : How) → LegalFrom job core journal → outcome_of journal ≡ Some how → LastEntry job core journal how
last-from job core [] how legal e = absurd (let f : None ≡ Some how = e in cc)
last-from job core (End other ∷ journal) how legal e =
    let same : other ≡ how = (let f : Some other ≡ Some how = e in cc) in
    let rest : journal ≡ [] = nothing_behind job (after job core (End other)) other journal (end_ended job core other) legal.1 in
    record {
      before = [];
      journal_is = ap (λ (h : How). End h ∷ journal) same ∙ ap (λ (js : List Entry). End how ∷ js) rest;
      legal = tt;
      may = subst (MayEnd job core) same legal.0.1;
    }
last-from job core (x ∷ journal) how legal e = later_last job core x journal how legal.0 (last-from job (after job core x) journal how legal.1 e)

-- ---- after the end

no_cut : (output : List ℕ) (bytes : ℕ) → take (length output - 0 + bytes) output ≡ output
no_cut output bytes = take_all (length output - 0 + bytes) output (omega arith)

-- the end writes nothing, so a cut of it leaves all
end_cut : (job : Job) (core : Core) (how : How) (bytes : ℕ) → cut_output (after job core (End how)) (Sink bytes) ≡ (after job core (End how)).output
unfolding after
end_cut job core how bytes = no_cut (cut_output core how) bytes

pub ended-cut : (job : Job) (journal : List Entry) (bytes : ℕ) → Legal job journal → IsSome (replay job journal).ended → cut_output (replay job journal) (Sink bytes) ≡ (replay job journal).output
unfolding opening_core opening_voted
ended-cut job journal bytes legal some = by (replay job journal).ended refl some
  where
    by : (o : Option How) → (replay job journal).ended ≡ o → IsSome o → cut_output (replay job journal) (Sink bytes) ≡ (replay job journal).output
    by None e h = absurd (let f : false ≡ true = h in false≢true f)
    by (Some how) e h =
        let last = last-from job (opening_core job) journal how legal (sym (ended-outcome job journal legal) ∙ e) in
        let is : replay job journal ≡ after job (replay job last.before) (End how) = ap (replay job) last.journal_is ∙ replay_more job last.before (End how) in
        ap (λ (c : Core). cut_output c (Sink bytes)) is ∙ end_cut job (replay job last.before) how bytes ∙ ap (λ (c : Core). c.output) (sym is)
