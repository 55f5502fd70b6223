-- Views that are all alike are a majority; and no cooperative run ends for want of one.
use Rattle.std.proofs.Common.{◌≡◌, ◌⊎◌, inl, inr, ℕ, ◌+◌, ◌≤◌, Bool, true, false, cond, List, [], ◌∷◌, ◌++◌, length, Some, None, refl, sym, ap, ◌∙◌, subst, arith, append_assoc, append-nil}
use Rattle.std.specs.List.{count_by}
use Rattle.std.proofs.lemmas.Bool.{and_parts}
use Rattle.ro_event.specs.Views.{View, same_view}
use Rattle.ro_event.proofs.Same.{view-same}
use Rattle.ro_journal.specs.declared.How.{How}
use Rattle.ro_journal.specs.declared.How.TheVariants.{NoMajority}
use Rattle.ro_journal.specs.declared.Entry.{Entry}
use Rattle.ro_journal.specs.declared.Entry.TheVariants.{End}
use Rattle.ro_journal.specs.Plan.{outcome_of}
use Rattle.ro_settings.specs.Ranges.{InRange, IsReplicas}
use Rattle.ro_vote.proofs.Places.{count-cons}
use Rattle.ro_legal.specs.Core.{Job, Core, may_vote, views_of}
use Rattle.ro_legal.specs.Sound.{IsOver}
use Rattle.ro_legal.specs.Cooperative.{opening_core, AreAll, AgreeOn, MayEnd, due, alone, for_vote, for_free, Legal, replay}
use Rattle.ro_legal.proofs.Together.{keeps-replicas}
use Rattle.ro_legal.proofs.TogetherJournals.{LegalFrom-parts}
use Rattle.ro_legal.proofs.Winners.{views-count}
use Rattle.ro_core.specs.Seen.{IsOfMajority}
use Rattle.ro_coop_core.specs.Runs.{payload_by}

-- ---- views that are all alike

all-counted : (view : View) (views : List View) → AreAll view views → count_by (same_view view) views ≡ length views
all-counted view [] all = refl
all-counted view (other ∷ views) all =
    let more = all-counted view views all.1 in
    let same : same_view view other ≡ true = ap (same_view view) all.0 ∙ view-same view in
    count-cons (same_view view) other views ∙ (ap (λ b. cond b 1 0 + count_by (same_view view) views) same ∙ omega arith)

-- so many replicas are some
some-replicas : (n : ℕ) → IsReplicas n → 2 ≤ n
some-replicas n (inl two) = omega arith
some-replicas n (inr (inl three)) = omega arith
some-replicas n (inr (inr five)) = omega arith

module _ (job : Job) (journal : List Entry) (unstruck : job.faults ≡ []) (legal : Legal job journal) where
  -- what they show more than half of them have
  pub agreed-majority : InRange job.settings → (thread : ℕ) (view : View) → may_vote (replay job journal) thread ≡ true → AgreeOn job (replay job journal) thread view → IsOfMajority (views_of job (replay job journal) thread) view.payload
  agreed-majority in_range thread view may agreed = record {
    view = view;
    most =
        let core : Core = replay job journal in
        let count : length (views_of job core thread) ≡ length core.replicas = views-count job core thread (and_parts _ _ may).1 in
        let replicas = (keeps-replicas job journal unstruck legal).replica_count in
        let some = some-replicas job.settings.replicas in_range.replicas in
        let all = all-counted view (views_of job core thread) agreed.0 in
        omega arith;
    rest = [];
    front = sym (append-nil view.payload);
  }

-- and so does what is written of them, if anything is
pub written-majority : (views shown : List View) (writes : Bool) → (writes ≡ true → (view : View) × IsOfMajority shown view.payload × (payload_by views true ≡ view.payload)) → (payload_by views writes ≡ []) ⊎ IsOfMajority shown (payload_by views writes)
written-majority views shown false of = inl refl
written-majority views shown true of = let its = of refl in inr (subst (IsOfMajority shown) (sym its.2) its.1)

-- ---- ends

no-end : (job : Job) (core : Core) → ((how : How) → core.due ≡ Some how → IsOver how) → MayEnd job core NoMajority → ⊥
no-end job core over (due is) = elim (over NoMajority is) [ ]
no-end job core over (alone is) = is
no-end job core over (for_vote thread may is) = is
no-end job core over (for_free thread may is) = is

no-majority-from : (job : Job) → job.faults ≡ [] → (before rest : List Entry) → Legal job (before ++ rest) → outcome_of rest ≡ Some NoMajority → ⊥
no-majority-from job unstruck before [] legal is = let e : None ≡ Some NoMajority = is in cc
no-majority-from job unstruck before (End how ∷ rest) legal is =
    let parts = LegalFrom-parts job (opening_core job) before (End how ∷ rest) legal in
    let same : how ≡ NoMajority = (let e : Some how ≡ Some NoMajority = is in cc) in
    no-end job (replay job before) (keeps-replicas job before unstruck parts.0).due_over (subst (MayEnd job (replay job before)) same parts.1.0.1)
no-majority-from job unstruck before (entry ∷ rest) legal is =
    no-majority-from job unstruck (before ++ entry ∷ []) rest (subst (λ (js : List Entry). Legal job js) (sym (append_assoc before (entry ∷ []) rest)) legal) is

pub no-majority : (job : Job) (journal : List Entry) → job.faults ≡ [] → Legal job journal → outcome_of journal ≡ Some NoMajority → ⊥
no-majority job journal unstruck legal is = no-majority-from job unstruck [] journal legal is
