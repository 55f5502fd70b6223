-- How many bytes the writes of a run have in all.
use Rattle.std.proofs.Common.{◌≡◌, ◌≢◌, ◌⊎◌, inl, inr, ℕ, ◌+◌, ◌<◌, ◌≤◌, List, [], ◌∷◌, ◌++◌, length, Some, None, refl, sym, ap, ◌∙◌, arith, length-append}
use Rattle.ro_journal.specs.declared.How.{How}
use Rattle.ro_journal.specs.declared.Entry.{Entry}
use Rattle.ro_journal.specs.declared.Entry.TheVariants.{Take, Put, Part, Vote, Free, Scrub, End}
use Rattle.ro_journal.specs.Plan.{outcome_of}
use Rattle.ro_legal.specs.Core.{Job, Core}
use Rattle.ro_legal.specs.Rules.{Legal, after, replay, output_of}
use Rattle.ro_legal.proofs.Rules.{replay-more, output-grows, ended-is}
use Rattle.ro_legal.proofs.Ordered.{going-parts}
use Rattle.ro_core.specs.Seen.{CoreOf, before_end}
use Rattle.ro_cores.specs.Cores.{offered_by, left_by, LastWrote}

-- ---- the entries before an end

-- one entry more comes behind them, unless it is an end, or one has come
abbrev Comes : List Entry → Entry → Type 0
Comes journal entry =
    (before_end (journal ++ entry ∷ []) ≡ before_end journal)
    ⊎ (((how : How) → entry ≢ End how) × (before_end (journal ++ entry ∷ []) ≡ before_end journal ++ entry ∷ []))

comes : (journal : List Entry) (entry : Entry) → Comes journal entry
comes [] (Take lease) = inr ((λ how e. let f : Take lease ≡ End how = e in cc), refl)
comes [] (Put lease count hit) = inr ((λ how e. let f : Put lease count hit ≡ End how = e in cc), refl)
comes [] (Part lease count hit) = inr ((λ how e. let f : Part lease count hit ≡ End how = e in cc), refl)
comes [] (Vote thread count won lost did) = inr ((λ how e. let f : Vote thread count won lost did ≡ End how = e in cc), refl)
comes [] (Free thread) = inr ((λ how e. let f : Free thread ≡ End how = e in cc), refl)
comes [] (Scrub won lost) = inr ((λ how e. let f : Scrub won lost ≡ End how = e in cc), refl)
comes [] (End how) = inl refl
comes (End how ∷ journal) entry = inl refl
comes (first ∷ journal) entry = by (comes journal entry)
  where
    by : Comes journal entry → Comes (first ∷ journal) entry
    by (inl e) = inl (ap (λ (js : List Entry). first ∷ js) e)
    by (inr more) = inr (more.0, ap (λ (js : List Entry). first ∷ js) more.1)

-- all of them, where none has come
pub before_all : (journal : List Entry) → outcome_of journal ≡ None → before_end journal ≡ journal
before_all [] none = refl
before_all (End how ∷ journal) none = absurd (let f : Some how ≡ None = none in cc)
before_all (first ∷ journal) none = ap (λ (js : List Entry). first ∷ js) (before_all journal none)

-- ---- one entry more

pub offers_more : (job : Job) (journal : List Entry) (entry : Entry) → length (offered_by job journal) ≤ length (offered_by job (journal ++ entry ∷ []))
offers_more job journal entry = by (comes journal entry)
  where
    by : Comes journal entry → length (offered_by job journal) ≤ length (offered_by job (journal ++ entry ∷ []))
    by (inl e) = (let same : length (offered_by job (journal ++ entry ∷ [])) ≡ length (offered_by job journal) = ap (λ (js : List Entry). length (output_of job js)) e in omega (arith, same))
    by (inr more) =
        (let same : length (offered_by job (journal ++ entry ∷ [])) ≡ length (after job (replay job (before_end journal)) entry).output =
        ap (λ (js : List Entry). length (output_of job js)) more.1 ∙ ap (λ (c : Core). length c.output) (replay-more job (before_end journal) entry) in
        let grows : length (replay job (before_end journal)).output ≤ length (after job (replay job (before_end journal)) entry).output = output-grows job (replay job (before_end journal)) entry more.0 in
        omega (arith, same, grows))

-- ---- a write

-- bytes that were written behind those before are all that was offered
pub offers_written : (core : CoreOf) → Legal core.job core.journal → (before bytes : List ℕ) → LastWrote core before bytes → 0 < length bytes → length (offered_by core.job core.journal) ≡ length before + length bytes
offers_written core legal before bytes wrote some =
    ap (λ (js : List Entry). length (output_of core.job js)) (before_all core.journal (sym (ended-is core.job core.journal legal) ∙ (going-parts (left_by core) (wrote.goes_on some)).1))
    ∙ ap (λ (xs : List ℕ). length xs) wrote.output
    ∙ length-append before bytes
