-- What is told of a journal that was followed.
use Rattle.std.proofs.Common.{◌≡◌, ℕ, suc, ◌<◌, ◌≤◌, List, ◌∷◌, ◌++◌, length, Option, take, drop, get_or, sym, ap, ◌∙◌, subst, arith}
use Rattle.std.proofs.Math.Seq.{drop-cons}
use Rattle.std.proofs.lemmas.List.{length-take-le, take-append-drop, take_all}
use Rattle.ro_journal.specs.declared.Entry.{Entry}
use Rattle.ro_orders.specs.Copies.{Rows}
use Rattle.ro_legal.specs.Core.{Job}
use Rattle.ro_legal.specs.Rules.{output_of}
use Rattle.ro_core.specs.Seen.{CoreOf}
use Rattle.ro_cores.specs.Loans.{LentOf, IsJoined}
use Rattle.ro_audit.specs.declared.follower.Why.{Why}
use Rattle.ro_audit.specs.Audits.{FirstIllegal, IsRefused, NextUpTo}
use Rattle.ro_audit.specs.Following.{AtEntry, Follows}
use Rattle.ro_audit.proofs.Got.{knows-joined}

-- ---- the first entry that is not allowed

-- behind a journal that was followed
pub stopped : (core : CoreOf) (lent : List (Option LentOf)) (rows : Rows) (output : List ℕ) (journal : List Entry) (place : ℕ) (entry : Entry) (why : Why) → AtEntry core journal place entry → Follows core lent rows output → IsRefused core.job core.journal entry why → FirstIllegal core.job journal place why
stopped core lent rows output journal place entry why at f refused = record {
  before = core.journal;
  entry = entry;
  rest = at.rest;
  journal_is = at.journal_is;
  place_is = at.place_is;
  legal = f.legal;
  joined = knows-joined core.job core.journal rows f.got;
  not_allowed = refused.0;
  reason = refused.1;
}

-- ---- the entry at a place

pub at-place : (core : CoreOf) (journal : List Entry) (place : ℕ) (entry other : Entry) → core.journal ≡ take place journal → place < length journal → get_or journal place other ≡ entry → AtEntry core journal place entry
at-place core journal place entry other is less here = record {
  rest = drop (suc place) journal;
  journal_is = sym (take-append-drop place journal) ∙ ap (λ (xs : List Entry). take place journal ++ xs) (drop-cons journal place other less) ∙ ap (λ (xs : List Entry). xs ++ get_or journal place other ∷ drop (suc place) journal) (sym is)
      ∙ ap (λ (e : Entry). core.journal ++ e ∷ drop (suc place) journal) here;
  place_is = ap length is ∙ length-take-le place journal (omega arith);
}

-- ---- a journal that was followed to its end

pub followed-whole : (core : CoreOf) (lent : List (Option LentOf)) (rows : Rows) (output : List ℕ) (job : Job) (journal : List Entry) (place : ℕ) (odd : Option ℕ) → core.job ≡ job → Follows core lent rows output → core.journal ≡ take place journal → length journal ≤ place → NextUpTo core.job core.journal odd
    → (core.journal ≡ journal) × (output ≡ output_of job journal) × IsJoined job journal × NextUpTo job journal odd
followed-whole core lent rows output job journal place odd job_is f is past next =
    let whole : core.journal ≡ journal = is ∙ take_all place journal past in (
      whole,
      f.output_is ∙ ap (λ (j : Job). output_of j core.journal) job_is ∙ ap (output_of job) whole,
      subst (λ (j : Job). IsJoined j journal) job_is (subst (IsJoined core.job) whole (knows-joined core.job core.journal rows f.got)),
      subst (λ (j : Job). NextUpTo j journal odd) job_is (subst (λ (js : List Entry). NextUpTo core.job js odd) whole next),
    )
