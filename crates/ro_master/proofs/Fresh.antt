-- What a session keeps of its sink, behind each call of its core.
use Rattle.std.proofs.Common.{◌≡◌, ℕ, ◌<◌, true, List, [], ◌∷◌, ◌++◌, length, take, Option, Some, None, Result, Ok, Err, refl, sym, ap, ◌∙◌, subst, arith}
use Rattle.std.specs.Prelude.{IfSome, IfOk, OnErr}
use Rattle.std.specs.declared.alloc.AllocError.{AllocError}
use Rattle.ro_io.specs.Outside.{Rose, more}
use Rattle.ro_journal.specs.declared.How.{How}
use Rattle.ro_journal.specs.declared.Entry.{Entry}
use Rattle.ro_journal.specs.declared.Entry.TheVariants.{Take, Put, Part, Vote, Free, Scrub, End}
use Rattle.ro_journal.specs.Plan.{outcome_of}
use Rattle.ro_legal.specs.Rules.{Legal}
use Rattle.ro_legal.proofs.Ordered.{vote-parts}
use Rattle.ro_legal.specs.Core.{may_vote}
use Rattle.ro_legal.proofs.Rules.{ended-is}
use Rattle.ro_legal.proofs.Journals.{outcome_of-append}
use Rattle.ro_core.specs.Seen.{CoreOf, Appends, Stays}
use Rattle.ro_cores.specs.Cores.{left_by, LastWrote}
use Rattle.ro_master.specs.Sessions.{Cuts, IsFresh}

outcome-stays : (how : How) (journal : List Entry) (entry : Entry) → outcome_of journal ≡ Some how → outcome_of (journal ++ entry ∷ []) ≡ Some how
outcome-stays how [] entry e = absurd (let f : None ≡ Some how = e in cc)
outcome-stays how (End other ∷ journal) entry e = e
outcome-stays how (Take l ∷ journal) entry e = outcome-stays how journal entry e
outcome-stays how (Put l n k ∷ journal) entry e = outcome-stays how journal entry e
outcome-stays how (Part l n k ∷ journal) entry e = outcome-stays how journal entry e
outcome-stays how (Vote t n w l d ∷ journal) entry e = outcome-stays how journal entry e
outcome-stays how (Free t ∷ journal) entry e = outcome-stays how journal entry e
outcome-stays how (Scrub w l ∷ journal) entry e = outcome-stays how journal entry e

-- a journal with one entry more that has no end had none before
front_open : (journal : List Entry) (entry : Entry) → outcome_of (journal ++ entry ∷ []) ≡ None → outcome_of journal ≡ None
front_open journal entry open_ = by (outcome_of journal) refl
  where
    by : (o : Option How) → outcome_of journal ≡ o → outcome_of journal ≡ None
    by None e = e
    by (Some how) e = absurd (let f : Some how ≡ None = sym (outcome-stays how journal entry e) ∙ open_ in cc)

pub cuts_none : (core : CoreOf) (failed : Option ℕ) → failed ≡ None → Cuts core failed
cuts_none core failed none = subst (Cuts core) (sym none) tt

pub fresh_more : (old new : CoreOf) (entry : Entry) (failed : Option ℕ) (failures : ℕ) → Appends old new entry → IsFresh old failed failures → IsFresh new failed failures
fresh_more old new entry failed failures a fresh none open_ = fresh none (front_open old.journal entry (ap outcome_of (sym a.journal) ∙ open_))

pub fresh_same : (old new : CoreOf) (failed : Option ℕ) (failures : ℕ) → Stays old new → IsFresh old failed failures → IsFresh new failed failures
fresh_same old new failed failures s fresh none open_ = fresh none (ap outcome_of (sym s.journal) ∙ open_)

-- behind an end
pub fresh_end : (old new : CoreOf) (how : How) (failures : ℕ) → Appends old new (End how) → IsFresh new None failures
fresh_end old new how failures a none open_ =
    let front = front_open old.journal (End how) (ap outcome_of (sym a.journal) ∙ open_) in
    absurd (let f : None ≡ Some how = sym open_ ∙ ap outcome_of a.journal ∙ outcome_of-append old.journal (End how ∷ []) front in cc)

-- behind a call that appends an entry, or finds no memory
pub fresh_after : (old new : CoreOf) (P Q : Entry → Type 0) (failed : Option ℕ) (failures : ℕ) (r : Result Entry AllocError) → IfOk r (λ e. P e × Q e × Appends old new e) → OnErr r (Stays old new) → IsFresh old failed failures → IsFresh new failed failures
fresh_after old new P Q failed failures (Ok entry) ok err fresh = fresh_more old new entry failed failures ok.2 fresh
fresh_after old new P Q failed failures (Err e) ok err fresh = fresh_same old new failed failures err fresh

-- where a vote may be held no end has come
pub vote_open : (core : CoreOf) (thread : ℕ) → Legal core.job core.journal → may_vote (left_by core) thread ≡ true → outcome_of core.journal ≡ None
vote_open core thread legal may = sym (ended-is core.job core.journal legal) ∙ (vote-parts (left_by core) thread may).not_ended

-- a sink that took a part of what the last entry wrote
pub cuts_wrote : (core : CoreOf) (before bytes : List ℕ) (failed : Option ℕ) → LastWrote core before bytes → IfSome failed (λ n. n < length bytes) → Cuts core failed
cuts_wrote core before bytes None wrote part = tt
cuts_wrote core before bytes (Some n) wrote part = (let w = wrote.wrote in omega (arith, w, part), wrote.goes_on (omega (arith, part)))

pub part_taken : (bytes : List ℕ) (failed : Option ℕ) (held held' : Option (List ℕ)) (failures failures' : ℕ) → IfSome failed (λ n. (n < length bytes) × (held' ≡ more held (take n bytes)) × Rose failures failures') → IfSome failed (λ n. n < length bytes)
part_taken bytes None held held' failures failures' part = tt
part_taken bytes (Some n) held held' failures failures' part = part.0
