-- How often a thread missed a page since its last vote: as often as the journal says, and at most nine times.
use Rattle.std.specs.Prelude.{◌≡◌, ◌+◌, ◌≤◌, ◌==◌, ◌&&◌, ℕ, Bool, true, false, cond, List, [], ◌∷◌, Option, Some, None, is_some}
use Rattle.std.specs.List.{fold}
use Rattle.std.proofs.Common.{refl, sym, ap, ◌∙◌, subst, arith}
use Rattle.std.proofs.lemmas.Bool.{true≢false, and_parts, eqb-true}
use Rattle.ro_event.specs.declared.calls.Call.{Call}
use Rattle.ro_journal.specs.Losers.{numbers}
use Rattle.ro_journal.specs.declared.Lease.{Lease}
use Rattle.ro_journal.specs.declared.Entry.{Entry}
use Rattle.ro_journal.specs.declared.Entry.TheVariants.{Take, Put, Part, Vote, Free, Scrub, End}
use Rattle.ro_replica.specs.Replica.{Replica}
use Rattle.ro_legal.specs.Parts.{Lent, Whole, Pages, most_misses, is_all}
use Rattle.ro_legal.specs.Core.{Job, Core, opening_core}
use Rattle.ro_legal.specs.Event.{Event, with_recovered}
use Rattle.ro_legal.specs.Legal.{core_after_event, event_in, freed_event, after, MayPart, IsAllowed, LegalFrom, Legal, replay_from, replay}
use Rattle.ro_legal.specs.Laws.{missed_after, parts_since}
use Rattle.ro_legal.specs.Sound.{IsOrdered}
use Rattle.ro_legal.proofs.Journals.{legal-keeps}
use Rattle.ro_legal.proofs.Leases.{put-is, part-is}
use Rattle.ro_legal.proofs.Ordered.{ordered-after, ordered-opening, free-parts, freed-is}
use Rattle.ro_legal.proofs.FaultStops.{whole-wants}
use Rattle.ro_legal.proofs.Wishes.{LendsByWish, by-wish-after, by-wish-opening}
use Rattle.ro_legal.proofs.Blocked.{BlockedStand, blocked-after, lent-unblocked}

-- ---- what an entry makes of it

-- what a blocked thread missed since its last vote: nothing
abbrev pub BlockedMissNone : Core → Type 0
BlockedMissNone core = (thread : ℕ) (call : Call) → core.blocked thread ≡ Some call → (replica : ℕ) → core.misses replica thread ≡ 0

entry-misses : (job : Job) (core : Core) (entry : Entry) → IsAllowed job core entry → BlockedMissNone core → (replica thread : ℕ) → (after job core entry).misses replica thread ≡ missed_after replica thread (core.misses replica thread) entry
unfolding after
entry-misses job core (Take lease) may none replica thread = refl
entry-misses job core (Put lease count hit) may none replica thread = ap (λ (c : Core). c.misses replica thread) (put-is job core lease count hit may)
entry-misses job core (Part lease count hit) may none replica thread = ap (λ (c : Core). c.misses replica thread) (part-is job core lease count hit may)
entry-misses job core (Vote voted count won lost did) may none replica thread =
    ap (λ (o : Option Event). (core_after_event core voted count (with_recovered won (numbers lost) core.replicas) o).misses replica thread) may.comes
entry-misses job core (Free freed) may none replica thread =
    let p = free-parts job core freed may.may in
    ap (λ (o : Option Event). (core_after_event core freed 0 core.replicas o).misses replica thread) (freed-is job core freed p.call p.blocked_on)
    ∙ by (thread == freed) refl (λ same. none thread p.call (ap core.blocked same ∙ p.blocked_on) replica)
  where
    by : (b : Bool) → (thread == freed) ≡ b → (thread ≡ freed → core.misses replica thread ≡ 0) → cond b 0 (core.misses replica thread) ≡ core.misses replica thread
    by true is zero_missed = sym (zero_missed (eqb-true thread freed is))
    by false is zero_missed = refl
entry-misses job core (Scrub won lost) may none replica thread = refl
entry-misses job core (End how) may none replica thread = refl

-- ---- what a legal journal keeps

-- no thread missed a page more than nine times since its last vote
abbrev pub MissedFew : Core → Type 0
MissedFew core = (replica thread : ℕ) → core.misses replica thread ≤ most_misses + 1

pub record KeepsCount (job : Job) (core : Core) : Type 0 where
  pub ordered : IsOrdered job core
  pub lends : LendsByWish job core
  pub blocked : BlockedStand core
  pub none : BlockedMissNone core
  pub few : MissedFew core

-- a lease that comes back for the want of a page is none of a whole replica
part-pages : (job : Job) (core : Core) (lease : Lease) (count hit : ℕ) → MayPart job core lease count hit → is_all (core.lent lease.driver) ≡ false
part-pages job core lease count hit may = by (core.lent lease.driver) refl
  where
    by : (lent : Lent) → core.lent lease.driver ≡ lent → is_all lent ≡ false
    by Whole has = absurd (true≢false (sym may.wants ∙ ap is_some (whole-wants job core lease may.returns.ran.replica has)))
    by (Pages pages) has = refl

-- an event of a thread leaves it with none
event-none : (core : Core) (thread count : ℕ) (replicas : List Replica) (o : Option Event) → BlockedMissNone core → BlockedMissNone (core_after_event core thread count replicas o)
event-none core thread count replicas None none = none
event-none core thread count replicas (Some event) none = λ other call e replica. by other call replica (other == thread) e
  where
    by : (other : ℕ) (call : Call) (replica : ℕ) (b : Bool) → cond b event.blocked (core.blocked other) ≡ Some call → cond b 0 (core.misses replica other) ≡ 0
    by other call replica true f = refl
    by other call replica false f = none other call f replica

none-after : (job : Job) (core : Core) (entry : Entry) → IsAllowed job core entry → KeepsCount job core → BlockedMissNone (after job core entry)
unfolding after
none-after job core (Take lease) may h = h.none
none-after job core (Put lease count hit) may h = λ thread call e replica.
    entry-misses job core (Put lease count hit) may h.none replica thread
    ∙ h.none thread call (sym (ap (λ (c : Core). c.blocked thread) (put-is job core lease count hit may)) ∙ e) replica
none-after job core (Part lease count hit) may h = λ thread call e replica.
    entry-misses job core (Part lease count hit) may h.none replica thread
    ∙ other thread call (sym (ap (λ (c : Core). c.blocked thread) (part-is job core lease count hit may)) ∙ e) replica ((replica == lease.replica) && (thread == lease.thread)) refl
  where
    other : (thread : ℕ) (call : Call) → core.blocked thread ≡ Some call → (replica : ℕ) (b : Bool) → ((replica == lease.replica) && (thread == lease.thread)) ≡ b → cond b (core.misses replica thread + 1) (core.misses replica thread) ≡ 0
    other thread call e replica true own =
        let same : thread ≡ lease.thread = eqb-true thread lease.thread (and_parts _ _ own).1 in
        absurd (lent-unblocked core lease call h.lends.goes.goes h.blocked may.returns.out (ap core.blocked (sym same) ∙ e))
    other thread call e replica false own = h.none thread call e replica
none-after job core (Vote voted count won lost did) may h = event-none core voted count (with_recovered won (numbers lost) core.replicas) (event_in job core voted won) h.none
none-after job core (Free freed) may h = event-none core freed 0 core.replicas (freed_event job core freed) h.none
none-after job core (Scrub won lost) may h = h.none
none-after job core (End how) may h = h.none

-- a lease of pages is of a thread that missed eight at most, so behind a part it has missed nine
few-after : (job : Job) (core : Core) (entry : Entry) → IsAllowed job core entry → LendsByWish job core → MissedFew core → (replica thread : ℕ) → missed_after replica thread (core.misses replica thread) entry ≤ most_misses + 1
few-after job core (Take lease) may lends few replica thread = few replica thread
few-after job core (Put lease count hit) may lends few replica thread = few replica thread
few-after job core (Part lease count hit) may lends few replica thread = by ((replica == lease.replica) && (thread == lease.thread)) refl
  where
    by : (b : Bool) → ((replica == lease.replica) && (thread == lease.thread)) ≡ b → cond b (core.misses replica thread + 1) (core.misses replica thread) ≤ most_misses + 1
    by true own =
        let p = and_parts _ _ own in
        let same : core.misses lease.replica lease.thread ≡ core.misses replica thread = ap (λ (r : ℕ). core.misses r lease.thread) (sym (eqb-true replica lease.replica p.0)) ∙ ap (core.misses replica) (sym (eqb-true thread lease.thread p.1)) in
        let eight : core.misses lease.replica lease.thread ≤ most_misses = (lends.well lease may.returns.out).few (part-pages job core lease count hit may) in
        omega arith
    by false own = few replica thread
few-after job core (Vote voted count won lost did) may lends few replica thread = by (thread == voted)
  where
    by : (b : Bool) → cond b 0 (core.misses replica thread) ≤ most_misses + 1
    by true = omega arith
    by false = few replica thread
few-after job core (Free freed) may lends few replica thread = few replica thread
few-after job core (Scrub won lost) may lends few replica thread = few replica thread
few-after job core (End how) may lends few replica thread = few replica thread

keeps-after : (job : Job) (core : Core) (entry : Entry) → IsAllowed job core entry → KeepsCount job core → KeepsCount job (after job core entry)
keeps-after job core entry may h = record {
  ordered = ordered-after job core entry may h.ordered;
  lends = by-wish-after job core entry may h.lends;
  blocked = blocked-after job core entry may h.ordered h.lends.goes.goes h.blocked;
  none = none-after job core entry may h;
  few = λ replica thread. subst (λ (n : ℕ). n ≤ most_misses + 1) (sym (entry-misses job core entry may h.none replica thread)) (few-after job core entry may h.lends h.few replica thread);
}

keeps-opening : (job : Job) → KeepsCount job (opening_core job)
unfolding opening_core
keeps-opening job = record {
  ordered = ordered-opening job;
  lends = by-wish-opening job;
  blocked = λ thread call e. absurd (let f : None ≡ Some call = e in cc);
  none = λ thread call e replica. refl;
  few = λ replica thread. omega arith;
}

-- ---- the laws

misses-from : (job : Job) (core : Core) (journal : List Entry) → LegalFrom job core journal → KeepsCount job core → (replica thread : ℕ) → (replay_from job core journal).misses replica thread ≡ fold (missed_after replica thread) (core.misses replica thread) journal
misses-from job core [] legal h replica thread = refl
misses-from job core (entry ∷ journal) legal h replica thread =
    misses-from job (after job core entry) journal legal.1 (keeps-after job core entry legal.0 h) replica thread
    ∙ ap (λ (n : ℕ). fold (missed_after replica thread) n journal) (entry-misses job core entry legal.0 h.none replica thread)

-- the core keeps what its journal says
pub misses-are : (job : Job) (journal : List Entry) → Legal job journal → (replica thread : ℕ) → (replay job journal).misses replica thread ≡ parts_since journal replica thread
unfolding opening_core
misses-are job journal legal replica thread = misses-from job (opening_core job) journal legal (keeps-opening job) replica thread

pub few-parts : (job : Job) (journal : List Entry) → Legal job journal → (replica thread : ℕ) → parts_since journal replica thread ≤ most_misses + 1
few-parts job journal legal replica thread =
    subst (λ (n : ℕ). n ≤ most_misses + 1) (misses-are job journal legal replica thread)
    ((legal-keeps job (KeepsCount job) (keeps-after job) (opening_core job) journal legal (keeps-opening job)).few replica thread)

-- a thread that is blocked stands at a call in each replica
pub blocked-stand : (job : Job) (journal : List Entry) → Legal job journal → BlockedStand (replay job journal)
blocked-stand job journal legal = (legal-keeps job (KeepsCount job) (keeps-after job) (opening_core job) journal legal (keeps-opening job)).blocked
