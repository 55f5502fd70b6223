-- A test of journals of the rules of a cooperative run by computation: what passes is legal. Of leases it passes those that come back
-- at a stop or at a lock, of ends a deadlock and an exit that is due.
use Rattle.std.specs.Prelude.{◌≡◌, ℕ, ◌+◌, Bool, true, false, not, ◌&&◌, ◌==◌, nat_lt, nat_le, List, [], ◌∷◌, ◌++◌, Option, Some, None, is_none, is_some}
use Rattle.std.specs.List.{list_all}
use Rattle.std.specs.Option.{option_map_or}
use Rattle.std.proofs.Common.{refl, sym, ap, subst, inr}
use Rattle.std.proofs.lemmas.Bool.{false≢true, eqb-true, ltb-true, leb-true, and_parts, and_from}
use Rattle.ro_event.specs.Views.{View, same_view}
use Rattle.ro_event.proofs.Same.{view-true, view-same}
use Rattle.ro_journal.specs.declared.Did.{Did}
use Rattle.ro_journal.specs.declared.How.{How}
use Rattle.ro_journal.specs.declared.How.TheVariants.{Exit as ExitHow, Deadlock}
use Rattle.ro_journal.specs.declared.Entry.{Entry}
use Rattle.ro_journal.specs.declared.Entry.TheVariants.{Take, Put, Part, Vote, Free, Scrub, End}
use Rattle.ro_journal.specs.declared.Lease.{Lease}
use Rattle.ro_journal.specs.declared.losers.Lost.{Lost}
use Rattle.ro_journal.specs.declared.losers.Lost.TheVariants.{Nobody}
use Rattle.ro_journal.specs.Plan.{event_steps}
use Rattle.ro_peer.specs.Peers.{Peer}
use Rattle.ro_legal.specs.Sides.{is_ahead}
use Rattle.ro_legal.specs.Core.{Job, Core, is_going, is_idle, is_out, is_lendable, may_vote, may_free, views_of}
use Rattle.ro_legal.specs.Legal.{MayTake, is_stuck, since_in}
use Rattle.ro_legal.specs.Cooperative.{lease_run, lease_gets, arrival, parking_of, after, MayPut, MayPart, AreAll, lapses_alike, MayVote, MayEnd, due, alone, voted_event, IsAllowed, LegalFrom, replay_from}
use Rattle.ro_coop.proofs.Checks.{test_event, none-of, event-of}

abbrev pub test_take : Job → Core → Lease → Bool
test_take job core lease =
    is_going core && nat_lt lease.driver job.settings.drivers && is_idle core lease.driver && is_lendable core lease.replica lease.thread

-- a run of a lease whose end passes
abbrev pub test_ran : Job → Core → Lease → (count hit : ℕ) → (Peer → Bool) → Bool
test_ran job core lease count hit passes =
    is_none core.ended && is_out core lease && list_all (λ get. not (is_ahead core.sides get.mutex get.rank)) (lease_gets job core lease count)
    && (hit == 0) && nat_lt count job.settings.quantum && option_map_or passes (lease_run job core lease count) false

abbrev pub is_stopped_at : Job → Core → Lease → (count : ℕ) → Peer → Bool
is_stopped_at job core lease count peer = is_some (arrival job core.kernel lease.thread count peer)

abbrev pub is_parked_at : Job → Core → Lease → Peer → Bool
is_parked_at job core lease peer = is_some (parking_of job core.kernel lease.thread peer)

abbrev pub all_are : View → List View → Bool
all_are view [] = true
all_are view (other ∷ views) = same_view other view && all_are view views

abbrev pub are_one : List View → Bool
are_one [] = false
are_one (view ∷ views) = all_are view (view ∷ views)

-- two that differ
abbrev pub are_apart : List View → Bool
are_apart [] = false
are_apart (view ∷ views) = not (all_are view views)

abbrev pub is_nobody : Lost → Bool
is_nobody Nobody = true
is_nobody _ = false

abbrev pub is_count : (count : ℕ) → Option ℕ → Bool
is_count count None = false
is_count count (Some since) = since == count

abbrev pub test_vote : Job → Core → (thread count won : ℕ) → Lost → Did → Bool
test_vote job core thread count won lost did =
    may_vote core thread && (are_one (views_of job core thread) && lapses_alike core thread) && (won == 0) && is_nobody lost && is_count count (since_in core thread 0)
    && test_event did (voted_event job core thread) && nat_le (core.steps + event_steps did) job.settings.limit

abbrev pub is_due : Option How → How → Bool
is_due (Some (ExitHow status)) (ExitHow other) = status == other
is_due _ _ = false

abbrev pub test_end : Job → Core → How → Bool
test_end job core Deadlock = is_stuck job core
test_end job core how = is_due core.due how

abbrev pub test_entry : Job → Core → Entry → Bool
test_entry job core (Take lease) = test_take job core lease
test_entry job core (Put lease count hit) = test_ran job core lease count hit (is_stopped_at job core lease count)
test_entry job core (Part lease count hit) = test_ran job core lease count hit (is_parked_at job core lease)
test_entry job core (Vote thread count won lost did) = test_vote job core thread count won lost did
test_entry job core (Free thread) = may_free job core thread && nat_le (core.steps + 1) job.settings.limit
test_entry job core (Scrub won lost) = false
test_entry job core (End how) = is_none core.ended && test_end job core how

abbrev pub test_legal : Job → Core → List Entry → Bool
test_legal job core [] = true
test_legal job core (entry ∷ journal) = test_entry job core entry && test_legal job (after job core entry) journal

-- ---- what passes is allowed

take-of : (job : Job) (core : Core) (lease : Lease) → test_take job core lease ≡ true → MayTake job core lease
take-of job core lease e =
    let a = and_parts _ _ e in let b = and_parts _ _ a.0 in let c = and_parts _ _ b.0 in
    record { going = c.0; driver_exists = ltb-true _ _ c.1; driver_is_idle = b.1; lendable = a.1 }

passing : (passes : Peer → Bool) (o : Option Peer) → option_map_or passes o false ≡ true → (peer : Peer) × (o ≡ Some peer) × (passes peer ≡ true)
passing passes None e = absurd (false≢true e)
passing passes (Some peer) e = (peer, refl, e)

put-of : (job : Job) (core : Core) (lease : Lease) (count hit : ℕ) → test_ran job core lease count hit (is_stopped_at job core lease count) ≡ true → MayPut job core lease count hit
put-of job core lease count hit e =
    let a = and_parts _ _ e in let b = and_parts _ _ a.0 in let c = and_parts _ _ b.0 in let d = and_parts _ _ c.0 in let f = and_parts _ _ d.0 in
    let p = passing (is_stopped_at job core lease count) (lease_run job core lease count) a.1 in
    record { ran = record { not_ended = none-of core.ended f.0; out = f.1; peer = p.0; runs = p.1; within = d.1 }; unstruck = eqb-true _ _ c.1; arrives = inr (ltb-true _ _ b.1, p.2) }

part-of : (job : Job) (core : Core) (lease : Lease) (count hit : ℕ) → test_ran job core lease count hit (is_parked_at job core lease) ≡ true → MayPart job core lease count hit
part-of job core lease count hit e =
    let a = and_parts _ _ e in let b = and_parts _ _ a.0 in let c = and_parts _ _ b.0 in let d = and_parts _ _ c.0 in let f = and_parts _ _ d.0 in
    let p = passing (is_parked_at job core lease) (lease_run job core lease count) a.1 in
    record { ran = record { not_ended = none-of core.ended f.0; out = f.1; peer = p.0; runs = p.1; within = d.1 }; unstruck = eqb-true _ _ c.1; below = ltb-true _ _ b.1; waits = p.2 }

all-of : (view : View) (views : List View) → all_are view views ≡ true → AreAll view views
all-of view [] e = tt
all-of view (other ∷ views) e = let a = and_parts _ _ e in (view-true other view a.0, all-of view views a.1)

pub one-of : (views : List View) → are_one views ≡ true → (view : View) × AreAll view views
one-of [] e = absurd (false≢true e)
one-of (view ∷ views) e = (view, all-of view (view ∷ views) e)

are-all : (view : View) (views : List View) → AreAll view views → all_are view views ≡ true
are-all view [] h = refl
are-all view (other ∷ views) h = and_from _ _ (subst (λ (v : View). same_view other v ≡ true) h.0 (view-same other)) (are-all view views h.1)

pub apart-of : (views : List View) → are_apart views ≡ true → (view : View) → AreAll view views → ⊥
apart-of [] e view h = false≢true e
apart-of (first ∷ views) e view h =
    let all = are-all first views (subst (λ (v : View). AreAll v views) (sym h.0) h.1) in
    false≢true (subst (λ (b : Bool). not b ≡ true) all e)

nobody-of : (lost : Lost) → is_nobody lost ≡ true → lost ≡ Nobody
nobody-of Nobody e = refl
nobody-of lost e = absurd (false≢true e)

count-of : (count : ℕ) (o : Option ℕ) → is_count count o ≡ true → o ≡ Some count
count-of count None e = absurd (false≢true e)
count-of count (Some since) e = ap Some (eqb-true since count e)

vote-of : (job : Job) (core : Core) (thread count won : ℕ) (lost : Lost) (did : Did) → test_vote job core thread count won lost did ≡ true → MayVote job core thread count won lost did
vote-of job core thread count won lost did e =
    let a = and_parts _ _ e in let b = and_parts _ _ a.0 in let c = and_parts _ _ b.0 in let d = and_parts _ _ c.0 in let f = and_parts _ _ d.0 in let g = and_parts _ _ f.0 in
    let alike = and_parts _ _ g.1 in let v = one-of (views_of job core thread) alike.0 in let w = event-of did (voted_event job core thread) b.1 in
    record { may = g.0; view = v.0; agreed = (v.1, alike.1); first = eqb-true _ _ f.1; none_lost = nobody-of lost d.1; count_is = count-of count (since_in core thread 0) c.1; event = w.0; comes = w.1; did_is = w.2; fits = leb-true _ _ a.1 }

due-of : (o : Option How) (how : How) → is_due o how ≡ true → o ≡ Some how
due-of (Some (ExitHow status)) (ExitHow other) e = ap (λ (n : ℕ). Some (ExitHow n)) (eqb-true status other e)
due-of o how e = absurd (false≢true e)

end-of : (job : Job) (core : Core) (how : How) → test_end job core how ≡ true → MayEnd job core how
end-of job core Deadlock e = alone e
end-of job core how e = due (due-of core.due how e)

entry-of : (job : Job) (core : Core) (entry : Entry) → test_entry job core entry ≡ true → IsAllowed job core entry
entry-of job core (Take lease) e = take-of job core lease e
entry-of job core (Put lease count hit) e = put-of job core lease count hit e
entry-of job core (Part lease count hit) e = part-of job core lease count hit e
entry-of job core (Vote thread count won lost did) e = vote-of job core thread count won lost did e
entry-of job core (Free thread) e = let a = and_parts _ _ e in record { may = a.0; fits = leb-true _ _ a.1 }
entry-of job core (Scrub won lost) e = absurd (false≢true e)
entry-of job core (End how) e = let a = and_parts _ _ e in (none-of core.ended a.0, end-of job core how a.1)

pub legal-of : (job : Job) (core : Core) (journal : List Entry) → test_legal job core journal ≡ true → LegalFrom job core journal
legal-of job core [] e = tt
legal-of job core (entry ∷ journal) e =
    let a = and_parts _ _ e in (entry-of job core entry a.0, legal-of job (after job core entry) journal a.1)

-- one entry more that is allowed
pub legal-more : (job : Job) (core : Core) (journal : List Entry) (last : Entry) → LegalFrom job core journal → IsAllowed job (replay_from job core journal) last → LegalFrom job core (journal ++ last ∷ [])
legal-more job core [] last legal allowed = (allowed, tt)
legal-more job core (entry ∷ journal) last legal allowed = (legal.0, legal-more job (after job core entry) journal last legal.1 allowed)
