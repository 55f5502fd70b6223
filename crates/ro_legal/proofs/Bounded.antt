-- No thread that could go on waits for the votes of many others.
use Rattle.std.proofs.Common.{◌≡◌, ◌≢◌, inl, inr, ℕ, zero, suc, ◌+◌, ◌<◌, ◌≤◌, Bool, true, false, true≢false, not, ◌&&◌, List, [], ◌∷◌, ◌++◌, length, Option, Some, None, refl, sym, ap, ◌∙◌, subst, arith}
use Rattle.std.specs.Prelude.{is_none, is_some, nat_le, ◌==◌, slice_get, if◌then◌else◌}
use Rattle.std.specs.List.{All}
use Rattle.std.specs.Option.{option_map_or, option_and_then}
use Rattle.std.proofs.lemmas.Bool.{cases_lt, and_from, and_parts, ne_eqb, le-leb, leb-true, eq-eqb}
use Rattle.std.proofs.lemmas.List.Elements.{All-head, All-tail}
use Rattle.std.proofs.lemmas.Option.{slice_get_within}
use Rattle.ro_journal.specs.Losers.{numbers}
use Rattle.ro_journal.specs.declared.Entry.{Entry}
use Rattle.ro_journal.specs.declared.Entry.TheVariants.{Take, Put, Part, Vote, Free, Scrub, End}
use Rattle.ro_journal.specs.declared.Lease.{Lease}
use Rattle.ro_kernel.specs.Kernel.{lives_on}
use Rattle.ro_thread.specs.declared.Thread.{Thread}
use Rattle.ro_replica.specs.Replica.{Replica, stop_of}
use Rattle.ro_replica.specs.Views.{is_unstopped}
use Rattle.ro_plain.specs.Machine.{setup_of}
use Rattle.ro_plain.proofs.StaysAfter.{live-within}
use Rattle.ro_legal.specs.Core.{Job, Core, opening_core, is_going, offers, may_vote}
use Rattle.ro_legal.specs.Event.{Event, with_recovered, core_after}
use Rattle.ro_legal.specs.Legal.{core_after_event, after, IsAllowed, LegalFrom, Legal, replay_from, replay}
use Rattle.ro_legal.specs.Waits.{waited_after, IsOfAnother, votes_in}
use Rattle.ro_legal.specs.Laws.{NotLendable}
use Rattle.ro_legal.specs.Action.{next_action, IsNext, EachIsNext}
use Rattle.ro_legal.specs.declared.actions.Action.TheVariants as act
use Rattle.ro_legal.specs.Sound.{IsOrdered}
use Rattle.ro_legal.proofs.Lists.{get-within, all-from}
use Rattle.ro_legal.proofs.Happens.{Happens, event-happens, call-happens}
use Rattle.ro_legal.proofs.Journals.{LegalFrom-parts}
use Rattle.ro_legal.proofs.Leases.{not_false, awake-lendable, offers-none, put-by, part-by}
use Rattle.ro_legal.proofs.Ordered.{vote-parts, free-parts, freed-is, event-parts, going-parts, ordered, ordered-after}
use Rattle.ro_legal.proofs.Nexts.{outwaited_voted}
use Rattle.ro_legal.proofs.Waiting.{entry-waited}

-- ---- how many numbers pass a test

-- how many numbers below n pass
abbrev count_below : ℕ → (ℕ → Bool) → ℕ
count_below zero test = 0
count_below (suc n) test = count_below n test + (if test n then 1 else 0)

-- no more than there are
few_below : (n : ℕ) (test : ℕ → Bool) → count_below n test ≤ n
few_below zero test = omega arith
few_below (suc n) test = by (test n) (few_below n test)
  where
    by : (b : Bool) → count_below n test ≤ n → count_below n test + (if b then 1 else 0) ≤ suc n
    by true h = omega arith
    by false h = omega arith

-- what passes one test passes the other
abbrev Implies : (test other : ℕ → Bool) → Type 0
Implies test other = (k : ℕ) → test k ≡ true → other k ≡ true

-- a number more, with what there was to spare
one_more : (test other : ℕ → Bool) → Implies test other → (n : ℕ) (extra : ℕ) → count_below n test + extra ≤ count_below n other → count_below (suc n) test + extra ≤ count_below (suc n) other
one_more test other implies n extra h = by (test n) (other n) (implies n)
  where
    by : (b c : Bool) → (b ≡ true → c ≡ true) → count_below n test + (if b then 1 else 0) + extra ≤ count_below n other + (if c then 1 else 0)
    by true true i = omega arith
    by true false i = absurd (true≢false (sym (i refl)))
    by false true i = omega arith
    by false false i = omega arith

-- as many pass the other
no_more_below : (test other : ℕ → Bool) → Implies test other → (n : ℕ) → count_below n test ≤ count_below n other
no_more_below test other implies zero = omega arith
no_more_below test other implies (suc n) =
    let before = no_more_below test other implies n in
    let here : count_below (suc n) test + 0 ≤ count_below (suc n) other = one_more test other implies n 0 (omega arith) in
    omega arith

-- one less where a number passes the other test alone
fewer_below : (test other : ℕ → Bool) → Implies test other → (k : ℕ) → test k ≡ false → other k ≡ true → (n : ℕ) → k < n → count_below n test + 1 ≤ count_below n other
fewer_below test other implies k fails passes zero low = absurd (omega arith)
fewer_below test other implies k fails passes (suc n) low = elim (cases_lt k n) [
  | inl less ↦ one_more test other implies n 1 (fewer_below test other implies k fails passes n less)
  | inr last ↦ let same : k ≡ n = omega arith in by (test n) (other n) (ap test (sym same) ∙ fails) (ap other (sym same) ∙ passes) (no_more_below test other implies n)
]
  where
    by : (b c : Bool) → b ≡ false → c ≡ true → count_below n test ≤ count_below n other → count_below n test + (if b then 1 else 0) + 1 ≤ count_below n other + (if c then 1 else 0)
    by true c e f h = absurd (true≢false e)
    by false true e f h = omega arith
    by false false e f h = absurd (true≢false (sym f))

-- ---- the threads that have waited as long

-- what is chosen for another number than this one
of_other : {X : Type 0} (own rest : X) (thread other : ℕ) → other ≢ thread → (if thread == other then own else rest) ≡ rest
of_other own rest thread other d = ap (λ (b : Bool). if b then own else rest) (ne_eqb thread other (λ (e : thread ≡ other). d (sym e)))

-- another thread, which has waited as long as this one or longer
abbrev is_rival : (waited : ℕ → ℕ) (thread other : ℕ) → Bool
is_rival waited thread other = not (other == thread) && nat_le (waited thread) (waited other)

-- how many such there are
abbrev rivals : (waited : ℕ → ℕ) (thread : ℕ) → ℕ
rivals waited thread = count_below 16 (is_rival waited thread)

module _ (thread : ℕ) where
  -- the two halves of a rival
  rival_parts : (waited : ℕ → ℕ) (other : ℕ) → is_rival waited thread other ≡ true → (other ≢ thread) × (waited thread ≤ waited other)
  rival_parts waited other e =
      let p = and_parts (not (other == thread)) (nat_le (waited thread) (waited other)) e in ((λ (same : other ≡ thread). true≢false (sym (eq-eqb other thread same) ∙ not_false (other == thread) p.0)), leb-true (waited thread) (waited other) p.1)

  rival_from : (waited : ℕ → ℕ) (other : ℕ) → other ≢ thread → waited thread ≤ waited other → is_rival waited thread other ≡ true
  rival_from waited other d long = and_from (not (other == thread)) (nat_le (waited thread) (waited other)) (ap not (ne_eqb other thread d)) (le-leb (waited thread) (waited other) long)

  -- the thread is none of its own
  few_rivals : (waited : ℕ → ℕ) → thread < 16 → rivals waited thread ≤ 15
  few_rivals waited low =
      let less = fewer_below (is_rival waited thread) (λ k. true) (λ k e. refl) thread (ap (λ (b : Bool). not b && nat_le (waited thread) (waited thread)) (eq-eqb thread thread refl)) refl 16 low in
      let most = few_below 16 (λ k. true) in omega arith

  -- where no other has waited longer than before, there are no more
  no_more_rivals : (waited later : ℕ → ℕ) → later thread ≡ waited thread → ((other : ℕ) → later other ≤ waited other) → rivals later thread ≤ rivals waited thread
  no_more_rivals waited later same no_longer =
      no_more_below (is_rival later thread) (is_rival waited thread) (λ k e. let p = rival_parts later k e in rival_from waited k p.0 (let long = p.1 in let less = no_longer k in omega arith)) 16

  -- behind the vote on a rival there is one less
  fewer_rivals : (waited later : ℕ → ℕ) (voted : ℕ) → voted < 16 → voted ≢ thread → waited thread ≤ waited voted → ((other : ℕ) → later other ≡ (if other == voted then 0 else suc (waited other))) → rivals later thread + 1 ≤ rivals waited thread
  fewer_rivals waited later voted low d long each = fewer_below (is_rival later thread) (is_rival waited thread) implies voted fails (rival_from waited voted d long) 16 low
    where
      own : later thread ≡ suc (waited thread)
      own = each thread ∙ of_other 0 (suc (waited thread)) thread voted d

      anew : later voted ≡ 0
      anew = each voted ∙ ap (λ (b : Bool). if b then 0 else suc (waited voted)) (eq-eqb voted voted refl)

      fails : is_rival later thread voted ≡ false
      fails = by (is_rival later thread voted) refl
        where
          by : (b : Bool) → is_rival later thread voted ≡ b → is_rival later thread voted ≡ false
          by false e = e
          by true e = absurd (let p = rival_parts later voted e in let q = p.1 in omega (arith, own, anew, q))

      implies : Implies (is_rival later thread) (is_rival waited thread)
      implies k e = let p = rival_parts later k e in rival_from waited k p.0 (by (k == voted) (each k) p.1)
        where
          by : (b : Bool) → later k ≡ (if b then 0 else suc (waited k)) → later thread ≤ later k → waited thread ≤ waited k
          by true f g = absurd (omega (arith, own, f, g))
          by false f g = omega (arith, own, f, g)

-- ---- a thread that could go on

-- while the core goes on, the thread lives and is not blocked
abbrev CouldGo : (thread : ℕ) → Core → Type 0
CouldGo thread core = is_going core ≡ true → (lives_on core.kernel thread ≡ true) × (core.blocked thread ≡ None)

module _ (thread : ℕ) (core : Core) (voted count : ℕ) (replicas : List Replica) (event : Event) where
  -- an event of another leaves it so
  could-event : is_going core ≡ true → Happens core.kernel voted event → voted ≢ thread → CouldGo thread core → CouldGo thread (core_after core voted count replicas event)
  could-event going happens d could goes =
      let c = could going in (
        happens.others_live (going-parts (core_after core voted count replicas event) goes).0 thread (λ (e : thread ≡ voted). d (sym e)) c.0,
        of_other event.blocked (core.blocked thread) thread voted d ∙ c.1,
      )

-- and so does each entry that is of another
could-after : (thread : ℕ) (job : Job) (core : Core) (entry : Entry) → IsAllowed job core entry → IsOfAnother thread entry → CouldGo thread core → CouldGo thread (after job core entry)
unfolding after
could-after thread job core (Take lease) may d could = could
could-after thread job core (Put lease count hit) may d could = put-by job core lease count hit may (CouldGo thread) (λ stop wishes misses. could)
could-after thread job core (Part lease count hit) may d could = part-by job core lease count hit may (CouldGo thread) (λ stop wishes misses. could)
could-after thread job core (Vote voted count won lost did) may d could =
    let p = vote-parts core voted may.may in
    let e = event-parts job core voted won may.event may.comes in
    subst (λ (o : Option Event). CouldGo thread (core_after_event core voted count (with_recovered won (numbers lost) core.replicas) o)) (sym may.comes)
    (could-event thread core voted count (with_recovered won (numbers lost) core.replicas) may.event p.going
    (subst (Happens core.kernel voted) e.is (event-happens (setup_of job.program) core.kernel voted e.stop _)) d could)
could-after thread job core (Free freed) may d could =
    let p = free-parts job core freed may.may in
    subst (λ (o : Option Event). CouldGo thread (core_after_event core freed 0 core.replicas o)) (sym (freed-is job core freed p.call p.blocked_on))
    (could-event thread core freed 0 core.replicas _ p.going (call-happens (setup_of job.program) core.kernel freed p.call []) d could)
could-after thread job core (Scrub won lost) may d could = could
could-after thread job core (End how) may d could = λ goes. absurd (let e : Some how ≡ None = (going-parts (after job core (End how)) goes).1 in cc)

-- ---- where nothing is lent, something can be done for it

module _ (job : Job) (core : Core) (h : IsOrdered job core) (thread : ℕ) (alone : core.leases ≡ []) (live : lives_on core.kernel thread ≡ true) (unlent : NotLendable core thread) where
  -- where it can't be lent it is stopped
  is_stopped : (i : ℕ) (r : Replica) → slice_get core.replicas i ≡ Some r → is_some (stop_of r thread) ≡ true
  is_stopped i r e =
      let none : option_map_or (is_unstopped thread) (slice_get core.replicas i) false ≡ false =
      last (offers core i thread && lives_on core.kernel thread) _ (and_from _ _ (offers-none core i thread alone) live) (awake-lendable core i thread h.no_sides ∙ unlent i (slice_get_within core.replicas i r e)) in
      let here : is_unstopped thread r ≡ false = sym (ap (λ (o : Option Replica). option_map_or (is_unstopped thread) o false) e) ∙ none in
      let there = get-within r.threads thread (let low = live-within core.kernel.lives thread live in let all = (h.sound i r e).all_made in omega arith) in
      ap (λ (o : Option Thread). is_some (option_and_then (λ (x : Thread). x.stop) o)) there.1
      ∙ stands there.0.stop (sym (ap (λ (o : Option Thread). option_map_or (λ t. is_none t.stop) o false) there.1) ∙ here)
    where
      last : (b c : Bool) → b ≡ true → (b && c) ≡ false → c ≡ false
      last true c f g = g
      last false c f g = absurd (true≢false (sym f))

      stands : {X : Type 0} (o : Option X) → is_none o ≡ false → is_some o ≡ true
      stands None f = absurd (true≢false f)
      stands (Some x) f = refl

  -- so it can be voted on
  can_be_voted : is_going core ≡ true → core.blocked thread ≡ None → may_vote core thread ≡ true
  can_be_voted going unblocked =
      and_from _ _ (and_from _ _ (and_from _ _ (and_from _ _ going (ap (λ (leases : List Lease). length leases == 0) alone)) live) (ap is_none unblocked))
      (all-from (λ replica. is_some (stop_of replica thread)) core.replicas is_stopped)

-- so who is voted on next has waited as long, once the thread has waited for 64 votes
voted-waited : (job : Job) (core : Core) → IsOrdered job core → (thread : ℕ) → CouldGo thread core → (voted : ℕ) → may_vote core voted ≡ true → next_action job core ≡ act.Vote voted → 64 ≤ core.waited thread → core.waited thread ≤ core.waited voted
voted-waited job core h thread could voted may next long = elim (cases_lt (core.waited voted) (core.waited thread)) [
  | inl less ↦ absurd (
      let p = vote-parts core voted may in
      let c = could p.going in
      let none = outwaited_voted job core voted next thread (live-within core.kernel.lives thread c.0) long less in
      true≢false (sym (can_be_voted job core h thread p.alone c.0 none.2 p.going c.1) ∙ none.1))
  | inr more ↦ omega arith
]

-- ---- how many votes come

-- so many votes are few behind a thread that has waited so long
abbrev AreFew : (thread : ℕ) → (waited : ℕ → ℕ) → (votes : ℕ) → Type 0
AreFew thread waited votes = (64 ≤ waited thread → votes ≤ rivals waited thread) × (waited thread ≤ 64 → votes + waited thread ≤ 79)

-- however long it has waited
few-start : (thread : ℕ) (waited : ℕ → ℕ) (votes : ℕ) → thread < 16 → AreFew thread waited votes → votes ≤ 79
few-start thread waited votes low few = elim (cases_lt (waited thread) 64) [
  | inl less ↦ let all = few.1 (omega arith) in omega arith
  | inr long ↦ let all = few.0 (omega arith) in let most = few_rivals thread waited low in omega arith
]

-- where the thread has waited as long as before, and no other longer
few-kept : (thread : ℕ) (waited later : ℕ → ℕ) (votes : ℕ) → later thread ≡ waited thread → ((other : ℕ) → later other ≤ waited other) → AreFew thread later votes → AreFew thread waited votes
few-kept thread waited later votes same no_longer few = (
  λ long. let all = few.0 (omega arith) in let less = no_more_rivals thread waited later same no_longer in omega arith,
  λ short. let all = few.1 (omega arith) in omega arith,
)

-- one vote more, on a thread that has waited as long where this one has waited for 64
few-voted : (thread : ℕ) (waited later : ℕ → ℕ) (votes voted : ℕ) → thread < 16 → voted < 16 → voted ≢ thread → (64 ≤ waited thread → waited thread ≤ waited voted)
    → ((other : ℕ) → later other ≡ (if other == voted then 0 else suc (waited other))) → AreFew thread later votes → AreFew thread waited (suc votes)
few-voted thread waited later votes voted low made d rival each few = (
  when_long,
  λ short. elim (cases_lt (waited thread) 64) [
    | inl less ↦ let all = few.1 (omega (arith, own)) in omega (arith, own)
    | inr last ↦ let all = when_long (omega arith) in let most = few_rivals thread waited low in omega arith
  ],
)
  where
    own : later thread ≡ suc (waited thread)
    own = each thread ∙ of_other 0 (suc (waited thread)) thread voted d

    when_long : 64 ≤ waited thread → suc votes ≤ rivals waited thread
    when_long long =
        let all = few.0 (omega (arith, own)) in
        let less = fewer_rivals thread waited later voted made d (rival long) each in omega arith

-- an entry that is no vote leaves them few
few-stay : (thread : ℕ) (job : Job) (core : Core) (entry : Entry) (votes : ℕ) → IsAllowed job core entry → waited_after thread (core.waited thread) entry ≡ core.waited thread → ((other : ℕ) → waited_after other (core.waited other) entry ≤ core.waited other)
    → AreFew thread (after job core entry).waited votes → AreFew thread core.waited votes
few-stay thread job core entry votes may same no_longer =
    few-kept thread core.waited (after job core entry).waited votes (entry-waited job core entry may thread ∙ same)
    (λ other. let e = entry-waited job core entry may other in let less = no_longer other in omega arith)

-- who lives is one of the sixteen
within-sixteen : (job : Job) (core : Core) → IsOrdered job core → (thread : ℕ) → lives_on core.kernel thread ≡ true → thread < 16
within-sixteen job core h thread live = let low = live-within core.kernel.lives thread live in let few = h.few_lives in omega arith

-- where the votes behind an entry are few, so are those with it
few-after : (thread : ℕ) → thread < 16 → (job : Job) (core : Core) → IsOrdered job core → CouldGo thread core → (entry : Entry) (row : List Entry) → IsAllowed job core entry → IsNext job core entry → IsOfAnother thread entry
    → AreFew thread (after job core entry).waited (votes_in row) → AreFew thread core.waited (votes_in (entry ∷ row))
few-after thread low job core h could (Take lease) row may next d few = few-stay thread job core (Take lease) (votes_in row) may refl (λ other. omega arith) few
few-after thread low job core h could (Put lease count hit) row may next d few = few-stay thread job core (Put lease count hit) (votes_in row) may refl (λ other. omega arith) few
few-after thread low job core h could (Part lease count hit) row may next d few = few-stay thread job core (Part lease count hit) (votes_in row) may refl (λ other. omega arith) few
few-after thread low job core h could (Vote voted count won lost did) row may next d few =
    few-voted thread core.waited (after job core (Vote voted count won lost did)).waited (votes_in row) voted low
    (within-sixteen job core h voted (vote-parts core voted may.may).live) d
    (voted-waited job core h thread could voted may.may next) (entry-waited job core (Vote voted count won lost did) may) few
few-after thread low job core h could (Free freed) row may next d few =
    few-stay thread job core (Free freed) (votes_in row) may (of_other 0 (core.waited thread) thread freed d) (λ other. by other (other == freed)) few
  where
    by : (other : ℕ) (b : Bool) → (if b then 0 else core.waited other) ≤ core.waited other
    by other true = omega arith
    by other false = omega arith
few-after thread low job core h could (Scrub won lost) row may next d few = few-stay thread job core (Scrub won lost) (votes_in row) may refl (λ other. omega arith) few
few-after thread low job core h could (End how) row may next d few = few-stay thread job core (End how) (votes_in row) may refl (λ other. omega arith) few

-- and so they are in every row of others
few-from : (thread : ℕ) → thread < 16 → (job : Job) (core : Core) (row : List Entry) → IsOrdered job core → CouldGo thread core → LegalFrom job core row → EachIsNext job core row → All (IsOfAnother thread) row → AreFew thread core.waited (votes_in row)
few-from thread low job core [] h could legal next others = (λ long. omega arith, λ short. omega arith)
few-from thread low job core (entry ∷ row) h could legal next others =
    let other = All-head (IsOfAnother thread) entry row others in
    few-after thread low job core h could entry row legal.0 next.0 other
    (few-from thread low job (after job core entry) row (ordered-after job core entry legal.0 h) (could-after thread job core entry legal.0 other could) legal.1 next.1
    (All-tail (IsOfAnother thread) entry row others))

-- what comes next behind the first part of a journal
next-behind : (job : Job) (core : Core) (before row : List Entry) → EachIsNext job core (before ++ row) → EachIsNext job (replay_from job core before) row
next-behind job core [] row next = next
next-behind job core (entry ∷ before) row next = next-behind job (after job core entry) before row next.1

pub waits-bounded : (job : Job) (before row : List Entry) → Legal job (before ++ row) → EachIsNext job (opening_core job) (before ++ row) → (thread : ℕ) → lives_on (replay job before).kernel thread ≡ true → (replay job before).blocked thread ≡ None → All (IsOfAnother thread) row → votes_in row ≤ 79
waits-bounded job before row legal next thread live unblocked others =
    let parts = LegalFrom-parts job (opening_core job) before row legal in
    let h = ordered job before parts.0 in
    let low = within-sixteen job (replay job before) h thread live in
    few-start thread (replay job before).waited (votes_in row) low
    (few-from thread low job (replay job before) row h (λ goes. (live, unblocked)) parts.1 (next-behind job (opening_core job) before row next) others)
