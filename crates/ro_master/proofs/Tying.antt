-- What a desk owes its core, and what ties the two.
use Rattle.std.proofs.Common.{◌≡◌, ℕ, suc, ◌<◌, true, List, [], ◌∷◌, ◌++◌, length, Option, Some, None, Result, Ok, Err, MatchResult, IfOk, refl, sym, ap, ◌∙◌, subst, arith}
use Rattle.std.specs.Prelude.{IsSome}
use Rattle.std.specs.declared.alloc.AllocError.{AllocError}
use Rattle.ro_journal.specs.declared.How.{How}
use Rattle.ro_journal.specs.declared.How.TheVariants.{Sink}
use Rattle.ro_journal.specs.declared.Entry.{Entry}
use Rattle.ro_journal.specs.declared.Entry.TheVariants.{Take, End}
use Rattle.ro_journal.specs.Plan.{outcome_of}
use Rattle.ro_legal.specs.declared.actions.Action.TheVariants as act
use Rattle.ro_journal.specs.declared.Lease.{Lease}
use Rattle.ro_journal.specs.Leases.{lease_to}
use Rattle.ro_legal.specs.Core.{Job, Core, is_idle, views_of}
use Rattle.ro_legal.specs.Legal.{MayTake}
use Rattle.ro_legal.specs.Action.{next_action}
use Rattle.ro_legal.specs.Rules.{IsFit, IsAllowed, IsNext, DecidesVote, DecidesFree, DecidesScrub, Legal, after, replay, replay_with}
use Rattle.ro_core.specs.Seen.{CoreOf, Appends, Stays}
use Rattle.ro_cores.specs.Cores.{state, Quiet, Sends}
use Rattle.ro_legal.specs.Decides.{IsSplit}
use Rattle.ro_legal.proofs.Modes.{decision-names}
use Rattle.ro_legal.proofs.Rules.{replay-more, legal-more, ended-is, take-allowed, take-next, vote-decision, free-decision, scrub-decision, others-idle, none-legal, none-next}
use Rattle.ro_legal.proofs.Nexts.{lend_is_next, vote_next, free_next, scrub_next, over_is_next, next_over}
use Rattle.ro_legal.proofs.Ordered.{vote-parts, free-parts, scrub-parts}
use Rattle.ro_post.specs.declared.posts.Turn.{Turn}
use Rattle.ro_post.specs.declared.posts.Turn.TheVariants as a
use Rattle.ro_post.specs.Turns.{IfOver}
use Rattle.ro_cores.specs.History.{Turned, turned, journal_of}
use Rattle.ro_master.specs.Passes.{CountOf, PassOf, Knew, counted, added, shown, empty_count}
use Rattle.ro_legal.specs.Jobs.{CanRun}
use Rattle.ro_master.specs.Driven.{HasRun, IsDriven, Goes, KeepsLast}
use Rattle.ro_legal.specs.Laws.{Names}
use Rattle.ro_cores.specs.Loans.{LentOf, BackOf, MayReturn, lease_of, entry_of}
use Rattle.ro_cores.proofs.Lending.{loan-lease, loan-allowed, loan-entry, loan-idle, loan-next, loan-open}
use Rattle.ro_master.proofs.Returned.{WasOut, was_out, names_return}
use Rattle.ro_master.specs.Desks.{DeskOf, Tied, seen_state, AtRest, HoldsLent, MayGiveBack, Rests, IsOver, Moved, Looked, IsLoan, Decides, votes, frees, scrubs, ends, TurnIs, PutIs, AnswersOver, TakesMemory}
use Rattle.ro_master.proofs.Turns.{calm_state, lend_calm, driven_more, leases_with, not_failed, goes_quiet, goes_none, goes_on, stays_state, stays_goes, stays_driven, stays_next}
use Rattle.ro_master.proofs.Deciding.{vote_going, vote_calm, free_going, free_calm, voted_driven, voted_goes, freed_driven, freed_goes, scrub_going, scrub_calm, scrubbed_driven, scrubbed_goes, end_driven, end_goes}
use Rattle.ro_master.proofs.LastViews.{going_open, none_last, more_open, stays_open, voted_last, freed_last, scrubbed_last, end_open, end_last}
use Rattle.ro_master.proofs.Leases.{still_idle, still_returns, owned_snoc, within_snoc, journal_snoc}

pub length-journal : (h : List Turned) → length (journal_of h) ≡ length h
length-journal [] = refl
length-journal (x ∷ xs) = ap suc (length-journal xs)

-- ---- the pass and the core

-- the job of a desk's core is the one that it started with
rest_here : (start core : CoreOf) (count : CountOf) (p : PassOf) → Tied start core count → AtRest start.job p → AtRest core.job p
rest_here start core count p t rest = subst (λ (j : Job). AtRest j p) (sym t.goes.job) rest

-- a pass at rest holds no lease
none_now : (start core : CoreOf) (count : CountOf) (p : PassOf) → Tied start core count → Knew p count → AtRest start.job p → is_idle (replay core.job core.journal) p.number ≡ true
none_now start core count p t k rest =
    ap (λ (js : List Entry). is_idle (replay core.job js) p.number) (sym t.journal) ∙ still_idle core.job p count k t.owned (rest_here start core count p t rest)

-- the state that a pass has seen once it has added an entry, and once it has looked
seen_added : (start core : CoreOf) (count : CountOf) (p : PassOf) (entry : Entry) → Tied start core count → seen_state core.job (added p count entry) ≡ after core.job (replay core.job core.journal) entry
seen_added start core count p entry t =
    ap (replay core.job) (journal_snoc count.history (turned p.number entry) ∙ ap (λ (js : List Entry). js ++ entry ∷ []) t.journal) ∙ replay-more core.job core.journal entry

seen_shown : (start core : CoreOf) (count : CountOf) (p : PassOf) → Tied start core count → seen_state core.job (shown p count) ≡ replay core.job core.journal
seen_shown start core count p t = ap (replay core.job) t.journal

-- ---- what is next may be done

pub lend_ok : (start core core' : CoreOf) (count : CountOf) (p : PassOf) (replica thread : ℕ) → Tied start core count → Stays core core' → Knew p count → AtRest start.job p → next_action core.job (state core) ≡ act.Lend replica thread → MayTake core'.job (state core') (lease_to p.number replica thread)
lend_ok start core core' count p replica thread t s k rest next =
    let parts = lend_is_next core.job (state core) replica thread next in
    subst (λ (j : Job). MayTake j (state core') (lease_to p.number replica thread)) (sym s.job)
    (subst (λ (c : Core). MayTake core.job c (lease_to p.number replica thread)) (sym (stays_state core core' s)) (record {
      going = parts.0;
      driver_exists = subst (λ (n : ℕ). p.number < n) t.given k.number;
      driver_is_idle = ap (λ (c : Core). is_idle c p.number) (calm_state core (lend_calm core replica thread next)) ∙ none_now start core count p t k rest;
      lendable = parts.1;
    }))

-- ---- the tie after an entry

pub tied_more : (start core core' : CoreOf) (count count' : CountOf) (by : ℕ) (entry : Entry) → Tied start core count → Appends core core' entry → count' ≡ counted count by entry → Names by entry → by < count.given → IsDriven core' → Goes core core' → KeepsLast core'.job core'.journal core'.views → Tied start core' count'
tied_more start core core' count count' by entry t a c n less driven goes last =
    subst (Tied start core') (sym c)
    (record {
      journal = journal_snoc count.history (turned by entry) ∙ ap (λ (js : List Entry). js ++ entry ∷ []) t.journal ∙ sym a.journal;
      given = t.given ∙ ap (λ (j : Job). j.settings.drivers) (sym a.job);
      owned = owned_snoc count.history (turned by entry) t.owned n;
      within = within_snoc count.given count.history (turned by entry) t.within less;
      driven = driven;
      goes = goes_on start core core' t.goes goes;
      last = last;
    })

-- and after none
pub tied_stay : (start core core' : CoreOf) (count count' : CountOf) → Tied start core count → Stays core core' → outcome_of core.journal ≡ None → count' ≡ count → Tied start core' count'
tied_stay start core core' count count' t s none c =
    subst (Tied start core') (sym c)
    (record {
      journal = t.journal ∙ sym s.journal;
      given = t.given ∙ ap (λ (j : Job). j.settings.drivers) (sym s.job);
      owned = t.owned;
      within = t.within;
      driven = stays_driven core core' s t.driven;
      goes = goes_on start core core' t.goes (stays_goes core core' s);
      last = none_last core'.job core'.journal core'.views (stays_open core core' none s);
    })

-- a take, after room was made
pub tied_take : (start core mid new : CoreOf) (count count' : CountOf) (number : ℕ) (lease : Lease) → Tied start core count → Stays core mid → Appends mid new (Take lease) → Quiet mid new → MayTake mid.job (state mid) lease
    → next_action core.job (state core) ≡ act.Lend lease.replica lease.thread → lease.driver ≡ number → number < count.given → count' ≡ counted count number (Take lease) → Tied start new count'
tied_take start core mid new count count' number lease t s a q may next same less c =
    let next' = stays_next core mid lease.replica lease.thread s next in
    let calm = lend_calm mid lease.replica lease.thread next' in
    let at = calm_state mid calm in
    let open_ = stays_open core mid (going_open core t.driven (lend_is_next core.job (state core) lease.replica lease.thread next).0) s in
    tied_more start core new count count' number (Take lease) t (record { job = a.job ∙ s.job; journal = a.journal ∙ ap (λ (js : List Entry). js ++ Take lease ∷ []) s.journal }) c same less
    (driven_more mid new (Take lease) (stays_driven core mid s t.driven) a (take-allowed mid.job (replay mid.job mid.journal) lease (subst (λ (x : Core). MayTake mid.job x lease) at may)) (take-next mid.job (replay mid.job mid.journal) lease (ap (next_action mid.job) (sym at) ∙ next')))
    (goes_on core mid new (stays_goes core mid s) (goes_quiet mid new (Take lease) a q (λ taken e. absurd (let f : None ≡ Some (Sink taken) = e in cc)) (λ failed. absurd (not_failed mid calm open_ failed))))
    (none_last new.job new.journal new.views (more_open mid new (Take lease) open_ a refl))

-- a vote
pub tied_vote : (start core new : CoreOf) (count count' : CountOf) (number thread : ℕ) (entry : Entry) (bytes : List ℕ) → Tied start core count → next_action core.job (state core) ≡ act.Vote thread → IsAllowed core.job (state core) entry → DecidesVote core.job (state core) thread entry → Appends core new entry → Sends core new bytes
    → (IsSplit entry → new.views ≡ views_of core.job (state core) thread) → number < count.given → count' ≡ counted count number entry → Tied start new count'
tied_vote start core new count count' number thread entry bytes t next allowed decides a sends shown less c =
    let calm = vote_calm core thread next in
    let home = (vote-parts (state core) thread (vote_next core.job (state core) thread next)).alone in
    tied_more start core new count count' number entry t a c (decision-names number entry (vote-decision core.job (state core) thread entry decides)) less
    (voted_driven core new entry t.driven home a calm allowed thread next decides)
    (voted_goes core new entry t.driven home a calm allowed thread next decides bytes sends)
    (voted_last core new thread entry (going_open core t.driven (vote_going core thread next)) (calm_state core calm) next decides a shown)

-- a free
pub tied_free : (start core new : CoreOf) (count count' : CountOf) (number thread : ℕ) (entry : Entry) → Tied start core count → next_action core.job (state core) ≡ act.Free thread → IsAllowed core.job (state core) entry → DecidesFree core.job (state core) thread entry → Appends core new entry → Quiet core new
    → number < count.given → count' ≡ counted count number entry → Tied start new count'
tied_free start core new count count' number thread entry t next allowed decides a quiet less c =
    let calm = free_calm core thread next in
    let home = (free-parts core.job (state core) thread (free_next core.job (state core) thread next)).alone in
    tied_more start core new count count' number entry t a c (decision-names number entry (free-decision core.job (state core) thread entry decides)) less
    (freed_driven core new entry t.driven home a calm allowed thread next decides)
    (freed_goes core new entry t.driven home a calm allowed thread next decides quiet)
    (freed_last core new thread entry (going_open core t.driven (free_going core thread next)) decides a)

-- a scrub
pub tied_scrub : (start core new : CoreOf) (count count' : CountOf) (number : ℕ) (entry : Entry) → Tied start core count → next_action core.job (state core) ≡ act.Scrub → IsAllowed core.job (state core) entry → DecidesScrub core.job (state core) entry → Appends core new entry → Quiet core new
    → (IsSplit entry → new.views ≡ []) → number < count.given → count' ≡ counted count number entry → Tied start new count'
tied_scrub start core new count count' number entry t next allowed decides a quiet no_views less c =
    let calm = scrub_calm core next in
    let home = (scrub-parts (state core) (scrub_next core.job (state core) next)).alone in
    tied_more start core new count count' number entry t a c (decision-names number entry (scrub-decision core.job (state core) entry decides)) less
    (scrubbed_driven core new entry t.driven home a calm allowed next decides)
    (scrubbed_goes core new entry t.driven home a calm allowed next decides quiet)
    (scrubbed_last core new entry (going_open core t.driven (scrub_going core next)) (calm_state core calm) next decides a no_views)

-- an end
pub tied_end : (start core new : CoreOf) (count count' : CountOf) (number : ℕ) (how : How) → Tied start core count → next_action core.job (state core) ≡ act.End how → IsAllowed core.job (replay core.job core.journal) (End how) → IsNext core.job (replay core.job core.journal) (End how) → Appends core new (End how) → Quiet core new
    → number < count.given → count' ≡ counted count number (End how) → Tied start new count'
tied_end start core new count count' number how t next allowed is a quiet less c =
    tied_more start core new count count' number (End how) t a c tt less
    (end_driven core new how t.driven next a quiet allowed is)
    (end_goes core new how t.driven next a quiet allowed is)
    (end_last core new how t.driven (end_open core t.driven how next) next a)

-- ---- a put

module _ (start core : CoreOf) (count : CountOf) (p : PassOf) (back : BackOf) (t : Tied start core count) (calm : IsSome core.failed → (state core).leases ≡ []) (k : Knew p count) (may : MayGiveBack start.job p back) where
  -- what the core asks
  pub put_returns : MayReturn core.job core.journal back
  put_returns = subst (λ (js : List Entry). MayReturn core.job js back) t.journal
      (still_returns core.job p count back t.driven.can_run t.driven.fit k (subst (λ (js : List Entry). Legal core.job js) (sym t.journal) t.driven.legal) t.owned (subst (λ (j : Job). MayGiveBack j p back) (sym t.goes.job) may))

  -- the entry
  abbrev pub put_entry : Entry
  put_entry = entry_of (replay core.job core.journal) back

  put_allowed : IsAllowed core.job (replay core.job core.journal) put_entry
  put_allowed = loan-allowed core.job core.journal back put_returns

  was : WasOut (replay core.job core.journal)
  was = was_out core.job.settings.mode core.job (replay core.job core.journal) (lease_of back) put_entry (loan-entry (replay core.job core.journal) back) put_allowed

  -- while a lease is out the sink has not failed
  pub put_calm : core.failed ≡ None
  put_calm = by core.failed refl
    where
      by : (o : Option ℕ) → core.failed ≡ o → core.failed ≡ None
      by None e = e
      by (Some taken) e = absurd (was.some (sym (leases_with core.job core.journal core.failed) ∙ calm (subst (λ (x : Option ℕ). IsSome x) (sym e) refl)))

  -- it is the pass's own
  put_names : Names p.number put_entry
  put_names = names_return (lease_of back) put_entry p.number (loan-entry (replay core.job core.journal) back) (ap (λ (l : Lease). l.driver) (loan-lease may.lent may.old back may.new may.gives) ∙ may.holds.driver)

  module _ (new : CoreOf) (appends : Appends core new put_entry) (q : Quiet core new) where
    put_open : outcome_of core.journal ≡ None
    put_open = sym (ended-is core.job core.journal t.driven.legal) ∙ was.not_ended

    no_sink : (taken : ℕ) → outcome_of (put_entry ∷ []) ≡ Some (Sink taken) → ⊥
    no_sink taken e = let f : None ≡ Some (Sink taken) = sym (loan-open (replay core.job core.journal) back) ∙ e in cc

    pub tied_put : (count' : CountOf) → count' ≡ counted count p.number put_entry → Tied start new count'
    tied_put count' c =
        tied_more start core new count count' p.number put_entry t appends c put_names k.number
        (driven_more core new put_entry t.driven appends put_allowed (loan-next core.job (replay core.job core.journal) back))
        (goes_quiet core new put_entry appends q (λ taken e. absurd (no_sink taken e)) (λ failed. absurd (not_failed core put_calm put_open failed)))
        (none_last new.job new.journal new.views (more_open core new put_entry put_open appends (loan-open (replay core.job core.journal) back)))

    -- what the put did
    pub put_is : (count' : CountOf) → count' ≡ counted count p.number put_entry → (q' : PassOf) → q' ≡ added p count put_entry → PutIs (record { core = core; count = count }) (record { core = new; count = count' }) p q' back
    put_is count' c q' e = record { core = appends; history = ap (λ (x : CountOf). x.history) c; pass = e; knew = k }

  -- a pass that gave its lease back is at rest
  pub put_idle : is_idle (after core.job (replay core.job core.journal) put_entry) p.number ≡ true
  put_idle =
      ap (is_idle (after core.job (replay core.job core.journal) put_entry)) (sym (ap (λ (l : Lease). l.driver) (loan-lease may.lent may.old back may.new may.gives) ∙ may.holds.driver))
      ∙ ap (λ (c : Core). is_idle c (lease_of back).driver) (sym (replay-more core.job core.journal put_entry))
      ∙ loan-idle core.job core.journal (replay core.job core.journal) back (legal-more core.job core.journal put_entry t.driven.legal put_allowed)

-- ---- what the pass knows afterwards

-- a pass with a fresh lease holds it
pub lease_rests : (start : CoreOf) (old new : DeskOf) (p q : PassOf) (replica thread : ℕ) (lent : LentOf) → Tied start old.core old.count → Moved (Take (lease_to p.number replica thread)) old new p q → IsLoan old p replica thread lent → HoldsLent start.job q lent
lease_rests start old new p q replica thread lent t m is =
    subst (λ (x : PassOf). HoldsLent start.job x lent) (sym m.pass)
    (subst (λ (j : Job). HoldsLent j (added p old.count (Take (lease_to p.number replica thread))) lent) t.goes.job (record {
      before = old.core.journal;
      took = journal_snoc old.count.history (turned p.number (Take (lease_to p.number replica thread)))
          ∙ ap (λ (js : List Entry). js ++ Take (lease_to p.number replica thread) ∷ []) t.journal
          ∙ ap (λ (l : Lease). old.core.journal ++ Take l ∷ []) (sym is.lease);
      driver = ap (λ (l : Lease). l.driver) is.lease;
      lends = is.lends;
    }))

-- a vote, a free, a scrub or an end names every driver
names_decided : (number : ℕ) (c : CoreOf) (entry : Entry) → Decides c entry → Names number entry
names_decided number c entry (votes thread next h) = decision-names number entry (vote-decision c.job (state c) thread entry h)
names_decided number c entry (frees thread next h) = decision-names number entry (free-decision c.job (state c) thread entry h)
names_decided number c entry (scrubs next h) = decision-names number entry (scrub-decision c.job (state c) entry h)
names_decided number c entry (ends how next is) = subst (Names number) (sym is) tt

-- so the pass stays at rest
idle_decided : (job : Job) (core : Core) (driver : ℕ) (c : CoreOf) (entry : Entry) → Decides c entry → is_idle core driver ≡ true → is_idle (after job core entry) driver ≡ true
idle_decided job core driver c entry d idle = others-idle job core driver (suc driver) entry (names_decided (suc driver) c entry d) (λ (f : suc driver ≡ driver). omega arith) idle

pub did_rests : (start : CoreOf) (old new : DeskOf) (p q : PassOf) (entry : Entry) → Tied start old.core old.count → AtRest start.job p → Decides old.core entry → Moved entry old new p q → AtRest start.job q
did_rests start old new p q entry t rest d m =
    subst (λ (j : Job). AtRest j q) t.goes.job
    (subst (AtRest old.core.job) (sym m.pass)
    (ap (λ (c : Core). is_idle c p.number) (seen_added start old.core old.count p entry t)
    ∙ idle_decided old.core.job (replay old.core.job old.core.journal) p.number old.core entry d (none_now start old.core old.count p t m.knew rest)))

pub look_rests : (start : CoreOf) (old new : DeskOf) (p q : PassOf) → Tied start old.core old.count → AtRest start.job p → Looked old new p q → AtRest start.job q
look_rests start old new p q t rest m =
    subst (λ (j : Job). AtRest j q) t.goes.job
    (subst (AtRest old.core.job) (sym m.pass) (ap (λ (c : Core). is_idle c p.number) (seen_shown start old.core old.count p t) ∙ none_now start old.core old.count p t m.knew rest))

-- where nothing comes any more the pass has seen the end
pub over_seen : (start : CoreOf) (old new : DeskOf) (p q : PassOf) → Tied start old.core old.count → next_action old.core.job (state old.core) ≡ act.Over → Looked old new p q → IsOver start.job q
over_seen start old new p q t is m =
    subst (λ (j : Job). IsOver j q) t.goes.job
    (subst (IsOver old.core.job) (sym m.pass)
    (subst (λ (c : Core). IsSome c.ended) (sym (seen_shown start old.core old.count p t)) (with_ended old.core.failed (over_is_next old.core.job (state old.core) is))))
  where
    with_ended : (o : Option ℕ) → IsSome (replay_with old.core.job old.core.journal o).ended → IsSome (replay old.core.job old.core.journal).ended
    with_ended None h = h
    with_ended (Some n) h = h

-- whatever the turn answered, the pass is at rest or holds its lease
pub turn_rests : (start : CoreOf) (r : Result (Turn LentOf) AllocError) (old new : DeskOf) (p q : PassOf) (memory : Type 0) → Tied start old.core old.count → AtRest start.job p
    → MatchResult r (λ t. TurnIs t old new p q) (λ _. Looked old new p q × memory) → MatchResult r (λ t. Rests start.job t q) (λ _. AtRest start.job q)
turn_rests start (Ok (a.Leased l)) old new p q memory t rest did = lease_rests start old new p q did.0 did.1 l t did.3 did.4
turn_rests start (Ok a.Did) old new p q memory t rest did = did_rests start old new p q did.0 t rest did.1 did.2
turn_rests start (Ok a.Wait) old new p q memory t rest did = look_rests start old new p q t rest did.1
turn_rests start (Ok a.Over) old new p q memory t rest did = look_rests start old new p q t rest did.1
turn_rests start (Err e) old new p q memory t rest did = look_rests start old new p q t rest did.0

pub turn_over : (start : CoreOf) (r : Result (Turn LentOf) AllocError) (old new : DeskOf) (p q : PassOf) (memory : Type 0) → Tied start old.core old.count
    → MatchResult r (λ t. TurnIs t old new p q) (λ _. Looked old new p q × memory) → IfOk r (λ t. IfOver t (IsOver start.job q))
turn_over start (Ok (a.Leased l)) old new p q memory t did = tt
turn_over start (Ok a.Did) old new p q memory t did = tt
turn_over start (Ok a.Wait) old new p q memory t did = tt
turn_over start (Ok a.Over) old new p q memory t did = over_seen start old new p q t did.0 did.1
turn_over start (Err e) old new p q memory t did = tt

-- behind the end each turn answers so, and nothing changes
pub turn_ended : (r : Result (Turn LentOf) AllocError) (old new : DeskOf) (p q : PassOf) → MatchResult r (λ t. TurnIs t old new p q) (λ _. Looked old new p q × TakesMemory (next_action old.core.job (state old.core)))
    → IsSome (state old.core).ended → AnswersOver r × Looked old new p q
turn_ended r old new p q did some = by r did
  where
    over : next_action old.core.job (state old.core) ≡ act.Over
    over = next_over old.core.job (state old.core) some

    by : (r : Result (Turn LentOf) AllocError) → MatchResult r (λ t. TurnIs t old new p q) (λ _. Looked old new p q × TakesMemory (next_action old.core.job (state old.core))) → AnswersOver r × Looked old new p q
    by (Ok (a.Leased l)) did = absurd (let f : act.Over ≡ act.Lend did.0 did.1 = sym over ∙ did.2 in cc)
    by (Ok a.Did) did = decided did.0 did.1
      where
        decided : (entry : Entry) → Decides old.core entry → AnswersOver (Ok a.Did) × Looked old new p q
        decided entry (votes thread n h) = absurd (let f : act.Over ≡ act.Vote thread = sym over ∙ n in cc)
        decided entry (frees thread n h) = absurd (let f : act.Over ≡ act.Free thread = sym over ∙ n in cc)
        decided entry (scrubs n h) = absurd (let f : act.Over ≡ act.Scrub = sym over ∙ n in cc)
        decided entry (ends how n h) = absurd (let f : act.Over ≡ act.End how = sym over ∙ n in cc)
    by (Ok a.Wait) did = absurd (let f : act.Over ≡ act.Wait = sym over ∙ did.0 in cc)
    by (Ok a.Over) did = (refl, did.1)
    by (Err e) did = absurd (subst TakesMemory over did.1)

-- the pass keeps its number
pub turn_number : (r : Result (Turn LentOf) AllocError) (old new : DeskOf) (p q : PassOf) (memory : Type 0)
    → MatchResult r (λ t. TurnIs t old new p q) (λ _. Looked old new p q × memory) → q.number ≡ p.number
turn_number (Ok (a.Leased l)) old new p q memory did = ap (λ (x : PassOf). x.number) did.3.pass
turn_number (Ok a.Did) old new p q memory did = ap (λ (x : PassOf). x.number) did.2.pass
turn_number (Ok a.Wait) old new p q memory did = ap (λ (x : PassOf). x.number) did.1.pass
turn_number (Ok a.Over) old new p q memory did = ap (λ (x : PassOf). x.number) did.1.pass
turn_number (Err e) old new p q memory did = ap (λ (x : PassOf). x.number) did.0.pass

-- a pass that gave its lease back is at rest
pub put_rests : (start : CoreOf) (old new : DeskOf) (p q : PassOf) (back : BackOf) → Tied start old.core old.count → (IsSome old.core.failed → (state old.core).leases ≡ []) → MayGiveBack start.job p back → PutIs old new p q back → AtRest start.job q
put_rests start old new p q back t calm may m =
    subst (λ (j : Job). AtRest j q) t.goes.job
    (subst (AtRest old.core.job) (sym m.pass)
    (ap (λ (c : Core). is_idle c p.number) (seen_added start old.core old.count p (entry_of (replay old.core.job old.core.journal) back) t) ∙ put_idle start old.core old.count p back t calm m.knew may))

-- ---- the opening

pub tied_new : (start core : CoreOf) (count : CountOf) → core ≡ start → core.journal ≡ [] → CanRun core.job → IsFit core.job → count ≡ empty_count core.job.settings.drivers → Tied start core count
tied_new start core count same none can fit c =
    subst (λ (s : CoreOf). Tied s core count) same
    (subst (Tied core core) (sym c)
    (record {
      journal = sym none;
      given = refl;
      owned = tt;
      within = tt;
      driven = subst (λ (js : List Entry). HasRun core.job js) (sym none) (record { can_run = can; fit = fit; legal = none-legal core.job; next = none-next core.job });
      goes = goes_none core;
      last = none_last core.job core.journal core.views (ap outcome_of none);
    }))
