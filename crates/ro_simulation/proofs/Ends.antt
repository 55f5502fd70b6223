-- How the machine stands where a journal ends.
use Rattle.std.specs.Prelude.{◌≡◌, ◌≢◌, ℕ, zero, suc, ◌*◌, ◌<◌, [], ◌≤◌, Bool, true, false, ◌&&◌, ◌||◌, List, length, Option, Some, None, is_none, is_some, slice_get}
use Rattle.std.specs.List.{list_all}
use Rattle.std.specs.Option.{option_map_or, option_and_then}
use Rattle.std.proofs.Common.{refl, sym, ap, ◌∙◌, arith, inl, inr, ⊎_elim}
use Rattle.std.proofs.lemmas.Bool.{true≢false, false≢true, and_parts, and_from, cases_eq}
use Rattle.std.proofs.lemmas.Option.{slice_get_within}
use Rattle.ro_event.specs.declared.calls.Which.TheVariants.{Function}
use Rattle.ro_event.specs.declared.functions.Function.TheVariants.{Wait}
use Rattle.ro_event.specs.declared.calls.Call.{Call}
use Rattle.ro_journal.specs.declared.How.{How}
use Rattle.ro_journal.specs.declared.How.TheVariants.{Exit, Trap, Deadlock, Limit, Differ, NoMajority, Sink}
use Rattle.ro_journal.specs.declared.Entry.{Entry}
use Rattle.ro_condition.specs.Waiters.{wait_of}
use Rattle.ro_kernel.specs.Kernel.{Setup, Kernel, lives_on}
use Rattle.ro_kernel.proofs.Words.{asked-same}
use Rattle.ro_kernel.specs.Serve.{Served, Done, Parked, Blocked, Ends, serve, is_served, serves, is_parked, parks, put_out}
use Rattle.ro_kernel.proofs.Waiting.{waiter-unparked, parked-waits}
use Rattle.ro_exec.specs.declared.Cpu.{Cpu}
use Rattle.ro_thread.specs.declared.Thread.{Thread}
use Rattle.ro_vote.specs.Verdict.{Split, verdict_of}
use Rattle.ro_replica.specs.Replica.{Replica, stop_of}
use Rattle.ro_plain.specs.Machine.{Program, setup_of, Machine, called, step_by, next_of, steppable, step, payload_in}
use Rattle.ro_plain.specs.Order.{RaceFree}
use Rattle.ro_plain.proofs.Calls.{steppable-parts, step-at}
use Rattle.ro_legal.specs.Core.{Job, Core, any_below, is_going, nothing_lent, offers, is_lendable, may_vote, may_free, views_of, snapshots_of}
use Rattle.ro_replica.specs.Views.{is_unstopped}
use Rattle.ro_legal.specs.Legal.{is_stuck, may_scrub, MayEnd, due, alone, for_vote, for_free, for_scrub}
use Rattle.ro_legal.proofs.Leases.{awake-lendable, offers-none}
use Rattle.ro_legal.proofs.Ordered.{scrub-parts}
use Rattle.ro_vote.specs.Prevails.{NonePrevails}
use Rattle.ro_simulation.proofs.Scrubs.{some-good as some-still, always-prevails}
use Rattle.ro_legal.specs.Sound.{IsOver, exits, traps}
use Rattle.ro_simulation.specs.Invariant.{StandsAtCall, TracksIdeal}
use Rattle.ro_simulation.specs.Theorem.{EndsAs, TwoThreeOrFive}
use Rattle.ro_plain.proofs.StaysAfter.{live-within}
use Rattle.ro_legal.proofs.Lists.{get-within, all-from}
use Rattle.ro_vote.proofs.Verdicts.{never-splits}
use Rattle.ro_simulation.proofs.Kept.{going-from, none-lent}
use Rattle.ro_simulation.proofs.Frees.{not-true-from, free-parts}
use Rattle.ro_simulation.proofs.Votes.{vote-parts, some-good, all-but-odd, as-many-views}

-- a program that is over ended so
over-as : (program : Program) (machine : Machine) (how : How) → IsOver how → machine.ended ≡ Some how → EndsAs program machine how
over-as program machine (Exit status) exits e = e
over-as program machine (Trap code) traps e = e
over-as program machine Deadlock h e = elim h [ ]
over-as program machine (Limit steps next) h e = elim h [ ]
over-as program machine Differ h e = elim h [ ]
over-as program machine NoMajority h e = elim h [ ]
over-as program machine (Sink bytes) h e = elim h [ ]

-- neither test passed, not the first
or-first : (b c : Bool) → (b || c) ≡ false → b ≡ false
or-first true c e = absurd (true≢false e)
or-first false c e = refl

-- neither test passed, not the second
or-second : (b c : Bool) → (b || c) ≡ false → c ≡ false
or-second true c e = absurd (true≢false e)
or-second false c e = e

-- no number below, and not the number itself
below-cases : (n : ℕ) (test : ℕ → Bool) → ((i : ℕ) → i < n → test i ≡ false) → test n ≡ false → (i : ℕ) → i < suc n → test i ≡ false
below-cases n test before last i low = ⊎_elim (λ (e : i ≡ n). ap test e ∙ last) (λ (d : i ≢ n). before i (omega arith)) (cases_eq i n)

-- no number below passes
none-below : (n : ℕ) (test : ℕ → Bool) → any_below n test ≡ false → (i : ℕ) → i < n → test i ≡ false
none-below zero test e i low = absurd (omega arith)
none-below (suc n) test e i low = below-cases n test (none-below n test (or-first _ _ e)) (or-second _ _ e) i low

-- none of three tests passed
none-of-three : (a b c : Bool) → (a || b || c) ≡ false → (a ≡ false) × (b ≡ false) × (c ≡ false)
none-of-three false false false e = (refl, refl, refl)
none-of-three true b c e = absurd (true≢false e)
none-of-three false true c e = absurd (true≢false e)
none-of-three false false true e = absurd (true≢false e)

-- a conjunction failed by its last part
last-false : (b c : Bool) → b ≡ true → (b && c) ≡ false → c ≡ false
last-false true c e f = f
last-false false c e f = absurd (false≢true e)

-- what is tested not to be none is something
some-from : {X : Type 0} (o : Option X) → is_none o ≡ false → (x : X) × (o ≡ Some x)
some-from None e = absurd (true≢false e)
some-from (Some x) e = (x, refl)

-- what is neither served nor does its first step blocks
blocked-from : (served : Served) → is_served served ≡ false → is_parked served ≡ false → served ≡ Blocked
blocked-from (Done kernel effect) e f = absurd (true≢false e)
blocked-from (Parked kernel) e f = absurd (true≢false f)
blocked-from Blocked e f = refl
blocked-from (Ends kernel how) e f = absurd (true≢false e)

-- a wait that has begun doesn't begin again
not-parked : (setup : Setup) (kernel : Kernel) (u : ℕ) (call : Call) → (call.which ≡ Function Wait → is_some (wait_of kernel.waiters u) ≡ true) → parks setup kernel u call ≡ false
not-parked setup kernel u call begun = by (serve setup kernel u call) refl
  where
    by : (served : Served) → serve setup kernel u call ≡ served → is_parked served ≡ false
    by (Done k effect) e = refl
    by (Parked k) e = sym (ap is_parked e) ∙ waiter-unparked setup kernel u call (begun (parked-waits setup kernel u call k e))
    by Blocked e = refl
    by (Ends k how) e = refl

-- a thread has no step if none comes where it may step
no-step : (program : Program) (machine : Machine) (u : ℕ) → ((cpu : Cpu) → steppable machine u ≡ Some cpu → step program machine u ≡ None) → step program machine u ≡ None
unfolding step
no-step program machine u h = by (steppable machine u) refl
  where
    by : (o : Option Cpu) → steppable machine u ≡ o → option_and_then (λ cpu. step_by program machine u cpu (next_of program machine cpu)) (steppable machine u) ≡ None
    by None e = ap (option_and_then (λ cpu. step_by program machine u cpu (next_of program machine cpu))) e
    by (Some cpu) e = h cpu e

module _ (job : Job) (odds : List ℕ) (journal : List Entry) (core : Core) (h : TracksIdeal job odds journal core) where
  -- the machine goes on where the core does
  pub going-machine : is_going core ≡ true → h.machine.ended ≡ None
  going-machine e = sym h.same_end ∙ (going-from core e).not_due

  -- ---- nothing can be done any more

  module _ (stuck : is_stuck job core ≡ true) (u : ℕ) (cpu : Cpu) (live : steppable h.machine u ≡ Some cpu) where
    -- the core goes on
    going : is_going core ≡ true
    going = (and_parts _ _ (and_parts _ _ stuck).0).0

    -- nothing is lent
    lent : nothing_lent core ≡ true
    lent = (and_parts _ _ (and_parts _ _ stuck).0).1

    -- the thread lives in the core
    alive : lives_on core.kernel u ≡ true
    alive = ap (λ (k : Kernel). lives_on k u) h.same_kernel ∙ (steppable-parts h.machine u cpu live).live

    -- no vote, free or lease of the thread is possible
    nothing : (may_vote core u ≡ false) × (may_free job core u ≡ false) × (any_below (length core.replicas) (λ replica. is_lendable core replica u) ≡ false)
    nothing = none-of-three _ _ _ (none-below (length core.kernel.lives) (λ thread. may_vote core thread || may_free job core thread || any_below (length core.replicas) (λ replica. is_lendable core replica thread))
        (not-true-from _ (and_parts _ _ stuck).1) u (live-within core.kernel.lives u alive))

    -- every replica is offered to the thread
    offered : (i : ℕ) → offers core i u ≡ true
    offered i = offers-none core i u (none-lent core lent)

    -- the thread is stopped in a replica
    is-stopped : (i : ℕ) (r : Replica) → slice_get core.replicas i ≡ Some r → is_some (stop_of r u) ≡ true
    is-stopped i r e =
        let short = slice_get_within core.replicas i r e in
        let unlent : is_lendable core i u ≡ false = none-below (length core.replicas) (λ replica. is_lendable core replica u) nothing.2 i short in
        let none : option_map_or (is_unstopped u) (slice_get core.replicas i) false ≡ false = last-false (offers core i u && lives_on core.kernel u) _ (and_from _ _ (offered i) alive) (awake-lendable core i u h.no_sides ∙ unlent) in
        let here : is_unstopped u r ≡ false = sym (ap (λ (o : Option Replica). option_map_or (is_unstopped u) o false) e) ∙ none in
        let thread = get-within r.threads u (let low = live-within core.kernel.lives u alive in let all = (h.sound i r e).all_made in omega arith) in
        let is_open : is_none thread.0.stop ≡ false = sym (ap (λ (o : Option Thread). option_map_or (λ t. is_none t.stop) o false) thread.1) ∙ here in
        let stop = some-from thread.0.stop is_open in
        ap (λ (o : Option Thread). is_some (option_and_then (λ (x : Thread). x.stop) o)) thread.1 ∙ ap is_some stop.1

    -- the thread is stopped in every replica
    all_stopped : list_all (λ replica. is_some (stop_of replica u)) core.replicas ≡ true
    all_stopped = all-from (λ replica. is_some (stop_of replica u)) core.replicas is-stopped

    -- the thread is blocked
    unblocked-false : is_none (core.blocked u) ≡ false
    unblocked-false = by (is_none (core.blocked u)) refl
      where
        by : (b : Bool) → is_none (core.blocked u) ≡ b → is_none (core.blocked u) ≡ false
        by false e = e
        by true e = absurd (true≢false (sym (and_from _ _ (and_from _ _ (and_from _ _ (and_from _ _ going lent) alive) e) all_stopped) ∙ nothing.0))

    -- the call on which the thread is blocked
    call : (c : Call) × (core.blocked u ≡ Some c)
    call = some-from (core.blocked u) unblocked-false

    -- it stands there
    stands : StandsAtCall job.program h.machine u call.0
    stands = h.blocked_stands u call.0 call.1 (going-machine going)

    -- that call still blocks
    call_blocks : serve (setup_of job.program) h.machine.kernel u call.0 ≡ Blocked
    call_blocks =
        blocked-from _ (ap (λ (k : Kernel). serves (setup_of job.program) k u call.0) (sym h.same_kernel) ∙ by (serves (setup_of job.program) core.kernel u call.0) refl)
        (not-parked (setup_of job.program) h.machine.kernel u call.0 stands.begun)
      where
        by : (b : Bool) → serves (setup_of job.program) core.kernel u call.0 ≡ b → serves (setup_of job.program) core.kernel u call.0 ≡ false
        by false e = e
        by true e = absurd (true≢false (sym (and_from _ _ (and_from _ _ going lent) (ap (λ (o : Option Call). option_map_or (λ c. serves (setup_of job.program) core.kernel u c) o false) call.1 ∙ e)) ∙ nothing.1))

    -- so the thread has no step
    stuck-step : step job.program h.machine u ≡ None
    stuck-step =
        step-at job.program h.machine u stands.cpu stands.live
        ∙ (ap (step_by job.program h.machine u stands.cpu) stands.stands
        ∙ ap (called h.machine stands.cpu (put_out call.0.which (payload_in job.program h.machine call.0)))
        (ap (serve (setup_of job.program) h.machine.kernel u) (asked-same call.0 (payload_in job.program h.machine call.0) stands.plain) ∙ call_blocks))

  -- no thread of the machine has a step where the core is stuck
  pub deadlocked : is_stuck job core ≡ true → EndsAs job.program h.machine Deadlock
  deadlocked stuck = (going-machine (and_parts _ _ (and_parts _ _ stuck).0).0, λ u. no-step job.program h.machine u (stuck-step stuck u))

  -- ---- ends that come in the place of a vote

  -- of two, three or five replicas, less than half of three or more are odd
  less-than-half : TwoThreeOrFive job → 3 ≤ length core.replicas → 2 * length odds < length core.replicas
  less-than-half (inl two) many = let f = h.few in let n = h.replica_count in omega arith
  less-than-half (inr (inl three)) many = let f = h.few in let n = h.replica_count in omega arith
  less-than-half (inr (inr five)) many = let f = h.few in let n = h.replica_count in omega arith

  -- three or five replicas always come to a majority
  always-majority : RaceFree job.program → TwoThreeOrFive job → (t : ℕ) → may_vote core t ≡ true → verdict_of (views_of job core t) ≡ Split → 3 ≤ length core.replicas → ⊥
  always-majority free count t may split three =
      let parts = vote-parts core t may in
      let good = some-good job free odds journal core h t parts (omega arith) in
      let many = as-many-views job free odds journal core h t parts in
      never-splits odds _ (views_of job core t) (all-but-odd job free odds journal core h t parts good) (let f = less-than-half count three in omega arith) split

  -- two replicas that both agree do not differ
  pub never-differ : RaceFree job.program → odds ≡ [] → (t : ℕ) → may_vote core t ≡ true → verdict_of (views_of job core t) ≡ Split → length core.replicas ≡ 2 → ⊥
  never-differ free none t may split two =
      let parts = vote-parts core t may in
      let good = some-good job free odds journal core h t parts (omega arith) in
      let many = as-many-views job free odds journal core h t parts in
      let no_odd : length odds ≡ 0 = ap {B = ℕ} length none in
      never-splits odds _ (views_of job core t) (all-but-odd job free odds journal core h t parts good) (omega arith) split

  -- three or five replicas always have a snapshot that prevails
  always-scrubbed : RaceFree job.program → TwoThreeOrFive job → may_scrub core ≡ true → NonePrevails (snapshots_of core) → 3 ≤ length core.replicas → ⊥
  always-scrubbed free count may none three =
      always-prevails job odds journal core h may free (some-still job odds journal core h may (omega arith)) (less-than-half count three) none

  -- two replicas that both agree have one snapshot
  pub never-differ-still : RaceFree job.program → odds ≡ [] → may_scrub core ≡ true → NonePrevails (snapshots_of core) → length core.replicas ≡ 2 → ⊥
  never-differ-still free even may none two =
      let no_odd : length odds ≡ 0 = ap {B = ℕ} length even in
      always-prevails job odds journal core h may free (some-still job odds journal core h may (omega arith)) (omega arith) none

  -- the machine stands as the end says
  pub end-as : RaceFree job.program → TwoThreeOrFive job → (how : How) → MayEnd job core how → EndsAs job.program h.machine how
  end-as free count how (due e) = let ended : h.machine.ended ≡ Some how = sym h.same_end ∙ e in over-as job.program h.machine how (h.ends_well how ended) ended
  end-as free count Deadlock (alone stuck) = deadlocked stuck
  end-as free count (Sink bytes) (alone e) = going-machine e.0
  end-as free count (Exit status) (alone e) = absurd e
  end-as free count (Trap code) (alone e) = absurd e
  end-as free count (Limit steps next) (alone e) = absurd e
  end-as free count Differ (alone e) = absurd e
  end-as free count NoMajority (alone e) = absurd e
  end-as free count Differ (for_vote t may e) = sym h.same_end ∙ (vote-parts core t may).going.not_due
  end-as free count (Limit steps next) (for_vote t may e) = sym h.same_end ∙ (vote-parts core t may).going.not_due
  end-as free count NoMajority (for_vote t may e) = absurd (always-majority free count t may e.0 e.1)
  end-as free count (Exit status) (for_vote t may e) = absurd e
  end-as free count (Trap code) (for_vote t may e) = absurd e
  end-as free count Deadlock (for_vote t may e) = absurd e
  end-as free count (Sink bytes) (for_vote t may e) = absurd e
  end-as free count (Limit steps next) (for_free t may e) = sym h.same_end ∙ (free-parts job core t may).going.not_due
  end-as free count Differ (for_free t may e) = absurd e
  end-as free count NoMajority (for_free t may e) = absurd e
  end-as free count (Exit status) (for_free t may e) = absurd e
  end-as free count (Trap code) (for_free t may e) = absurd e
  end-as free count Deadlock (for_free t may e) = absurd e
  end-as free count (Sink bytes) (for_free t may e) = absurd e
  end-as free count Differ (for_scrub may e) = sym h.same_end ∙ (scrub-parts core may).not_due
  end-as free count NoMajority (for_scrub may e) = absurd (always-scrubbed free count may e.0 e.1)
  end-as free count (Limit steps next) (for_scrub may e) = absurd e
  end-as free count (Exit status) (for_scrub may e) = absurd e
  end-as free count (Trap code) (for_scrub may e) = absurd e
  end-as free count Deadlock (for_scrub may e) = absurd e
  end-as free count (Sink bytes) (for_scrub may e) = absurd e
