-- The fields of a core behind an event: a vote or a free.
use Rattle.std.proofs.Common.{◌≡◌, ◌≢◌, ℕ, zero, suc, ◌+◌, ◌*◌, ◌<◌, ◌≤◌, Bool, true, false, true≢false, cond, inl, inr, List, [], ◌∷◌, ◌++◌, length, length-append, Option, Some, None, refl, sym, ap, ◌∙◌, subst, arith, eqb-true}
use Rattle.std.specs.Prelude.{◌==◌, ◌^◌, ◌⊎◌, if◌then◌else◌, IfSome, slice_get, slice_set}
use Rattle.std.specs.List.{All}
use Rattle.std.proofs.lemmas.Bool.{eq-eqb, ne_eqb, cases_eq}
use Rattle.std.proofs.lemmas.Option.{slice_get_within}
use Rattle.std.proofs.lemmas.List.{length-set}
use Rattle.ro_journal.specs.declared.Entry.{Entry}
use Rattle.ro_journal.specs.Plan.{event_steps, outcome_of}
use Rattle.ro_event.specs.declared.calls.Call.{Call}
use Rattle.ro_event.specs.declared.effects.Made.{Made}
use Rattle.ro_event.specs.Effects.{Effect}
use Rattle.ro_region.specs.declared.Range.{Range}
use Rattle.ro_replica.specs.Replica.{Replica}
use Rattle.ro_replica.specs.Seen.{ReplicaOf, CanApply}
use Rattle.ro_replica.specs.Lent.{IsSpareLane}
use Rattle.ro_plain.proofs.Calls.{some-injective}
use Rattle.ro_legal.specs.Waits.{AreWaits, NotesWaits, Notes, waited_behind}
use Rattle.ro_legal.specs.Core.{Job, Core}
use Rattle.ro_legal.specs.Event.{Event, all_applied, core_after}
use Rattle.ro_legal.specs.Legal.{after, IsAllowed, replay}
use Rattle.ro_core.specs.Seen.{IsOfJob}
use Rattle.ro_core.specs.Grouped.{AreGrouped}
use Rattle.ro_core.specs.Fields.{AreNoted, AreWishes, IsWish, lent_at, AreSeated, AreHome, AreSpared, CanTake, one_end, Fields, core_in, blocked_at, first_unblocked, IsCalm, CountsBytes, Holds}
use Rattle.ro_core.specs.Wishing.{few_misses, wish_place, Forgives}
use Rattle.ro_core.specs.declared.wishing.Wish.{Wish}
use Rattle.ro_legal.proofs.Lists.{get-within}
use Rattle.ro_legal.proofs.Ordered.{ordered}
use Rattle.ro_legal.proofs.Happens.{Happens}
use Rattle.ro_legal.proofs.Journals.{outcome_of-append, replay_more}
use Rattle.ro_core.proofs.Tests.{seated-home}
use Rattle.ro_core.proofs.Held.{Goes, no-views, no-outcome, length-more, holds-step}

different : (m n : ℕ) → m ≢ n → (m == n) ≡ false
different m n d = by (m == n) refl
  where
    by : (c : Bool) → (m == n) ≡ c → c ≡ false
    by false e = refl
    by true e = absurd (d (eqb-true m n e))

-- one thread's call is set
blocked-set : (blocked : List (Option Call)) (thread t : ℕ) (call : Option Call) → thread < length blocked → blocked_at (slice_set blocked thread call) t ≡ (if t == thread then call else blocked_at blocked t)
blocked-set [] thread t call less = absurd (omega arith)
blocked-set (b ∷ blocked) zero zero call less = refl
blocked-set (b ∷ blocked) zero (suc t) call less = sym (ap (λ (c : Bool). cond c call (blocked_at blocked t)) (different (suc t) 0 (λ (e : suc t ≡ 0). omega arith)))
blocked-set (b ∷ blocked) (suc thread) zero call less = sym (ap (λ (c : Bool). cond c call b) (different 0 (suc thread) (λ (e : 0 ≡ suc thread). omega arith)))
blocked-set (b ∷ blocked) (suc thread) (suc t) call less = blocked-set blocked thread t call (omega arith) ∙ ap (λ (c : Bool). cond c call (blocked_at blocked t)) (same t thread)
  where
    same : (m n : ℕ) → (m == n) ≡ (suc m == suc n)
    same m n = by (m == n) refl
      where
        by : (c : Bool) → (m == n) ≡ c → c ≡ (suc m == suc n)
        by true e = sym (eq-eqb (suc m) (suc n) (ap suc (eqb-true m n e)))
        by false e = sym (different (suc m) (suc n) (λ g. true≢false (sym (eq-eqb m n (let k : suc m ≡ suc n = g in omega arith)) ∙ e)))

-- what is lent is the same, and the thread is said to have missed no page
pub record Forgiven (f f' : Fields) (thread : ℕ) : Type 0 where
  pub lent : f'.lent ≡ f.lent
  pub lanes : f'.lanes ≡ f.lanes
  pub wishes : Forgives thread f.job.settings.replicas f.wishes f'.wishes

-- so it is noted of the core behind the event
forgiven-noted : (f f' : Fields) → Holds f → (thread count : ℕ) (replicas : List Replica) (event : Event) → thread < 16 → length (all_applied event.effect replicas) ≡ length (core_in f).replicas → Forgiven f f' thread → AreNoted (core_after (core_in f) thread count replicas event) f.job.settings.drivers f'.lent f'.wishes
forgiven-noted f f' h thread count replicas event few many same = (
  λ driver less. ap (λ (xs : _). lent_at xs driver) same.lent ∙ h.noted.0 driver less,
  λ lends.
      let noted = h.noted.1 lends in (
        record {
          count = same.wishes.count ∙ noted.0.count ∙ ap (λ (n : ℕ). 16 * n) (sym many);
          each = λ replica t wish less there. by replica t wish less there noted.0 (cases_eq t thread);
        },
        ap length same.lent ∙ noted.1,
      ),
)
  where
    made : length (core_in f).replicas ≡ f.job.settings.replicas
    made = (ordered f.job f.journal h.legal).replica_count

    -- the wish of a thread stands at no other's place
    elsewhere : (replica t : ℕ) → t < 16 → t ≢ thread → (other : ℕ) → other < f.job.settings.replicas → wish_place replica t ≢ wish_place other thread
    elsewhere replica t less ne other within e = ne (omega arith)

    by : (replica t : ℕ) (wish : Wish) → t < 16 → slice_get f'.wishes (wish_place replica t) ≡ Some wish → AreWishes (core_in f) f.wishes → (t ≡ thread) ⊎ (t ≢ thread) → IsWish (core_after (core_in f) thread count replicas event) replica t wish
    by replica t wish less there are (inr ne) =
        let is = are.each replica t wish less (sym (same.wishes.others (wish_place replica t) (elsewhere replica t less ne)) ∙ there) in
        record {
          pages = is.pages;
          misses = is.misses ∙ ap (λ (b : Bool). few_misses (cond b 0 ((core_in f).misses replica t))) (sym (ne_eqb t thread ne));
        }
    by replica t wish less there are (inl e) = its (get-within f.wishes (wish_place replica t) (let n = slice_get_within f'.wishes (wish_place replica t) wish there in let m = same.wishes.count in omega arith))
      where
        within : replica < f.job.settings.replicas
        within =
            let n = slice_get_within f'.wishes (wish_place replica t) wish there in
            let m = same.wishes.count in
            let c = are.count in
            let k = made in
            omega arith

        its : (old : Wish) × (slice_get f.wishes (wish_place replica t) ≡ Some old) → IsWish (core_after (core_in f) thread count replicas event) replica t wish
        its (old, was) =
            let was_its : slice_get f.wishes (wish_place replica thread) ≡ Some old = ap (λ (k : ℕ). slice_get f.wishes (wish_place replica k)) (sym e) ∙ was in
            let after = same.wishes.its replica old within was_its in
            let now : after.0 ≡ wish = some-injective (sym after.1 ∙ ap (λ (k : ℕ). slice_get f'.wishes (wish_place replica k)) (sym e) ∙ there) in
            let is = are.each replica t old less was in
            record {
              pages = ap (λ (w : Wish). w.pages.items) (sym now) ∙ after.2 ∙ is.pages;
              misses = ap (λ (w : Wish). w.misses) (sym now) ∙ after.3 ∙ ap (λ (b : Bool). few_misses (cond b 0 ((core_in f).misses replica t))) (sym (eq-eqb t thread e));
            }

module _ (f f' : Fields) (h : Holds f) (entry : Entry) (allowed : IsAllowed f.job (core_in f) entry) (thread count : ℕ) (replicas : List Replica) (event : Event) (came : after f.job (core_in f) entry ≡ core_after (core_in f) thread count replicas event)
    (goes : Goes f) (alone : f.leases ≡ []) (happens : Happens (core_in f).kernel thread event) (few : thread < 16) (many : length (all_applied event.effect replicas) ≡ length (core_in f).replicas) (journal : f'.journal ≡ f.journal ++ entry ∷ []) where
  core_alone : (core_in f).leases ≡ []
  core_alone = sym h.leases_are ∙ alone

  new-core : replay f.job f'.journal ≡ core_after (core_in f) thread count replicas event
  new-core = ap (replay f.job) journal ∙ replay_more f.job f.journal entry ∙ came

  counts : length event.payload ≤ 4096 * event_steps event.did → f'.sent ≡ f.sent + length event.payload → f'.wrote ≡ length event.payload → f'.steps ≡ f.steps + count + event_steps event.did → CountsBytes f'.sent f'.wrote f'.steps (core_after (core_in f) thread count replicas event)
  counts written sent wrote steps = record {
    sent_are = sent ∙ ap (λ (n : ℕ). n + length event.payload) h.counts.sent_are ∙ sym (length-append (core_in f).output event.payload);
    wrote_is = wrote;
    within = omega arith;
    few = let d = h.counts.few in omega arith;
  }

  -- the fields behind the event
  pub happened-holds : f'.job ≡ f.job → AreHome f.job event.kernel f'.seats (all_applied event.effect replicas) → AreGrouped (all_applied event.effect replicas) f'.groups → f'.leases ≡ f.leases → Forgiven f f' thread → f'.kernel.setup ≡ f.kernel.setup → f'.kernel.kernel ≡ event.kernel
      → f'.blocked ≡ slice_set f.blocked thread event.blocked → f'.unblocked ≡ first_unblocked f'.kernel f'.blocked → IsCalm f'.kernel.kernel f'.blocked f'.waits f'.calm → f'.steps ≡ f.steps + count + event_steps event.did → f'.scrubbed ≡ f.scrubbed → Notes f.waits f'.waits thread (blocked_at f.blocked thread) → f'.due ≡ event.due → f'.ended ≡ f.ended → length f'.views ≡ length f'.seats
      → length event.payload ≤ 4096 * event_steps event.did → f'.sent ≡ f.sent + length event.payload → f'.wrote ≡ length event.payload → outcome_of (entry ∷ []) ≡ None → 1 ≤ f'.places → Holds f'
  happened-holds job home groups leases lending setup kernel blocked unblocked calm steps scrubbed waits due ended views written sent wrote no_end room = holds-step f f' entry h allowed (record {
    job = job;
    journal = journal;
    leases = leases ∙ h.leases_are ∙ sym (ap (λ (c : Core). c.leases) came);
    noted = subst (λ (c : Core). AreNoted c f.job.settings.drivers f'.lent f'.wishes) (sym came) (forgiven-noted f f' h thread count replicas event few many lending);
    lanes = subst (All (IsSpareLane f.job.program.image)) (sym lending.lanes) h.lanes_are;
    setup = setup;
    kernel = kernel ∙ sym (ap (λ (c : Core). c.kernel) came);
    blocked_count = ap length blocked ∙ length-set f.blocked thread event.blocked ∙ h.blocked_count;
    blocked = λ t. ap (λ (bs : List (Option Call)). blocked_at bs t) blocked ∙ blocked-set f.blocked thread t event.blocked (let n = h.blocked_count in omega arith)
        ∙ ap (λ (o : Option Call). if t == thread then event.blocked else o) (h.blocked_are t) ∙ sym (ap (λ (c : Core). c.blocked t) came);
    unblocked = unblocked;
    calm = calm;
    steps = steps ∙ ap (λ (n : ℕ). n + count + event_steps event.did) h.steps_are ∙ sym (ap (λ (c : Core). c.steps) came);
    scrubbed = scrubbed ∙ h.scrubbed_are ∙ sym (ap (λ (c : Core). c.scrubbed) came);
    waits = subst (λ (c : Core). NotesWaits f'.waits c.waited (length f'.journal)) (sym came) (record {
      are = subst (λ (o : Option Call). AreWaits f'.waits (waited_behind (core_in f).waited thread o)) (h.blocked_are thread) (waits.waits (core_in f).waited h.waits_are.are);
      few = let few = h.waits_are.few in let most = waits.most in let more = ap length journal ∙ length-more f.journal entry in omega arith;
    });
    counts = subst (CountsBytes f'.sent f'.wrote f'.steps) (sym came) (counts written sent wrote steps);
    due = due ∙ sym (ap (λ (c : Core). c.due) came);
    ended = ended ∙ h.ended_is ∙ sym (ap (λ (c : Core). c.ended) came);
    seats = subst (λ (c : Core). AreSeated f.job c f'.seats) (sym came) (seated-home f.job (core_after (core_in f) thread count replicas event) f'.seats home core_alone);
    groups = subst (λ (c : Core). AreGrouped c.replicas f'.groups) (sym came) groups;
    views_count = λ unended. views;
    views_kept = no-views f.job _ f'.views (outcome_of-append f.journal (entry ∷ []) (no-outcome f h goes.not_ended) ∙ no_end);
    room = let none : length f'.leases ≡ 0 = ap length (leases ∙ alone) in let one : one_end f'.ended ≡ 1 = ap one_end (ended ∙ goes.not_ended) in omega arith;
  })

-- ---- the event can be given to each replica

can-take : (job : Job) (core : Core) (thread : ℕ) (effect : Effect) (seats : List (Option ReplicaOf)) (replicas : List Replica) → AreHome job core.kernel seats replicas → AreSpared seats
    → ((value : ReplicaOf) → IsOfJob job core.kernel value → length value.threads ≡ length core.kernel.lives → 3 ≤ value.held.spare → CanApply effect value)
    → ((number : ℕ) (replica : Replica) → slice_get replicas number ≡ Some replica → length replica.threads ≡ length core.kernel.lives) → CanTake effect seats
can-take job core thread effect [] [] home spared can made = tt
can-take job core thread effect (Some value ∷ seats) (r ∷ replicas) home spared can made = (
  can value home.0 (ap (λ (x : Replica). length x.threads) home.1 ∙ made 0 r refl) spared.0,
  can-take job core thread effect seats replicas home.2 spared.1 can (λ n x e. made (suc n) x e),
)
can-take job core thread effect seats replicas home spared can made = absurd home

-- the facts of a live thread's event, for each replica
pub all-can-take : (job : Job) (core : Core) (thread : ℕ) (event : Event) (seats : List (Option ReplicaOf)) (replicas : List Replica) → Happens core.kernel thread event → thread < length core.kernel.lives → IfSome event.effect.page (λ page. page < 2 ^ 20)
    → IfSome event.effect.range (λ range. length core.kernel.given < 4096) → AreHome job core.kernel seats replicas → AreSpared seats → ((number : ℕ) (replica : Replica) → slice_get replicas number ≡ Some replica → length replica.threads ≡ length core.kernel.lives) → CanTake event.effect seats
all-can-take job core thread event seats replicas happens made low room home spared all =
    can-take job core thread event.effect seats replicas home spared (λ value own count spare. record {
      made = subst (λ (n : ℕ). n < length value.threads) (sym happens.thread_is) (omega arith);
      creator = creator value count event.effect.made refl happens.place_left;
      few = happens.few;
      within = happens.within;
      page = low;
      room = subst (λ (given : List Range). IfSome event.effect.range (λ range. length given < 4096)) (sym own.given) room;
      spare = spare;
    }) all
  where
    creator : (value : ReplicaOf) → length value.threads ≡ length core.kernel.lives → (o : Option Made) → event.effect.made ≡ o → IfSome o (λ m. length core.kernel.lives < 16) → IfSome o (λ m. (m.creator < length value.threads) × (length value.threads < 16))
    creator value count None e left = tt
    creator value count (Some m) e left = let own : m.creator ≡ thread = happens.creator_is m e in (omega arith, omega arith)
