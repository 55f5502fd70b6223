-- The fields of a run behind an event that is done in every peer and noted.
use Rattle.std.proofs.Common.{◌≡◌, ◌≢◌, ℕ, zero, suc, ◌+◌, ◌*◌, ◌<◌, ◌≤◌, Bool, true, false, true≢false, cond, List, [], ◌∷◌, ◌++◌, length, length-append, map, Option, Some, None, refl, sym, ap, ◌∙◌, subst, arith, eqb-true}
use Rattle.std.specs.Prelude.{◌==◌, ◌^◌, if◌then◌else◌, is_none, IfSome, slice_get, slice_set, slice_index_or}
use Rattle.std.specs.List.{list_any}
use Rattle.std.proofs.lemmas.Bool.{and_from, eq-eqb}
use Rattle.std.proofs.lemmas.List.{length-set}
use Rattle.std.proofs.lemmas.Option.{slice_get_within}
use Rattle.ro_journal.specs.declared.Entry.{Entry}
use Rattle.ro_journal.specs.Plan.{event_steps}
use Rattle.ro_event.specs.declared.calls.Call.{Call}
use Rattle.ro_event.specs.declared.effects.Made.{Made}
use Rattle.ro_mutex.specs.Owners.{owner_of}
use Rattle.ro_region.specs.Permission.{with_range}
use Rattle.ro_kernel.specs.Kernel.{Setup, Kernel, lives_on}
use Rattle.ro_kernel.specs.State.{State}
use Rattle.ro_orders.specs.Choices.{chosen_of}
use Rattle.ro_peer.specs.declared.mutexes.Mutex.{Mutex}
use Rattle.ro_replica.specs.Replica.{Replica}
use Rattle.ro_legal.specs.declared.actions.Waits.{Waits}
use Rattle.ro_legal.specs.Waits.{AreWaits, NotesWaits, Notes, waited_behind}
use Rattle.ro_legal.specs.Sides.{Side}
use Rattle.ro_legal.specs.Core.{Job, Core, is_going}
use Rattle.ro_legal.specs.Event.{Event}
use Rattle.ro_legal.specs.Kept.{addresses_of, cooperative_in, IsCounted, KeepsReplicas, KeepsMutexes}
use Rattle.ro_legal.specs.Cooperative.{Legal, core_after, entered_by, kernel_for, settled, most_done, replay, replica_after, replicas_after, side_served}
use Rattle.ro_legal.proofs.Happens.{Happens}
use Rattle.ro_legal.proofs.Journals.{outcome_of-append}
use Rattle.ro_legal.proofs.Lists.{get-within, get-map-there, length-mapped}
use Rattle.ro_legal.proofs.Mutexes.{mutexes-kept}
use Rattle.ro_legal.proofs.TogetherEvents.{event-steps-few}
use Rattle.ro_coop_core.specs.declared.cores.Core.{Core as Run}
use Rattle.ro_coop_core.specs.declared.seats.Seat.{Seat}
use Rattle.ro_coop_core.specs.declared.seats.Entering.{Entering}
use Rattle.ro_coop_core.specs.Seats.{AreHome, AreRanked, AreSeated, AreSpared, AllCanTake, entered_of}
use Rattle.ro_coop_core.specs.Fields.{one_end, Fields, core_in, blocked_at, CountsBytes, Holds}
use Rattle.ro_coop_core.specs.Runs.{fields_of, job_of, state_of, payload_by, LastWrote}
use Rattle.ro_coop_core.specs.Amid.{Occurrence, CanOccur, entering_of, event_of}
use Rattle.ro_legal.proofs.TogetherJournals.{replay_more, legal_more}
use Rattle.ro_coop_core.proofs.Keeping.{keeps-replicas, keeps-mutexes}
use Rattle.ro_coop_core.proofs.Held.{Goes, goes, no-views, no-outcome, length-more, holds-step}
use Rattle.ro_coop_core.proofs.AtHome.{seated-home, home-count}
use Rattle.ro_coop_core.proofs.Lapsing.{for-either}
use Rattle.ro_coop_core.proofs.Makes.{sides-many, ready-home}
use Rattle.ro_coop_core.proofs.Comes.{lives-within, payload-due, payload-few, writes-step, comes-happens}
use Rattle.ro_coop_core.proofs.Occurring.{most-same, after-there, not-numbered, not-cooperative, few-cooperative, entering-address, few-before, CanCome, CanEnter, all-take}

different : (m n : ℕ) → m ≢ n → (m == n) ≡ false
different m n d = by (m == n) refl
  where
    by : (c : Bool) → (m == n) ≡ c → c ≡ false
    by false e = refl
    by true e = absurd (d (eqb-true m n e))

-- one thread's call is set
blocked-set : (blocked : List (Option Call)) (thread t : ℕ) (call : Option Call) → thread < length blocked → blocked_at (slice_set blocked thread call) t ≡ (if t == thread then call else blocked_at blocked t)
blocked-set [] thread t call less = absurd (omega arith)
blocked-set (b ∷ blocked) zero zero call less = refl
blocked-set (b ∷ blocked) zero (suc t) call less = sym (ap (λ (c : Bool). cond c call (blocked_at blocked t)) (different (suc t) 0 (λ (e : suc t ≡ 0). omega arith)))
blocked-set (b ∷ blocked) (suc thread) zero call less = sym (ap (λ (c : Bool). cond c call b) (different 0 (suc thread) (λ (e : 0 ≡ suc thread). omega arith)))
blocked-set (b ∷ blocked) (suc thread) (suc t) call less = blocked-set blocked thread t call (omega arith) ∙ ap (λ (c : Bool). cond c call (blocked_at blocked t)) (same t thread)
  where
    same : (m n : ℕ) → (m == n) ≡ (suc m == suc n)
    same m n = by (m == n) refl
      where
        by : (c : Bool) → (m == n) ≡ c → c ≡ (suc m == suc n)
        by true e = sym (eq-eqb (suc m) (suc n) (ap suc (eqb-true m n e)))
        by false e = sym (different (suc m) (suc n) (λ g. true≢false (sym (eq-eqb m n (let k : suc m ≡ suc n = g in omega arith)) ∙ e)))

-- the job stays
pub occurs-job : (r : Run) (o : Occurrence) (can : CanOccur r o) → job_of r ≡ job_of can.before
occurs-job r o can =
    ap job_of can.is ∙ ap (λ (s : Setup). record { program = record { image = can.before.image; input = s.input }; faults = []; settings = can.before.settings }) can.setup

module _ (r : Run) (o : Occurrence) (can : CanOccur r o) where
  abbrev pub f : Fields
  f = fields_of can.before

  abbrev h : Holds f
  h = can.holds

  abbrev core : Core
  core = core_in f

  abbrev event : Event
  event = event_of r o

  abbrev payload : List ℕ
  payload = payload_by r.views.items o.writes

  abbrev serving : Kernel
  serving = kernel_for core o.thread

  abbrev entered : List Mutex
  entered = entered_by (chosen_of f.job.program) serving r.kernel.kernel can.stop

  abbrev pub entering : Option Entering
  entering = entering_of r.kernel.kernel.owners o.newcomer

  goes-on : Goes f
  goes-on = goes f h can.going

  keeps : KeepsReplicas f.job core
  keeps = keeps-replicas f h

  mutexes : KeepsMutexes f.job core
  mutexes = keeps-mutexes f h

  alone : core.leases ≡ []
  alone = sym h.leases_are ∙ can.alone

  happens : Happens serving o.thread event
  happens = comes-happens f.kernel.setup serving o.thread event can.comes

  pub occurs-given : r.kernel.kernel.given ≡ with_range o.event.effect.range core.kernel.given
  occurs-given = happens.given_are ∙ ap (with_range o.event.effect.range) (for-either core o.thread (λ k. k.given ≡ core.kernel.given) refl refl)

  lives : serving.lives ≡ core.kernel.lives
  lives = for-either core o.thread (λ k. k.lives ≡ core.kernel.lives) refl refl

  within : o.thread < length core.kernel.lives
  within = lives-within core.kernel o.thread (ap (λ (k : Kernel). lives_on k o.thread) (sym h.kernel_is) ∙ can.live)

  pub occurs-few : o.thread < 16
  occurs-few = let few = keeps.few_lives in let w = within in omega arith

  -- ---- what it asks of the seats

  pub occurs-home : AreHome f.job core.kernel core.replicas core.sides r.seats.items
  occurs-home = subst (AreHome f.job core.kernel core.replicas core.sides) (sym (ap (λ (x : Run). x.seats.items) can.is)) (ready-home f h can.alone)

  comes : CanCome f.job core o.event.effect o.thread
  comes = record {
    own = happens.thread_is;
    live = within;
    few_lives = keeps.few_lives;
    creator = λ m e. (happens.creator_is m e, left m e);
    few = happens.few;
    within = happens.within;
    low = can.low;
    room = subst (λ (k : Kernel). IfSome o.event.effect.range (λ range. length k.given < 4096)) h.kernel_is can.room;
  }
    where
      left : (m : Made) → o.event.effect.made ≡ Some m → length core.kernel.lives < 16
      left m e =
          let place : length serving.lives < 16 = subst (λ (x : Option Made). IfSome x (λ made. length serving.lives < 16)) e happens.place_left in
          let same = ap length lives in
          omega arith

  legal-new : Legal f.job (f.journal ++ o.entry ∷ [])
  legal-new = legal_more f.job f.journal o.entry h.legal can.allowed

  new-core : replay f.job (f.journal ++ o.entry ∷ []) ≡ core_after f.job (settled core o.thread) o.thread can.stop event
  new-core = replay_more f.job f.journal o.entry ∙ can.came

  mutexes-new : KeepsMutexes f.job (core_after f.job (settled core o.thread) o.thread can.stop event)
  mutexes-new = subst (KeepsMutexes f.job) new-core (mutexes-kept f.job (f.journal ++ o.entry ∷ []) legal-new)

  -- a mutex more is among those that are answered for by now
  more-few : (number : ℕ) (replica : Replica) (side : Side) → slice_get core.replicas number ≡ Some replica → slice_get core.sides number ≡ Some side → length (addresses_of (side.mutexes ++ entered_of entering)) ≤ 256
  more-few number replica side e g =
      let counted = mutexes-new.counted number (replica_after o.event.effect entered side replica) (side_served o.thread entered side) (after-there o.event.effect entered core.replicas core.sides number replica side e g) (get-map-there (side_served o.thread entered) core.sides number side g) in
      let long : length (addresses_of (side.mutexes ++ entered_of entering)) ≡ length (cooperative_in f.job.program r.kernel.kernel.owners) = ap (λ (ms : List Mutex). length (addresses_of (side.mutexes ++ ms))) can.enters ∙ ap length counted.answers_for in
      let few = few-cooperative f.job.program r.kernel.kernel.owners mutexes-new.few in
      omega arith

  absent : (x : Entering) → entering ≡ Some x → owner_of core.kernel.owners x.address ≡ None
  absent x e = ap (λ (k : Kernel). owner_of k.owners x.address) (sym h.kernel_is) ∙ can.absent x.address (entering-address r.kernel.kernel.owners o.newcomer x e)

  enter : (number : ℕ) (replica : Replica) (side : Side) → slice_get core.replicas number ≡ Some replica → slice_get core.sides number ≡ Some side → CanEnter core entering replica side
  enter number replica side e g = record {
    made = (keeps.unstruck number replica e).all_made;
    clean = counted.no_own_stops;
    few = λ x q. few-before side.mutexes entering x q (more-few number replica side e g);
    new = λ x q. not-numbered side.mutexes x.address (ap (list_any (λ (n : ℕ). n == x.address)) counted.answers_for ∙ not-cooperative f.job.program core.kernel.owners x.address (absent x q));
  }
    where
      counted : IsCounted f.job core replica side
      counted = mutexes.counted number replica side e g

  pub occurs-can : AllCanTake o.event.effect o.thread entering r.seats.items
  occurs-can = all-take f.job core o.event.effect o.thread comes entering core.replicas core.sides r.seats.items occurs-home (subst AreSpared (sym (ap (λ (x : Run). x.seats.items) can.is)) can.spared) enter

  pub occurs-ranked : AreRanked core.sides
  occurs-ranked number side g =
      let there = get-within core.replicas number (let w = slice_get_within core.sides number side g in let n = sides-many f h in omega arith) in
      (mutexes.counted number there.0 side there.1 g).ranks_are

  -- ---- its counts

  steps-are : r.steps ≡ core.steps
  steps-are = ap (λ (x : Run). x.steps) can.is ∙ h.steps_are

  sent-are : r.sent ≡ f.sent
  sent-are = ap (λ (x : Run). x.sent) can.is

  pub occurs-steps : r.steps + o.steps < 2 ^ 60 + 1
  occurs-steps =
      let few = event-steps-few o.event.did in
      let counted = can.counted in
      let are = steps-are in
      let limit = h.calm.in_range.limit.1 in
      let watchdog = h.calm.in_range.watchdog.1 in
      let most = keeps.steps_within in
      omega arith

  pub occurs-short : length payload ≤ 4096
  occurs-short = payload-few f.kernel.setup serving o.thread event can.comes

  fits : length payload ≤ 4096 * event_steps o.event.did
  fits = writes-step f.kernel.setup serving o.thread event can.comes

  pub occurs-sent : r.sent + length payload < 2 ^ 64
  occurs-sent =
      let are = sent-are in
      let few = h.counts.few in
      let steps = h.steps_are in
      let short = occurs-short in
      let limit = h.calm.in_range.limit.1 in
      let watchdog = h.calm.in_range.watchdog.1 in
      let most = keeps.steps_within in
      omega arith

  pub occurs-places : 2 ≤ (fields_of r).places
  occurs-places = subst (λ (x : Run). 2 ≤ (fields_of x).places) (sym can.is) can.places

  -- seats that have the replicas behind it
  new-home : (seats : List Seat) → AreHome f.job r.kernel.kernel (replicas_after o.event.effect (entered_of entering) core.replicas core.sides) (map (side_served o.thread (entered_of entering)) core.sides) seats → AreHome f.job r.kernel.kernel (replicas_after o.event.effect entered core.replicas core.sides) (map (side_served o.thread entered) core.sides) seats
  new-home seats home = subst (λ (ms : List Mutex). AreHome f.job r.kernel.kernel (replicas_after o.event.effect ms core.replicas core.sides) (map (side_served o.thread ms) core.sides) seats) can.enters home

  pub occurs-many : (seats : List Seat) → AreHome f.job r.kernel.kernel (replicas_after o.event.effect (entered_of entering) core.replicas core.sides) (map (side_served o.thread (entered_of entering)) core.sides) seats → length seats ≡ length r.seats.items
  occurs-many seats home =
      let new = home-count f.job r.kernel.kernel (replicas_after o.event.effect (entered_of entering) core.replicas core.sides) (map (side_served o.thread (entered_of entering)) core.sides) seats home in
      let old = home-count f.job core.kernel core.replicas core.sides r.seats.items occurs-home in
      let sides = length-mapped (side_served o.thread (entered_of entering)) core.sides in
      omega (arith, new.0, new.1, old.0, old.1)

  -- ---- how long threads wait

  -- so many votes were held at most
  pub occurs-votes : r.waits.votes ≤ length r.journal.items
  occurs-votes = let few = h.waits_are.few in let same = ap (λ (x : Run). x.waits.votes) can.is in let long = ap (λ (x : Run). length x.journal.items) can.is in omega arith

  -- ---- the fields behind it

  module _ (f' : Fields) (job : f'.job ≡ f.job) (journal : f'.journal ≡ f.journal ++ o.entry ∷ []) (due : f'.due ≡ o.event.due) where
    counts : f'.sent ≡ r.sent + length payload → f'.wrote ≡ length payload → f'.steps ≡ r.steps + o.steps → CountsBytes f'.sent f'.wrote f'.steps (core_after f.job (settled core o.thread) o.thread can.stop event)
    counts sent wrote steps = record {
      sent_are = sent ∙ ap (λ (n : ℕ). n + length payload) (sent-are ∙ h.counts.sent_are) ∙ sym (length-append core.output payload);
      wrote_is = wrote;
      within = omega arith;
      few = let d = h.counts.few in let fit = fits in let counted = can.counted in let a = sent-are in let b = steps-are in let e = h.steps_are in omega arith;
    }

    pub occurs-holds : AreHome f.job r.kernel.kernel (replicas_after o.event.effect (entered_of entering) core.replicas core.sides) (map (side_served o.thread (entered_of entering)) core.sides) f'.seats → f'.leases ≡ r.leases.items → f'.kernel ≡ r.kernel → f'.cooperates ≡ r.cooperates → f'.blocked ≡ slice_set r.blocked o.thread o.event.blocked → f'.most_done ≡ r.most_done
        → f'.steps ≡ r.steps + o.steps → Notes r.waits f'.waits o.thread (blocked_at r.blocked o.thread) → f'.ended ≡ r.ended → f'.views ≡ r.views.items → f'.sent ≡ r.sent + length payload → f'.wrote ≡ length payload → 1 ≤ f'.places → Holds f'
    occurs-holds home leases kernel cooperates blocked most steps waits ended views sent wrote room = holds-step f f' o.entry h can.allowed (record {
      job = job;
      journal = journal;
      leases = leases ∙ ap (λ (x : Run). x.leases.items) can.is ∙ h.leases_are ∙ sym (ap (λ (c : Core). c.leases) can.came);
      setup = ap (λ (k : State). k.setup) kernel ∙ can.setup;
      kernel = ap (λ (k : State). k.kernel) kernel ∙ sym (ap (λ (c : Core). c.kernel) can.came);
      cooperates = cooperates ∙ ap (λ (x : Run). x.cooperates) can.is;
      blocked_count = ap length blocked ∙ length-set r.blocked o.thread o.event.blocked ∙ ap (λ (x : Run). length x.blocked) can.is ∙ h.blocked_count;
      blocked = λ t. ap (λ (bs : List (Option Call)). blocked_at bs t) blocked ∙ blocked-set r.blocked o.thread t o.event.blocked (let n : length r.blocked ≡ 16 = ap (λ (x : Run). length x.blocked) can.is ∙ h.blocked_count in let few = occurs-few in omega arith)
          ∙ ap (λ (c : Option Call). if t == o.thread then o.event.blocked else c) (ap (λ (x : Run). blocked_at x.blocked t) can.is ∙ h.blocked_are t) ∙ sym (ap (λ (c : Core). c.blocked t) can.came);
      most_count = ap length most ∙ ap (λ (x : Run). length x.most_done) can.is ∙ h.most_count;
      most = λ t. ap (λ (ns : List ℕ). slice_index_or ns t 0) most ∙ ap (λ (x : Run). slice_index_or x.most_done t 0) can.is ∙ h.most_are t ∙ sym (most-same o.event.effect entered core.replicas core.sides t (sides-many f h)) ∙ sym (ap (λ (c : Core). most_done c.replicas t) can.came);
      steps = steps ∙ ap (λ (n : ℕ). n + o.steps) steps-are ∙ ap (λ (n : ℕ). core.steps + n) can.counted ∙ sym (ap (λ (c : Core). c.steps) can.came);
      waits = subst (λ (c : Core). NotesWaits f'.waits c.waited (length f'.journal)) (sym can.came) (record {
        are = subst (λ (b : Option Call). AreWaits f'.waits (waited_behind core.waited o.thread b)) (ap (λ (x : Run). blocked_at x.blocked o.thread) can.is ∙ h.blocked_are o.thread)
            (waits.waits core.waited (subst (λ (w : Waits). AreWaits w core.waited) (sym (ap (λ (x : Run). x.waits) can.is)) h.waits_are.are));
        few = let few = h.waits_are.few in let most = waits.most in let same = ap (λ (x : Run). x.waits.votes) can.is in let more = ap length journal ∙ length-more f.journal o.entry in omega arith;
      });
      counts = subst (CountsBytes f'.sent f'.wrote f'.steps) (sym can.came) (counts sent wrote steps);
      due = due ∙ sym (ap (λ (c : Core). c.due) can.came);
      ended = ended ∙ ap (λ (x : Run). x.ended) can.is ∙ h.ended_is ∙ sym (ap (λ (c : Core). c.ended) can.came);
      seats = subst (λ (c : Core). AreSeated f.job c f'.seats) (sym can.came) (seated-home f.job (core_after f.job (settled core o.thread) o.thread can.stop event) f'.seats (new-home f'.seats home) alone);
      views_count = λ unended. ap length views ∙ ap (λ (x : Run). length x.views.items) can.is ∙ h.views_count goes-on.not_ended ∙ sym (ap (λ (x : Run). length x.seats.items) can.is) ∙ sym (occurs-many f'.seats home);
      views_kept = no-views f.job _ f'.views (outcome_of-append f.journal (o.entry ∷ []) (no-outcome f h goes-on.not_ended) ∙ can.no_end);
      room =
          let none : length f'.leases ≡ 0 = ap length (leases ∙ ap (λ (x : Run). x.leases.items) can.is ∙ can.alone) in
          let one : one_end f'.ended ≡ 1 = ap one_end (ended ∙ ap (λ (x : Run). x.ended) can.is ∙ goes-on.not_ended) in
          omega arith;
    })

    pub occurs-wrote : LastWrote f' (state_of r).output payload
    occurs-wrote = record {
      few = occurs-short;
      output = ap (λ (c : Core). c.output) behind ∙ ap (λ (xs : List ℕ). xs ++ payload) before;
      wrote = ap (λ (c : Core). c.wrote) behind;
      goes_on = λ some. ap is_going behind ∙ and_from _ _ (ap is_none (payload-due f.kernel.setup serving o.thread event can.comes some)) (ap is_none (sym h.ended_is ∙ goes-on.not_ended));
    }
      where
        behind : core_in f' ≡ core_after f.job (settled core o.thread) o.thread can.stop event
        behind = ap (λ (j : Job). replay j f'.journal) job ∙ ap (replay f.job) journal ∙ new-core

        before : core.output ≡ (state_of r).output
        before = ap (λ (j : Job). (replay j f.journal).output) (sym (occurs-job r o can)) ∙ ap (λ (js : List Entry). (replay (job_of r) js).output) (sym (ap (λ (x : Run). x.journal.items) can.is))
