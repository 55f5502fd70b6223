-- A blocked thread stands at a call in every replica, so no lease of it is out.
use Rattle.std.specs.Prelude.{◌≡◌, ◌≢◌, ◌⊎◌, ℕ, Bool, true, false, cond, ◌==◌, List, [], length, Option, Some, None, is_some, slice_get}
use Rattle.std.specs.List.{list_all}
use Rattle.std.specs.Option.{option_and_then}
use Rattle.std.proofs.Common.{refl, sym, ap, ◌∙◌, subst, inl, inr, arith}
use Rattle.std.proofs.lemmas.Bool.{true≢false, and_parts, eqb-true, eq-eqb}
use Rattle.std.proofs.lemmas.Option.{slice_get_within}
use Rattle.ro_event.specs.declared.calls.Call.{Call}
use Rattle.ro_event.specs.declared.stops.Stop.{Stop}
use Rattle.ro_event.specs.declared.stops.Stop.TheVariants.{Calls, Trap, PageFault, Watchdog}
use Rattle.ro_event.specs.Effects.{Effect}
use Rattle.ro_event.specs.Views.{View}
use Rattle.ro_journal.specs.Losers.{numbers}
use Rattle.ro_journal.specs.declared.losers.Lost.{Lost}
use Rattle.ro_journal.specs.declared.Did.{Did}
use Rattle.ro_journal.specs.declared.Lease.{Lease}
use Rattle.ro_journal.specs.declared.Entry.{Entry}
use Rattle.ro_journal.specs.declared.Entry.TheVariants.{Take, Put, Part, Vote, Free, Scrub, End}
use Rattle.ro_kernel.specs.Kernel.{Setup, Kernel}
use Rattle.ro_kernel.specs.Serve.{Served, Done, Parked, Blocked, Ends, is_served, serves, serve, put_out, asked}
use Rattle.ro_vote.specs.Numbers.{is_among}
use Rattle.ro_vote.proofs.Verdicts.{WonBy, won-by}
use Rattle.ro_thread.specs.declared.Thread.{Thread}
use Rattle.ro_replica.specs.Replica.{Replica, applied, cancelled, recovered, stop_of}
use Rattle.ro_plain.specs.Machine.{setup_of}
use Rattle.ro_plain.proofs.Calls.{some-injective}
use Rattle.ro_legal.specs.Core.{Job, Core, is_out, views_of}
use Rattle.ro_legal.specs.Event.{Event, quiet_effect, call_event, event_of, with_recovered, all_applied}
use Rattle.ro_legal.specs.Legal.{stopped, core_after_event, freed_event, after, IsAllowed, Returns, MayVote, MayFree}
use Rattle.ro_legal.specs.Sound.{IsOrdered}
use Rattle.ro_legal.proofs.Lists.{MappedFrom, get-map, get-within, get-set-cases}
use Rattle.ro_legal.proofs.Copies.{copied-there, recovered-threads, copies-keep}
use Rattle.ro_legal.proofs.Winners.{same-as-won, views-count, Showing, showing, showing-event}
use Rattle.ro_legal.proofs.Happens.{event-happens, call-happens}
use Rattle.ro_legal.proofs.Leases.{Behind, put-by, part-by}
use Rattle.ro_legal.proofs.Ordered.{FreeParts, free-parts, freed-is, scrub-winner}
use Rattle.ro_legal.proofs.Grants.{LentGo, LentThread, lent-thread, back-keeps, effect-keeps, blocked-stands}

-- a thread of the replica, which stands at a call
pub record AtCall (replica : Replica) (thread : ℕ) : Type 0 where
  pub stands : Thread
  pub there : slice_get replica.threads thread ≡ Some stands
  pub call : Call
  pub at : stands.stop ≡ Some (Calls call)

-- it does so in each replica
abbrev pub AllAtCall : (thread : ℕ) → List Replica → Type 0
AllAtCall thread replicas = (number : ℕ) (replica : Replica) → slice_get replicas number ≡ Some replica → AtCall replica thread

-- and so does each thread that is blocked
abbrev pub BlockedStand : Core → Type 0
BlockedStand core = (thread : ℕ) (call : Call) → core.blocked thread ≡ Some call → AllAtCall thread core.replicas

-- ---- copies

-- the replica has so many threads, of which this one stands at a call
abbrev HasAtCall : (count thread : ℕ) → Replica → Type 0
HasAtCall count thread replica = (length replica.threads ≡ count) × AtCall replica thread

has-copied : (count thread : ℕ) (winner loser : Replica) → HasAtCall count thread winner → length loser.threads ≡ count → HasAtCall count thread (recovered winner loser)
unfolding recovered
has-copied count thread winner loser h as_many =
    let same : length winner.threads ≡ length loser.threads = h.0 ∙ sym as_many in
    let c = copied-there winner.threads loser.threads thread h.1.stands same h.1.there in
    (recovered-threads winner loser same ∙ h.0, record { stands = record h.1.stands { done = c.0 }; there = c.1; call = h.1.call; at = h.1.at })

-- behind the copies of a vote or a scrub
copied-at-call : (job : Job) (core : Core) (thread won : ℕ) (lost : List ℕ) (winner : Replica) → IsOrdered job core → slice_get core.replicas won ≡ Some winner → AtCall winner thread
    → ((number : ℕ) (r : Replica) → is_among lost number ≡ false → slice_get core.replicas number ≡ Some r → AtCall r thread) → AllAtCall thread (with_recovered won lost core.replicas)
copied-at-call job core thread won lost winner o there at others number r e =
    (copies-keep (HasAtCall count thread) (λ r. length r.threads ≡ count) (λ r h. h.0) (has-copied count thread) won lost core.replicas winner there (many won winner there, at)
    many (λ number r stays e. (many number r e, others number r stays e)) number r e).1
  where
    count : ℕ
    count = length core.kernel.lives

    many : (number : ℕ) (r : Replica) → slice_get core.replicas number ≡ Some r → length r.threads ≡ count
    many number r e = (o.sound number r e).all_made

-- ---- events

-- an event of another thread
event-at-call : (effect : Effect) (replicas : List Replica) (thread : ℕ) → thread ≢ effect.thread → AllAtCall thread replicas → AllAtCall thread (all_applied effect replicas)
event-at-call effect replicas thread other h number r e = by (get-map (λ x. cancelled (applied effect x)) replicas number r e)
  where
    by : MappedFrom (λ x. cancelled (applied effect x)) replicas number r → AtCall r thread
    by m =
        let at = h number m.from m.there in
        record {
          stands = at.stands;
          there = ap (λ (x : Replica). slice_get x.threads thread) (sym m.gives) ∙ effect-keeps effect m.from thread at.stands at.call other at.there at.at;
          call = at.call;
          at = at.at;
        }

-- one of its own that blocks
blocks-at-call : (core : Core) (voted count : ℕ) (replicas : List Replica) (event : Event) → event.effect ≡ quiet_effect voted None false → AllAtCall voted replicas → AllAtCall voted (all_applied event.effect replicas)
blocks-at-call core voted count replicas event quiet h number r e = by (get-map (λ x. cancelled (applied event.effect x)) replicas number r e)
  where
    by : MappedFrom (λ x. cancelled (applied event.effect x)) replicas number r → AtCall r voted
    by m =
        let at = h number m.from m.there in
        record {
          stands = record at.stands { since = 0 };
          there = ap (option_and_then (λ (x : Replica). slice_get x.threads voted)) (sym e) ∙ blocked-stands core voted count replicas event number m.from at.stands at.call quiet m.there at.there at.at;
          call = at.call;
          at = at.at;
        }

-- an event that blocks is that of a call, and changes nothing else of the replicas
record Blocks (thread : ℕ) (stop : Stop) (event : Event) : Type 0 where
  call : Call
  is : stop ≡ Calls call
  quiet : event.effect ≡ quiet_effect thread None false

blocks : (setup : Setup) (kernel : Kernel) (thread : ℕ) (stop : Stop) (payload : List ℕ) (on : Call) → (event_of setup kernel thread stop payload).blocked ≡ Some on → Blocks thread stop (event_of setup kernel thread stop payload)
unfolding event_of
blocks setup kernel thread (PageFault page) payload on e = absurd (let f : None ≡ Some on = e in cc)
blocks setup kernel thread Watchdog payload on e = absurd (let f : None ≡ Some on = e in cc)
blocks setup kernel thread (Trap cause) payload on e = absurd (let f : None ≡ Some on = e in cc)
blocks setup kernel thread (Calls call) payload on e = by (serve setup kernel thread (asked call payload)) e
  where
    by : (s : Served) → (call_event kernel thread call (put_out call.which payload) s).blocked ≡ Some on → Blocks thread (Calls call) (call_event kernel thread call (put_out call.which payload) s)
    by (Done after effect) f = absurd (let g : None ≡ Some on = f in cc)
    by (Parked after) f = record { call = call; is = refl; quiet = refl }
    by Blocked f = record { call = call; is = refl; quiet = refl }
    by (Ends after how) f = absurd (let g : None ≡ Some on = f in cc)

-- ---- a vote

module _ (job : Job) (core : Core) (voted count won : ℕ) (lost : Lost) (did : Did) (may : MayVote job core voted count won lost did) (o : IsOrdered job core) where
  all_stand : list_all (λ replica. is_some (stop_of replica voted)) core.replicas ≡ true
  all_stand = (and_parts _ _ may.may).1

  winner : WonBy (views_of job core voted) won (numbers lost)
  winner = won-by (views_of job core voted) won (numbers lost) may.verdict

  shows : Showing job core voted won winner.view
  shows =
      let within = slice_get_within (views_of job core voted) won winner.view winner.there in
      let many = views-count job core voted all_stand in
      showing job core voted won winner.view all_stand (omega arith) winner.there

  -- each replica that didn't lose stands as the winner does
  stands_so : (number : ℕ) (r : Replica) → is_among (numbers lost) number ≡ false → slice_get core.replicas number ≡ Some r → (stands : Thread) × (slice_get r.threads voted ≡ Some stands) × (stands.stop ≡ Some winner.view.stop)
  stands_so number r stays there =
      let many = views-count job core voted all_stand in
      let within = slice_get_within core.replicas number r there in
      let view = get-within (views_of job core voted) number (omega arith) in
      let s = showing job core voted number view.0 all_stand within view.1 in
      let same : winner.view ≡ view.0 = same-as-won (views_of job core voted) won (numbers lost) winner number view.0 stays view.1 in
      let its : s.replica ≡ r = some-injective (sym s.there ∙ there) in
      (s.shown.its, ap (λ (x : Replica). slice_get x.threads voted) (sym its) ∙ s.shown.at, s.shown.stop_is ∙ ap (λ (v : View). Some v.stop) (sym same))

  event_is : event_of (setup_of job.program) core.kernel voted winner.view.stop winner.view.payload ≡ may.event
  event_is = some-injective (sym (showing-event job core voted won winner.view shows) ∙ may.comes)

  -- a vote that blocks leaves its thread at the call of the winner in every replica
  own-stands : (call : Call) → may.event.blocked ≡ Some call → AllAtCall voted (all_applied may.event.effect (with_recovered won (numbers lost) core.replicas))
  own-stands call e =
      blocks-at-call core voted count (with_recovered won (numbers lost) core.replicas) may.event (ap (λ (event : Event). event.effect) (sym event_is) ∙ b.quiet)
      (copied-at-call job core voted won (numbers lost) shows.replica o shows.there (record { stands = shows.shown.its; there = shows.shown.at; call = b.call; at = shows.shown.stop_is ∙ ap (λ (stop : Stop). Some stop) b.is })
      (λ number r stays there. let s = stands_so number r stays there in record { stands = s.0; there = s.1; call = b.call; at = s.2 ∙ ap (λ (stop : Stop). Some stop) b.is }))
    where
      b : Blocks voted winner.view.stop (event_of (setup_of job.program) core.kernel voted winner.view.stop winner.view.payload)
      b = blocks (setup_of job.program) core.kernel voted winner.view.stop winner.view.payload call (ap (λ (event : Event). event.blocked) event_is ∙ e)

  -- and every other thread where it stood
  other-stands : (thread : ℕ) → thread ≢ voted → AllAtCall thread core.replicas → AllAtCall thread (all_applied may.event.effect (with_recovered won (numbers lost) core.replicas))
  other-stands thread other h =
      let own : may.event.effect.thread ≡ voted = ap (λ (event : Event). event.effect.thread) (sym event_is) ∙ (event-happens (setup_of job.program) core.kernel voted winner.view.stop winner.view.payload).thread_is in
      event-at-call may.event.effect (with_recovered won (numbers lost) core.replicas) thread (λ e. other (e ∙ own))
      (copied-at-call job core thread won (numbers lost) shows.replica o shows.there (h won shows.replica shows.there) (λ number r stays there. h number r there))

  blocked-voted : BlockedStand core → BlockedStand (core_after_event core voted count (with_recovered won (numbers lost) core.replicas) (Some may.event))
  blocked-voted h thread call e = by (thread == voted) refl e
    where
      by : (b : Bool) → (thread == voted) ≡ b → cond b may.event.blocked (core.blocked thread) ≡ Some call → AllAtCall thread (all_applied may.event.effect (with_recovered won (numbers lost) core.replicas))
      by true is f = subst (λ (t : ℕ). AllAtCall t (all_applied may.event.effect (with_recovered won (numbers lost) core.replicas))) (sym (eqb-true thread voted is)) (own-stands call f)
      by false is f = other-stands thread (λ same. true≢false (sym (eq-eqb thread voted same) ∙ is)) (h thread call f)

-- ---- a free

-- a call that would be done blocks its thread no more
freed-none : (job : Job) (kernel : Kernel) (thread : ℕ) (call : Call) → serves (setup_of job.program) kernel thread call ≡ true → (call_event kernel thread call [] (serve (setup_of job.program) kernel thread call)).blocked ≡ None
freed-none job kernel thread call e = by (serve (setup_of job.program) kernel thread call) e
  where
    by : (served : Served) → is_served served ≡ true → (call_event kernel thread call [] served).blocked ≡ None
    by (Done after effect) f = refl
    by (Parked after) f = absurd (true≢false (sym f))
    by Blocked f = absurd (true≢false (sym f))
    by (Ends after how) f = refl

module _ (job : Job) (core : Core) (freed : ℕ) (may : MayFree job core freed) where
  parts : FreeParts job core freed
  parts = free-parts job core freed may.may

  abbrev event : Event
  event = call_event core.kernel freed parts.call [] (serve (setup_of job.program) core.kernel freed parts.call)

  blocked-freed : BlockedStand core → BlockedStand (core_after_event core freed 0 core.replicas (freed_event job core freed))
  blocked-freed h =
      subst (λ (o : Option Event). BlockedStand (core_after_event core freed 0 core.replicas o)) (sym (freed-is job core freed parts.call parts.blocked_on)) (λ thread call e. by thread call (thread == freed) refl e)
    where
      by : (thread : ℕ) (call : Call) (b : Bool) → (thread == freed) ≡ b → cond b event.blocked (core.blocked thread) ≡ Some call → AllAtCall thread (all_applied event.effect core.replicas)
      by thread call true is f = absurd (let g : None ≡ Some call = sym (freed-none job core.kernel freed parts.call parts.goes_on) ∙ f in cc)
      by thread call false is f =
          let own : event.effect.thread ≡ freed = (call-happens (setup_of job.program) core.kernel freed parts.call []).thread_is in
          event-at-call event.effect core.replicas thread (λ e. true≢false (sym (eq-eqb thread freed (e ∙ own)) ∙ is)) (h thread call f)

-- ---- a lease that comes back

blocked-back : (job : Job) (core : Core) (lease : Lease) (count hit : ℕ) (back : Returns job core lease count hit) → LentGo core → BlockedStand core → Behind BlockedStand core lease back.ran.replica
blocked-back job core lease count hit back go h stop wishes misses thread call e number r f = by (get-set-cases core.replicas lease.replica number (stopped lease.thread stop back.ran.replica) r f)
  where
    went : LentThread core lease.replica lease.thread
    went = lent-thread core lease.replica lease.thread (go lease back.out)

    by : ((number ≢ lease.replica) × (slice_get core.replicas number ≡ Some r)) ⊎ ((number ≡ lease.replica) × (stopped lease.thread stop back.ran.replica ≡ r)) → AtCall r thread
    by (inl other) = h thread call e number r other.1
    by (inr own) =
        let there : slice_get core.replicas number ≡ Some went.lent = ap (slice_get core.replicas) own.0 ∙ went.in_core in
        let at = h thread call e number went.lent there in
        record {
          stands = at.stands;
          there = sym (ap (option_and_then (λ (x : Replica). slice_get x.threads thread)) f)
              ∙ back-keeps job core lease count hit back go stop wishes misses number thread at.stands at.call (record { value = went.lent; in_core = there; there = at.there }) at.at;
          call = at.call;
          at = at.at;
        }

-- ---- along a journal

pub blocked-after : (job : Job) (core : Core) (entry : Entry) → IsAllowed job core entry → IsOrdered job core → LentGo core → BlockedStand core → BlockedStand (after job core entry)
unfolding after
blocked-after job core (Take lease) may o go h = h
blocked-after job core (Put lease count hit) may o go h = put-by job core lease count hit may BlockedStand (blocked-back job core lease count hit may.returns go h)
blocked-after job core (Part lease count hit) may o go h = part-by job core lease count hit may BlockedStand (blocked-back job core lease count hit may.returns go h)
blocked-after job core (Vote voted count won lost did) may o go h =
    subst (λ (event : Option Event). BlockedStand (core_after_event core voted count (with_recovered won (numbers lost) core.replicas) event)) (sym may.comes) (blocked-voted job core voted count won lost did may o h)
blocked-after job core (Free freed) may o go h = blocked-freed job core freed may h
blocked-after job core (Scrub won lost) may o go h =
    let w = scrub-winner core won lost may in
    (λ thread call e. copied-at-call job core thread won (numbers lost) w.0 o w.1 (h thread call e won w.0 w.1) (λ number r stays there. h thread call e number r there))
blocked-after job core (End how) may o go h = h

-- a thread that is lent is not blocked
pub lent-unblocked : (core : Core) (lease : Lease) (call : Call) → LentGo core → BlockedStand core → is_out core lease ≡ true → core.blocked lease.thread ≡ Some call → ⊥
lent-unblocked core lease call go h out e =
    let went = lent-thread core lease.replica lease.thread (go lease out) in
    let at = h lease.thread call e lease.replica went.lent went.in_core in
    let its : went.went ≡ at.stands = some-injective (sym went.in_lent ∙ at.there) in
    (let f : None ≡ Some (Calls at.call) = sym went.goes ∙ ap (λ (t : Thread). t.stop) its ∙ at.at in cc)
