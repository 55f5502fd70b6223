-- A vote that was won, in the fields of a run.
use Rattle.std.proofs.Common.{◌≡◌, ◌⊎◌, inl, inr, ℕ, ◌+◌, ◌*◌, ◌<◌, ◌≤◌, Bool, true, false, List, [], length, Option, Some, None, get_or, refl, sym, ap, ◌∙◌, subst, arith, append-nil}
use Rattle.std.specs.Prelude.{◌^◌, if◌then◌else◌, IfSome, is_some, slice_get}
use Rattle.std.specs.Bool.{then_some}
use Rattle.std.specs.List.{list_all}
use Rattle.std.specs.Option.{option_map_or}
use Rattle.std.proofs.lemmas.Bool.{and_parts}
use Rattle.std.proofs.lemmas.Option.{slice_get_within, slice_get-get_or}
use Rattle.ro_journal.specs.declared.Did.{Did}
use Rattle.ro_journal.specs.declared.How.TheVariants.{Limit}
use Rattle.ro_journal.specs.declared.Entry.{Entry}
use Rattle.ro_journal.specs.declared.Entry.TheVariants.{Vote}
use Rattle.ro_journal.specs.declared.losers.Lost.{Lost}
use Rattle.ro_journal.specs.Losers.{numbers}
use Rattle.ro_journal.specs.Plan.{event_steps}
use Rattle.ro_event.specs.declared.calls.Which.{Which}
use Rattle.ro_event.specs.declared.calls.Which.TheVariants.{System, Function, Atomic}
use Rattle.ro_event.specs.declared.calls.Call.{Call}
use Rattle.ro_event.specs.declared.stops.Stop.{Stop}
use Rattle.ro_event.specs.declared.stops.Stop.TheVariants.{Calls, Trap as TrapStop, PageFault, Watchdog}
use Rattle.ro_event.specs.Effects.{Effect}
use Rattle.ro_event.specs.Views.{View}
use Rattle.ro_kernel.specs.Kernel.{Setup, Kernel, lives_on}
use Rattle.ro_kernel.specs.Serve.{Served, Done, Parked, Blocked, Ends, put_out, asked, serve}
use Rattle.ro_kernel.specs.State.{State}
use Rattle.ro_kernel.proofs.Fits.{fit-effect}
use Rattle.ro_exec.specs.Next.{Backed}
use Rattle.ro_settings.specs.Ranges.{InRange}
use Rattle.ro_vote.specs.Verdict.{verdict_of}
use Rattle.ro_vote.proofs.Verdicts.{WonBy, won-by}
use Rattle.ro_plain.specs.Machine.{setup_of}
use Rattle.ro_replica.specs.Replica.{Replica, applied, cancelled, stop_of}
use Rattle.ro_replica.specs.Seen.{ReplicaOf, replica_of}
use Rattle.ro_core.specs.declared.cores.Core.{Core as Run}
use Rattle.ro_serving.specs.declared.events.Event.{Event as Happening}
use Rattle.ro_legal.specs.Core.{Job, Core, is_going, may_vote, views_of}
use Rattle.ro_legal.specs.Event.{Event, call_event, event_of, with_recovered, all_applied, core_after}
use Rattle.ro_legal.specs.Legal.{event_in, core_after_event, after, MayVote, PassesLimit, MayEnd, for_vote, Legal, replay}
use Rattle.ro_core.specs.Seen.{IsOfMajority, KeepsViews}
use Rattle.ro_legal.specs.Sound.{IsFault}
use Rattle.std.specs.List.{All}
use Rattle.ro_replica.specs.Lent.{IsSpareLane}
use Rattle.ro_core.specs.Fields.{one_end, blocked_at, AreNoted, AreSeated, AreHome, AreSpared, IsSeat, AreAllTwins, AreLosers, Fields, core_in, Holds}
use Rattle.ro_serving.specs.Happening.{event_by, ComesOf, of_stop, of_blocked, LeavesWaiting}
use Rattle.ro_core.specs.Runs.{fields_of, job_of, IsHeld, IsAmid, MakesRoom, CanOccur, payload_by}
use Rattle.ro_core.specs.Grouped.{AreGrouped, AreMade}
use Rattle.ro_core.specs.Seated.{Stands}
use Rattle.ro_core.proofs.Held.{Goes, SameLending, goes, same-unblocked, same-calm, kept-waits, same-noted, same-lanes}
use Rattle.ro_legal.proofs.Happens.{Happens, call-happens, event-happens}
use Rattle.ro_legal.proofs.Ordered.{VoteParts, vote-parts, copied-sound, ordered}
use Rattle.ro_legal.proofs.FaultStops.{each-copied, fault-stops}
use Rattle.ro_core.proofs.Sitting.{home-count, home-get}
use Rattle.ro_legal.proofs.Winners.{WonIn, won-in, won-view, Showing, showing, showing-event, showing-since, showing-short, views-count}
use Rattle.ro_core.proofs.Tests.{all-home, seated-home, lives-within}
use Rattle.ro_core.proofs.Grouped.{home-seat}
use Rattle.ro_legal.proofs.Lists.{get-within, length-mapped}

-- the writer, where one is
pub then-some : (b : Bool) (n : ℕ) → then_some b n ≡ (if b then Some n else None)
then-some true n = refl
then-some false n = refl

pub live-few : (f : Fields) → Holds f → (thread : ℕ) → lives_on f.kernel.kernel thread ≡ true → thread < 16
live-few f h thread e =
    let within = lives-within f.kernel.kernel thread e in
    let few = (ordered f.job f.journal h.legal).few_lives in
    let same : length f.kernel.kernel.lives ≡ length (core_in f).kernel.lives = ap (λ (k : Kernel). length k.lives) h.kernel_is in
    omega arith

-- ---- the page that an event backs

module _ (setup : Setup) (kernel : Kernel) (thread : ℕ) where
  -- of a call, as it is served
  pub call-low : (call put : Call) (payload : List ℕ) → IfSome (call_event kernel thread call payload (serve setup kernel thread put)).effect.page (λ page. page < 2 ^ 20)
  call-low call put payload = by (serve setup kernel thread put) refl
    where
      by : (served : Served) → serve setup kernel thread put ≡ served → IfSome (call_event kernel thread call payload served).effect.page (λ page. page < 2 ^ 20)
      by (Done after effect) e = (fit-effect setup kernel thread put after effect e).backs_low
      by (Parked after) e = tt
      by Blocked e = tt
      by (Ends after how) e = tt

  pub page-low : (backed : Backed) (stop : Stop) (payload : List ℕ) → IsFault backed (Some stop) → IfSome (event_of setup kernel thread stop payload).effect.page (λ page. page < 2 ^ 20)
  unfolding event_of
  page-low backed (Calls call) payload low = call-low call (asked call payload) (put_out call.which payload)
  page-low backed (PageFault page) payload low = (low page refl).0
  page-low backed Watchdog payload low = tt
  page-low backed (TrapStop code) payload low = tt

module _ (f : Fields) (thread won : ℕ) (lost : Lost) (v : IsHeld f thread won lost) where
  h : Holds f
  h = v.holds

  parts : VoteParts (core_in f) thread
  parts = vote-parts (core_in f) thread v.may

  pub hold-going : is_going (core_in f) ≡ true
  hold-going = parts.going

  pub hold-not-over : (core_in f).ended ≡ None
  hold-not-over = parts.not_ended

  pub hold-goes : Goes f
  hold-goes = goes f h parts.going

  core : Core
  core = core_in f

  all-stopped : list_all (λ replica. is_some (stop_of replica thread)) (core_in f).replicas ≡ true
  all-stopped = (and_parts _ _ v.may).1

  pub hold-won : WonBy f.views won (numbers lost)
  hold-won = won-by f.views won (numbers lost) v.verdict

  as-many : length f.views ≡ length (core_in f).replicas
  as-many = ap length v.views_are ∙ views-count f.job (core_in f) thread all-stopped

  won-of : WonIn f.views won (numbers lost)
  won-of = won-in f.views won (numbers lost) v.verdict

  pub hold-within : won < length f.views
  hold-within = won-of.within

  -- the winner's view is at its place
  pub hold-there : (view : View) → view ≡ get_or f.views won view → slice_get f.views won ≡ Some view
  hold-there view is = slice_get-get_or f.views won view hold-within ∙ ap (λ (v : View). Some v) (sym is)

  pub hold-live : lives_on f.kernel.kernel thread ≡ true
  hold-live = ap (λ (k : Kernel). lives_on k thread) h.kernel_is ∙ parts.live

  pub hold-alone : f.leases ≡ []
  hold-alone = h.leases_are ∙ parts.alone

  pub hold-steps : f.steps ≤ f.job.settings.limit
  hold-steps = let e = h.steps_are in let l = (ordered f.job f.journal h.legal).within_limit in omega arith

  made : thread < length (core_in f).kernel.lives
  made = lives-within (core_in f).kernel thread parts.live

  pub hold-threads : (number : ℕ) (replica : Replica) → slice_get (core_in f).replicas number ≡ Some replica → length replica.threads ≡ length (core_in f).kernel.lives
  hold-threads number replica e = ((ordered f.job f.journal h.legal).sound number replica e).all_made

  pub hold-home : AreHome f.job (core_in f).kernel f.seats (core_in f).replicas
  hold-home = all-home f.job (core_in f) f.seats h.seats_are parts.alone

  -- and so it is of the replicas after the copy
  pub hold-healed : (number : ℕ) (replica : Replica) → slice_get (with_recovered won (numbers lost) (core_in f).replicas) number ≡ Some replica → length replica.threads ≡ length (core_in f).kernel.lives
  hold-healed number replica e =
      let order = ordered f.job f.journal h.legal in
      let w = get-within (core_in f).replicas won (let x = hold-within in let y = as-many in omega arith) in
      (copied-sound f.job (core_in f) order.backed (core_in f).replicas won w.0 (numbers lost) w.1 order.sound number replica e).all_made

  pub hold-made-all : AreMade (length f.kernel.kernel.lives) (core_in f).replicas
  hold-made-all number replica e = hold-threads number replica e ∙ ap (λ (k : Kernel). length k.lives) (sym h.kernel_is)

  pub hold-made-healed : AreMade (length f.kernel.kernel.lives) (with_recovered won (numbers lost) (core_in f).replicas)
  hold-made-healed number replica e = hold-healed number replica e ∙ ap (λ (k : Kernel). length k.lives) (sym h.kernel_is)

  -- each loser can become as the winner, in seats that have the core's replicas
  module _ (seats : List (Option ReplicaOf)) (home : AreHome f.job (core_in f).kernel seats (core_in f).replicas) where
    pub seat-of : (n : ℕ) → n < length f.views → IsSeat seats n
    seat-of n less =
        let w = get-within (core_in f).replicas n (let e = as-many in omega arith) in
        let seat = home-seat f.job (core_in f).kernel seats (core_in f).replicas n w.0 home w.1 in
        (seat.0, seat.1)

    pub hold-twins : AreAllTwins seats
    hold-twins place elsewhere one other a b =
        let w = home-get f.job (core_in f).kernel seats (core_in f).replicas place one home a in
        let o = home-get f.job (core_in f).kernel seats (core_in f).replicas elsewhere other home b in
        let order = ordered f.job f.journal h.legal in
        let x = order.sound place (replica_of one) w.1 in
        let y = order.sound elsewhere (replica_of other) o.1 in
        record {
          program = record { layout = w.0.layout ∙ sym o.0.layout; given = w.0.given ∙ sym o.0.given; watchdog = w.0.watchdog ∙ sym o.0.watchdog };
          pages = λ page. ap (λ (b : ℕ → Bool). b page) (x.same_backed ∙ sym y.same_backed);
          threads = x.all_made ∙ sym y.all_made;
        }

    pub hold-losers : AreLosers seats won (numbers lost)
    hold-losers l e = let p = won-of.lost_within l e in (seat-of l p.0, p.1)

  -- by the winner's view
  module _ (view : View) (there : slice_get f.views won ≡ Some view) where
    shows : Showing f.job (core_in f) thread won view
    shows = showing f.job (core_in f) thread won view all-stopped (let w = hold-within in let e = as-many in omega arith) (sym (ap (λ (vs : List View). slice_get vs won) v.views_are) ∙ there)

    abbrev pub hold-event : Event
    hold-event = event_of f.kernel.setup f.kernel.kernel thread view.stop view.payload

    pub hold-comes : event_in f.job (core_in f) thread won ≡ Some hold-event
    hold-comes =
        showing-event f.job (core_in f) thread won view shows
        ∙ ap (λ (s : Setup). Some (event_of s (core_in f).kernel thread view.stop view.payload)) (sym h.setup_is)
        ∙ ap (λ (k : Kernel). Some (event_of f.kernel.setup k thread view.stop view.payload)) (sym h.kernel_is)

    pub hold-happens : Happens (core_in f).kernel thread hold-event
    hold-happens = subst (λ (k : Kernel). Happens k thread hold-event) h.kernel_is (event-happens f.kernel.setup f.kernel.kernel thread view.stop view.payload)

    pub hold-short : length view.payload ≤ 4096
    hold-short = showing-short f.job (core_in f) thread won view shows

    pub hold-low : IfSome hold-event.effect.page (λ page. page < 2 ^ 20)
    hold-low = page-low f.kernel.setup f.kernel.kernel thread shows.replica.backed view.stop view.payload
        (subst (IsFault shows.replica.backed) shows.shown.stop_is (fault-stops f.job f.journal h.legal won shows.replica shows.there thread shows.shown.its shows.shown.at))

    pub hold-allowed : (did : Did) → hold-event.did ≡ did → f.steps + (view.since + event_steps did) ≤ f.job.settings.limit → MayVote f.job (core_in f) thread view.since won lost did
    hold-allowed did is fits = record {
      may = v.may;
      verdict = ap verdict_of (sym v.views_are) ∙ v.verdict;
      count_is = showing-since f.job (core_in f) thread won view shows;
      event = hold-event;
      comes = hold-comes;
      did_is = is;
      fits = let e = h.steps_are in omega arith;
    }

    pub hold-limit : (did : Did) → hold-event.did ≡ did → f.job.settings.limit < f.steps + (view.since + event_steps did) → PassesLimit f.job (core_in f) thread f.steps (view.since + event_steps did)
    hold-limit did is above = record {
      won = won;
      lost = numbers lost;
      verdict = ap verdict_of (sym v.views_are) ∙ v.verdict;
      count = view.since;
      count_is = showing-since f.job (core_in f) thread won view shows;
      event = hold-event;
      comes = hold-comes;
      steps_are = h.steps_are;
      next_is = ap (λ (d : Did). view.since + event_steps d) (sym is);
      above = above;
    }

    -- and that for so many steps
    pub hold-over : (did : Did) (next : ℕ) → hold-event.did ≡ did → next ≡ view.since + event_steps did → f.job.settings.limit < f.steps + next → MayEnd f.job (core_in f) (Limit f.steps next) × PassesLimit f.job (core_in f) thread f.steps next
    hold-over did next is steps above =
        let over = subst (λ (n : ℕ). f.job.settings.limit < f.steps + n) steps above in
        let passes = hold-limit did is over in (
          subst (λ (n : ℕ). MayEnd f.job (core_in f) (Limit f.steps n)) (sym steps) (for_vote thread v.may passes),
          subst (λ (n : ℕ). PassesLimit f.job (core_in f) thread f.steps n) (sym steps) passes,
        )

    -- the entry of the vote
    pub hold-entry : (did : Did) (count next : ℕ) → hold-event.did ≡ did → count ≡ view.since → next ≡ view.since + event_steps did → f.steps + next ≤ f.job.settings.limit → MayVote f.job (core_in f) thread count won lost did
    hold-entry did count next is counts steps fits =
        subst (λ (n : ℕ). MayVote f.job (core_in f) thread n won lost did) (sym counts)
        (hold-allowed did is (subst (λ (n : ℕ). f.steps + n ≤ f.job.settings.limit) steps fits))

    pub hold-came : (did : Did) → after f.job (core_in f) (Vote thread view.since won lost did) ≡ core_after (core_in f) thread view.since (with_recovered won (numbers lost) (core_in f).replicas) hold-event
    unfolding after
    hold-came did = ap (core_after_event (core_in f) thread view.since (with_recovered won (numbers lost) (core_in f).replicas)) hold-comes

    -- the event that the code has for it can be done
    pub hold-can : (r : Run) (e : Happening) (did : Did) (count next : ℕ) (threads : ℕ) → hold-event ≡ event_by e r.kernel.kernel (if e.writes then view.payload else []) → hold-event.did ≡ did → count ≡ view.since → next ≡ view.since + event_steps did → f.steps + next ≤ f.job.settings.limit
        → IsAmid f r → IfSome e.effect.range (λ range. length f.kernel.kernel.given < 4096) → Stands f.job (core_in f).kernel r.seats (with_recovered won (numbers lost) (core_in f).replicas) → AreSpared r.seats.homes.items → threads ≡ length f.kernel.kernel.lives → (e.moves ≡ false → LeavesWaiting f.kernel.kernel r.kernel.kernel) → CanOccur r (record { thread = thread; event = e; entry = Vote thread count won lost did; steps = next; writer = if e.writes then Some won else None; threads = threads })
    hold-can r e did count next threads is did_is counts steps fits amid room stands spared threads_are leaves = record {
      before = f;
      holds = h;
      going = hold-going;
      alone = hold-alone;
      amid = amid;
      count = view.since;
      replicas = with_recovered won (numbers lost) (core_in f).replicas;
      allowed = subst (λ (n : ℕ). MayVote f.job (core_in f) thread n won lost did) (sym counts) (hold-allowed did did_is (subst (λ (n : ℕ). f.steps + n ≤ f.job.settings.limit) steps fits));
      came = ap (λ (n : ℕ). after f.job (core_in f) (Vote thread n won lost did)) counts ∙ hold-came did ∙ ap (core_after (core_in f) thread view.since (with_recovered won (numbers lost) (core_in f).replicas)) is-by;
      no_end = refl;
      comes = subst (ComesOf f.kernel.setup f.kernel.kernel thread) is-by (of_stop view.stop view.payload hold-short);
      live = hold-live;
      own = sym (ap (λ (x : Event). x.effect.thread) is) ∙ hold-happens.thread_is;
      low = subst (λ (o : Option ℕ). IfSome o (λ page. page < 2 ^ 20)) (ap (λ (x : Event). x.effect.page) is) hold-low;
      room = room;
      stands = stands;
      spared = spared;
      made = λ number replica g. hold-made-healed number replica g ∙ sym threads_are;
      wait = each-copied won shows.replica (numbers lost) (core_in f).replicas shows.there (fault-stops f.job f.journal h.legal);
      threads_are = threads_are;
      counted = steps ∙ ap (λ (d : Did). view.since + event_steps d) (sym did_is ∙ ap (λ (x : Event). x.did) is);
      writes = writer-there e.writes;
      leaves = leaves;
    }
      where
        here : slice_get r.views.items won ≡ Some view
        here = ap (λ (vs : List View). slice_get vs won) amid.views ∙ there

        written : (b : Bool) → (if b then view.payload else []) ≡ payload_by r.views.items (if b then Some won else None)
        written true = sym (ap (λ (o : Option View). option_map_or (λ v. v.payload) o []) here)
        written false = refl

        is-by : hold-event ≡ event_by e r.kernel.kernel (payload_by r.views.items (if e.writes then Some won else None))
        is-by = is ∙ ap (event_by e r.kernel.kernel) (written e.writes)

        writer-there : (b : Bool) → IfSome (if b then Some won else None) (λ number. number < length r.views.items)
        writer-there true = slice_get_within r.views.items won view here
        writer-there false = tt

    pub hold-writer : (views : List View) (writes : Bool) → views ≡ f.views → IfSome (if writes then Some won else None) (λ number. number < length views)
    hold-writer views false e = tt
    hold-writer views true e = let within = hold-within in let same = ap length e in omega arith

    -- what it writes is a payload of the majority
    pub hold-majority : (views : List View) (writes : Bool) → views ≡ f.views → (payload_by views (if writes then Some won else None) ≡ []) ⊎ IsOfMajority f.views (payload_by views (if writes then Some won else None))
    hold-majority views false e = inl refl
    hold-majority views true e = inr (record {
      view = hold-won.view;
      most = hold-won.most;
      rest = [];
      front = ap (λ (v : View). v.payload) (won-view f.views won (numbers lost) view hold-won there) ∙ sym (ap (λ (vs : List View). option_map_or (λ v. v.payload) (slice_get vs won) []) e ∙ ap (λ (o : Option View). option_map_or (λ v. v.payload) o []) there) ∙ sym (append-nil _);
    })

-- ---- what a write's event is

module _ (kernel : Kernel) (thread : ℕ) (call : Call) (out : List ℕ) where
  payload-call : (served : Served) → 0 < length (call_event kernel thread call out served).payload → (call_event kernel thread call out served).due ≡ None
  payload-call (Done after effect) some = refl
  payload-call (Parked after) some = refl
  payload-call Blocked some = refl
  payload-call (Ends after how) some = absurd (omega arith)

  payload-few-call : (served : Served) → length out ≤ 4096 → length (call_event kernel thread call out served).payload ≤ 4096
  payload-few-call (Done after effect) few = few
  payload-few-call (Parked after) few = omega arith
  payload-few-call Blocked few = omega arith
  payload-few-call (Ends after how) few = omega arith

  writes-step-call : (served : Served) → length out ≤ 4096 → length (call_event kernel thread call out served).payload ≤ 4096 * event_steps (call_event kernel thread call out served).did
  writes-step-call (Done after effect) few = few
  writes-step-call (Parked after) few = omega arith
  writes-step-call Blocked few = omega arith
  writes-step-call (Ends after how) few = omega arith

-- what is put out is short where the payload is
out-few : (which : Which) (payload : List ℕ) → length payload ≤ 4096 → length (put_out which payload) ≤ 4096
out-few (Atomic word) payload few = omega arith
out-few (System number) payload few = few
out-few (Function function) payload few = few

module _ (setup : Setup) (kernel : Kernel) (thread : ℕ) where
  due-of : (stop : Stop) (payload : List ℕ) → 0 < length (event_of setup kernel thread stop payload).payload → (event_of setup kernel thread stop payload).due ≡ None
  unfolding event_of
  due-of (Calls call) payload some = payload-call kernel thread call (put_out call.which payload) (serve setup kernel thread (asked call payload)) some
  due-of (PageFault page) payload some = refl
  due-of Watchdog payload some = refl
  due-of (TrapStop code) payload some = absurd (omega arith)

  few-of : (stop : Stop) (payload : List ℕ) → length payload ≤ 4096 → length (event_of setup kernel thread stop payload).payload ≤ 4096
  unfolding event_of
  few-of (Calls call) payload few = payload-few-call kernel thread call (put_out call.which payload) (serve setup kernel thread (asked call payload)) (out-few call.which payload few)
  few-of (PageFault page) payload few = omega arith
  few-of Watchdog payload few = omega arith
  few-of (TrapStop code) payload few = omega arith

  step-of : (stop : Stop) (payload : List ℕ) → length payload ≤ 4096
      → length (event_of setup kernel thread stop payload).payload ≤ 4096 * event_steps (event_of setup kernel thread stop payload).did
  unfolding event_of
  step-of (Calls call) payload few = writes-step-call kernel thread call (put_out call.which payload) (serve setup kernel thread (asked call payload)) (out-few call.which payload few)
  step-of (PageFault page) payload few = omega arith
  step-of Watchdog payload few = omega arith
  step-of (TrapStop code) payload few = omega arith

  -- an event that writes does not end the program
  pub payload-due : (event : Event) → ComesOf setup kernel thread event → 0 < length event.payload → event.due ≡ None
  payload-due event (of_stop stop shown few) some = due-of stop shown some
  payload-due event (of_blocked call) some = payload-call kernel thread call [] (serve setup kernel thread call) some

  -- what is written is short
  pub payload-few : (event : Event) → ComesOf setup kernel thread event → length event.payload ≤ 4096
  payload-few event (of_stop stop shown few) = few-of stop shown few
  payload-few event (of_blocked call) = payload-few-call kernel thread call [] (serve setup kernel thread call) (omega arith)

  -- and fits the steps of its event
  pub writes-step : (event : Event) → ComesOf setup kernel thread event → length event.payload ≤ 4096 * event_steps event.did
  writes-step event (of_stop stop shown few) = step-of stop shown few
  writes-step event (of_blocked call) = writes-step-call kernel thread call [] (serve setup kernel thread call) (omega arith)

  pub comes-happens : (event : Event) → ComesOf setup kernel thread event → Happens kernel thread event
  comes-happens event (of_stop stop shown few) = event-happens setup kernel thread stop shown
  comes-happens event (of_blocked call) = call-happens setup kernel thread call []

-- an effect keeps the number of replicas
pub length-applied : (effect : Effect) (replicas : List Replica) → length (all_applied effect replicas) ≡ length replicas
length-applied effect replicas = length-mapped (λ replica. cancelled (applied effect replica)) replicas

-- ---- fields that only made room

kept-holds : (f f' : Fields) → Holds f → f.leases ≡ [] → f'.job ≡ f.job → f'.journal ≡ f.journal → AreHome f.job (core_in f).kernel f'.seats (core_in f).replicas → f'.leases ≡ f.leases → SameLending f f' → f'.kernel ≡ f.kernel → f'.blocked ≡ f.blocked → f'.unblocked ≡ f.unblocked → f'.calm ≡ f.calm → f'.steps ≡ f.steps → f'.scrubbed ≡ f.scrubbed → f'.waits ≡ f.waits → f'.due ≡ f.due → f'.ended ≡ f.ended → f'.views ≡ f.views → f'.sent ≡ f.sent → f'.wrote ≡ f.wrote
    → f'.groups ≡ f.groups → f.places ≤ f'.places → Holds f'
kept-holds f f' h alone job journal home leases lending kernel blocked unblocked calm steps scrubbed waits due ended views count wrote groups room =
    let core : core_in f' ≡ core_in f = ap (λ (j : Job). replay j f'.journal) job ∙ ap (replay f.job) journal in
    record {
      in_range = subst (λ (j : Job). InRange j.settings) (sym job) h.in_range;
      legal = subst (λ (j : Job). Legal j f'.journal) (sym job) (subst (Legal f.job) (sym journal) h.legal);
      leases_are = leases ∙ h.leases_are ∙ sym (ap (λ (c : Core). c.leases) core);
      noted = subst (λ (j : Job). AreNoted (core_in f') j.settings.drivers f'.lent f'.wishes) (sym job) (subst (λ (c : Core). AreNoted c f.job.settings.drivers f'.lent f'.wishes) (sym core) (same-noted f f' h lending (core_in f) refl refl refl refl refl));
      lanes_are = subst (λ (j : Job). All (IsSpareLane j.program.image) f'.lanes) (sym job) (same-lanes f f' h lending);
      setup_is = ap (λ (k : State). k.setup) kernel ∙ h.setup_is ∙ ap (λ (j : Job). setup_of j.program) (sym job);
      kernel_is = ap (λ (k : State). k.kernel) kernel ∙ h.kernel_is ∙ sym (ap (λ (c : Core). c.kernel) core);
      blocked_count = ap length blocked ∙ h.blocked_count;
      blocked_are = λ t. ap (λ (bs : List (Option Call)). blocked_at bs t) blocked ∙ h.blocked_are t ∙ sym (ap (λ (c : Core). c.blocked t) core);
      unblocked_is = same-unblocked f f' h kernel blocked unblocked;
      calm_is = same-calm f f' h kernel blocked waits calm;
      steps_are = steps ∙ h.steps_are ∙ sym (ap (λ (c : Core). c.steps) core);
      scrubbed_are = scrubbed ∙ h.scrubbed_are ∙ sym (ap (λ (c : Core). c.scrubbed) core);
      waits_are = kept-waits f f' h (core_in f') (ap (λ (c : Core). c.waited) core) waits (ap length journal);
      counts = record {
        sent_are = count ∙ h.counts.sent_are ∙ ap (λ (c : Core). length c.output) (sym core);
        wrote_is = wrote ∙ h.counts.wrote_is ∙ ap (λ (c : Core). c.wrote) (sym core);
        within = let k = h.counts.within in omega arith;
        few = let k = h.counts.few in omega arith;
      };
      due_is = due ∙ h.due_is ∙ sym (ap (λ (c : Core). c.due) core);
      ended_is = ended ∙ h.ended_is ∙ sym (ap (λ (c : Core). c.ended) core);
      seats_are = subst (λ (j : Job). AreSeated j (core_in f') f'.seats) (sym job) (subst (λ (c : Core). AreSeated f.job c f'.seats) (sym core) (seated-home f.job (core_in f) f'.seats home (sym h.leases_are ∙ alone)));
      groups_are = subst (λ (c : Core). AreGrouped c.replicas f'.groups) (sym core) (subst (AreGrouped (core_in f).replicas) (sym groups) h.groups_are);
      views_count = λ unended. ap length views ∙ h.views_count (sym ended ∙ unended) ∙ h.seats_are.count ∙ sym (home-count f.job (core_in f).kernel f'.seats (core_in f).replicas home);
      views_kept = subst (λ (j : Job). KeepsViews j f'.journal f'.views) (sym job) (subst (λ (js : List Entry). KeepsViews f.job js f'.views) (sym journal) (subst (KeepsViews f.job f.journal) (sym views) h.views_kept));
      room = let k = h.room in let n : length f'.leases ≡ length f.leases = ap length leases in let e : one_end f'.ended ≡ one_end f.ended = ap one_end ended in omega arith;
    }

-- where nothing is lent every replica is at home
pub ready-home : (f : Fields) → Holds f → f.leases ≡ [] → AreHome f.job (core_in f).kernel f.seats (core_in f).replicas
ready-home f h alone = all-home f.job (core_in f) f.seats h.seats_are (sym h.leases_are ∙ alone)

pub made-room : (f f' : Fields) → Holds f → f.leases ≡ [] → f'.job ≡ f.job → f'.journal ≡ f.journal → AreHome f.job (core_in f).kernel f'.seats (core_in f).replicas → f'.leases ≡ f.leases → SameLending f f' → f'.kernel ≡ f.kernel → f'.blocked ≡ f.blocked → f'.unblocked ≡ f.unblocked → f'.calm ≡ f.calm → f'.steps ≡ f.steps → f'.scrubbed ≡ f.scrubbed → f'.waits ≡ f.waits → f'.due ≡ f.due → f'.ended ≡ f.ended → f'.views ≡ f.views → f'.sent ≡ f.sent → f'.wrote ≡ f.wrote
    → f'.groups ≡ f.groups → f.places ≤ f'.places → MakesRoom f f'
made-room f f' h alone job journal home leases lending kernel blocked unblocked calm steps scrubbed waits due ended views count wrote groups room = record {
  holds = kept-holds f f' h alone job journal home leases lending kernel blocked unblocked calm steps scrubbed waits due ended views count wrote groups room;
  job = job;
  journal = journal;
  leases = leases;
  lent = lending.lent;
  wishes = lending.wishes;
  lanes = lending.lanes;
  kernel = kernel;
  blocked = blocked;
  due = due;
  steps = steps;
  views = views;
}

-- the core stays the same where room is made
pub same-state : (f f' : Fields) → MakesRoom f f' → core_in f' ≡ core_in f
same-state f f' m = ap (λ (j : Job). replay j f'.journal) m.job ∙ ap (replay f.job) m.journal

-- a vote that was won stays so where room is made
pub held-room : (f f' : Fields) (thread won : ℕ) (lost : Lost) → IsHeld f thread won lost → MakesRoom f f' → IsHeld f' thread won lost
held-room f f' thread won lost v m =
    let state = same-state f f' m in
    record {
      holds = m.holds;
      may = ap (λ (c : Core). may_vote c thread) state ∙ v.may;
      views_are = m.views ∙ v.views_are ∙ ap (λ (j : Job). views_of j (core_in f) thread) (sym m.job) ∙ ap (λ (c : Core). views_of f'.job c thread) (sym state);
      verdict = ap verdict_of m.views ∙ v.verdict;
    }

-- the replicas in the seats of a run of which nothing is lent
pub ready-stands : (r : Run) → Holds (fields_of r) → r.leases.items ≡ [] → Stands (job_of r) (core_in (fields_of r)).kernel r.seats (core_in (fields_of r)).replicas
ready-stands r h alone = record { home = ready-home (fields_of r) h alone; grouped = h.groups_are }
