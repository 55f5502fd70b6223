-- A vote on which the views agree, in the fields of a run.
use Rattle.std.proofs.Common.{◌≡◌, inl, inr, ℕ, ◌+◌, ◌<◌, ◌≤◌, Bool, true, false, List, [], ◌∷◌, length, Option, Some, None, get_or, refl, sym, ap, ◌∙◌, subst, arith}
use Rattle.std.specs.Prelude.{◌^◌, if◌then◌else◌, IfSome, is_some, slice_get}
use Rattle.std.specs.List.{list_all, filter_map}
use Rattle.std.specs.Option.{option_and_then, option_map_or}
use Rattle.std.proofs.lemmas.Bool.{and_parts}
use Rattle.std.proofs.lemmas.Option.{slice_get-get_or}
use Rattle.ro_journal.specs.declared.Did.{Did}
use Rattle.ro_journal.specs.declared.Entry.TheVariants.{Vote}
use Rattle.ro_journal.specs.declared.losers.Lost.TheVariants.{Nobody}
use Rattle.ro_journal.specs.Plan.{event_steps}
use Rattle.ro_event.specs.declared.stops.Stop.{Stop}
use Rattle.ro_event.specs.Views.{View}
use Rattle.ro_thread.specs.declared.Thread.{Thread}
use Rattle.ro_settings.specs.Ranges.{IsReplicas}
use Rattle.ro_kernel.specs.Kernel.{Setup, Kernel, lives_on, ranges_in}
use Rattle.ro_plain.specs.Machine.{setup_of}
use Rattle.ro_plain.proofs.Calls.{some-injective}
use Rattle.ro_replica.specs.Replica.{Replica, stop_of}
use Rattle.ro_replica.specs.Views.{view_of}
use Rattle.ro_serving.specs.declared.events.Event.{Event as Happening}
use Rattle.ro_serving.specs.Happening.{event_by, ComesOf, of_stop}
use Rattle.ro_legal.specs.Core.{Core, is_going, views_of}
use Rattle.ro_legal.specs.Event.{Event, event_of as event_at}
use Rattle.ro_legal.specs.Legal.{since_in}
use Rattle.ro_legal.specs.Sound.{IsFault}
use Rattle.ro_legal.specs.Cooperative.{AreAll, MayVote, PassesLimit, after, core_after, core_after_event, kernel_for, settled, voted_stop, voted_event}
use Rattle.ro_legal.proofs.Ordered.{VoteParts, vote-parts}
use Rattle.ro_legal.proofs.Winners.{Showing, showing, showing-event, showing-since, showing-short, views-count}
use Rattle.ro_coop_core.specs.declared.cores.Core.{Core as Run}
use Rattle.ro_coop_core.specs.Seats.{AreSpared, entered_of}
use Rattle.ro_coop_core.specs.Fields.{Fields, core_in, Holds}
use Rattle.ro_coop_core.specs.Runs.{fields_of, IsAgreed, payload_by}
use Rattle.ro_coop_core.specs.Amid.{CanOccur, entering_of, newcomer_of, first_answered, lapsed}
use Rattle.ro_coop_core.proofs.Keeping.{keeps-replicas}
use Rattle.ro_coop_core.proofs.Held.{goes}
use Rattle.ro_coop_core.proofs.AtHome.{answered-home}
use Rattle.ro_coop_core.proofs.Lapsing.{for-either, lapsed-kernel}
use Rattle.ro_coop_core.proofs.Makes.{ready-home}
use Rattle.ro_coop_core.proofs.Comes.{page-low}
use Rattle.ro_coop_core.proofs.Enters.{stop-absent, stop-enters}

some-replicas : (n : ℕ) → IsReplicas n → 0 < n
some-replicas n (inl e) = omega arith
some-replicas n (inr (inl e)) = omega arith
some-replicas n (inr (inr e)) = omega arith

-- where all are one, so is the first
first-of : (view : View) (views : List View) (w : View) → AreAll view views → slice_get views 0 ≡ Some w → w ≡ view
first-of view [] w all e = absurd (let f : None ≡ Some w = e in cc)
first-of view (v ∷ views) w all e = sym (some-injective e) ∙ all.0

-- the kernel that serves the thread, of a run whose fields hold and of which nothing is lent
pub serving-kernel : (f : Fields) (thread : ℕ) → Holds f → f.leases ≡ [] → (lapsed (first_answered thread f.seats) thread f.kernel).kernel ≡ kernel_for (core_in f) thread
serving-kernel f thread h alone = lapsed-kernel (core_in f) thread f.kernel (first_answered thread f.seats) h.kernel_is (answered-home f.job (core_in f).kernel thread (core_in f).replicas (core_in f).sides f.seats (ready-home f h alone))

pub serving-owners : (core : Core) (thread : ℕ) → (kernel_for core thread).owners ≡ core.kernel.owners
serving-owners core thread = for-either core thread (λ k. k.owners ≡ core.kernel.owners) refl refl

module _ (f : Fields) (thread : ℕ) (view : View) (v : IsAgreed f thread view) where
  h : Holds f
  h = v.holds

  core : Core
  core = core_in f

  parts : VoteParts (core_in f) thread
  parts = vote-parts (core_in f) thread v.may

  pub hold-going : is_going (core_in f) ≡ true
  hold-going = parts.going

  pub hold-not-over : (core_in f).ended ≡ None
  hold-not-over = parts.not_ended

  pub hold-still : f.ended ≡ None
  hold-still = (goes f h parts.going).not_ended

  pub hold-alone : f.leases ≡ []
  hold-alone = h.leases_are ∙ parts.alone

  pub hold-live : lives_on f.kernel.kernel thread ≡ true
  hold-live = ap (λ (k : Kernel). lives_on k thread) h.kernel_is ∙ parts.live

  pub hold-steps : f.steps ≤ 2 ^ 60
  hold-steps =
      let are = h.steps_are in
      let limit = h.calm.in_range.limit.1 in
      let watchdog = h.calm.in_range.watchdog.1 in
      let most = (keeps-replicas f h).steps_within in
      omega arith

  all-stopped : list_all (λ replica. is_some (stop_of replica thread)) (core_in f).replicas ≡ true
  all-stopped = (and_parts _ _ v.may).1

  some : 0 < length (core_in f).replicas
  some = let n = (keeps-replicas f h).replica_count in let s = some-replicas f.job.settings.replicas h.calm.in_range.replicas in omega arith

  pub hold-within : 0 < length f.views
  hold-within = let n = ap length v.views_are ∙ views-count f.job (core_in f) thread all-stopped in let s = some in omega arith

  -- the first view, as any other
  pub hold-first : (w : View) → w ≡ get_or f.views 0 w → w ≡ view
  hold-first w is = first-of view (views_of f.job (core_in f) thread) w v.agreed.0 (sym (ap (λ (vs : List View). slice_get vs 0) v.views_are) ∙ slice_get-get_or f.views 0 w hold-within ∙ ap (λ (x : View). Some x) (sym is))

  pub hold-there : slice_get f.views 0 ≡ Some view
  hold-there = by (slice_get f.views 0) refl
    where
      by : (o : Option View) → slice_get f.views 0 ≡ o → slice_get f.views 0 ≡ Some view
      by None e = absurd (let g : None ≡ Some (get_or f.views 0 view) = sym e ∙ slice_get-get_or f.views 0 view hold-within in cc)
      by (Some w) e = e ∙ ap (λ (x : View). Some x) (first-of view (views_of f.job (core_in f) thread) w v.agreed.0 (sym (ap (λ (vs : List View). slice_get vs 0) v.views_are) ∙ e))

  same-views : views_of f.job (settled (core_in f) thread) thread ≡ views_of f.job (core_in f) thread
  same-views = for-either (core_in f) thread (λ k. filter_map (view_of (ranges_in (setup_of f.job.program) k) thread) (core_in f).replicas ≡ views_of f.job (core_in f) thread) refl refl

  shows : Showing f.job (settled (core_in f) thread) thread 0 view
  shows = showing f.job (settled (core_in f) thread) thread 0 view all-stopped some (ap (λ (vs : List View). slice_get vs 0) (same-views ∙ sym v.views_are) ∙ hold-there)

  abbrev pub hold-event : Event
  hold-event = event_at f.kernel.setup (kernel_for (core_in f) thread) thread view.stop view.payload

  pub hold-comes : voted_event f.job (core_in f) thread ≡ Some hold-event
  hold-comes = showing-event f.job (settled (core_in f) thread) thread 0 view shows ∙ ap (λ (s : Setup). Some (event_at s (kernel_for (core_in f) thread) thread view.stop view.payload)) (sym h.setup_is)

  hold-since : since_in (core_in f) thread 0 ≡ Some view.since
  hold-since = showing-since f.job (settled (core_in f) thread) thread 0 view shows

  hold-stop : voted_stop (core_in f) thread ≡ Some view.stop
  hold-stop = ap (option_and_then (λ (replica : Replica). stop_of replica thread)) shows.there ∙ ap (option_and_then (λ (t : Thread). t.stop)) shows.shown.at ∙ shows.shown.stop_is

  hold-low : IfSome hold-event.effect.page (λ page. page < 2 ^ 20)
  hold-low = page-low f.kernel.setup (kernel_for (core_in f) thread) thread shows.replica.backed view.stop view.payload
      (subst (IsFault shows.replica.backed) shows.shown.stop_is (((keeps-replicas f h).unstruck 0 shows.replica shows.there).faults_wait thread shows.shown.its shows.shown.at))

  pub hold-allowed : (did : Did) (count next : ℕ) → hold-event.did ≡ did → count ≡ view.since → next ≡ event_steps did → f.steps + next ≤ f.job.settings.limit → MayVote f.job (core_in f) thread count 0 Nobody did
  hold-allowed did count next is counts steps fits = record {
    may = v.may;
    view = view;
    agreed = v.agreed;
    first = refl;
    none_lost = refl;
    count_is = hold-since ∙ ap (λ (n : ℕ). Some n) (sym counts);
    event = hold-event;
    comes = hold-comes;
    did_is = is;
    fits = let e = h.steps_are in omega arith;
  }

  pub hold-passes : (did : Did) (next : ℕ) → hold-event.did ≡ did → next ≡ event_steps did → f.job.settings.limit < f.steps + next → PassesLimit f.job (core_in f) thread f.steps next
  hold-passes did next is steps above = record {
    view = view;
    agreed = v.agreed;
    event = hold-event;
    comes = hold-comes;
    steps_are = h.steps_are;
    next_is = steps ∙ ap event_steps (sym is);
    above = above;
  }

  hold-came : (did : Did) (count : ℕ) → after f.job (core_in f) (Vote thread count 0 Nobody did) ≡ core_after f.job (settled (core_in f) thread) thread (Some view.stop) hold-event
  unfolding after
  hold-came did count =
      ap (λ (o : Option Stop). core_after_event f.job (core_in f) thread o (voted_event f.job (core_in f) thread)) hold-stop
      ∙ ap (core_after_event f.job (core_in f) thread (Some view.stop)) hold-comes

-- the event that the code has for it can be done
pub hold-can : (before r : Run) (thread : ℕ) (view : View) (v : IsAgreed (fields_of before) thread view) (e : Happening) (did : Did) (count next : ℕ) (newcomer : Option ℕ)
    → hold-event (fields_of before) thread view v ≡ event_by e r.kernel.kernel (if e.writes then view.payload else []) → (hold-event (fields_of before) thread view v).did ≡ did → count ≡ view.since → next ≡ event_steps did → before.steps + next ≤ before.settings.limit → r ≡ record before { kernel = r.kernel } → r.kernel.setup ≡ before.kernel.setup
    → newcomer ≡ newcomer_of before.cooperates before.kernel.kernel.owners view.stop → IfSome e.effect.range (λ range. length before.kernel.kernel.given < 4096) → AreSpared before.seats.items → 2 ≤ (fields_of before).places
    → CanOccur r (record { thread = thread; event = e; entry = Vote thread count 0 Nobody did; steps = next; writes = e.writes; newcomer = newcomer })
hold-can before r thread view v e did count next newcomer is did_is counts steps fits kept setup new room spared places = record {
  before = before;
  holds = h f thread view v;
  is = kept;
  setup = setup;
  going = hold-going f thread view v;
  alone = hold-alone f thread view v;
  stop = Some view.stop;
  allowed = hold-allowed f thread view v did count next did_is counts steps fits;
  came = hold-came f thread view v did count ∙ ap (core_after f.job (settled (core_in f) thread) thread (Some view.stop)) is-by;
  no_end = refl;
  comes = subst (ComesOf f.kernel.setup (kernel_for (core_in f) thread) thread) is-by (of_stop view.stop view.payload (showing-short f.job (settled (core_in f) thread) thread 0 view (shows f thread view v)));
  live = hold-live f thread view v;
  low = subst (λ (o : Option ℕ). IfSome o (λ page. page < 2 ^ 20)) (ap (λ (x : Event). x.effect.page) is) (hold-low f thread view v);
  room = room;
  enters = ap (λ (o : Option ℕ). entered_of (entering_of r.kernel.kernel.owners o)) new
      ∙ stop-enters f.job.program before.cooperates before.kernel.kernel.owners (kernel_for (core_in f) thread) r.kernel.kernel view.stop (h f thread view v).cooperates_is (serving-owners (core_in f) thread ∙ ap (λ (k : Kernel). k.owners) (sym (h f thread view v).kernel_is));
  absent = λ address q. stop-absent before.cooperates before.kernel.kernel.owners view.stop address (sym new ∙ q);
  spared = spared;
  places = places;
  counted = steps ∙ ap event_steps (sym did_is ∙ ap (λ (x : Event). x.did) is);
}
  where
    f : Fields
    f = fields_of before

    here : slice_get r.views.items 0 ≡ Some view
    here = ap (λ (x : Run). slice_get x.views.items 0) kept ∙ hold-there f thread view v

    written : (b : Bool) → (if b then view.payload else []) ≡ payload_by r.views.items b
    written true = sym (ap (λ (o : Option View). option_map_or (λ w. w.payload) o []) here)
    written false = refl

    is-by : hold-event f thread view v ≡ event_by e r.kernel.kernel (payload_by r.views.items e.writes)
    is-by = is ∙ ap (event_by e r.kernel.kernel) (written e.writes)

-- what is written where the event writes
pub agreed-payload : (f : Fields) (thread : ℕ) (view : View) (v : IsAgreed f thread view) → payload_by f.views true ≡ view.payload
agreed-payload f thread view v = ap (λ (o : Option View). option_map_or (λ w. w.payload) o []) (hold-there f thread view v)
