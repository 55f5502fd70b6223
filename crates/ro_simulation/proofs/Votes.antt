-- A vote that is allowed: the replicas that agree stand at one stop of the machine, and the winner's view is that of the machine.
use Rattle.std.specs.Prelude.{◌≡◌, ◌≢◌, ℕ, suc, ◌+◌, ◌*◌, ◌<◌, ◌≤◌, ◌⊎◌, Bool, true, false, IsTrue, ◌==◌, List, [], ◌∷◌, ◌++◌, replicate, length, Option, Some, None, is_some, slice_get}
use Rattle.std.specs.Option.{option_map, option_and_then}
use Rattle.std.specs.List.{list_all}
use Rattle.std.proofs.Common.{refl, sym, ap, ap₂, ◌∙◌, subst, arith, inl, inr}
use Rattle.std.proofs.lemmas.Bool.{true≢false, false≢true, eq-eqb, and_parts, cases_eq}
use Rattle.std.proofs.lemmas.Option.{slice_get_within}
use Rattle.ro_event.specs.declared.stops.Stop.{Stop}
use Rattle.ro_event.specs.declared.stops.Stop.TheVariants.{Calls, Trap, PageFault, Watchdog}
use Rattle.ro_event.specs.Views.{View}
use Rattle.ro_region.specs.declared.Range.{Range}
use Rattle.ro_journal.specs.declared.Did.{Did}
use Rattle.ro_journal.specs.declared.Entry.{Entry}
use Rattle.ro_journal.specs.declared.Entry.TheVariants.{Vote}
use Rattle.ro_journal.specs.Plan.{event_steps, plan_of}
use Rattle.ro_kernel.specs.Kernel.{Setup, Kernel, lives_on, ranges_in}
use Rattle.ro_exec.specs.Next.{next, stop_in}
use Rattle.ro_thread.specs.declared.Thread.{Thread}
use Rattle.ro_thread.specs.Stops.{standing}
use Rattle.ro_replica.specs.Replica.{Replica, recovered, stop_of}
use Rattle.ro_plain.specs.Machine.{Program, setup_of, Machine, opening, run, IsExecution, layout_in}
use Rattle.ro_vote.specs.Verdict.{Won, verdict_of}
use Rattle.ro_plain.specs.Order.{RaceFree}
use Rattle.ro_plain.proofs.Swap.{run-append}
use Rattle.ro_plain.proofs.Calls.{some-injective}
use Rattle.ro_legal.specs.Core.{Job, Core, may_vote, views_of}
use Rattle.ro_replica.specs.Views.{payload_at, view_with, view_of}
use Rattle.ro_legal.specs.Event.{Event, event_of, with_recovered, core_after}
use Rattle.ro_legal.specs.Legal.{event_with, event_in, core_after_event, after, since_in, MayVote}
use Rattle.ro_legal.specs.Sound.{IsSound}
use Rattle.ro_simulation.specs.Invariant.{Agrees, TracksIdeal}
use Rattle.ro_legal.proofs.Lists.{get-within, get-filter-map, length-filter-map, get-all, all-from}
use Rattle.ro_simulation.proofs.Views.{Comes, Arrives, arrives, SameArrival, same-arrival, machine_view, next-at-middle, view-is, standing_by, stands-next, not-equal}
use Rattle.ro_simulation.proofs.Ahead.{KeepsRest, BackedRun-keeps, BackedRun-run}
use Rattle.ro_journal.specs.declared.losers.Lost.{Lost}
use Rattle.ro_journal.specs.Losers.{numbers}
use Rattle.ro_vote.specs.Numbers.{is_among, without, AtMostHalf}
use Rattle.ro_vote.proofs.Places.{some-outside, without-longer, without-other}
use Rattle.ro_vote.proofs.Verdicts.{won-by, AllBut, WonWell, won-well, all-odd-lost}
use Rattle.ro_vote.proofs.Copies.{Distinct, losers-distinct, AfterCopies, not_lost, is_copy, after-copies}
use Rattle.ro_legal.proofs.Copies.{copied-there, sound-recovered, length-with-copy}
use Rattle.ro_simulation.proofs.Copies.{agrees-recovered}
use Rattle.ro_simulation.proofs.Steps.{HasEvent, step-of-stop}
use Rattle.ro_simulation.proofs.Kept.{Going, going-from, none-lent, Meets, event-holds}

-- a list of steps in three parts
pub run-more : (program : Program) (before : List ℕ) (machine middle : Machine) (xs ys : List ℕ) {end : Machine} → run program (opening program) before ≡ Some machine → run program machine xs ≡ Some middle → run program middle ys ≡ Some end → run program (opening program) (before ++ (xs ++ ys)) ≡ Some end
run-more program before machine middle xs ys reached front back =
    run-append program (opening program) before (xs ++ ys)
    ∙ (ap (option_and_then (λ m. run program m (xs ++ ys))) reached
    ∙ (run-append program machine xs ys ∙ (ap (option_and_then (λ m. run program m ys)) front ∙ back)))

-- ---- a thread that is stopped in a replica

-- the thread and its stop
pub record StoppedIn (r : Replica) (t : ℕ) : Type 0 where
  pub thread : Thread
  pub stop : Stop
  pub there : slice_get r.threads t ≡ Some thread
  pub stopped : thread.stop ≡ Some stop

-- by the thread that is there
stopped-by : (r : Replica) (t : ℕ) (o : Option Thread) → slice_get r.threads t ≡ o → is_some (option_and_then (λ (x : Thread). x.stop) o) ≡ true → StoppedIn r t
stopped-by r t None e h = absurd (false≢true h)
stopped-by r t (Some thread) e h = by thread.stop refl h
  where
    by : (o : Option Stop) → thread.stop ≡ o → is_some o ≡ true → StoppedIn r t
    by None f k = absurd (false≢true k)
    by (Some stop) f k = record { thread = thread; stop = stop; there = e; stopped = f }

-- the test says that it is stopped
pub stopped-in : (r : Replica) (t : ℕ) → is_some (stop_of r t) ≡ true → StoppedIn r t
stopped-in r t h = stopped-by r t (slice_get r.threads t) refl h

-- the view of a stopped thread
pub view-of-stopped : (ranges : List Range) (r : Replica) (t : ℕ) (s : StoppedIn r t) → view_of ranges t r ≡ Some (view_with ranges r s.thread s.stop)
view-of-stopped ranges r t s =
    ap (option_and_then (λ (x : Thread). option_map (view_with ranges r x) x.stop)) s.there ∙ ap (option_map (view_with ranges r s.thread)) s.stopped

-- a stopped thread has a view
pub has-view : (ranges : List Range) (r : Replica) (t : ℕ) → is_some (stop_of r t) ≡ true → is_some (view_of ranges t r) ≡ true
has-view ranges r t h = ap is_some (view-of-stopped ranges r t (stopped-in r t h))

-- the watchdog's event releases the thread
watchdog-releases : (setup : Setup) (kernel : Kernel) (t : ℕ) (payload : List ℕ) → (event_of setup kernel t Watchdog payload).effect.releases ≡ true
unfolding event_of
watchdog-releases setup kernel t payload = refl

-- ---- a vote that may come

-- the parts of it
pub record VoteParts (core : Core) (t : ℕ) : Type 0 where
  pub going : Going core
  pub no_lease : core.leases ≡ []
  pub live : IsTrue (lives_on core.kernel t)
  pub stopped : list_all (λ r. is_some (stop_of r t)) core.replicas ≡ true

-- a vote that may come has them
pub vote-parts : (core : Core) (t : ℕ) → may_vote core t ≡ true → VoteParts core t
vote-parts core t h =
    let a = and_parts _ _ h in let b = and_parts _ _ a.0 in let c = and_parts _ _ b.0 in let d = and_parts _ _ c.0 in
    record { going = going-from core d.0; no_lease = none-lent core d.1; live = c.1; stopped = a.1 }

module _ (job : Job) (free : RaceFree job.program) (odds : List ℕ) (journal : List Entry) (core : Core) (h : TracksIdeal job odds journal core) (t : ℕ) (parts : VoteParts core t) where
  -- the program goes on at a vote
  going : h.machine.ended ≡ None
  going = sym h.same_end ∙ parts.going.not_due

  -- the thread lives in the machine
  pub live-in-machine : IsTrue (lives_on h.machine.kernel t)
  live-in-machine = ap (λ (k : Kernel). lives_on k t) (sym h.same_kernel) ∙ parts.live

  -- it is stopped in each replica
  stops-at : (number : ℕ) (r : Replica) → slice_get core.replicas number ≡ Some r → StoppedIn r t
  stops-at number r e = stopped-in r t (get-all (λ x. is_some (stop_of x t)) core.replicas parts.stopped number r e)

  -- a replica that agrees comes to a stop
  pub arrives-at : (r : Replica) → Agrees job h.machine r → r.backed ≡ h.backed → (s : StoppedIn r t) → Arrives job h.backed h.machine r t s.thread s.stop
  arrives-at r agree same s =
      arrives job free (plan_of journal) h.machine h.ideal_is going h.backed r same agree.runs_ahead t s.thread s.stop live-in-machine s.there s.stopped (agree.stops t)

  -- The stop at which the replicas that agree stand, as one of them shows it.
  pub record GoodStop : Type 0 where
    pub replica : Replica
    pub thread : Thread
    pub stop : Stop
    pub arrival : Arrives job h.backed h.machine replica t thread stop
    pub within : thread.since ≤ job.settings.watchdog

  -- any replica that agrees shows it
  pub good-from : (number : ℕ) (r : Replica) → slice_get core.replicas number ≡ Some r → is_among odds number ≡ false → GoodStop
  good-from number r e d =
      let s = stops-at number r e in
      let sound = h.sound number r e in
      record { replica = r; thread = s.thread; stop = s.stop; arrival = arrives-at r (h.others_agree going number r d e) sound.same_backed s; within = sound.within_watch t s.thread s.there }

  -- with one or more replicas there is one, since at most half are odd
  pub some-good : 1 ≤ length core.replicas → GoodStop
  some-good one =
      let o = some-outside odds core.replicas (let n = h.replica_count in let f = h.few in omega arith) in
      let z : 0 + o.place ≡ o.place = omega arith in
      good-from o.place o.element o.there (sym (ap (is_among odds) z) ∙ o.outside)

  -- one view for each replica
  views-as-long : length (views_of job core t) ≡ length core.replicas
  views-as-long = length-filter-map (view_of (ranges_in (setup_of job.program) core.kernel) t) core.replicas
      (all-from _ core.replicas (λ i r e. has-view (ranges_in (setup_of job.program) core.kernel) r t (get-all (λ x. is_some (stop_of x t)) core.replicas parts.stopped i r e)))

  -- the view of each replica
  view-at : (i : ℕ) (r : Replica) → slice_get core.replicas i ≡ Some r → slice_get (views_of job core t) i ≡ view_of (ranges_in (setup_of job.program) core.kernel) t r
  view-at i r e = get-filter-map (view_of (ranges_in (setup_of job.program) core.kernel) t) core.replicas
      (all-from _ core.replicas (λ i r e. has-view (ranges_in (setup_of job.program) core.kernel) r t (get-all (λ x. is_some (stop_of x t)) core.replicas parts.stopped i r e))) i r e

  -- as many views as replicas
  pub as-many-views : length (views_of job core t) ≡ length core.replicas
  as-many-views = views-as-long

  -- at most half of the views are those of odd replicas
  pub few-views : AtMostHalf (length (views_of job core t)) odds
  few-views = let n = views-as-long in let m = h.replica_count in let f = h.few in omega arith

  module _ (good : GoodStop) where
    -- the view that it gives
    abbrev pub good_view : View
    good_view = machine_view job.program good.arrival.middle good.thread.cpu good.thread.since good.stop

    -- a replica that agrees has that view
    pub same-as-good : (r : Replica) (agree : Agrees job h.machine r) (same : r.backed ≡ h.backed) (s : StoppedIn r t) → s.thread.since ≤ job.settings.watchdog → SameArrival job h.backed h.machine r good.replica t s.thread good.thread s.stop good.stop (arrives-at r agree same s) good.arrival
    same-as-good r agree same s low = same-arrival job h.backed h.machine r good.replica t s.thread good.thread s.stop good.stop (arrives-at r agree same s) good.arrival low good.within

    -- each replica that agrees has it
    good-view-of : (r : Replica) → Agrees job h.machine r → r.backed ≡ h.backed → (s : StoppedIn r t) → s.thread.since ≤ job.settings.watchdog → view_of (ranges_in (setup_of job.program) core.kernel) t r ≡ Some good_view
    good-view-of r agree same s low =
        let k = same-as-good r agree same s low in
        ap (λ (k : Kernel). view_of (ranges_in (setup_of job.program) k) t r) h.same_kernel
        ∙ (view-is job free (plan_of journal) h.machine h.ideal_is h.backed r t s.thread s.stop (arrives-at r agree same s) s.there s.stopped
        ∙ (λ i. Some (machine_view job.program (k.same_middle i) (k.same_cpu i) (k.same_since i) (k.same_stop i))))

    -- each replica but the odd ones has it
    pub all-but-odd : AllBut odds good_view (views_of job core t)
    all-but-odd = record {
      others = λ i v d e.
          let short = slice_get_within (views_of job core t) i v e in
          let at = get-within core.replicas i (let n = views-as-long in omega arith) in
          let sound = h.sound i at.0 at.1 in
          let s = stops-at i at.0 at.1 in
          some-injective (sym e ∙ (view-at i at.0 at.1 ∙ good-view-of at.0 (h.others_agree going i at.0 d at.1) sound.same_backed s (sound.within_watch t s.thread s.there)));
    }

    -- the winner's thread shows what the good one does
    pub record WinnerShows (won : ℕ) : Type 0 where
      pub winner : Replica
      pub winner_there : slice_get core.replicas won ≡ Some winner
      pub shown : StoppedIn winner t
      pub same_since : shown.thread.since ≡ good.thread.since
      pub same_stop : shown.stop ≡ good.stop
      pub same_payload : payload_at (ranges_in (setup_of job.program) core.kernel) winner.memory shown.stop ≡ payload_at (ranges_in (setup_of job.program) good.arrival.middle.kernel) good.arrival.middle.memory good.stop

    -- the winner has it
    pub winner-shows : (won : ℕ) → slice_get (views_of job core t) won ≡ Some good_view → WinnerShows won
    winner-shows won e =
        let short = slice_get_within (views_of job core t) won _ e in
        let at = get-within core.replicas won (let n = views-as-long in omega arith) in
        let s = stops-at won at.0 at.1 in
        let same : view_with (ranges_in (setup_of job.program) core.kernel) at.0 s.thread s.stop ≡ good_view =
        some-injective (sym (view-of-stopped (ranges_in (setup_of job.program) core.kernel) at.0 t s) ∙ (sym (view-at won at.0 at.1) ∙ e)) in
        record {
          winner = at.0;
          winner_there = at.1;
          shown = s;
          same_since = ap (λ (v : View). v.since) same;
          same_stop = ap (λ (v : View). v.stop) same;
          same_payload = ap (λ (v : View). v.payload) same;
        }

    -- the thread's own steps keep the kernel
    kept : KeepsRest h.machine good.arrival.middle
    kept = BackedRun-keeps job.program h.backed good.arrival.comes.own

    -- the event of the winner's stop is that of the machine's
    abbrev pub good_event : Event
    good_event = event_of (setup_of job.program) good.arrival.middle.kernel t good.stop (payload_at (ranges_in (setup_of job.program) good.arrival.middle.kernel) good.arrival.middle.memory good.stop)

    -- the core's event is the machine's
    event-is : (won : ℕ) (w : WinnerShows won) → event_in job core t won ≡ Some good_event
    event-is won w =
        ap (option_and_then (λ (r : Replica). option_map (event_with job core t r) (stop_of r t))) w.winner_there
        ∙ (ap (λ (o : Option Thread). option_map (event_with job core t w.winner) (option_and_then (λ (x : Thread). x.stop) o)) w.shown.there
        ∙ (ap (option_map (event_with job core t w.winner)) w.shown.stopped
        ∙ (λ i. Some (event_of (setup_of job.program) ((h.same_kernel ∙ sym kept.same_kernel) i) t (w.same_stop i) (w.same_payload i)))))

    -- the winner's count is the machine's
    since-is : (won : ℕ) (w : WinnerShows won) → since_in core t won ≡ Some good.thread.since
    since-is won w =
        ap (option_and_then (λ (r : Replica). option_map (λ (x : Thread). x.since) (slice_get r.threads t))) w.winner_there
        ∙ (ap (option_map (λ (x : Thread). x.since)) w.shown.there ∙ ap Some w.same_since)

    -- the machine makes that event
    pub has-good-event : HasEvent job h.backed h.machine good.arrival.middle t good_event
    has-good-event = step-of-stop job free (plan_of journal) h.backed h.machine good.arrival.middle h.ideal_is going t good.thread.since live-in-machine good.arrival.comes.own good.thread.cpu good.arrival.comes.live h.as_many good.stop
        (λ kind. next-at-middle job free (plan_of journal) h.machine h.ideal_is h.backed good.replica t good.thread good.stop kind good.arrival)

    -- a stop that is kept stands also at the count 0
    stands-at-zero : (r : Replica) (agree : Agrees job h.machine r) (s : StoppedIn r t) → s.thread.since ≤ job.settings.watchdog → s.stop ≡ good.stop → (stop : Stop) → good_event.effect.releases ≡ false → s.thread.stop ≡ Some stop → standing (layout_in job.program h.machine.kernel) job.settings.watchdog r.backed r.memory s.thread.cpu 0 ≡ Some stop
    stands-at-zero r agree s low same stop kept_stop e = by stop (some-injective (sym s.stopped ∙ e))
      where
        stands : standing (layout_in job.program h.machine.kernel) job.settings.watchdog r.backed r.memory s.thread.cpu s.thread.since ≡ Some s.stop
        stands = (agree.stops t).stands s.thread s.stop live-in-machine s.there s.stopped

        unwatched : (stop : Stop) → s.stop ≡ stop → stop ≢ Watchdog → standing (layout_in job.program h.machine.kernel) job.settings.watchdog r.backed r.memory s.thread.cpu 0 ≡ Some stop
        unwatched stop f d =
            let n = stands-next (s.thread.since == job.settings.watchdog) (next (layout_in job.program h.machine.kernel) r.backed r.memory s.thread.cpu) stop (stands ∙ ap Some f) d in
            let other : s.thread.since ≢ job.settings.watchdog = λ g. true≢false (sym (eq-eqb s.thread.since job.settings.watchdog g) ∙ n.unwatched) in
            ap (λ (b : Bool). standing_by b (next (layout_in job.program h.machine.kernel) r.backed r.memory s.thread.cpu)) (not-equal 0 job.settings.watchdog (omega arith))
            ∙ ap stop_in n.next_is

        released : s.stop ≡ Watchdog → ⊥
        released f =
            true≢false (sym (watchdog-releases (setup_of job.program) good.arrival.middle.kernel t _) ∙ (ap (λ (x : Stop). (event_of (setup_of job.program) good.arrival.middle.kernel t x (payload_at (ranges_in (setup_of job.program) good.arrival.middle.kernel) good.arrival.middle.memory x)).effect.releases) (sym f ∙ same) ∙ kept_stop))

        by : (stop : Stop) → s.stop ≡ stop → standing (layout_in job.program h.machine.kernel) job.settings.watchdog r.backed r.memory s.thread.cpu 0 ≡ Some stop
        by (Calls call) f = unwatched (Calls call) f (λ (g : Calls call ≡ Watchdog). cc)
        by (Trap code) f = unwatched (Trap code) f (λ (g : Trap code ≡ Watchdog). cc)
        by (PageFault page) f = unwatched (PageFault page) f (λ (g : PageFault page ≡ Watchdog). cc)
        by Watchdog f = absurd (released f)

    -- a replica that agrees, and in which the thread is stopped
    pub record Fits (r : Replica) : Type 0 where
      pub agree : Agrees job h.machine r
      pub same : r.backed ≡ h.backed
      pub stopped : StoppedIn r t
      pub low : stopped.thread.since ≤ job.settings.watchdog

    -- what the event needs of a replica that fits
    meets : (r : Replica) → Fits r → Meets job h.machine good.arrival.middle h.backed t good_event r
    meets r f =
        let k = same-as-good r f.agree f.same f.stopped f.low in
        record {
          agree = f.agree;
          thread = f.stopped.thread;
          there = f.stopped.there;
          comes = subst (λ (m : Machine). Comes job h.backed h.machine m r t f.stopped.thread) k.same_middle (arrives-at r f.agree f.same f.stopped).comes;
          own_stop = stands-at-zero r f.agree f.stopped f.low k.same_stop;
        }

    -- a replica that agrees fits
    fits-of : (number : ℕ) (r : Replica) → Agrees job h.machine r → slice_get core.replicas number ≡ Some r → Fits r
    fits-of number r agree e =
        let sound = h.sound number r e in let s = stops-at number r e in
        record { agree = agree; same = sound.same_backed; stopped = s; low = sound.within_watch t s.thread s.there }

    -- a replica that is not odd fits
    fits-as-it-is : (number : ℕ) (r : Replica) → is_among odds number ≡ false → slice_get core.replicas number ≡ Some r → Fits r
    fits-as-it-is number r d e = fits-of number r (h.others_agree going number r d e) e

    -- a replica that agrees has the good view
    shows-good : (number : ℕ) (r : Replica) → Agrees job h.machine r → slice_get core.replicas number ≡ Some r → slice_get (views_of job core t) number ≡ Some good_view
    shows-good number r agree e =
        let f = fits-of number r agree e in
        view-at number r e ∙ good-view-of r agree f.same f.stopped f.low

    -- a copy of one that fits fits
    fits-copied : (winner loser : Replica) → length winner.threads ≡ length loser.threads → Fits winner → Fits (recovered winner loser)
    unfolding recovered
    fits-copied winner loser n f =
        let c = copied-there winner.threads loser.threads t f.stopped.thread n f.stopped.there in
        record {
          agree = agrees-recovered job h.machine winner loser n f.agree;
          same = f.same;
          stopped = record { thread = record f.stopped.thread { done = c.0 }; stop = f.stopped.stop; there = c.1; stopped = f.stopped.stopped };
          low = f.low;
        }

    module _ (won : ℕ) (lost : Lost) (well : WonWell odds good_view (views_of job core t) won (numbers lost)) (verdict : verdict_of (views_of job core t) ≡ Won won (numbers lost)) where
      -- no replica loses twice
      distinct : Distinct (numbers lost)
      distinct = let w = won-by (views_of job core t) won (numbers lost) verdict in subst Distinct w.losers (losers-distinct w.view 0 (views_of job core t))

      -- each loser is there
      loser-there : (l : ℕ) → is_among (numbers lost) l ≡ true → (r : Replica) × (slice_get core.replicas l ≡ Some r)
      loser-there l e =
          let d = well.losers_differ l e in
          let short = slice_get_within (views_of job core t) l d.0 d.1 in
          get-within core.replicas l (let n = views-as-long in omega arith)

      -- a replica that agrees does not lose
      agrees-stays : (number : ℕ) (r : Replica) → Agrees job h.machine r → slice_get core.replicas number ≡ Some r → is_among (numbers lost) number ≡ true → ⊥
      agrees-stays number r agree e l = let d = well.losers_differ number l in d.2 (some-injective (sym d.1 ∙ shows-good number r agree e))

      -- a replica after the copies
      copied : (number : ℕ) (r : Replica) → slice_get (with_recovered won (numbers lost) core.replicas) number ≡ Some r → AfterCopies recovered won (numbers lost) core.replicas number r
      copied number r e =
          after-copies recovered won (numbers lost) core.replicas (winner-shows won well.winner).winner distinct well.winner_stays (winner-shows won well.winner).winner_there loser-there number r e

      -- what holds of every replica after the copies
      sound-with-copy : (number : ℕ) (r : Replica) → slice_get (with_recovered won (numbers lost) core.replicas) number ≡ Some r → IsSound job core h.backed number r
      sound-with-copy number r e = by (copied number r e)
        where
          by : AfterCopies recovered won (numbers lost) core.replicas number r → IsSound job core h.backed number r
          by (not_lost d f) = h.sound number r f
          by (is_copy w l lost_here w_there l_there is) = subst (IsSound job core h.backed number) is (sound-recovered job core h.backed won number w l (h.sound won w w_there) (h.sound number l l_there))

      -- a replica that is not odd still fits after the copies: it is no loser
      fits-still : (number : ℕ) (r : Replica) → is_among odds number ≡ false → slice_get (with_recovered won (numbers lost) core.replicas) number ≡ Some r → Fits r
      fits-still number r d e = by (copied number r e)
        where
          by : AfterCopies recovered won (numbers lost) core.replicas number r → Fits r
          by (not_lost k f) = fits-as-it-is number r d f
          by (is_copy w l lost_here w_there l_there is) = absurd (true≢false (sym (well.losers_odd number lost_here) ∙ d))

      -- so does one that agreed, odd or not
      fits-agreed : (number : ℕ) (before r : Replica) → slice_get core.replicas number ≡ Some before → Agrees job h.machine before → slice_get (with_recovered won (numbers lost) core.replicas) number ≡ Some r → Fits r
      fits-agreed number before r there agree e = by (copied number r e)
        where
          by : AfterCopies recovered won (numbers lost) core.replicas number r → Fits r
          by (not_lost k f) = subst Fits (some-injective (sym there ∙ f)) (fits-of number before agree there)
          by (is_copy w l lost_here w_there l_there is) = absurd (agrees-stays number before agree there lost_here)

      -- a loser fits where the winner agreed
      fits-healed : (winner : Replica) → slice_get core.replicas won ≡ Some winner → Agrees job h.machine winner → (number : ℕ) (r : Replica) → is_among (numbers lost) number ≡ true → slice_get (with_recovered won (numbers lost) core.replicas) number ≡ Some r → Fits r
      fits-healed winner there agree number r lost_here e = by (copied number r e)
        where
          by : AfterCopies recovered won (numbers lost) core.replicas number r → Fits r
          by (not_lost k f) = absurd (true≢false (sym lost_here ∙ k))
          by (is_copy w l lost_too w_there l_there is) =
              subst Fits is (fits-copied w l ((h.sound won w w_there).all_made ∙ sym (h.sound number l l_there).all_made) (subst Fits (some-injective (sym there ∙ w_there)) (fits-of won winner agree there)))

      -- where as many lost as may be odd, every odd replica lost
      odd-lost : length core.replicas < 2 * suc (length (numbers lost)) → (number : ℕ) → is_among odds number ≡ true → is_among (numbers lost) number ≡ true
      odd-lost many number = all-odd-lost odds good_view (views_of job core t) all-but-odd few-views won (numbers lost) verdict (let n = views-as-long in omega arith) number

      -- then the winner is not odd
      winner-even : length core.replicas < 2 * suc (length (numbers lost)) → is_among odds won ≡ false
      winner-even many = by (is_among odds won) refl
        where
          by : (b : Bool) → is_among odds won ≡ b → is_among odds won ≡ false
          by false e = e
          by true e = absurd (true≢false (sym (odd-lost many won e) ∙ well.winner_stays))

      -- and every replica fits after the copies
      fits-all : length core.replicas < 2 * suc (length (numbers lost)) → (number : ℕ) (r : Replica) → slice_get (with_recovered won (numbers lost) core.replicas) number ≡ Some r → Fits r
      fits-all many number r e = by (is_among odds number) refl
        where
          by : (b : Bool) → is_among odds number ≡ b → Fits r
          by false d = fits-still number r d e
          by true d =
              let w = winner-shows won well.winner in
              fits-healed w.winner w.winner_there (h.others_agree going won w.winner (winner-even many) w.winner_there) number r (odd-lost many number d) e

    module _ (count won : ℕ) (lost : Lost) (did : Did) (may : MayVote job core t count won lost did) (well : WonWell odds good_view (views_of job core t) won (numbers lost)) where
      -- the winner shows the stop
      shows : WinnerShows won
      shows = winner-shows won well.winner

      -- the vote's count
      count_is : good.thread.since ≡ count
      count_is = some-injective (sym (since-is won (winner-shows won well.winner)) ∙ may.count_is)

      -- the vote's event
      event_same : good_event ≡ may.event
      event_same = some-injective (sym (event-is won (winner-shows won well.winner)) ∙ may.comes)

      -- the vote's steps
      plan_same : replicate count t ++ replicate (event_steps did) t ≡ replicate good.thread.since t ++ replicate (event_steps good_event.did) t
      plan_same = ap₂ (λ (n : ℕ) (d : Did). replicate n t ++ replicate (event_steps d) t) (sym count_is) (sym (ap (λ (e : Event). e.did) event_same ∙ may.did_is))

      -- the core after the vote
      after-is : core_after core t good.thread.since (with_recovered won (numbers lost) core.replicas) good_event ≡ after job core (Vote t count won lost did)
      unfolding after
      after-is =
          ap (λ (n : ℕ). core_after core t n (with_recovered won (numbers lost) core.replicas) good_event) count_is
          ∙ ap (core_after_event core t count (with_recovered won (numbers lost) core.replicas)) (sym (event-is won (winner-shows won well.winner)))

      -- the invariant with any odd replicas, at most half, where all others fit
      voted-with : (odds' : List ℕ) → AtMostHalf job.settings.replicas odds' → ((number : ℕ) (r : Replica) → is_among odds' number ≡ false → slice_get (with_recovered won (numbers lost) core.replicas) number ≡ Some r → Fits r) → TracksIdeal job odds' (journal ++ Vote t count won lost did ∷ []) (after job core (Vote t count won lost did))
      voted-with odds' few' fit =
          let event = has-good-event in
          subst (TracksIdeal job odds' (journal ++ Vote t count won lost did ∷ [])) after-is
          (event-holds job odds journal core h going parts.no_lease t good.thread.since live-in-machine good.arrival.middle good.arrival.comes.own _ event.0 event.1
          (Vote t count won lost did) plan_same (with_recovered won (numbers lost) core.replicas) (length-with-copy won (numbers lost) core.replicas)
          (sound-with-copy won lost well may.verdict) odds' few'
          (λ number r d e. meets r (fit number r d e)))

-- a vote that is won is of some replica
some-voted : (views : List View) (replicas : List Replica) (won : ℕ) (lost : List ℕ) → length views ≡ length replicas → verdict_of views ≡ Won won lost → 1 ≤ length replicas
some-voted views replicas won lost n e = let w = won-by views won lost e in let short = slice_get_within views won w.view w.there in omega arith

-- ---- the steps that a vote would retire

module _ (job : Job) (free : RaceFree job.program) (odds : List ℕ) (journal : List Entry) (core : Core) (h : TracksIdeal job odds journal core) (t : ℕ) (parts : VoteParts core t) where
  -- they are an execution, whether the vote fits the limit or not
  pub vote-runs : (won : ℕ) (lost : List ℕ) → verdict_of (views_of job core t) ≡ Won won lost → (count : ℕ) → since_in core t won ≡ Some count → (event : Event) → event_in job core t won ≡ Some event → IsExecution job.program (plan_of journal ++ (replicate count t ++ replicate (event_steps event.did) t))
  vote-runs won lost verdict count since event comes =
      let good = some-good job free odds journal core h t parts (some-voted (views_of job core t) core.replicas won lost (as-many-views job free odds journal core h t parts) verdict) in
      let well = won-well odds (machine_view job.program good.arrival.middle good.thread.cpu good.thread.since good.stop) (views_of job core t) (all-but-odd job free odds journal core h t parts good) won lost (few-views job free odds journal core h t parts) verdict in
      let shows = winner-shows job free odds journal core h t parts good won well.winner in
      let step = has-good-event job free odds journal core h t parts good in
      let same_count : good.thread.since ≡ count = some-injective (sym (since-is job free odds journal core h t parts good won shows) ∙ since) in
      let same_event : event_of (setup_of job.program) good.arrival.middle.kernel t good.stop (payload_at (ranges_in (setup_of job.program) good.arrival.middle.kernel) good.arrival.middle.memory good.stop) ≡ event = some-injective (sym (event-is job free odds journal core h t parts good won shows) ∙ comes) in
      subst (λ (threads : List ℕ). IsExecution job.program (plan_of journal ++ threads)) (ap₂ (λ (n : ℕ) (e : Event). replicate n t ++ replicate (event_steps e.did) t) same_count same_event)
      (step.0, run-more job.program (plan_of journal) h.machine good.arrival.middle (replicate good.thread.since t) _ h.ideal_is (BackedRun-run job.program h.backed good.arrival.comes.own) step.1.run_event)

-- ---- the vote

-- what a vote leaves
pub record AfterVote (job : Job) (odds : List ℕ) (journal : List Entry) (core : Core) (machine : Machine) (t count won : ℕ) (lost : Lost) (did : Did) : Type 0 where
  pub holds : TracksIdeal job odds (journal ++ Vote t count won lost did ∷ []) (after job core (Vote t count won lost did))
  pub losers_odd : (l : ℕ) → is_among (numbers lost) l ≡ true → is_among odds l ≡ true
  pub losers_differ : (l : ℕ) (r : Replica) → is_among (numbers lost) l ≡ true → slice_get core.replicas l ≡ Some r → Agrees job machine r → ⊥
  pub stays : (number : ℕ) (r : Replica) → slice_get core.replicas number ≡ Some r → Agrees job machine r → TracksIdeal job (without number odds) (journal ++ Vote t count won lost did ∷ []) (after job core (Vote t count won lost did))
  pub heals : (winner : Replica) → slice_get core.replicas won ≡ Some winner → Agrees job machine winner → (l : ℕ) → is_among (numbers lost) l ≡ true → TracksIdeal job (without l odds) (journal ++ Vote t count won lost did ∷ []) (after job core (Vote t count won lost did))
  pub winner_even : length core.replicas < 2 * suc (length (numbers lost)) → is_among odds won ≡ false
  pub then_all : length core.replicas < 2 * suc (length (numbers lost)) → TracksIdeal job [] (journal ++ Vote t count won lost did ∷ []) (after job core (Vote t count won lost did))

module _ (job : Job) (free : RaceFree job.program) (odds : List ℕ) (journal : List Entry) (core : Core) (h : TracksIdeal job odds journal core) (t count won : ℕ) (did : Did) where
  -- the invariant after a vote
  pub after-vote : (lost : Lost) → MayVote job core t count won lost did → AfterVote job odds journal core h.machine t count won lost did
  after-vote lost may =
      let parts = vote-parts core t may.may in
      let good = some-good job free odds journal core h t parts (some-voted (views_of job core t) core.replicas won (numbers lost) (as-many-views job free odds journal core h t parts) may.verdict) in
      let well = won-well odds (machine_view job.program good.arrival.middle good.thread.cpu good.thread.since good.stop) (views_of job core t) (all-but-odd job free odds journal core h t parts good) won (numbers lost) (few-views job free odds journal core h t parts) may.verdict in
      let voted = voted-with job free odds journal core h t parts good count won lost did may well in
      let fewer = λ (number : ℕ). let l = without-longer number odds in let f = h.few in let g : AtMostHalf job.settings.replicas (without number odds) = omega arith in g in
      record {
        holds = voted odds h.few (fits-still job free odds journal core h t parts good won lost well may.verdict);
        losers_odd = well.losers_odd;
        losers_differ = λ l r k e agree. agrees-stays job free odds journal core h t parts good won lost well may.verdict l r agree e k;
        stays = λ number r there agree. voted (without number odds) (fewer number) (λ i x d e. by-number number i (cases_eq number i)
            (λ same. fits-agreed job free odds journal core h t parts good won lost well may.verdict i r x (ap (slice_get core.replicas) (sym same) ∙ there) agree e)
            (λ other. fits-still job free odds journal core h t parts good won lost well may.verdict i x (without-other number odds i d other) e));
        heals = λ winner there agree l k. voted (without l odds) (fewer l) (λ i x d e. by-number l i (cases_eq l i)
            (λ same. fits-healed job free odds journal core h t parts good won lost well may.verdict winner there agree i x (ap (is_among (numbers lost)) (sym same) ∙ k) e)
            (λ other. fits-still job free odds journal core h t parts good won lost well may.verdict i x (without-other l odds i d other) e));
        winner_even = winner-even job free odds journal core h t parts good won lost well may.verdict;
        then_all = λ many. voted [] (let f = h.few in omega arith) (λ number r d e. fits-all job free odds journal core h t parts good won lost well may.verdict many number r e);
      }
    where
      by-number : {X : Type 0} (number i : ℕ) → (number ≡ i) ⊎ (number ≢ i) → (number ≡ i → X) → (number ≢ i → X) → X
      by-number number i (inl e) same other = same e
      by-number number i (inr d) same other = other d
