-- The induction over a legal journal of a cooperative run.
use Rattle.std.specs.Prelude.{◌≡◌, ◌⊎◌, ℕ, zero, suc, ◌+◌, ◌<◌, true, false, ◌&&◌, ◌==◌, List, [], ◌∷◌, replicate, Option, Some, None, is_none, slice_get}
use Rattle.std.specs.List.{list_any}
use Rattle.std.specs.Option.{option_map, option_and_then}
use Rattle.std.proofs.Common.{refl, sym, ap, ap₂, ◌∙◌, subst, arith, ⊎_elim}
use Rattle.std.proofs.lemmas.Bool.{true≢false, false≢true, and_parts}
use Rattle.std.proofs.lemmas.Option.{option_and_then_some}
use Rattle.ro_event.specs.declared.calls.Which.{Which}
use Rattle.ro_event.specs.declared.calls.Which.TheVariants.{System, Function, Atomic}
use Rattle.ro_event.specs.declared.calls.Call.{Call}
use Rattle.ro_event.specs.declared.stops.Stop.{Stop}
use Rattle.ro_event.specs.declared.stops.Stop.TheVariants.{Calls, Trap, PageFault, Watchdog}
use Rattle.ro_event.specs.Views.{View}
use Rattle.ro_region.specs.declared.Range.{Range}
use Rattle.ro_journal.specs.declared.Lease.{Lease}
use Rattle.ro_journal.specs.declared.Did.{Did}
use Rattle.ro_journal.specs.declared.Did.TheVariants.{Served as WasServed, Blocked as WasBlocked, PageBacked, Watch, Trapped}
use Rattle.ro_journal.specs.declared.How.{How}
use Rattle.ro_journal.specs.declared.How.TheVariants.{Trap as TrapHow}
use Rattle.ro_journal.specs.declared.Entry.{Entry}
use Rattle.ro_journal.specs.declared.Entry.TheVariants.{Take, Put, Part, Vote, Free, Scrub, End}
use Rattle.ro_journal.specs.Plan.{event_steps}
use Rattle.ro_exec.proofs.Backing.{a_call, a_trap}
use Rattle.ro_kernel.specs.Reserved.{reservation_of}
use Rattle.ro_kernel.specs.Kernel.{Kernel, lives_on, opening_kernel}
use Rattle.ro_kernel.specs.Serve.{Served, Done, Parked, Blocked, Ends, serve, is_blocked, is_served, put_out, asked}
use Rattle.ro_kernel.proofs.Waiting.{blocked-waits}
use Rattle.ro_kernel.proofs.Words.{asked-same}
use Rattle.ro_thread.specs.declared.Thread.{Thread}
use Rattle.ro_replica.specs.Replica.{opening_replica, stop_of}
use Rattle.ro_replica.specs.Views.{payload_at, view_with, view_of}
use Rattle.ro_plain.specs.Machine.{setup_of, Machine, opening, called, step_by, step, run}
use Rattle.ro_plain.specs.Order.{RaceFree}
use Rattle.ro_plain.proofs.Calls.{some-injective, step-at}
use Rattle.ro_plain.proofs.Stays.{no-payload}
use Rattle.ro_legal.specs.Core.{is_lease}
use Rattle.ro_legal.specs.Event.{Event, quiet_effect, call_event, event_of}
use Rattle.ro_legal.proofs.Lists.{MappedFrom}
use Rattle.ro_orders.specs.Turns.{TakesByLocks}
use Rattle.ro_orders.specs.Copies.{Copy, opening_copy, Rows, at_opening}
use Rattle.ro_orders.proofs.Copies.{runs-first}
use Rattle.ro_orders.proofs.Stands.{output-alike}
use Rattle.ro_peer.specs.Peers.{Peer, kernel_in, with_mutexes, machine_of}
use Rattle.ro_peer.specs.Events.{unanswered}
use Rattle.ro_coop.specs.Core.{Job, Core, ranges_here, opening_peer, opening_core, kernel_for, settled, core_after, voted_stop, event_with, vote_event, free_event, after_event, after, is_going, MayVote, MayFree, is_outcome, IsAllowed, LegalFrom, Steps, served_all, steps_after, steps_from, first_of}
use Rattle.ro_coop.specs.Sound.{core_behind, IsSound}
use Rattle.ro_coop.specs.Stuck.{Stopped, IsStuck}
use Rattle.ro_coop.proofs.Ended.{ended, ended_served}
use Rattle.ro_coop.proofs.Tables.{served_with, serve-in}
use Rattle.ro_coop.proofs.Standing.{next-here, live-here, turn-here, avoids-here}
use Rattle.ro_coop.proofs.Events.{avoid-asked, payload-in}
use Rattle.ro_coop.proofs.Blocked.{Blocks, blocks-so}
use Rattle.ro_coop.proofs.Lists.{Each, each-get, each-back}
use Rattle.ro_coop.proofs.Holds.{Common, Tied, IsWaiting, not-again, Going, Over, Holds, is_on, is_over, take-holds, put-holds}
use Rattle.ro_coop.proofs.Alike.{views-alike}
use Rattle.ro_coop.proofs.Ended.{kept_one}
use Rattle.ro_coop.proofs.Settled.{reserved-alike, settled-holds, settled-ranges, settled-lives, settled-peer, settled-none}
use Rattle.ro_coop.proofs.Stuck.{no-step}
use Rattle.ro_coop.proofs.Votes.{StandsAt, it_goes, it_waits, served-holds, quiet-holds, over-holds}
use Rattle.ro_coop.proofs.Begun.{begun-holds}

-- ---- what a view says

view-parts : (ranges : List Range) (peer : Peer) (t : ℕ) (view : View) → view_of ranges t peer.replica ≡ Some view → StandsAt ranges peer t view.stop view.payload
view-parts ranges peer t view e = by (slice_get peer.replica.threads t) refl e
  where
    at : (x : Thread) → slice_get peer.replica.threads t ≡ Some x → (o : Option Stop) → x.stop ≡ o → option_map (view_with ranges peer.replica x) o ≡ Some view → StandsAt ranges peer t view.stop view.payload
    at x k None q f = absurd (let h : None ≡ Some view = f in cc)
    at x k (Some stop) q f =
        let v : view_with ranges peer.replica x stop ≡ view = some-injective f in (
          x,
          k,
          q ∙ ap (λ (w : View). Some w.stop) v,
          ap (payload_at ranges peer.replica.memory) (sym (ap (λ (w : View). w.stop) v)) ∙ ap (λ (w : View). w.payload) v,
        )

    by : (o : Option Thread) → slice_get peer.replica.threads t ≡ o → option_and_then (λ x. option_map (view_with ranges peer.replica x) x.stop) o ≡ Some view → StandsAt ranges peer t view.stop view.payload
    by None k f = absurd (let h : None ≡ Some view = f in cc)
    by (Some x) k f = at x k x.stop refl f

view-since : (ranges : List Range) (peer : Peer) (t : ℕ) (view : View) → view_of ranges t peer.replica ≡ Some view → (x : Thread) → slice_get peer.replica.threads t ≡ Some x → x.since ≡ view.since
view-since ranges peer t view e x there = at x.stop (sym (ap (option_and_then (λ y. option_map (view_with ranges peer.replica y) y.stop)) there) ∙ e)
  where
    at : (o : Option Stop) → option_map (view_with ranges peer.replica x) o ≡ Some view → x.since ≡ view.since
    at None f = absurd (let h : None ≡ Some view = f in cc)
    at (Some stop) f = ap (λ (w : View). w.since) (some-injective f)

-- a thread has as many steps since its last event in every peer
abbrev pub Alike : Core → ℕ → Type 0
Alike core t = (since : ℕ) × ((n : ℕ) (r : Peer) → slice_get core.peers n ≡ Some r → (x : Thread) → slice_get r.replica.threads t ≡ Some x → x.since ≡ since)

-- a call that writes nothing
put-none : (which : Which) → put_out which [] ≡ []
put-none (System number) = refl
put-none (Function function) = refl
put-none (Atomic word) = refl

module _ (job : Job) (rows : Rows) (free : RaceFree job.program) (lacks : TakesByLocks job.program job.chosen) (watched : (0 == job.settings.watchdog) ≡ false) where
  -- ---- an event, by the thread's stop

  module _ (core : Core) (s : Steps) (g : Going job rows core s) (nothing_lent : core.leases ≡ []) (not_ended : core.ended ≡ None) (t : ℕ) (lives : lives_on core.kernel t ≡ true) (clear : (number : ℕ) (peer : Peer) → slice_get core.peers number ≡ Some peer → peer.answered t ≡ false) where
    abbrev ended_by : Kernel → How → Peer → Machine
    ended_by kernel how r = record (machine_of core.kernel core.output r) { kernel = with_mutexes (ended r.answered kernel) r.mutexes; ended = Some how }

    module _ (call : Call) (payload : List ℕ) (at : (number : ℕ) (peer : Peer) → slice_get core.peers number ≡ Some peer → StandsAt (ranges_here job core) peer t (Calls call) payload) (number : ℕ) (r : Peer) (c : Copy) (there : slice_get core.peers number ≡ Some r) (p : Tied job g.common core.kernel core.output core.blocked s.taken number r c) (kernel : Kernel) (how : How) (e : serve (setup_of job.program) core.kernel t (asked call payload) ≡ Ends kernel how) where
      ends-there : step job.program (machine_of core.kernel core.output r) t ≡ Some (ended_by kernel how r)
      ends-there =
          let a = at number r there in
          step-at job.program (machine_of core.kernel core.output r) t a.0.cpu (live-here job lacks core.kernel core.output r c p.is p.stops t lives a.0 a.1 (Calls call) a.2)
          ∙ (ap (step_by job.program (machine_of core.kernel core.output r) t a.0.cpu) (next-here job lacks core.kernel core.output r c p.is p.stops t lives a.0 a.1 (Calls call) a.2 a_call)
          ∙ (ap (λ (xs : List ℕ). called (machine_of core.kernel core.output r) a.0.cpu (put_out call.which xs) (serve (setup_of job.program) (kernel_in core.kernel r) t (asked call xs))) (payload-in job core.kernel core.output r call ∙ a.3)
          ∙ ap (called (machine_of core.kernel core.output r) a.0.cpu (put_out call.which payload))
          (serve-in job.chosen job.one_enters core.kernel r p.is.all (setup_of job.program) t (asked call payload) (avoid-asked call payload r.mutexes (avoids-here job lacks core.kernel core.output r c p.is p.stops t lives a.0 a.1 (Calls call) a.2 call refl)) (clear number r there)
          ∙ ap (λ (x : Served). served_with r.mutexes (ended_served r.answered x)) e)))

    call-holds : (call : Call) (payload : List ℕ) → ((number : ℕ) (peer : Peer) → slice_get core.peers number ≡ Some peer → StandsAt (ranges_here job core) peer t (Calls call) payload)
        → (served : Served) → serve (setup_of job.program) core.kernel t (asked call payload) ≡ served → (is_served served ≡ false → Alike core t) → Holds job rows (core_after job.chosen core t (Some (Calls call)) (call_event core.kernel t call (put_out call.which payload) served)) (served_all t (event_steps (call_event core.kernel t call (put_out call.which payload) served).did) s)
    call-holds call payload at (Done kernel effect) e alike = is_on (served-holds job rows free lacks watched core s g nothing_lent not_ended t lives (Calls call) payload at clear call refl kernel effect e)
    call-holds call payload at (Parked kernel) e alike =
        is_on (begun-holds job rows free lacks watched core s g nothing_lent not_ended t lives call payload at clear kernel e (alike refl).0 (alike refl).1)
    call-holds call payload at Blocked e alike =
        let b : Blocks core.kernel (asked call payload) = blocks-so (setup_of job.program) core.kernel t (asked call payload) e in
        is_on (quiet-holds job rows free lacks watched core s g nothing_lent not_ended t lives (Calls call) payload at clear None false (Some call)
        (it_waits call refl (record { lives = lives; no_write = b.no_write; no_atomic = b.no_atomic; in_table = b.in_table; begun = λ w. blocked-waits (setup_of job.program) core.kernel t (asked call payload) e w })) WasBlocked refl (alike refl).0 (alike refl).1)
    call-holds call payload at (Ends kernel how) e alike =
        is_over (over-holds job rows free lacks watched core s g nothing_lent not_ended t lives (Calls call) payload at clear how kernel (quiet_effect t None false) WasServed refl (λ r c there p. let a = at 0 r there in (
          ended_by kernel how r,
          ends-there call payload at 0 r c there p kernel how e,
          refl,
          turn-here job lacks core.kernel core.output r c p.is p.stops t lives a.0 a.1 (Calls call) a.2 a_call,
          a.0.cpu,
          live-here job lacks core.kernel core.output r c p.is p.stops t lives a.0 a.1 (Calls call) a.2,
        )))

    stop-holds : (stop : Stop) (payload : List ℕ) → ((number : ℕ) (peer : Peer) → slice_get core.peers number ≡ Some peer → StandsAt (ranges_here job core) peer t stop payload) → Alike core t
        → Holds job rows (core_after job.chosen core t (Some stop) (event_of (setup_of job.program) core.kernel t stop payload)) (served_all t (event_steps (event_of (setup_of job.program) core.kernel t stop payload).did) s)
    unfolding event_of
    stop-holds (Calls call) payload at alike = call-holds call payload at (serve (setup_of job.program) core.kernel t (asked call payload)) refl (λ e. alike)
    stop-holds (PageFault page) payload at alike = is_on (quiet-holds job rows free lacks watched core s g nothing_lent not_ended t lives (PageFault page) payload at clear (Some page) true None (it_goes (Some page)) PageBacked refl alike.0 alike.1)
    stop-holds Watchdog payload at alike = is_on (quiet-holds job rows free lacks watched core s g nothing_lent not_ended t lives Watchdog payload at clear None true None (it_goes None) Watch refl alike.0 alike.1)
    stop-holds (Trap code) payload at alike =
        is_over (over-holds job rows free lacks watched core s g nothing_lent not_ended t lives (Trap code) payload at clear (TrapHow code) core.kernel (quiet_effect t None false) Trapped refl (λ r c there p. let a = at 0 r there in (
          record (machine_of core.kernel core.output r) { ended = Some (TrapHow code) },
          step-at job.program (machine_of core.kernel core.output r) t a.0.cpu (live-here job lacks core.kernel core.output r c p.is p.stops t lives a.0 a.1 (Trap code) a.2)
              ∙ ap (step_by job.program (machine_of core.kernel core.output r) t a.0.cpu) (next-here job lacks core.kernel core.output r c p.is p.stops t lives a.0 a.1 (Trap code) a.2 a_trap),
          refl,
          turn-here job lacks core.kernel core.output r c p.is p.stops t lives a.0 a.1 (Trap code) a.2 a_trap,
          a.0.cpu,
          live-here job lacks core.kernel core.output r c p.is p.stops t lives a.0 a.1 (Trap code) a.2,
        )))

  -- ---- the same at a core of which the kernel knows no answers

  module _ (core : Core) (s : Steps) (g : Going job rows core s) (nothing_lent : core.leases ≡ []) (not_ended : core.ended ≡ None) (t : ℕ) (lives : lives_on core.kernel t ≡ true) (stop : Stop) (payload : List ℕ) (at : (number : ℕ) (peer : Peer) → slice_get core.peers number ≡ Some peer → StandsAt (ranges_here job core) peer t stop payload) where
    stopped-there : (number : ℕ) (peer : Peer) → slice_get core.peers number ≡ Some peer → Stopped peer t
    stopped-there number peer e = let a = at number peer e in (a.0, a.1, stop, a.2)

    settled-on : Going job rows (settled core t) s
    settled-on = settled-holds job rows free lacks core s g nothing_lent t lives stopped-there

    settled-alive : lives_on (settled core t).kernel t ≡ true
    settled-alive = settled-lives job rows free lacks core s g nothing_lent t lives stopped-there t ∙ lives

    settled-at : (number : ℕ) (peer : Peer) → slice_get (settled core t).peers number ≡ Some peer → StandsAt (ranges_here job (settled core t)) peer t stop payload
    settled-at number peer e =
        let m : MappedFrom (unanswered t) core.peers number peer = settled-peer core t number peer e in
        let a = at number m.from m.there in
        subst (λ (p : Peer). StandsAt (ranges_here job (settled core t)) p t stop payload) m.gives
        (subst (λ (ranges : List Range). StandsAt ranges (unanswered t m.from) t stop payload) (sym (settled-ranges job rows free lacks core s g nothing_lent t lives stopped-there)) a)

    settled-alike : Alike core t → Alike (settled core t) t
    settled-alike alike = (
      alike.0,
      λ number peer e x there.
          let m : MappedFrom (unanswered t) core.peers number peer = settled-peer core t number peer e in
          alike.1 number m.from m.there x (ap (λ (p : Peer). slice_get p.replica.threads t) m.gives ∙ there),
    )

  -- ---- entries

  none-from : {X : Type 0} (o : Option X) → is_none o ≡ true → o ≡ None
  none-from None e = refl
  none-from (Some x) e = absurd (false≢true e)

  going-parts : (core : Core) → is_going core ≡ true → (core.due ≡ None) × (core.ended ≡ None)
  going-parts core e = let p = and_parts (is_none core.due) (is_none core.ended) e in (none-from core.due p.0, none-from core.ended p.1)

  vote-holds : (core : Core) (s : Steps) (g : Going job rows core s) (t : ℕ) (did : Did) (m : MayVote job core t did) → Holds job rows (after_event job.chosen core t (voted_stop core t) (vote_event job core t)) (served_all t (event_steps did) s)
  vote-holds core s g t did m =
      option_and_then_some (λ peer. option_map (event_with job core t peer) (stop_of peer.replica t)) (slice_get core.peers 0) m.event m.comes (λ peer there comes.
      let at : (number : ℕ) (peer : Peer) → slice_get core.peers number ≡ Some peer → StandsAt (ranges_here job core) peer t m.view.stop m.view.payload = λ number r e. view-parts (ranges_here job core) r t m.view (m.agreed number r e) in
      let alike : Alike core t = (m.view.since, λ number r e x here. view-since (ranges_here job core) r t m.view (m.agreed number r e) x here) in
      let not_ended = (going-parts core m.going).1 in
      let a = at 0 peer there in
      let stop_is : stop_of peer.replica t ≡ Some m.view.stop = ap (option_and_then (λ (x : Thread). x.stop)) a.1 ∙ a.2 in
      let event_is : event_of (setup_of job.program) (kernel_for core t) t m.view.stop m.view.payload ≡ m.event =
      ap (event_of (setup_of job.program) (kernel_for core t) t m.view.stop) (sym a.3)
      ∙ some-injective (sym (ap (option_map (event_with job core t peer)) stop_is) ∙ comes) in
      let voted_is : voted_stop core t ≡ Some m.view.stop = ap (option_and_then (λ (r : Peer). stop_of r.replica t)) there ∙ stop_is in
      let h = stop-holds (settled core t) s (settled-on core s g m.nothing_lent not_ended t m.lives m.view.stop m.view.payload at) m.nothing_lent not_ended t (settled-alive core s g m.nothing_lent not_ended t m.lives m.view.stop m.view.payload at) (settled-none core t) m.view.stop m.view.payload
      (settled-at core s g m.nothing_lent not_ended t m.lives m.view.stop m.view.payload at) (settled-alike core s g m.nothing_lent not_ended t m.lives m.view.stop m.view.payload at alike) in
      let as_event : Holds job rows (core_after job.chosen (settled core t) t (Some m.view.stop) m.event) (served_all t (event_steps m.event.did) s) =
      subst (λ (e : Event). Holds job rows (core_after job.chosen (settled core t) t (Some m.view.stop) e) (served_all t (event_steps e.did) s)) event_is h in
      let as_did : Holds job rows (core_after job.chosen (settled core t) t (Some m.view.stop) m.event) (served_all t (event_steps did) s) =
      subst (λ (d : Did). Holds job rows (core_after job.chosen (settled core t) t (Some m.view.stop) m.event) (served_all t (event_steps d) s)) m.did_is as_event in
      let as_stop : Holds job rows (core_after job.chosen (settled core t) t (voted_stop core t) m.event) (served_all t (event_steps did) s) =
      subst (λ (o : Option Stop). Holds job rows (core_after job.chosen (settled core t) t o m.event) (served_all t (event_steps did) s)) (sym voted_is) as_did in
      subst (λ (o : Option Event). Holds job rows (after_event job.chosen core t (voted_stop core t) o) (served_all t (event_steps did) s)) (sym m.comes) as_stop)

  free-holds : (core : Core) (s : Steps) (g : Going job rows core s) (t : ℕ) (m : MayFree job core t) → Holds job rows (after_event job.chosen core t (option_map Calls (core.blocked t)) (free_event job core t)) (served_all t 1 s)
  free-holds core s g t m = at (core.blocked t) m.is_blocked
    where
      w : IsWaiting core.kernel t m.call
      w = g.waiting t m.call m.is_blocked

      stands : (number : ℕ) (peer : Peer) → slice_get core.peers number ≡ Some peer → StandsAt (ranges_here job core) peer t (Calls m.call) []
      stands number peer e =
          let h = each-get _ core.peers g.copies g.each number peer e in
          let a = h.2.waits t m.call m.is_blocked in
          (a.0, a.1, a.2, no-payload (ranges_here job core) peer.replica.memory m.call w.no_write w.no_atomic)

      not_ended : core.ended ≡ None
      not_ended = (going-parts core m.going).1

      -- a wait that has begun
      waits : IsWaiting (kernel_for core t) t m.call
      waits = (settled-on core s g m.nothing_lent not_ended t w.lives (Calls m.call) [] stands).waiting t m.call m.is_blocked

      called-so : (served : Served) → serve (setup_of job.program) (kernel_for core t) t m.call ≡ served → is_served served ≡ true → Holds job rows (core_after job.chosen (settled core t) t (Some (Calls m.call)) (call_event (kernel_for core t) t m.call [] served)) (served_all t (event_steps (call_event (kernel_for core t) t m.call [] served).did) s)
      called-so served e f =
          subst (λ (xs : List ℕ). Holds job rows (core_after job.chosen (settled core t) t (Some (Calls m.call)) (call_event (kernel_for core t) t m.call xs served)) (served_all t (event_steps (call_event (kernel_for core t) t m.call xs served).did) s)) (put-none m.call.which)
          (call-holds (settled core t) s (settled-on core s g m.nothing_lent not_ended t w.lives (Calls m.call) [] stands) m.nothing_lent not_ended t (settled-alive core s g m.nothing_lent not_ended t w.lives (Calls m.call) [] stands) (settled-none core t) m.call []
          (settled-at core s g m.nothing_lent not_ended t w.lives (Calls m.call) [] stands) served (ap (serve (setup_of job.program) (kernel_for core t) t) (asked-same m.call [] w.no_atomic) ∙ e) (λ k. absurd (true≢false (sym f ∙ k))))

      by : (served : Served) → serve (setup_of job.program) (kernel_for core t) t m.call ≡ served → is_blocked served ≡ false → Holds job rows (core_after job.chosen (settled core t) t (Some (Calls m.call)) (call_event (kernel_for core t) t m.call [] served)) (served_all t 1 s)
      by (Done kernel effect) e f = called-so (Done kernel effect) e refl
      by (Parked kernel) e f = absurd (not-again (setup_of job.program) (kernel_for core t) kernel t m.call waits e)
      by Blocked e f = absurd (true≢false f)
      by (Ends kernel how) e f = called-so (Ends kernel how) e refl

      at : (o : Option Call) → o ≡ Some m.call → Holds job rows (after_event job.chosen core t (option_map Calls o) (option_map (λ call. call_event (kernel_for core t) t call [] (serve (setup_of job.program) (kernel_for core t) t call)) o)) (served_all t 1 s)
      at None e = absurd (let h : None ≡ Some m.call = e in cc)
      at (Some call) e =
          subst (λ (c : Call). Holds job rows (after_event job.chosen core t (Some (Calls c)) (Some (call_event (kernel_for core t) t c [] (serve (setup_of job.program) (kernel_for core t) t c)))) (served_all t 1 s)) (sym (some-injective e))
          (by (serve (setup_of job.program) (kernel_for core t) t m.call) refl m.frees)

  end-on : (core : Core) (s : Steps) (g : Going job rows core s) (how : How) → (core.due ≡ Some how) ⊎ ((core.due ≡ None) × (is_outcome how ≡ false)) → Going job rows (record core { due = None; ended = Some how }) s
  end-on core s g how e = record {
    common = g.common;
    copies = g.copies;
    runs = g.runs;
    each = g.each;
    waiting = g.waiting;
    lent = g.lent;
    not_due = refl;
    no_outcome = λ w k. ap is_outcome (sym (some-injective k)) ∙ ⊎_elim (λ (d : core.due ≡ Some how). absurd (let h : None ≡ Some how = sym g.not_due ∙ d in cc)) (λ (d : (core.due ≡ None) × (is_outcome how ≡ false)). d.1) e;
  }

  stopped-not : (core : Core) → is_going core ≡ false → is_going core ≡ true → ⊥
  stopped-not core e f = false≢true (sym e ∙ f)

  end-over : (core : Core) (s : Steps) (o : Over job rows core s) (how : How) → core.ended ≡ None → (core.due ≡ Some how) ⊎ ((core.due ≡ None) × (is_outcome how ≡ false)) → Over job rows (record core { due = None; ended = Some how }) s
  end-over core s o how none e = record {
    machine = o.machine;
    reached = o.reached;
    output = o.output;
    nothing_lent = o.nothing_lent;
    stopped = refl;
    how = o.how;
    over = o.over;
    due = λ w k. absurd (let h : None ≡ Some w = k in cc);
    in_rows = o.in_rows;
    ended = λ w k. sym (some-injective k) ∙ ⊎_elim (λ (d : core.due ≡ Some how). o.due how d)
        (λ (d : (core.due ≡ None) × (is_outcome how ≡ false)). absurd (stopped-not core o.stopped (ap₂ (λ (a : Option How) (b : Option How). is_none a && is_none b) d.0 none))) e;
  }

  pub entry-holds : (core : Core) (s : Steps) (entry : Entry) → Holds job rows core s → IsAllowed job rows core entry → Holds job rows (after job rows core entry) (steps_after s entry)
  entry-holds core s (Take lease) (is_on g) m = is_on (take-holds job rows core s g lease m)
  entry-holds core s (Put lease n hit) (is_on g) m = is_on (put-holds job rows core s g free lacks lease n hit m)
  entry-holds core s (Vote t count won lost did) (is_on g) m = vote-holds core s g t did m
  entry-holds core s (Free t) (is_on g) m = free-holds core s g t m
  entry-holds core s (Part lease n hit) h m = absurd m
  entry-holds core s (Scrub won lost) h m = absurd m
  entry-holds core s (End how) (is_on g) m = is_on (end-on core s g how m.1)
  entry-holds core s (Take lease) (is_over o) m = absurd (stopped-not core o.stopped m.going)
  entry-holds core s (Put lease n hit) (is_over o) m = absurd (none-out core.leases o.nothing_lent m.out)
    where
      none-out : (leases : List Lease) → leases ≡ [] → list_any (is_lease lease) leases ≡ true → ⊥
      none-out leases e f = false≢true (ap (list_any (is_lease lease)) (sym e) ∙ f)
  entry-holds core s (Vote t count won lost did) (is_over o) m = absurd (stopped-not core o.stopped m.going)
  entry-holds core s (Free t) (is_over o) m = absurd (stopped-not core o.stopped m.going)
  entry-holds core s (End how) (is_over o) m = is_over (end-over core s o how m.0 m.1)

  journal-holds : (core : Core) (s : Steps) (journal : List Entry) → Holds job rows core s → LegalFrom job rows core journal → Holds job rows (core_behind job rows core journal) (steps_from s journal)
  journal-holds core s [] h legal = h
  journal-holds core s (entry ∷ journal) h legal = journal-holds (after job rows core entry) (steps_after s entry) journal (entry-holds core s entry h legal.0) legal.1

  -- ---- the opening

  abbrev no_steps : Steps
  no_steps = record { taken = λ r. []; first = [] }

  abbrev common_opening : Common
  common_opening = record { backed = (opening_peer job.program).replica.backed; base = λ u. 0 }

  tied-opening : (n : ℕ) → Tied job common_opening (opening_kernel job.program.image.heap) [] (λ t. None) (λ r. []) n (opening_peer job.program) (opening_copy job.program)
  unfolding opening opening_replica
  tied-opening n = record {
    is = record {
      machine_is = refl;
      ranks = λ m x e. absurd (let f : None ≡ Some x = e in cc);
      fresh = λ m e. refl;
      all = tt;
      complete = λ a e. absurd (false≢true (job.chosen.inside (opening_kernel job.program.image.heap) a e));
      all_made = refl;
    };
    taken_is = refl;
    stops = λ number thread stop any alive there stopped. absurd (none-stopped number thread there stop stopped);
    waits = λ t call e. absurd (let f : None ≡ Some call = e in cc);
    backed_is = refl;
    counted = λ u x there. (is-none x.since (none-since u x there), none-below x.since job.settings.watchdog (none-since u x there));
    unmade = λ u e. (refl, refl);
  }
    where
      is-none : (n : ℕ) → n ≡ 0 → 0 ≡ 0 + n
      is-none n e = omega arith

      none-below : (n w : ℕ) → n ≡ 0 → n < suc w
      none-below n w e = omega arith

      none-since : (number : ℕ) (thread : Thread) → slice_get (opening_peer job.program).replica.threads number ≡ Some thread → thread.since ≡ 0
      none-since zero thread e = ap (λ (x : Thread). x.since) (some-injective (sym e))
      none-since (suc i) thread e = absurd (let h : None ≡ Some thread = e in cc)

      none-stopped : (number : ℕ) (thread : Thread) → slice_get (opening_peer job.program).replica.threads number ≡ Some thread → (stop : Stop) → thread.stop ≡ Some stop → ⊥
      none-stopped zero thread e stop f = let h : None ≡ Some stop = ap (λ (x : Thread). x.stop) (some-injective e) ∙ f in cc
      none-stopped (suc i) thread e stop f = let h : None ≡ Some thread = e in cc

  each-opening : (n : ℕ) → Each (Tied job common_opening (opening_kernel job.program.image.heap) [] (λ t. None) (λ r. [])) (replicate n (opening_peer job.program)) (replicate n (opening_copy job.program))
  each-opening n = from n (λ i. i)
    where
      from : (n : ℕ) (f : ℕ → ℕ) → Each (λ i. Tied job common_opening (opening_kernel job.program.image.heap) [] (λ t. None) (λ r. []) (f i)) (replicate n (opening_peer job.program)) (replicate n (opening_copy job.program))
      from zero f = tt
      from (suc n) f = (tied-opening (f 0), from n (λ i. f (suc i)))

  pub opening-holds : (n : ℕ) → job.settings.replicas ≡ suc n → Going job rows (opening_core job) no_steps
  opening-holds n e = record {
    common = common_opening;
    copies = replicate (suc n) (opening_copy job.program);
    runs = at_opening n;
    each = subst (λ (k : ℕ). Each (Tied job common_opening (opening_kernel job.program.image.heap) [] (λ t. None) (λ r. [])) (replicate k (opening_peer job.program)) (replicate (suc n) (opening_copy job.program))) (sym e) (each-opening (suc n));
    waiting = λ t call k. absurd (let f : None ≡ Some call = k in cc);
    lent = tt;
    not_due = refl;
    no_outcome = λ how k. absurd (let f : None ≡ Some how = k in cc);
  }

  -- ---- what it comes to

  sound : (core : Core) (s : Steps) → Holds job rows core s → IsSound job rows s.first core
  sound core s (is_on g) =
      let f = runs-first job.program job.chosen free lacks g.common.backed rows g.runs in
      let h = each-back _ core.peers g.copies g.each 0 f.some_copy.0 f.some_copy.1 in
      record {
        machine = f.machine;
        reached = f.reached;
        output = sym (output-alike job.program job.chosen free lacks g.common.backed rows g.copies s.first f 0 f.some_copy.0 f.some_copy.1) ∙ ap (λ (m : Machine). m.output) h.2.is.machine_is;
        goes_on = λ d e. f.goes_on;
        ends = λ how k e. absurd (true≢false (sym k ∙ g.no_outcome how e));
        in_rows = f.in_rows;
      }
  sound core s (is_over o) = record {
    machine = o.machine;
    reached = o.reached;
    output = o.output;
    goes_on = λ d e. absurd (stopped-not core o.stopped (ap₂ (λ (a : Option How) (b : Option How). is_none a && is_none b) d e));
    ends = λ how k e. o.over ∙ ap Some (sym (o.ended how e));
    in_rows = o.in_rows;
  }

  pub legal-sound : (n : ℕ) → job.settings.replicas ≡ suc n → (journal : List Entry) → LegalFrom job rows (opening_core job) journal → IsSound job rows (first_of journal) (core_behind job rows (opening_core job) journal)
  legal-sound n e journal legal = sound (core_behind job rows (opening_core job) journal) (steps_from no_steps journal) (journal-holds (opening_core job) no_steps journal (is_on (opening-holds n e)) legal)

  -- where it goes on
  pub still-on : (core : Core) (s : Steps) → Holds job rows core s → is_going core ≡ true → Going job rows core s
  still-on core s (is_on g) e = g
  still-on core s (is_over o) e = absurd (stopped-not core o.stopped e)

  along : (n : ℕ) → job.settings.replicas ≡ suc n → (journal : List Entry) → LegalFrom job rows (opening_core job) journal → Holds job rows (core_behind job rows (opening_core job) journal) (steps_from no_steps journal)
  along n e journal legal = journal-holds (opening_core job) no_steps journal (is_on (opening-holds n e)) legal

  pub legal-views : (n : ℕ) → job.settings.replicas ≡ suc n → (journal : List Entry) → LegalFrom job rows (opening_core job) journal → is_going (core_behind job rows (opening_core job) journal) ≡ true → (t : ℕ) → lives_on (core_behind job rows (opening_core job) journal).kernel t ≡ true
      → ((i : ℕ) (peer : Peer) → slice_get (core_behind job rows (opening_core job) journal).peers i ≡ Some peer → Stopped peer t)
      → (i j : ℕ) (one other : Peer) → slice_get (core_behind job rows (opening_core job) journal).peers i ≡ Some one → slice_get (core_behind job rows (opening_core job) journal).peers j ≡ Some other
      → view_of (ranges_here job (core_behind job rows (opening_core job) journal)) t one.replica ≡ view_of (ranges_here job (core_behind job rows (opening_core job) journal)) t other.replica
  legal-views n e journal legal going t lives stopped =
      views-alike job rows free lacks (core_behind job rows (opening_core job) journal) (steps_from no_steps journal) (still-on (core_behind job rows (opening_core job) journal) (steps_from no_steps journal) (along n e journal legal) going) t lives stopped

  -- and all leave the same of the thread's reservation
  pub legal-lapse : (n : ℕ) → job.settings.replicas ≡ suc n → (journal : List Entry) → LegalFrom job rows (opening_core job) journal → is_going (core_behind job rows (opening_core job) journal) ≡ true → (core_behind job rows (opening_core job) journal).leases ≡ []
      → (t : ℕ) → lives_on (core_behind job rows (opening_core job) journal).kernel t ≡ true → ((i : ℕ) (peer : Peer) → slice_get (core_behind job rows (opening_core job) journal).peers i ≡ Some peer → Stopped peer t)
      → (i j : ℕ) (one other : Peer) → slice_get (core_behind job rows (opening_core job) journal).peers i ≡ Some one → slice_get (core_behind job rows (opening_core job) journal).peers j ≡ Some other
      → kept_one (one.answered t) (reservation_of (core_behind job rows (opening_core job) journal).kernel.reserved t) ≡ kept_one (other.answered t) (reservation_of (core_behind job rows (opening_core job) journal).kernel.reserved t)
  legal-lapse n e journal legal going alone t lives stopped =
      reserved-alike job rows free lacks (core_behind job rows (opening_core job) journal) (steps_from no_steps journal) (still-on (core_behind job rows (opening_core job) journal) (steps_from no_steps journal) (along n e journal legal) going) alone t lives stopped

  pub legal-stuck : (n : ℕ) → job.settings.replicas ≡ suc n → (journal : List Entry) → LegalFrom job rows (opening_core job) journal → IsStuck job rows (core_behind job rows (opening_core job) journal)
      → (machine : Machine) → run job.program (opening job.program) (first_of journal) ≡ Some machine → (machine.ended ≡ None) × ((t : ℕ) (after : Machine) → step job.program machine t ≡ Some after → ⊥)
  legal-stuck n e journal legal stuck machine reached =
      let core = core_behind job rows (opening_core job) journal in
      let s = steps_from no_steps journal in
      let g = still-on core s (along n e journal legal) stuck.going in
      let f = runs-first job.program job.chosen free lacks g.common.backed rows g.runs in
      let same : machine ≡ f.machine = some-injective (sym reached ∙ f.reached) in
      (ap (λ (m : Machine). m.ended) same ∙ f.goes_on, λ t after steps. no-step job rows free lacks core s g stuck t after (ap (λ (m : Machine). step job.program m t) (sym same) ∙ steps))
