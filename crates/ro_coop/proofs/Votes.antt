-- What holds behind a vote or a free: a served call, one that blocks, an event that serves none, and one that ends the program.
use Rattle.std.specs.Prelude.{◌≡◌, ◌≢◌, ℕ, suc, ◌+◌, Bool, true, false, cond, List, [], ◌∷◌, ◌++◌, map, replicate, Option, Some, None, ◌==◌, if◌then◌else◌, slice_get}
use Rattle.std.proofs.Common.{refl, sym, ap, ◌∙◌, subst, append-nil}
use Rattle.std.proofs.lemmas.Bool.{true≢false, eqb-true, eq-eqb}
use Rattle.ro_event.specs.declared.calls.Call.{Call}
use Rattle.ro_event.specs.declared.stops.Stop.{Stop}
use Rattle.ro_event.specs.declared.stops.Stop.TheVariants.{Calls}
use Rattle.ro_event.specs.Effects.{Effect}
use Rattle.ro_journal.specs.declared.Did.{Did}
use Rattle.ro_journal.specs.declared.How.{How}
use Rattle.ro_journal.specs.Plan.{event_steps}
use Rattle.std.specs.Option.{option_map_or}
use Rattle.ro_exec.specs.declared.Cpu.{Cpu}
use Rattle.ro_exec.specs.Next.{Backed}
use Rattle.ro_exec.proofs.Backing.{a_call}
use Rattle.ro_kernel.specs.Kernel.{Kernel, lives_on}
use Rattle.ro_region.specs.declared.Range.{Range}
use Rattle.ro_kernel.specs.Serve.{Done, serve, payload_of, put_out, asked}
use Rattle.ro_kernel.proofs.InTable.{table-lasts, owners-after}
use Rattle.ro_kernel.proofs.Waiting.{served-others}
use Rattle.ro_kernel.proofs.Kept.{Own, done, IsOwn, serve-own}
use Rattle.ro_thread.specs.declared.Thread.{Thread}
use Rattle.ro_replica.specs.Replica.{applied, cancelled}
use Rattle.ro_replica.specs.Views.{payload_at}
use Rattle.ro_plain.specs.Machine.{setup_of, Machine, opening, next_of, steppable, step, run}
use Rattle.ro_plain.specs.Order.{RaceFree}
use Rattle.ro_plain.proofs.Calls.{some-injective}
use Rattle.ro_simulation.proofs.Effects.{more-after}
use Rattle.ro_legal.proofs.Effects.{backed_after}
use Rattle.ro_legal.specs.Event.{Event, quiet_effect, call_event}
use Rattle.ro_legal.proofs.Served.{IsTidy, Tidy, tidy_done, serve-tidy}
use Rattle.ro_orders.specs.Turns.{Turn, Serves, turn_of, OfMutex, who_takes, order_of, times, TakesByLocks}
use Rattle.ro_orders.specs.Copies.{Copy, Rows, IsServed, Runs, then_served, IsFirst}
use Rattle.ro_orders.proofs.Owners.{differs}
use Rattle.ro_orders.proofs.Copies.{order-append, serves-along, served-not-behind, runs-first}
use Rattle.ro_orders.proofs.Stands.{count-first, ends-alike}
use Rattle.ro_orders.proofs.Attained.{runs-more}
use Rattle.ro_peer.specs.declared.mutexes.Mutex.{Mutex}
use Rattle.ro_peer.specs.Peers.{Peer, machine_of}
use Rattle.ro_peer.specs.Gets.{is_own_call}
use Rattle.ro_coop.specs.Core.{Job, Core, ranges_here, entered_by, peer_after_event, core_after, Steps, served_all}
use Rattle.ro_coop.proofs.Puts.{IsCopy}
use Rattle.ro_coop.proofs.Standing.{not-own, next-here, live-here, turn-here}
use Rattle.ro_coop.proofs.Entered.{entered-none}
use Rattle.ro_coop.proofs.Events.{copy_after, is-served, copy-served, stops-served}
use Rattle.ro_coop.proofs.Quiet.{copy-quiet, stops-quiet}
use Rattle.ro_coop.proofs.Blocked.{entered-not, not-own-after, other-at-call, own-at-call}
use Rattle.ro_coop.proofs.Counts.{Counted, Unmade, count-other, count-own, counted-after, unmade-after}
use Rattle.ro_coop.proofs.Lists.{Each, each-back, each-map, each-served, ServedAll}
use Rattle.ro_coop.proofs.Holds.{AtCall, Common, Tied, IsWaiting, AllLent, Going, Over}

-- the thread stands at the stop, about to write these bytes
abbrev pub StandsAt : List Range → Peer → (t : ℕ) → Stop → (payload : List ℕ) → Type 0
StandsAt ranges peer t stop payload =
    (x : Thread) × (slice_get peer.replica.threads t ≡ Some x) × (x.stop ≡ Some stop) × (payload_at ranges peer.replica.memory stop ≡ payload)

-- what comes of the thread's own blocking: it goes on, or it waits at its call
pub data Left (stop : Stop) (kernel : Kernel) (t : ℕ) : Option ℕ → Bool → Option Call → Type 0 where
  it_goes : (page : Option ℕ) → Left stop kernel t page true None
  it_waits : (call : Call) → stop ≡ Calls call → IsWaiting kernel t call → Left stop kernel t None false (Some call)

-- the thread's own, or another's
data WhoWaits (t u : ℕ) (b : Option Call) (blocked : ℕ → Option Call) (call : Call) : Type 0 where
  its_own_call : u ≡ t → b ≡ Some call → WhoWaits t u b blocked call
  of_another : u ≢ t → blocked u ≡ Some call → WhoWaits t u b blocked call

who-waits : (t u : ℕ) (b : Option Call) (blocked : ℕ → Option Call) (call : Call) → (if u == t then b else blocked u) ≡ Some call → WhoWaits t u b blocked call
who-waits t u b blocked call e = by (u == t) refl e
  where
    by : (c : Bool) → (u == t) ≡ c → cond c b (blocked u) ≡ Some call → WhoWaits t u b blocked call
    by true q f = its_own_call (eqb-true u t q) f
    by false q f = of_another (λ s. true≢false (sym (eq-eqb u t s) ∙ q)) f

-- all peers back the same pages
backed-is : (effect : Effect) (entered : List Mutex) (peer : Peer) (backed : Backed) → peer.replica.backed ≡ backed → (peer_after_event effect entered peer).replica.backed ≡ backed_after effect backed
unfolding applied cancelled
backed-is effect entered peer backed e = ap (backed_after effect) e

module _ (job : Job) (rows : Rows) (free : RaceFree job.program) (lacks : TakesByLocks job.program job.chosen) (watched : (0 == job.settings.watchdog) ≡ false) (core : Core) (s : Steps) (g : Going job rows core s) (nothing_lent : core.leases ≡ []) (not_ended : core.ended ≡ None) (t : ℕ) (lives : lives_on core.kernel t ≡ true) (stop : Stop) (payload : List ℕ) (at : (number : ℕ) (peer : Peer) → slice_get core.peers number ≡ Some peer → StandsAt (ranges_here job core) peer t stop payload) (clear : (number : ℕ) (peer : Peer) → slice_get core.peers number ≡ Some peer → peer.answered t ≡ false) where
  reached : (n : ℕ) (c : Copy) → slice_get g.copies n ≡ Some c → run job.program (opening job.program) c.taken ≡ Some c.machine
  reached n c e = ((runs-first job.program job.chosen free lacks g.common.backed rows g.runs).behind n c e).reached

  -- another thread's blocked call is none that a peer answers
  other-not-own : (n : ℕ) (r : Peer) (c : Copy) → Tied job g.common core.kernel core.output core.blocked s.taken n r c → (u : ℕ) (call : Call) → core.blocked u ≡ Some call → is_own_call r.mutexes (Calls call) ≡ false
  other-not-own n r c p u call e =
      let w = p.waits u call e in
      not-own job lacks core.kernel core.output r c p.is p.stops u (g.waiting u call e).lives w.0 w.1 (Calls call) w.2

  -- ---- a call that is served

  module _ (call : Call) (is_call : stop ≡ Calls call) (after : Kernel) (effect : Effect) (served : serve (setup_of job.program) core.kernel t (asked call payload) ≡ Done after effect) where
    own : IsOwn core.kernel t after effect
    own = its (subst (Own core.kernel t) served (serve-own (setup_of job.program) core.kernel t (asked call payload)))
      where
        its : Own core.kernel t (Done after effect) → IsOwn core.kernel t after effect
        its (done h) = h

    tidy : IsTidy core.kernel t after effect
    tidy = its (subst (Tidy core.kernel t) served (serve-tidy (setup_of job.program) core.kernel t (asked call payload)))
      where
        its : Tidy core.kernel t (Done after effect) → IsTidy core.kernel t after effect
        its (tidy_done h) = h

    abbrev entered : List Mutex
    entered = entered_by job.chosen core.kernel after (Some (Calls call))

    abbrev blocked_then : ℕ → Option Call
    blocked_then = λ u. if u == t then None else core.blocked u

    abbrev taken_then : ℕ → List ℕ
    taken_then = λ r. s.taken r ++ replicate 1 t

    abbrev common_then : Common
    common_then = record { backed = backed_after effect g.common.backed; base = λ u. if u == t then suc (times t s.first) else g.common.base u }

    first-count : (n : ℕ) (r : Peer) (c : Copy) → slice_get g.copies n ≡ Some c → Tied job g.common core.kernel core.output core.blocked s.taken n r c → (x : Thread) → slice_get r.replica.threads t ≡ Some x → x.stop ≡ Some (Calls call) → times t s.first ≡ times t c.taken
    first-count n r c k p x there stopped =
        let f = runs-first job.program job.chosen free lacks g.common.backed rows g.runs in
        count-first job.program job.chosen free lacks g.common.backed s.first f.machine f.goes_on c (f.behind n c k) t x.cpu (Calls call)
        (ap (λ (m : Machine). steppable m t) p.is.machine_is ∙ live-here job lacks core.kernel core.output r c p.is p.stops t lives x there (Calls call) stopped)
        (ap (λ (m : Machine). next_of job.program m x.cpu) p.is.machine_is ∙ next-here job lacks core.kernel core.output r c p.is p.stops t lives x there (Calls call) stopped a_call)
        (ap (λ (m : Machine). turn_of job.program job.chosen m t) p.is.machine_is ∙ turn-here job lacks core.kernel core.output r c p.is p.stops t lives x there (Calls call) stopped a_call)

    module _ (n : ℕ) (r : Peer) (c : Copy) (k : slice_get g.copies n ≡ Some c) (p : Tied job g.common core.kernel core.output core.blocked s.taken n r c) (x : Thread) (there : slice_get r.replica.threads t ≡ Some x) (stopped : x.stop ≡ Some (Calls call)) where
      its-count : times t (c.taken ++ t ∷ []) ≡ common_then.base t
      its-count =
          count-own t c.taken ∙ (ap suc (sym (first-count n r c k p x there stopped))
          ∙ sym (ap (λ (b : Bool). cond b (suc (times t s.first)) (g.common.base t)) (eq-eqb t t refl)))

      counted-then : Counted job.settings.watchdog (λ u. times u (c.taken ++ t ∷ [])) common_then.base (peer_after_event effect entered r).replica.threads
      counted-then = counted-after effect entered r t x there (record { thread_is = own.thread_is; creator_is = own.creator_is }) job.settings.watchdog (λ u. times u c.taken) (λ u. times u (c.taken ++ t ∷ [])) g.common.base common_then.base
          (λ u d. count-other t u c.taken d) (λ u d. ap (λ (b : Bool). cond b (suc (times t s.first)) (g.common.base u)) (differs u t d)) its-count p.counted p.unmade

      unmade-then : Unmade (λ u. times u (c.taken ++ t ∷ [])) common_then.base (peer_after_event effect entered r).replica.threads
      unmade-then = unmade-after effect entered r t x there (record { thread_is = own.thread_is; creator_is = own.creator_is }) job.settings.watchdog (λ u. times u c.taken) (λ u. times u (c.taken ++ t ∷ [])) g.common.base common_then.base
          (λ u d. count-other t u c.taken d) (λ u d. ap (λ (b : Bool). cond b (suc (times t s.first)) (g.common.base u)) (differs u t d)) its-count p.counted p.unmade

    waits-then : (n : ℕ) (r : Peer) (c : Copy) → Tied job g.common core.kernel core.output core.blocked s.taken n r c → (u : ℕ) (other : Call) → blocked_then u ≡ Some other → AtCall (peer_after_event effect entered r) u other
    waits-then n r c p u other e = by (who-waits t u None core.blocked other e)
      where
        by : WhoWaits t u None core.blocked other → AtCall (peer_after_event effect entered r) u other
        by (its_own_call same f) = absurd (let h : None ≡ Some other = f in cc)
        by (of_another different f) =
            let w = p.waits u other f in
            other-at-call effect entered r u other
            (not-own-after r.mutexes entered other (λ k. entered-not job.chosen job.one_enters (setup_of job.program) core.kernel after t (asked call payload) effect served other.a0 ((g.waiting u other f).in_table k)) (other-not-own n r c p u other f))
            w.0 (λ q. different (q ∙ own.thread_is)) w.1 w.2

    abbrev written : List ℕ
    written = put_out call.which payload

    one : (n : ℕ) (r : Peer) (c : Copy) → slice_get core.peers n ≡ Some r → slice_get g.copies n ≡ Some c → Tied job g.common core.kernel core.output core.blocked s.taken n r c
        → (later : Copy) × IsServed job.program job.chosen t c later × Tied job common_then after (core.output ++ written) blocked_then taken_then n (peer_after_event effect entered r) later
    one n r c e k p =
        let a = at n r e in
        let stopped : a.0.stop ≡ Some (Calls call) = a.2 ∙ ap Some is_call in
        let none = clear n r e in
        let reads : payload_of (ranges_here job core) r.replica.memory call ≡ payload = ap (payload_at (ranges_here job core) r.replica.memory) (sym is_call) ∙ a.3 in (
          copy_after job free lacks core.kernel core.output r c p.is p.stops (reached n c k) t lives a.0 a.1 call stopped none payload reads after effect served own tidy,
          is-served job free lacks core.kernel core.output r c p.is p.stops (reached n c k) t lives a.0 a.1 call stopped none payload reads after effect served own tidy,
          record {
            is = copy-served job free lacks core.kernel core.output r c p.is p.stops (reached n c k) t lives a.0 a.1 call stopped none payload reads after effect served own tidy;
            taken_is = ap (λ (xs : List ℕ). xs ++ t ∷ []) p.taken_is;
            stops = stops-served job free lacks core.kernel core.output r c p.is p.stops (reached n c k) t lives a.0 a.1 call stopped none payload reads after effect served own tidy;
            waits = waits-then n r c p;
            backed_is = backed-is effect entered r g.common.backed p.backed_is;
            counted = counted-then n r c k p a.0 a.1 stopped;
            unmade = unmade-then n r c k p a.0 a.1 stopped;
          },
        )

    waiting-then : (u : ℕ) (other : Call) → blocked_then u ≡ Some other → IsWaiting after u other
    waiting-then u other e = by (who-waits t u None core.blocked other e)
      where
        by : WhoWaits t u None core.blocked other → IsWaiting after u other
        by (its_own_call same f) = absurd (let h : None ≡ Some other = f in cc)
        by (of_another different f) =
            let w = g.waiting u other f in
            record { lives = own.keeps_live u different w.lives; no_write = w.no_write; no_atomic = w.no_atomic; in_table = λ k. table-lasts core.kernel (asked call payload) other.a0 _ (owners-after (setup_of job.program) core.kernel t (asked call payload)) after effect served (w.in_table k); begun = λ k. served-others (setup_of job.program) core.kernel t (asked call payload) after effect served u different ∙ w.begun k }

    pub served-holds : Going job rows (core_after job.chosen core t (Some (Calls call)) (call_event core.kernel t call written (Done after effect))) (served_all t 1 s)
    served-holds =
        let all : ServedAll job.program job.chosen t (Tied job common_then after (core.output ++ written) blocked_then taken_then) (peer_after_event effect entered) core.peers g.copies = each-served job.program job.chosen t _ _ (peer_after_event effect entered) core.peers g.copies g.each one in
        record {
          common = common_then;
          copies = all.afters;
          runs = then_served (runs-more job.program job.chosen rows g.common.backed common_then.backed (more-after effect g.common.backed) g.runs) t all.all;
          each = all.each;
          waiting = waiting-then;
          lent = subst (AllLent after blocked_then) (sym nothing_lent) tt;
          not_due = refl;
          no_outcome = g.no_outcome;
        }

  -- ---- an event that serves none

  module _ (page : Option ℕ) (releases : Bool) (b : Option Call) (left : Left stop core.kernel t page releases b) (did : Did) (adds_none : event_steps did ≡ 0) (since : ℕ) (alike : (n : ℕ) (r : Peer) → slice_get core.peers n ≡ Some r → (x : Thread) → slice_get r.replica.threads t ≡ Some x → x.since ≡ since) where
    abbrev quiet : Event
    quiet = record { did = did; kernel = core.kernel; effect = quiet_effect t page releases; payload = []; blocked = b; due = None }

    abbrev blocked_now : ℕ → Option Call
    blocked_now = λ u. if u == t then b else core.blocked u

    abbrev common_now : Common
    common_now = record { backed = backed_after (quiet_effect t page releases) g.common.backed; base = λ u. if u == t then g.common.base t + since else g.common.base u }

    its-now : (n : ℕ) (r : Peer) (c : Copy) → slice_get core.peers n ≡ Some r → Tied job g.common core.kernel core.output core.blocked s.taken n r c → (x : Thread) → slice_get r.replica.threads t ≡ Some x → times t c.taken ≡ common_now.base t
    its-now n r c e p x there =
        (p.counted t x there).0 ∙ (ap (λ (k : ℕ). g.common.base t + k) (alike n r e x there)
        ∙ sym (ap (λ (z : Bool). cond z (g.common.base t + since) (g.common.base t)) (eq-eqb t t refl)))

    at-call : (x : Thread) → x.stop ≡ Some stop → releases ≡ false → (call : Call) × (x.stop ≡ Some (Calls call))
    at-call x e f = by left f
      where
        by : {o : Option ℕ} {c : Bool} {w : Option Call} → Left stop core.kernel t o c w → c ≡ false → (call : Call) × (x.stop ≡ Some (Calls call))
        by (it_goes o) h = absurd (true≢false h)
        by (it_waits call is w) h = (call, e ∙ ap Some is)

    waits-bare : (n : ℕ) (r : Peer) (c : Copy) → slice_get core.peers n ≡ Some r → Tied job g.common core.kernel core.output core.blocked s.taken n r c → (u : ℕ) (other : Call) → blocked_now u ≡ Some other → AtCall (peer_after_event (quiet_effect t page releases) [] r) u other
    waits-bare n r c e p u other f = by (who-waits t u b core.blocked other f)
      where
        a : StandsAt (ranges_here job core) r t stop payload
        a = at n r e

        here : (call : Call) → stop ≡ Calls call → AtCall (peer_after_event (quiet_effect t None false) [] r) t call
        here call is =
            own-at-call r t a.0 call (not-own job lacks core.kernel core.output r c p.is p.stops t lives a.0 a.1 (Calls call) (a.2 ∙ ap Some is)) a.1 (a.2 ∙ ap Some is)

        own-by : {o : Option ℕ} {k : Bool} {w : Option Call} → Left stop core.kernel t o k w → w ≡ Some other → AtCall (peer_after_event (quiet_effect t o k) [] r) t other
        own-by (it_goes o) h = absurd (let i : None ≡ Some other = h in cc)
        own-by (it_waits call is w) h = subst (λ (z : Call). AtCall (peer_after_event (quiet_effect t None false) [] r) t z) (some-injective h) (here call is)

        by : WhoWaits t u b core.blocked other → AtCall (peer_after_event (quiet_effect t page releases) [] r) u other
        by (its_own_call same h) = subst (λ (i : ℕ). AtCall (peer_after_event (quiet_effect t page releases) [] r) i other) (sym same) (own-by left h)
        by (of_another different h) =
            let w = p.waits u other h in
            other-at-call (quiet_effect t page releases) [] r u other (ap (λ (ms : List Mutex). is_own_call ms (Calls other)) (append-nil r.mutexes) ∙ other-not-own n r c p u other h) w.0 different w.1 w.2

    abbrev taken_now : ℕ → List ℕ
    taken_now = λ r. s.taken r ++ replicate 0 t

    tied-now : (n : ℕ) (r : Peer) (c : Copy) → slice_get core.peers n ≡ Some r → slice_get g.copies n ≡ Some c → Tied job g.common core.kernel core.output core.blocked s.taken n r c → Tied job common_now core.kernel (core.output ++ []) blocked_now taken_now n (peer_after_event (quiet_effect t page releases) [] r) c
    tied-now n r c e k p =
        let a = at n r e in
        record {
          is = subst (λ (o : List ℕ). IsCopy job core.kernel o (peer_after_event (quiet_effect t page releases) [] r) c) (sym (append-nil core.output)) (copy-quiet job core.kernel core.output r c p.is p.stops t page releases);
          taken_is = p.taken_is ∙ sym (append-nil (s.taken n));
          stops = stops-quiet job core.kernel core.output r c p.is p.stops t page releases watched lives a.0 a.1 (at-call a.0 a.2);
          waits = waits-bare n r c e p;
          backed_is = backed-is (quiet_effect t page releases) [] r g.common.backed p.backed_is;
          counted = counted-after (quiet_effect t page releases) [] r t a.0 a.1 (record { thread_is = refl; creator_is = λ made (f : None ≡ Some made). absurd cc }) job.settings.watchdog (λ u. times u c.taken) (λ u. times u c.taken) g.common.base common_now.base
              (λ u d. refl) (λ u d. ap (λ (z : Bool). cond z (g.common.base t + since) (g.common.base u)) (differs u t d)) (its-now n r c e p a.0 a.1) p.counted p.unmade;
          unmade = unmade-after (quiet_effect t page releases) [] r t a.0 a.1 (record { thread_is = refl; creator_is = λ made (f : None ≡ Some made). absurd cc }) job.settings.watchdog (λ u. times u c.taken) (λ u. times u c.taken) g.common.base common_now.base
              (λ u d. refl) (λ u d. ap (λ (z : Bool). cond z (g.common.base t + since) (g.common.base u)) (differs u t d)) (its-now n r c e p a.0 a.1) p.counted p.unmade;
        }

    waiting-now : (u : ℕ) (other : Call) → blocked_now u ≡ Some other → IsWaiting core.kernel u other
    waiting-now u other e = by (who-waits t u b core.blocked other e)
      where
        own-by : {o : Option ℕ} {k : Bool} {w : Option Call} → Left stop core.kernel t o k w → w ≡ Some other → IsWaiting core.kernel t other
        own-by (it_goes o) h = absurd (let i : None ≡ Some other = h in cc)
        own-by (it_waits call is w) h = subst (IsWaiting core.kernel t) (some-injective h) w

        by : WhoWaits t u b core.blocked other → IsWaiting core.kernel u other
        by (its_own_call same f) = subst (λ (i : ℕ). IsWaiting core.kernel i other) (sym same) (own-by left f)
        by (of_another different f) = g.waiting u other f

    pub quiet-holds : Going job rows (core_after job.chosen core t (Some stop) quiet) (served_all t (event_steps did) s)
    quiet-holds =
        subst (λ (n : ℕ). Going job rows (core_after job.chosen core t (Some stop) quiet) (served_all t n s)) (sym adds_none)
        (record {
          common = common_now;
          copies = g.copies;
          runs = subst (Runs job.program job.chosen common_now.backed rows g.copies) (sym (append-nil s.first)) (runs-more job.program job.chosen rows g.common.backed common_now.backed (more-after (quiet_effect t page releases) g.common.backed) g.runs);
          each =
              subst (λ (ms : List Mutex). Each (Tied job common_now core.kernel (core.output ++ []) blocked_now taken_now) (map (peer_after_event (quiet_effect t page releases) ms) core.peers) g.copies) (sym (entered-none job.chosen core.kernel (Some stop)))
              (each-map _ _ (peer_after_event (quiet_effect t page releases) []) core.peers g.copies g.each tied-now);
          waiting = waiting-now;
          lent = subst (AllLent core.kernel blocked_now) (sym nothing_lent) tt;
          not_due = refl;
          no_outcome = g.no_outcome;
        })

  -- ---- an event that ends the program

  module _ (how : How) (kernel : Kernel) (effect : Effect) (did : Did) (adds_one : event_steps did ≡ 1)
      (ends : (r : Peer) (c : Copy) → slice_get core.peers 0 ≡ Some r → Tied job g.common core.kernel core.output core.blocked s.taken 0 r c → (last : Machine) × (step job.program (machine_of core.kernel core.output r) t ≡ Some last) × (last.ended ≡ Some how) × (turn_of job.program job.chosen (machine_of core.kernel core.output r) t ≡ Serves) × (cpu : Cpu) × (steppable (machine_of core.kernel core.output r) t ≡ Some cpu)) where
    abbrev last_event : Event
    last_event = record { did = did; kernel = kernel; effect = effect; payload = []; blocked = None; due = Some how }

    -- the last step gets no mutex
    last-rows : (f : IsFirst job.program job.chosen g.common.backed rows g.copies s.first) (c : Copy) → slice_get g.copies 0 ≡ Some c → (cpu : Cpu) → steppable c.machine t ≡ Some cpu → turn_of job.program job.chosen c.machine t ≡ Serves
        → (mutex rank thread : ℕ) → slice_get (order_of job.program job.chosen (OfMutex mutex) (opening job.program) (s.first ++ t ∷ [])) rank ≡ Some thread → rows mutex rank ≡ Some thread
    last-rows f c there cpu live serves mutex rank thread e =
        let b = f.behind 0 c there in
        let turn : turn_of job.program job.chosen f.machine t ≡ Serves = serves-along job.program job.chosen free lacks c.taken c.machine f.machine t b.rest cpu b.reached (served-not-behind job.program job.chosen free lacks g.common.backed s.first f.machine f.goes_on c b t cpu live serves) b.runs f.goes_on b.unserved live serves in
        let last : order_of job.program job.chosen (OfMutex mutex) f.machine (t ∷ []) ≡ [] = ap (λ (turn : Turn). who_takes turn (OfMutex mutex) t ++ option_map_or (λ after. order_of job.program job.chosen (OfMutex mutex) after []) (step job.program f.machine t) []) turn ∙ none-more (step job.program f.machine t) in
        f.in_rows mutex rank thread
        (ap (λ (xs : List ℕ). slice_get xs rank) (sym (append-nil _) ∙ (ap (λ (xs : List ℕ). order_of job.program job.chosen (OfMutex mutex) (opening job.program) s.first ++ xs) (sym last) ∙ sym (order-append job.program job.chosen (OfMutex mutex) (opening job.program) f.machine s.first (t ∷ []) f.reached))) ∙ e)
      where
        none-more : (o : Option Machine) → option_map_or (λ (m : Machine). order_of job.program job.chosen (OfMutex mutex) m []) o [] ≡ []
        none-more None = refl
        none-more (Some m) = refl

    pub over-holds : Over job rows (core_after job.chosen core t (Some stop) last_event) (served_all t (event_steps did) s)
    over-holds =
        let f = runs-first job.program job.chosen free lacks g.common.backed rows g.runs in
        let h = each-back _ core.peers g.copies g.each 0 f.some_copy.0 f.some_copy.1 in
        let p = h.2 in
        let e = ends h.0 f.some_copy.0 h.1 p in
        let m = ends-alike job.program job.chosen free lacks g.common.backed rows g.copies s.first f 0 t f.some_copy.0 e.0 how f.some_copy.1
        (ap (λ (x : Machine). step job.program x t) p.is.machine_is ∙ e.1) (ap (λ (x : Machine). turn_of job.program job.chosen x t) p.is.machine_is ∙ e.3) e.2 in
        let written : f.some_copy.0.machine.output ≡ core.output ++ [] = ap (λ (x : Machine). x.output) p.is.machine_is ∙ sym (append-nil core.output) in
        subst (λ (n : ℕ). Over job rows (core_after job.chosen core t (Some stop) last_event) (served_all t n s)) (sym adds_one)
        (record {
          machine = m.0;
          reached = m.1;
          output = m.3 ∙ written;
          nothing_lent = nothing_lent;
          stopped = refl;
          how = how;
          over = m.2;
          due = λ w k. sym (some-injective k);
          ended = λ w k. absurd (let i : None ≡ Some w = sym not_ended ∙ k in cc);
          in_rows = last-rows f f.some_copy.0 f.some_copy.1 e.4 (ap (λ (x : Machine). steppable x t) p.is.machine_is ∙ e.5) (ap (λ (x : Machine). turn_of job.program job.chosen x t) p.is.machine_is ∙ e.3);
        })
