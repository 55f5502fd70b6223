-- What holds along a legal journal: each peer is its copy, or the program has ended as the machine of the first steps.
use Rattle.std.specs.Prelude.{◌≡◌, ◌≢◌, ℕ, zero, suc, ◌+◌, ◌<◌, length, Bool, true, false, ◌&&◌, ◌||◌, cond, List, [], ◌∷◌, ◌++◌, Option, Some, None, is_some, is_none, ◌==◌, if◌then◌else◌, replicate, slice_get, slice_set}
use Rattle.std.specs.List.{filter, list_any}
use Rattle.std.specs.Option.{option_map_or}
use Rattle.std.proofs.Common.{refl, sym, ap, ◌∙◌, subst, arith}
use Rattle.std.proofs.lemmas.Bool.{true≢false, false≢true, eqb-true, eq-eqb, and_parts}
use Rattle.std.proofs.lemmas.Option.{option_and_then_some}
use Rattle.ro_event.specs.declared.calls.Call.{Call}
use Rattle.ro_event.specs.declared.calls.Which.TheVariants.{Function}
use Rattle.ro_event.specs.declared.functions.Function.TheVariants.{Wait}
use Rattle.ro_event.specs.declared.stops.Stop.{Stop}
use Rattle.ro_event.specs.declared.stops.Stop.TheVariants.{Calls}
use Rattle.ro_journal.specs.declared.How.{How}
use Rattle.ro_journal.specs.declared.Entry.TheVariants.{Put}
use Rattle.ro_mutex.specs.Owners.{owner_of}
use Rattle.ro_condition.proofs.Whose.{is_waiting}
use Rattle.ro_exec.specs.Next.{Backed}
use Rattle.ro_kernel.specs.declared.Life.{Life}
use Rattle.ro_kernel.specs.Kernel.{Setup, Kernel, live_option, lives_on}
use Rattle.ro_kernel.specs.Serve.{Parked, serve, is_parked, is_write, is_atomic}
use Rattle.ro_kernel.proofs.Waiting.{waiter-unparked, parked-waits}
use Rattle.ro_thread.specs.declared.Thread.{Thread}
use Rattle.ro_replica.specs.Runs.{with_stop}
use Rattle.ro_replica.specs.Views.{is_unstopped}
use Rattle.ro_plain.specs.Machine.{Machine, opening, run}
use Rattle.ro_plain.specs.Order.{RaceFree}
use Rattle.ro_plain.proofs.Calls.{some-injective}
use Rattle.ro_journal.specs.declared.Lease.{Lease}
use Rattle.ro_legal.specs.Core.{is_lease}
use Rattle.ro_legal.proofs.Lists.{ChangedFrom, unchanged, changed_here, get-changed}
use Rattle.ro_orders.specs.Turns.{is_lock_or_unlock, OfMutex, order_of, times, TakesByLocks}
use Rattle.ro_orders.specs.Copies.{Copy, Rows, Runs}
use Rattle.ro_orders.proofs.Owners.{differs}
use Rattle.ro_orders.proofs.Copies.{times-append}
use Rattle.ro_peer.specs.Peers.{Peer, leased_run}
use Rattle.ro_coop.specs.Core.{Job, Core, layout_here, arrival, arrived, after_put, after, is_going, is_outcome, MayTake, MayPut, first_run, Steps, steps_after}
use Rattle.ro_coop.proofs.Puts.{IsCopy, StopsStand, AnyThread, leased-runs, copy-arrived, stops-arrived}
use Rattle.ro_coop.proofs.Blocked.{other-changed}
use Rattle.ro_coop.proofs.Counts.{Counted, Unmade, none-changed}
use Rattle.ro_coop.proofs.Lists.{Each, each-get, each-set}

abbrev pub AtCall : Peer → (t : ℕ) → Call → Type 0
AtCall peer t call = (x : Thread) × (slice_get peer.replica.threads t ≡ Some x) × (x.stop ≡ Some (Calls call))

-- the pages that every peer has backed, and each thread's steps up to its last event
pub record Common : Type 0 where
  pub backed : Backed
  pub base : ℕ → ℕ

-- a peer and its copy
pub record Tied (job : Job) (common : Common) (kernel : Kernel) (output : List ℕ) (blocked : ℕ → Option Call) (taken : ℕ → List ℕ) (number : ℕ) (peer : Peer) (copy : Copy) : Type 0 where
  pub is : IsCopy job kernel output peer copy
  pub taken_is : copy.taken ≡ taken number
  pub stops : StopsStand job kernel AnyThread peer
  pub waits : (t : ℕ) (call : Call) → blocked t ≡ Some call → AtCall peer t call
  pub backed_is : peer.replica.backed ≡ common.backed
  pub counted : Counted job.settings.watchdog (λ u. times u copy.taken) common.base peer.replica.threads
  pub unmade : Unmade (λ u. times u copy.taken) common.base peer.replica.threads

-- a thread that is blocked
pub record IsWaiting (kernel : Kernel) (t : ℕ) (call : Call) : Type 0 where
  pub lives : lives_on kernel t ≡ true
  pub no_write : is_write call.which ≡ false
  pub no_atomic : is_atomic call.which ≡ false
  pub in_table : is_lock_or_unlock call.which ≡ true → is_some (owner_of kernel.owners call.a0) ≡ true
  pub begun : call.which ≡ Function Wait → is_waiting kernel.waiters t ≡ true

-- it does not begin to wait again
pub not-again : (setup : Setup) (kernel after : Kernel) (t : ℕ) (call : Call) → IsWaiting kernel t call → serve setup kernel t call ≡ Parked after → ⊥
not-again setup kernel after t call w e = true≢false (sym (ap is_parked e) ∙ waiter-unparked setup kernel t call (w.begun (parked-waits setup kernel t call after e)))

-- each thread that is lent lives and is not blocked
abbrev pub AllLent : Kernel → (ℕ → Option Call) → List Lease → Type 0
AllLent kernel blocked [] = Unit {0}
AllLent kernel blocked (lease ∷ leases) = ((lives_on kernel lease.thread ≡ true) × (blocked lease.thread ≡ None)) × AllLent kernel blocked leases

pub record Going (job : Job) (rows : Rows) (core : Core) (s : Steps) : Type 0 where
  pub common : Common
  pub copies : List Copy
  pub runs : Runs job.program job.chosen common.backed rows copies s.first
  pub each : Each (Tied job common core.kernel core.output core.blocked s.taken) core.peers copies
  pub waiting : (t : ℕ) (call : Call) → core.blocked t ≡ Some call → IsWaiting core.kernel t call
  pub lent : AllLent core.kernel core.blocked core.leases
  pub not_due : core.due ≡ None
  pub no_outcome : (how : How) → core.ended ≡ Some how → is_outcome how ≡ false

-- the program has ended
pub record Over (job : Job) (rows : Rows) (core : Core) (s : Steps) : Type 0 where
  pub machine : Machine
  pub reached : run job.program (opening job.program) s.first ≡ Some machine
  pub output : machine.output ≡ core.output
  pub nothing_lent : core.leases ≡ []
  pub stopped : is_going core ≡ false
  pub how : How
  pub over : machine.ended ≡ Some how
  pub due : (w : How) → core.due ≡ Some w → w ≡ how
  pub ended : (w : How) → core.ended ≡ Some w → w ≡ how
  pub in_rows : (mutex rank thread : ℕ) → slice_get (order_of job.program job.chosen (OfMutex mutex) (opening job.program) s.first) rank ≡ Some thread → rows mutex rank ≡ Some thread

pub data Holds (job : Job) (rows : Rows) (core : Core) (s : Steps) : Type 0 where
  is_on : Going job rows core s → Holds job rows core s
  is_over : Over job rows core s → Holds job rows core s

-- ---- leases

pub lent-has : (kernel : Kernel) (blocked : ℕ → Option Call) (leases : List Lease) (lease : Lease) → AllLent kernel blocked leases → list_any (is_lease lease) leases ≡ true → (lives_on kernel lease.thread ≡ true) × (blocked lease.thread ≡ None)
lent-has kernel blocked [] lease h e = absurd (false≢true e)
lent-has kernel blocked (other ∷ leases) lease h e = by (is_lease lease other) refl e (lent-has kernel blocked leases lease h.1)
  where
    by : (b : Bool) → is_lease lease other ≡ b → (b || list_any (is_lease lease) leases) ≡ true → (list_any (is_lease lease) leases ≡ true → (lives_on kernel lease.thread ≡ true) × (blocked lease.thread ≡ None)) → (lives_on kernel lease.thread ≡ true) × (blocked lease.thread ≡ None)
    by true q f rest = subst (λ (n : ℕ). (lives_on kernel n ≡ true) × (blocked n ≡ None)) (eqb-true other.thread lease.thread (and_parts ((other.driver == lease.driver) && (other.replica == lease.replica)) (other.thread == lease.thread) q).1) h.0
    by false q f rest = rest f

pub lent-filter : (kernel : Kernel) (blocked : ℕ → Option Call) (p : Lease → Bool) (leases : List Lease) → AllLent kernel blocked leases → AllLent kernel blocked (filter p leases)
lent-filter kernel blocked p [] h = tt
lent-filter kernel blocked p (lease ∷ leases) h = by (p lease) (lent-filter kernel blocked p leases h.1)
  where
    by : (b : Bool) → AllLent kernel blocked (filter p leases) → AllLent kernel blocked (cond b (lease ∷ filter p leases) (filter p leases))
    by true rest = (h.0, rest)
    by false rest = rest

-- a thread that lives is made
pub thread-made : (lives : List Life) (threads : List Thread) (t : ℕ) → length threads ≡ length lives → live_option (slice_get lives t) ≡ true → (x : Thread) × (slice_get threads t ≡ Some x)
thread-made [] threads t e h = absurd (false≢true h)
thread-made (l ∷ lives) [] t e h = absurd (omega arith)
thread-made (l ∷ lives) (x ∷ threads) zero e h = (x, refl)
thread-made (l ∷ lives) (x ∷ threads) (suc t) e h = thread-made lives threads t (omega arith) h

-- ---- a lease goes out

module _ (job : Job) (rows : Rows) (core : Core) (s : Steps) (g : Going job rows core s) where
  -- a thread that is unstopped in a peer is not blocked
  not-waiting : (r t : ℕ) → option_map_or (λ (peer : Peer). is_unstopped t peer.replica) (slice_get core.peers r) false ≡ true → core.blocked t ≡ None
  not-waiting r t u = by (slice_get core.peers r) refl u
    where
      none-there : (o : Option Stop) (call : Call) → o ≡ Some (Calls call) → is_none o ≡ true → ⊥
      none-there o call e f = false≢true (sym (ap is_none e) ∙ f)

      at : (peer : Peer) → slice_get core.peers r ≡ Some peer → is_unstopped t peer.replica ≡ true → (o : Option Call) → core.blocked t ≡ o → core.blocked t ≡ None
      at peer e f None k = k
      at peer e f (Some call) k =
          let h = each-get _ core.peers g.copies g.each r peer e in
          let w = h.2.waits t call k in
          absurd (none-there w.0.stop call w.2 (ap (λ (o : Option Thread). option_map_or (λ (x : Thread). is_none x.stop) o false) (sym w.1) ∙ f))

      by : (o : Option Peer) → slice_get core.peers r ≡ o → option_map_or (λ (peer : Peer). is_unstopped t peer.replica) o false ≡ true → core.blocked t ≡ None
      by None e f = absurd (false≢true f)
      by (Some peer) e f = at peer e f (core.blocked t) refl

  pub take-holds : (lease : Lease) → MayTake core lease → Going job rows (record core { leases = lease ∷ core.leases }) s
  take-holds lease m = record {
    common = g.common;
    copies = g.copies;
    runs = g.runs;
    each = g.each;
    waiting = g.waiting;
    lent = ((m.lives, not-waiting lease.replica lease.thread m.unstopped), g.lent);
    not_due = g.not_due;
    no_outcome = g.no_outcome;
  }

  -- ---- a lease comes back

  module _ (free : RaceFree job.program) (lacks : TakesByLocks job.program job.chosen) (lease : Lease) (n : ℕ) where
    abbrev r : ℕ
    r = lease.replica

    abbrev t : ℕ
    t = lease.thread

    module _ (peer last : Peer) (copy gone : Copy) (taken : gone.taken ≡ copy.taken ++ replicate n t) (others : (i : ℕ) → i ≢ t → slice_get last.replica.threads i ≡ slice_get peer.replica.threads i)
        (grown : (x : Thread) → slice_get peer.replica.threads t ≡ Some x → x.since < suc job.settings.watchdog → (y : Thread) × (slice_get last.replica.threads t ≡ Some y) × (y.since ≡ x.since + n) × (y.since < suc job.settings.watchdog))
        (counted : Counted job.settings.watchdog (λ u. times u copy.taken) g.common.base peer.replica.threads) (x : Thread) (at : slice_get peer.replica.threads t ≡ Some x) where
      replicated : (m u : ℕ) (b : Bool) → (t == u) ≡ b → times u (replicate m t) ≡ cond b m 0
      replicated zero u true e = refl
      replicated zero u false e = refl
      replicated (suc m) u true e = ap (λ (b : Bool). cond b 1 0 + times u (replicate m t)) e ∙ one-up (times u (replicate m t)) m (replicated m u true e)
        where
          one-up : (a b : ℕ) → a ≡ b → 1 + a ≡ suc b
          one-up a b e = omega arith
      replicated (suc m) u false e = ap (λ (b : Bool). cond b 1 0 + times u (replicate m t)) e ∙ none-up (times u (replicate m t)) (replicated m u false e)
        where
          none-up : (a : ℕ) → a ≡ 0 → 0 + a ≡ 0
          none-up a e = omega arith

      same-times : (u : ℕ) → u ≢ t → times u gone.taken ≡ times u copy.taken
      same-times u d = ap (times u) taken ∙ (times-append u copy.taken (replicate n t) ∙ (ap (λ (k : ℕ). times u copy.taken + k) (replicated n u false (differs t u (λ e. d (sym e)))) ∙ none-more (times u copy.taken)))
        where
          none-more : (k : ℕ) → k + 0 ≡ k
          none-more k = omega arith

      own-times : times t gone.taken ≡ times t copy.taken + n
      own-times = ap (times t) taken ∙ (times-append t copy.taken (replicate n t) ∙ ap (λ (k : ℕ). times t copy.taken + k) (replicated n t true (eq-eqb t t refl)))

      grew : (y : Thread) × (slice_get last.replica.threads t ≡ Some y) × (y.since ≡ x.since + n) × (y.since < suc job.settings.watchdog)
      grew = grown x at (counted t x at).1

      its-not : (u : ℕ) → slice_get last.replica.threads u ≡ None → u ≢ t
      its-not u e q = let k : None ≡ Some grew.0 = sym e ∙ (ap (slice_get last.replica.threads) q ∙ grew.1) in cc

      counted-put : Counted job.settings.watchdog (λ u. times u gone.taken) g.common.base (arrived job core.kernel t n last).replica.threads
      counted-put u z e = by (get-changed (with_stop (arrival job core.kernel t n last)) last.replica.threads t u z e)
        where
          shift : (a b c k m : ℕ) → a ≡ b + c → m ≡ c + k → a + k ≡ b + m
          shift a b c k m e f = omega arith

          own-case : (w : Thread) → slice_get last.replica.threads t ≡ Some w → (times t gone.taken ≡ g.common.base t + w.since) × (w.since < suc job.settings.watchdog)
          own-case w k =
              let same : grew.0 ≡ w = some-injective (sym grew.1 ∙ k) in
              subst (λ (v : Thread). (times t gone.taken ≡ g.common.base t + v.since) × (v.since < suc job.settings.watchdog)) same (own-times ∙ shift (times t copy.taken) (g.common.base t) x.since n grew.0.since (counted t x at).0 grew.2, grew.3)

          by : ChangedFrom (with_stop (arrival job core.kernel t n last)) last.replica.threads t u z → (times u gone.taken ≡ g.common.base u + z.since) × (z.since < suc job.settings.watchdog)
          by (unchanged d f) = let c = counted u z (sym (others u d) ∙ f) in (same-times u d ∙ c.0, c.1)
          by (changed_here w d f k) =
              let c = own-case w (ap (slice_get last.replica.threads) (sym d) ∙ f) in
              let since : w.since ≡ z.since = ap (λ (v : Thread). v.since) k in
              (ap (λ (i : ℕ). times i gone.taken) d ∙ (c.0 ∙ (ap (λ (i : ℕ). g.common.base i + w.since) (sym d) ∙ ap (λ (i : ℕ). g.common.base u + i) since)), subst (λ (i : ℕ). i < suc job.settings.watchdog) since c.1)

      unmade-put : Unmade (λ u. times u copy.taken) g.common.base peer.replica.threads → Unmade (λ u. times u gone.taken) g.common.base (arrived job core.kernel t n last).replica.threads
      unmade-put unmade u e =
          let none = none-changed (with_stop (arrival job core.kernel t n last)) last.replica.threads t u e in
          let d = its-not u none in
          let old = unmade u (sym (others u d) ∙ none) in
          (same-times u d ∙ old.0, old.1)

    put-so : (lives : lives_on core.kernel t ≡ true) (unblocked : core.blocked t ≡ None) (peer last : Peer) → slice_get core.peers r ≡ Some peer → leased_run (layout_here job core) rows job.settings.watchdog n peer t ≡ Some last
        → Going job rows (after_put job core lease n (Some last)) (record { taken = λ i. if i == r then s.taken i ++ replicate n t else s.taken i; first = first_run t n s.first (s.taken r) })
    put-so lives unblocked peer last at ran =
        let h = each-get _ core.peers g.copies g.each r peer at in
        let p = h.2 in
        let made = thread-made core.kernel.lives peer.replica.threads t p.is.all_made lives in
        let to = leased-runs job rows free lacks g.common.backed core.kernel core.output r t lives n g.copies s.first peer last h.0 g.runs h.1 p.is p.backed_is (λ number thread stop different alive there stopped. p.stops number thread stop tt alive there stopped) ran in
        record {
          common = g.common;
          copies = slice_set g.copies r to.gone;
          runs = subst (λ (xs : List ℕ). Runs job.program job.chosen g.common.backed rows (slice_set g.copies r to.gone) (first_run t n s.first xs)) p.taken_is to.runs;
          each = each-set _ _ core.peers g.copies r (arrived job core.kernel t n last) to.gone g.each
              (λ number other copy different q. record { is = q.is; taken_is = q.taken_is ∙ sym (ap (λ (b : Bool). cond b (s.taken number ++ replicate n t) (s.taken number)) (differs number r different)); stops = q.stops; waits = q.waits; backed_is = q.backed_is; counted = q.counted; unmade = q.unmade })
              (record {
                is = copy-arrived job core.kernel core.output t n last to.gone to.is;
                taken_is = to.taken ∙ (ap (λ (xs : List ℕ). xs ++ replicate n t) p.taken_is ∙ sym (ap (λ (b : Bool). cond b (s.taken r ++ replicate n t) (s.taken r)) (eq-eqb r r refl)));
                stops = stops-arrived job core.kernel core.output t n last to.gone to.stops;
                waits = λ u call k.
                    let w = p.waits u call k in
                    let apart : u ≢ t = λ e. absurd (let f : None ≡ Some call = sym unblocked ∙ (ap core.blocked (sym e) ∙ k) in cc) in
                    (w.0, other-changed (with_stop (arrival job core.kernel t n last)) last.replica.threads t u w.0 apart (to.others u apart ∙ w.1), w.2);
                backed_is = to.backed_is;
                counted = counted-put peer last h.0 to.gone to.taken to.others to.grown p.counted made.0 made.1;
                unmade = unmade-put peer last h.0 to.gone to.taken to.others to.grown p.counted made.0 made.1 p.unmade;
              });
          waiting = g.waiting;
          lent = lent-filter core.kernel core.blocked _ core.leases g.lent;
          not_due = g.not_due;
          no_outcome = g.no_outcome;
        }

    pub put-holds : (hit : ℕ) → MayPut job rows core lease n → Going job rows (after job rows core (Put lease n hit)) (steps_after s (Put lease n hit))
    put-holds hit m =
        let l = lent-has core.kernel core.blocked core.leases lease g.lent m.out in
        subst (λ (o : Option Peer). Going job rows (after_put job core lease n o) (steps_after s (Put lease n hit))) (sym m.runs)
        (option_and_then_some (λ peer. leased_run (layout_here job core) rows job.settings.watchdog n peer t) (slice_get core.peers r) m.peer m.runs (λ peer at ran. put-so l.0 l.1 peer m.peer at ran))
