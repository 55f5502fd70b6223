-- A thread that came back at a lock stands there in its replica until it is lent again: other threads' steps and events leave it.
use Rattle.std.specs.Prelude.{◌≡◌, ◌≢◌, ℕ, zero, suc, Bool, true, false, not, ◌&&◌, cond, ◌==◌, List, ◌++◌, Option, Some, None, is_none, slice_get, slice_set}
use Rattle.std.specs.Option.{option_and_then, option_map_or}
use Rattle.std.proofs.Common.{refl, sym, ap, ◌∙◌, subst}
use Rattle.std.proofs.lemmas.Bool.{false≢true, eq-eqb}
use Rattle.std.proofs.lemmas.Option.{option_and_then_some}
use Rattle.ro_event.specs.declared.calls.Call.{Call}
use Rattle.ro_event.specs.declared.calls.Which.{Which}
use Rattle.ro_event.specs.declared.calls.Which.TheVariants.{Function}
use Rattle.ro_event.specs.declared.functions.Function.TheVariants.{Lock, Unlock}
use Rattle.ro_event.specs.declared.stops.Stop.{Stop}
use Rattle.ro_event.specs.declared.stops.Stop.TheVariants.{Calls, Trap, PageFault, Watchdog}
use Rattle.ro_event.specs.declared.table.CallTable.{CallTable}
use Rattle.ro_event.specs.Effects.{Effect}
use Rattle.ro_exec.specs.Next.{Layout, Next, Stands, Executes}
use Rattle.ro_exec.proofs.Backing.{a_call}
use Rattle.ro_kernel.specs.Kernel.{Kernel}
use Rattle.ro_kernel.proofs.Kept.{slice_get-set_other}
use Rattle.ro_thread.specs.declared.Thread.{Thread}
use Rattle.ro_replica.specs.Replica.{Replica, thread_after, is_cancelled, without_cancelled, applied, cancelled}
use Rattle.ro_replica.specs.Runs.{standing_in, with_stop}
use Rattle.ro_plain.specs.Machine.{layout_in}
use Rattle.ro_plain.proofs.Calls.{some-injective}
use Rattle.ro_orders.specs.Turns.{is_lock_or_unlock}
use Rattle.ro_orders.specs.Answers.{Answer, Answers, Waits, answer_by}
use Rattle.ro_orders.specs.Copies.{Rows}
use Rattle.ro_peer.specs.declared.mutexes.Mutex.{Mutex}
use Rattle.ro_peer.specs.Peers.{Peer, mutex_in, mutex_after, with_mutex, is_row, is_got, peer_after, leased_answer, leased_call, leased_next, leased_at, leased, leased_run}
use Rattle.ro_peer.specs.Gets.{voted}
use Rattle.ro_peer.specs.Events.{without_own}
use Rattle.ro_legal.specs.Core.{Job as Asked}
use Rattle.ro_legal.specs.declared.parkings.Parking.{Parking}
use Rattle.ro_legal.specs.Sides.{Side}
use Rattle.ro_legal.specs.Cooperative.{is_lock, parking_by, parking_at, parking_of, stopped, replica_after}
use Rattle.ro_legal.proofs.Effects.{backed_after, threads_after}
use Rattle.ro_legal.proofs.Lists.{changed-is-set, get-set-same, get-map-there}
use Rattle.ro_coop.proofs.Leases.{after-cases}
use Rattle.ro_coop.proofs.Entered.{in-left}
use Rattle.ro_coop.proofs.Blocked.{kept-made, other-changed}
use Rattle.ro_coop.proofs.Standing.{standing-next}
use Rattle.ro_coop.proofs.Locks.{AlwaysAt, always}

-- a thread stands at a lock of a mutex that is not its own
pub record IsParked (calls : CallTable) (replica : Replica) (mutexes : List Mutex) (t address : ℕ) : Type 0 where
  pub thread : Thread
  pub there : slice_get replica.threads t ≡ Some thread
  pub unstopped : thread.stop ≡ None
  pub call : Call
  pub lock : is_lock call.which ≡ true
  pub on : call.a0 ≡ address
  pub stands : AlwaysAt calls thread.cpu call
  pub mutex : Mutex
  pub listed : mutex_in mutexes address ≡ Some mutex
  pub not_own : mutex.owner ≢ Some t

-- ---- what leaves it

-- a thread that is not stopped keeps its registers, and is still not
abbrev pub Stays : List Thread → List Thread → (t : ℕ) → Type 0
Stays threads others t = (x : Thread) → slice_get threads t ≡ Some x → x.stop ≡ None → (y : Thread) × (slice_get others t ≡ Some y) × (y.stop ≡ None) × (y.cpu ≡ x.cpu)

-- a mutex that is listed still is, and is no thread's more
abbrev pub StillListed : List Mutex → List Mutex → (t : ℕ) → Type 0
StillListed mutexes others t = (a : ℕ) (m : Mutex) → mutex_in mutexes a ≡ Some m → m.owner ≢ Some t → (n : Mutex) × (mutex_in others a ≡ Some n) × (n.owner ≢ Some t)

module _ (calls : CallTable) (t address : ℕ) where
  pub parked-so : (replica other : Replica) (mutexes others : List Mutex) → Stays replica.threads other.threads t → StillListed mutexes others t → IsParked calls replica mutexes t address → IsParked calls other others t address
  parked-so replica other mutexes others stays still p =
      let x = stays p.thread p.there p.unstopped in
      let m = still address p.mutex p.listed p.not_own in
      record {
        thread = x.0;
        there = x.1;
        unstopped = x.2;
        call = p.call;
        lock = p.lock;
        on = p.on;
        stands = subst (λ cpu. AlwaysAt calls cpu p.call) (sym x.3) p.stands;
        mutex = m.0;
        listed = m.1;
        not_own = m.2;
      }

  -- ---- another thread's step

  -- a new owner is not the thread
  abbrev NotTo : Option (Option ℕ) → Type 0
  NotTo None = Unit {0}
  NotTo (Some owner) = owner ≢ Some t

  module _ (u : ℕ) (d : u ≢ t) where
    is-change : (c change : Option (Option ℕ)) (v value : ℕ) → Answers c v ≡ Answers change value → NotTo c → NotTo change
    is-change c change v value e h = let same : c ≡ change = cc in subst NotTo same h

    no-answer : (change : Option (Option ℕ)) (value : ℕ) → Waits ≡ Answers change value → ⊥
    no-answer change value e = cc

    -- who gets a mutex by an answer is who asked
    answer-owner : (which : Which) (owner : Option ℕ) (change : Option (Option ℕ)) (value : ℕ) → answer_by which u owner ≡ Answers change value → NotTo change
    answer-owner (Function Lock) None change value e = is-change (Some (Some u)) change 0 value e (λ f. d (some-injective f))
    answer-owner (Function Lock) (Some owner) change value e = by (owner == u) e
      where
        by : (b : Bool) → cond b (Answers None 35) Waits ≡ Answers change value → NotTo change
        by true f = is-change None change 35 value f tt
        by false f = absurd (no-answer change value f)
    answer-owner (Function Unlock) None change value e = is-change None change 1 value e tt
    answer-owner (Function Unlock) (Some owner) change value e = by (owner == u) e
      where
        by : (b : Bool) → cond b (Answers (Some None) 0) (Answers None 1) ≡ Answers change value → NotTo change
        by true f = is-change (Some None) change 0 value f (λ g. let h : None ≡ Some t = g in cc)
        by false f = is-change None change 1 value f tt
    answer-owner which owner change value e = absurd (no-answer change value e)

    listed-with : (mutexes : List Mutex) (a : ℕ) (change : Option (Option ℕ)) → NotTo change → StillListed mutexes (with_mutex mutexes a change) t
    listed-with mutexes a change never b m e n = (cond (a == b) (mutex_after change m) m, after-cases mutexes a change b m e, bit (a == b))
      where
        after : (c : Option (Option ℕ)) → NotTo c → (mutex_after c m).owner ≢ Some t
        after None h = n
        after (Some owner) h = h

        bit : (c : Bool) → (cond c (mutex_after change m) m).owner ≢ Some t
        bit true = after change never
        bit false = n

    set-stays : (threads : List Thread) (y : Thread) → Stays threads (slice_set threads u y) t
    set-stays threads y x there un = (x, slice_get-set_other threads u t y d ∙ there, un, refl)

    module _ (layout : Layout) (rows : Rows) (watchdog : ℕ) (peer : Peer) (p : IsParked calls peer.replica peer.mutexes t address) where
      abbrev Still : Peer → Type 0
      Still after = IsParked calls after.replica after.mutexes t address

      answer-still : (thread : Thread) (call : Call) (m : Mutex) (answer : Answer) (after : Peer) → answer_by call.which u m.owner ≡ answer → leased_answer rows peer u thread call m answer ≡ Some after → Still after
      answer-still thread call m Waits after a e = absurd (let f : None ≡ Some after = e in cc)
      answer-still thread call m (Answers change value) after a e = by (is_got change && not (is_row (rows call.a0 m.rank) u)) e
        where
          by : (b : Bool) → cond b None (Some (peer_after peer u thread call change value)) ≡ Some after → Still after
          by true f = absurd (let g : None ≡ Some after = f in cc)
          by false f = subst Still (some-injective f)
              (parked-so peer.replica (peer_after peer u thread call change value).replica peer.mutexes (with_mutex peer.mutexes call.a0 change)
              (set-stays peer.replica.threads _) (listed-with peer.mutexes call.a0 change (answer-owner call.which m.owner change value a)) p)

      call-still : (thread : Thread) (call : Call) (o : Option Mutex) (after : Peer) → leased_call rows peer u thread call o ≡ Some after → Still after
      call-still thread call None after e = absurd (let f : None ≡ Some after = e in cc)
      call-still thread call (Some m) after e = answer-still thread call m (answer_by call.which u m.owner) after refl e

      which-still : (b : Bool) (thread : Thread) (call : Call) (after : Peer) → cond b (leased_call rows peer u thread call (mutex_in peer.mutexes call.a0)) None ≡ Some after → Still after
      which-still true thread call after e = call-still thread call (mutex_in peer.mutexes call.a0) after e
      which-still false thread call after e = absurd (let f : None ≡ Some after = e in cc)

      next-still : (thread : Thread) (n : Next) (after : Peer) → leased_next rows peer u thread n ≡ Some after → Still after
      next-still thread (Executes instr) after e = subst Still (some-injective e)
          (parked-so peer.replica _ peer.mutexes peer.mutexes (set-stays peer.replica.threads _) (λ a m f n. (m, f, n)) p)
      next-still thread (Stands (Calls call)) after e = which-still (is_lock_or_unlock call.which) thread call after e
      next-still thread (Stands (Trap code)) after e = absurd (let f : None ≡ Some after = e in cc)
      next-still thread (Stands (PageFault page)) after e = absurd (let f : None ≡ Some after = e in cc)
      next-still thread (Stands Watchdog) after e = absurd (let f : None ≡ Some after = e in cc)

      at-still : (thread : Thread) (b : Bool) (n : Next) (after : Peer) → cond b None (leased_next rows peer u thread n) ≡ Some after → Still after
      at-still thread true n after e = absurd (let f : None ≡ Some after = e in cc)
      at-still thread false n after e = next-still thread n after e

      thread-still : (o : Option Thread) (after : Peer) → option_and_then (leased_at layout rows watchdog peer u) o ≡ Some after → Still after
      thread-still None after e = absurd (let f : None ≡ Some after = e in cc)
      thread-still (Some thread) after e = at-still thread (thread.since == watchdog) _ after e

      step-still : (after : Peer) → leased layout rows watchdog peer u ≡ Some after → Still after
      unfolding leased
      step-still after e = thread-still (slice_get peer.replica.threads u) after e

    -- a lease of another thread
    pub run-still : (layout : Layout) (rows : Rows) (watchdog n : ℕ) (peer last : Peer) → leased_run layout rows watchdog n peer u ≡ Some last → IsParked calls peer.replica peer.mutexes t address → IsParked calls last.replica last.mutexes t address
    run-still layout rows watchdog zero peer last e p = subst (λ (r : Peer). IsParked calls r.replica r.mutexes t address) (some-injective e) p
    run-still layout rows watchdog (suc n) peer last e p =
        option_and_then_some (λ mid. leased_run layout rows watchdog n mid u) (leased layout rows watchdog peer u) last e (λ mid f g.
        run-still layout rows watchdog n mid last g (step-still layout rows watchdog peer p mid f))

    -- and its stop
    pub stopped-still : (stop : Option Stop) (replica : Replica) (mutexes : List Mutex) → IsParked calls replica mutexes t address → IsParked calls (stopped u stop replica) mutexes t address
    stopped-still stop replica mutexes p =
        parked-so replica (stopped u stop replica) mutexes mutexes (λ x there un. (x, other-changed (with_stop stop) replica.threads u t x (λ e. d (sym e)) there, un, refl)) (λ a m f n. (m, f, n)) p

  -- ---- an event of another thread

  pub event-still : (effect : Effect) (entered : List Mutex) (side : Side) (replica : Replica) → t ≢ effect.thread → IsParked calls replica side.mutexes t address → IsParked calls (replica_after effect entered side replica) (side.mutexes ++ entered) t address
  unfolding applied cancelled
  event-still effect entered side replica d p =
      parked-so replica (replica_after effect entered side replica) side.mutexes (side.mutexes ++ entered) stays (λ a m f n. (m, in-left side.mutexes entered a m f, n)) p
    where
      stays : Stays replica.threads (replica_after effect entered side replica).threads t
      stays x there un = (
        without_own (side.mutexes ++ entered) (without_cancelled (backed_after effect replica.backed) x),
        get-map-there (without_own (side.mutexes ++ entered)) _ t _ (get-map-there (without_cancelled (backed_after effect replica.backed)) (threads_after effect replica.threads) t x
            (kept-made effect.made _ t x (other-changed (thread_after effect) replica.threads effect.thread t x d there))),
        ap (λ (o : Option Stop). voted (side.mutexes ++ entered) (cond (is_cancelled (backed_after effect replica.backed) o) None o)) un,
        refl,
      )

-- ---- a thread that comes back at a lock

-- where it stands
pub parked-now : (job : Asked) (kernel : Kernel) (t : ℕ) (peer : Peer) (p : Parking) → parking_of job kernel t peer ≡ Some p → IsParked job.program.image.calls (stopped t None peer.replica) peer.mutexes t p.mutex
parked-now job kernel t peer p e = by (slice_get peer.replica.threads t) refl e
  where
    in-mutex : (x : Thread) → slice_get peer.replica.threads t ≡ Some x → (call : Call) → is_lock call.which ≡ true → AlwaysAt job.program.image.calls x.cpu call → (m : Mutex) → mutex_in peer.mutexes call.a0 ≡ Some m → (own : Bool) → option_map_or (λ owner. owner == t) m.owner false ≡ own
        → cond own None (Some (record { mutex = call.a0; rank = m.rank; asked = is_none m.owner })) ≡ Some p → IsParked job.program.image.calls (stopped t None peer.replica) peer.mutexes t p.mutex
    in-mutex x there call lock stands m listed true own f = absurd (let g : None ≡ Some p = f in cc)
    in-mutex x there call lock stands m listed false own f =
        let on : call.a0 ≡ p.mutex = ap (λ (q : Parking). q.mutex) (some-injective f) in
        record {
          thread = with_stop None x;
          there = ap (λ (xs : List Thread). slice_get xs t) (changed-is-set (with_stop None) peer.replica.threads t x there) ∙ get-set-same peer.replica.threads t x _ there;
          unstopped = refl;
          call = call;
          lock = lock;
          on = on;
          stands = stands;
          mutex = m;
          listed = ap (mutex_in peer.mutexes) (sym on) ∙ listed;
          not_own = λ g. false≢true (sym own ∙ (ap (λ (o : Option ℕ). option_map_or (λ owner. owner == t) o false) g ∙ eq-eqb t t refl));
        }

    at-call : (x : Thread) → slice_get peer.replica.threads t ≡ Some x → (call : Call) → is_lock call.which ≡ true → AlwaysAt job.program.image.calls x.cpu call → (o : Option Mutex) → mutex_in peer.mutexes call.a0 ≡ o → parking_by t call.a0 o ≡ Some p → IsParked job.program.image.calls (stopped t None peer.replica) peer.mutexes t p.mutex
    at-call x there call lock stands None listed f = absurd (let g : None ≡ Some p = f in cc)
    at-call x there call lock stands (Some m) listed f = in-mutex x there call lock stands m listed (option_map_or (λ owner. owner == t) m.owner false) refl f

    at-which : (x : Thread) → slice_get peer.replica.threads t ≡ Some x → (call : Call) → standing_in (layout_in job.program kernel) job.settings.watchdog peer.replica x ≡ Some (Calls call) → (b : Bool) → is_lock call.which ≡ b → cond b (parking_by t call.a0 (mutex_in peer.mutexes call.a0)) None ≡ Some p
        → IsParked job.program.image.calls (stopped t None peer.replica) peer.mutexes t p.mutex
    at-which x there call s false lock f = absurd (let g : None ≡ Some p = f in cc)
    at-which x there call s true lock f =
        at-call x there call lock
        (always (layout_in job.program kernel) peer.replica.backed peer.replica.memory x.cpu call lock (standing-next (layout_in job.program kernel) job.settings.watchdog peer.replica.backed peer.replica.memory x.cpu x.since (Calls call) a_call s))
        (mutex_in peer.mutexes call.a0) refl f

    at-stop : (x : Thread) → slice_get peer.replica.threads t ≡ Some x → (o : Option Stop) → standing_in (layout_in job.program kernel) job.settings.watchdog peer.replica x ≡ o → parking_at t peer.mutexes o ≡ Some p → IsParked job.program.image.calls (stopped t None peer.replica) peer.mutexes t p.mutex
    at-stop x there (Some (Calls call)) s f = at-which x there call s (is_lock call.which) refl f
    at-stop x there o s f = absurd (let g : None ≡ Some p = f in cc)

    by : (o : Option Thread) → slice_get peer.replica.threads t ≡ o → parking_at t peer.mutexes (option_and_then (standing_in (layout_in job.program kernel) job.settings.watchdog peer.replica) o) ≡ Some p → IsParked job.program.image.calls (stopped t None peer.replica) peer.mutexes t p.mutex
    by None there f = absurd (let g : None ≡ Some p = f in cc)
    by (Some x) there f = at-stop x there _ refl f
