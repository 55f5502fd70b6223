-- A lease is so many steps of a copy, and the first steps grow as the journal says.
use Rattle.std.specs.Prelude.{◌≡◌, ◌≢◌, ℕ, zero, suc, ◌+◌, ◌<◌, leb, Bool, true, false, ◌&&◌, cond, List, [], ◌∷◌, ◌++◌, length, map, replicate, Option, Some, None, is_some, ◌==◌, slice_get, slice_set}
use Rattle.std.specs.Option.{option_and_then}
use Rattle.std.proofs.Common.{refl, sym, ap, ap₂, ◌∙◌, subst, arith, append_assoc, append-nil, length-append}
use Rattle.std.proofs.lemmas.List.{set-set}
use Rattle.std.proofs.lemmas.Bool.{true≢false, eq-eqb}
use Rattle.std.proofs.lemmas.Option.{option_and_then_some}
use Rattle.ro_event.specs.declared.stops.Stop.{Stop}
use Rattle.ro_event.specs.declared.stops.Stop.TheVariants.{Calls, Trap, PageFault, Watchdog}
use Rattle.ro_exec.specs.declared.Cpu.{Cpu}
use Rattle.ro_exec.specs.Next.{Layout, Backed, Next, next, stop_in}
use Rattle.ro_kernel.specs.Kernel.{Kernel, lives_on}
use Rattle.ro_thread.specs.declared.Thread.{Thread}
use Rattle.ro_thread.specs.Stops.{standing}
use Rattle.ro_replica.specs.Replica.{changed_at}
use Rattle.ro_replica.specs.Runs.{standing_in, with_stop}
use Rattle.ro_kernel.proofs.TableFits.{TableFits}
use Rattle.ro_plain.specs.Machine.{setup_of, layout_in, Machine, opening, step, run}
use Rattle.ro_plain.specs.Order.{RaceFree}
use Rattle.ro_plain.proofs.Calls.{some-injective}
use Rattle.ro_plain.proofs.StaysAfter.{Stays, stays}
use Rattle.ro_legal.proofs.Lists.{get-set-same, set-same, ChangedFrom, unchanged, changed_here, get-changed, length-changed}
use Rattle.ro_orders.specs.Turns.{is_cooperative, is_lock_or_unlock, Turn, Gets, turn_of, OfMutex, takes, who_takes, TakesByLocks}
use Rattle.ro_orders.specs.Copies.{Copy, Rows, StepsAlone, first_after, Runs, then_alone, is_backed}
use Rattle.ro_orders.proofs.TableRuns.{table-fits}
use Rattle.ro_orders.proofs.Copies.{takes-gets, runs-first}
use Rattle.ro_peer.specs.declared.mutexes.Mutex.{Mutex}
use Rattle.ro_peer.specs.Peers.{Peer, mutex_in, cpu_in, kernel_in, machine_of, leased, leased_run}
use Rattle.ro_peer.specs.Gets.{is_own_call, voted}
use Rattle.ro_coop.specs.Core.{Job, voted_at, arrival, arrived, first_run}
use Rattle.ro_coop.proofs.Tables.{AllCooperative, layout-in}
use Rattle.ro_coop.proofs.Leases.{live-in, IsOwnStep, own-step, own-watch}

-- ---- what ties a peer to its copy

pub record IsCopy (job : Job) (kernel : Kernel) (output : List ℕ) (peer : Peer) (copy : Copy) : Type 0 where
  pub machine_is : copy.machine ≡ machine_of kernel output peer
  pub ranks : (m : ℕ) (x : Mutex) → mutex_in peer.mutexes m ≡ Some x → length (copy.got m) ≡ x.rank
  pub fresh : (m : ℕ) → mutex_in peer.mutexes m ≡ None → copy.got m ≡ []
  pub all : AllCooperative job.chosen kernel peer.mutexes
  pub complete : (a : ℕ) → is_cooperative job.chosen kernel a ≡ true → (x : Mutex) × (mutex_in peer.mutexes a ≡ Some x)
  pub all_made : length peer.replica.threads ≡ length kernel.lives

-- each stop of these threads stands, and is none that the peer answers
abbrev pub StopsStand : Job → Kernel → (ℕ → Type 0) → Peer → Type 0
StopsStand job kernel Of peer =
    (number : ℕ) (thread : Thread) (stop : Stop) → Of number → lives_on kernel number ≡ true → slice_get peer.replica.threads number ≡ Some thread → thread.stop ≡ Some stop
    → voted peer.mutexes (standing_in (layout_in job.program kernel) job.settings.watchdog peer.replica thread) ≡ Some stop

abbrev pub AnyThread : ℕ → Type 0
AnyThread number = Unit {0}

own-same : (one other : List Mutex) → ((n : ℕ) → is_some (mutex_in one n) ≡ is_some (mutex_in other n)) → (stop : Stop) → is_own_call one stop ≡ is_own_call other stop
own-same one other h (Calls call) = ap (λ (b : Bool). is_lock_or_unlock call.which && b) (h call.a0)
own-same one other h (Trap code) = refl
own-same one other h (PageFault page) = refl
own-same one other h Watchdog = refl

-- which stops are voted on hangs on the addresses of the mutexes alone
pub voted-same : (one other : List Mutex) → ((n : ℕ) → is_some (mutex_in one n) ≡ is_some (mutex_in other n)) → (o : Option Stop) → voted one o ≡ voted other o
voted-same one other h None = refl
voted-same one other h (Some stop) = ap (λ (b : Bool). cond b None (Some stop)) (own-same one other h stop)

none-listed : (o p : Option Mutex) → is_some o ≡ is_some p → o ≡ None → p ≡ None
none-listed o None h e = refl
none-listed o (Some x) h e = absurd (true≢false (sym h ∙ ap is_some e))

module _ (job : Job) (rows : Rows) (free : RaceFree job.program) (lacks : TakesByLocks job.program job.chosen) (backed : Backed) (kernel : Kernel) (output : List ℕ) (number t : ℕ) (lives : lives_on kernel t ≡ true) where
  -- ---- one step

  module _ (copies : List Copy) (first : List ℕ) (runs : Runs job.program job.chosen backed rows copies first) (copy : Copy) (there : slice_get copies number ≡ Some copy) (peer mid : Peer) (c : IsCopy job kernel output peer copy) (b : peer.replica.backed ≡ backed) (o : IsOwnStep job.program job.chosen rows kernel output peer t mid) where
    abbrev gone : Copy
    gone = record {
      taken = copy.taken ++ t ∷ [];
      machine = machine_of kernel output mid;
      got = λ m. copy.got m ++ who_takes (turn_of job.program job.chosen copy.machine t) (OfMutex m) t;
    }

    same_turn : turn_of job.program job.chosen copy.machine t ≡ turn_of job.program job.chosen (machine_of kernel output peer) t
    same_turn = ap (λ (m : Machine). turn_of job.program job.chosen m t) c.machine_is

    alone : StepsAlone job.program job.chosen backed rows copy t gone
    alone = record {
      steps = ap (λ (m : Machine). step job.program m t) c.machine_is ∙ o.steps;
      unserved = λ e. o.unserved (sym same_turn ∙ e);
      on_backed = ap (λ (k : Backed). is_backed job.program k copy.machine t) (sym b) ∙ (ap (λ (m : Machine). is_backed job.program peer.replica.backed m t) c.machine_is ∙ o.on_backed);
      row = λ m e. let g = o.gets m (sym same_turn ∙ e) in ap (rows m) (c.ranks m g.0 g.1) ∙ g.2;
      taken = refl;
      got = λ m. refl;
    }

    pub runs-gone : Runs job.program job.chosen backed rows (slice_set copies number gone) (first_after first copy t)
    runs-gone = then_alone runs number t copy gone there alone

    -- a mutex that it may get is listed
    gets-listed : (m : ℕ) (b : Bool) → takes (turn_of job.program job.chosen copy.machine t) (OfMutex m) ≡ b → mutex_in peer.mutexes m ≡ None → cond b (t ∷ []) [] ≡ []
    gets-listed m false e none = refl
    gets-listed m true e none =
        let g = o.gets m (sym same_turn ∙ takes-it (turn_of job.program job.chosen copy.machine t) e) in
        absurd (let f : None ≡ Some g.0 = sym none ∙ g.1 in cc)
      where
        takes-it : (turn : Turn) → takes turn (OfMutex m) ≡ true → turn ≡ Gets m
        takes-it turn e = takes-gets turn m e

    pub copy-gone : IsCopy job kernel output mid gone
    copy-gone = record {
      machine_is = refl;
      ranks = λ m y e.
          let old = listed-before m y e in
          let r = o.ranks m old.0 old.1 in
          length-append (copy.got m) (who_takes (turn_of job.program job.chosen copy.machine t) (OfMutex m) t)
          ∙ (ap₂ (λ (a b : ℕ). a + b) (c.ranks m old.0 old.1) (ap (λ (turn : Turn). length (who_takes turn (OfMutex m) t)) same_turn)
          ∙ (sym r.2 ∙ ap (λ (z : Mutex). z.rank) (some-injective (sym r.1 ∙ e))));
      fresh = λ m e.
          let none = none-listed (mutex_in mid.mutexes m) (mutex_in peer.mutexes m) (o.known m) e in
          ap₂ (λ (a b : List ℕ). a ++ b) (c.fresh m none) (gets-listed m (takes (turn_of job.program job.chosen copy.machine t) (OfMutex m)) refl none);
      all = o.all;
      complete = λ a e. let old = c.complete a e in let r = o.ranks a old.0 old.1 in (r.0, r.1);
      all_made = o.as_many ∙ c.all_made;
    }
      where
        listed-before : (m : ℕ) (y : Mutex) → mutex_in mid.mutexes m ≡ Some y → (x : Mutex) × (mutex_in peer.mutexes m ≡ Some x)
        listed-before m y e = at (mutex_in peer.mutexes m) refl
          where
            at : (p : Option Mutex) → mutex_in peer.mutexes m ≡ p → (x : Mutex) × (mutex_in peer.mutexes m ≡ Some x)
            at None f = absurd (let g : None ≡ Some y = sym (none-listed (mutex_in peer.mutexes m) (mutex_in mid.mutexes m) (sym (o.known m)) f) ∙ e in cc)
            at (Some x) f = (x, f)

    -- the stops of others stand
    pub stops-gone : StopsStand job kernel (λ (n : ℕ). n ≢ t) peer → StopsStand job kernel (λ (n : ℕ). n ≢ t) mid
    stops-gone stops other thread stop different alive at stopped =
        let old : slice_get peer.replica.threads other ≡ Some thread = sym (o.others other different) ∙ at in
        let reached : run job.program (opening job.program) copy.taken ≡ Some (machine_of kernel output peer) = ((runs-first job.program job.chosen free lacks backed rows runs).behind number copy there).reached ∙ ap Some c.machine_is in
        let s : Stays job.program (machine_of kernel output peer) (machine_of kernel output mid) other thread.cpu = stays job.program free copy.taken (machine_of kernel output peer) reached t other (λ e. different (sym e)) (machine_of kernel output mid) o.steps refl thread.cpu
        (live-in kernel output peer other thread old alive) in
        let same_next : next (layout_in job.program kernel) peer.replica.backed mid.replica.memory thread.cpu ≡ next (layout_in job.program kernel) peer.replica.backed peer.replica.memory thread.cpu =
        ap (λ (l : Layout). next l peer.replica.backed mid.replica.memory thread.cpu) (sym (layout-in job.program kernel mid))
        ∙ (sym (s.next_stays peer.replica.backed) ∙ ap (λ (l : Layout). next l peer.replica.backed peer.replica.memory thread.cpu) (layout-in job.program kernel peer)) in
        voted-same mid.mutexes peer.mutexes o.known _
        ∙ (ap (λ (b : Backed). voted peer.mutexes (standing (layout_in job.program kernel) job.settings.watchdog b mid.replica.memory thread.cpu thread.since)) o.same_backed
        ∙ (ap (λ (n : Next). voted peer.mutexes (cond (thread.since == job.settings.watchdog) (Some Watchdog) (stop_in n))) same_next
        ∙ stops other thread stop different alive old stopped))

  -- each mutex in the table of its machine is one whose word fits
  pub table : (copies : List Copy) (first : List ℕ) → Runs job.program job.chosen backed rows copies first → (copy : Copy) → slice_get copies number ≡ Some copy → (peer : Peer) → IsCopy job kernel output peer copy → TableFits (setup_of job.program) (kernel_in kernel peer)
  table copies first runs copy there peer c =
      table-fits job.program copy.taken (machine_of kernel output peer) (((runs-first job.program job.chosen free lacks backed rows runs).behind number copy there).reached ∙ ap Some c.machine_is)

  -- ---- any number of them

  none-more : (n : ℕ) → n ≡ n + 0
  none-more n = omega arith

  one-more : (a b c n : ℕ) → b ≡ a + 1 → c ≡ b + n → c ≡ a + suc n
  one-more a b c n e f = omega arith

  up-to : (a b w : ℕ) → b ≡ a + 1 → (a == w) ≡ false → a < suc w → b < suc w
  up-to a b w e q h = below (λ s. true≢false (sym (eq-eqb a w s) ∙ q))
    where
      below : a ≢ w → b < suc w
      below d = by (leb a w) refl
        where
          by : (c : Bool) → leb a w ≡ c → b < suc w
          by c r = omega arith

  pub record RunTo (copies : List Copy) (first : List ℕ) (n : ℕ) (copy : Copy) (before after : Peer) : Type 0 where
    pub gone : Copy
    pub runs : Runs job.program job.chosen backed rows (slice_set copies number gone) (first_run t n first copy.taken)
    pub taken : gone.taken ≡ copy.taken ++ replicate n t
    pub is : IsCopy job kernel output after gone
    pub stops : StopsStand job kernel (λ (m : ℕ). m ≢ t) after
    pub others : (i : ℕ) → i ≢ t → slice_get after.replica.threads i ≡ slice_get before.replica.threads i
    pub known : (m : ℕ) → is_some (mutex_in after.mutexes m) ≡ is_some (mutex_in before.mutexes m)
    pub backed_is : after.replica.backed ≡ backed
    pub grown : (x : Thread) → slice_get before.replica.threads t ≡ Some x → x.since < suc job.settings.watchdog → (y : Thread) × (slice_get after.replica.threads t ≡ Some y) × (y.since ≡ x.since + n) × (y.since < suc job.settings.watchdog)

  pub leased-runs : (n : ℕ) (copies : List Copy) (first : List ℕ) (peer after : Peer) (copy : Copy) → Runs job.program job.chosen backed rows copies first → slice_get copies number ≡ Some copy → IsCopy job kernel output peer copy → peer.replica.backed ≡ backed → StopsStand job kernel (λ (m : ℕ). m ≢ t) peer
      → leased_run (layout_in job.program kernel) rows job.settings.watchdog n peer t ≡ Some after → RunTo copies first n copy peer after
  leased-runs zero copies first peer after copy runs there c b stops e =
      let same : peer ≡ after = some-injective e in
      record {
        gone = copy;
        runs = subst (λ (cs : List Copy). Runs job.program job.chosen backed rows cs first) (sym (set-same copies number copy there)) runs;
        taken = sym (append-nil copy.taken);
        is = subst (λ (r : Peer). IsCopy job kernel output r copy) same c;
        stops = subst (λ (r : Peer). StopsStand job kernel (λ (m : ℕ). m ≢ t) r) same stops;
        others = λ i d. ap (λ (r : Peer). slice_get r.replica.threads i) (sym same);
        known = λ m. ap (λ (r : Peer). is_some (mutex_in r.mutexes m)) (sym same);
        backed_is = ap (λ (r : Peer). r.replica.backed) (sym same) ∙ b;
        grown = λ x e within. (x, ap (λ (r : Peer). slice_get r.replica.threads t) (sym same) ∙ e, none-more x.since, within);
      }
  leased-runs (suc n) copies first peer after copy runs there c b stops e =
      option_and_then_some (λ mid. leased_run (layout_in job.program kernel) rows job.settings.watchdog n mid t) (leased (layout_in job.program kernel) rows job.settings.watchdog peer t) after e (λ mid f g.
      let o : IsOwnStep job.program job.chosen rows kernel output peer t mid = own-step job.program job.chosen job.one_enters rows kernel output job.settings.watchdog peer mid t c.all (table copies first runs copy there peer c) lives f in
      let to = leased-runs n (slice_set copies number (gone copies first runs copy there peer mid c b o)) (first_after first copy t) mid after (gone copies first runs copy there peer mid c b o) (runs-gone copies first runs copy there peer mid c b o)
      (get-set-same copies number copy _ there) (copy-gone copies first runs copy there peer mid c b o) (o.same_backed ∙ b) (stops-gone copies first runs copy there peer mid c b o stops) g in
      record {
        gone = to.gone;
        runs = subst (λ (cs : List Copy). Runs job.program job.chosen backed rows cs (first_run t n (first_after first copy t) (copy.taken ++ t ∷ []))) (set-set copies number _ to.gone) to.runs;
        taken = to.taken ∙ append_assoc copy.taken (t ∷ []) (replicate n t);
        is = to.is;
        stops = to.stops;
        others = λ i d. to.others i d ∙ o.others i d;
        known = λ m. to.known m ∙ o.known m;
        backed_is = to.backed_is;
        grown = λ x at within.
            let one = o.grown x at in
            let more : one.0.since < suc job.settings.watchdog = up-to x.since one.0.since job.settings.watchdog one.2 (own-watch (layout_in job.program kernel) rows job.settings.watchdog peer mid t x at f) within in
            let rest = to.grown one.0 one.1 more in
            (rest.0, rest.1, one-more x.since one.0.since rest.0.since n one.2 rest.2, rest.3);
      })

-- ---- the stop at which it arrives

-- what keeps each thread's registers
pub kept-cpus : (f : Thread → Thread) → ((x : Thread) → (f x).cpu ≡ x.cpu) → (threads : List Thread) (i : ℕ) → map cpu_in (changed_at f threads i) ≡ map cpu_in threads
kept-cpus f h [] i = refl
kept-cpus f h (x ∷ threads) zero = ap (λ (c : Cpu). c ∷ map cpu_in threads) (h x)
kept-cpus f h (x ∷ threads) (suc i) = ap {B = List Cpu} (λ (r : List Cpu). x.cpu ∷ r) (kept-cpus f h threads i)

module _ (job : Job) (kernel : Kernel) (output : List ℕ) (t count : ℕ) (peer : Peer) (copy : Copy) where
  pub copy-arrived : IsCopy job kernel output peer copy → IsCopy job kernel output (arrived job kernel t count peer) copy
  copy-arrived c = record {
    machine_is = c.machine_is ∙ ap (λ (cpus : List Cpu). record (machine_of kernel output peer) { cpus = cpus }) (sym (kept-cpus (with_stop (arrival job kernel t count peer)) (λ x. refl) peer.replica.threads t));
    ranks = c.ranks;
    fresh = c.fresh;
    all = c.all;
    complete = c.complete;
    all_made = length-changed (with_stop (arrival job kernel t count peer)) peer.replica.threads t ∙ c.all_made;
  }

  own-stop : (b : Bool) (x : Thread) (stop : Stop) → slice_get peer.replica.threads t ≡ Some x → cond b None (voted_at (layout_in job.program kernel) job.settings.watchdog peer t) ≡ Some stop → voted peer.mutexes (standing_in (layout_in job.program kernel) job.settings.watchdog peer.replica x) ≡ Some stop
  own-stop true x stop there e = absurd (let f : None ≡ Some stop = e in cc)
  own-stop false x stop there e = sym (ap (λ (o : Option Thread). voted peer.mutexes (option_and_then (standing_in (layout_in job.program kernel) job.settings.watchdog peer.replica) o)) there) ∙ e

  by-change : (number : ℕ) (thread : Thread) (stop : Stop) → lives_on kernel number ≡ true → thread.stop ≡ Some stop → StopsStand job kernel (λ (m : ℕ). m ≢ t) peer → ChangedFrom (with_stop (arrival job kernel t count peer)) peer.replica.threads t number thread
      → voted peer.mutexes (standing_in (layout_in job.program kernel) job.settings.watchdog (arrived job kernel t count peer).replica thread) ≡ Some stop
  by-change number thread stop alive stopped stops (unchanged d e) = stops number thread stop d alive e stopped
  by-change number thread stop alive stopped stops (changed_here x d e g) =
      ap (λ (y : Thread). voted peer.mutexes (standing_in (layout_in job.program kernel) job.settings.watchdog peer.replica y)) (sym g)
      ∙ own-stop (count == job.settings.quantum) x stop (ap (slice_get peer.replica.threads) (sym d) ∙ e) (ap (λ (y : Thread). y.stop) g ∙ stopped)

  pub stops-arrived : StopsStand job kernel (λ (m : ℕ). m ≢ t) peer → StopsStand job kernel AnyThread (arrived job kernel t count peer)
  stops-arrived stops number thread stop any alive there stopped = by-change number thread stop alive stopped stops (get-changed _ peer.replica.threads t number thread there)
