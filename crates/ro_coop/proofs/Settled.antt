-- At an event of a thread that is stopped in every peer, all peers agree on whether its reservation has ended; so the core's kernel may know of it.
use Rattle.std.specs.Prelude.{◌≡◌, ◌≢◌, ℕ, Bool, true, false, cond, if◌then◌else◌, List, [], ◌∷◌, length, map, Option, Some, None, slice_get}
use Rattle.std.specs.Option.{option_map_or}
use Rattle.std.proofs.Common.{refl, sym, ap, ap₂, ◌∙◌, subst, ⊎_elim}
use Rattle.std.proofs.lemmas.Bool.{cases_eq, eq-eqb}
use Rattle.std.proofs.lemmas.List.{get_or-set_other, length-set}
use Rattle.ro_event.specs.declared.calls.Call.{Call}
use Rattle.ro_kernel.specs.declared.reservations.Reservation.{Reservation}
use Rattle.ro_kernel.specs.Kernel.{Kernel, ranges_in, released, lives_on}
use Rattle.ro_kernel.specs.Reserved.{reservation_of}
use Rattle.ro_plain.specs.Machine.{Program, setup_of, Machine, step, run}
use Rattle.ro_plain.specs.Order.{RaceFree}
use Rattle.ro_plain.proofs.Ahead.{Without}
use Rattle.ro_plain.proofs.Calls.{some-injective}
use Rattle.ro_plain.proofs.Commute.{plain-step}
use Rattle.ro_legal.proofs.Lists.{get-map, MappedFrom}
use Rattle.ro_orders.specs.Turns.{Chosen, is_cooperative, Turn, Serves, turn_of, OfKernel, takes, order_of, TakesByLocks}
use Rattle.ro_orders.specs.Copies.{Copy, Rows, IsFirst}
use Rattle.ro_orders.proofs.Owners.{differs}
use Rattle.ro_orders.proofs.Unserved.{UnservedStep, is_plain, is_mutex, unserved-step}
use Rattle.ro_orders.proofs.Orders.{run-head, order-cons, nil-parts, not-who_takes}
use Rattle.ro_orders.proofs.Copies.{runs-first}
use Rattle.ro_peer.specs.declared.mutexes.Mutex.{Mutex}
use Rattle.ro_peer.specs.Peers.{Peer, mutex_in, with_mutexes, reserved_still, kernel_in, machine_of}
use Rattle.ro_peer.specs.Events.{unanswered}
use Rattle.ro_coop.specs.Core.{Job, Core, ranges_here, kernel_for, settled, Steps}
use Rattle.ro_coop.specs.Stuck.{Stopped}
use Rattle.ro_coop.proofs.Ended.{Reservations, kept_one, same-list, still-length, still-get, none-set, ended, coop-one}
use Rattle.ro_coop.proofs.Tables.{AllCooperative, kernel-in}
use Rattle.ro_coop.proofs.Lists.{each-get, each-back, each-map}
use Rattle.ro_coop.proofs.Holds.{Common, Tied, IsWaiting, AllLent, Going}
use Rattle.ro_coop.proofs.Alike.{apart}

-- ---- a thread's reservation stays while others take steps of their own

module _ (program : Program) (chosen : Chosen) (t : ℕ) where
  reserved-one : (machine after : Machine) (x : ℕ) → x ≢ t → step program machine x ≡ Some after → UnservedStep program chosen machine x after → reservation_of after.kernel.reserved t ≡ reservation_of machine.kernel.reserved t
  reserved-one machine after x different steps (is_plain p) =
      ap (λ (m : Machine). reservation_of m.kernel.reserved t) (some-injective (sym steps ∙ plain-step program machine x p))
  reserved-one machine after x different steps (is_mutex h coop a) =
      ap (λ (m : Machine). reservation_of m.kernel.reserved t) a.after_is ∙ get_or-set_other machine.kernel.reserved x t None None (λ e. different (sym e))

  pub reserved-along : (machine end : Machine) (xs : List ℕ) → Without t xs → run program machine xs ≡ Some end → order_of program chosen OfKernel machine xs ≡ [] → reservation_of end.kernel.reserved t ≡ reservation_of machine.kernel.reserved t
  reserved-along machine end [] without runs quiet = ap (λ (m : Machine). reservation_of m.kernel.reserved t) (sym (some-injective runs))
  reserved-along machine end (x ∷ xs) without runs quiet =
      let h = run-head program machine end x xs runs in
      let heads = nil-parts _ _ (sym (order-cons program chosen OfKernel machine h.after x xs h.steps) ∙ quiet) in
      let unserved : turn_of program chosen machine x ≢ Serves = λ e. not-who_takes (takes (turn_of program chosen machine x) OfKernel) x heads.0 (ap (λ (turn : Turn). takes turn OfKernel) e) in
      reserved-along h.after end xs without.1 h.rest heads.1
      ∙ reserved-one machine h.after x without.0 h.steps (unserved-step program chosen machine h.after x h.steps unserved)

-- ---- the kernel that serves the thread

abbrev pub kernel_by : Bool → Kernel → (t : ℕ) → Kernel
kernel_by b kernel t = if b then released kernel t else kernel

by-own : (b : Bool) (kernel : Kernel) (t : ℕ) → reservation_of (kernel_by b kernel t).reserved t ≡ kept_one b (reservation_of kernel.reserved t)
by-own true kernel t = none-set kernel.reserved t
by-own false kernel t = refl

by-other : (b : Bool) (kernel : Kernel) (t u : ℕ) → u ≢ t → reservation_of (kernel_by b kernel t).reserved u ≡ reservation_of kernel.reserved u
by-other true kernel t u different = get_or-set_other kernel.reserved t u None None different
by-other false kernel t u different = refl

by-length : (b : Bool) (kernel : Kernel) (t : ℕ) → length (kernel_by b kernel t).reserved ≡ length kernel.reserved
by-length true kernel t = length-set kernel.reserved t None
by-length false kernel t = refl

by-reserved : (b : Bool) (kernel : Kernel) (t : ℕ) (e : ℕ → Bool) → ended e (kernel_by b kernel t) ≡ record kernel { reserved = reserved_still e 0 (kernel_by b kernel t).reserved }
by-reserved true kernel t e = refl
by-reserved false kernel t e = refl

pub by-ranges : (b : Bool) (program : Program) (kernel : Kernel) (t : ℕ) → ranges_in (setup_of program) (kernel_by b kernel t) ≡ ranges_in (setup_of program) kernel
by-ranges true program kernel t = refl
by-ranges false program kernel t = refl

pub by-lives : (b : Bool) (kernel : Kernel) (t u : ℕ) → lives_on (kernel_by b kernel t) u ≡ lives_on kernel u
by-lives true kernel t u = refl
by-lives false kernel t u = refl

-- ---- as a peer sees it, it is as it was

module _ (b : Bool) (kernel : Kernel) (t : ℕ) (peer : Peer) (alike : kept_one b (reservation_of kernel.reserved t) ≡ kept_one (peer.answered t) (reservation_of kernel.reserved t)) where
  abbrev later : ℕ → Bool
  later = (unanswered t peer).answered

  at-one : (u : ℕ) → kept_one (peer.answered u) (reservation_of kernel.reserved u) ≡ kept_one (later u) (reservation_of (kernel_by b kernel t).reserved u)
  at-one u =
      ⊎_elim
      (λ (same : u ≡ t).
      ap (λ (v : ℕ). kept_one (peer.answered v) (reservation_of kernel.reserved v)) same
      ∙ (sym alike
      ∙ (sym (by-own b kernel t)
      ∙ (sym (ap (λ (c : Bool). kept_one (cond c false (peer.answered t)) (reservation_of (kernel_by b kernel t).reserved t)) (eq-eqb t t refl))
      ∙ ap (λ (v : ℕ). kept_one (later v) (reservation_of (kernel_by b kernel t).reserved v)) (sym same)))))
      (λ (different : u ≢ t).
      sym (ap₂ (λ (c : Bool) (r : Option Reservation). kept_one (cond c false (peer.answered u)) r) (differs u t different) (by-other b kernel t u different)))
      (cases_eq u t)

  same-reserved : reserved_still peer.answered 0 kernel.reserved ≡ reserved_still later 0 (kernel_by b kernel t).reserved
  same-reserved =
      same-list _ _ (still-length peer.answered 0 kernel.reserved ∙ (sym (by-length b kernel t) ∙ sym (still-length later 0 (kernel_by b kernel t).reserved)))
      (λ u. still-get peer.answered kernel.reserved u ∙ (at-one u ∙ sym (still-get later (kernel_by b kernel t).reserved u)))

  pub same-kernel : kernel_in kernel peer ≡ kernel_in (kernel_by b kernel t) (unanswered t peer)
  same-kernel =
      kernel-in kernel peer
      ∙ (ap (λ (rs : Reservations). with_mutexes (record kernel { reserved = rs }) peer.mutexes) same-reserved
      ∙ (ap (λ (k : Kernel). with_mutexes k peer.mutexes) (sym (by-reserved b kernel t later))
      ∙ sym (kernel-in (kernel_by b kernel t) (unanswered t peer))))

-- ---- a core

module _ (job : Job) where
  all-by : (b : Bool) (kernel : Kernel) (t : ℕ) (mutexes : List Mutex) → AllCooperative job.chosen kernel mutexes → AllCooperative job.chosen (kernel_by b kernel t) mutexes
  all-by false kernel t mutexes all = all
  all-by true kernel t [] all = tt
  all-by true kernel t (m ∷ mutexes) all = (coop-one job.chosen job.one_enters kernel t m.address ∙ all.0, all-by true kernel t mutexes all.1)

  complete-by : (b : Bool) (kernel : Kernel) (t : ℕ) (mutexes : List Mutex) → ((a : ℕ) → is_cooperative job.chosen kernel a ≡ true → (x : Mutex) × (mutex_in mutexes a ≡ Some x)) → (a : ℕ) → is_cooperative job.chosen (kernel_by b kernel t) a ≡ true → (x : Mutex) × (mutex_in mutexes a ≡ Some x)
  complete-by true kernel t mutexes complete a h = complete a (sym (coop-one job.chosen job.one_enters kernel t a) ∙ h)
  complete-by false kernel t mutexes complete a h = complete a h

  waiting-by : (b : Bool) (kernel : Kernel) (t u : ℕ) (call : Call) → IsWaiting kernel u call → IsWaiting (kernel_by b kernel t) u call
  waiting-by true kernel t u call w = record { lives = w.lives; no_write = w.no_write; no_atomic = w.no_atomic; in_table = w.in_table; begun = w.begun }
  waiting-by false kernel t u call w = w

  module _ (common : Common) (kernel : Kernel) (output : List ℕ) (blocked : ℕ → Option Call) (taken : ℕ → List ℕ) (number t : ℕ) (peer : Peer) (copy : Copy) (p : Tied job common kernel output blocked taken number peer copy) where
    tied-by : (b : Bool) → kernel_in kernel peer ≡ kernel_in (kernel_by b kernel t) (unanswered t peer) → Tied job common (kernel_by b kernel t) output blocked taken number (unanswered t peer) copy
    tied-by true same = record {
      is = record {
        machine_is = p.is.machine_is ∙ ap (λ (k : Kernel). record (machine_of kernel output peer) { kernel = k }) same;
        ranks = p.is.ranks;
        fresh = p.is.fresh;
        all = all-by true kernel t peer.mutexes p.is.all;
        complete = complete-by true kernel t peer.mutexes p.is.complete;
        all_made = p.is.all_made;
      };
      taken_is = p.taken_is;
      stops = p.stops;
      waits = p.waits;
      backed_is = p.backed_is;
      counted = p.counted;
      unmade = p.unmade;
    }
    tied-by false same = record {
      is = record {
        machine_is = p.is.machine_is ∙ ap (λ (k : Kernel). record (machine_of kernel output peer) { kernel = k }) same;
        ranks = p.is.ranks;
        fresh = p.is.fresh;
        all = p.is.all;
        complete = p.is.complete;
        all_made = p.is.all_made;
      };
      taken_is = p.taken_is;
      stops = p.stops;
      waits = p.waits;
      backed_is = p.backed_is;
      counted = p.counted;
      unmade = p.unmade;
    }

module _ (job : Job) (rows : Rows) (free : RaceFree job.program) (lacks : TakesByLocks job.program job.chosen) (core : Core) (s : Steps) (g : Going job rows core s) (nothing_lent : core.leases ≡ []) (t : ℕ) (lives : lives_on core.kernel t ≡ true) (stopped : (n : ℕ) (peer : Peer) → slice_get core.peers n ≡ Some peer → Stopped peer t) where
  abbrev first : IsFirst job.program job.chosen g.common.backed rows g.copies s.first
  first = runs-first job.program job.chosen free lacks g.common.backed rows g.runs

  -- each peer's is that of the first steps
  as-first : (n : ℕ) (r : Peer) (c : Copy) → slice_get core.peers n ≡ Some r → slice_get g.copies n ≡ Some c → Tied job g.common core.kernel core.output core.blocked s.taken n r c → kept_one (r.answered t) (reservation_of core.kernel.reserved t) ≡ reservation_of first.machine.kernel.reserved t
  as-first n r c e k p =
      let x = stopped n r e in
      let b = first.behind n c k in
      sym (still-get r.answered core.kernel.reserved t)
      ∙ (ap (λ (m : Machine). reservation_of m.kernel.reserved t) (sym p.is.machine_is)
      ∙ sym (reserved-along job.program job.chosen t c.machine first.machine b.rest (apart job rows free lacks core s g t lives n r c k p x.0 x.1 x.2 x.3) b.runs b.unserved))

  -- so any two leave the same of the thread's reservation
  pub reserved-alike : (n m : ℕ) (one other : Peer) → slice_get core.peers n ≡ Some one → slice_get core.peers m ≡ Some other → kept_one (one.answered t) (reservation_of core.kernel.reserved t) ≡ kept_one (other.answered t) (reservation_of core.kernel.reserved t)
  reserved-alike n m one other e f =
      let a = each-get _ core.peers g.copies g.each n one e in
      let b = each-get _ core.peers g.copies g.each m other f in
      as-first n one a.0 e a.1 a.2 ∙ sym (as-first m other b.0 f b.1 b.2)

  zeroth : (r : Peer) × (slice_get core.peers 0 ≡ Some r) × Tied job g.common core.kernel core.output core.blocked s.taken 0 r first.some_copy.0
  zeroth = each-back _ core.peers g.copies g.each 0 first.some_copy.0 first.some_copy.1

  abbrev ends : Bool
  ends = zeroth.0.answered t

  for-is : kernel_for core t ≡ kernel_by ends core.kernel t
  for-is = ap (λ (o : Option Peer). option_map_or (λ (peer : Peer). if peer.answered t then released core.kernel t else core.kernel) o core.kernel) zeroth.1

  same : (n : ℕ) (r : Peer) (c : Copy) → slice_get core.peers n ≡ Some r → slice_get g.copies n ≡ Some c → Tied job g.common core.kernel core.output core.blocked s.taken n r c → kernel_in core.kernel r ≡ kernel_in (kernel_by ends core.kernel t) (unanswered t r)
  same n r c e k p =
      same-kernel ends core.kernel t r (as-first 0 zeroth.0 first.some_copy.0 zeroth.1 first.some_copy.1 zeroth.2 ∙ sym (as-first n r c e k p))

  -- a peer sees the same kernel
  pub settled-kernel : (n : ℕ) (r : Peer) (c : Copy) → slice_get core.peers n ≡ Some r → slice_get g.copies n ≡ Some c → Tied job g.common core.kernel core.output core.blocked s.taken n r c → kernel_in core.kernel r ≡ kernel_in (kernel_for core t) (unanswered t r)
  settled-kernel n r c e k p = same n r c e k p ∙ ap (λ (w : Kernel). kernel_in w (unanswered t r)) (sym for-is)

  pub settled-all : (mutexes : List Mutex) → AllCooperative job.chosen core.kernel mutexes → AllCooperative job.chosen (kernel_for core t) mutexes
  settled-all mutexes all = subst (λ (k : Kernel). AllCooperative job.chosen k mutexes) (sym for-is) (all-by job ends core.kernel t mutexes all)

  pub settled-holds : Going job rows (settled core t) s
  settled-holds = subst (λ (k : Kernel). Going job rows (record core { peers = map (unanswered t) core.peers; kernel = k }) s) (sym for-is) (record {
    common = g.common;
    copies = g.copies;
    runs = g.runs;
    each = each-map _ _ (unanswered t) core.peers g.copies g.each (λ n r c e k p. tied-by job g.common core.kernel core.output core.blocked s.taken n t r c p ends (same n r c e k p));
    waiting = λ u call e. waiting-by job ends core.kernel t u call (g.waiting u call e);
    lent = subst (AllLent (kernel_by ends core.kernel t) core.blocked) (sym nothing_lent) tt;
    not_due = g.not_due;
    no_outcome = g.no_outcome;
  })

  pub settled-ranges : ranges_here job (settled core t) ≡ ranges_here job core
  settled-ranges = ap (ranges_in (setup_of job.program)) for-is ∙ by-ranges ends job.program core.kernel t

  pub settled-lives : (u : ℕ) → lives_on (settled core t).kernel u ≡ lives_on core.kernel u
  settled-lives u = ap (λ (k : Kernel). lives_on k u) for-is ∙ by-lives ends core.kernel t u

-- a peer of the settled core is one of the core, without that answer
pub settled-peer : (core : Core) (t n : ℕ) (peer : Peer) → slice_get (settled core t).peers n ≡ Some peer → MappedFrom (unanswered t) core.peers n peer
settled-peer core t n peer e = get-map (unanswered t) core.peers n peer e

pub settled-none : (core : Core) (t n : ℕ) (peer : Peer) → slice_get (settled core t).peers n ≡ Some peer → peer.answered t ≡ false
settled-none core t n peer e =
    let m = settled-peer core t n peer e in
    ap (λ (p : Peer). p.answered t) (sym m.gives) ∙ ap (λ (b : Bool). cond b false (m.from.answered t)) (eq-eqb t t refl)
