-- Where nothing can be done any more, every peer is the machine of the first steps, and none of its threads has a step.
use Rattle.std.specs.Prelude.{◌≡◌, ◌≢◌, ℕ, ◌<◌, Bool, true, false, cond, List, [], ◌∷◌, ◌++◌, length, Option, Some, None, slice_get}
use Rattle.std.specs.Option.{option_map_or}
use Rattle.std.proofs.Common.{refl, sym, ap, ◌∙◌, subst, arith, ⊎_elim, append-nil}
use Rattle.std.proofs.lemmas.Bool.{false≢true, eq-eqb}
use Rattle.std.proofs.lemmas.Option.{option_and_then_some}
use Rattle.ro_event.specs.declared.calls.Call.{Call}
use Rattle.ro_event.specs.declared.stops.Stop.TheVariants.{Calls}
use Rattle.ro_exec.specs.declared.Cpu.{Cpu}
use Rattle.ro_exec.specs.Next.{Layout, next}
use Rattle.ro_exec.proofs.Backing.{a_call, stands-backed}
use Rattle.ro_kernel.specs.declared.Life.{Life}
use Rattle.ro_kernel.specs.Kernel.{Kernel, live_option, lives_on}
use Rattle.ro_kernel.specs.Serve.{Served, Done, Parked, Blocked, Ends, serve, is_blocked, put_out, asked}
use Rattle.ro_kernel.proofs.TableFits.{TableFits}
use Rattle.ro_kernel.proofs.Words.{asked-same}
use Rattle.ro_plain.specs.Machine.{Program, layout_in, setup_of, payload_in, Machine, opening, called, next_of, step_by, steppable, step, run}
use Rattle.ro_plain.specs.Order.{RaceFree}
use Rattle.ro_plain.proofs.Ahead.{Without}
use Rattle.ro_plain.proofs.Calls.{some-injective, steppable-parts, step-at, step-opens}
use Rattle.ro_plain.proofs.Swap.{slice_get-seam}
use Rattle.ro_orders.specs.Turns.{is_cooperative, Turn, Alone, Gets, Serves, turn_of, OfMutex, OfKernel, takes, who_takes, order_of, TakesByLocks}
use Rattle.ro_orders.specs.Answers.{Answers, Waits, answer_by}
use Rattle.ro_orders.specs.Copies.{Copy, Rows, IsBehind, IsFirst}
use Rattle.ro_orders.proofs.Mutexes.{is-mutex-call, got-lock}
use Rattle.ro_orders.proofs.Steps.{AtMutex, answer_at, step-waits, turn-answered}
use Rattle.ro_orders.proofs.Orders.{run-head, order-cons, nil-parts, not-who_takes}
use Rattle.ro_orders.proofs.Copies.{runs-first}
use Rattle.ro_peer.specs.declared.mutexes.Mutex.{Mutex}
use Rattle.ro_peer.specs.Peers.{Peer, mutex_in, is_row, kernel_in, machine_of}
use Rattle.ro_peer.specs.Events.{unanswered}
use Rattle.ro_legal.specs.Sides.{rank_in}
use Rattle.ro_coop.specs.Core.{Job, Core, layout_here, kernel_for, Steps}
use Rattle.ro_coop.specs.Stuck.{Stopped, Lags, IsNotIts, WaitsAtLock, IsStuck}
use Rattle.ro_coop.proofs.Ended.{ended_served}
use Rattle.ro_coop.proofs.Tables.{listed-coop, served_with, lives-in, layout-in, coop-in, owner-in, serve-in}
use Rattle.ro_coop.proofs.Leases.{live-in, answers-fit}
use Rattle.ro_coop.proofs.Puts.{table}
use Rattle.ro_coop.proofs.Events.{avoid-asked}
use Rattle.ro_coop.proofs.Standing.{next-here, live-here, turn-here, avoids-here}
use Rattle.ro_coop.proofs.Lists.{each-get, each-back}
use Rattle.ro_coop.proofs.Holds.{Tied, Going}
use Rattle.ro_coop.proofs.Alike.{apart}
use Rattle.ro_coop.proofs.Settled.{settled-kernel, settled-all}

-- a thread that has a step lives
lives-of-step : (program : Program) (kernel : Kernel) (output : List ℕ) (peer : Peer) (t : ℕ) (after : Machine) → step program (machine_of kernel output peer) t ≡ Some after → lives_on kernel t ≡ true
lives-of-step program kernel output peer t after e =
    option_and_then_some (λ cpu. step_by program (machine_of kernel output peer) t cpu (next_of program (machine_of kernel output peer) cpu)) (steppable (machine_of kernel output peer) t) after (step-opens program (machine_of kernel output peer) t after e)
    (λ cpu live f. sym (ap (λ (l : List Life). live_option (slice_get l t)) (lives-in kernel peer)) ∙ (steppable-parts (machine_of kernel output peer) t cpu live).live)

module _ (job : Job) (rows : Rows) (free : RaceFree job.program) (lacks : TakesByLocks job.program job.chosen) (core : Core) (s : Steps) (g : Going job rows core s) (stuck : IsStuck job rows core) where
  abbrev pub first : IsFirst job.program job.chosen g.common.backed rows g.copies s.first
  first = runs-first job.program job.chosen free lacks g.common.backed rows g.runs

  -- ---- a thread that waits at a lock

  module _ (n : ℕ) (r : Peer) (c : Copy) (k : slice_get g.copies n ≡ Some c) (p : Tied job g.common core.kernel core.output core.blocked s.taken n r c) (t : ℕ) (lives : lives_on core.kernel t ≡ true) (w : WaitsAtLock (layout_here job core) rows core.peers r t) (after : Machine) (steps : step job.program (machine_of core.kernel core.output r) t ≡ Some after) where
    abbrev at_lock : AtMutex job.program (machine_of core.kernel core.output r) t
    at_lock = record {
      cpu = w.thread.cpu;
      call = w.call;
      owner = w.mutex.owner;
      live = live-in core.kernel core.output r t w.thread w.there lives;
      stands = stands-backed (layout_in job.program (kernel_in core.kernel r)) r.replica.backed r.replica.memory w.thread.cpu (Calls w.call) a_call
          (ap (λ (l : Layout). next l r.replica.backed r.replica.memory w.thread.cpu) (layout-in job.program core.kernel r) ∙ w.stands);
      on_mutex = is-mutex-call w.call.which w.is_mutex;
      owned = owner-in job.chosen job.one_enters core.kernel r p.is.all w.call.a0 w.mutex w.listed;
    }

    coop_there : is_cooperative job.chosen (kernel_in core.kernel r) w.call.a0 ≡ true
    coop_there = coop-in job.chosen job.one_enters core.kernel r p.is.all w.call.a0 ∙ listed-coop job.chosen core.kernel r.mutexes p.is.all w.call.a0 w.mutex w.listed

    fits_there : TableFits (setup_of job.program) (kernel_in core.kernel r)
    fits_there = table job rows free lacks g.common.backed core.kernel core.output n t lives g.copies s.first g.runs c k r p.is

    answer_there : answer_at job.program (machine_of core.kernel core.output r) t at_lock ≡ answer_by w.call.which t w.mutex.owner
    answer_there = answers-fit job.program core.kernel core.output r t at_lock fits_there

    -- since it has a step, it would get the mutex
    gets-it : (turn_of job.program job.chosen (machine_of core.kernel core.output r) t ≡ Gets w.call.a0) × IsNotIts rows core.peers w.call.a0 w.mutex.rank t
    gets-it =
        ⊎_elim
        (λ (e : answer_by w.call.which t w.mutex.owner ≡ Waits). absurd (let f : None ≡ Some after = sym (step-waits job.program (machine_of core.kernel core.output r) t at_lock (answer_there ∙ e)) ∙ steps in cc))
        (λ (e : IsNotIts rows core.peers w.call.a0 w.mutex.rank t × ((value : ℕ) × (answer_by w.call.which t w.mutex.owner ≡ Answers (Some (Some t)) value))). (
          turn-answered job.program (machine_of core.kernel core.output r) t at_lock job.chosen (Some (Some t)) e.1.0 coop_there (answer_there ∙ e.1.1)
              ∙ ap (λ (b : Bool). cond b (Gets w.call.a0) Alone) (got-lock true t w.mutex.owner e.1.0 (is-mutex-call w.call.which w.is_mutex) e.1.1),
          e.0,
        ))
        w.waits

  -- ---- no copy is behind

  module _ (n : ℕ) (r : Peer) (c : Copy) (e : slice_get core.peers n ≡ Some r) (k : slice_get g.copies n ≡ Some c) (p : Tied job g.common core.kernel core.output core.blocked s.taken n r c) where
    abbrev pub b : IsBehind job.program job.chosen g.common.backed s.first first.machine c
    b = first.behind n c k

    module _ (x : ℕ) (xs : List ℕ) (is : b.rest ≡ x ∷ xs) where
      head : (after : Machine) × (step job.program c.machine x ≡ Some after)
      head = let h = run-head job.program c.machine first.machine x xs (ap (run job.program c.machine) (sym is) ∙ b.runs) in (h.after, h.steps)

      steps : step job.program (machine_of core.kernel core.output r) x ≡ Some head.0
      steps = ap (λ (m : Machine). step job.program m x) (sym p.is.machine_is) ∙ head.1

      lives : lives_on core.kernel x ≡ true
      lives = lives-of-step job.program core.kernel core.output r x head.0 steps

      unserved : turn_of job.program job.chosen (machine_of core.kernel core.output r) x ≢ Serves
      unserved f =
          let parts = nil-parts _ _ (sym (order-cons job.program job.chosen OfKernel c.machine head.0 x xs head.1) ∙ (ap (order_of job.program job.chosen OfKernel c.machine) (sym is) ∙ b.unserved)) in
          not-who_takes (takes (turn_of job.program job.chosen c.machine x) OfKernel) x parts.0 (ap (λ (turn : Turn). takes turn OfKernel) (ap (λ (m : Machine). turn_of job.program job.chosen m x) p.is.machine_is ∙ f))

      no-stop : Stopped r x → ⊥
      no-stop y = (subst (Without x) is (apart job rows free lacks core s g x lives n r c k p y.0 y.1 y.2 y.3)).0 refl

      no-lock : WaitsAtLock (layout_here job core) rows core.peers r x → ⊥
      no-lock w =
          let a = gets-it n r c k p x lives w head.0 steps in
          let turn : turn_of job.program job.chosen c.machine x ≡ Gets w.call.a0 = ap (λ (m : Machine). turn_of job.program job.chosen m x) p.is.machine_is ∙ a.0 in
          let next_one : order_of job.program job.chosen (OfMutex w.call.a0) c.machine b.rest ≡ x ∷ order_of job.program job.chosen (OfMutex w.call.a0) head.0 xs =
          ap (order_of job.program job.chosen (OfMutex w.call.a0) c.machine) is
          ∙ (order-cons job.program job.chosen (OfMutex w.call.a0) c.machine head.0 x xs head.1
          ∙ (ap (λ (turn : Turn). who_takes turn (OfMutex w.call.a0) x ++ order_of job.program job.chosen (OfMutex w.call.a0) head.0 xs) turn
          ∙ ap (λ (z : Bool). cond z (x ∷ []) [] ++ order_of job.program job.chosen (OfMutex w.call.a0) head.0 xs) (eq-eqb w.call.a0 w.call.a0 refl))) in
          let row : rows w.call.a0 (length (c.got w.call.a0)) ≡ Some x =
          first.in_rows w.call.a0 (length (c.got w.call.a0)) x
          (ap (λ (o : List ℕ). slice_get o (length (c.got w.call.a0))) (b.got w.call.a0 ∙ ap (λ (o : List ℕ). c.got w.call.a0 ++ o) next_one) ∙ slice_get-seam (c.got w.call.a0) x _) in
          false≢true (sym a.1.0 ∙ (ap (λ (o : Option ℕ). is_row o x) (ap (rows w.call.a0) (sym (p.is.ranks w.call.a0 w.mutex w.listed)) ∙ row) ∙ eq-eqb x x refl))

      no-head : ⊥
      no-head = by (core.blocked x) refl
        where
          by : (o : Option Call) → core.blocked x ≡ o → ⊥
          by (Some call) f = let y = p.waits x call f in unserved (turn-here job lacks core.kernel core.output r c p.is p.stops x lives y.0 y.1 (Calls call) y.2 a_call)
          by None f = ⊎_elim no-stop no-lock (stuck.none_lent x lives f n r e)

    nothing-behind : b.rest ≡ []
    nothing-behind = by b.rest refl
      where
        by : (rest : List ℕ) → b.rest ≡ rest → b.rest ≡ []
        by [] f = f
        by (x ∷ xs) f = absurd (no-head x xs f)

    is-first : machine_of core.kernel core.output r ≡ first.machine
    is-first = sym p.is.machine_is ∙ some-injective (sym (ap (run job.program c.machine) nothing-behind) ∙ b.runs)

    -- who got the mutex in it are all that got it
    all-got : (m : ℕ) → order_of job.program job.chosen (OfMutex m) (opening job.program) s.first ≡ c.got m
    all-got m = b.got m ∙ (ap (λ (o : List ℕ). c.got m ++ order_of job.program job.chosen (OfMutex m) c.machine o) nothing-behind ∙ append-nil (c.got m))

  -- as often as the mutex's rank says
  rank-got : (n : ℕ) (r : Peer) (c : Copy) → Tied job g.common core.kernel core.output core.blocked s.taken n r c → (a : ℕ) → length (c.got a) ≡ rank_in r.mutexes a
  rank-got n r c p a = by (mutex_in r.mutexes a) refl
    where
      by : (o : Option Mutex) → mutex_in r.mutexes a ≡ o → length (c.got a) ≡ option_map_or (λ m. m.rank) o 0
      by None e = ap length (p.is.fresh a e)
      by (Some m) e = p.is.ranks a m e

  -- it was got as often in any two copies
  both-got : (n m : ℕ) (r q : Peer) (c d : Copy) → slice_get core.peers n ≡ Some r → slice_get core.peers m ≡ Some q → slice_get g.copies n ≡ Some c → slice_get g.copies m ≡ Some d
      → Tied job g.common core.kernel core.output core.blocked s.taken n r c → Tied job g.common core.kernel core.output core.blocked s.taken m q d → (a : ℕ) → length (c.got a) ≡ length (d.got a)
  both-got n m r q c d e f k l p t a = ap length (sym (all-got n r c e k p a) ∙ all-got m q d f l t a)

  -- ---- no thread has a step

  module _ (t : ℕ) (after : Machine) (steps : step job.program first.machine t ≡ Some after) where
    zeroth : (r : Peer) × (slice_get core.peers 0 ≡ Some r) × Tied job g.common core.kernel core.output core.blocked s.taken 0 r first.some_copy.0
    zeroth = each-back _ core.peers g.copies g.each 0 first.some_copy.0 first.some_copy.1

    steps-in : (n : ℕ) (r : Peer) (c : Copy) → slice_get core.peers n ≡ Some r → slice_get g.copies n ≡ Some c → Tied job g.common core.kernel core.output core.blocked s.taken n r c → step job.program (machine_of core.kernel core.output r) t ≡ Some after
    steps-in n r c e k p = ap (λ (m : Machine). step job.program m t) (is-first n r c e k p) ∙ steps

    alive : lives_on core.kernel t ≡ true
    alive = lives-of-step job.program core.kernel core.output zeroth.0 t after (steps-in 0 zeroth.0 first.some_copy.0 zeroth.1 first.some_copy.1 zeroth.2)

    blocked-none : (served : Served) → is_blocked served ≡ true → (machine : Machine) (cpu : Cpu) (bytes : List ℕ) (mutexes : List Mutex) (e : ℕ → Bool) → called machine cpu bytes (served_with mutexes (ended_served e served)) ≡ None
    blocked-none (Done kernel effect) h machine cpu bytes mutexes e = absurd (false≢true h)
    blocked-none (Parked kernel) h machine cpu bytes mutexes e = absurd (false≢true h)
    blocked-none Blocked h machine cpu bytes mutexes e = refl
    blocked-none (Ends kernel how) h machine cpu bytes mutexes e = absurd (false≢true h)

    module _ (call : Call) (f : core.blocked t ≡ Some call) where
      stopped-there : (n : ℕ) (peer : Peer) → slice_get core.peers n ≡ Some peer → Stopped peer t
      stopped-there n peer e = let h = each-get _ core.peers g.copies g.each n peer e in let y = h.2.waits t call f in (y.0, y.1, Calls call, y.2)

      no-free : ⊥
      no-free =
          let r = zeroth.0 in
          let p = zeroth.2 in
          let c = first.some_copy.0 in
          let y = p.waits t call f in
          let found = payload_in job.program (machine_of core.kernel core.output r) call in
          let served : serve (setup_of job.program) (kernel_in core.kernel r) t (asked call found) ≡ served_with r.mutexes (ended_served (unanswered t r).answered (serve (setup_of job.program) (kernel_for core t) t call)) =
          ap (λ (k : Kernel). serve (setup_of job.program) k t (asked call found)) (settled-kernel job rows free lacks core s g stuck.nothing_lent t alive stopped-there 0 r c zeroth.1 first.some_copy.1 p)
          ∙ (serve-in job.chosen job.one_enters (kernel_for core t) (unanswered t r) (settled-all job rows free lacks core s g stuck.nothing_lent t alive stopped-there r.mutexes p.is.all) (setup_of job.program) t (asked call found)
          (avoid-asked call found r.mutexes (avoids-here job lacks core.kernel core.output r c p.is p.stops t alive y.0 y.1 (Calls call) y.2 call refl))
          (ap (λ (b : Bool). cond b false (r.answered t)) (eq-eqb t t refl))
          ∙ ap (λ (k : Call). served_with r.mutexes (ended_served (unanswered t r).answered (serve (setup_of job.program) (kernel_for core t) t k))) (asked-same call found (g.waiting t call f).no_atomic)) in
          let none : step job.program (machine_of core.kernel core.output r) t ≡ None =
          step-at job.program (machine_of core.kernel core.output r) t y.0.cpu (live-here job lacks core.kernel core.output r c p.is p.stops t alive y.0 y.1 (Calls call) y.2)
          ∙ (ap (step_by job.program (machine_of core.kernel core.output r) t y.0.cpu) (next-here job lacks core.kernel core.output r c p.is p.stops t alive y.0 y.1 (Calls call) y.2 a_call)
          ∙ (ap (called (machine_of core.kernel core.output r) y.0.cpu (put_out call.which found)) served
          ∙ blocked-none (serve (setup_of job.program) (kernel_for core t) t call) (stuck.none_free t call f) (machine_of core.kernel core.output r) y.0.cpu (put_out call.which found) r.mutexes (unanswered t r).answered)) in
          let z : None ≡ Some after = sym none ∙ steps-in 0 r c zeroth.1 first.some_copy.1 p in cc

    no-wait : core.blocked t ≡ None → ⊥
    no-wait f =
        let q = stuck.none_voted t alive f in
        let h = each-get _ core.peers g.copies g.each q.0 q.1 q.2 in
        let a = gets-it q.0 q.1 h.0 h.1 h.2 t alive q.3 after (steps-in q.0 q.1 h.0 q.2 h.1 h.2) in
        ⊎_elim
        (λ (row : (u : ℕ) × (rows q.3.call.a0 q.3.mutex.rank ≡ Some u)).
        let o = stuck.all_taken q.3.call.a0 q.3.mutex.rank row.0 row.1 in
        let i = each-get _ core.peers g.copies g.each o.0 o.1 o.2 in
        too-long (length (h.0.got q.3.call.a0)) (length (i.0.got q.3.call.a0)) q.3.mutex.rank (rank_in o.1.mutexes q.3.call.a0) (h.2.is.ranks q.3.call.a0 q.3.mutex q.3.listed) (rank-got o.0 o.1 i.0 i.2 q.3.call.a0) (both-got q.0 o.0 q.1 o.1 h.0 i.0 q.2 o.2 h.1 i.1 h.2 i.2 q.3.call.a0) o.3)
        (λ (o : Lags core.peers q.3.call.a0 q.3.mutex.rank).
        let i = each-get _ core.peers g.copies g.each o.0 o.1 o.2 in
        too-long (length (i.0.got q.3.call.a0)) (length (h.0.got q.3.call.a0)) (rank_in o.1.mutexes q.3.call.a0) q.3.mutex.rank (rank-got o.0 o.1 i.0 i.2 q.3.call.a0) (h.2.is.ranks q.3.call.a0 q.3.mutex q.3.listed) (both-got o.0 q.0 o.1 q.1 i.0 h.0 o.2 q.2 i.1 h.1 i.2 h.2 q.3.call.a0) o.3)
        a.1.1
      where
        too-long : (a b k m : ℕ) → a ≡ k → b ≡ m → a ≡ b → k < m → ⊥
        too-long a b k m e f h less = omega arith

    pub no-step : ⊥
    no-step = by (core.blocked t) refl
      where
        by : (o : Option Call) → core.blocked t ≡ o → ⊥
        by (Some call) f = no-free call f
        by None f = no-wait f
