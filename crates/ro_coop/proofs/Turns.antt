-- Every peer takes each cooperative mutex in the order of its rows, races or not.
use Rattle.std.specs.Prelude.{◌≡◌, ℕ, zero, suc, ◌+◌, Bool, true, false, not, ◌&&◌, cond, ◌==◌, List, [], ◌∷◌, ◌++◌, length, map, replicate, Option, Some, None, is_some, slice_get, slice_set}
use Rattle.std.specs.Option.{option_map, option_and_then, option_map_or}
use Rattle.std.proofs.Common.{refl, sym, ap, ap₂, ◌∙◌, subst, arith, length-append}
use Rattle.std.proofs.lemmas.Bool.{true≢false, eqb-true, eq-eqb}
use Rattle.std.proofs.lemmas.Option.{option_and_then_some}
use Rattle.ro_event.specs.declared.calls.Call.{Call}
use Rattle.ro_event.specs.declared.stops.Stop.{Stop}
use Rattle.ro_event.specs.declared.stops.Stop.TheVariants.{Calls, Trap, PageFault, Watchdog}
use Rattle.ro_journal.specs.declared.Lease.{Lease}
use Rattle.ro_journal.specs.declared.Entry.{Entry}
use Rattle.ro_journal.specs.declared.Entry.TheVariants.{Take, Put, Part, Vote, Free, Scrub, End}
use Rattle.ro_exec.specs.Next.{Layout, Next, Stands, Executes, next}
use Rattle.ro_mutex.specs.Owners.{owner_of}
use Rattle.ro_kernel.specs.Kernel.{Kernel}
use Rattle.ro_kernel.proofs.Kept.{slice_get-set_other}
use Rattle.ro_thread.specs.declared.Thread.{Thread}
use Rattle.ro_plain.proofs.Calls.{some-injective}
use Rattle.ro_legal.specs.Event.{Event}
use Rattle.ro_legal.proofs.Lists.{get-set-same}
use Rattle.ro_orders.specs.Turns.{Chosen, is_cooperative, is_lock_or_unlock}
use Rattle.ro_orders.specs.Answers.{Answer, Answers, Waits}
use Rattle.ro_orders.specs.Copies.{Rows}
use Rattle.ro_peer.specs.declared.mutexes.Mutex.{Mutex}
use Rattle.ro_peer.specs.Peers.{Peer, mutex_in, with_mutex, is_row, is_got, leased_answer, leased_call, leased_next, leased_at, leased, leased_run}
use Rattle.ro_peer.specs.Gets.{Get, get_answer, get_call, get_next, get_of, got_in}
use Rattle.ro_peer.specs.Events.{unanswered}
use Rattle.ro_coop.specs.Core.{Job, Core, layout_here, opening_core, opening_peer, entered_by, settled, peer_after_event, after_event, voted_stop, vote_event, free_event, after_put, arrived, after, IsAllowed, LegalFrom}
use Rattle.ro_coop.specs.Rowless.{rows_for, threads_of, got_by_lease, got_at, got_in_replica}
use Rattle.ro_legal.specs.Sides.{rank_in}
use Rattle.ro_coop.proofs.Leases.{after-cases, known-after, rank-bits, row-is}
use Rattle.ro_coop.proofs.Entered.{in-left, in-right}
use Rattle.ro_coop.proofs.Rowless.{step-back, entry-back}

-- what is got from one rank on has its rows, and the rank then
pub record InTurn (rows : Rows) (mutex from to : ℕ) (gets : List Get) : Type 0 where
  pub grown : to ≡ from + length (threads_of mutex gets)
  pub each : (k u : ℕ) → slice_get (threads_of mutex gets) k ≡ Some u → rows mutex (from + k) ≡ Some u

pub nothing-got : (rows : Rows) (mutex from to : ℕ) → to ≡ from → InTurn rows mutex from to []
nothing-got rows mutex from to e = record { grown = none-more to from e; each = λ k u f. absurd (let g : None ≡ Some u = f in cc) }
  where
    none-more : (a b : ℕ) → a ≡ b → a ≡ b + 0
    none-more a b e = omega arith

threads-append : (mutex : ℕ) (xs ys : List Get) → threads_of mutex (xs ++ ys) ≡ threads_of mutex xs ++ threads_of mutex ys
threads-append mutex [] ys = refl
threads-append mutex (x ∷ xs) ys = by (x.mutex == mutex) (threads-append mutex xs ys)
  where
    by : (b : Bool) → threads_of mutex (xs ++ ys) ≡ threads_of mutex xs ++ threads_of mutex ys → cond b (x.thread ∷ threads_of mutex (xs ++ ys)) (threads_of mutex (xs ++ ys)) ≡ cond b (x.thread ∷ threads_of mutex xs) (threads_of mutex xs) ++ threads_of mutex ys
    by true e = ap {B = List ℕ} (λ (r : List ℕ). x.thread ∷ r) e
    by false e = e

-- one after another
module _ (rows : Rows) (mutex : ℕ) where
  two-lists : (xs ys : List ℕ) (from : ℕ) → ((k u : ℕ) → slice_get xs k ≡ Some u → rows mutex (from + k) ≡ Some u) → ((k u : ℕ) → slice_get ys k ≡ Some u → rows mutex ((from + length xs) + k) ≡ Some u) → (k u : ℕ) → slice_get (xs ++ ys) k ≡ Some u → rows mutex (from + k) ≡ Some u
  two-lists [] ys from h g k u e = ap (rows mutex) (no-more from k) ∙ g k u e
    where
      no-more : (a b : ℕ) → a + b ≡ (a + 0) + b
      no-more a b = omega arith
  two-lists (x ∷ xs) ys from h g zero u e = h 0 u e
  two-lists (x ∷ xs) ys from h g (suc k) u e =
      ap (rows mutex) (shift from k)
      ∙ two-lists xs ys (suc from) (λ i v f. ap (rows mutex) (sym (shift from i)) ∙ h (suc i) v f) (λ i v f. ap (rows mutex) (sym (longer from (length xs) i)) ∙ g i v f) k u e
    where
      shift : (a b : ℕ) → a + suc b ≡ suc a + b
      shift a b = omega arith

      longer : (a b c : ℕ) → (a + suc b) + c ≡ (suc a + b) + c
      longer a b c = omega arith

  pub turn-append : (from middle to : ℕ) (xs ys : List Get) → InTurn rows mutex from middle xs → InTurn rows mutex middle to ys → InTurn rows mutex from to (xs ++ ys)
  turn-append from middle to xs ys h g = record {
    grown = g.grown ∙ (sum middle from (length (threads_of mutex xs)) (length (threads_of mutex ys)) h.grown ∙ ap (λ (n : ℕ). from + n) (sym (ap length (threads-append mutex xs ys) ∙ length-append (threads_of mutex xs) (threads_of mutex ys))));
    each = λ k u e. two-lists (threads_of mutex xs) (threads_of mutex ys) from h.each (λ i v f. ap (λ (n : ℕ). rows mutex (n + i)) (sym h.grown) ∙ g.each i v f) k u (ap (λ (o : List ℕ). slice_get o k) (sym (threads-append mutex xs ys)) ∙ e);
  }
    where
      sum : (m f a b : ℕ) → m ≡ f + a → m + b ≡ f + (a + b)
      sum m f a b e = omega arith

-- ---- a step

module _ (layout : Layout) (rows : Rows) (watchdog : ℕ) (peer : Peer) (number mutex : ℕ) where
  abbrev pub Turn : Peer → List Get → Type 0
  Turn after gets = InTurn rows mutex (rank_in peer.mutexes mutex) (rank_in after.mutexes mutex) gets

  rank-with : (a : ℕ) (change : Option (Option ℕ)) → rank_in (with_mutex peer.mutexes a change) mutex ≡ rank_in peer.mutexes mutex + cond (is_some (mutex_in peer.mutexes mutex)) (cond (a == mutex) (cond (is_got change) 1 0) 0) 0
  rank-with a change = by (mutex_in peer.mutexes mutex) refl
    where
      none-from : (o : Option Mutex) → is_some o ≡ false → o ≡ None
      none-from None e = refl
      none-from (Some x) e = absurd (true≢false e)

      by : (o : Option Mutex) → mutex_in peer.mutexes mutex ≡ o → rank_in (with_mutex peer.mutexes a change) mutex ≡ option_map_or (λ m. m.rank) o 0 + cond (is_some o) (cond (a == mutex) (cond (is_got change) 1 0) 0) 0
      by None e = ap (λ (o : Option Mutex). option_map_or (λ m. m.rank) o 0) (none-from _ (known-after peer.mutexes a change mutex ∙ ap is_some e))
      by (Some x) e = ap (λ (o : Option Mutex). option_map_or (λ m. m.rank) o 0) (after-cases peer.mutexes a change mutex x e) ∙ rank-bits change x (a == mutex)

  -- an answered call
  answered : (call : Call) (x : Mutex) (change : Option (Option ℕ)) → mutex_in peer.mutexes call.a0 ≡ Some x → (is_got change ≡ true → rows call.a0 x.rank ≡ Some number)
      → InTurn rows mutex (rank_in peer.mutexes mutex) (rank_in (with_mutex peer.mutexes call.a0 change) mutex) (cond (is_got change) (record { mutex = call.a0; rank = x.rank; thread = number } ∷ []) [])
  answered call x change listed row = by (is_got change) refl (call.a0 == mutex) refl
    where
      get : Get
      get = record { mutex = call.a0; rank = x.rank; thread = number }

      rank-so : (g b : Bool) → is_got change ≡ g → (call.a0 == mutex) ≡ b → rank_in (with_mutex peer.mutexes call.a0 change) mutex ≡ rank_in peer.mutexes mutex + cond (is_some (mutex_in peer.mutexes mutex)) (cond b (cond g 1 0) 0) 0
      rank-so g b p q = rank-with call.a0 change ∙ ap₂ (λ (i j : Bool). rank_in peer.mutexes mutex + cond (is_some (mutex_in peer.mutexes mutex)) (cond j (cond i 1 0) 0) 0) p q

      no-change : (b : Bool) → rank_in peer.mutexes mutex + cond b 0 0 ≡ rank_in peer.mutexes mutex
      no-change true = none-more (rank_in peer.mutexes mutex)
        where
          none-more : (n : ℕ) → n + 0 ≡ n
          none-more n = omega arith
      no-change false = none-more (rank_in peer.mutexes mutex)
        where
          none-more : (n : ℕ) → n + 0 ≡ n
          none-more n = omega arith

      by : (g : Bool) → is_got change ≡ g → (b : Bool) → (call.a0 == mutex) ≡ b → InTurn rows mutex (rank_in peer.mutexes mutex) (rank_in (with_mutex peer.mutexes call.a0 change) mutex) (cond g (record { mutex = call.a0; rank = x.rank; thread = number } ∷ []) [])
      by false p true q = nothing-got rows mutex _ _ (rank-so false true p q ∙ no-change (is_some (mutex_in peer.mutexes mutex)))
      by false p false q = nothing-got rows mutex _ _ (rank-so false false p q ∙ no-change (is_some (mutex_in peer.mutexes mutex)))
      by true p false q =
          record {
            grown = rank-so true false p q ∙ (no-change (is_some (mutex_in peer.mutexes mutex)) ∙ length-none);
            each = λ k u e. no-entry k u (ap (λ (b : Bool). slice_get (cond b (number ∷ []) []) k) (sym q) ∙ e);
          }
        where
          length-none : rank_in peer.mutexes mutex ≡ rank_in peer.mutexes mutex + length (cond (call.a0 == mutex) (number ∷ []) [])
          length-none = none-more (rank_in peer.mutexes mutex) ∙ ap (λ (b : Bool). rank_in peer.mutexes mutex + length (cond b (number ∷ []) [])) (sym q)
            where
              none-more : (n : ℕ) → n ≡ n + 0
              none-more n = omega arith

          none-got : List ℕ
          none-got = []

          no-entry : (k u : ℕ) → slice_get none-got k ≡ Some u → rows mutex (rank_in peer.mutexes mutex + k) ≡ Some u
          no-entry k u e = absurd (let f : None ≡ Some u = e in cc)
      by true p true q =
          let same : call.a0 ≡ mutex = eqb-true call.a0 mutex q in
          let here : mutex_in peer.mutexes mutex ≡ Some x = ap (mutex_in peer.mutexes) (sym same) ∙ listed in
          let rank_is : rank_in peer.mutexes mutex ≡ x.rank = ap (λ (o : Option Mutex). option_map_or (λ m. m.rank) o 0) here in
          record {
            grown = rank-so true true p q ∙ (ap (λ (o : Option Mutex). rank_in peer.mutexes mutex + cond (is_some o) 1 0) here ∙ ap (λ (b : Bool). rank_in peer.mutexes mutex + length (cond b (number ∷ []) [])) (sym q));
            each = λ k u e. one-row rank_is same k u (ap (λ (b : Bool). slice_get (cond b (number ∷ []) []) k) (sym q) ∙ e);
          }
        where
          one-row : rank_in peer.mutexes mutex ≡ x.rank → call.a0 ≡ mutex → (k u : ℕ) → slice_get (number ∷ []) k ≡ Some u → rows mutex (rank_in peer.mutexes mutex + k) ≡ Some u
          one-row r same zero u e = ap (rows mutex) (none-more (rank_in peer.mutexes mutex) ∙ r) ∙ (ap (λ (a : ℕ). rows a x.rank) (sym same) ∙ (row p ∙ e))
            where
              none-more : (n : ℕ) → n + 0 ≡ n
              none-more n = omega arith
          one-row r same (suc k) u e = absurd (let f : None ≡ Some u = e in cc)

  -- an answer, by whether it is got and its row
  answer-turn : (thread : Thread) (call : Call) (x : Mutex) (answer : Answer) (after : Peer) → mutex_in peer.mutexes call.a0 ≡ Some x → leased_answer rows peer number thread call x answer ≡ Some after → Turn after (get_answer number call x answer)
  answer-turn thread call x Waits after listed e = absurd (let f : None ≡ Some after = e in cc)
  answer-turn thread call x (Answers change value) after listed e = by (is_got change) refl (is_row (rows call.a0 x.rank) number) refl _ e refl
    where
      so : (is_got change ≡ true → rows call.a0 x.rank ≡ Some number) → (o : Peer) → o ≡ after → o.mutexes ≡ with_mutex peer.mutexes call.a0 change → Turn after (get_answer number call x (Answers change value))
      so row o same m = subst (λ (ms : List Mutex). InTurn rows mutex (rank_in peer.mutexes mutex) (rank_in ms mutex) (get_answer number call x (Answers change value))) (sym m ∙ ap (λ (r : Peer). r.mutexes) same) (answered call x change listed row)

      by : (g : Bool) → is_got change ≡ g → (c : Bool) → is_row (rows call.a0 x.rank) number ≡ c → (o : Peer) → cond (g && not c) None (Some o) ≡ Some after → o.mutexes ≡ with_mutex peer.mutexes call.a0 change → Turn after (get_answer number call x (Answers change value))
      by true p false q o f m = absurd (let i : None ≡ Some after = f in cc)
      by true p true q o f m = so (λ h. row-is (rows call.a0 x.rank) number q) o (some-injective f) m
      by false p c q o f m = so (λ h. absurd (true≢false (sym h ∙ p))) o (some-injective f) m

  call-turn : (thread : Thread) (call : Call) (o : Option Mutex) (after : Peer) → mutex_in peer.mutexes call.a0 ≡ o → leased_call rows peer number thread call o ≡ Some after → Turn after (get_call number call o)
  call-turn thread call None after listed e = absurd (let f : None ≡ Some after = e in cc)
  call-turn thread call (Some x) after listed e = answer-turn thread call x _ after listed e

  which-turn : (b : Bool) (thread : Thread) (call : Call) (after : Peer) → cond b (leased_call rows peer number thread call (mutex_in peer.mutexes call.a0)) None ≡ Some after → Turn after (cond b (get_call number call (mutex_in peer.mutexes call.a0)) [])
  which-turn true thread call after e = call-turn thread call (mutex_in peer.mutexes call.a0) after refl e
  which-turn false thread call after e = absurd (let f : None ≡ Some after = e in cc)

  next-turn : (thread : Thread) (n : Next) (after : Peer) → leased_next rows peer number thread n ≡ Some after → Turn after (get_next peer number n)
  next-turn thread (Executes instr) after e = nothing-got rows mutex _ _ (ap (λ (r : Peer). rank_in r.mutexes mutex) (sym (some-injective e)))
  next-turn thread (Stands (Calls call)) after e = which-turn (is_lock_or_unlock call.which) thread call after e
  next-turn thread (Stands (Trap code)) after e = absurd (let f : None ≡ Some after = e in cc)
  next-turn thread (Stands (PageFault page)) after e = absurd (let f : None ≡ Some after = e in cc)
  next-turn thread (Stands Watchdog) after e = absurd (let f : None ≡ Some after = e in cc)

  at-turn : (thread : Thread) (b : Bool) (n : Next) (after : Peer) → cond b None (leased_next rows peer number thread n) ≡ Some after → Turn after (get_next peer number n)
  at-turn thread true n after e = absurd (let f : None ≡ Some after = e in cc)
  at-turn thread false n after e = next-turn thread n after e

  thread-turn : (o : Option Thread) (after : Peer) → option_and_then (leased_at layout rows watchdog peer number) o ≡ Some after → Turn after (option_map_or (λ thread. get_next peer number (next layout peer.replica.backed peer.replica.memory thread.cpu)) o [])
  thread-turn None after e = absurd (let f : None ≡ Some after = e in cc)
  thread-turn (Some thread) after e = at-turn thread (thread.since == watchdog) _ after e

  pub step-turn : (after : Peer) → leased layout rows watchdog peer number ≡ Some after → Turn after (get_of layout peer number)
  unfolding leased
  step-turn after e = thread-turn (slice_get peer.replica.threads number) after e

-- ---- a lease

pub run-turn : (layout : Layout) (rows : Rows) (watchdog n : ℕ) (peer last : Peer) (number mutex : ℕ) → leased_run layout rows watchdog n peer number ≡ Some last → InTurn rows mutex (rank_in peer.mutexes mutex) (rank_in last.mutexes mutex) (got_in layout watchdog n peer number)
run-turn layout rows watchdog zero peer last number mutex e = nothing-got rows mutex _ _ (ap (λ (r : Peer). rank_in r.mutexes mutex) (sym (some-injective e)))
run-turn layout rows watchdog (suc n) peer last number mutex e =
    option_and_then_some (λ mid. leased_run layout rows watchdog n mid number) (leased layout rows watchdog peer number) last e (λ mid f g.
    turn-append rows mutex (rank_in peer.mutexes mutex) (rank_in mid.mutexes mutex) (rank_in last.mutexes mutex) (get_of layout peer number) _ (step-turn layout rows watchdog peer number mutex mid f)
    (subst (λ (o : Option Peer). InTurn rows mutex (rank_in mid.mutexes mutex) (rank_in last.mutexes mutex) (option_map_or (λ after. got_in layout watchdog n after number) o [])) (sym (step-back layout rows watchdog peer number mid f).0) (run-turn layout rows watchdog n mid last number mutex g)))

-- ---- an entry

rank_at : Core → (number mutex : ℕ) → ℕ
rank_at core number mutex = option_map_or (λ peer. rank_in peer.mutexes mutex) (slice_get core.peers number) 0

-- a mutex that became cooperative was got by none so far
pub entered-rank : (chosen : Chosen) (before after : Kernel) (stop : Option Stop) (mutexes : List Mutex) (mutex : ℕ) → rank_in (mutexes ++ entered_by chosen before after stop) mutex ≡ rank_in mutexes mutex
entered-rank chosen before after stop mutexes mutex = by (mutex_in mutexes mutex) refl
  where
    fresh : (stop : Option Stop) → rank_in (entered_by chosen before after stop) mutex ≡ 0
    fresh None = refl
    fresh (Some (Calls call)) = bit (is_cooperative chosen after call.a0 && not (is_cooperative chosen before call.a0)) (record { address = call.a0; owner = option_map_or (λ owner. owner) (owner_of after.owners call.a0) None; rank = 0 }) refl
      where
        inner : (c : Bool) (m : Mutex) → m.rank ≡ 0 → option_map_or (λ (x : Mutex). x.rank) (cond c (Some m) None) 0 ≡ 0
        inner true m e = e
        inner false m e = refl

        bit : (b : Bool) (m : Mutex) → m.rank ≡ 0 → rank_in (cond b (m ∷ []) []) mutex ≡ 0
        bit true m e = inner (m.address == mutex) m e
        bit false m e = refl
    fresh (Some (Trap code)) = refl
    fresh (Some (PageFault page)) = refl
    fresh (Some Watchdog) = refl

    by : (o : Option Mutex) → mutex_in mutexes mutex ≡ o → rank_in (mutexes ++ entered_by chosen before after stop) mutex ≡ rank_in mutexes mutex
    by None e =
        ap (λ (o : Option Mutex). option_map_or (λ m. m.rank) o 0) (in-right mutexes (entered_by chosen before after stop) mutex e)
        ∙ (fresh stop ∙ sym (ap (λ (o : Option Mutex). option_map_or (λ m. m.rank) o 0) e))
    by (Some x) e =
        ap (λ (o : Option Mutex). option_map_or (λ m. m.rank) o 0) (in-left mutexes (entered_by chosen before after stop) mutex x e)
        ∙ sym (ap (λ (o : Option Mutex). option_map_or (λ m. m.rank) o 0) e)

map-rank : (f : Peer → Peer) (mutex : ℕ) → ((peer : Peer) → rank_in (f peer).mutexes mutex ≡ rank_in peer.mutexes mutex) → (xs : List Peer) (r : ℕ) → option_map_or (λ (peer : Peer). rank_in peer.mutexes mutex) (slice_get (map f xs) r) 0 ≡ option_map_or (λ (peer : Peer). rank_in peer.mutexes mutex) (slice_get xs r) 0
map-rank f mutex h [] r = refl
map-rank f mutex h (x ∷ xs) zero = h x
map-rank f mutex h (x ∷ xs) (suc r) = map-rank f mutex h xs r

module _ (job : Job) (rows : Rows) (r mutex : ℕ) where
  event-turn : (core : Core) (t : ℕ) (stop : Option Stop) (o : Option Event) → rank_at (after_event job.chosen core t stop o) r mutex ≡ rank_at core r mutex
  unfolding rank_at
  event-turn core t stop None = refl
  event-turn core t stop (Some event) =
      map-rank (peer_after_event event.effect (entered_by job.chosen (settled core t).kernel event.kernel stop)) mutex (λ peer. entered-rank job.chosen (settled core t).kernel event.kernel stop peer.mutexes mutex) (settled core t).peers r
      ∙ map-rank (unanswered t) mutex (λ peer. refl) core.peers r

  put-turn : (core : Core) (lease : Lease) (n : ℕ) (peer last : Peer) → slice_get core.peers lease.replica ≡ Some peer → leased_run (layout_here job core) rows job.settings.watchdog n peer lease.thread ≡ Some last
      → InTurn rows mutex (rank_at core r mutex) (rank_at (after_put job core lease n (Some last)) r mutex) (cond (lease.replica == r) (got_by_lease job core lease n) [])
  unfolding rank_at
  put-turn core lease n peer last at ran = by (lease.replica == r) refl
    where
      came : Peer
      came = arrived job core.kernel lease.thread n last

      rank_of : Option Peer → ℕ
      rank_of o = option_map_or (λ (peer : Peer). rank_in peer.mutexes mutex) o 0

      by : (b : Bool) → (lease.replica == r) ≡ b → InTurn rows mutex (rank_of (slice_get core.peers r)) (rank_of (slice_get (slice_set core.peers lease.replica came) r)) (cond b (got_by_lease job core lease n) [])
      by false q = nothing-got rows mutex _ _ (ap rank_of (slice_get-set_other core.peers lease.replica r came (λ e. true≢false (sym (eq-eqb lease.replica r e) ∙ q))))
      by true q =
          let same : lease.replica ≡ r = eqb-true lease.replica r q in
          let before : slice_get core.peers r ≡ Some peer = ap (slice_get core.peers) (sym same) ∙ at in
          let behind : slice_get (slice_set core.peers lease.replica came) r ≡ Some came = ap (slice_get (slice_set core.peers lease.replica came)) (sym same) ∙ get-set-same core.peers lease.replica peer came at in
          subst (λ (o : Option Peer). InTurn rows mutex (rank_of o) (rank_of (slice_get (slice_set core.peers lease.replica came) r)) (got_by_lease job core lease n)) (sym before)
          (subst (λ (o : Option Peer). InTurn rows mutex (rank_in peer.mutexes mutex) (rank_of o) (got_by_lease job core lease n)) (sym behind)
          (subst (λ (o : Option Peer). InTurn rows mutex (rank_in peer.mutexes mutex) (rank_in last.mutexes mutex) (option_map_or (λ peer. got_in (layout_here job core) job.settings.watchdog n peer lease.thread) o [])) (sym at)
          (run-turn (layout_here job core) rows job.settings.watchdog n peer last lease.thread mutex ran)))

  entry-turn : (core : Core) (entry : Entry) → IsAllowed job rows core entry → InTurn rows mutex (rank_at core r mutex) (rank_at (after job rows core entry) r mutex) (got_at job core r entry)
  unfolding rank_at
  entry-turn core (Take lease) m = nothing-got rows mutex _ _ refl
  entry-turn core (Put lease n hit) m =
      subst (λ (o : Option Peer). InTurn rows mutex (rank_at core r mutex) (rank_at (after_put job core lease n o) r mutex) (got_at job core r (Put lease n hit))) (sym m.runs)
      (option_and_then_some (λ peer. leased_run (layout_here job core) rows job.settings.watchdog n peer lease.thread) (slice_get core.peers lease.replica) m.peer m.runs (λ peer at ran. put-turn core lease n peer m.peer at ran))
  entry-turn core (Part lease n hit) m = absurd m
  entry-turn core (Vote t n won lost did) m = nothing-got rows mutex _ _ (event-turn core t (voted_stop core t) (vote_event job core t))
  entry-turn core (Free t) m = nothing-got rows mutex _ _ (event-turn core t (option_map Calls (core.blocked t)) (free_event job core t))
  entry-turn core (Scrub won lost) m = nothing-got rows mutex _ _ refl
  entry-turn core (End how) m = nothing-got rows mutex _ _ refl

  journal-turn : (core : Core) (journal : List Entry) → LegalFrom job rows core journal → (to : ℕ) × InTurn rows mutex (rank_at core r mutex) to (got_in_replica job core r journal)
  journal-turn core [] legal = (rank_at core r mutex, nothing-got rows mutex _ _ refl)
  journal-turn core (entry ∷ journal) legal =
      let rest = journal-turn (after job rows core entry) journal legal.1 in
      let same : after job (rows_for entry) core entry ≡ after job rows core entry = (entry-back job rows core entry legal.0).2 in (
        rest.0,
        subst (λ (c : Core). InTurn rows mutex (rank_at core r mutex) rest.0 (got_at job core r entry ++ got_in_replica job c r journal)) (sym same)
            (turn-append rows mutex (rank_at core r mutex) (rank_at (after job rows core entry) r mutex) rest.0 (got_at job core r entry) _ (entry-turn core entry legal.0) rest.1),
      )

  none-at-opening : rank_at (opening_core job) r mutex ≡ 0
  unfolding rank_at
  none-at-opening = from job.settings.replicas r
    where
      from : (n i : ℕ) → option_map_or (λ (peer : Peer). rank_in peer.mutexes mutex) (slice_get (replicate n (opening_peer job.program)) i) 0 ≡ 0
      from zero i = refl
      from (suc n) zero = refl
      from (suc n) (suc i) = from n i

  pub rows-followed : (journal : List Entry) → LegalFrom job rows (opening_core job) journal → (k u : ℕ) → slice_get (threads_of mutex (got_in_replica job (opening_core job) r journal)) k ≡ Some u → rows mutex k ≡ Some u
  rows-followed journal legal k u e = ap (rows mutex) (from-none (rank_at (opening_core job) r mutex) k none-at-opening) ∙ (journal-turn (opening_core job) journal legal).1.each k u e
    where
      from-none : (a b : ℕ) → a ≡ 0 → b ≡ a + b
      from-none a b e = omega arith
