-- What was got stands at its rank: each mutex was got in a replica as often as its rank says, and a rank that was got has a taker.
use Rattle.std.specs.Prelude.{◌≡◌, ◌⊎◌, ℕ, zero, suc, ◌+◌, ◌<◌, ◌≤◌, Bool, true, false, cond, List, [], ◌∷◌, ◌++◌, length, Option, Some, None, is_some, slice_get}
use Rattle.std.specs.Option.{option_map_or}
use Rattle.std.proofs.Common.{refl, sym, ap, ◌∙◌, subst, arith, inl, inr}
use Rattle.std.proofs.lemmas.Bool.{eq-eqb}
use Rattle.std.proofs.lemmas.Option.{option_and_then_some, slice_get_within}
use Rattle.ro_event.specs.declared.calls.Call.{Call}
use Rattle.ro_event.specs.declared.stops.Stop.TheVariants.{Calls, Trap, PageFault, Watchdog}
use Rattle.ro_exec.specs.Next.{Layout, Next, Stands, Executes, next}
use Rattle.ro_thread.specs.declared.Thread.{Thread}
use Rattle.ro_plain.proofs.Calls.{some-injective}
use Rattle.ro_orders.specs.Turns.{is_lock_or_unlock}
use Rattle.ro_orders.specs.Answers.{Answer, Answers, Waits, answer_by}
use Rattle.ro_orders.specs.Copies.{Rows}
use Rattle.ro_peer.specs.declared.mutexes.Mutex.{Mutex}
use Rattle.ro_peer.specs.Peers.{Peer, mutex_in, is_got, leased, leased_run}
use Rattle.ro_peer.specs.Gets.{Get, get_answer, get_call, get_next, get_of, asker, got_in, InRows}
use Rattle.ro_legal.specs.Sides.{Side, threads_of, taker_of, rank_in}
use Rattle.ro_legal.proofs.Lists.{get-within}
use Rattle.ro_coop.proofs.Turns.{InTurn, step-turn, run-turn}

-- ---- what a step gets it gets at its rank

-- nothing, or one mutex at its rank
abbrev pub OneGot : List Mutex → List Get → Type 0
OneGot mutexes gets = (gets ≡ []) ⊎ ((get : Get) × (gets ≡ get ∷ []) × (get.rank ≡ rank_in mutexes get.mutex))

module _ (peer : Peer) (number : ℕ) where
  answer-one : (call : Call) (m : Mutex) (answer : Answer) → mutex_in peer.mutexes call.a0 ≡ Some m → OneGot peer.mutexes (get_answer number call m answer)
  answer-one call m Waits listed = inl refl
  answer-one call m (Answers change value) listed = by (is_got change)
    where
      by : (b : Bool) → OneGot peer.mutexes (cond b (record { mutex = call.a0; rank = m.rank; thread = number } ∷ []) [])
      by true = inr (record { mutex = call.a0; rank = m.rank; thread = number }, refl, sym (ap (λ (o : Option Mutex). option_map_or (λ x. x.rank) o 0) listed))
      by false = inl refl

  call-one : (call : Call) (o : Option Mutex) → mutex_in peer.mutexes call.a0 ≡ o → OneGot peer.mutexes (get_call number call o)
  call-one call None listed = inl refl
  call-one call (Some m) listed = answer-one call m (answer_by call.which number m.owner) listed

  which-one : (b : Bool) (call : Call) → OneGot peer.mutexes (cond b (get_call number call (mutex_in peer.mutexes call.a0)) [])
  which-one true call = call-one call (mutex_in peer.mutexes call.a0) refl
  which-one false call = inl refl

  next-one : (n : Next) → OneGot peer.mutexes (get_next peer number n)
  next-one (Executes instr) = inl refl
  next-one (Stands (Calls call)) = which-one (is_lock_or_unlock call.which) call
  next-one (Stands (Trap code)) = inl refl
  next-one (Stands (PageFault page)) = inl refl
  next-one (Stands Watchdog) = inl refl

  step-one : (layout : Layout) → OneGot peer.mutexes (get_of layout peer number)
  step-one layout = by (slice_get peer.replica.threads number)
    where
      by : (o : Option Thread) → OneGot peer.mutexes (option_map_or (λ thread. get_next peer number (next layout peer.replica.backed peer.replica.memory thread.cpu)) o [])
      by None = inl refl
      by (Some thread) = next-one (next layout peer.replica.backed peer.replica.memory thread.cpu)

-- ---- and the mutex's rank is above it from then on

-- each rank is below its mutex's
abbrev pub AllBelow : List Mutex → List Get → Type 0
AllBelow mutexes [] = Unit {0}
AllBelow mutexes (get ∷ gets) = (get.rank < rank_in mutexes get.mutex) × AllBelow mutexes gets

below-append : (mutexes : List Mutex) (xs ys : List Get) → AllBelow mutexes xs → AllBelow mutexes ys → AllBelow mutexes (xs ++ ys)
below-append mutexes [] ys h k = k
below-append mutexes (x ∷ xs) ys h k = (h.0, below-append mutexes xs ys h.1 k)

module _ (layout : Layout) (watchdog number : ℕ) where
  -- ranks only grow
  pub run-grows : (n : ℕ) (peer last : Peer) → leased_run layout (asker number) watchdog n peer number ≡ Some last → (m : ℕ) → rank_in peer.mutexes m ≤ rank_in last.mutexes m
  run-grows n peer last e m = let t = run-turn layout (asker number) watchdog n peer last number m e in let g = t.grown in omega arith

  step-below : (peer mid : Peer) → leased layout (asker number) watchdog peer number ≡ Some mid → (mutexes : List Mutex) → ((m : ℕ) → rank_in mid.mutexes m ≤ rank_in mutexes m) → AllBelow mutexes (get_of layout peer number)
  step-below peer mid e mutexes grows = by (get_of layout peer number) refl (step-one peer number layout)
    where
      one-more : (get : Get) → threads_of get.mutex (get ∷ []) ≡ get.thread ∷ []
      one-more get = ap (λ (b : Bool). cond b (get.thread ∷ []) []) (eq-eqb get.mutex get.mutex refl)

      at : (get : Get) → get_of layout peer number ≡ get ∷ [] → get.rank ≡ rank_in peer.mutexes get.mutex → get.rank < rank_in mutexes get.mutex
      at get is rank =
          let turn = step-turn layout (asker number) watchdog peer number get.mutex mid e in
          let grown : rank_in mid.mutexes get.mutex ≡ rank_in peer.mutexes get.mutex + 1 =
          turn.grown ∙ ap (λ (ts : List ℕ). rank_in peer.mutexes get.mutex + length ts) (ap (threads_of get.mutex) is ∙ one-more get) in
          let more = grows get.mutex in
          omega arith

      by : (gets : List Get) → get_of layout peer number ≡ gets → OneGot peer.mutexes gets → AllBelow mutexes gets
      by gets is (inl none) = subst (AllBelow mutexes) (sym none) tt
      by gets is (inr one) = subst (AllBelow mutexes) (sym one.1) (at one.0 (is ∙ one.1) one.2, tt)

  pub run-below : (n : ℕ) (peer last : Peer) → leased_run layout (asker number) watchdog n peer number ≡ Some last → AllBelow last.mutexes (got_in layout watchdog n peer number)
  run-below zero peer last e = tt
  run-below (suc n) peer last e =
      option_and_then_some (λ mid. leased_run layout (asker number) watchdog n mid number) (leased layout (asker number) watchdog peer number) last e (λ mid f g.
      below-append last.mutexes (get_of layout peer number) _ (step-below peer mid f last.mutexes (run-grows n mid last g))
      (subst (λ (o : Option Peer). AllBelow last.mutexes (option_map_or (λ after. got_in layout watchdog n after number) o [])) (sym f) (run-below n mid last g)))

-- ---- what was got in one of these replicas

-- some replica's rank of the mutex is above the get's
abbrev pub IsTaken : List Side → Get → Type 0
IsTaken sides get = (n : ℕ) × (side : Side) × (slice_get sides n ≡ Some side) × (get.rank < rank_in side.mutexes get.mutex)

abbrev pub AllTaken : List Side → List Get → Type 0
AllTaken sides [] = Unit {0}
AllTaken sides (get ∷ gets) = IsTaken sides get × AllTaken sides gets

pub taken-append : (sides : List Side) (xs ys : List Get) → AllTaken sides xs → AllTaken sides ys → AllTaken sides (xs ++ ys)
taken-append sides [] ys h k = k
taken-append sides (x ∷ xs) ys h k = (h.0, taken-append sides xs ys h.1 k)

pub taken-below : (sides : List Side) (n : ℕ) (side : Side) → slice_get sides n ≡ Some side → (gets : List Get) → AllBelow side.mutexes gets → AllTaken sides gets
taken-below sides n side e [] h = tt
taken-below sides n side e (get ∷ gets) h = ((n, side, e, h.0), taken-below sides n side e gets h.1)

-- no rank is lower in the other replicas
pub record Grown (sides others : List Side) : Type 0 where
  pub each : (n : ℕ) (side : Side) → slice_get sides n ≡ Some side → (other : Side) × (slice_get others n ≡ Some other) × ((m : ℕ) → rank_in side.mutexes m ≤ rank_in other.mutexes m)

pub grown-same : (sides : List Side) → Grown sides sides
grown-same sides = record { each = λ n side e. (side, e, λ m. omega arith) }

pub grown-twice : (one two three : List Side) → Grown one two → Grown two three → Grown one three
grown-twice one two three h k = record {
  each = λ n side e.
      let a = h.each n side e in
      let b = k.each n a.0 a.1 in
      (b.0, b.1, λ m. let p = a.2 m in let q = b.2 m in omega arith);
}

pub taken-grown : (sides others : List Side) → Grown sides others → (gets : List Get) → AllTaken sides gets → AllTaken others gets
taken-grown sides others g [] h = tt
taken-grown sides others g (get ∷ gets) h =
    let t = h.0 in
    let a = g.each t.0 t.1 t.2 in
    ((t.0, a.0, a.1, (let less = t.3 in let more = a.2 get.mutex in omega arith)), taken-grown sides others g gets h.1)

-- ---- takers

-- what was got has the rows, and its ranks are those of the mutexes
abbrev pub AllInTurn : Rows → List Side → Type 0
AllInTurn rows sides = (n : ℕ) (side : Side) → slice_get sides n ≡ Some side → (m : ℕ) → InTurn rows m 0 (rank_in side.mutexes m) side.gets

abbrev taken_by : Option ℕ → Option ℕ → Option ℕ
taken_by None others = others
taken_by here others = here

-- who took a rank got it in some replica
pub taker-from : (sides : List Side) (m k u : ℕ) → taker_of sides m k ≡ Some u → (n : ℕ) × (side : Side) × (slice_get sides n ≡ Some side) × (slice_get (threads_of m side.gets) k ≡ Some u)
taker-from [] m k u e = absurd (let f : None ≡ Some u = e in cc)
taker-from (side ∷ sides) m k u e = by (slice_get (threads_of m side.gets) k) refl e (taker-from sides m k u)
  where
    by : (o : Option ℕ) → slice_get (threads_of m side.gets) k ≡ o → taken_by o (taker_of sides m k) ≡ Some u → (taker_of sides m k ≡ Some u → (n : ℕ) × (s : Side) × (slice_get sides n ≡ Some s) × (slice_get (threads_of m s.gets) k ≡ Some u))
        → (n : ℕ) × (s : Side) × (slice_get (side ∷ sides) n ≡ Some s) × (slice_get (threads_of m s.gets) k ≡ Some u)
    by None f g rest = let r = rest g in (suc r.0, r.1, r.2, r.3)
    by (Some v) f g rest = (0, side, refl, f ∙ g)

-- and what some replica got has a taker
pub taker-some : (sides : List Side) (m k n : ℕ) (side : Side) → slice_get sides n ≡ Some side → (u : ℕ) → slice_get (threads_of m side.gets) k ≡ Some u → is_some (taker_of sides m k) ≡ true
taker-some [] m k n side e u f = absurd (let g : None ≡ Some side = e in cc)
taker-some (x ∷ sides) m k n side e u f = by (slice_get (threads_of m x.gets) k) refl n e (λ i h. taker-some sides m k i side h u f)
  where
    by : (o : Option ℕ) → slice_get (threads_of m x.gets) k ≡ o → (n : ℕ) → slice_get (x ∷ sides) n ≡ Some side → ((i : ℕ) → slice_get sides i ≡ Some side → is_some (taker_of sides m k) ≡ true) → is_some (taken_by o (taker_of sides m k)) ≡ true
    by (Some v) g n h rest = refl
    by None g zero h rest = absurd (let i : None ≡ Some u = sym g ∙ (ap (λ (s : Side). slice_get (threads_of m s.gets) k) (some-injective h) ∙ f) in cc)
    by None g (suc n) h rest = rest n h

module _ (rows : Rows) (sides : List Side) (turns : AllInTurn rows sides) where
  -- a taker is the row's
  taker-row : (m k u : ℕ) → taker_of sides m k ≡ Some u → rows m k ≡ Some u
  taker-row m k u e = let t = taker-from sides m k u e in ap (rows m) (from-none k) ∙ (turns t.0 t.1 t.2 m).each k u t.3
    where
      from-none : (n : ℕ) → n ≡ 0 + n
      from-none n = omega arith

  -- and took it in some replica
  pub taker-below : (m k u : ℕ) → taker_of sides m k ≡ Some u → (n : ℕ) × (side : Side) × (slice_get sides n ≡ Some side) × (k < rank_in side.mutexes m)
  taker-below m k u e =
      let t = taker-from sides m k u e in
      let within = slice_get_within (threads_of m t.1.gets) k u t.3 in
      let grown = (turns t.0 t.1 t.2 m).grown in
      (t.0, t.1, t.2, omega arith)

  -- a get with its row that was taken has the taker's
  taken-row : (get : Get) → rows get.mutex get.rank ≡ Some get.thread → IsTaken sides get → taker_of sides get.mutex get.rank ≡ Some get.thread
  taken-row get row t =
      let turn = turns t.0 t.1 t.2 get.mutex in
      let less = t.3 in
      let grown = turn.grown in
      let there = get-within (threads_of get.mutex t.1.gets) get.rank (omega arith) in
      by (taker_of sides get.mutex get.rank) refl (taker-some sides get.mutex get.rank t.0 t.1 t.2 there.0 there.1)
    where
      by : (o : Option ℕ) → taker_of sides get.mutex get.rank ≡ o → is_some o ≡ true → o ≡ Some get.thread
      by None e f = absurd (let g : false ≡ true = f in cc)
      by (Some u) e f = sym (taker-row get.mutex get.rank u e) ∙ row

  -- so all that was got has the takers as its rows
  pub takers-rows : (gets : List Get) → InRows rows gets → AllTaken sides gets → InRows (taker_of sides) gets
  takers-rows [] h k = tt
  takers-rows (get ∷ gets) h k = (taken-row get h.0 k.0, takers-rows gets h.1 k.1)
