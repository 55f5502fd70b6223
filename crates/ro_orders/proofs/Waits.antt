-- A wait ends by a signal or a broadcast behind its beginning.
use Rattle.std.specs.Prelude.{◌≡◌, ◌⊎◌, ℕ, zero, suc, Bool, true, false, cond, List, [], ◌∷◌, ◌++◌, length, take, Some, None, slice_get, ◌==◌}
use Rattle.std.specs.Option.{option_and_then}
use Rattle.std.proofs.Common.{refl, sym, ap, ◌∙◌, subst, inl, inr}
use Rattle.std.proofs.lemmas.Bool.{false≢true, eqb-true, and_parts}
use Rattle.std.proofs.lemmas.Option.{slice_get_within, option_and_then_some}
use Rattle.ro_event.specs.declared.calls.Call.{Call}
use Rattle.ro_event.specs.declared.calls.Which.{Which}
use Rattle.ro_event.specs.declared.calls.Which.TheVariants.{Function}
use Rattle.ro_event.specs.declared.functions.Function.TheVariants.{Wait, Signal, Broadcast}
use Rattle.ro_event.specs.declared.stops.Stop.TheVariants.{Calls, Trap, PageFault, Watchdog}
use Rattle.ro_event.specs.Effects.{Effect}
use Rattle.ro_exec.specs.declared.Cpu.{Cpu}
use Rattle.ro_exec.specs.Next.{Next, Stands, Executes}
use Rattle.ro_journal.specs.declared.How.{How}
use Rattle.ro_condition.specs.declared.waiters.Waiter.{Waiter}
use Rattle.ro_condition.specs.Waiters.{wait_of, waits_for, without, woken, with_signal, with_broadcast}
use Rattle.ro_kernel.specs.Kernel.{Setup, Kernel}
use Rattle.ro_kernel.specs.Serve.{Served, Done, Parked, Blocked, Ends, put_out, asked}
use Rattle.ro_kernel.proofs.Shapes.{IsWaking, wakes_first, wakes_all, Shape, says, reads, breaks, maps_more, owns, wakes, parks_at, resumes, makes, joins, leaves, of_word, waits, stops, stops_last, shape-of}
use Rattle.ro_kernel.proofs.Waiting.{wait-ended-well}
use Rattle.ro_plain.specs.Machine.{Program, setup_of, Machine, opening, called, step_by, next_of, steppable, step, run, payload_in, served_in}
use Rattle.ro_plain.proofs.Calls.{some-injective, slice_get-append}
use Rattle.ro_plain.proofs.Swap.{run-append, take-seam}
use Rattle.ro_orders.specs.Waits.{served_next, call_served_in, Began, BeganAndWoken}

-- ---- lists

-- the front of a longer list
take-front : {X : Type 0} (xs ys : List X) (i : ℕ) (x : X) → slice_get xs i ≡ Some x → take i (xs ++ ys) ≡ take i xs
take-front [] ys i x h = absurd (let e : None ≡ Some x = h in cc)
take-front (z ∷ xs) ys zero x h = refl
take-front (z ∷ xs) ys (suc i) x h = ap {B = List _} (λ r. z ∷ r) (take-front xs ys i x h)

last-there : (xs : List ℕ) (x : ℕ) → slice_get (xs ++ x ∷ []) (length xs) ≡ Some x
last-there [] x = refl
last-there (y ∷ xs) x = last-there xs x

-- one of a list that is one longer
last-cases : {X : Type 0} (xs : List X) (y : X) (i : ℕ) (x : X) → slice_get (xs ++ y ∷ []) i ≡ Some x → (slice_get xs i ≡ Some x) ⊎ (y ≡ x)
last-cases [] y zero x h = inr (some-injective h)
last-cases [] y (suc i) x h = absurd (let e : None ≡ Some x = h in cc)
last-cases (z ∷ xs) y zero x h = inl h
last-cases (z ∷ xs) y (suc i) x h = last-cases xs y i x h

-- the waiter stands somewhere in the list
abbrev Listed : List Waiter → Waiter → Type 0
Listed ws w = (i : ℕ) × (slice_get ws i ≡ Some w)

found-listed : (ws : List Waiter) (thread : ℕ) (w : Waiter) → wait_of ws thread ≡ Some w → Listed ws w × (w.thread ≡ thread)
found-listed [] thread w h = absurd (let e : None ≡ Some w = h in cc)
found-listed (x ∷ ws) thread w h = by (x.thread == thread) refl h (found-listed ws thread w)
  where
    by : (b : Bool) → (x.thread == thread) ≡ b → cond b (Some x) (wait_of ws thread) ≡ Some w → (wait_of ws thread ≡ Some w → Listed ws w × (w.thread ≡ thread)) → Listed (x ∷ ws) w × (w.thread ≡ thread)
    by true e f rest = let same : x ≡ w = some-injective f in ((0, ap Some same), ap (λ (v : Waiter). v.thread) (sym same) ∙ eqb-true x.thread thread e)
    by false e f rest = let r = rest f in ((suc r.0.0, r.0.1), r.1)

without-listed : (ws : List Waiter) (thread i : ℕ) (w : Waiter) → slice_get (without ws thread) i ≡ Some w → Listed ws w
without-listed [] thread i w h = absurd (let e : None ≡ Some w = h in cc)
without-listed (x ∷ ws) thread i w h = by (λ j f. without-listed ws thread j w f) (x.thread == thread) i h
  where
    by : ((j : ℕ) → slice_get (without ws thread) j ≡ Some w → Listed ws w) → (b : Bool) (j : ℕ) → slice_get (cond b ws (x ∷ without ws thread)) j ≡ Some w → Listed (x ∷ ws) w
    by rest true j f = (suc j, f)
    by rest false zero f = (0, f)
    by rest false (suc j) f = let r = rest j f in (suc r.0, r.1)

-- it was there, or there it was not signalled
abbrev Heard : List Waiter → (condition : ℕ) → Waiter → Type 0
Heard ws condition w = (v : Waiter) × Listed ws v × ((v ≡ w) ⊎ ((woken v ≡ w) × (v.condition ≡ condition)))

later : (x : Waiter) (ws : List Waiter) (condition : ℕ) (w : Waiter) → Heard ws condition w → Heard (x ∷ ws) condition w
later x ws condition w h = (h.0, (suc h.1.0, h.1.1), h.2)

for-it : (condition : ℕ) (w : Waiter) → waits_for condition w ≡ true → w.condition ≡ condition
for-it condition w h = eqb-true w.condition condition (and_parts _ _ h).0

signal-listed : (condition : ℕ) (ws : List Waiter) (i : ℕ) (w : Waiter) → slice_get (with_signal ws condition) i ≡ Some w → Heard ws condition w
signal-listed condition [] i w h = absurd (let e : None ≡ Some w = h in cc)
signal-listed condition (x ∷ ws) i w h = by (λ j f. signal-listed condition ws j w f) (waits_for condition x) refl i h
  where
    by : ((j : ℕ) → slice_get (with_signal ws condition) j ≡ Some w → Heard ws condition w) → (b : Bool) → waits_for condition x ≡ b → (j : ℕ) → slice_get (cond b (woken x ∷ ws) (x ∷ with_signal ws condition)) j ≡ Some w → Heard (x ∷ ws) condition w
    by rest true e zero f = (x, (0, refl), inr (some-injective f, for-it condition x e))
    by rest true e (suc j) f = (w, (suc j, f), inl refl)
    by rest false e zero f = (x, (0, refl), inl (some-injective f))
    by rest false e (suc j) f = later x ws condition w (rest j f)

broadcast-listed : (condition : ℕ) (ws : List Waiter) (i : ℕ) (w : Waiter) → slice_get (with_broadcast ws condition) i ≡ Some w → Heard ws condition w
broadcast-listed condition [] i w h = absurd (let e : None ≡ Some w = h in cc)
broadcast-listed condition (x ∷ ws) zero w h = by (waits_for condition x) refl (some-injective h)
  where
    by : (b : Bool) → waits_for condition x ≡ b → cond b (woken x) x ≡ w → Heard (x ∷ ws) condition w
    by true e f = (x, (0, refl), inr (f, for-it condition x e))
    by false e f = (x, (0, refl), inl f)
broadcast-listed condition (x ∷ ws) (suc i) w h = later x ws condition w (broadcast-listed condition ws i w h)

waking-listed : (ws : List Waiter) (condition : ℕ) (which : Which) (after : List Waiter) → IsWaking ws condition which after → (i : ℕ) (w : Waiter) → slice_get after i ≡ Some w → Heard ws condition w
waking-listed ws condition which after wakes_first i w h = signal-listed condition ws i w h
waking-listed ws condition which after wakes_all i w h = broadcast-listed condition ws i w h

waking-by : (ws : List Waiter) (condition : ℕ) (which : Which) (after : List Waiter) → IsWaking ws condition which after → (which ≡ Function Signal) ⊎ (which ≡ Function Broadcast)
waking-by ws condition which after wakes_first = inl refl
waking-by ws condition which after wakes_all = inr refl

-- ---- what a call does to who waits

pub data WaitersAfter (before : Kernel) (u : ℕ) (which : Which) (condition : ℕ) : Served → Type 0 where
  same_waiters : {after : Kernel} {effect : Effect} → after.waiters ≡ before.waiters → WaitersAfter before u which condition (Done after effect)
  woken_waiters : {after : Kernel} {effect : Effect} → IsWaking before.waiters condition which after.waiters → WaitersAfter before u which condition (Done after effect)
  one_less : {after : Kernel} {effect : Effect} → after.waiters ≡ without before.waiters u → WaitersAfter before u which condition (Done after effect)
  one_more : {after : Kernel} → after.waiters ≡ before.waiters ++ record { thread = u; condition = condition; signalled = false } ∷ [] → WaitersAfter before u which condition (Parked after)
  none_at_all : WaitersAfter before u which condition Blocked
  at_the_end : {after : Kernel} {how : How} → after.waiters ≡ before.waiters → WaitersAfter before u which condition (Ends after how)

module _ (setup : Setup) (kernel : Kernel) (u : ℕ) (call : Call) where
  waiters-of : {served : Served} → Shape setup kernel u call served → WaitersAfter kernel u call.which call.a0 served
  waiters-of (says value) = same_waiters refl
  waiters-of (reads number e xs h) = same_waiters refl
  waiters-of (breaks e end) = same_waiters refl
  waiters-of (maps_more e some room) = same_waiters refl
  waiters-of (owns on fit owner) = same_waiters refl
  waiters-of (wakes ws w) = woken_waiters w
  waiters-of (parks_at w e h) = one_more refl
  waiters-of (resumes w waiter e h) = one_less refl
  waiters-of (makes w f n) = same_waiters refl
  waiters-of (joins w value e h) = same_waiters refl
  waiters-of (leaves w) = same_waiters refl
  waiters-of (of_word word value reserved e low store) = same_waiters refl
  waiters-of (waits w) = none_at_all
  waiters-of (stops status) = at_the_end refl
  waiters-of (stops_last w) = at_the_end refl

-- ---- what is known of each who waits

record Story (program : Program) (threads : List ℕ) (w : Waiter) : Type 0 where
  began : Began program threads w.thread w.condition
  heard : w.signalled ≡ true → BeganAndWoken program threads w.thread w.condition

abbrev AreTold : Program → List ℕ → List Waiter → Type 0
AreTold program threads ws = (i : ℕ) (w : Waiter) → slice_get ws i ≡ Some w → Story program threads w

module _ (program : Program) where
  began-longer : (threads more : List ℕ) (thread condition : ℕ) → Began program threads thread condition → Began program (threads ++ more) thread condition
  began-longer threads more thread condition b = record {
    first = b.first;
    machine = b.machine;
    reached = ap (run program (opening program)) (take-front threads more b.first thread b.own) ∙ b.reached;
    own = slice_get-append threads more b.first thread b.own;
    begins = b.begins;
  }

  woken-longer : (threads more : List ℕ) (thread condition : ℕ) → BeganAndWoken program threads thread condition → BeganAndWoken program (threads ++ more) thread condition
  unfolding began-longer
  woken-longer threads more thread condition b = record {
    wait = began-longer threads more thread condition b.wait;
    place = b.place;
    behind = b.behind;
    waker = b.waker;
    machine = b.machine;
    reached = ap (run program (opening program)) (take-front threads more b.place b.waker b.step) ∙ b.reached;
    step = slice_get-append threads more b.place b.waker b.step;
    wakes = b.wakes;
  }

  longer : (threads more : List ℕ) (w : Waiter) → Story program threads w → Story program (threads ++ more) w
  longer threads more w s = record { began = began-longer threads more w.thread w.condition s.began; heard = λ e. woken-longer threads more w.thread w.condition (s.heard e) }

  -- ---- one step

  module _ (done : List ℕ) (machine : Machine) (reached : run program (opening program) done ≡ Some machine) (told : AreTold program done machine.kernel.waiters) (x : ℕ) where
    seam : run program (opening program) (take (length done) (done ++ x ∷ [])) ≡ Some machine
    seam = ap (run program (opening program)) (take-seam done (x ∷ [])) ∙ reached

    same-told : (ws : List Waiter) → ws ≡ machine.kernel.waiters → AreTold program (done ++ x ∷ []) ws
    same-told ws e i w h = longer done (x ∷ []) w (told i w (ap (λ (v : List Waiter). slice_get v i) (sym e) ∙ h))

    less-told : (ws : List Waiter) → ws ≡ without machine.kernel.waiters x → AreTold program (done ++ x ∷ []) ws
    less-told ws e i w h =
        let l = without-listed machine.kernel.waiters x i w (ap (λ (v : List Waiter). slice_get v i) (sym e) ∙ h) in
        longer done (x ∷ []) w (told l.0 w l.1)

    module _ (call : Call) (served : Served) (is : call_served_in program machine x ≡ Some (call, served)) where
      heard-told : (kernel : Kernel) (effect : Effect) → served ≡ Done kernel effect → (call.which ≡ Function Signal) ⊎ (call.which ≡ Function Broadcast) → (w : Waiter) → Heard machine.kernel.waiters call.a0 w → Story program (done ++ x ∷ []) w
      unfolding began-longer
      heard-told kernel effect e which w (v, l, inl same) = longer done (x ∷ []) w (subst (Story program done) same (told l.0 v l.1))
      heard-told kernel effect e which w (v, l, inr now) =
          let s = told l.0 v l.1 in
          subst (Story program (done ++ x ∷ [])) now.0 (record {
            began = began-longer done (x ∷ []) v.thread v.condition s.began;
            heard = λ f. record {
              wait = began-longer done (x ∷ []) v.thread v.condition s.began;
              place = length done;
              behind = slice_get_within done s.began.first v.thread s.began.own;
              waker = x;
              machine = machine;
              reached = seam;
              step = last-there done x;
              wakes = record { call = call; after = kernel; effect = effect; served = is ∙ ap (λ (o : Served). Some (call, o)) e; by = which; on = sym now.1 };
            };
          })

      new-told : (kernel : Kernel) → served ≡ Parked kernel → Story program (done ++ x ∷ []) (record { thread = x; condition = call.a0; signalled = false })
      new-told kernel e = record {
        began = record {
          first = length done;
          machine = machine;
          reached = seam;
          own = last-there done x;
          begins = record { call = call; after = kernel; served = is ∙ ap (λ (o : Served). Some (call, o)) e; on = refl };
        };
        heard = λ (f : false ≡ true). absurd (false≢true f);
      }

      more-told : (kernel : Kernel) → served ≡ Parked kernel → (ws : List Waiter) → ws ≡ machine.kernel.waiters ++ record { thread = x; condition = call.a0; signalled = false } ∷ [] → AreTold program (done ++ x ∷ []) ws
      more-told kernel e ws f i w h = elim (last-cases machine.kernel.waiters _ i w (ap (λ (v : List Waiter). slice_get v i) (sym f) ∙ h)) [
        | inl old ↦ longer done (x ∷ []) w (told i w old)
        | inr new ↦ subst (Story program (done ++ x ∷ [])) new (new-told kernel e)
      ]

      called-told : (cpu : Cpu) (payload : List ℕ) (o : Served) → served ≡ o → WaitersAfter machine.kernel x call.which call.a0 o → (after : Machine) → called machine cpu payload o ≡ Some after → AreTold program (done ++ x ∷ []) after.kernel.waiters
      called-told cpu payload (Done kernel effect) e (same_waiters f) after g = subst (λ (m : Machine). AreTold program (done ++ x ∷ []) m.kernel.waiters) (some-injective g) (same-told kernel.waiters f)
      called-told cpu payload (Done kernel effect) e (woken_waiters f) after g = subst (λ (m : Machine). AreTold program (done ++ x ∷ []) m.kernel.waiters) (some-injective g)
          (λ i w h. heard-told kernel effect e (waking-by machine.kernel.waiters call.a0 call.which kernel.waiters f) w (waking-listed machine.kernel.waiters call.a0 call.which kernel.waiters f i w h))
      called-told cpu payload (Done kernel effect) e (one_less f) after g = subst (λ (m : Machine). AreTold program (done ++ x ∷ []) m.kernel.waiters) (some-injective g) (less-told kernel.waiters f)
      called-told cpu payload (Parked kernel) e (one_more f) after g = subst (λ (m : Machine). AreTold program (done ++ x ∷ []) m.kernel.waiters) (some-injective g) (more-told kernel e kernel.waiters f)
      called-told cpu payload Blocked e none_at_all after g = absurd (let f : None ≡ Some after = g in cc)
      called-told cpu payload (Ends kernel how) e (at_the_end f) after g = subst (λ (m : Machine). AreTold program (done ++ x ∷ []) m.kernel.waiters) (some-injective g) (same-told kernel.waiters f)

    next-told : (cpu : Cpu) (n : Next) → steppable machine x ≡ Some cpu → next_of program machine cpu ≡ n → (after : Machine) → step_by program machine x cpu n ≡ Some after → AreTold program (done ++ x ∷ []) after.kernel.waiters
    next-told cpu (Executes instr) live e after g = subst (λ (m : Machine). AreTold program (done ++ x ∷ []) m.kernel.waiters) (some-injective g) (same-told machine.kernel.waiters refl)
    next-told cpu (Stands (Calls call)) live e after g =
        let served : Served = served_in program machine x call in
        let question : Call = asked call (payload_in program machine call) in
        let is : call_served_in program machine x ≡ Some (call, served) = ap (option_and_then (λ c. served_next program machine x (next_of program machine c))) live ∙ ap (served_next program machine x) e in
        called-told call served is cpu (put_out call.which (payload_in program machine call)) served refl (waiters-of (setup_of program) machine.kernel x question (shape-of (setup_of program) machine.kernel x question)) after g
    next-told cpu (Stands (Trap code)) live e after g = subst (λ (m : Machine). AreTold program (done ++ x ∷ []) m.kernel.waiters) (some-injective g) (same-told machine.kernel.waiters refl)
    next-told cpu (Stands (PageFault page)) live e after g = absurd (let f : None ≡ Some after = g in cc)
    next-told cpu (Stands Watchdog) live e after g = absurd (let f : None ≡ Some after = g in cc)

    step-told : (after : Machine) → step program machine x ≡ Some after → AreTold program (done ++ x ∷ []) after.kernel.waiters
    unfolding step
    step-told after e =
        option_and_then_some (λ cpu. step_by program machine x cpu (next_of program machine cpu)) (steppable machine x) after e (λ cpu live g. next-told cpu (next_of program machine cpu) live refl after g)

  -- ---- all steps

  append-one : (done : List ℕ) (x : ℕ) (rest : List ℕ) → (done ++ x ∷ []) ++ rest ≡ done ++ x ∷ rest
  append-one [] x rest = refl
  append-one (y ∷ done) x rest = ap {B = List ℕ} (λ r. y ∷ r) (append-one done x rest)

  all-told : (done rest : List ℕ) (machine last : Machine) → run program (opening program) done ≡ Some machine → AreTold program done machine.kernel.waiters → run program machine rest ≡ Some last → AreTold program (done ++ rest) last.kernel.waiters
  all-told done [] machine last reached told e =
      subst (λ (m : Machine). AreTold program (done ++ []) m.kernel.waiters) (some-injective e) (λ i w h. longer done [] w (told i w h))
  all-told done (x ∷ rest) machine last reached told e =
      option_and_then_some (λ after. run program after rest) (step program machine x) last e (λ after s r.
      let on : run program (opening program) (done ++ x ∷ []) ≡ Some after = run-append program (opening program) done (x ∷ []) ∙ (ap (option_and_then (λ m. run program m (x ∷ []))) reached ∙ ap (option_and_then (λ m. run program m [])) s) in
      subst (λ (l : List ℕ). AreTold program l last.kernel.waiters) (append-one done x rest)
      (all-told (done ++ x ∷ []) rest after last on (step-told done machine reached told x after s) r))

  opening-told : AreTold program [] (opening program).kernel.waiters
  unfolding opening
  opening-told i w h = absurd (let f : None ≡ Some w = h in cc)

  pub ends-by-a-signal : (threads : List ℕ) (machine : Machine) (thread : ℕ) (call : Call) (after : Kernel) (effect : Effect) → run program (opening program) threads ≡ Some machine → call_served_in program machine thread ≡ Some (call, Done after effect) → call.which ≡ Function Wait → effect.answer ≡ Some 0
      → (condition : ℕ) × BeganAndWoken program threads thread condition
  ends-by-a-signal threads machine thread call after effect reached served w zero_answered =
      let told = all-told [] threads (opening program) machine refl opening-told reached in
      let ended = (wait-ended-well (setup_of program) machine.kernel thread (asked call (payload_in program machine call)) after effect w (served-as served) zero_answered).0 in
      let listed = found-listed machine.kernel.waiters thread ended.0 ended.1 in
      (ended.0.condition, subst (λ (t : ℕ). BeganAndWoken program threads t ended.0.condition) listed.1 ((told listed.0.0 ended.0 listed.0.1).heard ended.2))
    where
      by-next : (n : Next) → served_next program machine thread n ≡ Some (call, Done after effect) → served_in program machine thread call ≡ Done after effect
      by-next (Executes instr) e = absurd (let f : None ≡ Some (call, Done after effect) = e in cc)
      by-next (Stands (Calls other)) e =
          let both : (other, served_in program machine thread other) ≡ (call, Done after effect) = some-injective e in
          ap (served_in program machine thread) (sym (ap (λ (p : Call × Served). p.0) both)) ∙ ap (λ (p : Call × Served). p.1) both
      by-next (Stands (Trap code)) e = absurd (let f : None ≡ Some (call, Done after effect) = e in cc)
      by-next (Stands (PageFault page)) e = absurd (let f : None ≡ Some (call, Done after effect) = e in cc)
      by-next (Stands Watchdog) e = absurd (let f : None ≡ Some (call, Done after effect) = e in cc)

      served-as : call_served_in program machine thread ≡ Some (call, Done after effect) → served_in program machine thread call ≡ Done after effect
      served-as e = option_and_then_some (λ cpu. served_next program machine thread (next_of program machine cpu)) (steppable machine thread) (call, Done after effect) e (λ cpu live f. by-next (next_of program machine cpu) f)

pub ruleset wait_laws = (ends-by-a-signal)
