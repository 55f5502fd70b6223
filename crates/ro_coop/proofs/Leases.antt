-- A step of a peer that needs no other peer is a step of its machine that the kernel does not serve.
use Rattle.std.specs.Prelude.{◌≡◌, ◌≢◌, ℕ, ◌+◌, Bool, true, false, not, ◌&&◌, cond, List, [], ◌∷◌, length, Option, Some, None, is_some, ◌==◌, slice_get}
use Rattle.std.specs.Option.{option_map_or}
use Rattle.std.proofs.Common.{refl, sym, ap, ap₂, ◌∙◌, subst, arith}
use Rattle.std.proofs.lemmas.Bool.{true≢false, false≢true, eqb-true, eq-eqb}
use Rattle.std.proofs.lemmas.List.{map-set, length-set}
use Rattle.std.proofs.lemmas.Option.{option_and_then_some}
use Rattle.ro_decode.specs.declared.Instr.{Instr}
use Rattle.ro_event.specs.declared.calls.Which.{Which}
use Rattle.ro_event.specs.declared.calls.Call.{Call}
use Rattle.ro_event.specs.declared.stops.Stop.TheVariants.{Calls, Trap, PageFault, Watchdog}
use Rattle.ro_exec.specs.declared.Cpu.{Cpu}
use Rattle.ro_exec.specs.Next.{Layout, Next, Stands, Executes, next}
use Rattle.ro_exec.proofs.Backing.{executes-backed, stands-backed, a_call}
use Rattle.ro_kernel.specs.Kernel.{Kernel, lives_on, live_option}
use Rattle.ro_kernel.specs.declared.Life.{Life}
use Rattle.ro_kernel.proofs.TableFits.{TableFits}
use Rattle.ro_thread.specs.declared.Thread.{Thread}
use Rattle.ro_replica.specs.Runs.{executed}
use Rattle.ro_plain.specs.Machine.{Program, setup_of, layout_in, steppable, step, IsPlain}
use Rattle.ro_plain.specs.Order.{is_zero}
use Rattle.ro_plain.proofs.Calls.{some-injective, steppable-from}
use Rattle.ro_plain.proofs.Commute.{plain-step, slice_get-set_other}
use Rattle.ro_legal.proofs.Lists.{get-map-there, get-set-same}
use Rattle.ro_orders.specs.Turns.{Chosen, is_cooperative, is_lock_or_unlock, is_lock, Turn, Alone, Gets, Serves, turn_of, OfMutex, who_takes}
use Rattle.ro_orders.specs.Copies.{Rows, is_fault, is_backed}
use Rattle.ro_orders.specs.Answers.{Answer, Answers, Waits, answer_by, answer_of}
use Rattle.ro_orders.proofs.Mutexes.{IsMutexCall, a_lock, an_unlock, is-mutex-call}
use Rattle.ro_orders.proofs.Steps.{turn-plain, AtMutex, answer_at, step-answered, turn-answered}
use Rattle.ro_peer.specs.declared.mutexes.Mutex.{Mutex}
use Rattle.ro_replica.specs.Replica.{went_on}
use Rattle.ro_peer.specs.Peers.{Peer, mutex_in, mutex_after, with_mutex, cpu_in, kernel_in, machine_of, is_row, is_got, peer_after, leased_answer, leased_call, leased_next, leased_at, leased}
use Rattle.ro_coop.specs.Core.{OneEnters}
use Rattle.ro_coop.proofs.Tables.{AllCooperative, listed-coop, lives-in, layout-in, coop-in, owner-in, changed-in}

-- ---- ranks

-- a mutex after a change of one
pub after-cases : (mutexes : List Mutex) (a : ℕ) (change : Option (Option ℕ)) (n : ℕ) (x : Mutex) → mutex_in mutexes n ≡ Some x → mutex_in (with_mutex mutexes a change) n ≡ Some (cond (a == n) (mutex_after change x) x)
after-cases [] a change n x e = absurd (let f : None ≡ Some x = e in cc)
after-cases (m ∷ mutexes) a change n x e = by (m.address == a) refl (m.address == n) refl e (after-cases mutexes a change n x)
  where
    after-address : (c : Option (Option ℕ)) → (mutex_after c m).address ≡ m.address
    after-address None = refl
    after-address (Some o) = refl

    by : (b : Bool) → (m.address == a) ≡ b → (c : Bool) → (m.address == n) ≡ c → cond c (Some m) (mutex_in mutexes n) ≡ Some x → (mutex_in mutexes n ≡ Some x → mutex_in (with_mutex mutexes a change) n ≡ Some (cond (a == n) (mutex_after change x) x))
        → mutex_in (cond b (mutex_after change m ∷ mutexes) (m ∷ with_mutex mutexes a change)) n ≡ Some (cond (a == n) (mutex_after change x) x)
    by true q true r f rest =
        let same : m ≡ x = cc in
        ap (λ (d : ℕ). cond (d == n) (Some (mutex_after change m)) (mutex_in mutexes n)) (after-address change)
        ∙ (ap (λ (t : Bool). cond t (Some (mutex_after change m)) (mutex_in mutexes n)) r
        ∙ (ap (λ (y : Mutex). Some (mutex_after change y)) same
        ∙ sym (ap (λ (t : Bool). Some (cond t (mutex_after change x) x)) (eq-eqb a n (sym (eqb-true m.address a q) ∙ eqb-true m.address n r)))))
    by true q false r f rest =
        ap (λ (d : ℕ). cond (d == n) (Some (mutex_after change m)) (mutex_in mutexes n)) (after-address change)
        ∙ (ap (λ (t : Bool). cond t (Some (mutex_after change m)) (mutex_in mutexes n)) r
        ∙ (f ∙ sym (ap (λ (t : Bool). Some (cond t (mutex_after change x) x)) (ap (λ (d : ℕ). d == n) (sym (eqb-true m.address a q)) ∙ r))))
    by false q true r f rest =
        let same : m ≡ x = cc in
        ap (λ (t : Bool). cond t (Some m) (mutex_in (with_mutex mutexes a change) n)) r
        ∙ (ap (λ (y : Mutex). Some y) same
        ∙ sym (ap (λ (t : Bool). Some (cond t (mutex_after change x) x)) (differs' a n (λ s. true≢false (sym (eq-eqb m.address a (eqb-true m.address n r ∙ sym s)) ∙ q)))))
      where
        differs' : (a b : ℕ) → (a ≡ b → ⊥) → (a == b) ≡ false
        differs' a b h = or (a == b) refl
          where
            or : (t : Bool) → (a == b) ≡ t → (a == b) ≡ false
            or true e = absurd (h (eqb-true a b e))
            or false e = e
    by false q false r f rest = ap (λ (t : Bool). cond t (Some m) (mutex_in (with_mutex mutexes a change) n)) r ∙ rest f

-- the same mutexes are listed
pub known-after : (mutexes : List Mutex) (a : ℕ) (change : Option (Option ℕ)) (n : ℕ) → is_some (mutex_in (with_mutex mutexes a change) n) ≡ is_some (mutex_in mutexes n)
known-after [] a change n = refl
known-after (m ∷ mutexes) a change n = by (m.address == a) change (known-after mutexes a change n)
  where
    same : (b : Bool) (x y : Mutex) (o : Option Mutex) → is_some (cond b (Some x) o) ≡ is_some (cond b (Some y) o)
    same true x y o = refl
    same false x y o = refl

    rest-same : (b : Bool) (o p : Option Mutex) → is_some o ≡ is_some p → is_some (cond b (Some m) o) ≡ is_some (cond b (Some m) p)
    rest-same true o p e = refl
    rest-same false o p e = e

    by : (b : Bool) (c : Option (Option ℕ)) → is_some (mutex_in (with_mutex mutexes a change) n) ≡ is_some (mutex_in mutexes n) → is_some (mutex_in (cond b (mutex_after c m ∷ mutexes) (m ∷ with_mutex mutexes a change)) n) ≡ is_some (mutex_in (m ∷ mutexes) n)
    by true None rest = refl
    by true (Some o) rest = same (m.address == n) _ _ _
    by false c rest = rest-same (m.address == n) _ _ rest

-- a thread that lives may step in the machine
pub live-in : (kernel : Kernel) (output : List ℕ) (peer : Peer) (number : ℕ) (thread : Thread) → slice_get peer.replica.threads number ≡ Some thread → lives_on kernel number ≡ true → steppable (machine_of kernel output peer) number ≡ Some thread.cpu
live-in kernel output peer number thread there lives = steppable-from (machine_of kernel output peer) number thread.cpu (record {
  going = refl;
  live = ap (λ (l : List Life). live_option (slice_get l number)) (lives-in kernel peer) ∙ lives;
  there = get-map-there cpu_in peer.replica.threads number thread there;
})

-- ---- what a step of one's own is

-- the step of the machine, and what becomes of the mutexes
pub record IsOwnStep (program : Program) (chosen : Chosen) (rows : Rows) (kernel : Kernel) (output : List ℕ) (peer : Peer) (number : ℕ) (after : Peer) : Type 0 where
  pub steps : step program (machine_of kernel output peer) number ≡ Some (machine_of kernel output after)
  pub unserved : turn_of program chosen (machine_of kernel output peer) number ≢ Serves
  pub gets : (m : ℕ) → turn_of program chosen (machine_of kernel output peer) number ≡ Gets m → (x : Mutex) × (mutex_in peer.mutexes m ≡ Some x) × (rows m x.rank ≡ Some number)
  pub ranks : (m : ℕ) (x : Mutex) → mutex_in peer.mutexes m ≡ Some x → (y : Mutex) × (mutex_in after.mutexes m ≡ Some y) × (y.rank ≡ x.rank + length (who_takes (turn_of program chosen (machine_of kernel output peer) number) (OfMutex m) number))
  pub all : AllCooperative chosen kernel after.mutexes
  pub known : (n : ℕ) → is_some (mutex_in after.mutexes n) ≡ is_some (mutex_in peer.mutexes n)
  pub same_backed : after.replica.backed ≡ peer.replica.backed
  pub others : (i : ℕ) → i ≢ number → slice_get after.replica.threads i ≡ slice_get peer.replica.threads i
  pub as_many : length after.replica.threads ≡ length peer.replica.threads
  pub on_backed : is_backed program peer.replica.backed (machine_of kernel output peer) number ≡ true
  pub grown : (x : Thread) → slice_get peer.replica.threads number ≡ Some x → (y : Thread) × (slice_get after.replica.threads number ≡ Some y) × (y.since ≡ x.since + 1)

-- ---- which calls get a mutex

carry : (b : Bool) (c change : Option (Option ℕ)) (v value : ℕ) → Answers c v ≡ Answers change value → (b && (v == 0)) ≡ is_got c → (b && is_zero (Some value)) ≡ is_got change
carry b c change v value e h = let p : c ≡ change = cc in let q : v ≡ value = cc in ap (λ (n : ℕ). b && (n == 0)) (sym q) ∙ (h ∙ ap is_got p)

no-wait : (change : Option (Option ℕ)) (value : ℕ) → Waits ≡ Answers change value → ⊥
no-wait change value e = cc

got-zero : {w : Which} (t : ℕ) (owner : Option ℕ) (change : Option (Option ℕ)) (value : ℕ) → IsMutexCall w → answer_by w t owner ≡ Answers change value → (is_lock w && is_zero (Some value)) ≡ is_got change
got-zero t None change value a_lock e = carry true (Some (Some t)) change 0 value e refl
got-zero t (Some owner) change value a_lock e = by (owner == t) e
  where
    by : (b : Bool) → cond b (Answers None 35) Waits ≡ Answers change value → (true && is_zero (Some value)) ≡ is_got change
    by true f = carry true None change 35 value f refl
    by false f = absurd (no-wait change value f)
got-zero t None change value an_unlock e = carry false None change 1 value e refl
got-zero t (Some owner) change value an_unlock e = by (owner == t) e
  where
    by : (b : Bool) → cond b (Answers (Some None) 0) (Answers None 1) ≡ Answers change value → (false && is_zero (Some value)) ≡ is_got change
    by true f = carry false (Some None) change 0 value f refl
    by false f = carry false None change 1 value f refl

-- the rank grows where it is got
no-more : (n : ℕ) → n ≡ n + 0
no-more n = omega arith

rank-after : (change : Option (Option ℕ)) (x : Mutex) → (mutex_after change x).rank ≡ x.rank + cond (is_got change) 1 0
rank-after None x = no-more x.rank
rank-after (Some None) x = refl
rank-after (Some (Some t)) x = refl

count-bits : (g b : Bool) (a m number : ℕ) → (a == m) ≡ b → length (who_takes (cond g (Gets a) Alone) (OfMutex m) number) ≡ cond b (cond g 1 0) 0
count-bits true true a m number e = ap (λ (t : Bool). length (cond t (number ∷ []) [])) e
count-bits true false a m number e = ap (λ (t : Bool). length (cond t (number ∷ []) [])) e
count-bits false true a m number e = refl
count-bits false false a m number e = refl

pub rank-bits : (change : Option (Option ℕ)) (x : Mutex) (b : Bool) → (cond b (mutex_after change x) x).rank ≡ x.rank + cond b (cond (is_got change) 1 0) 0
rank-bits change x true = rank-after change x
rank-bits change x false = no-more x.rank

-- each mutex is still cooperative
all-after : (chosen : Chosen) (kernel : Kernel) (mutexes : List Mutex) (a : ℕ) (change : Option (Option ℕ)) → AllCooperative chosen kernel mutexes → AllCooperative chosen kernel (with_mutex mutexes a change)
all-after chosen kernel [] a change h = tt
all-after chosen kernel (m ∷ mutexes) a change h = by (m.address == a) change (all-after chosen kernel mutexes a change h.1)
  where
    by : (b : Bool) (c : Option (Option ℕ)) → AllCooperative chosen kernel (with_mutex mutexes a change) → AllCooperative chosen kernel (cond b (mutex_after c m ∷ mutexes) (m ∷ with_mutex mutexes a change))
    by true None rest = h
    by true (Some o) rest = h
    by false c rest = (h.0, rest)

pub row-is : (o : Option ℕ) (number : ℕ) → is_row o number ≡ true → o ≡ Some number
row-is None number e = absurd (false≢true e)
row-is (Some u) number e = ap Some (eqb-true u number e)

-- ---- the step

-- a mutex that stands in the table is one whose word fits
pub answers-fit : (program : Program) (kernel : Kernel) (output : List ℕ) (peer : Peer) (t : ℕ) (h : AtMutex program (machine_of kernel output peer) t) → TableFits (setup_of program) (kernel_in kernel peer) → answer_at program (machine_of kernel output peer) t h ≡ answer_by h.call.which t h.owner
answers-fit program kernel output peer t h table = ap (λ (b : Bool). answer_of b h.call.which t h.owner) (table h.call.a0 (ap is_some h.owned))

module _ (program : Program) (chosen : Chosen) (one : OneEnters chosen) (rows : Rows) (kernel : Kernel) (output : List ℕ) (watchdog : ℕ) (peer : Peer) (all : AllCooperative chosen kernel peer.mutexes) (table : TableFits (setup_of program) (kernel_in kernel peer)) (number : ℕ) (thread : Thread) (there : slice_get peer.replica.threads number ≡ Some thread) (lives : lives_on kernel number ≡ true) where
  abbrev here : Layout
  here = layout_in program kernel

  live_here : steppable (machine_of kernel output peer) number ≡ Some thread.cpu
  live_here = steppable-from (machine_of kernel output peer) number thread.cpu (record {
    going = refl;
    live = ap (λ (l : List Life). live_option (slice_get l number)) (lives-in kernel peer) ∙ lives;
    there = get-map-there cpu_in peer.replica.threads number thread there;
  })

  backed-here : (n : Next) → next here peer.replica.backed peer.replica.memory thread.cpu ≡ n → not (is_fault n) ≡ true → is_backed program peer.replica.backed (machine_of kernel output peer) number ≡ true
  unfolding is_backed
  backed-here n e f =
      ap (λ (o : Option Cpu). option_map_or (λ cpu. not (is_fault (next (layout_in program (kernel_in kernel peer)) peer.replica.backed peer.replica.memory cpu))) o false) live_here
      ∙ (ap (λ (l : Layout). not (is_fault (next l peer.replica.backed peer.replica.memory thread.cpu))) (layout-in program kernel peer)
      ∙ (ap (λ (m : Next). not (is_fault m)) e ∙ f))

  -- what is next in the peer is next in its machine
  next-machine : (n : Next) → next here peer.replica.backed peer.replica.memory thread.cpu ≡ n → next (layout_in program (kernel_in kernel peer)) peer.replica.backed peer.replica.memory thread.cpu ≡ n
  next-machine n e = ap (λ (l : Layout). next l peer.replica.backed peer.replica.memory thread.cpu) (layout-in program kernel peer) ∙ e

  -- a plain instruction
  module _ (instr : Instr) (n : next here peer.replica.backed peer.replica.memory thread.cpu ≡ Executes instr) where
    plain : IsPlain program (machine_of kernel output peer) number
    plain = record { cpu = thread.cpu; instr = instr; live = live_here; executes = executes-backed (layout_in program (kernel_in kernel peer)) peer.replica.backed peer.replica.memory thread.cpu instr (next-machine (Executes instr) n) }

    own-plain : (after : Peer) → leased_next rows peer number thread (Executes instr) ≡ Some after → IsOwnStep program chosen rows kernel output peer number after
    own-plain after e = subst (IsOwnStep program chosen rows kernel output peer number) (some-injective e) (record {
      steps =
          plain-step program (machine_of kernel output peer) number (record { cpu = thread.cpu; instr = instr; live = live_here; executes = executes-backed (layout_in program (kernel_in kernel peer)) peer.replica.backed peer.replica.memory thread.cpu instr (next-machine (Executes instr) n) })
          ∙ ap (λ (cpus : List Cpu). Some (record (machine_of kernel output (record peer { replica = executed number peer.replica thread instr })) { cpus = cpus }))
          (sym (map-set cpu_in peer.replica.threads number _));
      unserved = λ f. let g : Alone ≡ Serves = sym (turn-plain program chosen (machine_of kernel output peer) number plain) ∙ f in cc;
      gets = λ m f. absurd (let g : Alone ≡ Gets m = sym (turn-plain program chosen (machine_of kernel output peer) number plain) ∙ f in cc);
      ranks = λ m x f. (x, f, no-more x.rank ∙ ap (λ (turn : Turn). x.rank + length (who_takes turn (OfMutex m) number)) (sym (turn-plain program chosen (machine_of kernel output peer) number plain)));
      all = all;
      known = λ n. refl;
      same_backed = refl;
      others = λ i d. slice_get-set_other peer.replica.threads number i _ (λ e. d (sym e));
      as_many = length-set peer.replica.threads number _;
      on_backed = backed-here (Executes instr) n refl;
      grown = λ x e. (_, get-set-same peer.replica.threads number thread _ there, ap (λ (z : Thread). z.since + 1) (some-injective (sym there ∙ e)));
    })

  -- a call on a cooperative mutex
  module _ (call : Call) (n : next here peer.replica.backed peer.replica.memory thread.cpu ≡ Stands (Calls call)) (w : is_lock_or_unlock call.which ≡ true) (m : Mutex) (found : mutex_in peer.mutexes call.a0 ≡ Some m) where
    abbrev at_m : AtMutex program (machine_of kernel output peer) number
    at_m = record {
      cpu = thread.cpu;
      call = call;
      owner = m.owner;
      live = live_here;
      stands = stands-backed (layout_in program (kernel_in kernel peer)) peer.replica.backed peer.replica.memory thread.cpu (Calls call) a_call (next-machine (Stands (Calls call)) n);
      on_mutex = is-mutex-call call.which w;
      owned = owner-in chosen one kernel peer all call.a0 m found;
    }

    coop_here : is_cooperative chosen (kernel_in kernel peer) call.a0 ≡ true
    coop_here = coop-in chosen one kernel peer all call.a0 ∙ listed-coop chosen kernel peer.mutexes all call.a0 m found

    module _ (change : Option (Option ℕ)) (value : ℕ) (answer : answer_by call.which number m.owner ≡ Answers change value) where
      answer_here : answer_at program (machine_of kernel output peer) number at_m ≡ Answers change value
      answer_here = answers-fit program kernel output peer number at_m table ∙ answer

      turn_is : turn_of program chosen (machine_of kernel output peer) number ≡ cond (is_got change) (Gets call.a0) Alone
      turn_is =
          turn-answered program (machine_of kernel output peer) number at_m chosen change value coop_here answer_here
          ∙ ap (λ (b : Bool). cond b (Gets call.a0) Alone) (got-zero number m.owner change value (is-mutex-call call.which w) answer)

      not-served : (b : Bool) → cond b (Gets call.a0) Alone ≡ Serves → ⊥
      not-served true e = let f : Gets call.a0 ≡ Serves = e in cc
      not-served false e = let f : Alone ≡ Serves = e in cc

      gets-it : (b : Bool) (a : ℕ) → cond b (Gets call.a0) Alone ≡ Gets a → call.a0 ≡ a
      gets-it true a e = let f : Gets call.a0 ≡ Gets a = e in cc
      gets-it false a e = absurd (let f : Alone ≡ Gets a = e in cc)

      it-got : (b : Bool) (a : ℕ) → cond b (Gets call.a0) Alone ≡ Gets a → b ≡ true
      it-got true a e = refl
      it-got false a e = absurd (let f : Alone ≡ Gets a = e in cc)

      abbrev gone_on : Peer
      gone_on = peer_after peer number thread call change value

      own-call : (is_got change ≡ true → rows call.a0 m.rank ≡ Some number) → IsOwnStep program chosen rows kernel output peer number gone_on
      own-call row = record {
        steps =
            step-answered program (machine_of kernel output peer) number at_m change value answer_here
            ∙ ap₂ (λ (cpus : List Cpu) (k : Kernel). Some (record (machine_of kernel output peer) { cpus = cpus; kernel = k }))
            (sym (map-set cpu_in peer.replica.threads number (went_on call number value thread)))
            (changed-in chosen one kernel peer all number call.a0 m change found gone_on refl refl);
        unserved = λ f. not-served (is_got change) (sym turn_is ∙ f);
        gets = λ a f.
            let same = gets-it (is_got change) a (sym turn_is ∙ f) in
            (m, ap (mutex_in peer.mutexes) (sym same) ∙ found, ap (λ (x : ℕ). rows x m.rank) (sym same) ∙ row (it-got (is_got change) a (sym turn_is ∙ f)));
        ranks = λ a x f. (
          cond (call.a0 == a) (mutex_after change x) x,
          after-cases peer.mutexes call.a0 change a x f,
          rank-bits change x (call.a0 == a)
              ∙ ap (λ (k : ℕ). x.rank + k)
              (sym (ap (λ (turn : Turn). length (who_takes turn (OfMutex a) number)) turn_is ∙ count-bits (is_got change) (call.a0 == a) call.a0 a number refl)),
        );
        all = all-after chosen kernel peer.mutexes call.a0 change all;
        known = known-after peer.mutexes call.a0 change;
        same_backed = refl;
        others = λ i d. slice_get-set_other peer.replica.threads number i _ (λ e. d (sym e));
        as_many = length-set peer.replica.threads number _;
        on_backed = backed-here (Stands (Calls call)) n refl;
        grown = λ x e. (_, get-set-same peer.replica.threads number thread _ there, ap (λ (z : Thread). z.since + 1) (some-injective (sym there ∙ e)));
      }

    own-answer : (answer : Answer) → answer_by call.which number m.owner ≡ answer → (after : Peer) → leased_answer rows peer number thread call m answer ≡ Some after → IsOwnStep program chosen rows kernel output peer number after
    own-answer Waits e after f = absurd (let g : None ≡ Some after = f in cc)
    own-answer (Answers change value) e after f = by (is_got change) refl (is_row (rows call.a0 m.rank) number) refl f
      where
        by : (b : Bool) → is_got change ≡ b → (c : Bool) → is_row (rows call.a0 m.rank) number ≡ c → cond (b && not c) None (Some (peer_after peer number thread call change value)) ≡ Some after → IsOwnStep program chosen rows kernel output peer number after
        by true q false r g = absurd (let h : None ≡ Some after = g in cc)
        by true q true r g = subst (IsOwnStep program chosen rows kernel output peer number) (some-injective g) (own-call change value e (λ h. row-is (rows call.a0 m.rank) number r))
        by false q c r g = subst (IsOwnStep program chosen rows kernel output peer number) (some-injective g) (own-call change value e (λ h. absurd (true≢false (sym h ∙ q))))

  by-call : (call : Call) → next here peer.replica.backed peer.replica.memory thread.cpu ≡ Stands (Calls call) → (b : Bool) → is_lock_or_unlock call.which ≡ b → (o : Option Mutex) → mutex_in peer.mutexes call.a0 ≡ o → (after : Peer) → cond b (leased_call rows peer number thread call o) None ≡ Some after → IsOwnStep program chosen rows kernel output peer number after
  by-call call n true w (Some m) found after e = own-answer call n w m found _ refl after e
  by-call call n true w None found after e = absurd (let g : None ≡ Some after = e in cc)
  by-call call n false w o found after e = absurd (let g : None ≡ Some after = e in cc)

  by-next : (n : Next) → next here peer.replica.backed peer.replica.memory thread.cpu ≡ n → (after : Peer) → leased_next rows peer number thread n ≡ Some after → IsOwnStep program chosen rows kernel output peer number after
  by-next (Executes instr) n after e = own-plain instr n after e
  by-next (Stands (Calls call)) n after e = by-call call n (is_lock_or_unlock call.which) refl (mutex_in peer.mutexes call.a0) refl after e
  by-next (Stands (Trap code)) n after e = absurd (let g : None ≡ Some after = e in cc)
  by-next (Stands (PageFault page)) n after e = absurd (let g : None ≡ Some after = e in cc)
  by-next (Stands Watchdog) n after e = absurd (let g : None ≡ Some after = e in cc)

  pub own-at : (after : Peer) → leased_at here rows watchdog peer number thread ≡ Some after → IsOwnStep program chosen rows kernel output peer number after
  own-at after e = by (thread.since == watchdog) e
    where
      by : (b : Bool) → cond b None (leased_next rows peer number thread (next here peer.replica.backed peer.replica.memory thread.cpu)) ≡ Some after → IsOwnStep program chosen rows kernel output peer number after
      by true f = absurd (let g : None ≡ Some after = f in cc)
      by false f = by-next _ refl after f

-- a step of a peer's own is one of its machine
pub own-step : (program : Program) (chosen : Chosen) → OneEnters chosen → (rows : Rows) (kernel : Kernel) (output : List ℕ) (watchdog : ℕ) (peer after : Peer) (number : ℕ) → AllCooperative chosen kernel peer.mutexes → TableFits (setup_of program) (kernel_in kernel peer) → lives_on kernel number ≡ true → leased (layout_in program kernel) rows watchdog peer number ≡ Some after → IsOwnStep program chosen rows kernel output peer number after
unfolding leased
own-step program chosen one rows kernel output watchdog peer after number all table lives e =
    option_and_then_some (leased_at (layout_in program kernel) rows watchdog peer number) (slice_get peer.replica.threads number) after e
    (λ thread there f. own-at program chosen one rows kernel output watchdog peer all table number thread there lives after f)

-- and none at the watchdog
pub own-watch : (layout : Layout) (rows : Rows) (watchdog : ℕ) (peer after : Peer) (number : ℕ) (x : Thread) → slice_get peer.replica.threads number ≡ Some x → leased layout rows watchdog peer number ≡ Some after → (x.since == watchdog) ≡ false
unfolding leased
own-watch layout rows watchdog peer after number x there e =
    option_and_then_some (leased_at layout rows watchdog peer number) (slice_get peer.replica.threads number) after e
    (λ thread at f. ap (λ (z : Thread). z.since == watchdog) (some-injective (sym there ∙ at)) ∙ by thread (thread.since == watchdog) refl f)
  where
    by : (thread : Thread) (b : Bool) → (thread.since == watchdog) ≡ b → cond b None (leased_next rows peer number thread (next layout peer.replica.backed peer.replica.memory thread.cpu)) ≡ Some after → (thread.since == watchdog) ≡ false
    by thread true q f = absurd (let g : None ≡ Some after = f in cc)
    by thread false q f = q
