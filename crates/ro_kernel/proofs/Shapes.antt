-- What a call comes to, whichever it is: one of a few shapes.
use Rattle.std.specs.Prelude.{◌≡◌, ◌<◌, ◌≤◌, ◌+◌, ◌^◌, ◌==◌, ℕ, Bool, true, false, cond, not, ◌&&◌, List, [], ◌∷◌, ◌++◌, length, take, drop, Option, Some, None, slice_get, slice_set, nat_le, nat_lt, ◌||◌, ◌%◌}
use Rattle.std.proofs.Common.{refl, sym, subst, arith}
use Rattle.std.proofs.lemmas.Bool.{true≢false, eqb-true, and_parts}
use Rattle.ro_decode.specs.declared.AtomicOp.{AtomicOp}
use Rattle.ro_decode.specs.declared.AtomicOp.TheVariants.{LoadReserved, StoreConditional}
use Rattle.ro_decode.specs.Table.{atomic_in}
use Rattle.ro_alu.specs.Results.{amo_of}
use Rattle.ro_event.specs.declared.calls.Which.{Which}
use Rattle.ro_event.specs.declared.calls.Which.TheVariants.{System, Function, Atomic}
use Rattle.ro_event.specs.declared.functions.Function.TheVariants.{Create, Join, Exit, ThreadSelf, MutexInit, MutexDestroy, Lock, TryLock, Unlock, ConditionInit, ConditionDestroy, Wait, Signal, Broadcast}
use Rattle.ro_event.specs.declared.calls.Call.{Call}
use Rattle.ro_event.specs.declared.effects.Goes.TheVariants.{Returns}
use Rattle.ro_event.specs.Effects.{storing, quiet}
use Rattle.ro_region.specs.declared.Kind.{Kind}
use Rattle.ro_region.specs.declared.Kind.TheVariants.{Read, Write}
use Rattle.ro_region.specs.declared.Range.{Range}
use Rattle.ro_region.specs.Permission.{permits_of}
use Rattle.ro_pages.specs.Bytes.{bytes_of, page_of}
use Rattle.ro_journal.specs.declared.How.TheVariants.{Exit as ExitHow}
use Rattle.ro_mutex.specs.Owners.{Owners, owner_of, with_owner}
use Rattle.ro_condition.specs.declared.waiters.Waiter.{Waiter}
use Rattle.ro_condition.specs.Waiters.{wait_of, with_signal, with_broadcast}
use Rattle.ro_kernel.proofs.Payloads.{permitted_ends}
use Rattle.ro_kernel.specs.declared.Life.{Life}
use Rattle.ro_kernel.specs.declared.Life.TheVariants.{Live, Exited, Joined}
use Rattle.ro_kernel.specs.Kernel.{Setup, Kernel, ranges_in, released}
use Rattle.ro_kernel.specs.Mapped.{mapped_to, in_pages}
use Rattle.ro_kernel.specs.declared.reservations.Reservation.{Reservation}
use Rattle.ro_kernel.specs.Reserved.{reservation_of, is_reserved}
use Rattle.ro_kernel.specs.Serve.{atomic_effect, stores_word, atomic_at, reaches, atomic_by, Served, Done, Blocked, Ends, answers, stores_effect, minus, capped, fits, is_owner, is_free, begins_wait, ends_wait, wait_at, signals, serve_read, serve_write, serve_brk, maps, serve_mmap, serve_system, serve_create, joined, serve_join_at, serve_exit, init_at, lock_at, trylock_at, unlock_at, on_word, serve_which, serve}

-- a call that may set the owner of the mutex at an address: an init only where it is not in the table
pub data IsOnMutex (owners : Owners) (address : ℕ) : Which → Type 0 where
  on_init : owner_of owners address ≡ None → IsOnMutex owners address (Function MutexInit)
  on_lock : IsOnMutex owners address (Function Lock)
  on_trylock : IsOnMutex owners address (Function TryLock)
  on_unlock : IsOnMutex owners address (Function Unlock)

-- a call that wakes waiters, with those before and behind it
pub data IsWaking (before : List Waiter) (condition : ℕ) : Which → List Waiter → Type 0 where
  wakes_first : IsWaking before condition (Function Signal) (with_signal before condition)
  wakes_all : IsWaking before condition (Function Broadcast) (with_broadcast before condition)

-- a call that may block: a wait for a signal only where the thread waits already
pub data IsWaiting (kernel : Kernel) (u : ℕ) : Which → Type 0 where
  for_thread : IsWaiting kernel u (Function Join)
  for_mutex : IsWaiting kernel u (Function Lock)
  for_signal : (waiter : Waiter) → wait_of kernel.waiters u ≡ Some waiter → IsWaiting kernel u (Function Wait)

-- what an atomic instruction stores: nothing, or its whole word, which can be stored
pub data IsWordStore (ranges : List Range) (address : ℕ) : (place : ℕ) → List ℕ → Type 0 where
  stores_none : IsWordStore ranges address 0 []
  stores_all : (n : ℕ) → fits ranges address ≡ true → IsWordStore ranges address address (bytes_of 4 n)

-- whatever is served ends the thread's reservation
pub data Shape (setup : Setup) (kernel : Kernel) (u : ℕ) (call : Call) : Served → Type 0 where
  -- a value, and nothing else
  says : (value : ℕ) → Shape setup kernel u call (answers (released kernel u) u call value)
  -- the next bytes of the input, where they may be stored
  reads : (number : ℕ) → call.which ≡ System number → (xs : List ℕ) → permits_of (ranges_in setup kernel) Write call.a1 (capped call.a2) ≡ true → Shape setup kernel u call (Done (record (released kernel u) { taken = kernel.taken + length (take (capped call.a2) xs) }) (stores_effect u call (length (take (capped call.a2) xs)) call.a1 (take (capped call.a2) xs)))
  -- the break
  breaks : call.which ≡ System 214 → (end : ℕ) → Shape setup kernel u call (answers (record (released kernel u) { heap_end = end }) u call end)
  -- a range of addresses, within what may be given
  maps_more : call.which ≡ System 222 → (call.a1 == 0) ≡ false → nat_lt 0x51000000 (mapped_to kernel.given + in_pages call.a1) ≡ false → Shape setup kernel u call (maps (released kernel u) u call)
  -- a mutex has another owner, or none: its word can be stored
  owns : IsOnMutex kernel.owners call.a0 call.which → fits (ranges_in setup kernel) call.a0 ≡ true → (owner : Option ℕ) → Shape setup kernel u call (answers (record (released kernel u) { owners = with_owner kernel.owners call.a0 owner }) u call 0)
  -- those who wait on a condition variable are signalled, or one of them is
  wakes : (after : List Waiter) → IsWaking kernel.waiters call.a0 call.which after → Shape setup kernel u call (signals (released kernel u) u call after)
  -- a wait begins, and gives its mutex up
  parks_at : call.which ≡ Function Wait → wait_of kernel.waiters u ≡ None → is_owner u (owner_of kernel.owners call.a1) ≡ true → Shape setup kernel u call (begins_wait (released kernel u) u call)
  -- a wait ends, and has its mutex back
  resumes : call.which ≡ Function Wait → (waiter : Waiter) → wait_of kernel.waiters u ≡ Some waiter → (waiter.signalled && is_free (owner_of kernel.owners call.a1)) ≡ true → Shape setup kernel u call (ends_wait (released kernel u) u call)
  -- a thread is made
  makes : call.which ≡ Function Create → fits (ranges_in setup kernel) call.a0 ≡ true → nat_le 16 (length kernel.lives) ≡ false → Shape setup kernel u call (Done (record (released kernel u) { lives = kernel.lives ++ Live ∷ [] }) (record (storing u call.a0 (bytes_of 4 (length kernel.lives))) {
    answer = Some 0;
    goes = Returns;
    made = Some (record { start = call.a2; argument = call.a3; creator = u });
  }))
  -- a thread that has exited is joined
  joins : call.which ≡ Function Join → (value : ℕ) → slice_get kernel.lives call.a0 ≡ Some (Exited value) → (not (call.a1 == 0) && not (fits (ranges_in setup kernel) call.a1)) ≡ false → Shape setup kernel u call (joined setup (released kernel u) u call value)
  -- the thread exits, and others live on
  leaves : call.which ≡ Function Exit → Shape setup kernel u call (Done (record (released kernel u) { lives = slice_set kernel.lives u (Exited call.a0) }) (quiet u))
  -- a word is loaded, stored, or both, and reservations change
  of_word : (word value : ℕ) (reserved : List (Option Reservation)) {place : ℕ} {bytes : List ℕ} → call.which ≡ Atomic word → page_of call.a0 < 2 ^ 20 → IsWordStore (ranges_in setup kernel) call.a0 place bytes → Shape setup kernel u call (Done (record (released kernel u) { reserved = reserved }) (record (atomic_effect u call word value) { place = place; bytes = bytes }))
  -- it blocks
  waits : IsWaiting kernel u call.which → Shape setup kernel u call Blocked
  -- the program exits, by a call or with its last thread
  stops : (status : ℕ) → Shape setup kernel u call (Ends (released kernel u) (ExitHow status))
  stops_last : call.which ≡ Function Exit → Shape setup kernel u call (Ends (record (released kernel u) { lives = slice_set kernel.lives u (Exited call.a0) }) (ExitHow 0))

pub set-by : (b : Bool) → not b ≡ false → b ≡ true
set-by true h = refl
set-by false h = absurd (true≢false h)

-- a word that may be accessed lies below the end of the addresses
word-low : (ranges : List Range) (kind : Kind) (a : ℕ) → ((a % 4 == 0) && permits_of ranges kind a 4) ≡ true → page_of a < 2 ^ 20
word-low ranges kind a h =
    let parts = and_parts (a % 4 == 0) (permits_of ranges kind a 4) h in
    let within : a + 4 ≤ 2 ^ 32 = permitted_ends ranges kind a 4 parts.1 in
    omega arith

module _ (setup : Setup) (kernel : Kernel) (u : ℕ) (call : Call) where
  either : (b : Bool) (x y : Served) → Shape setup kernel u call x → Shape setup kernel u call y → Shape setup kernel u call (cond b x y)
  either true x y p q = p
  either false x y p q = q

  tested : (b : Bool) (x y : Served) → (b ≡ true → Shape setup kernel u call x) → (b ≡ false → Shape setup kernel u call y) → Shape setup kernel u call (cond b x y)
  tested true x y p q = p refl
  tested false x y p q = q refl

  of-read : (number : ℕ) → call.which ≡ System number → Shape setup kernel u call (serve_read setup (released kernel u) u call)
  of-read number e =
      let l = tested (not (permits_of (ranges_in setup kernel) Write call.a1 (capped call.a2))) _ _ (λ h. says (minus 14)) (λ h. reads number e (drop kernel.taken setup.input) (set-by _ h)) in
      search (l, either, says)

  of-write : Shape setup kernel u call (serve_write setup (released kernel u) u call)
  of-write = search (either, says)

  of-brk : call.which ≡ System 214 → Shape setup kernel u call (serve_brk setup (released kernel u) u call)
  of-brk e = either _ _ _ (breaks e call.a0) (says kernel.heap_end)

  of-mmap : call.which ≡ System 222 → Shape setup kernel u call (serve_mmap (released kernel u) u call)
  of-mmap e =
      let room = tested (nat_lt 0x51000000 (mapped_to kernel.given + in_pages call.a1)) _ _ (λ h. says (minus 12)) in
      let some = tested (call.a1 == 0) _ _ (λ h. says (minus 22)) (λ h. room (λ k. maps_more e h k)) in
      either (not (call.a3 == 0x22)) _ _ (says (minus 22)) (either (not ((call.a2 == 1) || (call.a2 == 3))) _ _ (says (minus 22)) some)

  of-system : (number : ℕ) → call.which ≡ System number → Shape setup kernel u call (serve_system setup (released kernel u) u call number)
  of-system number e =
      let r = of-read number e in
      let is : (n : ℕ) → (number == n) ≡ true → call.which ≡ System n = λ n h. subst (λ (k : ℕ). call.which ≡ System k) (eqb-true number n h) e in
      let m = tested (number == 222) _ _ (λ h. of-mmap (is 222 h)) (λ h. says (minus 38)) in
      let b = tested (number == 214) _ _ (λ h. of-brk (is 214 h)) (λ h. m) in
      either (number == 63) _ _ r (either (number == 64) _ _ of-write (either ((number == 93) || (number == 94)) _ _ (stops (call.a0 % 256)) b))

  of-create : call.which ≡ Function Create → Shape setup kernel u call (serve_create setup (released kernel u) u call)
  of-create e =
      let l = tested (not (fits (ranges_in setup kernel) call.a0)) _ _ (λ h. says 14) (λ h. tested (nat_le 16 (length kernel.lives)) _ _ (λ k. says 11) (λ k. makes e (set-by _ h) k)) in
      search (l, either, says)

  of-join_at : call.which ≡ Function Join → (o : Option Life) → slice_get kernel.lives call.a0 ≡ o → Shape setup kernel u call (serve_join_at setup (released kernel u) u call o)
  of-join_at w None e = says 3
  of-join_at w (Some Joined) e = search (either, says)
  of-join_at w (Some Live) e = let l : IsWaiting kernel u call.which = subst (IsWaiting kernel u) (sym w) for_thread in search (either, says, waits, l)
  of-join_at w (Some (Exited value)) e =
      let l = tested (not (call.a1 == 0) && not (fits (ranges_in setup kernel) call.a1)) _ _ (λ h. says 14) (λ h. joins w value e h) in search (l, either, says)

  of-exit : call.which ≡ Function Exit → Shape setup kernel u call (serve_exit (released kernel u) u call)
  of-exit e = search (either, leaves, stops_last, e)

  module _ (on : IsOnMutex kernel.owners call.a0 call.which) (fit : fits (ranges_in setup kernel) call.a0 ≡ true) where
    sets : (owner : Option ℕ) → Shape setup kernel u call (answers (record (released kernel u) { owners = with_owner kernel.owners call.a0 owner }) u call 0)
    sets owner = owns on fit owner

    of-lock_at : (o : Option (Option ℕ)) → IsWaiting kernel u call.which → Shape setup kernel u call (lock_at (released kernel u) u call o)
    of-lock_at None w = search (either, says, sets)
    of-lock_at (Some None) w = sets (Some u)
    of-lock_at (Some (Some owner)) w = search (either, says, waits, w)

    of-trylock_at : (o : Option (Option ℕ)) → Shape setup kernel u call (trylock_at (released kernel u) u call o)
    of-trylock_at None = search (either, says, sets)
    of-trylock_at (Some None) = sets (Some u)
    of-trylock_at (Some (Some owner)) = says 16

    of-unlock_at : (o : Option (Option ℕ)) → Shape setup kernel u call (unlock_at (released kernel u) u call o)
    of-unlock_at None = says 1
    of-unlock_at (Some None) = says 1
    of-unlock_at (Some (Some owner)) = search (either, says, sets)

  of-init_at : (o : Option (Option ℕ)) → owner_of kernel.owners call.a0 ≡ o → call.which ≡ Function MutexInit → fits (ranges_in setup kernel) call.a0 ≡ true → Shape setup kernel u call (init_at (released kernel u) u call o)
  of-init_at None e w fit = either _ _ _ (says 11) (owns (subst (IsOnMutex kernel.owners call.a0) (sym w) (on_init e)) fit None)
  of-init_at (Some owner) e w fit = says 0

  of-wait_at : (o : Option Waiter) → wait_of kernel.waiters u ≡ o → call.which ≡ Function Wait → Shape setup kernel u call (wait_at setup (released kernel u) u call o)
  of-wait_at None e w =
      let l = tested (is_owner u (owner_of kernel.owners call.a1)) _ _ (λ h. parks_at w e h) (λ h. says 1) in
      either _ _ _ (says 14) l
  of-wait_at (Some waiter) e w =
      tested (waiter.signalled && is_free (owner_of kernel.owners call.a1)) _ _ (λ h. resumes w waiter e h) (λ h. waits (subst (IsWaiting kernel u) (sym w) (for_signal waiter e)))

  of-signals : (after : List Waiter) → IsWaking kernel.waiters call.a0 call.which after → Shape setup kernel u call (signals (released kernel u) u call after)
  of-signals after w = wakes after w

  of-word : (served : Served) → Shape setup kernel u call served → Shape setup kernel u call (on_word setup (released kernel u) u call served)
  of-word served h = search (either, says, h)

  of-fit : (served : Served) → (fits (ranges_in setup kernel) call.a0 ≡ true → Shape setup kernel u call served) → Shape setup kernel u call (on_word setup (released kernel u) u call served)
  of-fit served h = tested (not (fits (ranges_in setup kernel) call.a0)) _ _ (λ e. says 14) (λ e. h (set-by _ e))

  in-reach : (op : AtomicOp) → reaches (ranges_in setup kernel) op call.a0 ≡ true → page_of call.a0 < 2 ^ 20
  in-reach LoadReserved h = word-low (ranges_in setup kernel) Read call.a0 h
  in-reach op h = word-low (ranges_in setup kernel) Write call.a0 h

  module _ (word : ℕ) (e : call.which ≡ Atomic word) (low : page_of call.a0 < 2 ^ 20) where
    of-store : (op : AtomicOp) (value : ℕ) → fits (ranges_in setup kernel) call.a0 ≡ true → Shape setup kernel u call (stores_word (released kernel u) u call word op value)
    of-store op value fit = of_word word value _ e low (stores_all (amo_of op call.a2 call.a1) fit)

    of-atomic_at : (o : Option Reservation) (op : AtomicOp) → reaches (ranges_in setup kernel) op call.a0 ≡ true → Shape setup kernel u call (atomic_at (released kernel u) u call word o op)
    of-atomic_at o LoadReserved fit = of_word word call.a2 _ e low stores_none
    of-atomic_at o StoreConditional fit =
        either (is_reserved o call.a0 call.a2) _ _ (of-store StoreConditional 0 fit) (of_word word 1 _ e low stores_none)
    of-atomic_at o op fit = of-store op call.a2 fit

  of-atomic : (word : ℕ) (o : Option Reservation) (op : Option AtomicOp) → call.which ≡ Atomic word → Shape setup kernel u call (atomic_by setup (released kernel u) u call word o op)
  of-atomic word o None e = says (minus 38)
  of-atomic word o (Some op) e =
      tested (not (reaches (ranges_in setup kernel) op call.a0)) _ _ (λ h. says (minus 14)) (λ h. of-atomic_at word e (in-reach op (set-by _ h)) o op (set-by _ h))

  of-which : (which : Which) → call.which ≡ which → Shape setup kernel u call (serve_which setup kernel u call which)
  of-which (System number) e = of-system number e
  of-which (Function Create) e = of-create e
  of-which (Function Join) e = of-join_at e (slice_get kernel.lives call.a0) refl
  of-which (Function Exit) e = of-exit e
  of-which (Function ThreadSelf) e = says u
  of-which (Function MutexInit) e = of-fit _ (λ fit. of-init_at (owner_of kernel.owners call.a0) refl e fit)
  of-which (Function MutexDestroy) e = of-word _ (says 0)
  of-which (Function Lock) e = of-fit _ (λ fit. of-lock_at (subst (IsOnMutex kernel.owners call.a0) (sym e) on_lock) fit (owner_of kernel.owners call.a0) (subst (IsWaiting kernel u) (sym e) for_mutex))
  of-which (Function TryLock) e = of-fit _ (λ fit. of-trylock_at (subst (IsOnMutex kernel.owners call.a0) (sym e) on_trylock) fit (owner_of kernel.owners call.a0))
  of-which (Function Unlock) e = of-fit _ (λ fit. of-unlock_at (subst (IsOnMutex kernel.owners call.a0) (sym e) on_unlock) fit (owner_of kernel.owners call.a0))
  of-which (Function ConditionInit) e = of-word _ (says 0)
  of-which (Function ConditionDestroy) e = of-word _ (says 0)
  of-which (Function Wait) e = of-word _ (of-wait_at (wait_of kernel.waiters u) refl e)
  of-which (Function Signal) e = of-word _ (of-signals _ (subst (λ (w : Which). IsWaking kernel.waiters call.a0 w (with_signal kernel.waiters call.a0)) (sym e) wakes_first))
  of-which (Function Broadcast) e = of-word _ (of-signals _ (subst (λ (w : Which). IsWaking kernel.waiters call.a0 w (with_broadcast kernel.waiters call.a0)) (sym e) wakes_all))
  of-which (Atomic word) e = of-atomic word (reservation_of kernel.reserved u) (atomic_in word) e

  -- what comes of a thread's call has one of the shapes
  pub shape-of : Shape setup kernel u call (serve setup kernel u call)
  unfolding serve
  shape-of = of-which call.which refl
