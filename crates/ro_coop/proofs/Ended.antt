-- Whether reservations of other threads have ended makes no difference to what is served of a thread, nor to which mutexes are cooperative.
use Rattle.std.specs.Prelude.{◌≡◌, ◌≢◌, ◌==◌, ℕ, zero, suc, ◌+◌, Bool, true, false, cond, if◌then◌else◌, List, [], ◌∷◌, ◌++◌, length, Option, Some, None, slice_set}
use Rattle.std.proofs.Common.{refl, sym, ap, ap₂, ◌∙◌, subst, arith, ⊎_elim, append_assoc, length-append}
use Rattle.std.proofs.lemmas.Bool.{cases_eq, eq-eqb}
use Rattle.std.proofs.lemmas.List.{get_or-set_other, length-set}
use Rattle.ro_decode.specs.declared.AtomicOp.{AtomicOp}
use Rattle.ro_decode.specs.declared.AtomicOp.TheVariants.{LoadReserved, StoreConditional}
use Rattle.ro_decode.specs.Table.{atomic_in}
use Rattle.ro_event.specs.declared.calls.Which.{Which}
use Rattle.ro_event.specs.declared.calls.Which.TheVariants.{System, Function, Atomic}
use Rattle.ro_event.specs.declared.functions.Function.TheVariants.{Create, Join, Exit, ThreadSelf, MutexInit, MutexDestroy, Lock, TryLock, Unlock, ConditionInit, ConditionDestroy, Wait, Signal, Broadcast}
use Rattle.ro_event.specs.declared.calls.Call.{Call}
use Rattle.ro_event.specs.Effects.{Effect}
use Rattle.ro_journal.specs.declared.How.{How}
use Rattle.ro_condition.specs.declared.waiters.Waiter.{Waiter}
use Rattle.ro_kernel.specs.declared.Life.{Life}
use Rattle.ro_kernel.specs.declared.Life.TheVariants.{Live, Exited, Joined}
use Rattle.ro_kernel.specs.declared.reservations.Reservation.{Reservation}
use Rattle.ro_kernel.specs.Kernel.{Setup, Kernel, released}
use Rattle.ro_kernel.specs.Reserved.{reservation_of, with_reservation, unless_at, without_at}
use Rattle.ro_kernel.specs.Serve.{Served, Done, Parked, Blocked, Ends, answers, answer_effect, serve_read, serve_write, serve_brk, serve_mmap, serve_system, serve_create, serve_join_at, serve_exit, init_at, lock_at, trylock_at, unlock_at, wait_at, on_word, atomic_effect, stores_word, atomic_at, atomic_by, serve_by, serve}
use Rattle.ro_orders.specs.Turns.{Chosen, is_cooperative}
use Rattle.ro_orders.proofs.Owners.{differs}
use Rattle.ro_peer.specs.Peers.{reserved_still}
use Rattle.ro_coop.specs.Core.{OneEnters}

abbrev pub Reservations : Type 0
Reservations = List (Option Reservation)

-- ---- lists

-- a reservation that is left, or none
abbrev pub kept_one : Bool → Option Reservation → Option Reservation
kept_one b r = if b then None else r

pub kept-none : (b : Bool) → kept_one b None ≡ None
kept-none true = refl
kept-none false = refl

pub same-list : (xs ys : Reservations) → length xs ≡ length ys → ((t : ℕ) → reservation_of xs t ≡ reservation_of ys t) → xs ≡ ys
same-list [] [] e h = refl
same-list [] (y ∷ ys) e h = absurd (omega arith)
same-list (x ∷ xs) [] e h = absurd (omega arith)
same-list (x ∷ xs) (y ∷ ys) e h = ap₂ (λ (z : Option Reservation) (zs : Reservations). z ∷ zs) (h 0) (same-list xs ys (omega arith) (λ t. h (suc t)))

pub still-length : (e : ℕ → Bool) (n : ℕ) (rs : Reservations) → length (reserved_still e n rs) ≡ length rs
still-length e n [] = refl
still-length e n (r ∷ rs) = ap suc (still-length e (suc n) rs)

still-at : (e : ℕ → Bool) (n : ℕ) (rs : Reservations) (t i : ℕ) → i ≡ n + t → reservation_of (reserved_still e n rs) t ≡ kept_one (e i) (reservation_of rs t)
still-at e n [] t i q = sym (kept-none (e i))
still-at e n (r ∷ rs) zero i q = ap (λ (k : ℕ). kept_one (e k) r) (let same : n ≡ i = omega arith in same)
still-at e n (r ∷ rs) (suc t) i q = still-at e (suc n) rs t i (omega arith)

pub still-get : (e : ℕ → Bool) (rs : Reservations) (t : ℕ) → reservation_of (reserved_still e 0 rs) t ≡ kept_one (e t) (reservation_of rs t)
still-get e rs t = still-at e 0 rs t t (omega arith)

pub none-set : (rs : Reservations) (t : ℕ) → reservation_of (slice_set rs t None) t ≡ None
none-set [] t = refl
none-set (r ∷ rs) zero = refl
none-set (r ∷ rs) (suc t) = none-set rs t

-- where one ends, by its thread
pub released-get : (rs : Reservations) (t u : ℕ) → reservation_of (slice_set rs t None) u ≡ kept_one (u == t) (reservation_of rs u)
released-get rs t u =
    ⊎_elim
    (λ (same : u ≡ t). ap (λ (k : ℕ). reservation_of (slice_set rs t None) k) same ∙ (none-set rs t ∙ sym (ap (λ (b : Bool). kept_one b (reservation_of rs u)) (eq-eqb u t same))))
    (λ (other : u ≢ t). get_or-set_other rs t u None None other ∙ sym (ap (λ (b : Bool). kept_one b (reservation_of rs u)) (differs u t other)))
    (cases_eq u t)

kept-twice : (b c : Bool) (r : Option Reservation) → kept_one b (kept_one c r) ≡ kept_one c (kept_one b r)
kept-twice true c r = sym (kept-none c)
kept-twice false c r = refl

kept-either : (b c : Bool) (r : Option Reservation) → kept_one b (kept_one c r) ≡ kept_one (cond b true c) r
kept-either true c r = refl
kept-either false c r = refl

-- a thread's ends before or after those
pub still-set : (e : ℕ → Bool) (rs : Reservations) (t : ℕ) → slice_set (reserved_still e 0 rs) t None ≡ reserved_still e 0 (slice_set rs t None)
still-set e rs t =
    same-list _ _ (length-set (reserved_still e 0 rs) t None ∙ (still-length e 0 rs ∙ (sym (length-set rs t None) ∙ sym (still-length e 0 (slice_set rs t None))))) (λ u.
    released-get (reserved_still e 0 rs) t u
    ∙ (ap (kept_one (u == t)) (still-get e rs u)
    ∙ (kept-twice (u == t) (e u) (reservation_of rs u)
    ∙ (ap (kept_one (e u)) (sym (released-get rs t u))
    ∙ sym (still-get e (slice_set rs t None) u)))))

-- one more of them
pub still-more : (e : ℕ → Bool) (rs : Reservations) (t : ℕ) → slice_set (reserved_still e 0 rs) t None ≡ reserved_still (λ u. if u == t then true else e u) 0 rs
still-more e rs t =
    same-list _ _ (length-set (reserved_still e 0 rs) t None ∙ (still-length e 0 rs ∙ sym (still-length _ 0 rs))) (λ u.
    released-get (reserved_still e 0 rs) t u
    ∙ (ap (kept_one (u == t)) (still-get e rs u)
    ∙ (kept-either (u == t) (e u) (reservation_of rs u)
    ∙ sym (still-get (λ u. if u == t then true else e u) rs u))))

-- a reservation of a thread that is none of them
still-with : (e : ℕ → Bool) (n : ℕ) (rs : Reservations) (t i : ℕ) (o : Option Reservation) → i ≡ n + t → e i ≡ false → slice_set (reserved_still e n rs) t o ≡ reserved_still e n (slice_set rs t o)
still-with e n [] t i o q f = refl
still-with e n (r ∷ rs) zero i o q f =
    ap (λ (x : Option Reservation). x ∷ reserved_still e (suc n) rs) (sym (ap (λ (b : Bool). kept_one b o) (ap e (let same : n ≡ i = omega arith in same) ∙ f)))
still-with e n (r ∷ rs) (suc t) i o q f = ap (λ (xs : Reservations). kept_one (e n) r ∷ xs) (still-with e (suc n) rs t i o (omega arith) f)

-- all reservations of a word
still-without : (e : ℕ → Bool) (n : ℕ) (rs : Reservations) (a : ℕ) → without_at (reserved_still e n rs) a ≡ reserved_still e n (without_at rs a)
still-without e n [] a = refl
still-without e n (r ∷ rs) a = ap₂ (λ (x : Option Reservation) (xs : Reservations). x ∷ xs) (bit (e n)) (still-without e (suc n) rs a)
  where
    bit : (b : Bool) → unless_at a (kept_one b r) ≡ kept_one b (unless_at a r)
    bit true = refl
    bit false = refl

-- ---- what holds where one ends holds where some end

set-seam : (xs : Reservations) (r : Option Reservation) (rs : Reservations) (n : ℕ) → n ≡ length xs → slice_set (xs ++ r ∷ rs) n None ≡ xs ++ None ∷ rs
set-seam [] r rs zero q = refl
set-seam [] r rs (suc n) q = absurd (omega arith)
set-seam (x ∷ xs) r rs zero q = absurd (omega arith)
set-seam (x ∷ xs) r rs (suc n) q = ap (λ (ys : Reservations). x ∷ ys) (set-seam xs r rs n (omega arith))

module _ (P : Reservations → Type 0) (one : (rs : Reservations) (t : ℕ) → P rs → P (slice_set rs t None)) (e : ℕ → Bool) where
  from : (xs rs : Reservations) (n : ℕ) → n ≡ length xs → P (xs ++ rs) → P (xs ++ reserved_still e n rs)
  from xs [] n q p = p
  from xs (r ∷ rs) n q p =
      subst P (append_assoc xs (kept_one (e n) r ∷ []) (reserved_still e (suc n) rs))
      (from (xs ++ kept_one (e n) r ∷ []) rs (suc n) (longer ∙ sym (length-append xs (kept_one (e n) r ∷ []))) (subst P (sym (append_assoc xs (kept_one (e n) r ∷ []) rs)) (bit (e n))))
    where
      longer : suc n ≡ length xs + 1
      longer = omega arith

      bit : (b : Bool) → P (xs ++ kept_one b r ∷ rs)
      bit true = subst P (set-seam xs r rs n q) (one (xs ++ r ∷ rs) n p)
      bit false = p

  pub kept-still : (rs : Reservations) → P rs → P (reserved_still e 0 rs)
  kept-still rs p = from [] rs 0 refl p

-- ---- the kernel

-- the kernel where the reservations of these threads have ended
abbrev pub ended : (ℕ → Bool) → Kernel → Kernel
ended e kernel = record kernel { reserved = reserved_still e 0 kernel.reserved }

abbrev self_call : (a0 : ℕ) → Call
self_call a0 = record { which = Function ThreadSelf; a0 = a0; a1 = 0; a2 = 0; a3 = 0 }

self-served : (setup : Setup) (kernel : Kernel) (t a0 : ℕ) → serve setup kernel t (self_call a0) ≡ Done (released kernel t) (answer_effect t (self_call a0) t)
unfolding serve
self-served setup kernel t a0 = refl

abbrev no_setup : Setup
no_setup = record { ranges = []; heap = 0; input = [] }

not-next : (a : ℕ) → a ≢ suc a
not-next a e = omega arith

-- the same mutexes are cooperative, where one ends
pub coop-one : (chosen : Chosen) → OneEnters chosen → (kernel : Kernel) (t a : ℕ) → is_cooperative chosen (released kernel t) a ≡ is_cooperative chosen kernel a
coop-one chosen one kernel t a = one.own no_setup kernel (released kernel t) t (self_call (suc a)) _ a (self-served no_setup kernel t (suc a)) (not-next a)

-- and where some do
pub coop-ended : (chosen : Chosen) → OneEnters chosen → (e : ℕ → Bool) (kernel : Kernel) (a : ℕ) → is_cooperative chosen (ended e kernel) a ≡ is_cooperative chosen kernel a
coop-ended chosen one e kernel a =
    kept-still (λ (rs : Reservations). is_cooperative chosen (record kernel { reserved = rs }) a ≡ is_cooperative chosen kernel a)
    (λ rs t h. coop-one chosen one (record kernel { reserved = rs }) t a ∙ h) e kernel.reserved refl

-- ---- what is served

abbrev pub ended_served : (ℕ → Bool) → Served → Served
ended_served e (Done kernel effect) = Done (ended e kernel) effect
ended_served e (Parked kernel) = Parked (ended e kernel)
ended_served e Blocked = Blocked
ended_served e (Ends kernel how) = Ends (ended e kernel) how

record Still (e : ℕ → Bool) (before after : Served) : Type 0 where
  is : after ≡ ended_served e before

still-cond : (e : ℕ → Bool) (b : Bool) (x y x' y' : Served) → Still e x x' → Still e y y' → Still e (cond b x y) (cond b x' y')
still-cond e true x y x' y' p q = p
still-cond e false x y x' y' p q = q

module _ (e : ℕ → Bool) (setup : Setup) (kernel : Kernel) (u : ℕ) (none : e u ≡ false) (call : Call) where
  still-refused : (value : ℕ) → Still e (answers kernel u call value) (answers (ended e kernel) u call value)
  still-refused value = record { is = refl }

  still-blocked : Still e Blocked Blocked
  still-blocked = record { is = refl }

  still-done : (after : Kernel) (effect : Effect) → Still e (Done after effect) (Done (ended e after) effect)
  still-done after effect = record { is = refl }

  still-parked : (after : Kernel) → Still e (Parked after) (Parked (ended e after))
  still-parked after = record { is = refl }

  still-ends : (after : Kernel) (how : How) → Still e (Ends after how) (Ends (ended e after) how)
  still-ends after how = record { is = refl }

  still-read : Still e (serve_read setup kernel u call) (serve_read setup (ended e kernel) u call)
  still-read = search (still-cond, still-refused, still-done)

  still-write : Still e (serve_write setup kernel u call) (serve_write setup (ended e kernel) u call)
  still-write = search (still-cond, still-refused)

  still-brk : Still e (serve_brk setup kernel u call) (serve_brk setup (ended e kernel) u call)
  still-brk = search (still-cond, still-refused, still-done)

  still-mmap : Still e (serve_mmap kernel u call) (serve_mmap (ended e kernel) u call)
  still-mmap = search (still-cond, still-refused, still-done) depth 8

  still-system : (number : ℕ) → Still e (serve_system setup kernel u call number) (serve_system setup (ended e kernel) u call number)
  still-system number = search (still-cond, still-read, still-write, still-brk, still-mmap, still-refused, still-ends) depth 8

  still-create : Still e (serve_create setup kernel u call) (serve_create setup (ended e kernel) u call)
  still-create = search (still-cond, still-refused, still-done)

  still-join_at : (l : Option Life) → Still e (serve_join_at setup kernel u call l) (serve_join_at setup (ended e kernel) u call l)
  still-join_at None = still-refused 3
  still-join_at (Some Joined) = search (still-cond, still-refused)
  still-join_at (Some Live) = search (still-cond, still-refused, still-blocked)
  still-join_at (Some (Exited value)) = search (still-cond, still-refused, still-done)

  still-exit : Still e (serve_exit kernel u call) (serve_exit (ended e kernel) u call)
  still-exit = search (still-cond, still-done, still-ends)

  still-init_at : (p : Option (Option ℕ)) → Still e (init_at kernel u call p) (init_at (ended e kernel) u call p)
  still-init_at None = still-cond e _ _ _ _ _ (still-refused 11) (still-done _ _)
  still-init_at (Some owner) = still-refused 0

  still-lock_at : (p : Option (Option ℕ)) → Still e (lock_at kernel u call p) (lock_at (ended e kernel) u call p)
  still-lock_at None = still-cond e _ _ _ _ _ (still-refused 11) (still-done _ _)
  still-lock_at (Some None) = still-done _ _
  still-lock_at (Some (Some owner)) = still-cond e _ _ _ _ _ (still-refused 35) still-blocked

  still-trylock_at : (p : Option (Option ℕ)) → Still e (trylock_at kernel u call p) (trylock_at (ended e kernel) u call p)
  still-trylock_at None = still-cond e _ _ _ _ _ (still-refused 11) (still-done _ _)
  still-trylock_at (Some None) = still-done _ _
  still-trylock_at (Some (Some owner)) = still-refused 16

  still-unlock_at : (p : Option (Option ℕ)) → Still e (unlock_at kernel u call p) (unlock_at (ended e kernel) u call p)
  still-unlock_at None = still-refused 1
  still-unlock_at (Some None) = still-refused 1
  still-unlock_at (Some (Some owner)) = still-cond e _ _ _ _ _ (still-done _ _) (still-refused 1)

  still-wait_at : (o : Option Waiter) → Still e (wait_at setup kernel u call o) (wait_at setup (ended e kernel) u call o)
  still-wait_at None = still-cond e _ _ _ _ _ (still-refused 14) (still-cond e _ _ _ _ _ (still-parked _) (still-refused 1))
  still-wait_at (Some waiter) = still-cond e _ _ _ _ _ (still-done _ _) still-blocked

  still-word : (x x' : Served) → Still e x x' → Still e (on_word setup kernel u call x) (on_word setup (ended e kernel) u call x')
  still-word x x' h = still-cond e _ _ _ _ _ (still-refused 14) h

  -- an atomic instruction
  still-reserved : (before after : Reservations) (effect : Effect) → after ≡ reserved_still e 0 before → Still e (Done (record kernel { reserved = before }) effect) (Done (record kernel { reserved = after }) effect)
  still-reserved before after effect q = record { is = ap (λ (rs : Reservations). Done (record kernel { reserved = rs }) effect) q }

  still-stores : (word : ℕ) (op : AtomicOp) (value : ℕ) → Still e (stores_word kernel u call word op value) (stores_word (ended e kernel) u call word op value)
  still-stores word op value = still-reserved (without_at kernel.reserved call.a0) _ _ (still-without e 0 kernel.reserved call.a0)

  still-atomic_at : (word : ℕ) (r : Option Reservation) (op : AtomicOp) → Still e (atomic_at kernel u call word r op) (atomic_at (ended e kernel) u call word r op)
  still-atomic_at word r LoadReserved = still-reserved (with_reservation kernel.reserved u call.a0 call.a2) _ _ (still-with e 0 kernel.reserved u u _ (omega arith) none)
  still-atomic_at word r StoreConditional = still-cond e _ _ _ _ _ (still-stores word StoreConditional 0) (still-done kernel (atomic_effect u call word 1))
  still-atomic_at word r op = still-stores word op call.a2

  still-atomic : (word : ℕ) (r : Option Reservation) (op : Option AtomicOp) → Still e (atomic_by setup kernel u call word r op) (atomic_by setup (ended e kernel) u call word r op)
  still-atomic word r None = still-refused _
  still-atomic word r (Some op) = still-cond e _ _ _ _ _ (still-refused _) (still-atomic_at word r op)

  still-by : (r : Option Reservation) (which : Which) → Still e (serve_by setup kernel u call r which) (serve_by setup (ended e kernel) u call r which)
  still-by r (System number) = still-system number
  still-by r (Function Create) = still-create
  still-by r (Function Join) = still-join_at _
  still-by r (Function Exit) = still-exit
  still-by r (Function ThreadSelf) = still-refused u
  still-by r (Function MutexInit) = still-word _ _ (still-init_at _)
  still-by r (Function MutexDestroy) = still-word _ _ (still-refused 0)
  still-by r (Function Lock) = still-word _ _ (still-lock_at _)
  still-by r (Function TryLock) = still-word _ _ (still-trylock_at _)
  still-by r (Function Unlock) = still-word _ _ (still-unlock_at _)
  still-by r (Function ConditionInit) = still-word _ _ (still-refused 0)
  still-by r (Function ConditionDestroy) = still-word _ _ (still-refused 0)
  still-by r (Function Wait) = still-word _ _ (still-wait_at _)
  still-by r (Function Signal) = still-word _ _ (still-done _ _)
  still-by r (Function Broadcast) = still-word _ _ (still-done _ _)
  still-by r (Atomic word) = still-atomic word r (atomic_in word)

-- a thread whose own has not ended is served alike
pub serve-ended : (e : ℕ → Bool) (setup : Setup) (kernel : Kernel) (u : ℕ) → e u ≡ false → (call : Call) → serve setup (ended e kernel) u call ≡ ended_served e (serve setup kernel u call)
unfolding serve
serve-ended e setup kernel u none call =
    ap₂ (λ (rs : Reservations) (r : Option Reservation). serve_by setup (record kernel { reserved = rs }) u call r call.which)
    (still-set e kernel.reserved u) (still-get e kernel.reserved u ∙ ap (λ (b : Bool). kept_one b (reservation_of kernel.reserved u)) none)
    ∙ (still-by e setup (released kernel u) u none call (reservation_of kernel.reserved u) call.which).is
