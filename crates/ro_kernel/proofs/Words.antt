-- Atomic instructions: what they store, and which calls are served with what a vote found.
use Rattle.std.specs.Prelude.{◌≡◌, ◌⊎◌, ℕ, true, false, List, [], length, Option, Some, None}
use Rattle.std.proofs.Common.{refl, sym, subst, inl, inr}
use Rattle.std.proofs.lemmas.Bool.{true≢false}
use Rattle.ro_decode.specs.declared.AtomicOp.{AtomicOp}
use Rattle.ro_decode.specs.declared.AtomicOp.TheVariants.{LoadReserved, StoreConditional}
use Rattle.ro_decode.specs.Table.{atomic_in}
use Rattle.ro_event.specs.declared.calls.Which.{Which}
use Rattle.ro_event.specs.declared.calls.Which.TheVariants.{System, Function, Atomic}
use Rattle.ro_event.specs.declared.calls.Call.{Call}
use Rattle.ro_event.specs.Effects.{Effect}
use Rattle.ro_kernel.specs.declared.reservations.Reservation.{Reservation}
use Rattle.ro_kernel.specs.Reserved.{reservation_of}
use Rattle.ro_kernel.specs.Kernel.{Setup, Kernel, released}
use Rattle.ro_kernel.specs.Serve.{Served, Done, Blocked, is_atomic, found_by, asked, atomic_at, atomic_by, serve_which, serve}
use Rattle.ro_kernel.proofs.Kept.{IsServed, is_done, atomic-served}
use Rattle.ro_kernel.proofs.Yields.{Yields, done, yields-cond, yields-done}

-- nothing is made or given, and nothing is stored but the word
abbrev pub IsOfWord : Call → Kernel → Effect → Type 0
IsOfWord call after effect =
    (effect.range ≡ None) × (effect.made ≡ None) × ((effect.bytes ≡ []) ⊎ ((effect.place ≡ call.a0) × (length effect.bytes ≡ 4)))

word-at : (kernel : Kernel) (u : ℕ) (call : Call) (word : ℕ) (o : Option Reservation) (op : AtomicOp) → Yields (IsOfWord call) (atomic_at kernel u call word o op)
word-at kernel u call word o LoadReserved = done (refl, refl, inl refl)
word-at kernel u call word o StoreConditional = yields-cond _ _ _ _ (done (refl, refl, inr (refl, refl))) (done (refl, refl, inl refl))
word-at kernel u call word o op = done (refl, refl, inr (refl, refl))

word-by : (setup : Setup) (kernel : Kernel) (u : ℕ) (call : Call) (word : ℕ) (o : Option Reservation) (op : Option AtomicOp) → Yields (IsOfWord call) (atomic_by setup kernel u call word o op)
word-by setup kernel u call word o None = done (refl, refl, inl refl)
word-by setup kernel u call word o (Some op) = yields-cond _ _ _ _ (done (refl, refl, inl refl)) (word-at kernel u call word o op)

pub of-word : (setup : Setup) (kernel : Kernel) (u : ℕ) (call : Call) (word : ℕ) (after : Kernel) (effect : Effect) → call.which ≡ Atomic word → serve setup kernel u call ≡ Done after effect → IsOfWord call after effect
unfolding serve
of-word setup kernel u call word after effect e =
    yields-done (IsOfWord call) _ after effect
    (subst (λ (w : Which). Yields (IsOfWord call) (serve_which setup kernel u call w)) (sym e) (word-by setup (released kernel u) u call word (reservation_of kernel.reserved u) (atomic_in word)))

-- a call that is no atomic instruction is served as it is
found-same : (w : Which) (payload : List ℕ) (n : ℕ) → is_atomic w ≡ false → found_by w payload n ≡ n
found-same (System number) payload n h = refl
found-same (Function function) payload n h = refl
found-same (Atomic word) payload n h = absurd (true≢false h)

pub asked-same : (call : Call) (payload : List ℕ) → is_atomic call.which ≡ false → asked call payload ≡ call
asked-same call payload h =
    let e = found-same call.which payload call.a2 h in
    λ i. record { which = call.which; a0 = call.a0; a1 = call.a1; a2 = e i; a3 = call.a3 }

-- what an atomic instruction is: it is that of a word
pub word-of : (w : Which) → is_atomic w ≡ true → (word : ℕ) × (w ≡ Atomic word)
word-of (System number) h = absurd (true≢false (sym h))
word-of (Function function) h = absurd (true≢false (sym h))
word-of (Atomic word) h = (word, refl)

-- one that blocks is none
goes-on : (served : Served) → IsServed served → served ≡ Blocked → ⊥
goes-on served h e = by served h e
  where
    by : (s : Served) → IsServed s → s ≡ Blocked → ⊥
    by (Done after effect) is_done f = let g : Done after effect ≡ Blocked = f in cc
    by s h f = elim (subst IsServed f h) [ ]

pub blocked-plain : (setup : Setup) (kernel : Kernel) (u : ℕ) (call : Call) → serve setup kernel u call ≡ Blocked → is_atomic call.which ≡ false
blocked-plain setup kernel u call e = by call.which refl
  where
    by : (w : Which) → call.which ≡ w → is_atomic w ≡ false
    by (System number) f = refl
    by (Function function) f = refl
    by (Atomic word) f = absurd (goes-on _ (atomic-served setup kernel u call word f) e)
