-- Every reservation is of a word that LR may load; so what a choice of mutexes says does not depend on a thread's reservation: LR sets what was ended.
use Rattle.std.specs.Prelude.{◌≡◌, ◌⊎◌, ⊤, ℕ, zero, suc, ◌%◌, Bool, true, false, not, ◌==◌, cond, List, [], ◌∷◌, Option, Some, None, slice_set}
use Rattle.std.proofs.Common.{refl, sym, ap, ◌∙◌, subst, ⊎_elim, inl, inr}
use Rattle.std.proofs.lemmas.Bool.{true≢false, and_parts, and_from}
use Rattle.std.proofs.lemmas.List.{set-get_or}
use Rattle.ro_decode.specs.declared.AtomicOp.{AtomicOp}
use Rattle.ro_decode.specs.declared.AtomicOp.TheVariants.{LoadReserved, StoreConditional}
use Rattle.ro_decode.specs.Table.{atomic_in}
use Rattle.ro_event.specs.declared.calls.Which.{Which}
use Rattle.ro_event.specs.declared.calls.Which.TheVariants.{System, Function, Atomic}
use Rattle.ro_event.specs.declared.functions.Function.TheVariants.{ThreadSelf}
use Rattle.ro_event.specs.declared.calls.Call.{Call}
use Rattle.ro_region.specs.declared.Range.{Range}
use Rattle.ro_region.specs.declared.Kind.TheVariants.{Read}
use Rattle.ro_region.specs.Permission.{permits_of}
use Rattle.ro_region.proofs.Wider.{permits-wider}
use Rattle.ro_kernel.specs.declared.reservations.Reservation.{Reservation}
use Rattle.ro_kernel.specs.Kernel.{Setup, Kernel, ranges_in, released}
use Rattle.ro_kernel.specs.Reserved.{reservation_of, with_reservation, unless_at, without_at, is_reserved}
use Rattle.ro_kernel.specs.Serve.{Served, Done, Parked, Blocked, Ends, answers, answer_effect, minus, atomic_effect, stores_word, mapped, is_atomic, atomic_at, reaches, atomic_by, serve_which, serve}
use Rattle.ro_kernel.proofs.Shapes.{Shape, says, reads, breaks, maps_more, owns, wakes, parks_at, resumes, makes, joins, leaves, of_word, waits, stops, stops_last, set-by, shape-of}
use Rattle.ro_orders.specs.Turns.{Chosen, is_cooperative}
use Rattle.ro_orders.specs.Answers.{changed}

-- ---- which reservations there are

-- each is of a word that LR may load
abbrev pub AreLoadable : List Range → List (Option Reservation) → Type 0
AreLoadable ranges reserved = (t : ℕ) (r : Reservation) → reservation_of reserved t ≡ Some r → reaches ranges LoadReserved r.address ≡ true

set-cases : (reserved : List (Option Reservation)) (t : ℕ) (o : Option Reservation) (u : ℕ) (r : Reservation) → reservation_of (slice_set reserved t o) u ≡ Some r → (o ≡ Some r) ⊎ (reservation_of reserved u ≡ Some r)
set-cases [] t o u r e = inr e
set-cases (x ∷ reserved) zero o zero r e = inl e
set-cases (x ∷ reserved) zero o (suc u) r e = inr e
set-cases (x ∷ reserved) (suc t) o zero r e = inr e
set-cases (x ∷ reserved) (suc t) o (suc u) r e = set-cases reserved t o u r e

unless-some : (a : ℕ) (o : Option Reservation) (r : Reservation) → unless_at a o ≡ Some r → o ≡ Some r
unless-some a None r e = e
unless-some a (Some s) r e = by (s.address == a) e
  where
    by : (b : Bool) → cond b None (Some s) ≡ Some r → Some s ≡ Some r
    by true f = absurd (let g : None ≡ Some r = f in cc)
    by false f = f

without-some : (reserved : List (Option Reservation)) (a u : ℕ) (r : Reservation) → reservation_of (without_at reserved a) u ≡ Some r → reservation_of reserved u ≡ Some r
without-some [] a u r e = e
without-some (x ∷ reserved) a zero r e = unless-some a x r e
without-some (x ∷ reserved) a (suc u) r e = without-some reserved a u r e

loadable-released : (ranges : List Range) (reserved : List (Option Reservation)) (u : ℕ) → AreLoadable ranges reserved → AreLoadable ranges (slice_set reserved u None)
loadable-released ranges reserved u h t r e =
    ⊎_elim (λ (f : None ≡ Some r). absurd cc) (λ f. h t r f) (set-cases reserved u None t r e)

loadable-set : (ranges : List Range) (reserved : List (Option Reservation)) (u a word : ℕ) → reaches ranges LoadReserved a ≡ true → AreLoadable ranges reserved → AreLoadable ranges (with_reservation reserved u a word)
loadable-set ranges reserved u a word may h t r e =
    ⊎_elim (λ (f : Some (record { address = a; word = word }) ≡ Some r). subst (λ (s : Reservation). reaches ranges LoadReserved s.address ≡ true) (some-is f) may) (λ f. h t r f)
    (set-cases reserved u _ t r e)
  where
    some-is : {x y : Reservation} → Some x ≡ Some y → x ≡ y
    some-is e = cc

loadable-without : (ranges : List Range) (reserved : List (Option Reservation)) (a : ℕ) → AreLoadable ranges reserved → AreLoadable ranges (without_at reserved a)
loadable-without ranges reserved a h t r e = h t r (without-some reserved a t r e)

loadable-wider : (range : Range) (ranges : List Range) (reserved : List (Option Reservation)) → AreLoadable ranges reserved → AreLoadable (range ∷ ranges) reserved
loadable-wider range ranges reserved h t r e =
    let parts = and_parts (r.address % 4 == 0) (permits_of ranges Read r.address 4) (h t r e) in
    and_from _ _ parts.0 (permits-wider range ranges Read r.address 4 parts.1)

-- ---- in a kernel, and after whatever comes of a call

abbrev pub Reserves : Setup → Kernel → Type 0
Reserves setup kernel = AreLoadable (ranges_in setup kernel) kernel.reserved

abbrev pub After : (Kernel → Type 0) → Served → Type 0
After P (Done after effect) = P after
After P (Parked after) = P after
After P Blocked = ⊤
After P (Ends after how) = P after

abbrev ReservesAfter : Setup → Served → Type 0
ReservesAfter setup served = After (Reserves setup) served

either-after : (P : Kernel → Type 0) (b : Bool) (x y : Served) → (b ≡ true → After P x) → (b ≡ false → After P y) → After P (cond b x y)
either-after P true x y p q = p refl
either-after P false x y p q = q refl

module _ (setup : Setup) (kernel : Kernel) (u : ℕ) (call : Call) where
  -- of an atomic instruction
  module _ (h : Reserves setup kernel) where
    word-after : (word : ℕ) (o : Option Reservation) (op : AtomicOp) → reaches (ranges_in setup kernel) op call.a0 ≡ true → ReservesAfter setup (atomic_at kernel u call word o op)
    word-after word o LoadReserved may = loadable-set (ranges_in setup kernel) kernel.reserved u call.a0 call.a2 may h
    word-after word o StoreConditional may = either-after (Reserves setup) (is_reserved o call.a0 call.a2) (stores_word kernel u call word StoreConditional 0) (Done kernel (atomic_effect u call word 1)) (λ e. loadable-without (ranges_in setup kernel) kernel.reserved call.a0 h) (λ e. h)
    word-after word o op may = loadable-without (ranges_in setup kernel) kernel.reserved call.a0 h

    atomic-after : (word : ℕ) (o : Option Reservation) (op : Option AtomicOp) → ReservesAfter setup (atomic_by setup kernel u call word o op)
    atomic-after word o None = h
    atomic-after word o (Some op) = either-after (Reserves setup) (not (reaches (ranges_in setup kernel) op call.a0)) (answers kernel u call (minus 14)) (atomic_at kernel u call word o op) (λ e. h) (λ e. word-after word o op (set-by _ e))

  -- of any other call
  module _ (plain : is_atomic call.which ≡ false) (h : Reserves setup (released kernel u)) where
    shape-after : {served : Served} → Shape setup kernel u call served → ReservesAfter setup served
    shape-after (says value) = h
    shape-after (reads number e xs p) = h
    shape-after (breaks e end) = h
    shape-after (maps_more e some room) = loadable-wider (mapped kernel.given call) (ranges_in setup kernel) (released kernel u).reserved h
    shape-after (owns on fit owner) = h
    shape-after (wakes ws w) = h
    shape-after (parks_at w e o) = h
    shape-after (resumes w waiter e o) = h
    shape-after (makes w f n) = h
    shape-after (joins w value e p) = h
    shape-after (leaves w) = h
    shape-after (of_word word value reserved e low store) = absurd (true≢false (sym (ap is_atomic e) ∙ plain))
    shape-after (waits w) = tt
    shape-after (stops status) = h
    shape-after (stops_last w) = h

pub serve-reserves : (setup : Setup) (kernel : Kernel) → Reserves setup kernel → (u : ℕ) (call : Call) → ReservesAfter setup (serve setup kernel u call)
unfolding serve
serve-reserves setup kernel h u call = by call.which refl
  where
    own : Reserves setup (released kernel u)
    own = loadable-released (ranges_in setup kernel) kernel.reserved u h

    by : (w : Which) → call.which ≡ w → ReservesAfter setup (serve_which setup kernel u call call.which)
    by (Atomic word) e = subst (λ (w : Which). ReservesAfter setup (serve_which setup kernel u call w)) (sym e) (atomic-after setup (released kernel u) u call own word (reservation_of kernel.reserved u) (atomic_in word))
    by (System number) e = shape-after setup kernel u call (ap is_atomic e) own (shape-of setup kernel u call)
    by (Function function) e = shape-after setup kernel u call (ap is_atomic e) own (shape-of setup kernel u call)

-- ---- what a choice of mutexes says

same-bit : (b c : Bool) → (b ≡ true → c ≡ true) → (c ≡ true → b ≡ true) → b ≡ c
same-bit true c f g = sym (f refl)
same-bit false true f g = g refl
same-bit false false f g = refl

pub set-again : (reserved : List (Option Reservation)) (t : ℕ) (x y : Option Reservation) → slice_set (slice_set reserved t x) t y ≡ slice_set reserved t y
set-again [] t x y = refl
set-again (z ∷ reserved) zero x y = refl
set-again (z ∷ reserved) (suc t) x y = ap (λ (rest : List (Option Reservation)). z ∷ rest) (set-again reserved t x y)

set-back : (reserved : List (Option Reservation)) (t : ℕ) (o : Option Reservation) → reservation_of reserved t ≡ o → slice_set reserved t o ≡ reserved
set-back reserved t o e = ap (slice_set reserved t) (sym e) ∙ set-get_or reserved t None

-- pthread_self, and LR of a word
abbrev self_call : Call
self_call = record { which = Function ThreadSelf; a0 = 0; a1 = 0; a2 = 0; a3 = 0 }

abbrev load_call : Reservation → Call
load_call r = record { which = Atomic 0x100322AF; a0 = r.address; a1 = 0; a2 = r.word; a3 = 0 }

module _ (setup : Setup) (kernel : Kernel) (t : ℕ) where
  ended : serve setup kernel t self_call ≡ Done (released kernel t) (answer_effect t self_call t)
  unfolding serve
  ended = refl

  loaded : (r : Reservation) → reaches (ranges_in setup kernel) LoadReserved r.address ≡ true → reservation_of kernel.reserved t ≡ Some r → serve setup (released kernel t) t (load_call r) ≡ Done kernel (atomic_effect t (load_call r) 0x100322AF r.word)
  unfolding serve
  loaded r may e =
      ap (λ (b : Bool). cond (not b) (answers (released (released kernel t) t) t (load_call r) (minus 14)) (Done (record kernel { reserved = with_reservation (slice_set (slice_set kernel.reserved t None) t None) t r.address r.word }) (atomic_effect t (load_call r) 0x100322AF r.word))) may
      ∙ ap (λ (reserved : List (Option Reservation)). Done (record kernel { reserved = reserved }) (atomic_effect t (load_call r) 0x100322AF r.word))
      (set-again (slice_set kernel.reserved t None) t None (Some r) ∙ (set-again kernel.reserved t None (Some r) ∙ set-back kernel.reserved t (Some r) e))

  module _ (chosen : Chosen) (h : Reserves setup kernel) (m : ℕ) where
    -- ended or not, the same mutexes are cooperative
    pub coop-released : is_cooperative chosen (released kernel t) m ≡ is_cooperative chosen kernel m
    coop-released = same-bit _ _ (back (reservation_of kernel.reserved t) refl) (λ coop. chosen.lasts setup kernel (released kernel t) t self_call _ m ended coop)
      where
        back : (o : Option Reservation) → reservation_of kernel.reserved t ≡ o → is_cooperative chosen (released kernel t) m ≡ true → is_cooperative chosen kernel m ≡ true
        back None e coop = ap (λ (reserved : List (Option Reservation)). is_cooperative chosen (record kernel { reserved = reserved }) m) (sym (set-back kernel.reserved t None e)) ∙ coop
        back (Some r) e coop = chosen.lasts setup (released kernel t) kernel t (load_call r) _ m (loaded r (h t r e) e) coop

-- a lock or an unlock of one of them leaves which they are
pub coop-changed : (chosen : Chosen) (setup : Setup) (kernel : Kernel) → Reserves setup kernel → (t m a : ℕ) (change : Option (Option ℕ)) → is_cooperative chosen kernel m ≡ true → is_cooperative chosen (changed change m t kernel) a ≡ is_cooperative chosen kernel a
coop-changed chosen setup kernel h t m a None coop = coop-released setup kernel t chosen h a
coop-changed chosen setup kernel h t m a (Some o) coop =
    chosen.changes (released kernel t) m a o (coop-released setup kernel t chosen h m ∙ coop) ∙ coop-released setup kernel t chosen h a
