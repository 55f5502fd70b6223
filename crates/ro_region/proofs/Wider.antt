-- With a range more what was permitted stays so, and a stretch that is permitted only then has a byte in that range.
use Rattle.std.specs.Prelude.{◌≡◌, ℕ, zero, suc, ◌+◌, ◌<◌, ◌≤◌, Bool, true, false, ◌&&◌, ◌||◌, List, ◌∷◌, nat_le, nat_lt}
use Rattle.std.proofs.Common.{refl, sym, ◌∙◌, arith, ⊎_elim}
use Rattle.std.proofs.lemmas.Bool.{and_from, and_parts, or_right, true≢false, cases_Bool}
use Rattle.ro_region.specs.declared.Kind.{Kind}
use Rattle.ro_region.specs.declared.Range.{Range}
use Rattle.ro_region.specs.Permission.{allows, permits_byte, permits_each, permits_of}

-- whether a byte lies in a range
abbrev pub lies_in : Range → ℕ → Bool
lies_in range a = nat_le range.start a && nat_lt a (range.start + range.length)

-- a byte of a stretch lies in a range
pub record Reaches (range : Range) (place count : ℕ) : Type 0 where
  pub byte : ℕ
  pub low : place ≤ byte
  pub high : byte < place + count
  pub lies : lies_in range byte ≡ true

pub byte-wider : (range : Range) (ranges : List Range) (kind : Kind) (a : ℕ) → permits_byte ranges kind a ≡ true → permits_byte (range ∷ ranges) kind a ≡ true
byte-wider range ranges kind a h = or_right _ _ h

each-wider : (range : Range) (ranges : List Range) (kind : Kind) (a n : ℕ) → permits_each ranges kind a n ≡ true → permits_each (range ∷ ranges) kind a n ≡ true
each-wider range ranges kind a zero h = refl
each-wider range ranges kind a (suc n) h =
    let parts = and_parts _ _ h in
    and_from _ _ (byte-wider range ranges kind a parts.0) (each-wider range ranges kind (a + 1) n parts.1)

-- what was permitted stays so
pub permits-wider : (range : Range) (ranges : List Range) (kind : Kind) (a n : ℕ) → permits_of ranges kind a n ≡ true → permits_of (range ∷ ranges) kind a n ≡ true
unfolding permits_of
permits-wider range ranges kind a n h =
    let parts = and_parts _ _ h in
    and_from _ _ parts.0 (each-wider range ranges kind a n parts.1)

either-of : (x y z : Bool) → ((x && y) || z) ≡ true → z ≡ false → x ≡ true
either-of true y z h e = refl
either-of false y z h e = absurd (true≢false (sym h ∙ e))

byte-newly : (range : Range) (ranges : List Range) (kind : Kind) (a : ℕ) → permits_byte ranges kind a ≡ false → permits_byte (range ∷ ranges) kind a ≡ true → lies_in range a ≡ true
byte-newly range ranges kind a e h = either-of (lies_in range a) (allows range kind) (permits_byte ranges kind a) h e

and_rest : (x y : Bool) → (x && y) ≡ false → x ≡ true → y ≡ false
and_rest true y e h = e
and_rest false y e h = absurd (true≢false (sym h))

each-newly : (range : Range) (ranges : List Range) (kind : Kind) (a n : ℕ) → permits_each ranges kind a n ≡ false → permits_each (range ∷ ranges) kind a n ≡ true → Reaches range a n
each-newly range ranges kind a zero e h = absurd (true≢false e)
each-newly range ranges kind a (suc n) e h =
    let parts = and_parts _ _ h in
    ⊎_elim
    (λ t. let rest = each-newly range ranges kind (a + 1) n (and_rest _ _ e t) parts.1 in
    record { byte = rest.byte; low = let l = rest.low in omega arith; high = let l = rest.high in omega arith; lies = rest.lies })
    (λ f. record { byte = a; low = omega arith; high = omega arith; lies = byte-newly range ranges kind a f parts.0 })
    (cases_Bool (permits_byte ranges kind a))

-- a stretch that is permitted with the range alone has a byte in it
pub permits-newly : (range : Range) (ranges : List Range) (kind : Kind) (a n : ℕ) → permits_of ranges kind a n ≡ false → permits_of (range ∷ ranges) kind a n ≡ true → Reaches range a n
unfolding permits_of
permits-newly range ranges kind a n e h =
    let parts = and_parts _ _ h in
    each-newly range ranges kind a n (and_rest _ _ e parts.0) parts.1
