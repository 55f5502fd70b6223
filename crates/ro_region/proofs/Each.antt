-- Permission of a stretch is permission of each of its bytes.
use Rattle.std.specs.Prelude.{◌≡◌, ℕ, zero, suc, ◌+◌, ◌-◌, ◌<◌, ◌≤◌, ◌^◌, Bool, true, false, ◌&&◌, List, nat_le}
use Rattle.std.proofs.Common.{refl, sym, ap, ◌∙◌, arith, rules, add-zero, inl, inr}
use Rattle.std.proofs.lemmas.Bool.{and_from, and_parts, le-leb, cases_lt, cases_Bool, true≢false}
use Rattle.ro_region.specs.declared.Kind.{Kind}
use Rattle.ro_region.specs.declared.Range.{Range}
use Rattle.ro_region.specs.Permission.{permits_byte, permits_each, permits_of}

later : (P : ℕ → Type 0) (a k : ℕ) → P (a + suc k) → P (a + 1 + k)
later P a k h = let e : a + suc k ≡ a + 1 + k = omega arith in rw (← e) h

each-true : (ranges : List Range) (kind : Kind) (a n : ℕ) → ((k : ℕ) → k < n → permits_byte ranges kind (a + k) ≡ true) → permits_each ranges kind a n ≡ true
each-true ranges kind a zero h = refl
each-true ranges kind a (suc n) h =
    and_from _ _ (rw add-zero at (h 0 (omega arith))) (each-true ranges kind (a + 1) n (λ k l. later (λ b. permits_byte ranges kind b ≡ true) a k (h (suc k) (omega arith))))

-- a stretch whose bytes are all permitted
pub permits_all : (ranges : List Range) (kind : Kind) (a n : ℕ) → a + n ≤ 2 ^ 32 → ((k : ℕ) → k < n → permits_byte ranges kind (a + k) ≡ true) → permits_of ranges kind a n ≡ true
unfolding permits_of
permits_all ranges kind a n l h = and_from _ _ (le-leb (a + n) (2 ^ 32) l) (each-true ranges kind a n h)

and_not : (x y : Bool) → y ≡ false → (x && y) ≡ false
and_not true y h = h
and_not false y h = refl

not_and : (x y : Bool) → x ≡ false → (x && y) ≡ false
not_and x y h = ap (λ b. b && y) h

each-false : (ranges : List Range) (kind : Kind) (a n k : ℕ) → k < n → permits_byte ranges kind (a + k) ≡ false → permits_each ranges kind a n ≡ false
each-false ranges kind a zero k l h = absurd (omega arith)
each-false ranges kind a (suc n) zero l h = not_and _ _ (rw add-zero at h)
each-false ranges kind a (suc n) (suc k) l h = and_not _ _ (each-false ranges kind (a + 1) n k (omega arith) (later (λ b. permits_byte ranges kind b ≡ false) a k h))

-- one of whose bytes is not
pub permits_not : (ranges : List Range) (kind : Kind) (a n k : ℕ) → k < n → permits_byte ranges kind (a + k) ≡ false → permits_of ranges kind a n ≡ false
unfolding permits_of
permits_not ranges kind a n k l h = and_not _ _ (each-false ranges kind a n k l h)

le-false : (m n : ℕ) → n < m → nat_le m n ≡ false
le-false m n h = search rules

-- one that passes the last address
pub permits_past : (ranges : List Range) (kind : Kind) (a n : ℕ) → 2 ^ 32 < a + n → permits_of ranges kind a n ≡ false
unfolding permits_of
permits_past ranges kind a n h = not_and _ _ (le-false (a + n) (2 ^ 32) h)

earlier : (P : ℕ → Type 0) (a k : ℕ) → P (a + 1 + k) → P (a + suc k)
earlier P a k h = let e : a + 1 + k ≡ a + suc k = omega arith in rw (← e) h

true-each : (ranges : List Range) (kind : Kind) (a n : ℕ) → permits_each ranges kind a n ≡ true → (k : ℕ) → k < n → permits_byte ranges kind (a + k) ≡ true
true-each ranges kind a zero h k l = absurd (omega arith)
true-each ranges kind a (suc n) h zero l = rw add-zero (and_parts _ _ h).0
true-each ranges kind a (suc n) h (suc k) l =
    earlier (λ b. permits_byte ranges kind b ≡ true) a k (true-each ranges kind (a + 1) n (and_parts _ _ h).1 k (omega arith))

-- each byte of a stretch that is permitted
pub each_of : (ranges : List Range) (kind : Kind) (a n : ℕ) → permits_of ranges kind a n ≡ true → (k : ℕ) → k < n → permits_byte ranges kind (a + k) ≡ true
unfolding permits_of
each_of ranges kind a n h k l = true-each ranges kind a n (and_parts _ _ h).1 k l

-- a stretch and one that follows it
pub permits_more : (ranges : List Range) (kind : Kind) (a m n : ℕ) → ((k : ℕ) → k < m → permits_byte ranges kind (a + k) ≡ true) → permits_of ranges kind (a + m) n ≡ true → (k : ℕ) → k < m + n → permits_byte ranges kind (a + k) ≡ true
permits_more ranges kind a m n before after k l = elim (cases_lt k m) [
  | inl low ↦ before k low
  | inr high ↦
      let e : a + m + (k - m) ≡ a + k = omega arith in
      ap (permits_byte ranges kind) (sym e) ∙ each_of ranges kind (a + m) n after (k - m) (omega arith)
]

-- a stretch with a part that is not permitted
pub part_not : (ranges : List Range) (kind : Kind) (a n m part : ℕ) → m + part ≤ n → a + n ≤ 2 ^ 32 → permits_of ranges kind (a + m) part ≡ false → permits_of ranges kind a n ≡ false
part_not ranges kind a n m part l room h = elim (cases_Bool (permits_of ranges kind a n)) [
  | inr refused ↦ refused
  | inl all ↦
      absurd (true≢false (sym (permits_all ranges kind (a + m) part (omega arith) (λ k below.
      let e : a + (m + k) ≡ a + m + k = omega arith in
      ap (permits_byte ranges kind) (sym e) ∙ each_of ranges kind a n all (m + k) (omega arith))) ∙ h))
]
