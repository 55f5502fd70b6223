-- Numbers in a page, and the memory after one is stored.
use Rattle.std.specs.Prelude.{◌≡◌, ℕ, zero, suc, ◌+◌, ◌-◌, ◌*◌, ◌/◌, ◌%◌, ◌^◌, ◌<◌, ◌≤◌, ◌&&◌, Bool, true, false, cond, List, ◌∷◌, Some, slice_index, is_some, nat_lt, nat_le}
use Rattle.std.proofs.Common.{refl, sym, ap, ap₂, ◌∙◌, subst, inl, inr, arith, add-zero}
use Rattle.std.proofs.lemmas.Bool.{cases_eq, cases_lt, and_parts, leb-true, ltb-true}
use Rattle.std.proofs.lemmas.Bool.Decides.{nat_tests}
use Rattle.std.specs.Ordering.{nat_cmp, eq_by_cmp}
use Rattle.std.specs.Cmp.{nat_cmp_total}
use mathlib.Core.Path.{fun_ext}
use Rattle.std.specs.FinMap as map
use Rattle.std.specs.FinMap.{FinMap}
use Rattle.ro_pages.specs.Bytes.{Memory, IsSize, number_of, number_at, bytes_at, bytes_of, stored}
use Rattle.ro_pages.specs.Held.{byte_in, memory_of, has_page}
use Rattle.ro_pages.specs.Words.{byte_in_words, bytes_in, after_store}
use Rattle.ro_pages.proofs.WordParts.{index-bytes_in}

later : (P : ℕ → Type 0) (a k : ℕ) → P (a + suc k) → P (a + 1 + k)
later P a k h = let e : a + suc k ≡ a + 1 + k = omega arith in rw (← e) h

-- memories that agree from two places on
same_bytes : (f g : Memory) (a b n : ℕ) → ((k : ℕ) → k < n → f (a + k) ≡ g (b + k)) → bytes_at f a n ≡ bytes_at g b n
same_bytes f g a b zero h = refl
same_bytes f g a b (suc n) h =
    ap₂ (λ (x : ℕ) (xs : List ℕ). x ∷ xs) (rw (← add-zero a, ← add-zero b) (h 0 (omega arith)))
    (same_bytes f g (a + 1) (b + 1) n (λ k l. let e : a + suc k ≡ a + 1 + k = omega arith in let d : b + suc k ≡ b + 1 + k = omega arith in rw (← e, ← d) (h (suc k) (omega arith))))

-- a byte in a page
pub byte_in_page : (m : FinMap nat_cmp (List ℕ)) (words : List ℕ) (p b : ℕ) → map.get m p ≡ Some (bytes_in words) → b / 4096 ≡ p → memory_of m b ≡ byte_in_words words (b % 4096)
byte_in_page m words p b e at =
    ap (λ q. byte_in (map.get m q) (b % 4096)) at ∙ ap (λ o. byte_in o (b % 4096)) e ∙ index-bytes_in words (b % 4096)

-- a number in a page
pub number_in_words : (m : FinMap nat_cmp (List ℕ)) (words : List ℕ) (a n : ℕ) → map.get m (a / 4096) ≡ Some (bytes_in words) → a % 4096 + n ≤ 4096 → number_at (memory_of m) a n ≡ number_at (byte_in_words words) (a % 4096) n
number_in_words m words a n e within =
    ap number_of (same_bytes (memory_of m) (byte_in_words words) a (a % 4096) n (λ k l.
    let at : (a + k) / 4096 ≡ a / 4096 = omega arith in
    let rest : (a + k) % 4096 ≡ a % 4096 + k = omega arith in
    byte_in_page m words (a / 4096) (a + k) e at ∙ ap (byte_in_words words) rest))

-- an access at a multiple of its size lies in one page, at a multiple of its size
pub aligned_within : (a n : ℕ) → IsSize n → a % n ≡ 0 → (a % 4096 + n ≤ 4096) × (a % 4096 % n ≡ 0)
aligned_within a n s z =
    let P : ℕ → Type 0 = λ k. a % k ≡ 0 → (a % 4096 + k ≤ 4096) × (a % 4096 % k ≡ 0) in
    elim s [
      | inl one ↦ subst P (sym one) (λ z. (omega arith, omega arith)) z
      | inr (inl two) ↦ subst P (sym two) (λ z. (omega arith, omega arith)) z
      | inr (inr four) ↦ subst P (sym four) (λ z. (omega arith, omega arith)) z
    ]

-- the bytes of a number, one by one
index-bytes_of : (n value k : ℕ) → IsSize n → k < n → slice_index (bytes_of n value) k ≡ value / 2 ^ (8 * k) % 2 ^ 8
index-bytes_of n value k s l = elim s [
  | inl one ↦ subst (λ c. k < c → slice_index (bytes_of c value) k ≡ value / 2 ^ (8 * k) % 2 ^ 8) (sym one) (of_one k) l
  | inr (inl two) ↦ subst (λ c. k < c → slice_index (bytes_of c value) k ≡ value / 2 ^ (8 * k) % 2 ^ 8) (sym two) (of_two k) l
  | inr (inr four) ↦ subst (λ c. k < c → slice_index (bytes_of c value) k ≡ value / 2 ^ (8 * k) % 2 ^ 8) (sym four) (of_four k) l
]
  where
    of_one : (k : ℕ) → k < 1 → slice_index (bytes_of 1 value) k ≡ value / 2 ^ (8 * k) % 2 ^ 8
    of_one zero l = omega arith
    of_one (suc k) l = absurd (omega arith)

    of_two : (k : ℕ) → k < 2 → slice_index (bytes_of 2 value) k ≡ value / 2 ^ (8 * k) % 2 ^ 8
    of_two zero l = omega arith
    of_two (suc zero) l = omega arith
    of_two (suc (suc k)) l = absurd (omega arith)

    of_four : (k : ℕ) → k < 4 → slice_index (bytes_of 4 value) k ≡ value / 2 ^ (8 * k) % 2 ^ 8
    of_four zero l = omega arith
    of_four (suc zero) l = omega arith
    of_four (suc (suc zero)) l = omega arith
    of_four (suc (suc (suc zero))) l = omega arith
    of_four (suc (suc (suc (suc k)))) l = absurd (omega arith)

cond_same : (t : Bool) (x y z : ℕ) → (t ≡ true → x ≡ y) → cond t x z ≡ cond t y z
cond_same true x y z h = h refl
cond_same false x y z h = refl

byte_stored : (f : Memory) (a n value b : ℕ) → IsSize n → cond (nat_le a b && nat_lt b (a + n)) (slice_index (bytes_of n value) (b - a)) (f b) ≡ after_store f a n value b
byte_stored f a n value b s = cond_same (nat_le a b && nat_lt b (a + n)) _ _ (f b) (λ t.
    let parts = and_parts _ _ t in
    let low = leb-true a b parts.0 in
    let high = ltb-true b (a + n) parts.1 in
    index-bytes_of n value (b - a) s (omega arith))

-- `stored`, byte by byte
pub stored-at : (f : Memory) (a n value b : ℕ) → IsSize n → stored f a (bytes_of n value) b ≡ after_store f a n value b
stored-at f a n value b s =
    let P : ℕ → Type 0 = λ k. stored f a (bytes_of k value) b ≡ after_store f a k value b in
    elim s [
      | inl one ↦ subst P (sym one) (byte_stored f a 1 value b (inl refl))
      | inr (inl two) ↦ subst P (sym two) (byte_stored f a 2 value b (inr (inl refl)))
      | inr (inr four) ↦ subst P (sym four) (byte_stored f a 4 value b (inr (inr refl)))
    ]

same_test : (a b n v x y : ℕ) → a / 4096 ≡ b / 4096 → x ≡ y → after_store (λ i. x) (a % 4096) n v (b % 4096) ≡ after_store (λ i. y) a n v b
same_test a b n v x y e f = let d : b % 4096 - a % 4096 ≡ b - a = omega arith in grind (arith, nat_tests)

-- elsewhere nothing is stored
same_elsewhere : (a b n v x : ℕ) → (b / 4096 ≡ a / 4096 → ⊥) → a % 4096 + n ≤ 4096 → x ≡ after_store (λ i. x) a n v b
same_elsewhere a b n v x other within = elim (cases_lt b a) [
  | inl low ↦ grind (arith, nat_tests)
  | inr high ↦ let past : a + n ≤ b = omega arith in grind (arith, nat_tests)
]

same_key : (k : ℕ) → eq_by_cmp nat_cmp k k ≡ true
same_key k = grind (arith, nat_tests)

apart_key : (q k : ℕ) → (q ≡ k → ⊥) → eq_by_cmp nat_cmp q k ≡ false
apart_key q k h = grind (arith, nat_tests)

pub same_get : (m : FinMap nat_cmp (List ℕ)) (p : ℕ) (x : List ℕ) → map.get (map.insert m p x) p ≡ Some x
same_get m p x = map.get-insert nat_cmp_total m p x p ∙ ap (λ t. cond t (Some x) (map.get m p)) (same_key p)

pub other_get : (m : FinMap nat_cmp (List ℕ)) (p q : ℕ) (x : List ℕ) → (q ≡ p → ⊥) → map.get (map.insert m p x) q ≡ map.get m q
other_get m p q x other = map.get-insert nat_cmp_total m p x q ∙ ap (λ t. cond t (Some x) (map.get m q)) (apart_key q p other)

byte_after : (m : FinMap nat_cmp (List ℕ)) (old new : List ℕ) (a n v b : ℕ) → map.get m (a / 4096) ≡ Some (bytes_in old) → a % 4096 + n ≤ 4096 → ((i : ℕ) → byte_in_words new i ≡ after_store (byte_in_words old) (a % 4096) n v i) → memory_of (map.insert m (a / 4096) (bytes_in new)) b ≡ after_store (memory_of m) a n v b
byte_after m old new a n v b e within h = elim (cases_eq (b / 4096) (a / 4096)) [
  | inl same ↦
      byte_in_page _ new (a / 4096) b (same_get m (a / 4096) (bytes_in new)) same ∙ h (b % 4096) ∙ same_test a b n v _ _ (sym same) (sym (byte_in_page m old (a / 4096) b e same))
  | inr other ↦ ap (λ o. byte_in o (b % 4096)) (other_get m (a / 4096) (b / 4096) (bytes_in new) other) ∙ same_elsewhere a b n v (memory_of m b) other within
]

-- a store in a page is a store in the memory
pub stored_in_page : (m : FinMap nat_cmp (List ℕ)) (old new : List ℕ) (a n v : ℕ) → map.get m (a / 4096) ≡ Some (bytes_in old) → IsSize n → a % n ≡ 0 → ((i : ℕ) → byte_in_words new i ≡ after_store (byte_in_words old) (a % 4096) n v i) → memory_of (map.insert m (a / 4096) (bytes_in new)) ≡ stored (memory_of m) a (bytes_of n v)
stored_in_page m old new a n v e s z h =
    fun_ext (λ b. byte_after m old new a n v b e (aligned_within a n s z).0 h ∙ sym (stored-at (memory_of m) a n v b s))

-- and backs no page
pub pages_after : (m : FinMap nat_cmp (List ℕ)) (p : ℕ) (new : List ℕ) → has_page m p ≡ true → has_page (map.insert m p new) ≡ has_page m
pages_after m p new h = fun_ext (λ q. elim (cases_eq q p) [
  | inl same ↦ ap (λ k. has_page (map.insert m p new) k) same ∙ ap is_some (same_get m p new) ∙ sym (ap (has_page m) same ∙ h)
  | inr other ↦ ap is_some (other_get m p q new other)
])
