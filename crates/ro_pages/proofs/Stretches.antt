-- Stretches of bytes that are stored one after another, and that are read.
use Rattle.std.specs.Prelude.{◌≡◌, ℕ, suc, ◌+◌, ◌-◌, ◌%◌, ◌<◌, ◌≤◌, ◌&&◌, true, cond, List, [], ◌∷◌, ◌++◌, length, take, drop, slice_index, nat_lt, nat_le}
use Rattle.std.proofs.Common.{refl, sym, ap, ap₂, ◌∙◌, inl, inr, arith, add-zero}
use Rattle.std.proofs.lemmas.Bool.{cases_lt}
use Rattle.std.proofs.lemmas.Bool.Decides.{nat_tests}
use Rattle.std.proofs.lemmas.List.{get_or_append_left, get_or-append_right, length-append, length-take-le, take-append-drop, take-take, drop-take, drop_more}
use Rattle.std.specs.Prelude.{◌*◌, ◌/◌, Some}
use Rattle.std.proofs.lemmas.Bool.{cases_eq, and_from, lt-ltb, le-leb}
use Rattle.std.specs.Ordering.{nat_cmp}
use Rattle.std.specs.FinMap as map
use Rattle.std.specs.FinMap.{FinMap}
use mathlib.Core.Path.{fun_ext}
use Rattle.ro_pages.specs.Bytes.{Memory, IsSize, bytes_at, bytes_of, stored, covers_page}
use Rattle.ro_pages.specs.Held.{byte_in, memory_of}
use Rattle.ro_pages.specs.Words.{byte_in_words, bytes_in, after_store}
use Rattle.ro_pages.proofs.PageBytes.{byte_in_page, same_get, other_get, stored-at}

-- a number's bytes are stored
pub stored_number : (f g : Memory) (a n v : ℕ) (xs : List ℕ) → IsSize n → bytes_of n v ≡ xs → ((i : ℕ) → g i ≡ after_store f a n v i) → g ≡ stored f a xs
stored_number f g a n v xs s e h = fun_ext (λ b. h b ∙ sym (stored-at f a n v b s)) ∙ ap (stored f a) e

pub stored-is : (m : Memory) (a : ℕ) (xs : List ℕ) (b : ℕ) → stored m a xs b ≡ cond (nat_le a b && nat_lt b (a + length xs)) (slice_index xs (b - a)) (m b)
stored-is m a [] b = grind (arith, nat_tests)
stored-is m a (x ∷ xs) b = refl

two_tests : (a b n k : ℕ) (x z v w : ℕ) → (a ≤ b → b < a + n → v ≡ x) → (a + n ≤ b → w ≡ x) → cond (nat_le (a + n) b && nat_lt b (a + n + k)) w (cond (nat_le a b && nat_lt b (a + n)) v z) ≡ cond (nat_le a b && nat_lt b (a + (n + k))) x z
two_tests a b n k x z v w h g = elim (cases_lt b a) [
  | inl low ↦ grind (arith, nat_tests)
  | inr from ↦ elim (cases_lt b (a + n)) [
    | inl low ↦ let e : v ≡ x = h from low in grind (arith, nat_tests)
    | inr high ↦ let e : w ≡ x = g high in grind (arith, nat_tests)
  ]
]

-- one stretch behind another
pub stored-append : (m : Memory) (a : ℕ) (xs ys : List ℕ) → stored (stored m a xs) (a + length xs) ys ≡ stored m a (xs ++ ys)
stored-append m a xs ys = fun_ext (λ b. at b)
  where
    behind : (b : ℕ) → b - (a + length xs) ≡ b - a - length xs
    behind b = omega arith

    at : (b : ℕ) → stored (stored m a xs) (a + length xs) ys b ≡ stored m a (xs ++ ys) b
    at b =
        stored-is (stored m a xs) (a + length xs) ys b
        ∙ ap (λ z. cond (nat_le (a + length xs) b && nat_lt b (a + length xs + length ys)) (slice_index ys (b - (a + length xs))) z) (stored-is m a xs b)
        ∙ two_tests a b (length xs) (length ys) (slice_index (xs ++ ys) (b - a)) (m b) _ _
        (λ low high. sym (get_or_append_left xs ys 0 (b - a) (omega arith)))
        (λ high. ap (slice_index ys) (behind b) ∙ sym (get_or-append_right xs ys (length xs) (b - a) 0 refl (omega arith)))
        ∙ ap (λ n. cond (nat_le a b && nat_lt b (a + n)) (slice_index (xs ++ ys) (b - a)) (m b)) (sym (length-append xs ys))
        ∙ sym (stored-is m a (xs ++ ys) b)

-- the front of a list, in two parts
pub take-parts : (xs : List ℕ) (n m : ℕ) → n ≤ m → take m xs ≡ take n xs ++ take (m - n) (drop n xs)
take-parts xs n m h =
    let e : n + (m - n) ≡ m = omega arith in
    sym (take-append-drop n (take m xs)) ∙ ap₂ (λ (us vs : List ℕ). us ++ vs) (take-take n m xs h) (ap (λ k. drop n (take k xs)) (sym e) ∙ drop-take n (m - n) xs)

-- one part more is stored
pub stored_more : (m f g : Memory) (a : ℕ) (xs : List ℕ) (n k : ℕ) → n ≤ length xs → n ≤ k → f ≡ stored m a (take n xs) → g ≡ stored f (a + n) (take (k - n) (drop n xs)) → g ≡ stored m a (take k xs)
stored_more m f g a xs n k l h e more =
    let long : length (take n xs) ≡ n = length-take-le n xs l in
    more ∙ ap₂ (λ (u : Memory) (j : ℕ). stored u (a + j) (take (k - n) (drop n xs))) e (sym long)
    ∙ stored-append m a (take n xs) (take (k - n) (drop n xs)) ∙ ap (stored m a) (sym (take-parts xs n k h))

-- one word more behind others
pub word_more : (m f g : Memory) (first : ℕ) (xs : List ℕ) (k word : ℕ) → 4 * (k + 1) ≤ length xs → f ≡ stored m (4 * first) (take (4 * k) xs) → bytes_of 4 word ≡ take 4 (drop (4 * k) xs) → ((i : ℕ) → g i ≡ after_store f (4 * (first + k)) 4 word i) → g ≡ stored m (4 * first) (take (4 * (k + 1)) xs)
word_more m f g first xs k word l e w h =
    let four : 4 ≡ 4 * (k + 1) - 4 * k = omega arith in
    let at : 4 * (first + k) ≡ 4 * first + 4 * k = omega arith in
    stored_more m f g (4 * first) xs (4 * k) (4 * (k + 1)) (omega arith) (omega arith) e
    (stored_number f g (4 * (first + k)) 4 word (take (4 * (k + 1) - 4 * k) (drop (4 * k) xs)) (inr (inr refl)) (w ∙ ap (λ (n : ℕ). take n (drop (4 * k) xs)) four) h
    ∙ ap (λ (n : ℕ). stored f n (take (4 * (k + 1) - 4 * k) (drop (4 * k) xs))) at)

-- bytes that are a memory's one by one
pub bytes_at-each : (m : Memory) (a : ℕ) (xs : List ℕ) → ((i : ℕ) → i < length xs → slice_index xs i ≡ m (a + i)) → xs ≡ bytes_at m a (length xs)
bytes_at-each m a [] h = refl
bytes_at-each m a (x ∷ xs) h =
    ap₂ (λ (y : ℕ) (ys : List ℕ). y ∷ ys) (h 0 (omega arith) ∙ ap m (add-zero a))
    (bytes_at-each m (a + 1) xs (λ i l. let e : a + suc i ≡ a + 1 + i = omega arith in h (suc i) (omega arith) ∙ ap m e))

-- one byte of a list, as the bytes of a number
pub one_byte : (xs : List ℕ) (n k v : ℕ) → n < length xs → k ≡ n + 1 → v ≡ slice_index xs n → v < 256 → bytes_of 1 v ≡ take (k - n) (drop n xs)
one_byte xs n k v l e h small =
    let one : k - n ≡ 1 = omega arith in
    let low : v % 256 ≡ v = omega arith in
    ap (λ b. b ∷ []) (low ∙ h) ∙ sym (ap (λ j. take j (drop n xs)) one ∙ ap (take 1) (drop_more xs n 0 l))

one_test : (a b n p : ℕ) (x y z w : ℕ) → b / 4096 ≡ p → x ≡ y → z ≡ w → cond (nat_le a (b % 4096) && nat_lt (b % 4096) (a + n)) x z ≡ cond (nat_le (4096 * p + a) b && nat_lt b (4096 * p + a + n)) y w
one_test a b n p x y z w e f g = grind (arith, nat_tests)

one_test_elsewhere : (a b n p : ℕ) (y w : ℕ) → (b / 4096 ≡ p → ⊥) → a + n ≤ 4096 → w ≡ cond (nat_le (4096 * p + a) b && nat_lt b (4096 * p + a + n)) y w
one_test_elsewhere a b n p y w other l = elim (cases_lt b (4096 * p + a)) [
  | inl low ↦ grind (arith, nat_tests)
  | inr high ↦ let past : 4096 * p + a + n ≤ b = omega arith in grind (arith, nat_tests)
]

-- bytes that are stored in a page are stored in the memory
pub stored_page : (m : FinMap nat_cmp (List ℕ)) (old new : List ℕ) (p a : ℕ) (xs : List ℕ) → map.get m p ≡ Some (bytes_in old) → a + length xs ≤ 4096 → byte_in_words new ≡ stored (byte_in_words old) a xs → memory_of (map.insert m p (bytes_in new)) ≡ stored (memory_of m) (4096 * p + a) xs
stored_page m old new p a xs e l h = fun_ext (λ b. elim (cases_eq (b / 4096) p) [
  | inl same ↦ here b same ∙ sym (stored-is (memory_of m) (4096 * p + a) xs b)
  | inr other ↦
      ap (λ o. byte_in o (b % 4096)) (other_get m p (b / 4096) (bytes_in new) other)
      ∙ one_test_elsewhere a b (length xs) p _ (memory_of m b) other l ∙ sym (stored-is (memory_of m) (4096 * p + a) xs b)
])
  where
    here : (b : ℕ) → b / 4096 ≡ p → memory_of (map.insert m p (bytes_in new)) b ≡ cond (nat_le (4096 * p + a) b && nat_lt b (4096 * p + a + length xs)) (slice_index xs (b - (4096 * p + a))) (memory_of m b)
    here b same =
        let d : b % 4096 - a ≡ b - (4096 * p + a) = omega arith in
        byte_in_page _ new p b (same_get m p (bytes_in new)) same ∙ ap (λ f. f (b % 4096)) h ∙ stored-is (byte_in_words old) a xs (b % 4096)
        ∙ one_test a b (length xs) p _ _ _ _ same (ap (slice_index xs) d) (sym (byte_in_page m old p b e same))

-- a byte that is read in a page
pub read_in_page : (m : FinMap nat_cmp (List ℕ)) (words : List ℕ) (p a : ℕ) → map.get m p ≡ Some (bytes_in words) → a < 4096 → byte_in_words words a ≡ memory_of m (4096 * p + a)
read_in_page m words p a e l =
    let at : (4096 * p + a) / 4096 ≡ p = omega arith in
    let rest : (4096 * p + a) % 4096 ≡ a = omega arith in
    sym (byte_in_page m words p (4096 * p + a) e at ∙ ap (byte_in_words words) rest)

-- a stretch covers the page of each of its bytes
pub covers_place : (a n k : ℕ) → k < n → covers_page (record { place = a; count = n }) ((a + k) / 4096) ≡ true
covers_place a n k l = and_from _ _ (and_from _ _ (lt-ltb 0 n (omega arith)) (le-leb (a / 4096) ((a + k) / 4096) (omega arith))) (le-leb ((a + k) / 4096) ((a + n - 1) / 4096) (omega arith))
