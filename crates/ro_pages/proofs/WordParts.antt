-- The bytes of words, and words of which a part is replaced.
use Rattle.std.specs.Prelude.{◌≡◌, ◌≢◌, ◌⊎◌, ℕ, zero, suc, ◌+◌, ◌-◌, ◌*◌, ◌/◌, ◌%◌, ◌^◌, ◌<◌, ◌≤◌, ◌==◌, ◌&&◌, cond, List, [], ◌∷◌, ◌++◌, length, take, drop, replicate, slice_index, slice_set, nat_le, nat_lt}
use Rattle.std.specs.Int.{w32, to_le_bytes}
use Rattle.std.proofs.Common.{refl, sym, ap, ap₂, ◌∙◌, subst, inl, inr, arith}
use Rattle.std.proofs.lemmas.Bool.{cases_eq, cases_lt}
use Rattle.ro_pages.specs.Held.{zeros}
use Rattle.ro_pages.specs.Words.{byte_of_word, byte_in_words, bytes_in, after_store}
use Rattle.std.proofs.lemmas.Bool.Decides.{nat_tests}
use Rattle.std.proofs.lemmas.Grind.{get_or-set_at}
use Rattle.std.proofs.lemmas.List.{get_or-set_other, get_or_append_left, get_or-append_right, get_or-take, get_or-drop, length-take-le}

four : (i : ℕ) → (i % 4 ≡ 0) ⊎ ((i % 4 ≡ 1) ⊎ ((i % 4 ≡ 2) ⊎ (i % 4 ≡ 3)))
four i = elim (cases_eq (i % 4) 0) [
  | inl a ↦ inl a
  | inr na ↦ inr (elim (cases_eq (i % 4) 1) [
    | inl b ↦ inl b
    | inr nb ↦ inr (elim (cases_eq (i % 4) 2) [
      | inl d ↦ inl d
      | inr nd ↦ inr (omega arith)
    ])
  ])
]

-- by the place of a byte in its word
at_place : (P : ℕ → Type 0) (i : ℕ) → P 0 → P 1 → P 2 → P 3 → P (i % 4)
at_place P i p0 p1 p2 p3 = elim (four i) [
  | inl a ↦ subst P (sym a) p0
  | inr (inl b) ↦ subst P (sym b) p1
  | inr (inr (inl d)) ↦ subst P (sym d) p2
  | inr (inr (inr e)) ↦ subst P (sym e) p3
]

-- the part of a word that begins at bit s and lies below m is replaced
abbrev pub with_part : (m word s part : ℕ) → ℕ
with_part m word s part = ((word + (2 ^ 32 - word / 2 ^ s % m * 2 ^ s % 2 ^ 32)) % 2 ^ 32 + part * 2 ^ s % 2 ^ 32) % 2 ^ 32

abbrev IsByteReplaced : (word byte place i : ℕ) → Type 0
IsByteReplaced word byte place i = with_part 256 word (8 * place) byte / 2 ^ (8 * i) % 2 ^ 8 ≡ cond (i == place) byte (word / 2 ^ (8 * i) % 2 ^ 8)

byte_at : (word byte p i : ℕ) → word < 2 ^ 32 → byte < 2 ^ 8 → IsByteReplaced word byte (p % 4) (i % 4)
byte_at word byte p i h k =
    at_place (λ q. IsByteReplaced word byte q (i % 4)) p
    (at_place (IsByteReplaced word byte 0) i (omega arith) (omega arith) (omega arith) (omega arith))
    (at_place (IsByteReplaced word byte 1) i (omega arith) (omega arith) (omega arith) (omega arith))
    (at_place (IsByteReplaced word byte 2) i (omega arith) (omega arith) (omega arith) (omega arith))
    (at_place (IsByteReplaced word byte 3) i (omega arith) (omega arith) (omega arith) (omega arith))

pub byte_replaced : (word byte place i : ℕ) → word < 2 ^ 32 → byte < 2 ^ 8 → place < 4 → IsByteReplaced word byte place (i % 4)
byte_replaced word byte place i h k l =
    let e : place % 4 ≡ place = omega arith in subst (λ p. IsByteReplaced word byte p (i % 4)) e (byte_at word byte place i h k)

abbrev IsHalfReplaced : (word half place i : ℕ) → Type 0
IsHalfReplaced word half place i = with_part 65536 word (8 * place) half / 2 ^ (8 * i) % 2 ^ 8 ≡ cond (i == place) (half % 2 ^ 8) (cond (i == place + 1) (half / 2 ^ 8) (word / 2 ^ (8 * i) % 2 ^ 8))

half_at : (word half p i : ℕ) → word < 2 ^ 32 → half < 2 ^ 16 → p % 4 % 2 ≡ 0 → IsHalfReplaced word half (p % 4) (i % 4)
half_at word half p i h k =
    at_place (λ q. q % 2 ≡ 0 → IsHalfReplaced word half q (i % 4)) p
    (λ _. at_place (IsHalfReplaced word half 0) i (omega arith) (omega arith) (omega arith) (omega arith))
    (λ f. absurd (omega arith))
    (λ _. at_place (IsHalfReplaced word half 2) i (omega arith) (omega arith) (omega arith) (omega arith))
    (λ f. absurd (omega arith))

pub half_replaced : (word half place i : ℕ) → word < 2 ^ 32 → half < 2 ^ 16 → place < 4 → place % 2 ≡ 0 → IsHalfReplaced word half place (i % 4)
half_replaced word half place i h k l even =
    let e : place % 4 ≡ place = omega arith in subst (λ p. IsHalfReplaced word half p (i % 4)) e (half_at word half place i h k (omega arith))

-- byte i of all the bytes
pub index-bytes_in : (words : List ℕ) (i : ℕ) → slice_index (bytes_in words) i ≡ byte_in_words words i
unfolding bytes_in
index-bytes_in [] i = omega arith
index-bytes_in (word ∷ words) zero = refl
index-bytes_in (word ∷ words) (suc zero) = refl
index-bytes_in (word ∷ words) (suc (suc zero)) = refl
index-bytes_in (word ∷ words) (suc (suc (suc zero))) = refl
index-bytes_in (word ∷ words) (suc (suc (suc (suc i)))) = index-bytes_in words i ∙ ap₂ (λ (w j : ℕ). w / 2 ^ (8 * j) % 2 ^ 8) (ap (λ j. slice_index (word ∷ words) j) at) rest
  where
    at : suc (i / 4) ≡ suc (suc (suc (suc i))) / 4
    at = omega arith

    rest : i % 4 ≡ suc (suc (suc (suc i))) % 4
    rest = omega arith

bytes_of_zeros : (n : ℕ) → bytes_in (replicate n 0) ≡ replicate (n * 4) 0
unfolding bytes_in
bytes_of_zeros zero = refl
bytes_of_zeros (suc n) = ap (λ bytes. 0 ∷ 0 ∷ 0 ∷ 0 ∷ bytes) (bytes_of_zeros n) ∙ ap (λ k. replicate k 0) fours
  where
    fours : suc (suc (suc (suc (n * 4)))) ≡ suc n * 4
    fours = omega arith

-- a page of zeros
pub zero_words : bytes_in (replicate 1024 0) ≡ zeros
unfolding zeros
zero_words = bytes_of_zeros 1024

-- the test of a half-word's bytes, within the word and by address
half_tested : (offset value b i : ℕ) → i / 4 ≡ offset / 4 → offset % 2 ≡ 0 → cond (i % 4 == offset % 4) (value % 65536 % 2 ^ 8) (cond (i % 4 == offset % 4 + 1) (value % 65536 / 2 ^ 8) b) ≡ after_store (λ _. b) offset 2 value i
half_tested offset value b i same even = elim (cases_eq (i % 4) (offset % 4)) [
  | inl low ↦ let d : i - offset ≡ 0 = omega arith in rw d (grind (arith, nat_tests))
  | inr nlow ↦ elim (cases_eq (i % 4) (offset % 4 + 1)) [
    | inl high ↦ let d : i - offset ≡ 1 = omega arith in rw d (grind (arith, nat_tests))
    | inr nhigh ↦ grind (arith, nat_tests)
  ]
]

half_elsewhere : (offset value b i : ℕ) → (i / 4 ≡ offset / 4 → ⊥) → offset % 2 ≡ 0 → b ≡ after_store (λ _. b) offset 2 value i
half_elsewhere offset value b i other even = grind (arith, nat_tests)

-- a half-word is stored
pub half_stored : (words : List ℕ) (offset value word i : ℕ) → offset / 4 < length words → offset % 2 ≡ 0 → ((j : ℕ) → byte_of_word word j ≡ cond (j % 4 == offset % 4) (value % 65536 % 2 ^ 8) (cond (j % 4 == offset % 4 + 1) (value % 65536 / 2 ^ 8) (byte_of_word (slice_index words (offset / 4)) j))) → byte_in_words (slice_set words (offset / 4) word) i ≡ after_store (byte_in_words words) offset 2 value i
half_stored words offset value word i l even h = elim (cases_eq (i / 4) (offset / 4)) [
  | inl same ↦
      ap (λ w. byte_of_word w i) (get_or-set_at words (offset / 4) (i / 4) word 0 same l) ∙ h i
      ∙ half_tested offset value (byte_of_word (slice_index words (offset / 4)) i) i same even
      ∙ ap (λ q. after_store (λ _. byte_of_word (slice_index words q) i) offset 2 value i) (sym same)
  | inr other ↦
      ap (λ w. byte_of_word w i) (get_or-set_other words (offset / 4) (i / 4) word 0 other)
      ∙ half_elsewhere offset value (byte_in_words words i) i other even
]

-- a word's bytes as a list
listed : (word j : ℕ) → j < 4 → slice_index (to_le_bytes w32 word) j ≡ byte_of_word word j
listed word zero l = omega arith
listed word (suc zero) l = omega arith
listed word (suc (suc zero)) l = omega arith
listed word (suc (suc (suc zero))) l = omega arith
listed word (suc (suc (suc (suc j)))) l = absurd (omega arith)

tested_before : (a i x y z : ℕ) → i < a → z ≡ y → z ≡ cond (nat_le a i && nat_lt i (a + 4)) x y
tested_before a i x y z l e = grind (arith, nat_tests)

tested_in : (a i x y z : ℕ) → a ≤ i → i < a + 4 → z ≡ x → z ≡ cond (nat_le a i && nat_lt i (a + 4)) x y
tested_in a i x y z l h e = grind (arith, nat_tests)

tested_behind : (a i x y z : ℕ) → a + 4 ≤ i → z ≡ y → z ≡ cond (nat_le a i && nat_lt i (a + 4)) x y
tested_behind a i x y z h e = grind (arith, nat_tests)

-- a word's bytes in place of four of a list
pub word_put : (bytes four : List ℕ) (a k word i : ℕ) → a + 4 ≤ length bytes → k ≡ 4 → four ≡ to_le_bytes w32 word → slice_index (take a bytes ++ (four ++ drop k (drop a bytes))) i ≡ cond (nat_le a i && nat_lt i (a + 4)) (byte_of_word word (i - a)) (slice_index bytes i)
word_put bytes four a k word i l e h =
    let rest = four ++ drop k (drop a bytes) in
    let front : length (take a bytes) ≡ a = length-take-le a bytes (omega arith) in
    let size : length four ≡ 4 = ap length h in
    elim (cases_lt i a) [
      | inl low ↦ tested_before a i _ _ _ low (get_or_append_left (take a bytes) rest 0 i (omega arith) ∙ get_or-take a bytes i 0 low)
      | inr high ↦ elim (cases_lt (i - a) 4) [
        | inl low ↦
            tested_in a i _ _ _ high (omega arith)
            (get_or-append_right (take a bytes) rest a i 0 front high ∙ get_or_append_left four (drop k (drop a bytes)) 0 (i - a) (omega arith)
            ∙ ap (λ xs. slice_index xs (i - a)) h ∙ listed word (i - a) low)
        | inr past ↦
            let at : a + (k + (i - a - 4)) ≡ i = omega arith in
            tested_behind a i _ _ _ (omega arith)
            (get_or-append_right (take a bytes) rest a i 0 front high ∙ get_or-append_right four (drop k (drop a bytes)) 4 (i - a) 0 size past
            ∙ get_or-drop k (drop a bytes) (i - a - 4) 0 ∙ get_or-drop a bytes (k + (i - a - 4)) 0 ∙ ap (slice_index bytes) at)
      ]
    ]

byte_at_place : (words : List ℕ) (i k : ℕ) → k < 4 → slice_index (bytes_in words) (4 * i + k) ≡ slice_index words i / 2 ^ (8 * k) % 2 ^ 8
byte_at_place words i k l =
    let at : (4 * i + k) / 4 ≡ i = omega arith in
    let rest : (4 * i + k) % 4 ≡ k = omega arith in
    index-bytes_in words (4 * i + k) ∙ ap₂ (λ (q r : ℕ). slice_index words q / 2 ^ (8 * r) % 2 ^ 8) at rest

-- words that differ have other bytes
pub other_bytes : (xs ys : List ℕ) (i : ℕ) → slice_index xs i < 2 ^ 32 → slice_index ys i < 2 ^ 32 → slice_index xs i ≢ slice_index ys i → bytes_in xs ≢ bytes_in ys
other_bytes xs ys i low below other e =
    let byte : (k : ℕ) → k < 4 → slice_index xs i / 2 ^ (8 * k) % 2 ^ 8 ≡ slice_index ys i / 2 ^ (8 * k) % 2 ^ 8 = λ k l. sym (byte_at_place xs i k l) ∙ ap (λ bs. slice_index bs (4 * i + k)) e ∙ byte_at_place ys i k l in
    let a = byte 0 (omega arith) in
    let b = byte 1 (omega arith) in
    let c = byte 2 (omega arith) in
    let d = byte 3 (omega arith) in
    other (omega arith)

-- words that are the same one by one
pub same_words : (xs ys : List ℕ) → length xs ≡ length ys → ((i : ℕ) → i < length xs → slice_index xs i ≡ slice_index ys i) → xs ≡ ys
same_words [] [] l h = refl
same_words [] (y ∷ ys) l h = absurd (omega arith)
same_words (x ∷ xs) [] l h = absurd (omega arith)
same_words (x ∷ xs) (y ∷ ys) l h = ap₂ (λ (z : ℕ) (zs : List ℕ). z ∷ zs) (h 0 (omega arith)) (same_words xs ys (omega arith) (λ i m. h (suc i) (omega arith)))

-- words with the same bytes
pub equal_words : (xs ys : List ℕ) → length xs ≡ length ys → ((i : ℕ) → slice_index xs i < 2 ^ 32) → ((i : ℕ) → slice_index ys i < 2 ^ 32) → bytes_in xs ≡ bytes_in ys → xs ≡ ys
equal_words xs ys many low below same = same_words xs ys many (λ i l. by i (cases_eq (slice_index xs i) (slice_index ys i)))
  where
    by : (i : ℕ) → (slice_index xs i ≡ slice_index ys i) ⊎ (slice_index xs i ≢ slice_index ys i) → slice_index xs i ≡ slice_index ys i
    by i (inl is) = is
    by i (inr other) = absurd (other_bytes xs ys i (low i) (below i) other same)
