-- A page kept as words, the lowest byte of each first.
use Rattle.std.specs.Prelude.{ℕ, ◌+◌, ◌-◌, ◌*◌, ◌/◌, ◌%◌, ◌^◌, ◌&&◌, List, [], ◌∷◌, nat_le, nat_lt, slice_index, if◌then◌else◌}

-- byte i % 4 of a word
abbrev pub byte_of_word : ℕ → ℕ → ℕ
byte_of_word word i = word / 2 ^ (8 * (i % 4)) % 2 ^ 8

-- byte i of a row of words
abbrev pub byte_in_words : List ℕ → ℕ → ℕ
byte_in_words words i = byte_of_word (slice_index words (i / 4)) i

-- all its bytes
unfoldable pub bytes_in : List ℕ → List ℕ
bytes_in [] = []
bytes_in (word ∷ words) = byte_of_word word 0 ∷ byte_of_word word 1 ∷ byte_of_word word 2 ∷ byte_of_word word 3 ∷ bytes_in words

-- byte b after the lowest bytes of a value are stored from a on
abbrev pub after_store : (ℕ → ℕ) → (a count value b : ℕ) → ℕ
after_store f a count value b = if nat_le a b && nat_lt b (a + count) then value / 2 ^ (8 * (b - a)) % 2 ^ 8 else f b
