-- Texts of lines, and lines of words.
use Rattle.std.specs.Prelude.{ℕ, Bool, List, ◌++◌, ◌==◌, nat_lt, codes}
use Rattle.std.specs.List.{list_all, slice_split, join_with_byte}

-- the words with a space between each two
abbrev pub spaced : List (List ℕ) → List ℕ
spaced words = join_with_byte 32 words

-- the line of words, with a line feed at its end
abbrev pub line_text : List (List ℕ) → List ℕ
line_text words = spaced words ++ codes "\n"

-- each byte of the words comes after the space and the line feed
abbrev pub is_plain : List ℕ → Bool
is_plain word = list_all (λ b. nat_lt 32 b) word

-- the words of a line without its line feed: what stands between its spaces
abbrev pub words_of : List ℕ → List (List ℕ)
words_of line = slice_split (λ b. b == 32) line

-- the lines of a text without their line feeds, and then what stands behind the last line feed
abbrev pub parts_of : List ℕ → List (List ℕ)
parts_of text = slice_split (λ b. b == 10) text
