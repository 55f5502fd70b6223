-- How the words behind a command's name are read: as uses of names, each with its text.
use Rattle.std.specs.Prelude.{ℕ, Bool, true, false, not, find, ◌&&◌, ◌==◌, List, [], ◌∷◌, ◌++◌, map, Option, Some, None, codes}
use Rattle.std.specs.Prelude.{if◌then◌else◌, option_map, option_and_then}
use Rattle.std.specs.List.{list_all, list_any}
use Rattle.std.specs.Option.{option_map_or}
use Rattle.std.specs.Str.{bytes_eq}
use Rattle.clap.specs.Lexer.{long_of, strip_byte}
use denote.Bor.{Bor}

abbrev pub Text : Type 0
Text = List ℕ

-- the words as texts
abbrev pub texts_of : List (Bor Text) → List Text
texts_of words = map (λ word. word.now) words

-- neither empty nor beginning with `-` (45)
abbrev pub is_argument : Text → Bool
is_argument [] = false
is_argument (code ∷ codes) = not (code == 45)

-- what follows `--`
abbrev pub after_dashes : Text → Option Text
after_dashes word = option_and_then (strip_byte 45) (strip_byte 45 word)

-- an argument, `--name`, or `--name=V` with an argument V
abbrev pub is_word : Text → Bool
is_word word = option_map_or (λ option. option_map_or is_argument option.1 true) (long_of word) (is_argument word)

-- what may stand behind a command's name
pub record Syntax : Type 0 where
  pub places : List Text  -- what the arguments without an option's name are, in their order; each must be there
  pub needed : List Text  -- the options with a value that must be there
  pub valued : List Text  -- the options with a value that need not
  pub flags : List Text  -- the options without a value

-- what must be there
abbrev pub required_of : Syntax → List Text
required_of s = s.places ++ s.needed

-- a name that was used, with its text: an argument without an option's name stands under its place's name, an option under
-- its own, and a flag with `true`
abbrev pub Use : Type 0
Use = Text × Text

abbrev pub takes_value : Syntax → Text → Bool
takes_value s name = list_any (λ option. bytes_eq option name) (s.needed ++ s.valued)

abbrev pub is_flag : Syntax → Text → Bool
is_flag s name = list_any (λ flag. bytes_eq flag name) s.flags

-- the use, and then those that follow
abbrev pub with_use : Use → Option (List Use) → Option (List Use)
with_use first = option_map (λ uses. first ∷ uses)

-- `--name` or `--name=value`; `after waiting` are the uses in the words that follow
abbrev pub option_uses : Syntax → Text → Option Text → (Option Text → Option (List Use)) → Option (List Use)
option_uses s name None after = if takes_value s name then after (Some name)
    else (if is_flag s name then with_use (name, codes "true") (after None) else None)
option_uses s name (Some value) after =
    if takes_value s name && is_argument value then with_use (name, value) (after None) else None

-- an argument without an option's name, where these places are left; `after left` are the uses in the words that follow
abbrev pub place_uses : List Text → Text → (List Text → Option (List Use)) → Option (List Use)
place_uses [] word after = None
place_uses (place ∷ left) word after = with_use (place, word) (after left)

-- a word, where these places are left, and the option `waiting` has yet to get its value
abbrev pub word_uses : Syntax → Text → (left : List Text) → (waiting : Option Text) → (List Text → Option Text → Option (List Use)) → Option (List Use)
word_uses s word left (Some name) after = if is_argument word then with_use (name, word) (after left None) else None
word_uses s word left None after = if is_argument word then place_uses left word (λ places. after places None)
    else option_and_then (λ option. option_uses s option.0 option.1 (after left)) (long_of word)

-- the uses in the words, where these places are left, and the option `waiting` has yet to get its value
abbrev pub uses_from : Syntax → List Text → (left : List Text) → (waiting : Option Text) → Option (List Use)
uses_from s [] left None = Some []
uses_from s [] left (Some name) = None
uses_from s (word ∷ words) left waiting = word_uses s word left waiting (λ places next. uses_from s words places next)

abbrev pub is_used : Text → List Use → Bool
is_used name uses = list_any (λ u. bytes_eq u.0 name) uses

-- which flags are used
abbrev pub flags_in : List Use → Text → Bool
flags_in uses name = is_used name uses

-- those of a command that has none
abbrev pub no_flags : Text → Bool
no_flags name = false

-- no name is used twice
abbrev pub is_once : List Use → Bool
is_once [] = true
is_once (u ∷ uses) = not (is_used u.0 uses) && is_once uses

-- each name at most once, and what must be there
abbrev pub is_whole : Syntax → List Use → Bool
is_whole s uses = is_once uses && list_all (λ name. is_used name uses) (required_of s)

-- the text under a name
abbrev pub text_of : List Use → Text → Option Text
text_of uses name = option_map (λ u. u.1) (find (λ u. bytes_eq u.0 name) uses)
