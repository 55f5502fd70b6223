-- Words that have not the look of a command's words spell none.
use Rattle.std.proofs.Common.{◌≡◌, ◌∙◌, ◌⊎◌, Bool, true, false, ◌&&◌, ◌==◌, List, [], ◌∷◌, Option, Some, None, refl, ap, sym, subst, drop, inl, inr}
use Rattle.std.specs.Prelude.{map, option_and_then, Result, Ok, Err, IfErr, IsErrAnd}
use Rattle.std.specs.Option.{option_map_or}
use Rattle.std.specs.List.{AllByRecursion, list_all}
use Rattle.std.specs.Str.{bytes_eq}
use Rattle.std.proofs.lemmas.Bool.{cases_Bool}
use Rattle.std.proofs.lemmas.Slice.Eq.{bytes_eq-Decides}
use Rattle.clap.specs.Lexer.{long_of}
use Rattle.clap.specs.Values.{kind_of}
use Rattle.clap.specs.Kinds.{HasKind, IsAmong, Kinds}
use Rattle.clap.specs.declared.error.Error.{Error}
use Rattle.ro_words.specs.Commands.{Spelling, asked_among, asked_in_words, asked_of, refusal_of, spelling_of}
use Rattle.ro_words.specs.Uses.{Syntax, Text, Use, is_argument, is_flag, is_word, option_uses, place_uses, takes_value, uses_from, word_uses}
use Rattle.ro_words.specs.declared.commands.WordsError.{WordsError}
use Rattle.ro_words.specs.declared.commands.WordsError.TheVariants.{NoMemory}
use Rattle.ro_words.proofs.Once.{and_false}
use Rattle.ro_words.proofs.Spelled.{Spoken, spelling_in}

abbrev After : Type 0
After = Option Text → Option (List Use)

abbrev AfterPlaces : Type 0
AfterPlaces = List Text → Option Text → Option (List Use)

-- ---- where the words that follow are refused

option_stops : (s : Syntax) (name : Text) (value : Option Text) (after : After) → ((w : Option Text) → after w ≡ None) → option_uses s name value after ≡ None
option_stops s name None after none = elim (cases_Bool (takes_value s name)) [
  | inl takes ↦ rw takes (none (Some name))
  | inr other ↦ elim (cases_Bool (is_flag s name)) [ inl flag ↦ rw (other, flag, none None) refl | inr unknown ↦ rw (other, unknown) refl ]
]
option_stops s name (Some value) after none =
    elim (cases_Bool (takes_value s name && is_argument value)) [ inl takes ↦ rw (takes, none None) refl | inr other ↦ rw other refl ]

maybe_stops : (s : Syntax) (o : Option (Text × Option Text)) (after : After) → ((w : Option Text) → after w ≡ None)
    → option_and_then (λ p. option_uses s p.0 p.1 after) o ≡ None
maybe_stops s None after none = refl
maybe_stops s (Some p) after none = option_stops s p.0 p.1 after none

place_stops : (left : List Text) (word : Text) (after : List Text → Option (List Use)) → ((places : List Text) → after places ≡ None) → place_uses left word after ≡ None
place_stops [] word after none = refl
place_stops (place ∷ left) word after none = rw (none left) refl

word_stops : (s : Syntax) (word : Text) (left : List Text) (waiting : Option Text) (after : AfterPlaces) → ((places : List Text) (w : Option Text) → after places w ≡ None)
    → word_uses s word left waiting after ≡ None
word_stops s word left None after none = elim (cases_Bool (is_argument word)) [
  | inl plain ↦ rw plain (place_stops left word (λ places. after places None) (λ places. none places None))
  | inr other ↦ rw other (maybe_stops s (long_of word) (after left) (none left))
]
word_stops s word left (Some name) after none =
    elim (cases_Bool (is_argument word)) [ inl plain ↦ rw (plain, none left None) refl | inr other ↦ rw other refl ]

-- ---- where the word itself is

abbrev looks : Option (Text × Option Text) → Bool → Bool
looks o plain = option_map_or (λ p. option_map_or is_argument p.1 true) o plain

bad_option : (s : Syntax) (name : Text) (value : Option Text) (after : After) → option_map_or is_argument value true ≡ false → option_uses s name value after ≡ None
bad_option s name None after bad = cc
bad_option s name (Some value) after bad = rw (bad, and_false (takes_value s name)) refl

bad_maybe : (s : Syntax) (o : Option (Text × Option Text)) (after : After) → looks o false ≡ false → option_and_then (λ p. option_uses s p.0 p.1 after) o ≡ None
bad_maybe s None after bad = refl
bad_maybe s (Some p) after bad = bad_option s p.0 p.1 after bad

-- an argument is no option
plain_long : (word : Text) → is_argument word ≡ true → long_of word ≡ None
plain_long [] plain = cc
plain_long (x ∷ xs) plain = elim (cases_Bool (x == 45)) [
  | inl same ↦ let bad : false ≡ true = rw same at plain in cc
  | inr other ↦ rw other refl
]

bad_is_no_argument : (word : Text) → is_word word ≡ false → is_argument word ≡ false
bad_is_no_argument word bad = elim (cases_Bool (is_argument word)) [
  | inl plain ↦
      let good : is_word word ≡ true = ap (λ (o : Option (Text × Option Text)). looks o (is_argument word)) (plain_long word plain) ∙ plain in
      let absurd_of : true ≡ false = sym good ∙ bad in cc
  | inr other ↦ other
]

bad_word : (s : Syntax) (word : Text) (left : List Text) (waiting : Option Text) (after : AfterPlaces) → is_word word ≡ false → word_uses s word left waiting after ≡ None
bad_word s word left None after bad =
    let other = bad_is_no_argument word bad in
    rw other (bad_maybe s (long_of word) (after left) (sym (ap (looks (long_of word)) other) ∙ bad))
bad_word s word left (Some name) after bad = rw (bad_is_no_argument word bad) refl

-- ---- all words

bad_words : (s : Syntax) (words : List Text) (left : List Text) (waiting : Option Text) → list_all is_word words ≡ false → uses_from s words left waiting ≡ None
bad_words s [] left waiting bad = cc
bad_words s (word ∷ words) left waiting bad = elim (cases_Bool (is_word word)) [
  | inl good ↦
      let rest : list_all is_word words ≡ false = rw good at bad in
      word_stops s word left waiting (λ places next. uses_from s words places next) (λ places w. bad_words s words places w rest)
  | inr ill ↦ bad_word s word left waiting (λ places next. uses_from s words places next) ill
]

-- each command has a name that may stand in a command
abbrev pub AreNamed : {A : Type 0} → List (Spoken A) → Type 0
AreNamed cs = AllByRecursion (λ c. is_word c.grammar.name ≡ true) cs

module _ {A : Type 0} where
  -- words of which one is bad ask for nothing
  bad_asked : (words : List Text) → list_all is_word words ≡ false → (found : Option (Spelling A)) → option_and_then (asked_in_words words) found ≡ None
  bad_asked words bad None = refl
  bad_asked words bad (Some s) = ap (option_and_then (asked_of s)) (bad_words s.syntax words s.syntax.places None bad)

  -- nor does a bad name of a command
  bad_command : (cs : List (Spoken A)) (command : Text) → AreNamed cs → is_word command ≡ false → spelling_of (map spelling_in cs) command ≡ None
  bad_command [] command named bad = refl
  bad_command (c ∷ cs) command named bad = elim (cases_Bool (bytes_eq c.grammar.name command)) [
    | inl same ↦
        let ill : true ≡ false = sym named.0 ∙ subst (λ (n : Text). is_word n ≡ false) (sym ((bytes_eq-Decides c.grammar.name command).0 same)) bad in cc
    | inr other ↦ rw other (bad_command cs command named.1 bad)
  ]

  pub refused : (cs : List (Spoken A)) (words : List Text) → AreNamed cs → list_all is_word (drop 1 words) ≡ false → asked_among (map spelling_in cs) words ≡ None
  refused cs [] named bad = refl
  refused cs (program ∷ []) named bad = refl
  refused cs (program ∷ command ∷ words) named bad = elim (cases_Bool (list_all is_word words)) [
    | inl good ↦
        let ill : is_word command ≡ false = elim (cases_Bool (is_word command)) [
          | inl fine ↦ let wrong : true ≡ false = rw (fine, good) at bad in cc
          | inr ill ↦ ill
        ] in
        ap (option_and_then (asked_in_words words)) (bad_command cs command named ill)
    | inr ill ↦ bad_asked words ill (spelling_of (map spelling_in cs) command)
  ]

-- ---- what a parse that failed says

pub by_kind : (are : Bool) (kinds : Kinds) (e : Error) (w : WordsError) → HasKind kinds e → w ≡ refusal_of (kind_of e) → (w ≡ NoMemory) ⊎ (are ≡ true → kinds ≡ [] → ⊥)
by_kind are kinds e w (inl memory) is = inl (is ∙ ap refusal_of memory)
by_kind are kinds e w (inr among) is = inr (λ good empty. subst (λ (ks : Kinds). IsAmong (kind_of e) ks) empty among)

-- what `?` makes of an error
pub failed : {T E : Type 0} (r : Result T E) {P Q : E → Type 0} → ((e : E) → P e → Q e) → IsErrAnd r P → IfErr r Q
failed (Ok x) f h = tt
failed (Err e) f h = f e h
