-- A parse by `clap` comes to what the words ask for, whichever the commands are.
use Rattle.std.proofs.Common.{◌≡◌, ◌∙◌, ℕ, Bool, true, false, ◌==◌, List, [], ◌∷◌, Option, Some, None, refl, ap, ap₂, sym, subst, codes, drop, inl, inr}
use Rattle.std.specs.Prelude.{find, fold, is_some, map, option_and_then, option_map}
use Rattle.std.specs.Option.{option_map_or}
use Rattle.std.specs.List.{AllByRecursion, list_all}
use Rattle.std.specs.Str.{bytes_eq}
use Rattle.std.proofs.lemmas.Bool.{cases_Bool}
use Rattle.std.proofs.lemmas.Slice.Eq.{bytes_eq-Decides}
use Rattle.clap.specs.Walk.{Names, Row, after_step, answers_to, Text, Walk, finished, idle, nothing_held, settled, stop_after, subcommand_met, subcommand_or_other, walk_from, walked}
use Rattle.clap.specs.Simple.{App, Shape, built, built_leaf, entered, inherited, label_of, names_of, new_shape, rows_at, subcommand_of}
use Rattle.clap.specs.Faults.{built_fault, check_fault, defaults_fault, entered_fault, fault_of, level_fault, other_fault, settle_fault, step_fault, turn_fault, walk_fault}
use Rattle.clap.specs.Kinds.{Kinds, or_else}
use Rattle.clap.specs.declared.error.kind.ErrorKind.TheVariants as kind
use Rattle.clap.proofs.WalkLemmas.{walk_stopped}
use Rattle.clap.proofs.FaultLemmas.{stopped_fault}
use Rattle.ro_words.specs.Commands.{Spelling, asked_among, asked_in_words, asked_of, spelling_of}
use Rattle.ro_words.specs.Grammar.{line_app, line_top, shape_of}
use Rattle.ro_words.specs.Uses.{Syntax, Use, flags_in, is_flag, is_word, text_of, uses_from}
use Rattle.ro_words.proofs.Ends.{final_rows}
use Rattle.ro_words.proofs.Grammars.{no_defaults}
use Rattle.ro_words.proofs.Names.{Grammar}
use Rattle.ro_words.proofs.Once.{and_false, and_parts, flag_text, or_false}
use Rattle.ro_words.proofs.Rules.{leaf}
use Rattle.ro_words.proofs.Steps.{at, end_rows, short_none, or_else-nil, tail_fault}
use Rattle.ro_words.proofs.Forms.{argument, form, optional}
use Rattle.ro_words.proofs.Standing.{Answers, not_empty, one_kind}
use Rattle.ro_words.proofs.Walks.{walk_answers}

-- ---- what is found in a list

pub some_same : {X : Type 0} (x y : X) → ◌≡◌ {A = Option X} (Some x) (Some y) → x ≡ y
some_same x y e = cc

pub find-map : {X Y : Type 0} (f : X → Y) (p : Y → Bool) (q : X → Bool) → ((x : X) → p (f x) ≡ q x) → (xs : List X) → find p (map f xs) ≡ option_map f (find q xs)
find-map f p q same [] = refl
find-map f p q same (x ∷ xs) = elim (cases_Bool (q x)) [
  | inl here ↦ rw (same x, here) refl
  | inr none ↦ rw (same x, none) (find-map f p q same xs)
]

-- what is found passes the test, and has what all have
pub found_passes : {X : Type 0} (p : X → Bool) (xs : List X) (x : X) → find p xs ≡ Some x → p x ≡ true
found_passes p [] x is = cc
found_passes p (y ∷ ys) x is = elim (cases_Bool (p y)) [
  | inl here ↦ let one : Some y ≡ Some x = rw here at is in subst (λ z. p z ≡ true) (some_same y x one) here
  | inr none ↦ let later : find p ys ≡ Some x = rw none at is in found_passes p ys x later
]

pub found_has : {X : Type 0} (P : X → Type 0) (p : X → Bool) (xs : List X) (x : X) → AllByRecursion P xs → find p xs ≡ Some x → P x
found_has P p [] x all is = cc
found_has P p (y ∷ ys) x all is = elim (cases_Bool (p y)) [
  | inl here ↦ let one : Some y ≡ Some x = rw here at is in subst P (some_same y x one) all.0
  | inr none ↦ let later : find p ys ≡ Some x = rw none at is in found_has P p ys x all.1 later
]

-- ---- commands

-- texts that agree on each name but those of flags
abbrev pub Agree : Syntax → (f g : Text → Option Text) → Type 0
Agree s f g = (name : Text) → is_flag s name ≡ false → f name ≡ g name

-- a command, with what it asks for
pub record Spoken (A : Type 0) : Type 0 where
  pub grammar : Grammar
  pub given : (Text → Option Text) → (Text → Bool) → Option A
  pub alike : (f g : Text → Option Text) (flags : Text → Bool) → Agree grammar.syntax f g → given f flags ≡ given g flags

abbrev pub spelling_in : {A : Type 0} → Spoken A → Spelling A
spelling_in c = record { name = c.grammar.name; syntax = c.grammar.syntax; given = c.given }

abbrev pub spoken_of : {A : Type 0} → List (Spoken A) → Text → Option (Spoken A)
spoken_of cs command = find (λ c. bytes_eq c.grammar.name command) cs

pub spelling_is : {A : Type 0} (cs : List (Spoken A)) (command : Text) → spelling_of (map spelling_in cs) command ≡ option_map spelling_in (spoken_of cs command)
spelling_is cs command = find-map spelling_in (λ s. bytes_eq s.name command) (λ c. bytes_eq c.grammar.name command) (λ c. refl) cs

-- whole uses of a command, by what a parse comes to
pub record SpelledAs {A : Type 0} (cs : List (Spoken A)) (kinds : Kinds) (inner : Option (Text × List Row)) (asked : Option A) : Type 0 where
  pub command : Spoken A
  pub named : spoken_of cs command.grammar.name ≡ Some command
  pub uses : List Use
  pub passes : kinds ≡ []
  pub flags : list_all (flag_text command.grammar.syntax.flags) uses ≡ true
  pub ends : inner ≡ Some (command.grammar.name, final_rows command.grammar uses)
  pub spelled : asked ≡ command.given (text_of uses) (flags_in uses)

-- a command line by what fails, where a parse of it ends and what it asks for
pub data SpellsBy {A : Type 0} (cs : List (Spoken A)) (kinds : Kinds) (inner : Option (Text × List Row)) (asked : Option A) : Type 0 where
  of_none : (kinds ≡ [] → ⊥) → asked ≡ None → SpellsBy cs kinds inner asked
  of_one : SpelledAs cs kinds inner asked → SpellsBy cs kinds inner asked

-- ---- the whole command line

-- as it is built
abbrev top : Shape
top = record (line_top (new_shape (codes "romain"))) { is_leaf = false; is_built = true }

abbrev built_in : {A : Type 0} → Spoken A → Shape
built_in c = leaf c.grammar.name c.grammar.rules

subs_are : {A : Type 0} (cs : List (Spoken A))
    → map built_leaf (map (inherited top) (map (λ s. shape_of s.name s.syntax) (map spelling_in cs))) ≡ map built_in cs
subs_are [] = refl
subs_are (c ∷ cs) =
    ap₂ (λ (s : Shape) (ss : List Shape). s ∷ ss) (ap (leaf c.grammar.name) c.grammar.built) (subs_are cs)

module _ {A : Type 0} (cs : List (Spoken A)) where
  abbrev spellings : List (Spelling A)
  spellings = map spelling_in cs

  abbrev whole : App
  whole = record { top = top; subs = map built_in cs }

  whole_is : built (line_app spellings) ≡ whole
  whole_is = ap (λ (subs : List Shape). record { top = top; subs = subs }) (subs_are cs)

  abbrev names : Names
  names = names_of whole

  -- where a walk over the words of the whole command line stops at a command's name
  abbrev stopped_at : Text → List Text → Walk
  stopped_at command words = record (walk_from nothing_held) { stopped = Some (command, words) }

  -- ---- the first word

  entered_as : (word : Text) → find (λ s. answers_to word (label_of s)) (map built_in cs) ≡ option_map built_in (spoken_of cs word)
  entered_as word = find-map built_in (λ s. answers_to word (label_of s)) (λ c. bytes_eq c.grammar.name word) (λ c. or_false (bytes_eq c.grammar.name word)) cs

  met_as : (word : Text) → subcommand_met names idle word ≡ option_map (λ c. c.grammar.name) (spoken_of cs word)
  met_as word =
      ap (option_map (λ (n : Text × List Text). n.0)) (find-map label_of (answers_to word) (λ s. answers_to word (label_of s)) (λ s. refl) (map built_in cs)
      ∙ ap (option_map label_of) (entered_as word)) ∙ names_alike (spoken_of cs word)
    where
      names_alike : (o : Option (Spoken A)) → option_map (λ (n : Text × List Text). n.0) (option_map label_of (option_map built_in o)) ≡ option_map (λ c. c.grammar.name) o
      names_alike None = refl
      names_alike (Some c) = refl

  -- the walk and what fails, by the command that the word names
  abbrev walked_by : Text → Option Text → Walk
  walked_by word met = after_step [] word (walk_from nothing_held) (subcommand_or_other [] met idle 1 word nothing_held).0 (subcommand_or_other [] met idle 1 word nothing_held).1

  abbrev turn_by : Text → Option Text → Kinds
  turn_by word met = or_else (other_fault top met word nothing_held)
      (step_fault top 1 (subcommand_or_other [] met idle 1 word nothing_held).0 (subcommand_or_other [] met idle 1 word nothing_held).1)

  walked_is : (word : Text) → walked [] names (walk_from nothing_held) word ≡ walked_by word (subcommand_met names idle word)
  unfolding walked
  walked_is word = refl

  turn_is : (word : Text) → turn_fault top names (walk_from nothing_held) word ≡ turn_by word (subcommand_met names idle word)
  turn_is word = refl

  -- what fails, by the walk over the words of the whole command line
  abbrev top_fault : List Text → Walk → Kinds
  top_fault words w = or_else (walk_fault top names (walk_from nothing_held) words) (or_else (entered_fault whole w.stopped)
      (or_else (settle_fault [] false w.held) (or_else (defaults_fault (settled [] w.held).rows [])
      (check_fault top (finished [] w.held) (is_some (entered whole w.stopped))))))

  top_is : (words : List Text) → built_fault whole nothing_held words ≡ top_fault words (fold (walked [] names) (walk_from nothing_held) words)
  top_is words = refl

  -- ---- a command's name

  module _ (c : Spoken A) (named : spoken_of cs c.grammar.name ≡ Some c) where
    abbrev g : Grammar
    g = c.grammar

    its_name : subcommand_met names idle g.name ≡ Some g.name
    its_name = met_as g.name ∙ ap (option_map (λ (d : Spoken A). d.grammar.name)) named

    its_walked : walked [] names (walk_from nothing_held) g.name ≡ stopped_at g.name []
    its_walked = walked_is g.name ∙ ap (walked_by g.name) its_name

    its_turn : turn_fault top names (walk_from nothing_held) g.name ≡ []
    its_turn = turn_is g.name ∙ ap (turn_by g.name) its_name ∙ rw (and_false (bytes_eq g.name (codes "help"))) refl

    its_entered : find (λ s. answers_to g.name (label_of s)) (map built_in cs) ≡ Some (leaf g.name g.rules)
    its_entered = entered_as g.name ∙ ap (option_map built_in) named

    its_walk : (words : List Text) → fold (walked [] names) (walk_from nothing_held) (g.name ∷ words) ≡ stopped_at g.name words
    its_walk words = ap (λ (w : Walk). fold (walked [] names) w words) its_walked ∙ sym (walk_stopped [] names (walk_from nothing_held) g.name [] words)

    its_walk_fault : (words : List Text) → walk_fault top names (walk_from nothing_held) (g.name ∷ words) ≡ []
    unfolding walk_fault
    its_walk_fault words = rw its_turn (ap (λ (w : Walk). walk_fault top names w words) its_walked ∙ stopped_fault top names (walk_from nothing_held) (g.name, []) words)

    its_rows : (words : List Text) → entered whole (Some (g.name, words)) ≡ Some (g.name, end_rows g (at idle 1 nothing_held) words)
    its_rows words = ap (λ (o : Option Shape). option_map (λ s. rows_at s words) o) its_entered

    its_level : (words : List Text) → entered_fault whole (Some (g.name, words)) ≡ tail_fault g (at idle 1 nothing_held) words
    its_level words = ap (λ (o : Option Shape). option_map_or (λ s. level_fault s [] nothing_held words false []) o []) its_entered

    its_fault : (words : List Text) → built_fault whole nothing_held (g.name ∷ words) ≡ tail_fault g (at idle 1 nothing_held) words
    its_fault words =
        top_is (g.name ∷ words) ∙ ap (top_fault (g.name ∷ words)) (its_walk words)
        ∙ rw (its_walk_fault words, its_level words, its_rows words, no_defaults []) (or_else-nil (tail_fault g (at idle 1 nothing_held) words))

    its_stop : (words : List Text) → entered whole (stop_after [] names (g.name ∷ words)) ≡ Some (g.name, end_rows g (at idle 1 nothing_held) words)
    its_stop words = ap (λ (w : Walk). entered whole w.stopped) (its_walk words) ∙ its_rows words

    -- what is asked for by a parse that fails so, or ends in these rows
    by_answer : (kinds : Kinds) (inner : Option (Text × List Row)) (asked : Option A) (rows : List Row) (read : Option (List Use)) → inner ≡ Some (g.name, rows)
        → Answers g [] kinds rows read → asked ≡ option_and_then (asked_of (spelling_in c)) read → SpellsBy cs kinds inner asked
    by_answer kinds inner asked rows None is h spelled = of_none h spelled
    by_answer kinds inner asked rows (Some us) is (inl (passes, full, flags, ends)) spelled = of_one (record {
      command = c;
      named = named;
      uses = us;
      passes = passes;
      flags = flags;
      ends = is ∙ ap (λ (l : List Row). Some (g.name, l)) ends;
      spelled = spelled ∙ rw full refl;
    })
    by_answer kinds inner asked rows (Some us) is (inr (refuses, part)) spelled = of_none refuses (spelled ∙ rw part refl)

    its_asked : (program : Text) (words : List Text) → asked_among spellings (program ∷ g.name ∷ words) ≡ asked_in_words words (spelling_in c)
    its_asked program words = ap (option_and_then (asked_in_words words)) (spelling_is cs g.name ∙ ap (option_map spelling_in) named)

    its_spells : (program : Text) (words : List Text) → list_all is_word words ≡ true
        → SpellsBy cs (fault_of (line_app spellings) (program ∷ g.name ∷ words)) (subcommand_of (line_app spellings) (program ∷ g.name ∷ words))
        (asked_among spellings (program ∷ g.name ∷ words))
    its_spells program words are =
        let fails : fault_of (line_app spellings) (program ∷ g.name ∷ words) ≡ tail_fault g (at idle 1 nothing_held) words =
        ap (λ (a : App). built_fault a nothing_held (g.name ∷ words)) whole_is ∙ its_fault words in
        let stops : subcommand_of (line_app spellings) (program ∷ g.name ∷ words) ≡ Some (g.name, end_rows g (at idle 1 nothing_held) words) =
        ap (λ (a : App). entered a (stop_after a.top.rules (names_of a) (g.name ∷ words))) whole_is ∙ its_stop words in
        by_answer _ _ _ (end_rows g (at idle 1 nothing_held) words) (uses_from g.syntax words g.syntax.places None) stops
        (subst (λ (k : Kinds). Answers g [] k (end_rows g (at idle 1 nothing_held) words) (uses_from g.syntax words g.syntax.places None)) (sym fails) (walk_answers g words are))
        (its_asked program words)

  -- ---- another word, or none

  no_name : (word : Text) → spoken_of cs word ≡ None → subcommand_met names idle word ≡ None
  no_name word none = met_as word ∙ ap (option_map (λ (d : Spoken A). d.grammar.name)) none

  stray_turn : (x : ℕ) (xs : Text) → (x == 45) ≡ false → turn_by (x ∷ xs) None ≡ kind.UnknownArgument ∷ kind.InvalidSubcommand ∷ []
  stray_turn x xs plain = rw (plain, short_none x xs plain) refl

  other_turn : (word : Text) → is_word word ≡ true → turn_by word None ≡ [] → ⊥
  other_turn word is = elim (form word is) [
    | argument x xs e plain ↦
        subst (λ (w : Text). turn_by w None ≡ [] → ⊥) (sym e)
        (λ none. let bad : kind.UnknownArgument ∷ kind.InvalidSubcommand ∷ [] ≡ [] = sym (stray_turn x xs plain) ∙ none in cc)
    | optional y ys e ↦
        subst (λ (w : Text). turn_by w None ≡ [] → ⊥) (sym e) (λ none. let bad : kind.UnknownArgument ∷ [] ≡ [] = none in cc)
  ]

  -- what fails where the word names no command
  other_fails : (word : Text) (words : List Text) → is_word word ≡ true → spoken_of cs word ≡ None → built_fault whole nothing_held (word ∷ words) ≡ [] → ⊥
  unfolding walk_fault
  other_fails word words is none =
      not_empty _ _ (not_empty _ _ (subst (λ (k : Kinds). k ≡ [] → ⊥) (sym (turn_is word ∙ ap (turn_by word) (no_name word none))) (other_turn word is)))

  other_spells : (program word : Text) (words : List Text) → is_word word ≡ true → spoken_of cs word ≡ None
      → SpellsBy cs (fault_of (line_app spellings) (program ∷ word ∷ words)) (subcommand_of (line_app spellings) (program ∷ word ∷ words))
      (asked_among spellings (program ∷ word ∷ words))
  other_spells program word words is none = of_none
      (λ e. other_fails word words is none (sym (ap (λ (app : App). built_fault app nothing_held (word ∷ words)) whole_is) ∙ e))
      (ap (option_and_then (asked_in_words words)) (spelling_is cs word ∙ ap (option_map spelling_in) none))

  none_fault : built_fault whole nothing_held [] ≡ kind.MissingSubcommand ∷ []
  unfolding walk_fault defaults_fault
  none_fault = refl

  no_words : fault_of (line_app spellings) [] ≡ [] → ⊥
  no_words = one_kind _ kind.MissingSubcommand (ap (λ (a : App). built_fault a nothing_held []) whole_is ∙ none_fault)

  abbrev Spells : List Text → Type 0
  Spells words = SpellsBy cs (fault_of (line_app spellings) words) (subcommand_of (line_app spellings) words) (asked_among spellings words)

  -- what `clap` makes of the words is what they ask for
  pub spells : (words : List Text) → list_all is_word (drop 1 words) ≡ true → Spells words
  spells [] are = of_none no_words refl
  spells (program ∷ []) are = of_none no_words refl
  spells (program ∷ command ∷ words) are = by (spoken_of cs command) refl
    where
      parts : (is_word command ≡ true) × (list_all is_word words ≡ true)
      parts = and_parts (is_word command) (list_all is_word words) are

      by : (o : Option (Spoken A)) → spoken_of cs command ≡ o → Spells (program ∷ command ∷ words)
      by None none = other_spells program command words parts.0 none
      by (Some c) is =
          let same : c.grammar.name ≡ command = (bytes_eq-Decides c.grammar.name command).0 (found_passes (λ d. bytes_eq d.grammar.name command) cs c is) in
          let named : spoken_of cs c.grammar.name ≡ Some c = subst (λ (n : Text). spoken_of cs n ≡ Some c) (sym same) is in
          subst (λ (n : Text). Spells (program ∷ n ∷ words)) same (its_spells c named program words parts.1)
