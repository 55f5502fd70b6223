-- What is read of the matches is what the words ask for.
use Rattle.std.proofs.Common.{◌≡◌, ◌∙◌, ◌⊎◌, Bool, true, false, not, List, [], ◌∷◌, ◌++◌, Option, Some, None, refl, ap, sym, subst, codes, drop, inl, inr}
use Rattle.std.specs.Prelude.{map, option_and_then, option_map, Result, Ok, Err, IfErr, IfOk}
use Rattle.std.specs.Result.{result_ok}
use Rattle.std.specs.List.{AllByRecursion, list_all}
use Rattle.std.specs.Str.{bytes_eq}
use Rattle.std.proofs.lemmas.Bool.{cases_Bool, or_parts}
use Rattle.std.proofs.lemmas.Slice.Eq.{bytes_eq-Decides}
use Rattle.clap.specs.Faults.{fault_of}
use Rattle.clap.specs.Kinds.{Kinds}
use Rattle.clap.specs.Matches.{first_value, one_text}
use Rattle.clap.specs.Simple.{App, subcommand_of}
use Rattle.clap.specs.Values.{bool_text}
use Rattle.clap.specs.Walk.{Row, first_of, has_row, one_of, row_text, rows_of, with_default}
use Rattle.clap.specs.declared.parser.matches.Found.{Found}
use Rattle.clap.proofs.WalkLemmas.{first_value-rows, one_text-rows}
use Rattle.ro_words.specs.Commands.{asked_among}
use Rattle.ro_words.specs.Grammar.{line_app}
use Rattle.ro_words.specs.Uses.{Text, Use, flags_in, is_used, is_word, text_of}
use Rattle.ro_words.specs.declared.commands.WordsError.{WordsError}
use Rattle.ro_words.specs.declared.commands.WordsError.TheVariants.{NoMemory}
use Rattle.ro_words.proofs.Ends.{default_row, final_rows, first-final, flag_is, flags-find, found_under, one-find}
use Rattle.ro_words.proofs.Names.{are_apart, with_flags}
use Rattle.ro_words.proofs.Once.{and_parts, differ_twice, flag_text, is_of, not_true}
use Rattle.ro_words.proofs.Rules.{flag_built}
use Rattle.ro_words.proofs.Refused.{AreNamed, refused}
use Rattle.ro_words.proofs.Rows.{rows}
use Rattle.ro_words.proofs.Spelled.{SpellsBy, Spoken, found_has, of_none, of_one, spelling_in, spells}

-- the matches of a command, read by their rows
pub inner_rows : (inner : Option (Text × List Row)) (name : Text) (found expected : List Row) → inner ≡ Some (name, expected)
    → option_map (λ p. p.1) inner ≡ Some found → found ≡ expected
inner_rows inner name found expected is has = let both : Some found ≡ Some expected = sym has ∙ ap (option_map (λ (p : Text × List Row). p.1)) is in cc

same_given : (f : Found) (expected : List Row) → rows_of f ≡ expected → first_value f ≡ (λ name. first_of name expected)
same_given f expected is =
    let given : (name : Text) → first_value f name ≡ first_of name expected = λ name. first_value-rows f name ∙ ap (first_of name) is in
    λ i name. given name i

-- what is read of the texts that are given, by the rows
pub read_given : {A : Type 0} (f : Found) (expected : List Row) (o : Option A) (asks : (Text → Option Text) → (Text → Bool) → Option A) (flags : Text → Bool)
    → rows_of f ≡ expected → o ≡ asks (first_value f) flags → o ≡ asks (λ name. first_of name expected) flags
read_given f expected o asks flags is reads = reads ∙ ap (λ (g : Text → Option Text). asks g flags) (same_given f expected is)

-- what is read of a flag, by the rows
pub flag_read : (f : Found) (expected : List Row) (name text : Text) → rows_of f ≡ expected → one_of name expected ≡ Some text → one_text f name ≡ Some text
flag_read f expected name text is used = one_text-rows f name ∙ ap (one_of name) is ∙ used

-- ---- the flags at the end

-- the rows say of each flag whether it was used
abbrev pub FlagsAre : List Text → List Row → (used : Text → Bool) → Type 0
FlagsAre flags ends used = AllByRecursion (λ name. one_of name ends ≡ Some (bool_text (used name))) flags

-- what the row under a flag's name says, or its default
abbrev said_by : Option Row → Option Text
said_by None = Some (codes "false")
said_by (Some r) = row_text r

is_found : (name : Text) (xs : List Row) → has_row name xs ≡ true → one_of name xs ≡ said_by (found_under name xs)
is_found name [] has = cc
is_found name (x ∷ xs) has = elim (cases_Bool (bytes_eq x.id name)) [
  | inl same ↦ rw same refl
  | inr other ↦ let later : has_row name xs ≡ true = rw other at has in rw other (is_found name xs later)
]

is_last : (name : Text) (xs : List Row) → has_row name xs ≡ false → one_of name (xs ++ default_row name ∷ []) ≡ said_by (found_under name xs)
is_last name [] none = rw ((bytes_eq-Decides name name).1 refl) refl
is_last name (x ∷ xs) none = let parts = or_parts (bytes_eq x.id name) (has_row name xs) none in rw parts.0 (is_last name xs parts.1)

one_with : (name : Text) (xs : List Row) → one_of name (with_default xs (flag_built name)) ≡ said_by (found_under name xs)
one_with name xs = elim (flag_is name xs) [
  | inl (has, is) ↦ ap (one_of name) is ∙ is_found name xs has
  | inr (none, is) ↦ ap (one_of name) is ∙ is_last name xs none
]

-- the text of a flag is `true`
flag_true : (all : List Text) (name : Text) (u : Use) → is_of all name ≡ true → bytes_eq u.0 name ≡ true → flag_text all u ≡ true → bytes_eq u.1 (codes "true") ≡ true
flag_true all name u among same text =
    let here : is_of all u.0 ≡ true = subst (λ (n : Text). is_of all n ≡ true) (sym ((bytes_eq-Decides u.0 name).0 same)) among in
    rw here at text

used_said : (all : List Text) (name : Text) (us : List Use) → is_of all name ≡ true → list_all (flag_text all) us ≡ true
    → said_by (found_under name (rows us)) ≡ Some (bool_text (is_used name us))
used_said all name [] among texts = refl
used_said all name (u ∷ us) among texts = elim (cases_Bool (bytes_eq u.0 name)) [
  | inl same ↦
      let text = flag_true all name u among same (and_parts (flag_text all u) (list_all (flag_text all) us) texts).0 in
      rw same (ap (λ (t : Text). Some t) ((bytes_eq-Decides u.1 (codes "true")).0 text))
  | inr other ↦ rw other (used_said all name us among (and_parts (flag_text all u) (list_all (flag_text all) us) texts).1)
]

-- flags of which each is found under its name as the uses have it
abbrev AreFound : (all : List Text) → List Use → List Row → (flags : List Text) → Type 0
AreFound all us xs flags = AllByRecursion (λ name. (is_of all name ≡ true) × (found_under name xs ≡ found_under name (rows us))) flags

found_first : (all flags : List Text) (us : List Use) → AllByRecursion (λ name. is_of all name ≡ true) flags → AreFound all us (rows us) flags
found_first all [] us among = tt
found_first all (name ∷ flags) us among = ((among.0, refl), found_first all flags us among.1)

-- the default of another flag changes nothing
found_more : (all flags : List Text) (flag : Text) (us : List Use) (xs : List Row) → is_of flags flag ≡ false → AreFound all us xs flags
    → AreFound all us (with_default xs (flag_built flag)) flags
found_more all [] flag us xs apart are = tt
found_more all (name ∷ flags) flag us xs apart are =
    let parts = or_parts (bytes_eq name flag) (is_of flags flag) apart in
    ((are.0.0, one-find flag name xs (differ_twice name flag parts.0) ∙ are.0.1), found_more all flags flag us xs parts.1 are.1)

flags_are : (all flags : List Text) (us : List Use) (xs : List Row) → are_apart flags ≡ true → list_all (flag_text all) us ≡ true → AreFound all us xs flags
    → FlagsAre flags (with_flags flags xs) (flags_in us)
flags_are all [] us xs apart texts are = tt
flags_are all (flag ∷ flags) us xs apart texts are =
    let parts = and_parts (not (is_of flags flag)) (are_apart flags) apart in
    let alone = not_true (is_of flags flag) parts.0 in (
      ap (option_and_then row_text) (flags-find flags flag (with_default xs (flag_built flag)) alone) ∙ one_with flag xs ∙ ap said_by are.0.1
          ∙ used_said all flag us are.0.0 texts,
      flags_are all flags us (with_default xs (flag_built flag)) parts.1 texts (found_more all flags flag us xs alone are.1),
    )

-- ---- what the words ask for

module _ {A : Type 0} where
  -- what is read of the rows of the command is what it asks for
  abbrev pub ReadsAs : (found : Option (Text × List Row)) (read : Option A) → Spoken A → Type 0
  ReadsAs found read c = (ends : List Row) (flags : Text → Bool) → found ≡ Some (c.grammar.name, ends) → FlagsAre c.grammar.syntax.flags ends flags
      → read ≡ c.given (λ name. first_of name ends) flags

  read_as_spelled : (cs : List (Spoken A)) (kinds : Kinds) (inner found : Option (Text × List Row)) (asked read : Option A) → SpellsBy cs kinds inner asked
      → kinds ≡ [] → found ≡ inner → AllByRecursion (ReadsAs found read) cs → read ≡ asked
  read_as_spelled cs kinds inner found asked read (of_none refuses none) passes is reads = absurd (refuses passes)
  read_as_spelled cs kinds inner found asked read (of_one by) passes is reads =
      let c = by.command in
      let all = c.grammar.syntax.flags in
      let said = flags_are all all by.uses (rows by.uses) c.grammar.flags_apart by.flags (found_first all all by.uses c.grammar.flags_are) in
      found_has (ReadsAs found read) _ cs c reads by.named (final_rows c.grammar by.uses) (flags_in by.uses) (is ∙ by.ends) said
      ∙ c.alike _ (text_of by.uses) (flags_in by.uses) (λ name other. first-final c.grammar name by.uses other) ∙ sym by.spelled

  refused_by : (cs : List (Spoken A)) (kinds : Kinds) (inner : Option (Text × List Row)) (asked : Option A) → SpellsBy cs kinds inner asked → (kinds ≡ [] → ⊥) → asked ≡ None
  refused_by cs kinds inner asked (of_none refuses none) bad = none
  refused_by cs kinds inner asked (of_one by) bad = absurd (bad by.passes)

  -- a parse that succeeded is read as what the words ask for
  pub read_words : (cs : List (Spoken A)) (words : List Text) (app : App) (found : Option (Text × List Row)) (read : Option A) → app ≡ line_app (map spelling_in cs)
      → list_all is_word (drop 1 words) ≡ true → fault_of app words ≡ [] → found ≡ subcommand_of app words → AllByRecursion (ReadsAs found read) cs
      → read ≡ asked_among (map spelling_in cs) words
  read_words cs words app found read app_is are passes is reads =
      read_as_spelled cs _ _ found _ read (spells cs words are) (ap (λ (a : App). fault_of a words) (sym app_is) ∙ passes)
      (is ∙ ap (λ (a : App). subcommand_of a words) app_is) reads

  -- one that failed for no cause of memory was of words that ask for nothing
  pub refused_words : (cs : List (Spoken A)) (words : List Text) (app : App) (e : WordsError) → AreNamed cs → app ≡ line_app (map spelling_in cs)
      → (e ≡ NoMemory) ⊎ (list_all is_word (drop 1 words) ≡ true → fault_of app words ≡ [] → ⊥) → (e ≡ NoMemory) ⊎ (asked_among (map spelling_in cs) words ≡ None)
  refused_words cs words app e named app_is (inl memory) = inl memory
  refused_words cs words app e named app_is (inr refuses) = inr (elim (cases_Bool (list_all is_word (drop 1 words))) [
    | inl are ↦ refused_by cs _ _ _ (spells cs words are) (λ passes. refuses are (ap (λ (a : App). fault_of a words) app_is ∙ passes))
    | inr bad ↦ refused cs words named bad
  ])

-- what is handed back
pub given_ok : {C A : Type 0} (by : C → A) (o : Option C) (r : Result C WordsError) (asked : Option A) → o ≡ result_ok r → option_map by o ≡ asked
    → IfOk r (λ c. asked ≡ Some (by c))
given_ok by o (Ok c) asked from is = sym is ∙ ap (option_map by) from
given_ok by o (Err e) asked from is = tt

pub given_refused : {C A : Type 0} (by : C → A) (o : Option C) (r : Result C WordsError) (asked : Option A) → o ≡ result_ok r → option_map by o ≡ asked
    → IfErr r (λ e. (e ≡ NoMemory) ⊎ (asked ≡ None))
given_refused by o (Ok c) asked from is = tt
given_refused by o (Err e) asked from is = inr (sym is ∙ ap (option_map by) from)
