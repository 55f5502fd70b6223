-- One more word of the walk, where no option waits for its value.
use Rattle.std.proofs.Common.{◌≡◌, ◌∙◌, ℕ, ◌+◌, true, false, ◌==◌, List, [], ◌∷◌, ◌++◌, Option, Some, None, refl, ap, sym, subst, codes, inl, inr}
use Rattle.std.specs.Option.{option_map_or}
use Rattle.std.proofs.lemmas.Bool.{cases_Bool, or_parts}
use Rattle.std.specs.List.{list_any}
use Rattle.clap.specs.Lexer.{name_and_value}
use Rattle.clap.specs.Walk.{Held, arg_by_long, Text, Walk, idle, pushed, reacted, settled, walked}
use Rattle.clap.specs.Faults.{turn_fault}
use Rattle.clap.specs.Kinds.{Kinds, or_else}
use Rattle.clap.specs.declared.error.kind.ErrorKind.TheVariants as kind
use Rattle.ro_words.specs.Uses.{Use, is_argument, is_flag, is_used, is_word, option_uses, takes_value, uses_from, with_use}
use Rattle.ro_words.proofs.Names.{Grammar, IsFlag, IsValued, flagged, takes_one, unmet}
use Rattle.ro_words.proofs.Rows.{first_flag, first_use, second_flag, second_use}
use Rattle.ro_words.proofs.Rules.{flag_built, leaf, option_built}
use Rattle.ro_words.proofs.Steps.{at, end_rows, place_turn, place_walked, flag_fault, flag_value_fault, flag_walked, option_fault_at, option_walked, option_walked_at, stray_turn, tail_fault, tail_more, unknown_fault, valued_fault, valued_walked, waiting_fault, waiting_walked}
use Rattle.ro_words.proofs.Forms.{argument, form, optional}
use Rattle.ro_words.proofs.Standing.{Answers, ForIdle, ForWaiting, Stands, answers_as, answers_more, answers_twice, before_place, before_flag, before_valued, has_rows, one_kind, rows_more, some_kinds}

module _ (g : Grammar) where
  -- ---- one word

  -- what is left after a word that fails by nothing
  pub goes_on : (us : List Use) (w next : Walk) (word : Text) (words : List Text) (r q : Option (List Use)) → turn_fault (leaf g.name g.rules) [] w word ≡ []
      → walked g.rules [] w word ≡ next → r ≡ q → Answers g us (tail_fault g next words) (end_rows g next words) q
      → Answers g us (tail_fault g w (word ∷ words)) (end_rows g w (word ∷ words)) r
  goes_on us w next word words r q passes moves read h =
      answers_as g us _ (tail_fault g next words) _ (end_rows g next words) r q
      (tail_more g w word words ∙ ap (λ (k : Kinds). or_else k (tail_fault g (walked g.rules [] w word) words)) passes
      ∙ ap (λ (n : Walk). tail_fault g n words) moves)
      (ap (λ (n : Walk). end_rows g n words) moves) read h

  -- a word that fails by something
  pub stops : (w : Walk) (word : Text) (words : List Text) → (turn_fault (leaf g.name g.rules) [] w word ≡ [] → ⊥) → tail_fault g w (word ∷ words) ≡ [] → ⊥
  stops w word words refuses = some_kinds _ _ _ (tail_more g w word words) refuses

  plain_word : (words : List Text) → ForIdle g words → (us : List Use) (left : List Text) (p : ℕ) (h : Held) (x : ℕ) (xs : Text) → (x == 45) ≡ false → Stands g us left p h
      → Answers g us (tail_fault g (at idle p h) ((x ∷ xs) ∷ words)) (end_rows g (at idle p h) ((x ∷ xs) ∷ words)) (uses_from g.syntax ((x ∷ xs) ∷ words) left None)
  plain_word words after us [] p h x xs plain stands =
      answers_as g us _ _ _ _ _ None refl refl (rw plain refl)
      (stops (at idle p h) (x ∷ xs) words (one_kind _ kind.UnknownArgument (stray_turn g p h x xs plain stands.before.from)))
  plain_word words after us (name ∷ left) p h x xs plain stands =
      let place = stands.before.from.0 in
      let unused = (or_parts (is_used name us) (list_any (λ n. is_used n us) left) stands.before.unused).0 in
      let first = first_use name None (Some p) true (x ∷ xs) (settled g.rules h).rows (has_rows name us _ false stands.is unused) in
      let next : Stands g (us ++ (name, x ∷ xs) ∷ []) left (p + 1) (pushed name (x ∷ xs) (settled g.rules h)) = record {
        before = before_place g us name (x ∷ xs) left p stands.before;
        fault = rw place.by_id first.0;
        is = rw place.by_id (first.1 ∙ rows_more us (name, x ∷ xs) _ stands.is);
      } in
      goes_on us (at idle p h) _ (x ∷ xs) words _ (with_use (name, x ∷ xs) (uses_from g.syntax words left None))
      (place_turn g p h x xs name left plain place ∙ stands.fault) (place_walked g p h x xs name left plain place) (rw plain refl)
      (answers_more g us (name, x ∷ xs) _ _ (uses_from g.syntax words left None) (after _ _ _ _ next))

  -- the same of `--name` and `--name=value`, by the name and the value
  abbrev AnswersOption : List Use → List Text → ℕ → Text → Text → Option Text → Held → List Text → Type 0
  AnswersOption us left p word name value h words = Answers g us
      (or_else (option_fault_at g p idle word name value h) (tail_fault g (option_walked_at g p idle word name value h) words))
      (end_rows g (option_walked_at g p idle word name value h) words)
      (option_uses g.syntax name value (λ next. uses_from g.syntax words left next))

  -- the option fails by nothing
  option_on : (us : List Use) (left : List Text) (p : ℕ) (word name : Text) (value : Option Text) (h : Held) (words : List Text) (next : Walk) (q : Option (List Use))
      → option_fault_at g p idle word name value h ≡ [] → option_walked_at g p idle word name value h ≡ next
      → option_uses g.syntax name value (λ after. uses_from g.syntax words left after) ≡ q → Answers g us (tail_fault g next words) (end_rows g next words) q
      → AnswersOption us left p word name value h words
  option_on us left p word name value h words next q passes moves read here =
      answers_as g us _ (tail_fault g next words) _ (end_rows g next words) _ q
      (ap (λ (k : Kinds). or_else k (tail_fault g (option_walked_at g p idle word name value h) words)) passes ∙ ap (λ (n : Walk). tail_fault g n words) moves)
      (ap (λ (n : Walk). end_rows g n words) moves) read here

  unmet_option : (us : List Use) (left : List Text) (p : ℕ) (word name : Text) (value : Option Text) (h : Held) (words : List Text) → takes_value g.syntax name ≡ false
      → is_flag g.syntax name ≡ false → arg_by_long g.rules name ≡ None → AnswersOption us left p word name value h words
  unmet_option us left p word name value h words takes flag unknown =
      answers_as g us _ _ _ _ _ None refl refl (none_read value)
      (some_kinds _ _ _ refl (one_kind _ kind.UnknownArgument (unknown_fault g p idle word name value h unknown)))
    where
      none_read : (v : Option Text) → option_uses g.syntax name v (λ after. uses_from g.syntax words left after) ≡ None
      none_read None = rw (takes, flag) refl
      none_read (Some v) = rw takes refl

  valued_option : (us : List Use) (left : List Text) (p : ℕ) (word name value : Text) (h : Held) (words : List Text) → IsValued g.syntax g.rules name → is_argument value ≡ true
      → Stands g us left p h → ForIdle g words → AnswersOption us left p word name (Some value) h words
  valued_option us left p word name value h words valued fits stands after = elim (cases_Bool (is_used name us)) [
    | inl used ↦
        let again = second_use name (Some name) None valued.required value (settled g.rules h).rows (has_rows name us _ true stands.is used) in
        answers_as g us _ _ _ _ _ (with_use (name, value) (uses_from g.syntax words left None)) refl refl (rw (valued.takes, fits) refl)
        (answers_twice g us (name, value) _ _ (uses_from g.syntax words left None) used (some_kinds _ _ _ refl
        (one_kind _ kind.ArgumentConflict (valued_fault g p idle word name value h valued ∙ rw (stands.fault, again) refl))))
    | inr unused ↦
        let first = first_use name (Some name) None valued.required value (settled g.rules h).rows (has_rows name us _ false stands.is unused) in
        let next : Stands g (us ++ (name, value) ∷ []) left p (reacted g.rules (option_built name valued.required) (value ∷ []) h) = record {
          before = before_valued g us left p name value stands.before unused valued;
          fault = refl;
          is = first.1 ∙ rows_more us (name, value) _ stands.is;
        } in
        option_on us left p word name (Some value) h words _ (with_use (name, value) (uses_from g.syntax words left None))
        (valued_fault g p idle word name value h valued ∙ rw (stands.fault, first.0) refl) (valued_walked g p word name value h valued)
        (rw (valued.takes, fits) refl) (answers_more g us (name, value) _ _ (uses_from g.syntax words left None) (after _ _ _ _ next))
  ]

  waiting_option : (us : List Use) (left : List Text) (p : ℕ) (word name : Text) (h : Held) (words : List Text) → IsValued g.syntax g.rules name → Stands g us left p h → ForWaiting g words
      → AnswersOption us left p word name None h words
  waiting_option us left p word name h words valued stands after =
      option_on us left p word name None h words _ (uses_from g.syntax words left (Some name)) (waiting_fault g p idle word name h valued ∙ stands.fault)
      (waiting_walked g p word name h valued) (rw valued.takes refl) (after us left p _ name stands.before stands.is refl valued)

  flag_option : (us : List Use) (left : List Text) (p : ℕ) (word name : Text) (h : Held) (words : List Text) → IsFlag g.syntax g.rules name → Stands g us left p h → ForIdle g words
      → AnswersOption us left p word name None h words
  flag_option us left p word name h words flag stands after = elim (cases_Bool (is_used name us)) [
    | inl used ↦
        let again = second_flag name (settled g.rules h).rows (has_rows name us _ true stands.is used) in
        answers_as g us _ _ _ _ _ (with_use (name, codes "true") (uses_from g.syntax words left None)) refl refl (rw (flag.takes, flag.named) refl)
        (answers_twice g us (name, codes "true") _ _ (uses_from g.syntax words left None) used (some_kinds _ _ _ refl
        (one_kind _ kind.ArgumentConflict (flag_fault g p idle word name h flag ∙ rw (stands.fault, again) refl))))
    | inr unused ↦
        let first = first_flag name (settled g.rules h).rows (has_rows name us _ false stands.is unused) in
        let next : Stands g (us ++ (name, codes "true") ∷ []) left p (reacted g.rules (flag_built name) [] h) = record {
          before = before_flag g us left p name stands.before unused flag;
          fault = refl;
          is = first.1 ∙ rows_more us (name, codes "true") _ stands.is;
        } in
        option_on us left p word name None h words _ (with_use (name, codes "true") (uses_from g.syntax words left None))
        (flag_fault g p idle word name h flag ∙ rw (stands.fault, first.0) refl) (flag_walked g p word name h flag) (rw (flag.takes, flag.named) refl)
        (answers_more g us (name, codes "true") _ _ (uses_from g.syntax words left None) (after _ _ _ _ next))
  ]

  flagged_option : (us : List Use) (left : List Text) (p : ℕ) (word name : Text) (value : Option Text) (h : Held) (words : List Text) → IsFlag g.syntax g.rules name → Stands g us left p h
      → ForIdle g words → AnswersOption us left p word name value h words
  flagged_option us left p word name None h words flag stands after = flag_option us left p word name h words flag stands after
  flagged_option us left p word name (Some value) h words flag stands after =
      answers_as g us _ _ _ _ _ None refl refl (rw flag.takes refl)
      (some_kinds _ _ _ refl (one_kind _ kind.TooManyValues (flag_value_fault g p idle word name value h flag)))

  taking_option : (us : List Use) (left : List Text) (p : ℕ) (word name : Text) (value : Option Text) (h : Held) (words : List Text) → IsValued g.syntax g.rules name
      → option_map_or is_argument value true ≡ true → Stands g us left p h → ForIdle g words → ForWaiting g words → AnswersOption us left p word name value h words
  taking_option us left p word name None h words valued fits stands after waits = waiting_option us left p word name h words valued stands waits
  taking_option us left p word name (Some value) h words valued fits stands after waits = valued_option us left p word name value h words valued fits stands after

  option_word : (us : List Use) (left : List Text) (p : ℕ) (word name : Text) (value : Option Text) (h : Held) (words : List Text)
      → option_map_or is_argument value true ≡ true → Stands g us left p h → ForIdle g words → ForWaiting g words → AnswersOption us left p word name value h words
  option_word us left p word name value h words fits stands after waits = elim (g.known name) [
    | takes_one valued ↦ taking_option us left p word name value h words valued fits stands after waits
    | flagged flag ↦ flagged_option us left p word name value h words flag stands after
    | unmet takes flag unknown ↦ unmet_option us left p word name value h words takes flag unknown
  ]

  idle_option : (words : List Text) → ForIdle g words → ForWaiting g words → (us : List Use) (left : List Text) (p : ℕ) (h : Held) (y : ℕ) (ys : Text)
      → is_word (45 ∷ 45 ∷ y ∷ ys) ≡ true → Stands g us left p h
      → Answers g us (tail_fault g (at idle p h) ((45 ∷ 45 ∷ y ∷ ys) ∷ words)) (end_rows g (at idle p h) ((45 ∷ 45 ∷ y ∷ ys) ∷ words))
      (uses_from g.syntax ((45 ∷ 45 ∷ y ∷ ys) ∷ words) left None)
  idle_option words after waits us left p h y ys is stands =
      let name = (name_and_value (y ∷ ys)).0 in
      let value = (name_and_value (y ∷ ys)).1 in
      answers_as g us _ _ _ _ _ (option_uses g.syntax name value (λ next. uses_from g.syntax words left next))
      (tail_more g (at idle p h) (45 ∷ 45 ∷ y ∷ ys) words
      ∙ ap (λ (n : Walk). or_else (turn_fault (leaf g.name g.rules) [] (at idle p h) (45 ∷ 45 ∷ y ∷ ys)) (tail_fault g n words)) (option_walked g p h y ys))
      (ap (λ (n : Walk). end_rows g n words) (option_walked g p h y ys)) refl
      (option_word us left p (45 ∷ 45 ∷ y ∷ ys) name value h words is stands after waits)

  pub idle_word : (words : List Text) → ForIdle g words → ForWaiting g words → (word : Text) → is_word word ≡ true → ForIdle g (word ∷ words)
  idle_word words after waits word is us left p h stands = elim (form word is) [
    | argument x xs e plain ↦
        subst (λ (w : Text). Answers g us (tail_fault g (at idle p h) (w ∷ words)) (end_rows g (at idle p h) (w ∷ words)) (uses_from g.syntax (w ∷ words) left None))
        (sym e) (plain_word words after us left p h x xs plain stands)
    | optional y ys e ↦
        subst (λ (w : Text). Answers g us (tail_fault g (at idle p h) (w ∷ words)) (end_rows g (at idle p h) (w ∷ words)) (uses_from g.syntax (w ∷ words) left None))
        (sym e) (idle_option words after waits us left p h y ys (subst (λ (w : Text). is_word w ≡ true) e is) stands)
  ]
