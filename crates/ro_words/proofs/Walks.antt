-- The walk of `clap` over the words behind a command's name comes to the uses that the words spell.
use Rattle.std.proofs.Common.{◌≡◌, ◌∙◌, ℕ, Bool, true, false, ◌==◌, List, [], ◌∷◌, ◌++◌, Some, None, refl, ap, sym, subst, inl, inr}
use Rattle.std.specs.Prelude.{if◌then◌else◌}
use Rattle.std.specs.List.{list_all, list_any}
use Rattle.std.proofs.lemmas.Bool.{cases_Bool}
use Rattle.std.proofs.lemmas.List.{append-nil}
use Rattle.clap.specs.Lexer.{name_and_value}
use Rattle.clap.specs.Walk.{Held, Row, finished, Text, idle, nothing_held, option, settled}
use Rattle.clap.specs.Faults.{check_fault, settle_fault}
use Rattle.clap.specs.declared.error.kind.ErrorKind.TheVariants as kind
use Rattle.ro_words.specs.Uses.{Use, is_used, is_word, required_of, uses_from, with_use}
use Rattle.ro_words.proofs.Names.{Grammar, IsValued, with_flags}
use Rattle.ro_words.proofs.Once.{and_parts}
use Rattle.ro_words.proofs.Ends.{check_is, final_rows, required_given}
use Rattle.ro_words.proofs.Rows.{first_use, rows, second_use}
use Rattle.ro_words.proofs.Rules.{leaf}
use Rattle.ro_words.proofs.Steps.{at, end_rows, tail_end, tail_fault, value_turn, value_walked}
use Rattle.ro_words.proofs.Forms.{argument, form, optional}
use Rattle.ro_words.proofs.Standing.{Answers, AnswersAll, Before, ForIdle, ForWaiting, Stands, answers_more, answers_twice, before_valued, has_rows, one_kind, rows_more, some_kinds}
use Rattle.ro_words.proofs.Moves.{goes_on, idle_word, stops}
use Rattle.ro_words.proofs.Failing.{broken, option_refused}

none_used : (left : List Text) → list_any (λ place. is_used place []) left ≡ false
none_used [] = refl
none_used (place ∷ left) = none_used left

module _ (g : Grammar) where
  -- ---- a word where an option has yet to get its value

  waiting_plain : (words : List Text) → list_all is_word words ≡ true → ForIdle g words → (us : List Use) (left : List Text) (p : ℕ) (h : Held) (name : Text)
      → (x : ℕ) (xs : Text) → (x == 45) ≡ false → Before g us left p → h.rows ≡ rows us → h.pending ≡ Some (name, []) → IsValued g.syntax g.rules name
      → Answers g us (tail_fault g (at (option name) p h) ((x ∷ xs) ∷ words)) (end_rows g (at (option name) p h) ((x ∷ xs) ∷ words))
      (uses_from g.syntax ((x ∷ xs) ∷ words) left (Some name))
  waiting_plain words are after us left p h name x xs plain before is pending valued =
      goes_on g us (at (option name) p h) _ (x ∷ xs) words _ (with_use (name, x ∷ xs) (uses_from g.syntax words left None))
      (value_turn g name p h x xs plain) (value_walked g name p h x xs valued plain pending) (rw plain refl)
      (elim (cases_Bool (is_used name us)) [
        | inl used ↦
            let again = second_use name (Some name) None valued.required (x ∷ xs) h.rows (has_rows name us _ true is used) in
            let fails : settle_fault g.rules false (record h { pending = Some (name, (x ∷ xs) ∷ []) }) ≡ kind.ArgumentConflict ∷ [] = rw valued.by_id again in
            answers_twice g us (name, x ∷ xs) _ _ (uses_from g.syntax words left None) used
            (broken g words are left p _ before.from (one_kind _ kind.ArgumentConflict fails))
        | inr unused ↦
            let first = first_use name (Some name) None valued.required (x ∷ xs) h.rows (has_rows name us _ false is unused) in
            let next : Stands g (us ++ (name, x ∷ xs) ∷ []) left p (record h { pending = Some (name, (x ∷ xs) ∷ []) }) = record {
              before = before_valued g us left p name (x ∷ xs) before unused valued;
              fault = rw valued.by_id first.0;
              is = rw valued.by_id (first.1 ∙ rows_more us (name, x ∷ xs) _ is);
            } in
            answers_more g us (name, x ∷ xs) _ _ (uses_from g.syntax words left None) (after _ _ _ _ next)
      ])

  -- the option that has no value
  unfilled : (h : Held) (name : Text) → h.pending ≡ Some (name, []) → IsValued g.syntax g.rules name → settle_fault g.rules false h ≡ kind.InvalidValue ∷ []
  unfilled h name pending valued = rw (pending, valued.by_id) refl

  waiting_word : (words : List Text) → list_all is_word words ≡ true → ForIdle g words → (word : Text) → is_word word ≡ true → ForWaiting g (word ∷ words)
  waiting_word words are after word is us left p h name before rows_are pending valued = elim (form word is) [
    | argument x xs e plain ↦
        subst (λ (w : Text). Answers g us (tail_fault g (at (option name) p h) (w ∷ words)) (end_rows g (at (option name) p h) (w ∷ words)) (uses_from g.syntax (w ∷ words) left (Some name)))
        (sym e) (waiting_plain words are after us left p h name x xs plain before rows_are pending valued)
    | optional y ys e ↦
        subst (λ (w : Text). Answers g us (tail_fault g (at (option name) p h) (w ∷ words)) (end_rows g (at (option name) p h) (w ∷ words)) (uses_from g.syntax (w ∷ words) left (Some name)))
        (sym e) (stops g (at (option name) p h) (45 ∷ 45 ∷ y ∷ ys) words
        (option_refused g p (option name) (45 ∷ 45 ∷ y ∷ ys) (name_and_value (y ∷ ys)).0 (name_and_value (y ∷ ys)).1 h
        (one_kind _ kind.InvalidValue (unfilled h name pending valued))))
  ]

  waiting_end : ForWaiting g []
  waiting_end us left p h name before is pending valued =
      some_kinds _ _ _ (tail_end g (at (option name) p h)) (one_kind _ kind.InvalidValue (unfilled h name pending valued))

  -- ---- the end of the words

  end_is : (us : List Use) (h : Held) → (settled g.rules h).rows ≡ rows us → finished g.rules h ≡ final_rows g us
  end_is us h is = g.ends (settled g.rules h).rows ∙ ap (with_flags g.syntax.flags) is

  -- what must be there was used
  abbrev is_full : List Use → Bool
  is_full us = list_all (λ n. is_used n us) (required_of g.syntax)

  end_fault : (us : List Use) (left : List Text) (p : ℕ) (h : Held) → Stands g us left p h
      → tail_fault g (at idle p h) [] ≡ (if is_full us then [] else kind.MissingRequiredArgument ∷ [])
  end_fault us left p h stands =
      tail_end g (at idle p h) ∙ rw (stands.fault, g.passes (settled g.rules h).rows) (ap (λ (l : List Row). check_fault (leaf g.name g.rules) l false) (end_is us h stands.is)
      ∙ check_is g (final_rows g us) ∙ ap (λ (b : Bool). if b then [] else kind.MissingRequiredArgument ∷ []) (required_given g us))

  idle_end : ForIdle g []
  idle_end us left p h stands = subst (λ (all : List Use). AnswersAll g all (tail_fault g (at idle p h) []) (end_rows g (at idle p h) [])) (sym (append-nil us))
      (elim (cases_Bool (is_full us)) [
        | inl used ↦
            inl (end_fault us left p h stands ∙ rw used refl, rw (stands.before.once, used) refl, stands.before.flags, end_is us h stands.is)
        | inr unused ↦
            inr (one_kind _ kind.MissingRequiredArgument (end_fault us left p h stands ∙ rw unused refl), rw (stands.before.once, unused) refl)
      ])

  -- ---- all words

  all_words : (words : List Text) → list_all is_word words ≡ true → ForIdle g words × ForWaiting g words
  all_words [] are = (idle_end, waiting_end)
  all_words (word ∷ words) are =
      let parts = and_parts (is_word word) (list_all is_word words) are in
      let after = all_words words parts.1 in
      (idle_word g words after.0 after.1 word parts.0, waiting_word words parts.1 after.0 word parts.0)

  pub walk_answers : (words : List Text) → list_all is_word words ≡ true
      → Answers g [] (tail_fault g (at idle 1 nothing_held) words) (end_rows g (at idle 1 nothing_held) words) (uses_from g.syntax words g.syntax.places None)
  walk_answers words are = (all_words words are).0 [] g.syntax.places 1 nothing_held (record {
    before = record { once = refl; flags = refl; unused = none_used g.syntax.places; from = g.from };
    fault = refl;
    is = refl;
  })
