-- A walk that is to fail, whatever words follow.
use Rattle.std.proofs.Common.{◌≡◌, ◌∙◌, ℕ, true, false, ◌==◌, List, [], ◌∷◌, Option, Some, None, sym, subst}
use Rattle.std.specs.List.{list_all}
use Rattle.clap.specs.Lexer.{name_and_value}
use Rattle.clap.specs.Walk.{Held, Waiting, Text, idle}
use Rattle.clap.specs.Faults.{settle_fault, turn_fault}
use Rattle.clap.specs.declared.error.kind.ErrorKind.TheVariants as kind
use Rattle.ro_words.specs.Uses.{is_word}
use Rattle.ro_words.proofs.Names.{AreFrom, Grammar, IsFlag, IsValued, flagged, takes_one, unmet}
use Rattle.ro_words.proofs.Once.{and_parts}
use Rattle.ro_words.proofs.Rules.{leaf}
use Rattle.ro_words.proofs.Steps.{at, place_turn, flag_fault, flag_value_fault, option_fault_at, stray_turn, tail_end, unknown_fault, valued_fault, waiting_fault}
use Rattle.ro_words.proofs.Forms.{argument, form, optional}
use Rattle.ro_words.proofs.Standing.{ForBroken, not_empty, one_kind, some_kinds}
use Rattle.ro_words.proofs.Moves.{stops}

module _ (g : Grammar) where
  -- ---- a walk that is to fail

  taking_refused : (p : ℕ) (waiting : Waiting) (word name : Text) (value : Option Text) (h : Held) → IsValued g.syntax g.rules name
      → (settle_fault g.rules false h ≡ [] → ⊥) → option_fault_at g p waiting word name value h ≡ [] → ⊥
  taking_refused p waiting word name None h valued refuses e = refuses (sym (waiting_fault g p waiting word name h valued) ∙ e)
  taking_refused p waiting word name (Some value) h valued refuses e =
      not_empty _ _ refuses (sym (valued_fault g p waiting word name value h valued) ∙ e)

  flagged_refused : (p : ℕ) (waiting : Waiting) (word name : Text) (value : Option Text) (h : Held) → IsFlag g.syntax g.rules name
      → (settle_fault g.rules false h ≡ [] → ⊥) → option_fault_at g p waiting word name value h ≡ [] → ⊥
  flagged_refused p waiting word name None h flag refuses e = not_empty _ _ refuses (sym (flag_fault g p waiting word name h flag) ∙ e)
  flagged_refused p waiting word name (Some value) h flag refuses e = one_kind _ kind.TooManyValues (flag_value_fault g p waiting word name value h flag) e

  pub option_refused : (p : ℕ) (waiting : Waiting) (word name : Text) (value : Option Text) (h : Held)
      → (settle_fault g.rules false h ≡ [] → ⊥) → option_fault_at g p waiting word name value h ≡ [] → ⊥
  option_refused p waiting word name value h refuses = elim (g.known name) [
    | takes_one valued ↦ taking_refused p waiting word name value h valued refuses
    | flagged flag ↦ flagged_refused p waiting word name value h flag refuses
    | unmet takes flag unknown ↦ one_kind _ kind.UnknownArgument (unknown_fault g p waiting word name value h unknown)
  ]

  plain_refused : (left : List Text) (p : ℕ) (h : Held) (x : ℕ) (xs : Text) → (x == 45) ≡ false → AreFrom g.syntax g.rules left p
      → (settle_fault g.rules false h ≡ [] → ⊥) → turn_fault (leaf g.name g.rules) [] (at idle p h) (x ∷ xs) ≡ [] → ⊥
  plain_refused [] p h x xs plain from refuses = one_kind _ kind.UnknownArgument (stray_turn g p h x xs plain from)
  plain_refused (name ∷ left) p h x xs plain from refuses = λ e. refuses (sym (place_turn g p h x xs name left plain from.0) ∙ e)

  broken_word : (left : List Text) (p : ℕ) (h : Held) (word : Text) → is_word word ≡ true → AreFrom g.syntax g.rules left p
      → (settle_fault g.rules false h ≡ [] → ⊥) → turn_fault (leaf g.name g.rules) [] (at idle p h) word ≡ [] → ⊥
  broken_word left p h word is from refuses = elim (form word is) [
    | argument x xs e plain ↦
        subst (λ (w : Text). turn_fault (leaf g.name g.rules) [] (at idle p h) w ≡ [] → ⊥) (sym e) (plain_refused left p h x xs plain from refuses)
    | optional y ys e ↦
        subst (λ (w : Text). turn_fault (leaf g.name g.rules) [] (at idle p h) w ≡ [] → ⊥) (sym e)
        (option_refused p idle (45 ∷ 45 ∷ y ∷ ys) (name_and_value (y ∷ ys)).0 (name_and_value (y ∷ ys)).1 h refuses)
  ]

  pub broken : (words : List Text) → list_all is_word words ≡ true → ForBroken g words
  broken [] are left p h from refuses = some_kinds _ _ _ (tail_end g (at idle p h)) refuses
  broken (word ∷ words) are left p h from refuses =
      stops g (at idle p h) word words (broken_word left p h word (and_parts (is_word word) (list_all is_word words) are).0 from refuses)
