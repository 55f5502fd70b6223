-- One word of the walk that `clap` makes over the words behind a command's name.
use Rattle.std.proofs.Common.{◌≡◌, ℕ, ◌+◌, false, ◌==◌, List, [], ◌∷◌, Option, Some, None, refl, inl, inr}
use Rattle.std.specs.Prelude.{fold}
use Rattle.std.proofs.lemmas.Bool.{cases_Bool}
use Rattle.std.proofs.lemmas.Slice.Eq.{bytes_eq-Decides}
use Rattle.clap.specs.Lexer.{name_and_value, short_of}
use Rattle.clap.specs.Walk.{Held, Row, Text, Waiting, Walk, after_step, arg_by_index, arg_by_long, finished, idle, is_pending, long_word, nothing_held, option, pushed, reacted, settled, walked}
use Rattle.clap.specs.Faults.{check_fault, defaults_fault, level_fault, long_fault, settle_fault, step_fault, turn_fault, use_fault, walk_fault}
use Rattle.clap.specs.Kinds.{Kinds, or_else}
use Rattle.clap.specs.declared.error.kind.ErrorKind.TheVariants as kind
use Rattle.ro_words.proofs.Names.{Grammar, IsFlag, IsPlace, IsValued}
use Rattle.ro_words.proofs.Rules.{flag_built, leaf, option_built, place_built}

abbrev pub at : Waiting → ℕ → Held → Walk
at waiting position h = record { held = h; waiting = waiting; position = position; is_trailing = false; stopped = None }

pub or_else-assoc : (a b c : Kinds) → or_else (or_else a b) c ≡ or_else a (or_else b c)
or_else-assoc [] b c = refl
or_else-assoc (k ∷ ks) b c = refl

pub or_else-nil : (a : Kinds) → or_else a [] ≡ a
or_else-nil [] = refl
or_else-nil (k ∷ ks) = refl

-- a word that begins with no `-`
pub short_none : (x : ℕ) (xs : Text) → (x == 45) ≡ false → short_of (x ∷ xs) ≡ None
short_none x xs plain = rw plain refl

module _ (g : Grammar) where
  -- what fails after the walk
  abbrev pub after_fault : Held → Kinds
  after_fault h = or_else (settle_fault g.rules false h)
      (or_else (defaults_fault (settled g.rules h).rows g.rules) (check_fault (leaf g.name g.rules) (finished g.rules h) false))

  -- what fails from here on
  abbrev pub tail_fault : Walk → List Text → Kinds
  tail_fault w words = or_else (walk_fault (leaf g.name g.rules) [] w words) (after_fault (fold (walked g.rules []) w words).held)

  -- the rows at the end of the walk from here
  abbrev pub end_rows : Walk → List Text → List Row
  end_rows w words = finished g.rules (fold (walked g.rules []) w words).held

  pub level_is : (words : List Text) → level_fault (leaf g.name g.rules) [] nothing_held words false [] ≡ tail_fault (at idle 1 nothing_held) words
  level_is words = refl

  pub tail_more : (w : Walk) (word : Text) (words : List Text)
      → tail_fault w (word ∷ words) ≡ or_else (turn_fault (leaf g.name g.rules) [] w word) (tail_fault (walked g.rules [] w word) words)
  unfolding walk_fault
  tail_more w word words = or_else-assoc (turn_fault (leaf g.name g.rules) [] w word) _ _

  pub tail_end : (w : Walk) → tail_fault w [] ≡ after_fault w.held
  unfolding walk_fault
  tail_end w = refl

  -- ---- a word that begins with no `-`

  pub place_turn : (p : ℕ) (h : Held) (x : ℕ) (xs : Text) (name : Text) (left : List Text) → (x == 45) ≡ false → IsPlace g.syntax g.rules name p left
      → turn_fault (leaf g.name g.rules) [] (at idle p h) (x ∷ xs) ≡ settle_fault g.rules false h
  place_turn p h x xs name left plain place = elim (cases_Bool (is_pending (place_built name p) h.pending)) [
    | inl some ↦ rw (plain, short_none x xs plain, place.by_index, some) refl
    | inr none ↦ rw (plain, short_none x xs plain, place.by_index, none) refl
  ]

  pub place_walked : (p : ℕ) (h : Held) (x : ℕ) (xs : Text) (name : Text) (left : List Text) → (x == 45) ≡ false → IsPlace g.syntax g.rules name p left
      → walked g.rules [] (at idle p h) (x ∷ xs) ≡ at idle (p + 1) (pushed name (x ∷ xs) (settled g.rules h))
  unfolding walked
  place_walked p h x xs name left plain place = elim (cases_Bool (is_pending (place_built name p) h.pending)) [
    | inl some ↦ rw (plain, short_none x xs plain, place.by_index, some, place.next) refl
    | inr none ↦ rw (plain, short_none x xs plain, place.by_index, none, place.next) refl
  ]

  pub stray_turn : (p : ℕ) (h : Held) (x : ℕ) (xs : Text) → (x == 45) ≡ false → arg_by_index g.rules p ≡ None
      → turn_fault (leaf g.name g.rules) [] (at idle p h) (x ∷ xs) ≡ kind.UnknownArgument ∷ []
  stray_turn p h x xs plain none = rw (plain, short_none x xs plain, none) refl

  pub value_turn : (name : Text) (p : ℕ) (h : Held) (x : ℕ) (xs : Text) → (x == 45) ≡ false
      → turn_fault (leaf g.name g.rules) [] (at (option name) p h) (x ∷ xs) ≡ []
  value_turn name p h x xs plain = rw (plain, short_none x xs plain) refl

  pub value_walked : (name : Text) (p : ℕ) (h : Held) (x : ℕ) (xs : Text) → IsValued g.syntax g.rules name → (x == 45) ≡ false
      → h.pending ≡ Some (name, [])
      → walked g.rules [] (at (option name) p h) (x ∷ xs) ≡ at idle p (record h { pending = Some (name, (x ∷ xs) ∷ []) })
  unfolding walked
  value_walked name p h x xs valued plain pending =
      rw (plain, short_none x xs plain, valued.by_id, pending, (bytes_eq-Decides name name).1 refl) refl

  -- ---- `--name` and `--name=value`

  abbrev name_in : ℕ → Text → Text
  name_in y ys = (name_and_value (y ∷ ys)).0

  abbrev value_in : ℕ → Text → Option Text
  value_in y ys = (name_and_value (y ∷ ys)).1

  -- what fails at such a word
  abbrev pub option_fault_at : ℕ → Waiting → Text → Text → Option Text → Held → Kinds
  option_fault_at p waiting word name value h = or_else (long_fault g.rules false (arg_by_long g.rules name) value h)
      (step_fault (leaf g.name g.rules) p (long_word g.rules waiting word name value h).0 (long_word g.rules waiting word name value h).1)

  abbrev pub option_walked_at : ℕ → Waiting → Text → Text → Option Text → Held → Walk
  option_walked_at p waiting word name value h = after_step g.rules word (at waiting p h)
      (long_word g.rules waiting word name value h).0 (long_word g.rules waiting word name value h).1

  pub option_turn : (p : ℕ) (h : Held) (y : ℕ) (ys : Text) → turn_fault (leaf g.name g.rules) [] (at idle p h) (45 ∷ 45 ∷ y ∷ ys)
      ≡ option_fault_at p idle (45 ∷ 45 ∷ y ∷ ys) (name_in y ys) (value_in y ys) h
  option_turn p h y ys = refl

  pub option_after_turn : (waiting : Text) (p : ℕ) (h : Held) (y : ℕ) (ys : Text)
      → turn_fault (leaf g.name g.rules) [] (at (option waiting) p h) (45 ∷ 45 ∷ y ∷ ys)
      ≡ option_fault_at p (option waiting) (45 ∷ 45 ∷ y ∷ ys) (name_in y ys) (value_in y ys) h
  option_after_turn waiting p h y ys = refl

  pub option_walked : (p : ℕ) (h : Held) (y : ℕ) (ys : Text) → walked g.rules [] (at idle p h) (45 ∷ 45 ∷ y ∷ ys)
      ≡ option_walked_at p idle (45 ∷ 45 ∷ y ∷ ys) (name_in y ys) (value_in y ys) h
  unfolding walked
  option_walked p h y ys = refl

  -- the argument is unknown
  pub unknown_fault : (p : ℕ) (waiting : Waiting) (word name : Text) (value : Option Text) (h : Held)
      → arg_by_long g.rules name ≡ None → option_fault_at p waiting word name value h ≡ kind.UnknownArgument ∷ []
  unknown_fault p waiting word name value h unknown = rw unknown refl

  -- an option with its value
  pub valued_fault : (p : ℕ) (waiting : Waiting) (word name value : Text) (h : Held) (valued : IsValued g.syntax g.rules name)
      → option_fault_at p waiting word name (Some value) h
      ≡ or_else (settle_fault g.rules false h) (use_fault false (option_built name valued.required) (value ∷ []) (settled g.rules h).rows)
  valued_fault p waiting word name value h valued = rw valued.by_long (or_else-nil _)

  pub valued_walked : (p : ℕ) (word name value : Text) (h : Held) (valued : IsValued g.syntax g.rules name)
      → option_walked_at p idle word name (Some value) h ≡ at idle p (reacted g.rules (option_built name valued.required) (value ∷ []) h)
  valued_walked p word name value h valued = rw valued.by_long refl

  -- an option whose value follows
  pub waiting_fault : (p : ℕ) (waiting : Waiting) (word name : Text) (h : Held) → IsValued g.syntax g.rules name
      → option_fault_at p waiting word name None h ≡ settle_fault g.rules false h
  waiting_fault p waiting word name h valued = rw valued.by_long (or_else-nil _)

  pub waiting_walked : (p : ℕ) (word name : Text) (h : Held) → IsValued g.syntax g.rules name
      → option_walked_at p idle word name None h ≡ at (option name) p (record (settled g.rules h) { pending = Some (name, []) })
  waiting_walked p word name h valued = rw valued.by_long refl

  -- the flag
  pub flag_fault : (p : ℕ) (waiting : Waiting) (word name : Text) (h : Held) → IsFlag g.syntax g.rules name
      → option_fault_at p waiting word name None h
      ≡ or_else (settle_fault g.rules false h) (use_fault false (flag_built name) [] (settled g.rules h).rows)
  flag_fault p waiting word name h flag = rw flag.by_long (or_else-nil _)

  pub flag_walked : (p : ℕ) (word name : Text) (h : Held) → IsFlag g.syntax g.rules name
      → option_walked_at p idle word name None h ≡ at idle p (reacted g.rules (flag_built name) [] h)
  flag_walked p word name h flag = rw flag.by_long refl

  pub flag_value_fault : (p : ℕ) (waiting : Waiting) (word name value : Text) (h : Held) → IsFlag g.syntax g.rules name
      → option_fault_at p waiting word name (Some value) h ≡ kind.TooManyValues ∷ []
  flag_value_fault p waiting word name value h flag = rw flag.by_long refl
