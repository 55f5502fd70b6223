-- Where the walk of `clap` stands between two words, and what is said of the rest of it.
use Rattle.std.proofs.Common.{◌≡◌, ◌∙◌, ◌⊎◌, ℕ, ◌+◌, Bool, true, false, not, List, [], ◌∷◌, ◌++◌, Option, Some, None, refl, ap, sym, subst, codes, inr}
use Rattle.std.specs.Str.{bytes_eq}
use Rattle.std.proofs.lemmas.Bool.{or_parts}
use Rattle.std.specs.List.{list_all, list_any}
use Rattle.std.proofs.lemmas.List.{append_assoc, map-append}
use Rattle.clap.specs.Walk.{Held, Row, has_row, Text, idle, option, settled}
use Rattle.clap.specs.Faults.{settle_fault}
use Rattle.clap.specs.Kinds.{Kinds, or_else}
use Rattle.clap.specs.declared.error.kind.ErrorKind.{ErrorKind}
use Rattle.ro_words.specs.Uses.{Use, is_flag, is_once, is_used, is_whole, uses_from, with_use}
use Rattle.ro_words.proofs.Names.{AreFrom, Grammar, IsFlag, IsValued, flag_apart, valued_apart}
use Rattle.ro_words.proofs.Once.{flag_text, flags_more, once_more, or_true, twice, used_more}
use Rattle.ro_words.proofs.Ends.{final_rows}
use Rattle.ro_words.proofs.Rows.{row, rows, used-row}
use Rattle.ro_words.proofs.Steps.{at, end_rows, tail_fault}

-- ---- lists of kinds

first_empty : (a b : Kinds) → or_else a b ≡ [] → a ≡ []
first_empty [] b e = refl
first_empty (k ∷ ks) b e = cc

pub not_empty : (a b : Kinds) → (a ≡ [] → ⊥) → or_else a b ≡ [] → ⊥
not_empty a b refuses e = refuses (first_empty a b e)

pub some_kinds : (a k ks : Kinds) → a ≡ or_else k ks → (k ≡ [] → ⊥) → a ≡ [] → ⊥
some_kinds a k ks is refuses e = not_empty k ks refuses (sym is ∙ e)

-- a kind, and no kind
pub one_kind : (a : Kinds) (k : ErrorKind) → a ≡ k ∷ [] → a ≡ [] → ⊥
one_kind a k is none = let bad : k ∷ [] ≡ [] = sym is ∙ none in cc

pub rows_more : (us : List Use) (u : Use) (xs : List Row) → xs ≡ rows us → xs ++ row u ∷ [] ≡ rows (us ++ u ∷ [])
rows_more us u xs is = ap (λ (l : List Row). l ++ row u ∷ []) is ∙ sym (map-append row us (u ∷ []))

pub has_rows : (name : Text) (us : List Use) (xs : List Row) (b : Bool) → xs ≡ rows us → is_used name us ≡ b → has_row name xs ≡ b
has_rows name us xs b is used = ap (has_row name) is ∙ used-row name us ∙ used

module _ (g : Grammar) where
  -- ---- what is said of the walk

  -- the walk fails by `kinds`, or ends in these rows, and so do all the uses
  abbrev pub AnswersAll : List Use → Kinds → List Row → Type 0
  AnswersAll all kinds ends =
      ((kinds ≡ []) × (is_whole g.syntax all ≡ true) × (list_all (flag_text g.syntax.flags) all ≡ true) × (ends ≡ final_rows g all))
      ⊎ ((kinds ≡ [] → ⊥) × (is_whole g.syntax all ≡ false))

  -- the same, of the uses so far and those that are read from the words that follow
  abbrev pub Answers : List Use → Kinds → List Row → Option (List Use) → Type 0
  Answers us kinds ends None = kinds ≡ [] → ⊥
  Answers us kinds ends (Some vs) = AnswersAll (us ++ vs) kinds ends

  pub answers_as : (us : List Use) (k l : Kinds) (d e : List Row) (r q : Option (List Use)) → k ≡ l → d ≡ e → r ≡ q → Answers us l e q → Answers us k d r
  answers_as us k l d e r q same_kinds same_rows same_read h =
      subst (λ (x : Kinds). Answers us x d r) (sym same_kinds) (subst (λ (x : List Row). Answers us l x r) (sym same_rows)
      (subst (λ (x : Option (List Use)). Answers us l e x) (sym same_read) h))

  pub answers_more : (us : List Use) (u : Use) (k : Kinds) (e : List Row) (r : Option (List Use)) → Answers (us ++ u ∷ []) k e r → Answers us k e (with_use u r)
  answers_more us u k e None h = h
  answers_more us u k e (Some vs) h = subst (λ (all : List Use). AnswersAll all k e) (append_assoc us (u ∷ []) vs) h

  pub answers_twice : (us : List Use) (u : Use) (k : Kinds) (e : List Row) (r : Option (List Use)) → is_used u.0 us ≡ true → (k ≡ [] → ⊥)
      → Answers us k e (with_use u r)
  answers_twice us u k e None used refuses = refuses
  answers_twice us u k e (Some vs) used refuses = inr (refuses, rw (twice us vs u used) refl)

  -- ---- where the walk stands between two words

  -- these places are left
  pub record Before (us : List Use) (left : List Text) (p : ℕ) : Type 0 where
    pub once : is_once us ≡ true
    pub flags : list_all (flag_text g.syntax.flags) us ≡ true
    pub unused : list_any (λ place. is_used place us) left ≡ false
    pub from : AreFrom g.syntax g.rules left p

  pub record Stands (us : List Use) (left : List Text) (p : ℕ) (h : Held) : Type 0 where
    pub before : Before us left p
    pub fault : settle_fault g.rules false h ≡ []
    pub is : (settled g.rules h).rows ≡ rows us

  abbrev pub ForIdle : List Text → Type 0
  ForIdle words = (us : List Use) (left : List Text) (p : ℕ) (h : Held) → Stands us left p h
      → Answers us (tail_fault g (at idle p h) words) (end_rows g (at idle p h) words) (uses_from g.syntax words left None)

  abbrev pub ForWaiting : List Text → Type 0
  ForWaiting words = (us : List Use) (left : List Text) (p : ℕ) (h : Held) (name : Text) → Before us left p → h.rows ≡ rows us → h.pending ≡ Some (name, [])
      → IsValued g.syntax g.rules name
      → Answers us (tail_fault g (at (option name) p h) words) (end_rows g (at (option name) p h) words) (uses_from g.syntax words left (Some name))

  -- a walk that fails as soon as a use is settled
  abbrev pub ForBroken : List Text → Type 0
  ForBroken words = (left : List Text) (p : ℕ) (h : Held) → AreFrom g.syntax g.rules left p → (settle_fault g.rules false h ≡ [] → ⊥)
      → tail_fault g (at idle p h) words ≡ [] → ⊥

  -- a use of another name
  unused_more : (us : List Use) (u : Use) (left : List Text) → list_any (λ place. is_used place us) left ≡ false → list_any (bytes_eq u.0) left ≡ false
      → list_any (λ place. is_used place (us ++ u ∷ [])) left ≡ false
  unused_more us u [] none other = refl
  unused_more us u (place ∷ left) none other =
      let here = or_parts (is_used place us) (list_any (λ n. is_used n us) left) none in
      let apart = or_parts (bytes_eq u.0 place) (list_any (bytes_eq u.0) left) other in
      rw (used_more place us u apart.0, here.0) (unused_more us u left here.1 apart.1)

  pub before_place : (us : List Use) (name text : Text) (left : List Text) (p : ℕ) → Before us (name ∷ left) p → Before (us ++ (name, text) ∷ []) left (p + 1)
  before_place us name text left p before =
      let here = or_parts (is_used name us) (list_any (λ n. is_used n us) left) before.unused in
      record {
        once = once_more us _ before.once here.0;
        flags = flags_more g.syntax.flags us (name, text) before.flags (rw before.from.0.flag refl);
        unused = unused_more us (name, text) left here.1 before.from.0.later;
        from = before.from.1;
      }

  pub before_valued : (us : List Use) (left : List Text) (p : ℕ) (name text : Text) → Before us left p → is_used name us ≡ false → IsValued g.syntax g.rules name
      → Before (us ++ (name, text) ∷ []) left p
  before_valued us left p name text before unused valued = record {
    once = once_more us _ before.once unused;
    flags = flags_more g.syntax.flags us (name, text) before.flags (rw valued.flag refl);
    unused = unused_more us (name, text) left before.unused (valued_apart g.syntax g.rules left p name before.from valued.takes);
    from = before.from;
  }

  pub before_flag : (us : List Use) (left : List Text) (p : ℕ) (name : Text) → Before us left p → is_used name us ≡ false → IsFlag g.syntax g.rules name
      → Before (us ++ (name, codes "true") ∷ []) left p
  before_flag us left p name before unused flag = record {
    once = once_more us _ before.once unused;
    flags = flags_more g.syntax.flags us (name, codes "true") before.flags (or_true (not (is_flag g.syntax name)));
    unused = unused_more us (name, codes "true") left before.unused (flag_apart g.syntax g.rules left p name before.from flag.named);
    from = before.from;
  }
