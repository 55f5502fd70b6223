-- What is known of a command's arguments: which one a name belongs to, and which one a place.
use Rattle.std.proofs.Common.{◌≡◌, ◌∙◌, ℕ, ◌+◌, Bool, true, false, not, ◌&&◌, ◌∷◌, ◌++◌, List, [], Some, None, refl, sym, subst, inl, inr}
use Rattle.std.specs.Prelude.{fold, min}
use Rattle.std.specs.List.{AllByRecursion, list_all, list_any}
use Rattle.std.specs.Str.{bytes_eq}
use Rattle.std.proofs.lemmas.Slice.Eq.{bytes_eq-Decides}
use Rattle.std.proofs.lemmas.Bool.{cases_Bool}
use Rattle.clap.specs.Lexer.{long_of, usize_max}
use Rattle.clap.specs.Walk.{Row, Rule, Text, arg_by_id, arg_by_index, arg_by_long, with_default}
use Rattle.clap.specs.Faults.{defaults_fault}
use Rattle.clap.specs.Simple.{filled_from}
use Rattle.clap.specs.Takes.{is_given}
use Rattle.ro_words.specs.Uses.{Syntax, is_flag, required_of, takes_value}
use Rattle.ro_words.specs.Grammar.{rules_of}
use Rattle.ro_words.proofs.Once.{is_of}
use Rattle.ro_words.proofs.Rules.{flag_built, option_built, place_built}

-- an option that takes a value
pub record IsValued (s : Syntax) (rules : List Rule) (name : Text) : Type 0 where
  pub required : Bool
  pub takes : takes_value s name ≡ true
  pub flag : is_flag s name ≡ false
  pub alone : long_of (45 ∷ 45 ∷ name) ≡ Some (name, None)
  pub cut : (value : Text) → long_of (45 ∷ 45 ∷ (name ++ 61 ∷ value)) ≡ Some (name, Some value)
  pub by_long : arg_by_long rules name ≡ Some (option_built name required)
  pub by_id : arg_by_id rules name ≡ Some (option_built name required)

-- an option that takes none
pub record IsFlag (s : Syntax) (rules : List Rule) (name : Text) : Type 0 where
  pub named : is_flag s name ≡ true
  pub takes : takes_value s name ≡ false
  pub by_long : arg_by_long rules name ≡ Some (flag_built name)

pub data Known (s : Syntax) (rules : List Rule) (name : Text) : Type 0 where
  takes_one : IsValued s rules name → Known s rules name
  flagged : IsFlag s rules name → Known s rules name
  unmet : takes_value s name ≡ false → is_flag s name ≡ false → arg_by_long rules name ≡ None → Known s rules name

-- an argument at a place, behind which these places are left
pub record IsPlace (s : Syntax) (rules : List Rule) (name : Text) (place : ℕ) (left : List Text) : Type 0 where
  pub by_index : arg_by_index rules place ≡ Some (place_built name place)
  pub by_id : arg_by_id rules name ≡ Some (place_built name place)
  pub takes : takes_value s name ≡ false
  pub flag : is_flag s name ≡ false
  pub later : list_any (bytes_eq name) left ≡ false
  pub next : min (place + 1) usize_max ≡ place + 1

-- these are the arguments from a place on
abbrev pub AreFrom : Syntax → List Rule → List Text → ℕ → Type 0
AreFrom s rules [] place = arg_by_index rules place ≡ None
AreFrom s rules (name ∷ left) place = IsPlace s rules name place left × AreFrom s rules left (place + 1)

-- where a flag may be there and was not, it has its default
abbrev pub with_flags : List Text → List Row → List Row
with_flags [] xs = xs
with_flags (name ∷ names) xs = with_flags names (with_default xs (flag_built name))

-- no name stands twice
abbrev pub are_apart : List Text → Bool
are_apart [] = true
are_apart (name ∷ names) = not (is_of names name) && are_apart names

-- a command, with the arguments that are built of it
pub record Grammar : Type 0 where
  pub name : Text
  pub syntax : Syntax
  pub rules : List Rule
  pub built : filled_from 1 (rules_of syntax) ≡ rules
  pub known : (option : Text) → Known syntax rules option
  pub from : AreFrom syntax rules syntax.places 1
  pub passes : (xs : List Row) → defaults_fault xs rules ≡ []
  pub ends : (xs : List Row) → fold with_default xs rules ≡ with_flags syntax.flags xs
  pub check : (xs : List Row) → list_any (λ a. a.required && not (is_given a.id xs)) rules ≡ not (list_all (λ n. is_given n xs) (required_of syntax))
  pub apart : list_any (is_flag syntax) (required_of syntax) ≡ false
  pub flags_apart : are_apart syntax.flags ≡ true
  pub flags_are : AllByRecursion (λ flag. is_of syntax.flags flag ≡ true) syntax.flags

-- by whether a name is this key
pub by_key : (P : Text → Type 0) (key name : Text) → (key ≡ name → P name) → (bytes_eq key name ≡ false → P name) → P name
by_key P key name same other =
    elim (cases_Bool (bytes_eq key name)) [ inl is ↦ same ((bytes_eq-Decides key name).0 is) | inr is ↦ other is ]

pub is_valued : (s : Syntax) (rules : List Rule) (key name : Text) → IsValued s rules key → key ≡ name → Known s rules name
is_valued s rules key name facts e = subst (λ (n : Text). Known s rules n) e (takes_one facts)

pub is_flagged : (s : Syntax) (rules : List Rule) (key name : Text) → IsFlag s rules key → key ≡ name → Known s rules name
is_flagged s rules key name facts e = subst (λ (n : Text). Known s rules n) e (flagged facts)

-- no option with a value has the name of a place that is left
pub valued_apart : (s : Syntax) (rules : List Rule) (left : List Text) (place : ℕ) (name : Text) → AreFrom s rules left place → takes_value s name ≡ true
    → list_any (bytes_eq name) left ≡ false
valued_apart s rules [] place name from takes = refl
valued_apart s rules (key ∷ left) place name from takes = elim (cases_Bool (bytes_eq name key)) [
  | inl same ↦
      let other : takes_value s name ≡ false = subst (λ (n : Text). takes_value s n ≡ false) (sym ((bytes_eq-Decides name key).0 same)) from.0.takes in
      let bad : true ≡ false = sym takes ∙ other in cc
  | inr differ ↦ rw differ (valued_apart s rules left (place + 1) name from.1 takes)
]

pub flag_apart : (s : Syntax) (rules : List Rule) (left : List Text) (place : ℕ) (name : Text) → AreFrom s rules left place → is_flag s name ≡ true
    → list_any (bytes_eq name) left ≡ false
flag_apart s rules [] place name from named = refl
flag_apart s rules (key ∷ left) place name from named = elim (cases_Bool (bytes_eq name key)) [
  | inl same ↦
      let other : is_flag s name ≡ false = subst (λ (n : Text). is_flag s n ≡ false) (sym ((bytes_eq-Decides name key).0 same)) from.0.flag in
      let bad : true ≡ false = sym named ∙ other in cc
  | inr differ ↦ rw differ (flag_apart s rules left (place + 1) name from.1 named)
]
