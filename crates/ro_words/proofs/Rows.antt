-- The rows of `clap` that uses stand for.
use Rattle.std.proofs.Common.{◌≡◌, ◌∙◌, ℕ, Bool, true, false, ◌||◌, List, [], ◌∷◌, ◌++◌, map, Option, Some, None, refl, ap, codes}
use Rattle.std.specs.Str.{bytes_eq}
use Rattle.std.proofs.lemmas.Bool.{or_parts}
use Rattle.std.proofs.lemmas.List.{append-nil}
use Rattle.clap.specs.Walk.{Row, Text, at_row, has_row, more_values, used, with_values, without}
use Rattle.clap.specs.Faults.{use_fault}
use Rattle.clap.specs.declared.parser.matches.ValueSource.{ValueSource}
use Rattle.clap.specs.declared.parser.matches.ValueSource.TheVariants.{CommandLine}
use Rattle.clap.specs.declared.builder.value_parser.Reading.TheVariants as reading
use Rattle.clap.specs.declared.error.kind.ErrorKind.TheVariants as kind
use Rattle.ro_words.specs.Uses.{Use, is_used}
use Rattle.ro_words.proofs.Rules.{flag_built, value_rule}

abbrev pub row : Use → Row
row u = record {
  id = u.0;
  values = u.1 ∷ [];
  count = None;
  source = Some CommandLine;
  reading = reading.AsWritten;
}

abbrev pub rows : List Use → List Row
rows = map row

pub used-row : (name : Text) (uses : List Use) → has_row name (rows uses) ≡ is_used name uses
used-row name [] = refl
used-row name (u ∷ uses) = ap (λ b. bytes_eq u.0 name || b) (used-row name uses)

pub none_at_row : (id : Text) (change : Row → List Row) (missing xs : List Row) → has_row id xs ≡ false
    → at_row id change missing xs ≡ xs ++ missing
none_at_row id change missing [] none = refl
none_at_row id change missing (r ∷ rs) none =
    let parts = or_parts (bytes_eq r.id id) (has_row id rs) none in
    rw parts.0 (ap (λ (l : List Row). r ∷ l) (none_at_row id change missing rs parts.1))

pub without_none : (id : Text) (xs : List Row) → has_row id xs ≡ false → without id xs ≡ xs
without_none id xs none = none_at_row id (λ _. []) [] xs none ∙ append-nil xs

pub with_first : (id : Text) (values : List Text) (source : ValueSource) (xs : List Row) → has_row id xs ≡ false
    → with_values id reading.AsWritten source values xs ≡ xs ++ record {
      id = id;
      values = values;
      count = None;
      source = Some source;
      reading = reading.AsWritten;
    } ∷ []
with_first id values source xs none = none_at_row id (more_values source values) _ xs none

-- a first use of an argument with a value
pub first_use : (name : Text) (long : Option Text) (index : Option ℕ) (required : Bool) (value : Text) (xs : List Row)
    → has_row name xs ≡ false
    → (use_fault false (value_rule name long index required) (value ∷ []) xs ≡ [])
    × (used (value_rule name long index required) (value ∷ []) xs ≡ xs ++ row (name, value) ∷ [])
first_use name long index required value xs none =
    (rw none refl, rw (without_none name xs none) (with_first name (value ∷ []) CommandLine xs none))

-- a second one
pub second_use : (name : Text) (long : Option Text) (index : Option ℕ) (required : Bool) (value : Text) (xs : List Row)
    → has_row name xs ≡ true
    → use_fault false (value_rule name long index required) (value ∷ []) xs ≡ kind.ArgumentConflict ∷ []
second_use name long index required value xs some = rw some refl

pub no_value : (name : Text) (long : Option Text) (index : Option ℕ) (required : Bool) (xs : List Row)
    → use_fault false (value_rule name long index required) [] xs ≡ kind.InvalidValue ∷ []
no_value name long index required xs = refl

pub first_flag : (name : Text) (xs : List Row) → has_row name xs ≡ false
    → (use_fault false (flag_built name) [] xs ≡ []) × (used (flag_built name) [] xs ≡ xs ++ row (name, codes "true") ∷ [])
first_flag name xs none = (rw none refl, rw (without_none name xs none) (with_first name (codes "true" ∷ []) CommandLine xs none))

pub second_flag : (name : Text) (xs : List Row) → has_row name xs ≡ true
    → use_fault false (flag_built name) [] xs ≡ kind.ArgumentConflict ∷ []
second_flag name xs some = rw some refl
