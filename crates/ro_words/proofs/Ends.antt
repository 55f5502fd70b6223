-- What `clap` makes of the rows at the end of a walk.
use Rattle.std.proofs.Common.{◌≡◌, ◌∙◌, Bool, true, false, not, ◌&&◌, List, [], ◌∷◌, ◌++◌, Option, Some, None, refl, ap, ap₂, sym, codes, inl, inr}
use Rattle.std.specs.Prelude.{find, option_map, option_and_then, slice_get, is_some, if◌then◌else◌, ◌⊎◌}
use Rattle.std.specs.Option.{option_map_or}
use Rattle.std.specs.Str.{bytes_eq}
use Rattle.std.proofs.lemmas.Bool.{cases_Bool, or_parts}
use Rattle.std.specs.List.{list_all, list_any}
use Rattle.clap.specs.Walk.{Row, Text, first_of, has_row, with_default}
use Rattle.clap.specs.Faults.{check_fault}
use Rattle.clap.specs.Facts.{explicit_source}
use Rattle.clap.specs.Takes.{is_given}
use Rattle.clap.specs.declared.parser.matches.ValueSource.TheVariants.{DefaultValue}
use Rattle.clap.specs.declared.builder.value_parser.Reading.TheVariants as reading
use Rattle.clap.specs.declared.error.kind.ErrorKind.TheVariants as kind
use Rattle.ro_words.specs.Uses.{Use, is_flag, is_used, required_of, text_of}
use Rattle.ro_words.proofs.Rules.{flag_built, leaf}
use Rattle.ro_words.proofs.Names.{Grammar, with_flags}
use Rattle.ro_words.proofs.Once.{is_of}
use Rattle.ro_words.proofs.Rows.{row, rows, with_first}

-- the rows at the end, where a flag that was not used has its default
abbrev pub final_rows : Grammar → List Use → List Row
final_rows g uses = with_flags g.syntax.flags (rows uses)

abbrev pub default_row : Text → Row
default_row name = record {
  id = name;
  values = codes "false" ∷ [];
  count = None;
  source = Some DefaultValue;
  reading = reading.AsWritten;
}

given_is : (o : Option Use) → option_map_or (λ r. explicit_source r.source) (option_map row o) false ≡ is_some o
given_is None = refl
given_is (Some u) = refl

first_is : (o : Option Use) → option_and_then (λ (r : Row). slice_get r.values 0) (option_map row o) ≡ option_map (λ u. u.1) o
first_is None = refl
first_is (Some u) = refl

either : (b : Bool) → (if not b then kind.MissingRequiredArgument ∷ [] else []) ≡ (if b then [] else kind.MissingRequiredArgument ∷ [])
either true = refl
either false = refl

-- what fails where not all is there that must be
pub check_is : (g : Grammar) (xs : List Row) → check_fault (leaf g.name g.rules) xs false
    ≡ (if list_all (λ n. is_given n xs) (required_of g.syntax) then [] else kind.MissingRequiredArgument ∷ [])
check_is g xs =
    ap (λ (b : Bool). if b then kind.MissingRequiredArgument ∷ [] else []) (g.check xs)
    ∙ either (list_all (λ n. is_given n xs) (required_of g.syntax))

-- ---- what is read of the rows at the end

pub find-rows : (name : Text) (uses : List Use) → find (λ r. bytes_eq r.id name) (rows uses) ≡ option_map row (find (λ u. bytes_eq u.0 name) uses)
find-rows name [] = refl
find-rows name (u ∷ uses) = elim (cases_Bool (bytes_eq u.0 name)) [ inl some ↦ rw some refl | inr none ↦ rw none (find-rows name uses) ]

pub used-find : (name : Text) (uses : List Use) → is_used name uses ≡ is_some (find (λ u. bytes_eq u.0 name) uses)
used-find name [] = refl
used-find name (u ∷ uses) = elim (cases_Bool (bytes_eq u.0 name)) [ inl some ↦ rw some refl | inr none ↦ rw none (used-find name uses) ]

-- rows have a flag, or get its default
pub flag_is : (flag : Text) (xs : List Row)
    → ((has_row flag xs ≡ true) × (with_default xs (flag_built flag) ≡ xs))
    ⊎ ((has_row flag xs ≡ false) × (with_default xs (flag_built flag) ≡ xs ++ default_row flag ∷ []))
flag_is flag xs = elim (cases_Bool (has_row flag xs)) [
  | inl some ↦ inl (some, rw some refl)
  | inr none ↦ inr (none, rw none (with_first flag (codes "false" ∷ []) DefaultValue xs none))
]

find_but_last : (name : Text) (xs : List Row) (r : Row) → bytes_eq r.id name ≡ false
    → find (λ x. bytes_eq x.id name) (xs ++ r ∷ []) ≡ find (λ x. bytes_eq x.id name) xs
find_but_last name [] r other = rw other refl
find_but_last name (x ∷ xs) r other =
    elim (cases_Bool (bytes_eq x.id name)) [ inl some ↦ rw some refl | inr none ↦ rw none (find_but_last name xs r other) ]

-- the row that is found under a name
abbrev pub found_under : Text → List Row → Option Row
found_under name xs = find (λ r. bytes_eq r.id name) xs

-- a default is found under no other name
pub one-find : (flag name : Text) (xs : List Row) → bytes_eq flag name ≡ false → found_under name (with_default xs (flag_built flag)) ≡ found_under name xs
one-find flag name xs other = elim (flag_is flag xs) [
  | inl (some, is) ↦ ap (found_under name) is
  | inr (none, is) ↦ ap (found_under name) is ∙ find_but_last name xs (default_row flag) other
]

pub flags-find : (flags : List Text) (name : Text) (xs : List Row) → is_of flags name ≡ false → found_under name (with_flags flags xs) ≡ found_under name xs
flags-find [] name xs other = refl
flags-find (flag ∷ flags) name xs other =
    let parts = or_parts (bytes_eq flag name) (is_of flags name) other in
    flags-find flags name (with_default xs (flag_built flag)) parts.1 ∙ one-find flag name xs parts.0

final-find : (flags : List Text) (name : Text) (uses : List Use) → is_of flags name ≡ false
    → found_under name (with_flags flags (rows uses)) ≡ option_map row (find (λ u. bytes_eq u.0 name) uses)
final-find flags name uses other = flags-find flags name (rows uses) other ∙ find-rows name uses

given-used : (flags : List Text) (uses : List Use) (name : Text) → is_of flags name ≡ false
    → is_given name (with_flags flags (rows uses)) ≡ is_used name uses
given-used flags uses name other =
    ap (λ (o : Option Row). option_map_or (λ r. explicit_source r.source) o false) (final-find flags name uses other)
    ∙ given_is (find (λ u. bytes_eq u.0 name) uses) ∙ sym (used-find name uses)

all_given : (flags : List Text) (uses : List Use) (names : List Text) → list_any (is_of flags) names ≡ false
    → list_all (λ n. is_given n (with_flags flags (rows uses))) names ≡ list_all (λ n. is_used n uses) names
all_given flags uses [] apart = refl
all_given flags uses (name ∷ names) apart =
    let parts = or_parts (is_of flags name) (list_any (is_of flags) names) apart in
    ap₂ (λ (a b : Bool). a && b) (given-used flags uses name parts.0) (all_given flags uses names parts.1)

-- what must be there was used
pub required_given : (g : Grammar) (uses : List Use)
    → list_all (λ n. is_given n (final_rows g uses)) (required_of g.syntax) ≡ list_all (λ n. is_used n uses) (required_of g.syntax)
required_given g uses = all_given g.syntax.flags uses (required_of g.syntax) g.apart

pub first-final : (g : Grammar) (name : Text) (uses : List Use) → is_flag g.syntax name ≡ false
    → first_of name (final_rows g uses) ≡ text_of uses name
first-final g name uses other =
    ap (option_and_then (λ (r : Row). slice_get r.values 0)) (final-find g.syntax.flags name uses other) ∙ first_is (find (λ u. bytes_eq u.0 name) uses)
