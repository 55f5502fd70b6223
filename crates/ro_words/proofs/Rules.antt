-- The arguments of a command as `clap` builds them.
use Rattle.std.proofs.Common.{ℕ, Bool, true, false, List, [], ◌∷◌, ◌++◌, Option, Some, None, codes, map}
use Rattle.clap.specs.Walk.{Rule, Text}
use Rattle.clap.specs.Simple.{Shape, new_rule, new_shape}
use Rattle.clap.specs.declared.builder.action.ArgAction.TheVariants.{Set, SetTrue}
use Rattle.clap.specs.declared.builder.value_parser.ValueParser.TheVariants as vp
use Rattle.ro_words.specs.Commands.{run_options}

-- an argument with one value of any text
abbrev pub value_rule : Text → Option Text → Option ℕ → Bool → Rule
value_rule name long index required = record (new_rule name) {
  long = long;
  index = index;
  action = Some Set;
  range = Some (record { start_inclusive = 1; end_inclusive = 1 });
  parser = Some vp.String;
  required = required;
}

-- an argument without an option's name, by its place
abbrev pub place_built : Text → ℕ → Rule
place_built name index = value_rule name None (Some index) true

-- an option
abbrev pub option_built : Text → (required : Bool) → Rule
option_built name required = value_rule name (Some name) None required

-- a flag
abbrev pub flag_built : Text → Rule
flag_built name = record (new_rule name) {
  long = Some name;
  action = Some SetTrue;
  range = Some (record { start_inclusive = 0; end_inclusive = 0 });
  defaults = codes "false" ∷ [];
  missing = codes "true" ∷ [];
  parser = Some vp.Bool;
}

-- the options of a run that have a value, but for its mode
unfoldable pub options_built : List Rule
options_built = map (λ name. option_built name false) run_options

unfoldable pub run_values : List Rule
run_values = place_built (codes "exe") 1 ∷ option_built (codes "mode") false ∷ options_built

unfoldable pub run_built : List Rule
run_built = run_values ++ flag_built (codes "journal") ∷ flag_built (codes "record") ∷ []

unfoldable pub audit_values : List Rule
audit_values = place_built (codes "exe") 1 ∷ option_built (codes "journal") true ∷ options_built

unfoldable pub audit_built : List Rule
audit_built = audit_values ++ flag_built (codes "json") ∷ []

unfoldable pub plan_built : List Rule
plan_built = place_built (codes "exe") 1 ∷ option_built (codes "plan") true ∷ option_built (codes "input") false ∷ []

unfoldable pub inject_built : List Rule
inject_built = place_built (codes "seed") 1 ∷ place_built (codes "count") 2 ∷ place_built (codes "exe") 3 ∷ option_built (codes "replica") false ∷ []

unfoldable pub bench_built : List Rule
bench_built = place_built (codes "seed") 1 ∷ place_built (codes "size") 2 ∷ []

-- a command as it is built
abbrev pub leaf : Text → List Rule → Shape
leaf name rules = record (new_shape name) {
  rules = rules;
  disable_help_flag = true;
  disable_help_subcommand = true;
  is_built = true;
}
