-- What `clap` is asked to read.
use Rattle.std.specs.Prelude.{◌≡◌, List, [], ◌++◌, Some, codes, false, true, map, fold}
use Rattle.clap.specs.Walk.{Rule, Text}
use Rattle.clap.specs.Simple.{App, Shape, app_of, new_app, new_rule, new_shape, on_top, with_rule}
use Rattle.ro_words.specs.Uses.{Syntax}
use Rattle.ro_words.specs.Commands.{Spelling, audit_spellings, run_options, spellings}
use Rattle.clap.specs.declared.builder.action.ArgAction.TheVariants.{Set, SetTrue}
use Rattle.clap.specs.declared.builder.command.Command.{Command}
use Rattle.clap.specs.declared.builder.command.Command.TheViews.{out-Command}

-- an argument without an option's name
abbrev pub place_rule : Text → Rule
place_rule name = record (new_rule name) { required = true }

-- an option that takes a value
abbrev pub option_rule : Text → Rule
option_rule name = record (new_rule name) { long = Some name; action = Some Set }

-- one that must be there
abbrev pub needed_rule : Text → Rule
needed_rule name = record (option_rule name) { required = true }

-- one that takes no value
abbrev pub flag_rule : Text → Rule
flag_rule name = record (new_rule name) { long = Some name; action = Some SetTrue }

abbrev pub rules_of : Syntax → List Rule
rules_of s = map place_rule s.places ++ map needed_rule s.needed ++ map option_rule s.valued ++ map flag_rule s.flags

-- the command of this name
abbrev pub shape_of : (name : Text) → Syntax → Shape
shape_of name s = record (new_shape name) { rules = rules_of s }

-- a command that stands alone
abbrev pub app_of_shape : Shape → App
app_of_shape shape = record { top = shape; subs = [] }

-- the command with the options of a run, but for its mode
abbrev pub with_run_options : App → App
with_run_options app = fold with_rule app (map option_rule run_options)

abbrev pub line_top : Shape → Shape
line_top shape =
    record shape { disable_help_flag = true; disable_help_subcommand = true; subcommand_required = true }

-- a command line before it has commands
abbrev pub empty_line : App
empty_line = on_top line_top (new_app (codes "romain"))

-- a command line with these commands, of which there is one at least
abbrev pub line_app : {A : Type 0} → List (Spelling A) → App
line_app spellings = record {
  top = record (line_top (new_shape (codes "romain"))) { is_leaf = false };
  subs = map (λ s. shape_of s.name s.syntax) spellings;
}

abbrev pub romain_app : App
romain_app = line_app spellings

abbrev pub audit_app : App
audit_app = line_app audit_spellings

-- the command is read as the app says, and no argument of it is global
abbrev pub Reads : App → Command → Type 0
Reads app command = (app_of command ≡ app) × ((out-Command command).has_globals ≡ false)
