-- A command as arguments are added to it.
use Rattle.std.proofs.Common.{◌≡◌, ◌∙◌, ℕ, suc, ◌+◌, ◌<◌, ◌≤◌, List, ◌∷◌, false, true, ◌||◌, drop, length, map, refl, ap, ap₂, subst, arith}
use Rattle.std.proofs.Math.ListN.{get_or}
use Rattle.std.proofs.Math.Seq.{drop-cons}
use Rattle.std.proofs.lemmas.List.{drop_all}
use Rattle.std.specs.Prelude.{fold}
use Rattle.clap.specs.Built.{AddsArg, AddsSubcommand}
use Rattle.clap.specs.Walk.{Rule, rule_of}
use Rattle.clap.specs.Simple.{App, app_of, app_of_fields, on_top, with_rule, with_subcommand}
use Rattle.clap.specs.declared.builder.arg.Arg.{Arg}
use Rattle.clap.specs.declared.builder.command.Command.{Command}
use Rattle.clap.specs.declared.builder.command.Command.TheOpen.{Command-F}
use Rattle.clap.specs.declared.builder.command.Command.TheViews.{out-Command}
use Rattle.ro_settings.specs.declared.options.NumberOption.{NumberOption}
use Rattle.ro_words.specs.Grammar.{Reads, line_top, option_rule}

pub adds_arg : (old new : Command) (a : Arg) (app : App) (r : Rule) → AddsArg old a new → Reads app old → rule_of a ≡ r
    → a.global ≡ false → Reads (with_rule app r) new
adds_arg old new a app r added was is local =
    (added.shape local ∙ ap₂ with_rule was.0 is, added.globals ∙ ap₂ (λ x y. x || y) was.1 local)

pub adds_subcommand : (old new sub : Command) (app inner : App) → AddsSubcommand old sub new → Reads app old → Reads inner sub
    → Reads (with_subcommand app inner.top) new
adds_subcommand old new sub app inner added was is =
    (added.shape is.1 ∙ ap₂ with_subcommand was.0 (ap (λ (a : App). a.top) is.0), added.globals ∙ ap₂ (λ x y. x || y) was.1 is.1)

-- with the options that are left a command is the whole one
pub record Goes (whole : App) (left : List NumberOption) (command : Command) : Type 0 where
  pub ends : fold with_rule (app_of command) (map (λ option. option_rule option.name.now) left) ≡ whole
  pub local : (out-Command command).has_globals ≡ false

pub goes : (whole app : App) (left : List NumberOption) (command : Command) → Reads app command
    → fold with_rule app (map (λ option. option_rule option.name.now) left) ≡ whole → Goes whole left command
goes whole app left command reads is = record {
  ends = ap (λ (x : App). fold with_rule x (map (λ option. option_rule option.name.now) left)) reads.0 ∙ is;
  local = reads.1;
}

pub goes_on : (old new : Command) (a : Arg) (whole : App) (all : List NumberOption) (i : ℕ) (d : NumberOption) → i < length all → AddsArg old a new
    → Goes whole (drop i all) old → rule_of a ≡ option_rule (get_or all i d).name.now → a.global ≡ false → Goes whole (drop (i + 1) all) new
goes_on old new a whole all i d within added was is local =
    let next = adds_arg old new a (app_of old) (option_rule (get_or all i d).name.now) added (refl, was.local) is local in
    let one : suc i ≡ i + 1 = omega arith in
    let split = subst (λ (n : ℕ). drop i all ≡ get_or all i d ∷ drop n all) one (drop-cons all i d within) in
    goes whole (with_rule (app_of old) (option_rule (get_or all i d).name.now)) (drop (i + 1) all) new next
    (subst (λ (l : List NumberOption). fold with_rule (app_of old) (map (λ option. option_rule option.name.now) l) ≡ whole) split was.ends)

pub gone : (whole : App) (all : List NumberOption) (i : ℕ) (command : Command) → length all ≤ i → Goes whole (drop i all) command → Reads whole command
gone whole all i command past g =
    let none = drop_all i all past in
    (subst (λ (left : List NumberOption). fold with_rule (app_of command) (map (λ option. option_rule option.name.now) left) ≡ whole) none g.ends, g.local)

-- the settings of a command line
pub is_line : (a b d e : Command) (app : App) → Reads app a → out-Command b ≡ record (out-Command a) { disable_help_flag = true }
    → out-Command d ≡ record (out-Command b) { disable_help_subcommand = true }
    → out-Command e ≡ record (out-Command d) { subcommand_required = true } → Reads (on_top line_top app) e
is_line a b d e app reads flag subcommand required =
    let all : out-Command e ≡ record (out-Command a) {
      disable_help_flag = true;
      disable_help_subcommand = true;
      subcommand_required = true;
    } = required ∙ ap (λ (f : Command-F Command). record f { subcommand_required = true }) (subcommand
    ∙ ap (λ (f : Command-F Command). record f { disable_help_subcommand = true }) flag) in
    (ap app_of_fields all ∙ ap (on_top line_top) reads.0, ap (λ (f : Command-F Command). f.has_globals) all ∙ reads.1)
