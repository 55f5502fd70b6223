use Rattle.std.proofs.Common.{◌≡◌, ◌∙◌, ap, refl, rules, sym, codes, option_map, Option, Some, None}
use Rattle.std.specs.Prelude.{option_and_then}
use Rattle.clap.specs.Matches.{first_value, found_of}
use Rattle.ro_settings.specs.declared.Settings.{Settings}
use Rattle.ro_words.specs.Commands.{AskedRun, asked_by, mode_for, run_from, settings_of, suited, to_run}
use Rattle.ro_words.specs.Uses.{Text}
use Rattle.ro_words.specs.declared.commands.Kept.{Kept}
use Rattle.ro_words.proofs.commands.run_command.Goals as goal

-- where both flags are given there is no run
no_run : (exe : Option Text) (settings : Option Settings) (given : Text → Option Text) → run_from exe settings None given ≡ None
no_run None settings given = refl
no_run (Some exe) None given = refl
no_run (Some exe) (Some settings) given = refl

pub returns-in_err-kept_in-clause-asked : goal.returns-in_err-kept_in-clause-asked
returns-in_err-kept_in-clause-asked c = λ flags journal recorded.
    let given = first_value (found_of c.args.matches.now) in
    let both = c.kept_in.ensures (flags (codes "journal")) (flags (codes "record")) journal recorded in
    let none : ◌≡◌ {A = Option Kept} None c.kept_in.result = search rules in
    let run = ap (λ (kept : Option Kept). run_from (given (codes "exe")) (settings_of (mode_for given) given) kept given) (none ∙ both) in
    let nothing : c.from_residual-in_err-kept_in.result ≡ None = search rules in
    ap (option_map asked_by) nothing ∙ ap (λ (o : Option AskedRun). option_map (λ (r : AskedRun). to_run r) (option_and_then suited o))
    (sym (no_run (given (codes "exe")) (settings_of (mode_for given) given) given) ∙ run)
