-- The commands, by what is known of each.
use Rattle.std.proofs.Common.{◌≡◌, ◌∙◌, Bool, false, true, List, [], ◌∷◌, Option, Some, None, refl, ap, codes}
use Rattle.std.specs.Prelude.{option_and_then, option_map}
use Rattle.std.specs.List.{AllByRecursion, list_any}
use Rattle.std.proofs.lemmas.Bool.{or_parts}
use Rattle.clap.specs.Faults.{is_simple_and_free}
use Rattle.ro_settings.specs.declared.Mode.{Mode}
use Rattle.ro_settings.specs.declared.Settings.{Settings}
use Rattle.ro_words.specs.Commands.{Asked, AskedAudit, AskedRun, asked_run, audit_given, bench_given, inject_given, kept_of, mode_for, mode_or_votes, plain_given, races_given, run_from, run_given, run_options, settings_of, suited, to_run}
use Rattle.ro_words.specs.declared.commands.Kept.{Kept}
use Rattle.ro_words.specs.Grammar.{audit_app, romain_app}
use Rattle.ro_words.specs.Uses.{Syntax, Text, is_flag}
use Rattle.ro_words.proofs.Grammars.{audit_grammar, bench_grammar, inject_grammar, plan_grammar, run_grammar}
use Rattle.ro_words.proofs.Spelled.{Agree, Spoken}

-- ---- what each asks for hangs on its own names

-- texts that agree on these names
abbrev AgreeOn : List Text → (f g : Text → Option Text) → Type 0
AgreeOn names f g = AllByRecursion (λ name. f name ≡ g name) names

agree_on : (s : Syntax) (f g : Text → Option Text) (names : List Text) → Agree s f g → list_any (is_flag s) names ≡ false → AgreeOn names f g
agree_on s f g [] same apart = tt
agree_on s f g (name ∷ names) same apart =
    let parts = or_parts (is_flag s name) (list_any (is_flag s) names) apart in
    (same name parts.0, agree_on s f g names same parts.1)

abbrev run_names : List Text
run_names = codes "exe" ∷ run_options

named_alike : (exe : Option Text) (settings : Option Settings) (kept : Option Kept) (f g : Text → Option Text) → f (codes "input") ≡ g (codes "input")
    → f (codes "faults") ≡ g (codes "faults") → run_from exe settings kept f ≡ run_from exe settings kept g
named_alike (Some exe) (Some settings) (Some kept) f g a b = rw (a, b) refl
named_alike (Some exe) (Some settings) None f g a b = refl
named_alike (Some exe) None kept f g a b = refl
named_alike None settings kept f g a b = refl

asked_alike : (mode : Option Mode) (kept : Option Kept) (f g : Text → Option Text) → AgreeOn run_names f g → asked_run mode kept f ≡ asked_run mode kept g
asked_alike mode kept f g (exe, (input, (faults, (replicas, (drivers, (watchdog, (quantum, (limit, (scrub, end))))))))) =
    let settings : settings_of mode f ≡ settings_of mode g = rw (replicas, drivers, watchdog, quantum, limit, scrub) refl in
    ap (λ (o : Option Text). run_from o (settings_of mode f) kept f) exe
    ∙ ap (λ (s : Option Settings). run_from (g (codes "exe")) s kept f) settings
    ∙ named_alike (g (codes "exe")) (settings_of mode g) kept f g input faults

pub run_alike : (f g : Text → Option Text) (flags : Text → Bool) → Agree run_grammar.syntax f g → run_given f flags ≡ run_given g flags
run_alike f g flags same =
    let kept : Option Kept = kept_of (flags (codes "journal")) (flags (codes "record")) in
    let mode : mode_for f ≡ mode_for g = ap mode_or_votes (same (codes "mode") refl) in
    ap (λ (run : Option AskedRun). option_map (λ (r : AskedRun). to_run r) (option_and_then suited run))
    (ap (λ (m : Option Mode). asked_run m kept f) mode ∙ asked_alike (mode_for g) kept f g (agree_on run_grammar.syntax f g run_names same refl))

pub audit_alike : (f g : Text → Option Text) (flags : Text → Bool) → Agree audit_grammar.syntax f g → audit_given f flags ≡ audit_given g flags
audit_alike f g flags same =
    let (exe, (input, (faults, (replicas, (drivers, (watchdog, (quantum, (limit, (scrub, end))))))))) = agree_on audit_grammar.syntax f g run_names same refl in
    rw (exe, input, faults, replicas, drivers, watchdog, quantum, limit, scrub, same (codes "journal") refl) refl

pub plain_alike : (f g : Text → Option Text) (flags : Text → Bool) → Agree (plan_grammar (codes "plain")).syntax f g → plain_given f flags ≡ plain_given g flags
plain_alike f g flags same = rw (same (codes "exe") refl, same (codes "plan") refl, same (codes "input") refl) refl

pub races_alike : (f g : Text → Option Text) (flags : Text → Bool) → Agree (plan_grammar (codes "races")).syntax f g → races_given f flags ≡ races_given g flags
races_alike f g flags same = rw (same (codes "exe") refl, same (codes "plan") refl, same (codes "input") refl) refl

pub inject_alike : (f g : Text → Option Text) (flags : Text → Bool) → Agree inject_grammar.syntax f g → inject_given f flags ≡ inject_given g flags
inject_alike f g flags same = rw (same (codes "seed") refl, same (codes "count") refl, same (codes "exe") refl, same (codes "replica") refl) refl

pub bench_alike : (f g : Text → Option Text) (flags : Text → Bool) → Agree bench_grammar.syntax f g → bench_given f flags ≡ bench_given g flags
bench_alike f g flags same = rw (same (codes "seed") refl, same (codes "size") refl) refl

-- ---- the commands of each program

abbrev pub run_spoken : Spoken Asked
run_spoken = record { grammar = run_grammar; given = run_given; alike = run_alike }

abbrev pub plain_spoken : Spoken Asked
plain_spoken = record { grammar = plan_grammar (codes "plain"); given = plain_given; alike = plain_alike }

abbrev pub races_spoken : Spoken Asked
races_spoken = record { grammar = plan_grammar (codes "races"); given = races_given; alike = races_alike }

abbrev pub inject_spoken : Spoken Asked
inject_spoken = record { grammar = inject_grammar; given = inject_given; alike = inject_alike }

abbrev pub bench_spoken : Spoken Asked
bench_spoken = record { grammar = bench_grammar; given = bench_given; alike = bench_alike }

-- those of `romain`
abbrev pub all_spoken : List (Spoken Asked)
all_spoken = run_spoken ∷ plain_spoken ∷ races_spoken ∷ inject_spoken ∷ bench_spoken ∷ []

-- that of an audit
abbrev pub audit_spoken : List (Spoken AskedAudit)
audit_spoken = record { grammar = audit_grammar; given = audit_given; alike = audit_alike } ∷ []

-- ---- what `clap` is asked to read is plain

pub romain_is_plain : is_simple_and_free romain_app ≡ true
romain_is_plain = refl

pub audit_is_plain : is_simple_and_free audit_app ≡ true
audit_is_plain = refl
