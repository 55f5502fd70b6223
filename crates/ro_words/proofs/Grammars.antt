-- The commands as they are built.
use Rattle.std.proofs.Common.{◌≡◌, ◌∙◌, Bool, true, false, not, ◌&&◌, ◌||◌, List, [], ◌∷◌, ◌++◌, refl, ap, codes, inl, inr}
use Rattle.std.specs.Prelude.{fold, if◌then◌else◌}
use Rattle.std.specs.List.{list_all, list_any}
use Rattle.std.proofs.lemmas.Bool.{cases_Bool}
use Rattle.clap.specs.Walk.{Row, Rule, Text, has_row, with_default}
use Rattle.clap.specs.Faults.{default_fault, defaults_fault}
use Rattle.clap.specs.Takes.{is_given}
use Rattle.clap.specs.Simple.{filled_from}
use Rattle.ro_words.specs.Commands.{audit_syntax, bench_syntax, inject_syntax, plan_syntax, run_syntax}
use Rattle.ro_words.specs.Grammar.{rules_of}
use Rattle.ro_words.proofs.Once.{and_parts}
use Rattle.ro_words.proofs.Rules.{audit_built, audit_values, bench_built, flag_built, inject_built, options_built, plan_built, run_built, run_values}
use Rattle.ro_words.proofs.Names.{AreFrom, Grammar, IsValued, Known, by_key, is_flagged, is_valued, unmet, with_flags}

-- ---- defaults, and what is required

abbrev is_none : List Text → Bool
is_none [] = true
is_none (x ∷ xs) = false

none_of : (xs : List Text) → is_none xs ≡ true → xs ≡ []
none_of [] e = refl
none_of (x ∷ xs) e = cc

default_passes : (xs : List Row) (a : Rule) → is_none a.defaults ≡ true → default_fault xs a ≡ []
default_passes xs a none = elim (cases_Bool (has_row a.id xs)) [ inl some ↦ rw some refl | inr other ↦ rw (other, none_of a.defaults none) refl ]

default_keeps : (xs : List Row) (a : Rule) → is_none a.defaults ≡ true → with_default xs a ≡ xs
default_keeps xs a none = elim (cases_Bool (has_row a.id xs)) [ inl some ↦ rw some refl | inr other ↦ rw (other, none_of a.defaults none) refl ]

default_flag : (name : Text) (xs : List Row) → default_fault xs (flag_built name) ≡ []
default_flag name xs = elim (cases_Bool (has_row name xs)) [ inl some ↦ rw some refl | inr none ↦ rw none refl ]

one_passes : (xs : List Row) (a : Rule) (rest : List Rule) → default_fault xs a ≡ [] → ((ys : List Row) → defaults_fault ys rest ≡ [])
    → defaults_fault xs (a ∷ rest) ≡ []
unfolding defaults_fault
one_passes xs a rest here after = rw (here, after (with_default xs a)) refl

pub no_defaults : (xs : List Row) → defaults_fault xs [] ≡ []
unfolding defaults_fault
no_defaults xs = refl

flag_passes : (name : Text) (xs : List Row) → defaults_fault xs (flag_built name ∷ []) ≡ []
flag_passes name xs = one_passes xs (flag_built name) [] (default_flag name xs) no_defaults

-- arguments without a default
abbrev lack_defaults : List Rule → Bool
lack_defaults values = list_all (λ a. is_none a.defaults) values

values_pass : (values rest : List Rule) → lack_defaults values ≡ true → ((ys : List Row) → defaults_fault ys rest ≡ []) → (xs : List Row)
    → defaults_fault xs (values ++ rest) ≡ []
values_pass [] rest lack after xs = after xs
values_pass (a ∷ values) rest lack after xs =
    let parts = and_parts (is_none a.defaults) (lack_defaults values) lack in
    one_passes xs a (values ++ rest) (default_passes xs a parts.0) (λ ys. values_pass values rest parts.1 after ys)

values_keep : (values rest : List Rule) → lack_defaults values ≡ true → (xs : List Row) → fold with_default xs (values ++ rest) ≡ fold with_default xs rest
values_keep [] rest lack xs = refl
values_keep (a ∷ values) rest lack xs =
    let parts = and_parts (is_none a.defaults) (lack_defaults values) lack in
    ap (λ (l : List Row). fold with_default l (values ++ rest)) (default_keeps xs a parts.0) ∙ values_keep values rest parts.1 xs

-- the names of those that must be there
abbrev names_required : List Rule → List Text
names_required [] = []
names_required (a ∷ rules) = if a.required then a.id ∷ names_required rules else names_required rules

or_not : (a b : Bool) → (not a || not b) ≡ not (a && b)
or_not true b = refl
or_not false b = refl

required_are : (xs : List Row) (rules : List Rule)
    → list_any (λ a. a.required && not (is_given a.id xs)) rules ≡ not (list_all (λ n. is_given n xs) (names_required rules))
required_are xs [] = refl
required_are xs (a ∷ rules) = elim (cases_Bool a.required) [
  | inl must ↦ rw must (ap (λ (b : Bool). not (is_given a.id xs) || b) (required_are xs rules) ∙ or_not (is_given a.id xs) (list_all (λ n. is_given n xs) (names_required rules)))
  | inr may ↦ rw may (required_are xs rules)
]

-- ---- `run`

pub run_are_built : filled_from 1 (rules_of run_syntax) ≡ run_built
unfolding run_built run_values options_built
run_are_built = refl

pub run_valued : (name : Text) → Known run_syntax run_built name
unfolding run_built run_values options_built
run_valued name =
    let value : (key : Text) → IsValued run_syntax run_built key → key ≡ name → Known run_syntax run_built name = λ key facts e. is_valued run_syntax run_built key name facts e in
    by_key (Known run_syntax run_built) (codes "mode") name (value (codes "mode") (record { required = false; takes = refl; flag = refl; alone = refl; cut = λ v. refl; by_long = refl; by_id = refl })) (λ m.
    by_key (Known run_syntax run_built) (codes "input") name (value (codes "input") (record { required = false; takes = refl; flag = refl; alone = refl; cut = λ v. refl; by_long = refl; by_id = refl })) (λ a.
    by_key (Known run_syntax run_built) (codes "faults") name (value (codes "faults") (record { required = false; takes = refl; flag = refl; alone = refl; cut = λ v. refl; by_long = refl; by_id = refl })) (λ b.
    by_key (Known run_syntax run_built) (codes "replicas") name (value (codes "replicas") (record { required = false; takes = refl; flag = refl; alone = refl; cut = λ v. refl; by_long = refl; by_id = refl })) (λ d.
    by_key (Known run_syntax run_built) (codes "drivers") name (value (codes "drivers") (record { required = false; takes = refl; flag = refl; alone = refl; cut = λ v. refl; by_long = refl; by_id = refl })) (λ e.
    by_key (Known run_syntax run_built) (codes "watchdog") name (value (codes "watchdog") (record { required = false; takes = refl; flag = refl; alone = refl; cut = λ v. refl; by_long = refl; by_id = refl })) (λ f.
    by_key (Known run_syntax run_built) (codes "quantum") name (value (codes "quantum") (record { required = false; takes = refl; flag = refl; alone = refl; cut = λ v. refl; by_long = refl; by_id = refl })) (λ g.
    by_key (Known run_syntax run_built) (codes "limit") name (value (codes "limit") (record { required = false; takes = refl; flag = refl; alone = refl; cut = λ v. refl; by_long = refl; by_id = refl })) (λ h.
    by_key (Known run_syntax run_built) (codes "scrub") name (value (codes "scrub") (record { required = false; takes = refl; flag = refl; alone = refl; cut = λ v. refl; by_long = refl; by_id = refl })) (λ k.
    by_key (Known run_syntax run_built) (codes "journal") name (is_flagged run_syntax run_built (codes "journal") name (record { named = refl; takes = refl; by_long = refl })) (λ i.
    by_key (Known run_syntax run_built) (codes "record") name (is_flagged run_syntax run_built (codes "record") name (record { named = refl; takes = refl; by_long = refl })) (λ j.
    unmet (rw (m, a, b, d, e, f, g, h, k) refl) (rw (i, j) refl) (rw (m, a, b, d, e, f, g, h, k, i, j) refl))))))))))))

pub run_from_places : AreFrom run_syntax run_built (codes "exe" ∷ []) 1
unfolding run_built run_values options_built
run_from_places = (record { by_index = refl; by_id = refl; takes = refl; flag = refl; later = refl; next = refl }, refl)

pub run_passes : (xs : List Row) → defaults_fault xs run_built ≡ []
unfolding run_built run_values options_built
run_passes = values_pass run_values (flag_built (codes "journal") ∷ flag_built (codes "record") ∷ []) refl
    (λ xs. one_passes xs (flag_built (codes "journal")) (flag_built (codes "record") ∷ []) (default_flag (codes "journal") xs) (flag_passes (codes "record")))

pub run_ends : (xs : List Row) → fold with_default xs run_built ≡ with_flags (codes "journal" ∷ codes "record" ∷ []) xs
unfolding run_built run_values options_built
run_ends = values_keep run_values (flag_built (codes "journal") ∷ flag_built (codes "record") ∷ []) refl

pub run_check : (xs : List Row) → list_any (λ a. a.required && not (is_given a.id xs)) run_built ≡ not (list_all (λ n. is_given n xs) (codes "exe" ∷ []))
unfolding run_built run_values options_built
run_check xs = required_are xs run_built

abbrev pub run_grammar : Grammar
run_grammar = record {
  name = codes "run";
  syntax = run_syntax;
  rules = run_built;
  built = run_are_built;
  known = run_valued;
  from = run_from_places;
  passes = run_passes;
  ends = run_ends;
  check = run_check;
  apart = refl;
  flags_apart = refl;
  flags_are = (refl, (refl, tt));
}

-- ---- `audit`

pub audit_are_built : filled_from 1 (rules_of audit_syntax) ≡ audit_built
unfolding audit_built audit_values options_built
audit_are_built = refl

pub audit_valued : (name : Text) → Known audit_syntax audit_built name
unfolding audit_built audit_values options_built
audit_valued name =
    let value : (key : Text) → IsValued audit_syntax audit_built key → key ≡ name → Known audit_syntax audit_built name = λ key facts e. is_valued audit_syntax audit_built key name facts e in
    by_key (Known audit_syntax audit_built) (codes "journal") name (value (codes "journal") (record { required = true; takes = refl; flag = refl; alone = refl; cut = λ v. refl; by_long = refl; by_id = refl })) (λ j.
    by_key (Known audit_syntax audit_built) (codes "input") name (value (codes "input") (record { required = false; takes = refl; flag = refl; alone = refl; cut = λ v. refl; by_long = refl; by_id = refl })) (λ a.
    by_key (Known audit_syntax audit_built) (codes "faults") name (value (codes "faults") (record { required = false; takes = refl; flag = refl; alone = refl; cut = λ v. refl; by_long = refl; by_id = refl })) (λ b.
    by_key (Known audit_syntax audit_built) (codes "replicas") name (value (codes "replicas") (record { required = false; takes = refl; flag = refl; alone = refl; cut = λ v. refl; by_long = refl; by_id = refl })) (λ d.
    by_key (Known audit_syntax audit_built) (codes "drivers") name (value (codes "drivers") (record { required = false; takes = refl; flag = refl; alone = refl; cut = λ v. refl; by_long = refl; by_id = refl })) (λ e.
    by_key (Known audit_syntax audit_built) (codes "watchdog") name (value (codes "watchdog") (record { required = false; takes = refl; flag = refl; alone = refl; cut = λ v. refl; by_long = refl; by_id = refl })) (λ f.
    by_key (Known audit_syntax audit_built) (codes "quantum") name (value (codes "quantum") (record { required = false; takes = refl; flag = refl; alone = refl; cut = λ v. refl; by_long = refl; by_id = refl })) (λ g.
    by_key (Known audit_syntax audit_built) (codes "limit") name (value (codes "limit") (record { required = false; takes = refl; flag = refl; alone = refl; cut = λ v. refl; by_long = refl; by_id = refl })) (λ h.
    by_key (Known audit_syntax audit_built) (codes "scrub") name (value (codes "scrub") (record { required = false; takes = refl; flag = refl; alone = refl; cut = λ v. refl; by_long = refl; by_id = refl })) (λ k.
    by_key (Known audit_syntax audit_built) (codes "json") name (is_flagged audit_syntax audit_built (codes "json") name (record { named = refl; takes = refl; by_long = refl })) (λ i.
    unmet (rw (j, a, b, d, e, f, g, h, k) refl) (rw i refl) (rw (j, a, b, d, e, f, g, h, k, i) refl)))))))))))

pub audit_from_places : AreFrom audit_syntax audit_built (codes "exe" ∷ []) 1
unfolding audit_built audit_values options_built
audit_from_places = (record { by_index = refl; by_id = refl; takes = refl; flag = refl; later = refl; next = refl }, refl)

pub audit_passes : (xs : List Row) → defaults_fault xs audit_built ≡ []
unfolding audit_built audit_values options_built
audit_passes = values_pass audit_values (flag_built (codes "json") ∷ []) refl (flag_passes (codes "json"))

pub audit_ends : (xs : List Row) → fold with_default xs audit_built ≡ with_flags (codes "json" ∷ []) xs
unfolding audit_built audit_values options_built
audit_ends = values_keep audit_values (flag_built (codes "json") ∷ []) refl

pub audit_check : (xs : List Row) → list_any (λ a. a.required && not (is_given a.id xs)) audit_built ≡ not (list_all (λ n. is_given n xs) (codes "exe" ∷ codes "journal" ∷ []))
unfolding audit_built audit_values options_built
audit_check xs = required_are xs audit_built

abbrev pub audit_grammar : Grammar
audit_grammar = record {
  name = codes "audit";
  syntax = audit_syntax;
  rules = audit_built;
  built = audit_are_built;
  known = audit_valued;
  from = audit_from_places;
  passes = audit_passes;
  ends = audit_ends;
  check = audit_check;
  apart = refl;
  flags_apart = refl;
  flags_are = (refl, tt);
}

-- ---- `plain` and `races`

pub plan_are_built : filled_from 1 (rules_of plan_syntax) ≡ plan_built
unfolding plan_built
plan_are_built = refl

pub plan_valued : (name : Text) → Known plan_syntax plan_built name
unfolding plan_built
plan_valued name =
    let value : (key : Text) → IsValued plan_syntax plan_built key → key ≡ name → Known plan_syntax plan_built name = λ key facts e. is_valued plan_syntax plan_built key name facts e in
    by_key (Known plan_syntax plan_built) (codes "plan") name (value (codes "plan") (record { required = true; takes = refl; flag = refl; alone = refl; cut = λ v. refl; by_long = refl; by_id = refl })) (λ a.
    by_key (Known plan_syntax plan_built) (codes "input") name (value (codes "input") (record { required = false; takes = refl; flag = refl; alone = refl; cut = λ v. refl; by_long = refl; by_id = refl })) (λ b.
    unmet (rw (a, b) refl) refl (rw (a, b) refl)))

pub plan_from_places : AreFrom plan_syntax plan_built (codes "exe" ∷ []) 1
unfolding plan_built
plan_from_places = (record { by_index = refl; by_id = refl; takes = refl; flag = refl; later = refl; next = refl }, refl)

pub plan_passes : (xs : List Row) → defaults_fault xs plan_built ≡ []
unfolding plan_built
plan_passes = values_pass plan_built [] refl no_defaults

pub plan_ends : (xs : List Row) → fold with_default xs plan_built ≡ xs
unfolding plan_built
plan_ends = values_keep plan_built [] refl

pub plan_check : (xs : List Row) → list_any (λ a. a.required && not (is_given a.id xs)) plan_built ≡ not (list_all (λ n. is_given n xs) (codes "exe" ∷ codes "plan" ∷ []))
unfolding plan_built
plan_check xs = required_are xs plan_built

-- a command that takes an executable and a plan
abbrev pub plan_grammar : Text → Grammar
plan_grammar name = record {
  name = name;
  syntax = plan_syntax;
  rules = plan_built;
  built = plan_are_built;
  known = plan_valued;
  from = plan_from_places;
  passes = plan_passes;
  ends = plan_ends;
  check = plan_check;
  apart = refl;
  flags_apart = refl;
  flags_are = tt;
}

-- ---- `inject`

pub inject_are_built : filled_from 1 (rules_of inject_syntax) ≡ inject_built
unfolding inject_built
inject_are_built = refl

pub inject_valued : (name : Text) → Known inject_syntax inject_built name
unfolding inject_built
inject_valued name =
    let value : (key : Text) → IsValued inject_syntax inject_built key → key ≡ name → Known inject_syntax inject_built name = λ key facts e. is_valued inject_syntax inject_built key name facts e in
    by_key (Known inject_syntax inject_built) (codes "replica") name (value (codes "replica") (record { required = false; takes = refl; flag = refl; alone = refl; cut = λ v. refl; by_long = refl; by_id = refl })) (λ a.
    unmet (rw (a) refl) refl (rw (a) refl))

pub inject_from_places : AreFrom inject_syntax inject_built (codes "seed" ∷ codes "count" ∷ codes "exe" ∷ []) 1
unfolding inject_built
inject_from_places = (record { by_index = refl; by_id = refl; takes = refl; flag = refl; later = refl; next = refl }, (record { by_index = refl; by_id = refl; takes = refl; flag = refl; later = refl; next = refl }, (record { by_index = refl; by_id = refl; takes = refl; flag = refl; later = refl; next = refl }, refl)))

pub inject_passes : (xs : List Row) → defaults_fault xs inject_built ≡ []
unfolding inject_built
inject_passes = values_pass inject_built [] refl no_defaults

pub inject_ends : (xs : List Row) → fold with_default xs inject_built ≡ xs
unfolding inject_built
inject_ends = values_keep inject_built [] refl

pub inject_check : (xs : List Row) → list_any (λ a. a.required && not (is_given a.id xs)) inject_built ≡ not (list_all (λ n. is_given n xs) (codes "seed" ∷ codes "count" ∷ codes "exe" ∷ []))
unfolding inject_built
inject_check xs = required_are xs inject_built

abbrev pub inject_grammar : Grammar
inject_grammar = record {
  name = codes "inject";
  syntax = inject_syntax;
  rules = inject_built;
  built = inject_are_built;
  known = inject_valued;
  from = inject_from_places;
  passes = inject_passes;
  ends = inject_ends;
  check = inject_check;
  apart = refl;
  flags_apart = refl;
  flags_are = tt;
}

-- ---- `bench`

pub bench_are_built : filled_from 1 (rules_of bench_syntax) ≡ bench_built
unfolding bench_built
bench_are_built = refl

pub bench_valued : (name : Text) → Known bench_syntax bench_built name
unfolding bench_built
bench_valued name =
    unmet refl refl refl

pub bench_from_places : AreFrom bench_syntax bench_built (codes "seed" ∷ codes "size" ∷ []) 1
unfolding bench_built
bench_from_places = (record { by_index = refl; by_id = refl; takes = refl; flag = refl; later = refl; next = refl }, (record { by_index = refl; by_id = refl; takes = refl; flag = refl; later = refl; next = refl }, refl))

pub bench_passes : (xs : List Row) → defaults_fault xs bench_built ≡ []
unfolding bench_built
bench_passes = values_pass bench_built [] refl no_defaults

pub bench_ends : (xs : List Row) → fold with_default xs bench_built ≡ xs
unfolding bench_built
bench_ends = values_keep bench_built [] refl

pub bench_check : (xs : List Row) → list_any (λ a. a.required && not (is_given a.id xs)) bench_built ≡ not (list_all (λ n. is_given n xs) (codes "seed" ∷ codes "size" ∷ []))
unfolding bench_built
bench_check xs = required_are xs bench_built

abbrev pub bench_grammar : Grammar
bench_grammar = record {
  name = codes "bench";
  syntax = bench_syntax;
  rules = bench_built;
  built = bench_are_built;
  known = bench_valued;
  from = bench_from_places;
  passes = bench_passes;
  ends = bench_ends;
  check = bench_check;
  apart = refl;
  flags_apart = refl;
  flags_are = tt;
}
