-- Laws of the command that words spell.
use Rattle.std.proofs.Common.{◌≡◌, ◌∙◌, ℕ, Bool, true, false, not, ◌&&◌, ◌||◌, List, [], ◌∷◌, ◌++◌, Option, Some, None, refl, ap, ap₂, sym, subst, arith, codes, inl, inr}
use Rattle.std.specs.Prelude.{◌==◌, ◌≤◌, nat_le, find, is_none, map, option_and_then, option_map, if◌then◌else◌, IfSome}
use Rattle.std.specs.List.{AllByRecursion, list_all}
use Rattle.std.specs.Str.{bytes_eq}
use Rattle.std.proofs.lemmas.Bool.{cases_Bool, or_cases, eqb-true, leb-true}
use Rattle.std.proofs.lemmas.List.{append_assoc}
use Rattle.std.proofs.lemmas.Slice.Eq.{bytes_eq-Decides}
use Rattle.std.specs.Str.Parse.{digits_value, without_leading_plus}
use Rattle.clap.specs.ValueTests.{is_unsigned_in}
use Rattle.clap.specs.declared.builder.value_parser.ValueParser.TheVariants as vp
use Rattle.clap.proofs.ValueTestLemmas.{accepts-Accepts}
use Rattle.ro_settings.specs.declared.Mode.{Mode}
use Rattle.ro_settings.specs.declared.Mode.TheVariants.{Voted, Cooperative}
use Rattle.ro_settings.specs.declared.Settings.{Settings}
use Rattle.ro_settings.specs.Ranges.{InRange, IsFrom, IsIn, IsReplicas, Range, drivers_range, limit_range, quantum_range, replicas_range, scrub_range, watchdog_range}
use Rattle.ro_words.specs.Commands.{Asked, AskedAudit, AskedPlan, AskedRun, AuditFits, Fits, Spelling, SuitsMode, are_replicas, asked_among, asked_in_words, asked_of, asked_run, audit_from, audit_given, audit_of, audit_spellings, bench_from, bench_given, command_of, given_number, inject_from, inject_given, kept_of, may_have, maybe_for, maybe_number, maybe_replicas, mode_for, most_together, number_for, number_in, number_or, plain_given, plan_given, races_given, replicas_only, run_from, run_given, said_from, said_given, SaidInRange, settings_from, settings_of, spelling_of, spellings, suited, suits_mode, to_plain, to_races, to_run, usual_audit, usual_run}
use Rattle.ro_words.specs.declared.commands.Kept.{Kept}
use Rattle.ro_words.specs.declared.settings.Said.{Said}
use Rattle.ro_words.specs.Uses.{Syntax, Text, Use, flags_in, is_argument, is_once, is_used, is_whole, option_uses, required_of, takes_value, text_of, uses_from, with_use}
use Rattle.ro_words.proofs.Names.{Grammar, IsValued, by_key, flagged, takes_one, unmet}
use Rattle.ro_words.proofs.Once.{and_parts, differ_twice, or_true, same_twice, twice, used-append}
use Rattle.ro_words.proofs.Spelled.{Spoken, found_has, some_same, spelling_in, spelling_is, spoken_of}

pub usual : (program exe : Text) → is_argument exe ≡ true → command_of (program ∷ codes "run" ∷ exe ∷ []) ≡ Some (to_run (usual_run exe))
usual program exe plain = rw plain refl

pub usual_audited : (program exe journal : Text) → is_argument exe ≡ true → is_argument journal ≡ true
    → audit_of (program ∷ codes "audit" ∷ exe ∷ codes "--journal" ∷ journal ∷ []) ≡ Some (usual_audit exe journal)
usual_audited program exe journal plain fits = rw (plain, fits) refl

pub ruleset usual_law = (usual, usual_audited)

-- no command of `romain` has the name of an audit
pub apart_from_audit : (words : List Text) (asked : AskedAudit) → audit_of words ≡ Some asked → command_of words ≡ None
apart_from_audit [] asked is = refl
apart_from_audit (program ∷ []) asked is = refl
apart_from_audit (program ∷ command ∷ words) asked is =
    by_key (λ name. audit_of (program ∷ name ∷ words) ≡ Some asked → command_of (program ∷ name ∷ words) ≡ None) (codes "audit") command
    (λ same. subst (λ (name : Text). audit_of (program ∷ name ∷ words) ≡ Some asked → command_of (program ∷ name ∷ words) ≡ None) same (λ e. refl))
    (λ other e. let bad : None ≡ Some asked = rw other at e in cc) is

-- ---- ranges

-- a number that is read lies in its range
pub in_from : (least most n : ℕ) (text : Text) → number_in least most text ≡ Some n → IsFrom least most n
in_from least most n text is = elim (cases_Bool (is_unsigned_in least most text)) [
  | inl accepted ↦
      let bounds = accepts-Accepts false (vp.Unsigned least most) text accepted in
      let taken : Some (digits_value 10 (without_leading_plus text)) ≡ Some n = rw accepted at is in
      let same : digits_value 10 (without_leading_plus text) ≡ n = cc in
      subst (λ (x : ℕ). IsFrom least most x) same (bounds.2, bounds.3)
  | inr other ↦ let bad : None ≡ Some n = rw other at is in cc
]

pub from_number : (usual least most n : ℕ) (given : Option Text) → IsFrom least most usual → number_or usual least most given ≡ Some n → IsFrom least most n
from_number usual least most n None fits is = let same : usual ≡ n = cc in subst (λ (x : ℕ). IsFrom least most x) same fits
from_number usual least most n (Some text) fits is = in_from least most n text is

-- settings are made of a mode and six numbers
pub made_of : (m : Option Mode) (a b c d e f : Option ℕ) (s : Settings) → settings_from m a b c d e f ≡ Some s
    → (a ≡ Some s.replicas) × (b ≡ Some s.drivers) × (c ≡ Some s.watchdog) × (d ≡ Some s.quantum) × (e ≡ Some s.limit) × (f ≡ Some s.scrub) × (m ≡ Some s.mode)
made_of (Some m) (Some a) (Some b) (Some c) (Some d) (Some e) (Some f) s is =
    let same : record { mode = m; replicas = a; drivers = b; watchdog = c; quantum = d; limit = e; scrub = f } ≡ s = some_same _ s is in (
      ap (λ (x : Settings). Some x.replicas) same,
      ap (λ (x : Settings). Some x.drivers) same,
      ap (λ (x : Settings). Some x.watchdog) same,
      ap (λ (x : Settings). Some x.quantum) same,
      ap (λ (x : Settings). Some x.limit) same,
      ap (λ (x : Settings). Some x.scrub) same,
      ap (λ (x : Settings). Some x.mode) same,
    )
made_of None a b c d e f s is = cc
made_of (Some m) None b c d e f s is = cc
made_of (Some m) (Some a) None c d e f s is = cc
made_of (Some m) (Some a) (Some b) None d e f s is = cc
made_of (Some m) (Some a) (Some b) (Some c) None e f s is = cc
made_of (Some m) (Some a) (Some b) (Some c) (Some d) None f s is = cc
made_of (Some m) (Some a) (Some b) (Some c) (Some d) (Some e) None s is = cc

-- so many replicas are two, three or five
which : (n : ℕ) → are_replicas n ≡ true → IsReplicas n
which n is = elim (or_cases ((n == 2) || (n == 3)) (n == 5) is) [
  | inl few ↦ elim (or_cases (n == 2) (n == 3) few) [
    | inl two ↦ inl (eqb-true n 2 two)
    | inr three ↦ inr (inl (eqb-true n 3 three))
  ]
  | inr five ↦ inr (inr (eqb-true n 5 five))
]

are : (n : ℕ) → IsReplicas n → are_replicas n ≡ true
are n (inl two) = subst (λ (m : ℕ). are_replicas m ≡ true) (sym two) refl
are n (inr (inl three)) = subst (λ (m : ℕ). are_replicas m ≡ true) (sym three) refl
are n (inr (inr five)) = subst (λ (m : ℕ). are_replicas m ≡ true) (sym five) refl

pub only_some : (o : Option ℕ) (n : ℕ) → replicas_only o ≡ Some n → (o ≡ Some n) × IsReplicas n
only_some None n is = cc
only_some (Some m) n is = by (are_replicas m) refl is
  where
    by : (b : Bool) → are_replicas m ≡ b → (if b then Some m else None) ≡ Some n → (Some m ≡ Some n) × IsReplicas n
    by true e f = (f, subst IsReplicas (some_same m n f) (which m e))
    by false e f = cc

pub only_fits : (n : ℕ) → IsReplicas n → replicas_only (Some n) ≡ Some n
only_fits n fits = ap (λ (b : Bool). if b then Some n else None) (are n fits)

-- settings in a mode, whose numbers lie in their ranges
abbrev Ranged : Option Mode → Settings → Type 0
Ranged mode s = InRange s × (mode ≡ Some s.mode)

pub settings_fit : (mode : Option Mode) (given : Text → Option Text) (s : Settings) → settings_of mode given ≡ Some s → Ranged mode s
settings_fit mode given s is =
    let parts = made_of _ _ _ _ _ _ _ s is in
    let of : (range : Range) (n : ℕ) → IsIn range range.usual → number_for range given ≡ Some n → IsIn range n = λ range n. from_number range.usual range.least range.most n (given range.name) in (
      record {
        replicas = (only_some (number_for replicas_range given) s.replicas parts.0).1;
        drivers = of drivers_range s.drivers (omega arith, omega arith) parts.1;
        watchdog = of watchdog_range s.watchdog (omega arith, omega arith) parts.2;
        quantum = of quantum_range s.quantum (omega arith, omega arith) parts.3;
        limit = of limit_range s.limit (omega arith, omega arith) parts.4;
        scrub = of scrub_range s.scrub (omega arith, omega arith) parts.5;
      },
      parts.6,
    )

run_from_fits : (mode : Option Mode) (exe : Option Text) (settings : Option Settings) (kept : Option Kept) (given : Text → Option Text) (asked : AskedRun)
    → ((s : Settings) → settings ≡ Some s → Ranged mode s) → run_from exe settings kept given ≡ Some asked → Ranged mode asked.settings
run_from_fits mode None settings kept given asked ranged is = cc
run_from_fits mode (Some exe) None kept given asked ranged is = cc
run_from_fits mode (Some exe) (Some settings) None given asked ranged is = cc
run_from_fits mode (Some exe) (Some settings) (Some kept) given asked ranged is =
    subst (λ (run : AskedRun). Ranged mode run.settings) (some_same _ asked is) (ranged settings refl)

asked_fits : (mode : Option Mode) (kept : Option Kept) (given : Text → Option Text) (asked : AskedRun) → asked_run mode kept given ≡ Some asked → Ranged mode asked.settings
asked_fits mode kept given asked is =
    run_from_fits mode (given (codes "exe")) (settings_of mode given) kept given asked (λ s e. settings_fit mode given s e) is

none_is : {X : Type 0} (o : Option X) → is_none o ≡ true → o ≡ None
none_is None e = refl
none_is (Some x) e = cc

may_have_suits : (mode : Mode) (faults : Option Text) (scrub limit : ℕ) → may_have mode faults scrub limit ≡ true → mode ≡ Cooperative → (faults ≡ None) × (scrub ≡ 0) × (limit ≤ most_together)
may_have_suits Voted faults scrub limit may is = cc
may_have_suits Cooperative faults scrub limit may is =
    let parts = and_parts (is_none faults) ((scrub == 0) && nat_le limit most_together) may in
    let numbers = and_parts (scrub == 0) (nat_le limit most_together) parts.1 in
    (none_is faults parts.0, eqb-true scrub 0 numbers.0, leb-true limit most_together numbers.1)

pub suits : (run : AskedRun) → suits_mode run ≡ true → SuitsMode run
suits run may = may_have_suits run.settings.mode run.faults run.settings.scrub run.settings.limit may

suited_fits : (run : AskedRun) (asked : Asked) → InRange run.settings → option_map (λ r. to_run r) (suited run) ≡ Some asked → Fits asked
suited_fits run asked ranged is = elim (cases_Bool (suits_mode run)) [
  | inl may ↦ let same : Some (to_run run) ≡ Some asked = rw may at is in subst Fits (some_same (to_run run) asked same) (ranged, suits run may)
  | inr not ↦ let bad : None ≡ Some asked = rw not at is in cc
]

run_fits : (given : Text → Option Text) (flags : Text → Bool) (asked : Asked) → run_given given flags ≡ Some asked → Fits asked
run_fits given flags asked is = by (asked_run (mode_for given) kept given) refl is
  where
    kept : Option Kept
    kept = kept_of (flags (codes "journal")) (flags (codes "record"))

    by : (o : Option AskedRun) → asked_run (mode_for given) kept given ≡ o → option_map (λ run. to_run run) (option_and_then suited o) ≡ Some asked → Fits asked
    by None e f = cc
    by (Some run) e f = suited_fits run asked (asked_fits (mode_for given) kept given run e).0 f

-- what is said of replicas
said_replicas : (o : Option (Option ℕ)) (said : Option ℕ) → maybe_replicas o ≡ Some said → IfSome said IsReplicas
said_replicas None said is = cc
said_replicas (Some None) said is = subst (λ (x : Option ℕ). IfSome x IsReplicas) (some_same None said is) tt
said_replicas (Some (Some n)) said is = by (are_replicas n) refl is
  where
    by : (b : Bool) → are_replicas n ≡ b → (if b then Some (Some n) else None) ≡ Some said → IfSome said IsReplicas
    by true e f = subst (λ (x : Option ℕ). IfSome x IsReplicas) (some_same (Some n) said f) (which n e)
    by false e f = cc

-- what is said of another number
said_number : (least most : ℕ) (text : Option Text) (said : Option ℕ) → maybe_number least most text ≡ Some said → IfSome said (IsFrom least most)
said_number least most None said is = subst (λ (x : Option ℕ). IfSome x (IsFrom least most)) (some_same None said is) tt
said_number least most (Some text) said is = by (number_in least most text) refl is
  where
    by : (n : Option ℕ) → number_in least most text ≡ n → option_map (λ x. Some x) n ≡ Some said → IfSome said (IsFrom least most)
    by None e f = cc
    by (Some n) e f = subst (λ (x : Option ℕ). IfSome x (IsFrom least most)) (some_same (Some n) said f) (in_from least most n text e)

-- what is said is made of six numbers
said_of : (a b c d e f : Option (Option ℕ)) (said : Said) → said_from a b c d e f ≡ Some said
    → (a ≡ Some said.replicas) × (b ≡ Some said.drivers) × (c ≡ Some said.watchdog) × (d ≡ Some said.quantum) × (e ≡ Some said.limit) × (f ≡ Some said.scrub)
said_of (Some a) (Some b) (Some c) (Some d) (Some e) (Some f) said is =
    let same : record { replicas = a; drivers = b; watchdog = c; quantum = d; limit = e; scrub = f } ≡ said = some_same _ said is in (
      ap (λ (x : Said). Some x.replicas) same,
      ap (λ (x : Said). Some x.drivers) same,
      ap (λ (x : Said). Some x.watchdog) same,
      ap (λ (x : Said). Some x.quantum) same,
      ap (λ (x : Said). Some x.limit) same,
      ap (λ (x : Said). Some x.scrub) same,
    )
said_of None b c d e f said is = cc
said_of (Some a) None c d e f said is = cc
said_of (Some a) (Some b) None d e f said is = cc
said_of (Some a) (Some b) (Some c) None e f said is = cc
said_of (Some a) (Some b) (Some c) (Some d) None f said is = cc
said_of (Some a) (Some b) (Some c) (Some d) (Some e) None said is = cc

pub said_fits : (given : Text → Option Text) (said : Said) → said_given given ≡ Some said → SaidInRange said
said_fits given said is =
    let parts = said_of _ _ _ _ _ _ said is in
    let of : (range : Range) (n : Option ℕ) → maybe_for range given ≡ Some n → IfSome n (IsIn range) = λ range n. said_number range.least range.most (given range.name) n in
    record {
      replicas = said_replicas (maybe_for replicas_range given) said.replicas parts.0;
      drivers = of drivers_range said.drivers parts.1;
      watchdog = of watchdog_range said.watchdog parts.2;
      quantum = of quantum_range said.quantum parts.3;
      limit = of limit_range said.limit parts.4;
      scrub = of scrub_range said.scrub parts.5;
    }

audit_from_fits : (exe : Option Text) (said : Option Said) (journal input faults : Option Text) (json : Bool) (asked : AskedAudit)
    → ((s : Said) → said ≡ Some s → SaidInRange s) → audit_from exe said journal input faults json ≡ Some asked → AuditFits asked
audit_from_fits None said journal input faults json asked ranged is = cc
audit_from_fits (Some exe) None journal input faults json asked ranged is = cc
audit_from_fits (Some exe) (Some said) None input faults json asked ranged is = cc
audit_from_fits (Some exe) (Some said) (Some journal) input faults json asked ranged is = subst AuditFits (some_same _ asked is) (ranged said refl)

audit_fits : (given : Text → Option Text) (flags : Text → Bool) (asked : AskedAudit) → audit_given given flags ≡ Some asked → AuditFits asked
audit_fits given flags asked is =
    audit_from_fits (given (codes "exe")) (said_given given) (given (codes "journal")) (given (codes "input")) (given (codes "faults")) (flags (codes "json")) asked (said_fits given) is

plan_fits : (asks : AskedPlan → Asked) → ((plan : AskedPlan) → Fits (asks plan)) → (o : Option AskedPlan) (asked : Asked) → option_map asks o ≡ Some asked → Fits asked
plan_fits asks fits None asked is = cc
plan_fits asks fits (Some plan) asked is = subst Fits (some_same (asks plan) asked is) (fits plan)

plain_fits : (given : Text → Option Text) (flags : Text → Bool) (asked : Asked) → plain_given given flags ≡ Some asked → Fits asked
plain_fits given flags asked is = plan_fits (λ plan. to_plain plan) (λ plan. tt) (plan_given given) asked is

races_fits : (given : Text → Option Text) (flags : Text → Bool) (asked : Asked) → races_given given flags ≡ Some asked → Fits asked
races_fits given flags asked is = plan_fits (λ plan. to_races plan) (λ plan. tt) (plan_given given) asked is

given_from : (least most n : ℕ) (given : Option Text) → given_number least most given ≡ Some n → IsFrom least most n
given_from least most n None is = cc
given_from least most n (Some text) is = in_from least most n text is

inject_from_fits : (seed count : Option ℕ) (exe : Option Text) (replica : Option (Option ℕ)) (asked : Asked) → ((n : ℕ) → count ≡ Some n → IsFrom 1 256 n)
    → ((o : Option ℕ) → replica ≡ Some o → IfSome o (IsFrom 0 4)) → inject_from seed count exe replica ≡ Some asked → Fits asked
inject_from_fits None count exe replica asked few within is = cc
inject_from_fits (Some seed) None exe replica asked few within is = cc
inject_from_fits (Some seed) (Some count) None replica asked few within is = cc
inject_from_fits (Some seed) (Some count) (Some exe) None asked few within is = cc
inject_from_fits (Some seed) (Some count) (Some exe) (Some replica) asked few within is = subst Fits (some_same _ asked is) (few count refl, within replica refl)

inject_fits : (given : Text → Option Text) (flags : Text → Bool) (asked : Asked) → inject_given given flags ≡ Some asked → Fits asked
inject_fits given flags asked is = inject_from_fits _ _ (given (codes "exe")) _ asked (λ n e. given_from 1 256 n (given (codes "count")) e) (said_number 0 4 (given (codes "replica"))) is

bench_from_fits : (seed size : Option ℕ) (asked : Asked) → ((n : ℕ) → size ≡ Some n → IsFrom 1 2000 n) → bench_from seed size ≡ Some asked → Fits asked
bench_from_fits None size asked few is = cc
bench_from_fits (Some seed) None asked few is = cc
bench_from_fits (Some seed) (Some size) asked few is = subst Fits (some_same _ asked is) (few size refl)

bench_fits : (given : Text → Option Text) (flags : Text → Bool) (asked : Asked) → bench_given given flags ≡ Some asked → Fits asked
bench_fits given flags asked is = bench_from_fits _ _ asked (λ n e. given_from 1 2000 n (given (codes "size")) e) is

module _ {A : Type 0} (Ranged : A → Type 0) where
  -- whatever texts are given, what is asked for is in range
  abbrev pub GivesRanged : Spelling A → Type 0
  GivesRanged s = (given : Text → Option Text) (flags : Text → Bool) (asked : A) → s.given given flags ≡ Some asked → Ranged asked

  uses_fit : (s : Spelling A) (uses : List Use) (asked : A) → GivesRanged s → asked_of s uses ≡ Some asked → Ranged asked
  uses_fit s uses asked fits is = elim (cases_Bool (is_whole s.syntax uses)) [
    | inl whole ↦ let given : s.given (text_of uses) (flags_in uses) ≡ Some asked = rw whole at is in fits (text_of uses) _ asked given
    | inr part ↦ let bad : None ≡ Some asked = rw part at is in cc
  ]

  read_fits : (s : Spelling A) (read : Option (List Use)) (asked : A) → GivesRanged s → option_and_then (asked_of s) read ≡ Some asked → Ranged asked
  read_fits s None asked fits is = cc
  read_fits s (Some uses) asked fits is = uses_fit s uses asked fits is

  pub words_fit : (ss : List (Spelling A)) (words : List Text) (asked : A) → AllByRecursion GivesRanged ss → asked_among ss words ≡ Some asked → Ranged asked
  words_fit ss [] asked fits is = cc
  words_fit ss (program ∷ []) asked fits is = cc
  words_fit ss (program ∷ command ∷ words) asked fits is = by (spelling_of ss command) refl is
    where
      by : (o : Option (Spelling A)) → spelling_of ss command ≡ o → option_and_then (asked_in_words words) o ≡ Some asked → Ranged asked
      by None e f = cc
      by (Some s) e f = read_fits s (uses_from s.syntax words s.syntax.places None) asked (found_has GivesRanged _ ss s fits e) f

pub command_fits : (words : List Text) (asked : Asked) → command_of words ≡ Some asked → Fits asked
command_fits words asked = words_fit Fits spellings words asked (run_fits, (plain_fits, (races_fits, (inject_fits, (bench_fits, tt)))))

pub audit_in_range : (words : List Text) (asked : AskedAudit) → audit_of words ≡ Some asked → AuditFits asked
audit_in_range words asked = words_fit AuditFits audit_spellings words asked (audit_fits, tt)

-- ---- order

or_swap : (a b c : Bool) → (a || (b || c)) ≡ (b || (a || c))
or_swap true true c = refl
or_swap true false c = refl
or_swap false b c = refl

and_swap : (a b c : Bool) → (a && (b && c)) ≡ (b && (a && c))
and_swap true b c = refl
and_swap false true c = refl
and_swap false false c = refl

used_swap : (name : Text) (before : List Use) (u v : Use) (behind : List Use)
    → is_used name (before ++ u ∷ v ∷ behind) ≡ is_used name (before ++ v ∷ u ∷ behind)
used_swap name [] u v behind = or_swap (bytes_eq u.0 name) (bytes_eq v.0 name) (is_used name behind)
used_swap name (w ∷ before) u v behind = ap (λ (b : Bool). bytes_eq w.0 name || b) (used_swap name before u v behind)

once_swap : (before : List Use) (u v : Use) (behind : List Use) → bytes_eq u.0 v.0 ≡ false
    → is_once (before ++ u ∷ v ∷ behind) ≡ is_once (before ++ v ∷ u ∷ behind)
once_swap [] u v behind differ =
    rw (differ, differ_twice u.0 v.0 differ) (and_swap (not (is_used u.0 behind)) (not (is_used v.0 behind)) (is_once behind))
once_swap (w ∷ before) u v behind differ =
    ap₂ (λ (a b : Bool). not a && b) (used_swap w.0 before u v behind) (once_swap before u v behind differ)

both_named : (name a b : Text) → bytes_eq a name ≡ true → bytes_eq b name ≡ true → bytes_eq a b ≡ true
both_named name a b x y = (bytes_eq-Decides a b).1 ((bytes_eq-Decides a name).0 x ∙ sym ((bytes_eq-Decides b name).0 y))

find_two : (name : Text) (u v : Use) (behind : List Use) → bytes_eq u.0 v.0 ≡ false
    → find (λ w. bytes_eq w.0 name) (u ∷ v ∷ behind) ≡ find (λ w. bytes_eq w.0 name) (v ∷ u ∷ behind)
find_two name u v behind differ = elim (cases_Bool (bytes_eq u.0 name)) [
  | inl here ↦ elim (cases_Bool (bytes_eq v.0 name)) [
    | inl there ↦ let bad : true ≡ false = sym (both_named name u.0 v.0 here there) ∙ differ in cc
    | inr none ↦ rw (here, none) refl
  ]
  | inr none ↦ rw none refl
]

find_swap : (name : Text) (before : List Use) (u v : Use) (behind : List Use) → bytes_eq u.0 v.0 ≡ false
    → find (λ w. bytes_eq w.0 name) (before ++ u ∷ v ∷ behind) ≡ find (λ w. bytes_eq w.0 name) (before ++ v ∷ u ∷ behind)
find_swap name [] u v behind differ = find_two name u v behind differ
find_swap name (w ∷ before) u v behind differ = elim (cases_Bool (bytes_eq w.0 name)) [
  | inl here ↦ rw here refl
  | inr none ↦ rw none (find_swap name before u v behind differ)
]

asked_swap : {A : Type 0} (s : Spelling A) (before : List Use) (u v : Use) (behind : List Use) → bytes_eq u.0 v.0 ≡ false
    → s.given (text_of (before ++ u ∷ v ∷ behind)) (flags_in (before ++ u ∷ v ∷ behind))
    ≡ s.given (text_of (before ++ v ∷ u ∷ behind)) (flags_in (before ++ v ∷ u ∷ behind))
asked_swap s before u v behind differ =
    let texts : (name : Text) → text_of (before ++ u ∷ v ∷ behind) name ≡ text_of (before ++ v ∷ u ∷ behind) name =
    λ name. ap (option_map (λ (w : Use). w.1)) (find_swap name before u v behind differ) in
    let given : text_of (before ++ u ∷ v ∷ behind) ≡ text_of (before ++ v ∷ u ∷ behind) = λ i name. texts name i in
    let flags : flags_in (before ++ u ∷ v ∷ behind) ≡ flags_in (before ++ v ∷ u ∷ behind) = λ i name. used_swap name before u v behind i in
    ap₂ s.given given flags

all_swap : (names : List Text) (before : List Use) (u v : Use) (behind : List Use)
    → list_all (λ n. is_used n (before ++ u ∷ v ∷ behind)) names ≡ list_all (λ n. is_used n (before ++ v ∷ u ∷ behind)) names
all_swap [] before u v behind = refl
all_swap (name ∷ names) before u v behind = ap₂ (λ (a b : Bool). a && b) (used_swap name before u v behind) (all_swap names before u v behind)

-- two uses of one name
not_once : (before : List Use) (u v : Use) (behind : List Use) → bytes_eq u.0 v.0 ≡ true → is_once (before ++ u ∷ v ∷ behind) ≡ false
not_once before u v behind same =
    let used : is_used v.0 (before ++ u ∷ []) ≡ true = used-append v.0 before (u ∷ []) ∙ rw same (or_true (is_used v.0 before)) in
    ap is_once (sym (append_assoc before (u ∷ []) (v ∷ behind))) ∙ twice (before ++ u ∷ []) behind v used

pub swapped : {A : Type 0} (s : Spelling A) (before : List Use) (u v : Use) (behind : List Use) → asked_of s (before ++ u ∷ v ∷ behind) ≡ asked_of s (before ++ v ∷ u ∷ behind)
swapped {A} s before u v behind = elim (cases_Bool (bytes_eq u.0 v.0)) [
  | inl same ↦ rw (not_once before u v behind same, not_once before v u behind (same_twice u.0 v.0 same)) refl
  | inr differ ↦ ap₂ (λ (b : Bool) (o : Option A). if b then o else None)
      (ap₂ (λ (a b : Bool). a && b) (once_swap before u v behind differ) (all_swap (required_of s.syntax) before u v behind)) (asked_swap s before u v behind differ)
]

pub command_swapped : (s : Spelling Asked) (before : List Use) (u v : Use) (behind : List Use) → asked_of s (before ++ u ∷ v ∷ behind) ≡ asked_of s (before ++ v ∷ u ∷ behind)
command_swapped s before u v behind = swapped s before u v behind

pub audit_swapped : (s : Spelling AskedAudit) (before : List Use) (u v : Use) (behind : List Use) → asked_of s (before ++ u ∷ v ∷ behind) ≡ asked_of s (before ++ v ∷ u ∷ behind)
audit_swapped s before u v behind = swapped s before u v behind

pub ruleset order_law = (command_swapped, audit_swapped)

-- ---- spelling

module _ (g : Grammar) (name value : Text) (words left : List Text) where
  together : IsValued g.syntax g.rules name → is_argument value ≡ true
      → option_uses g.syntax name (Some value) (λ next. uses_from g.syntax words left next) ≡ with_use (name, value) (uses_from g.syntax words left None)
  together valued fits = rw (valued.takes, fits) refl

  apart : IsValued g.syntax g.rules name → is_argument value ≡ true
      → option_uses g.syntax name None (λ next. uses_from g.syntax (value ∷ words) left next) ≡ with_use (name, value) (uses_from g.syntax words left None)
  apart valued fits = rw (valued.takes, fits) refl

  agree : IsValued g.syntax g.rules name → is_argument value ≡ true
      → uses_from g.syntax ((45 ∷ 45 ∷ (name ++ 61 ∷ value)) ∷ words) left None ≡ uses_from g.syntax ((45 ∷ 45 ∷ name) ∷ value ∷ words) left None
  agree valued fits =
      let one : uses_from g.syntax ((45 ∷ 45 ∷ (name ++ 61 ∷ value)) ∷ words) left None ≡ with_use (name, value) (uses_from g.syntax words left None) =
      ap (option_and_then (λ (p : Text × Option Text). option_uses g.syntax p.0 p.1 (λ next. uses_from g.syntax words left next))) (valued.cut value)
      ∙ together valued fits in
      let two : uses_from g.syntax ((45 ∷ 45 ∷ name) ∷ value ∷ words) left None ≡ with_use (name, value) (uses_from g.syntax words left None) =
      ap (option_and_then (λ (p : Text × Option Text). option_uses g.syntax p.0 p.1 (λ next. uses_from g.syntax (value ∷ words) left next))) valued.alone
      ∙ apart valued fits in
      one ∙ sym two

  alike_in : takes_value g.syntax name ≡ true → is_argument value ≡ true
      → uses_from g.syntax ((45 ∷ 45 ∷ (name ++ 61 ∷ value)) ∷ words) left None ≡ uses_from g.syntax ((45 ∷ 45 ∷ name) ∷ value ∷ words) left None
  alike_in takes fits = elim (g.known name) [
    | takes_one valued ↦ agree valued fits
    | flagged flag ↦ let bad : false ≡ true = sym flag.takes ∙ takes in cc
    | unmet none flag unknown ↦ let bad : false ≡ true = sym none ∙ takes in cc
  ]

abbrev AlikeIn : Text → Text → List Text → List Text → Syntax → Type 0
AlikeIn name value words left s = takes_value s name ≡ true → is_argument value ≡ true
    → uses_from s ((45 ∷ 45 ∷ (name ++ 61 ∷ value)) ∷ words) left None ≡ uses_from s ((45 ∷ 45 ∷ name) ∷ value ∷ words) left None

pub spelled_alike : {A : Type 0} (cs : List (Spoken A)) (command : Text) (s : Spelling A) (name value : Text) (words left : List Text)
    → spelling_of (map spelling_in cs) command ≡ Some s → AlikeIn name value words left s.syntax
spelled_alike {A} cs command s name value words left is = by (spoken_of cs command) (sym (spelling_is cs command) ∙ is)
  where
    by : (o : Option (Spoken A)) → option_map spelling_in o ≡ Some s → AlikeIn name value words left s.syntax
    by None e = cc
    by (Some c) e = subst (λ (x : Spelling A). AlikeIn name value words left x.syntax) (some_same (spelling_in c) s e) (alike_in c.grammar name value words left)
