-- A journal's plan begins with that of its first entries.
use Rattle.std.specs.Prelude.{◌≡◌, ℕ, zero, suc, ◌≤◌, Bool, true, false, cond, ◌==◌, List, [], ◌∷◌, ◌++◌, length, take, drop, replicate}
use Rattle.std.proofs.Common.{refl, sym, ap, ◌∙◌, arith, append_assoc, append-nil, length-append}
use Rattle.std.proofs.lemmas.List.{take-append-drop}
use Rattle.ro_settings.specs.declared.Mode.{Mode}
use Rattle.ro_settings.specs.declared.Mode.TheVariants.{Voted, Cooperative}
use Rattle.ro_journal.specs.declared.Entry.{Entry}
use Rattle.ro_journal.specs.declared.Entry.TheVariants.{Take, Put, Part, Vote, Free, Scrub, End}
use Rattle.ro_journal.specs.Plan.{event_steps, entry_plan, plan_of}
use Rattle.ro_plans.specs.First.{times, first_run, Steps, steps_after, steps_from, steps_of}
use Rattle.ro_plans.specs.Plans.{plan_in}
use Rattle.ro_plans.proofs.Times.{times-append}

-- a list and what follows it
pub record Begins (front whole : List ℕ) : Type 0 where
  pub rest : List ℕ
  pub is : whole ≡ front ++ rest

all-of : (xs : List ℕ) → Begins xs xs
all-of xs = record { rest = []; is = sym (append-nil xs) }

more-of : (xs ys zs : List ℕ) → Begins xs ys → Begins ys zs → Begins xs zs
more-of xs ys zs p q = record { rest = p.rest ++ q.rest; is = q.is ∙ (ap (λ (r : List ℕ). r ++ q.rest) p.is ∙ append_assoc xs p.rest q.rest) }

pub begins-length : (xs ys : List ℕ) → Begins xs ys → length xs ≤ length ys
begins-length xs ys p = omega (arith, ap length p.is, length-append xs p.rest)

pub begins-times : (t : ℕ) (xs ys : List ℕ) → Begins xs ys → times t xs ≤ times t ys
begins-times t xs ys p = omega (arith, ap (times t) p.is, times-append t xs p.rest)

one-begins : (t n : ℕ) (first taken : List ℕ) → ((xs ys : List ℕ) → Begins xs (first_run t n xs ys)) → (b : Bool) → Begins first (first_run t n (cond b (first ++ t ∷ []) first) (taken ++ t ∷ []))
one-begins t n first taken rest true = more-of first (first ++ t ∷ []) _ (record { rest = t ∷ []; is = refl }) (rest (first ++ t ∷ []) (taken ++ t ∷ []))
one-begins t n first taken rest false = rest first (taken ++ t ∷ [])

run-begins : (t n : ℕ) (first taken : List ℕ) → Begins first (first_run t n first taken)
run-begins t zero first taken = all-of first
run-begins t (suc n) first taken = one-begins t n first taken (run-begins t n) (times t first == times t taken)

entry-begins : (s : Steps) (entry : Entry) → Begins s.first (steps_after s entry).first
entry-begins s (Take lease) = all-of s.first
entry-begins s (Put lease n hit) = run-begins lease.thread n s.first (s.taken lease.replica)
entry-begins s (Part lease n hit) = run-begins lease.thread n s.first (s.taken lease.replica)
entry-begins s (Vote t n won lost did) = record { rest = replicate (event_steps did) t; is = refl }
entry-begins s (Free t) = record { rest = t ∷ []; is = refl }
entry-begins s (Scrub won lost) = all-of s.first
entry-begins s (End how) = all-of s.first

from-begins : (s : Steps) (journal : List Entry) → Begins s.first (steps_from s journal).first
from-begins s [] = all-of s.first
from-begins s (entry ∷ journal) = more-of s.first (steps_after s entry).first _ (entry-begins s entry) (from-begins (steps_after s entry) journal)

from-append : (s : Steps) (xs ys : List Entry) → steps_from s (xs ++ ys) ≡ steps_from (steps_from s xs) ys
from-append s [] ys = refl
from-append s (entry ∷ xs) ys = from-append (steps_after s entry) xs ys

-- one entry more
pub steps-more : (xs : List Entry) (entry : Entry) → steps_of (xs ++ entry ∷ []) ≡ steps_after (steps_of xs) entry
steps-more xs entry = from-append _ xs (entry ∷ [])

plan-append : (xs ys : List Entry) → plan_of (xs ++ ys) ≡ plan_of xs ++ plan_of ys
plan-append [] ys = refl
plan-append (entry ∷ xs) ys = ap (λ (r : List ℕ). entry_plan entry ++ r) (plan-append xs ys) ∙ sym (append_assoc (entry_plan entry) (plan_of xs) (plan_of ys))

pub voted-more : (xs : List Entry) (entry : Entry) → plan_of (xs ++ entry ∷ []) ≡ plan_of xs ++ entry_plan entry
voted-more xs entry = plan-append xs (entry ∷ []) ∙ ap (λ (r : List ℕ). plan_of xs ++ r) (append-nil (entry_plan entry))

append-begins : (mode : Mode) (xs ys : List Entry) → Begins (plan_in mode xs) (plan_in mode (xs ++ ys))
append-begins Voted xs ys = record { rest = plan_of ys; is = plan-append xs ys }
append-begins Cooperative xs ys =
    let p = from-begins (steps_of xs) ys in
    record { rest = p.rest; is = ap (λ (s : Steps). s.first) (from-append _ xs ys) ∙ p.is }

pub plan-begins : (mode : Mode) (journal : List Entry) (n : ℕ) → Begins (plan_in mode (take n journal)) (plan_in mode journal)
plan-begins mode journal n =
    let p = append-begins mode (take n journal) (drop n journal) in
    record { rest = p.rest; is = ap (plan_in mode) (sym (take-append-drop n journal)) ∙ p.is }
