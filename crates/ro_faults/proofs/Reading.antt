-- Reading words and lines.
use Rattle.std.proofs.Common.{ℕ, Bool, true, false, Bor, map, ◌≡◌, ◌+◌, ◌<◌, List, [], ◌∷◌, ◌++◌, None, Result, Ok, Err, length, cond, ◌==◌, arith, refl, sym, ap, ◌∙◌, ◌&&◌}
use Rattle.std.proofs.lemmas.List.{append_assoc}
use Rattle.std.proofs.lemmas.List.Splits.{length-slice_split}
use Rattle.ro_text.specs.Numbers.{is_number}
use Rattle.ro_text.specs.Lines.{parts_of}
use Rattle.ro_faults.specs.declared.Fault.{Fault}
use Rattle.ro_faults.specs.declared.errors.FaultsCode.{FaultsCode}
use Rattle.ro_faults.specs.declared.errors.FaultsCode.TheVariants.{Form}
use Rattle.ro_faults.specs.declared.errors.FaultsError.TheVariants.{Bad}
use Rattle.ro_faults.specs.Texts.{fault_of, ranged, before, behind, in_line, counted, line_fault, lines_faults}

pub few_words : (test : Fault → Bool) (words : List (Bor (List ℕ))) → length words < 3 → Err Form ≡ ranged test (fault_of (map (λ word. word.now) words))
few_words test [] h = refl
few_words test (a ∷ []) h = refl
few_words test (a ∷ b ∷ []) h = refl
few_words test (a ∷ b ∷ c ∷ words) h = absurd (omega (arith, h))

alike : {A : Type 0} (b : Bool) (x : A) → cond b x x ≡ x
alike true x = refl
alike false x = refl

pub many_words : (test : Fault → Bool) (words : List (List ℕ)) → 6 < length words → Err Form ≡ ranged test (fault_of words)
many_words test [] h = absurd (omega (arith, h))
many_words test (a ∷ []) h = absurd (omega (arith, h))
many_words test (a ∷ b ∷ []) h = absurd (omega (arith, h))
many_words test (a ∷ b ∷ c ∷ []) h = absurd (omega (arith, h))
many_words test (a ∷ b ∷ c ∷ d ∷ []) h = absurd (omega (arith, h))
many_words test (a ∷ b ∷ c ∷ d ∷ e ∷ []) h = absurd (omega (arith, h))
many_words test (a ∷ b ∷ c ∷ d ∷ e ∷ f ∷ []) h = absurd (omega (arith, h))
many_words test (a ∷ b ∷ c ∷ d ∷ e ∷ f ∷ g ∷ words) h = sym (ap (ranged test) (alike (is_number a && is_number b && is_number c) None))

behind_before : {A E : Type 0} (xs : List A) (x : A) (read : Result (List A) E) → behind xs (before (Ok x) read) ≡ behind (xs ++ x ∷ []) read
behind_before xs x (Ok ys) = ap Ok (sym (append_assoc xs (x ∷ []) ys))
behind_before xs x (Err error) = refl

-- a line before others
line_before : (replicas line : ℕ) (part : List ℕ) (parts : List (List ℕ)) → 0 < length parts → lines_faults replicas line (part ∷ parts) ≡ before (in_line line (counted line (line_fault replicas part))) (lines_faults replicas (line + 1) parts)
line_before replicas line part [] some = absurd (omega (arith, some))
line_before replicas line part (next ∷ parts) some = refl

pub cut_before : (replicas line : ℕ) (rest text after : List ℕ) → parts_of rest ≡ text ∷ parts_of after → lines_faults replicas line (parts_of rest) ≡ before (in_line line (counted line (line_fault replicas text))) (lines_faults replicas (line + 1) (parts_of after))
cut_before replicas line rest text after cut =
    ap (lines_faults replicas line) cut ∙ line_before replicas line text (parts_of after) (omega (arith, length-slice_split (λ b. b == 10) after))

-- a line that gives a fault
pub line_read :
    (replicas line : ℕ) (faults : List Fault) (fault : Fault) (rest text after : List ℕ)
    → parts_of rest ≡ text ∷ parts_of after
    → Ok fault ≡ counted line (line_fault replicas text)
    → behind faults (lines_faults replicas line (parts_of rest)) ≡ behind (faults ++ fault ∷ []) (lines_faults replicas (line + 1) (parts_of after))
line_read replicas line faults fault rest text after cut read =
    let others = lines_faults replicas (line + 1) (parts_of after) in
    ap (behind faults) (cut_before replicas line rest text after cut)
    ∙ ap (λ r. behind faults (before (in_line line r) others)) (sym read)
    ∙ behind_before faults fault others

-- a line that is bad
pub line_refused :
    (replicas line : ℕ) (faults : List Fault) (code : FaultsCode) (rest text after : List ℕ)
    → parts_of rest ≡ text ∷ parts_of after
    → Err code ≡ counted line (line_fault replicas text)
    → behind faults (lines_faults replicas line (parts_of rest)) ≡ Err (Bad line code)
line_refused replicas line faults code rest text after cut read =
    let others = lines_faults replicas (line + 1) (parts_of after) in
    ap (behind faults) (cut_before replicas line rest text after cut)
    ∙ ap (λ r. behind faults (before (in_line line r) others)) (sym read)
