-- The text of faults, read back.
use Rattle.std.proofs.Common.{ℕ, true, ◌≡◌, ◌+◌, ◌-◌, ◌^◌, ◌<◌, ◌≤◌, ◌&&◌, nat_le, nat_lt, List, [], ◌∷◌, Some, Ok, length, arith, refl, ap, ◌∙◌}
use Rattle.std.specs.List.{list_all}
use Rattle.std.proofs.lemmas.Bool.{and_parts, leb-true, ltb-true, le-leb}
use Rattle.ro_text.specs.Numbers.{within}
use Rattle.ro_text.specs.Lines.{spaced, is_plain, parts_of}
use Rattle.ro_text.proofs.Spellings.{number_spelled, number_value}
use Rattle.ro_text.proofs.Plain.{number_plain, words_back, line_back}
use Rattle.ro_faults.specs.declared.Fault.{Fault}
use Rattle.ro_faults.specs.declared.Target.{Target}
use Rattle.ro_faults.specs.declared.Target.TheVariants.{Register, Pc, Byte}
use Rattle.ro_faults.specs.Texts.{target_words, fault_words, faults_text, target_of, fault_of, is_target, is_fault, ranged, line_fault, lines_faults, file_faults}
use Rattle.ro_faults.proofs.Reading.{cut_before}

pub inside : (least most value : ℕ) → within least most value ≡ true → value ≤ most
inside least most value h = leb-true value most (and_parts (nat_le least value) (nat_le value most) h).1

target_back : (target : Target) → is_target target ≡ true → (list_all is_plain (target_words target) ≡ true) × (target_of (target_words target) ≡ Some target)
target_back (Register number bit) h =
    let parts = and_parts (within 1 31 number) (within 0 31 bit) h in
    let low : number < 2 ^ 64 = omega (arith, inside 1 31 number parts.0) in
    let small : bit < 2 ^ 64 = omega (arith, inside 0 31 bit parts.1) in
    (rw (number_plain number low, number_plain bit small) refl, rw (number_spelled number low, number_spelled bit small, number_value number low, number_value bit small) refl)
target_back (Pc bit) h =
    let small : bit < 2 ^ 64 = omega (arith, inside 0 31 bit h) in
    (rw (number_plain bit small) refl, rw (number_spelled bit small, number_value bit small) refl)
target_back (Byte address bit) h =
    let parts = and_parts (within 0 (2 ^ 32 - 1) address) (within 0 7 bit) h in
    let low : address < 2 ^ 64 = omega (arith, inside 0 (2 ^ 32 - 1) address parts.0) in
    let small : bit < 2 ^ 64 = omega (arith, inside 0 7 bit parts.1) in
    (rw (number_plain address low, number_plain bit small) refl, rw (number_spelled address low, number_spelled bit small, number_value address low, number_value bit small) refl)

fault_back : (replicas : ℕ) (fault : Fault) → replicas < 2 ^ 32 → is_fault replicas fault ≡ true → (list_all is_plain (fault_words fault) ≡ true) × (fault_of (fault_words fault) ≡ Some fault)
fault_back replicas fault most h =
    let a = and_parts (is_target fault.target && nat_lt fault.replica replicas && within 0 15 fault.thread) (within 0 (10 ^ 12) fault.at) h in
    let b = and_parts (is_target fault.target && nat_lt fault.replica replicas) (within 0 15 fault.thread) a.0 in
    let d = and_parts (is_target fault.target) (nat_lt fault.replica replicas) b.0 in
    let replica : fault.replica < 2 ^ 64 = omega (arith, ltb-true fault.replica replicas d.1) in
    let thread : fault.thread < 2 ^ 64 = omega (arith, inside 0 15 fault.thread b.1) in
    let at : fault.at < 2 ^ 64 = omega (arith, inside 0 (10 ^ 12) fault.at a.1) in
    let target = target_back fault.target d.0 in (
      rw (number_plain fault.replica replica, number_plain fault.thread thread, number_plain fault.at at, target.0) refl,
      rw (number_spelled fault.replica replica, number_spelled fault.thread thread, number_spelled fault.at at, number_value fault.replica replica, number_value fault.thread thread, number_value fault.at at, target.1) refl,
    )

lines_back : (replicas line : ℕ) (faults : List Fault) → replicas < 2 ^ 32 → line + length faults ≤ 257 → list_all (is_fault replicas) faults ≡ true → lines_faults replicas line (parts_of (faults_text faults)) ≡ Ok faults
lines_back replicas line [] most few h = refl
lines_back replicas line (fault ∷ faults) most few h =
    let parts = and_parts (is_fault replicas fault) (list_all (is_fault replicas) faults) h in
    let back = fault_back replicas fault most parts.0 in
    let words = fault_words fault in
    let read : line_fault replicas (spaced words) ≡ Ok fault = ap (λ ws. ranged (is_fault replicas) (fault_of ws)) (words_back words (omega arith) back.0) ∙ ap (ranged (is_fault replicas)) back.1 ∙ rw (parts.0) refl in
    let early : nat_le line 256 ≡ true = le-leb line 256 (omega (arith, few)) in
    let last : lines_faults replicas (line + 1) (parts_of (faults_text faults)) ≡ Ok faults = lines_back replicas (line + 1) faults most (omega (arith, few)) parts.1 in
    cut_before replicas line (faults_text (fault ∷ faults)) (spaced words) (faults_text faults) (line_back words (faults_text faults) back.0)
    ∙ rw (read, early, last) refl

pub file_back : (replicas : ℕ) (faults : List Fault) → replicas < 2 ^ 32 → length faults ≤ 256 → list_all (is_fault replicas) faults ≡ true → file_faults replicas (faults_text faults) ≡ Ok faults
file_back replicas faults most few h = lines_back replicas 1 faults most (omega (arith, few)) h
