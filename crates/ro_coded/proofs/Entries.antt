-- Entries of which one is set.
use Rattle.std.specs.Prelude.{◌≡◌, ◌≢◌, ℕ, zero, suc, ◌+◌, ◌<◌, List, [], ◌∷◌, Option, Some, None, IfSome, slice_set, replicate}
use Rattle.std.specs.List.{slice_get}
use Rattle.std.proofs.Common.{sym, subst, arith, refl, ap, inl, inr, ◌∙◌}
use Rattle.std.proofs.lemmas.Bool.{cases_eq}
use Rattle.ro_coded.specs.declared.Coded.{Coded}
use Rattle.ro_coded.specs.Coded.{IsCoded, IsEntry, AreCoded, AreOthersKept, Says, silent}
use Rattle.ro_decode.specs.declared.Instr.{Instr}
use Rattle.ro_decode.specs.Table.{instruction_of}

-- what stands in a list of one value
pub in_replicate : (n i : ℕ) (x y : Coded) → slice_get (replicate n x) i ≡ Some y → x ≡ y
in_replicate zero i x y e = absurd (let f : None ≡ Some y = e in cc)
in_replicate (suc n) zero x y e = let f : Some x ≡ Some y = e in cc
in_replicate (suc n) (suc i) x y e = in_replicate n i x y e

-- what stands in a list of which one place is set: there what was set, and elsewhere what stood there
pub at_set : (xs : List Coded) (k : ℕ) (x y : Coded) → slice_get (slice_set xs k x) k ≡ Some y → x ≡ y
at_set [] k x y e = absurd (let f : None ≡ Some y = e in cc)
at_set (z ∷ xs) zero x y e = let f : Some x ≡ Some y = e in cc
at_set (z ∷ xs) (suc k) x y e = at_set xs k x y e

pub beside_set : (xs : List Coded) (k : ℕ) (x : Coded) → AreOthersKept xs (slice_set xs k x) k
beside_set [] k x i apart = refl
beside_set (z ∷ xs) zero x zero apart = absurd (apart refl)
beside_set (z ∷ xs) zero x (suc i) apart = refl
beside_set (z ∷ xs) (suc k) x zero apart = refl
beside_set (z ∷ xs) (suc k) x (suc i) apart = beside_set xs k x i (λ h. apart (ap suc h))

-- entries of which one is set may stand for the words, where it may
pub coded_set : (words after : ℕ → ℕ) (xs : List Coded) (k : ℕ) (x : Coded) → IsCoded (after k) k x → AreCoded words xs → ((i : ℕ) → i ≢ k → after i ≡ words i) → AreCoded after (slice_set xs k x)
coded_set words after xs k x is are same i y low e = elim (cases_eq i k) [
  | inl here ↦
      let at : slice_get (slice_set xs k x) k ≡ Some y = subst (λ (j : ℕ). slice_get (slice_set xs k x) j ≡ Some y) here e in
      let is_x : x ≡ y = at_set xs k x y at in
      subst (λ (j : ℕ). IsCoded (after j) j y) (sym here) (subst (λ (c : Coded). IsCoded (after k) k c) is_x is)
  | inr apart ↦ subst (λ (w : ℕ). IsCoded w i y) (sym (same i apart)) (are i y low (sym (beside_set xs k x i apart) ∙ e))
]

-- the entry that says nothing may stand for each word
pub nothing : (word at : ℕ) → IsCoded word at silent
nothing word at = record { registers = record { rd = omega arith; rs1 = omega arith; rs2 = omega arith }; says = inl refl }

-- the entry of a word may stand for it
pub may_stand : (word at : ℕ) (entry : Coded) → IsEntry word at entry → IsCoded word at entry
may_stand word at entry is = by (instruction_of word) refl where
  by : (o : Option Instr) → instruction_of word ≡ o → IsCoded word at entry
  by None e = record { registers = is.registers; says = inl (ap (λ (c : Coded). c.op) (is.none e)) }
  by (Some instr) e = elim (subst (λ (o : Option Instr). IfSome o (λ i. Says i at entry)) e is.some) [
    | inl meant ↦ record { registers = is.registers; says = inr (e ∙ sym meant) }
    | inr none ↦ record { registers = is.registers; says = inl (ap (λ (c : Coded). c.op) none.0) }
  ]
