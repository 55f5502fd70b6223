-- A page that is backed with zeros changes no byte.
use Rattle.std.specs.Prelude.{◌≡◌, ℕ, zero, suc, ◌/◌, ◌%◌, false, ◌||◌, ◌==◌, List, replicate, Option, Some, None, slice_index, is_some}
use Rattle.std.proofs.Common.{refl, sym, ap, ◌∙◌, inl, inr, arith}
use Rattle.std.proofs.lemmas.Bool.{cases_eq, true≢false, eq-eqb}
use Rattle.std.proofs.lemmas.Bool.Decides.{nat_tests}
use Rattle.std.specs.Ordering.{nat_cmp}
use Rattle.std.specs.FinMap as map
use Rattle.std.specs.FinMap.{FinMap}
use mathlib.Core.Path.{fun_ext}
use Rattle.ro_pages.specs.Held.{byte_in, memory_of, has_page, zeros}
use Rattle.ro_pages.proofs.PageBytes.{same_get, other_get}

index-replicate : (n i : ℕ) → slice_index (replicate n 0) i ≡ 0
index-replicate zero i = refl
index-replicate (suc n) zero = refl
index-replicate (suc n) (suc i) = index-replicate n i

index-zeros : (i : ℕ) → slice_index zeros i ≡ 0
unfolding zeros
index-zeros i = index-replicate 4096 i

byte_unbacked : (o : Option (List ℕ)) (i : ℕ) → is_some o ≡ false → byte_in o i ≡ 0
byte_unbacked None i h = refl
byte_unbacked (Some bytes) i h = absurd (true≢false h)

-- the bytes stay
pub same_memory : (m : FinMap nat_cmp (List ℕ)) (page : ℕ) → has_page m page ≡ false → memory_of (map.insert m page zeros) ≡ memory_of m
same_memory m page h = fun_ext (λ a. elim (cases_eq (a / 4096) page) [
  | inl same ↦
      ap (λ q. byte_in (map.get (map.insert m page zeros) q) (a % 4096)) same ∙ ap (λ o. byte_in o (a % 4096)) (same_get m page zeros) ∙ index-zeros (a % 4096)
      ∙ sym (ap (λ q. byte_in (map.get m q) (a % 4096)) same ∙ byte_unbacked (map.get m page) (a % 4096) h)
  | inr other ↦ ap (λ o. byte_in o (a % 4096)) (other_get m page (a / 4096) zeros other)
])

not_equal : (q page : ℕ) → (q ≡ page → ⊥) → (q == page) ≡ false
not_equal q page h = grind (arith, nat_tests)

-- and this page is backed besides
pub one_more : (m : FinMap nat_cmp (List ℕ)) (page q : ℕ) → has_page (map.insert m page zeros) q ≡ ((q == page) || has_page m q)
one_more m page q = elim (cases_eq q page) [
  | inl same ↦ ap (λ k. has_page (map.insert m page zeros) k) same ∙ ap is_some (same_get m page zeros) ∙ sym (ap (λ b. b || has_page m q) (eq-eqb q page same))
  | inr other ↦ ap is_some (other_get m page q zeros other) ∙ sym (ap (λ b. b || has_page m q) (not_equal q page other))
]
