-- The numbers of drawn faults are in their ranges.
use Rattle.std.proofs.Common.{◌≡◌, ℕ, zero, suc, ◌+◌, ◌-◌, ◌%◌, ◌^◌, ◌<◌, ◌≤◌, Bool, true, false, ◌&&◌, nat_lt, List, [], ◌∷◌, length, get_or, Option, Some, None, unwrap_or, refl, subst, arith, le-leb, lt-ltb, ltb-true}
use Rattle.std.specs.Prelude.{nat_le, slice_index}
use Rattle.std.specs.List.{All, list_all}
use Rattle.std.proofs.lemmas.Bool.{ltb-false}
use Rattle.std.proofs.lemmas.List.Elements.{All-tail}
use Rattle.std.proofs.Math.Nat.{mod-lt}
use Rattle.ro_text.specs.Numbers.{within}
use Rattle.ro_region.specs.declared.Range.{Range}
use Rattle.ro_image.specs.Image.{addresses_in, AreSegments}
use Rattle.ro_faults.specs.Texts.{is_target, is_fault}
use Rattle.rand_pcg.specs.Lcg.{Lcg}
use Rattle.ro_inject.specs.Draws.{after, word, target_from, target_words, kind_from, fault_from, faults_from}
use Rattle.ro_inject.proofs.Places.{no_range, count-cons, place-here, place-behind}

both : (a b : Bool) → a ≡ true → b ≡ true → (a && b) ≡ true
both true b e f = f
both false b e f = absurd (cc)

lies : (least most n : ℕ) → least ≤ n → n ≤ most → within least most n ≡ true
lies least most n low high = both (nat_le least n) (nat_le n most) (le-leb least n low) (le-leb n most high)

module _ (top : ℕ) where
  abbrev Ends : Range → Type 0
  Ends range = range.start + range.length ≤ top

  low-here : (range : Range) (ranges : List Range) (place : ℕ) → Ends range → place < length (addresses_in (range ∷ ranges))
      → ((p : ℕ) → p < length (addresses_in ranges) → get_or (addresses_in ranges) p 0 < top) → (b : Bool) → nat_lt place range.length ≡ b
      → get_or (addresses_in (range ∷ ranges)) place 0 < top
  low-here range ranges place ends h rest true e =
      let here = place-here (range ∷ ranges) 0 place no_range (omega arith) (ltb-true place range.length e) in
      let small = ltb-true place range.length e in
      omega (arith, here, ends, small)
  low-here range ranges place ends h rest false e =
      let far : range.length ≤ place = ltb-false place range.length e in
      let there : get_or (addresses_in ranges) (place - range.length) 0 ≡ get_or (addresses_in (range ∷ ranges)) place 0 = place-behind (range ∷ ranges) 0 place no_range (omega arith) far in
      let left : place - range.length < length (addresses_in ranges) = let n = count-cons range ranges in omega (arith, n, h, far) in
      subst (λ (a : ℕ). a < top) there (rest (place - range.length) left)

  -- the address of a byte is below what the ranges end at
  address-low : (ranges : List Range) → All Ends ranges → (place : ℕ) → place < length (addresses_in ranges) → get_or (addresses_in ranges) place 0 < top
  address-low [] ends place h = absurd (omega arith)
  address-low (range ∷ ranges) ends place h =
      low-here range ranges place (ends 0 no_range (omega arith)) h (address-low ranges (All-tail Ends range ranges ends)) (nat_lt place range.length) refl

module _ (ranges : List Range) (are : AreSegments ranges) (only : Option ℕ) (replicas : ℕ) (three : 3 ≤ replicas) (fits : unwrap_or only 0 < replicas) where
  target-within : (kind : ℕ) (g : Lcg) → is_target (target_from ranges kind g) ≡ true
  target-within zero g = both (within 1 31 (1 + word 0 g % 31)) (within 0 31 (word 1 g % 32)) (lies 1 31 (1 + word 0 g % 31) (omega arith) (omega arith)) (lies 0 31 (word 1 g % 32) (omega arith) (omega arith))
  target-within (suc zero) g = lies 0 31 (word 0 g % 32) (omega arith) (omega arith)
  target-within (suc (suc kind)) g =
      let size : ℕ = length (addresses_in ranges) in
      let place : word 0 g % size < size = mod-lt (word 0 g) are.some in
      let low : get_or (addresses_in ranges) (word 0 g % size) 0 < 0x40000000 = address-low 0x40000000 ranges are.low (word 0 g % size) place in
      both (within 0 (2 ^ 32 - 1) (slice_index (addresses_in ranges) (word 0 g % size))) (within 0 7 (word 1 g % 8)) (lies 0 (2 ^ 32 - 1) (slice_index (addresses_in ranges) (word 0 g % size)) (omega arith) (omega (arith, low))) (lies 0 7 (word 1 g % 8) (omega arith) (omega arith))

  replica-within : (n : ℕ) (o : Option ℕ) → n < replicas → unwrap_or o 0 < replicas → unwrap_or o n < replicas
  replica-within n None h f = h
  replica-within n (Some r) h f = f

  fault-within : (g : Lcg) → is_fault replicas (fault_from ranges only g) ≡ true
  fault-within g =
      let replica = replica-within (word 0 g % 3) only (omega arith) fits in
      let target : is_target (target_from ranges (kind_from g) (after 4 g)) ≡ true = target-within (kind_from g) (after 4 g) in
      let t2 : nat_lt (unwrap_or only (word 0 g % 3)) replicas ≡ true = lt-ltb _ replicas replica in
      let t3 : within 0 15 (word 1 g % 4) ≡ true = lies 0 15 (word 1 g % 4) (omega arith) (omega arith) in
      let t4 : within 0 (10 ^ 12) (word 2 g % 10000) ≡ true = lies 0 (10 ^ 12) (word 2 g % 10000) (omega arith) (omega arith) in
      simp (target, t2, t3, t4)

  pub faults-within : (count : ℕ) (g : Lcg) → list_all (is_fault replicas) (faults_from ranges only count g) ≡ true
  faults-within zero g = refl
  faults-within (suc count) g =
      both (is_fault replicas (fault_from ranges only g)) (list_all (is_fault replicas) (faults_from ranges only count (after (4 + target_words (kind_from g)) g))) (fault-within g) (faults-within count (after (4 + target_words (kind_from g)) g))
