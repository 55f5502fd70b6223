-- Stretches that may be accessed, in their places.
use Rattle.std.specs.Prelude.{◌≡◌, ℕ, zero, suc, ◌+◌, ◌*◌, ◌/◌, ◌<◌, ◌≤◌, true, List, [], ◌∷◌, Option, Some, None, replicate, slice_set}
use Rattle.std.specs.List.{slice_get}
use Rattle.std.proofs.Common.{sym, subst, arith, inl, inr, ◌∙◌}
use Rattle.ro_region.specs.declared.Range.{Range}
use Rattle.ro_region.specs.declared.Kind.{Kind}
use Rattle.ro_region.proofs.Each.{permits_all}
use Rattle.ro_pages.specs.Bytes.{IsSize}
use Rattle.ro_exec.specs.Next.{Backed}
use Rattle.ro_exec.specs.declared.stretch.Stretch.{Stretch}
use Rattle.ro_exec.specs.Stretches.{IsOpenTo}

-- a stretch of no word
pub nothing : (ranges : List Range) (pages : Backed) (places : ℕ → Option ℕ) (kind : Kind) → IsOpenTo ranges pages places kind (record { from = 0; words = 0; place = 0 })
nothing ranges pages places kind = record {
  aligned = omega arith;
  bounded = omega arith;
  permitted = λ p n low high. permits_all ranges kind p n (omega arith) (λ k l. absurd (omega arith));
  backed = λ p low high. absurd (omega arith);
  kept = λ p low high. absurd (omega arith);
}

-- what stands in a list of one value
pub in_replicate : {X : Type 0} (P : X → Type 0) (n i : ℕ) (x y : X) → P x → slice_get (replicate n x) i ≡ Some y → P y
in_replicate P zero i x y h e = absurd (let f : None ≡ Some y = e in cc)
in_replicate P (suc n) zero x y h e = let f : Some x ≡ Some y = e in let same : x ≡ y = cc in subst P same h
in_replicate P (suc n) (suc i) x y h e = in_replicate P n i x y h e

-- what stands in a list of which one place is set
pub in_set : {X : Type 0} (P : X → Type 0) (xs : List X) (k : ℕ) (x : X) → P x → ((i : ℕ) (y : X) → slice_get xs i ≡ Some y → P y) → (i : ℕ) (y : X) → slice_get (slice_set xs k x) i ≡ Some y → P y
in_set P [] k x h each i y e = each i y e
in_set P (z ∷ xs) zero x h each zero y e = let f : Some x ≡ Some y = e in let same : x ≡ y = cc in subst P same h
in_set P (z ∷ xs) zero x h each (suc i) y e = each (suc i) y e
in_set P (z ∷ xs) (suc k) x h each zero y e = each zero y e
in_set P (z ∷ xs) (suc k) x h each (suc i) y e = in_set P xs k x h (λ j w f. each (suc j) w f) i y e

positive : (n : ℕ) → IsSize n → 0 < n
positive n (inl e) = omega arith
positive n (inr (inl e)) = omega arith
positive n (inr (inr e)) = omega arith

-- what is known of an access that lies in a stretch
pub record MayAccess (ranges : List Range) (pages : Backed) (places : ℕ → Option ℕ) (kind : Kind) (place address size : ℕ) : Type 0 where
  pub backed : pages (address / 4096) ≡ true
  pub kept : places place ≡ Some (address / 4096)

pub within : (ranges : List Range) (pages : Backed) (places : ℕ → Option ℕ) (kind : Kind) (stretch : Stretch) (address size : ℕ) → IsOpenTo ranges pages places kind stretch → IsSize size → stretch.from ≤ address → address + size ≤ stretch.from + 4 * stretch.words → MayAccess ranges pages places kind stretch.place address size
within ranges pages places kind stretch address size h is_size low high =
    let some = positive size is_size in
    record {
      backed = h.backed address low (omega arith);
      kept = h.kept address low (omega arith);
    }

-- the place of the stretch that stands there
pub same_place : (places : ℕ → Option ℕ) (page : ℕ) (stretches : List Stretch) (i : ℕ) (found stretch : Stretch) → slice_get stretches i ≡ Some found → slice_get stretches i ≡ Some stretch → places found.place ≡ Some page → places stretch.place ≡ Some page
same_place places page stretches i found stretch e f h =
    let both : Some found ≡ Some stretch = sym e ∙ f in
    let same : found ≡ stretch = cc in
    subst (λ (s : Stretch). places s.place ≡ Some page) same h
