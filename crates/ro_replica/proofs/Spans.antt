-- The pages of a stretch.
use Rattle.std.specs.Prelude.{◌≡◌, ℕ, ◌+◌, ◌-◌, ◌/◌, ◌<◌, ◌≤◌, ◌==◌, ◌&&◌, ◌||◌, Bool, true, false, nat_le, nat_lt}
use Rattle.std.proofs.Common.{refl, sym, ap, ap₂, ◌∙◌, arith, Option, Some}
use Rattle.std.proofs.lemmas.Bool.{or_right}
use Rattle.std.proofs.lemmas.Bool.Decides.{nat_tests}
use mathlib.Core.Path.{fun_ext}
use Rattle.ro_pages.specs.Bytes.{covers_page}
use Rattle.ro_replica.specs.Replica.{is_page}

-- whether a page is one of those from the first to before the end
abbrev pub is_between : (first end page : ℕ) → Bool
is_between first end page = nat_le first page && nat_lt page end

-- no page so far
none_between : (old : ℕ → Bool) (first : ℕ) → old ≡ (λ page. old page || is_between first first page)
none_between old first = fun_ext (λ page. grind (arith, nat_tests))

more_at : (b : Bool) (first i page : ℕ) → first ≤ i → ((b || is_between first i page) || (page == i)) ≡ (b || is_between first (i + 1) page)
more_at true first i page h = refl
more_at false first i page h = grind (arith, nat_tests)

-- one page more
pub more_between : (old mid new : ℕ → Bool) (first i : ℕ) → first ≤ i → mid ≡ (λ page. old page || is_between first i page) → new ≡ (λ page. mid page || (page == i)) → new ≡ (λ page. old page || is_between first (i + 1) page)
more_between old mid new first i h e f = fun_ext (λ page. ap (λ g. g page) f ∙ ap (λ b. b || (page == i)) (ap (λ g. g page) e) ∙ more_at (old page) first i page h)

covers_at : (place count page : ℕ) → 0 < count → is_between (place / 4096) ((place + count + 4095) / 4096) page ≡ covers_page (record { place = place; count = count }) page
covers_at place count page h = let e : (place + count + 4095) / 4096 ≡ (place + count - 1) / 4096 + 1 = omega arith in grind (arith, nat_tests)

-- all pages of the stretch
pub all_between : (old new : ℕ → Bool) (place count end : ℕ) → 0 < count → end ≡ (place + count + 4095) / 4096 → new ≡ (λ page. old page || is_between (place / 4096) end page) → new ≡ (λ page. old page || covers_page (record { place = place; count = count }) page)
all_between old new place count end h e f = fun_ext (λ page. ap (λ g. g page) f ∙ ap (λ k. old page || is_between (place / 4096) k page) e ∙ ap (λ b. old page || b) (covers_at place count page h))

or_false : (b : Bool) → b ≡ (b || false)
or_false true = refl
or_false false = refl

-- a stretch of no bytes has none
pub no_bytes : (old : ℕ → Bool) (place count : ℕ) → count ≡ 0 → old ≡ (λ page. old page || covers_page (record { place = place; count = count }) page)
no_bytes old place count e = fun_ext (λ page. or_false (old page) ∙ ap (λ b. old page || b) (none page))
  where
    none : (page : ℕ) → false ≡ covers_page (record { place = place; count = count }) page
    none page = grind (arith, nat_tests)

page_test : (b : Bool) (p page : ℕ) → (b || (page == p)) ≡ (b || (p == page))
page_test true p page = refl
page_test false p page = grind (arith, nat_tests)

-- a page that an effect backs
pub backs_page : (old new : ℕ → Bool) (o : Option ℕ) (p : ℕ) → o ≡ Some p → new ≡ (λ page. old page || (page == p)) → new ≡ (λ page. old page || is_page o page)
backs_page old new o p e f = fun_ext (λ page. ap (λ g. g page) f ∙ page_test (old page) p page ∙ ap (λ q. old page || is_page q page) (sym e))

-- pages that were backed for a stretch
pub covered : (old new : ℕ → Bool) (place n m page : ℕ) → n ≡ m → new ≡ (λ q. old q || covers_page (record { place = place; count = n }) q) → covers_page (record { place = place; count = m }) page ≡ true → new page ≡ true
covered old new place n m page e f h = ap (λ g. g page) f ∙ or_right (old page) _ (ap (λ k. covers_page (record { place = place; count = k }) page) e ∙ h)

-- a stretch of no byte backs none
pub backs_nothing : (first old : ℕ → Bool) (place n : ℕ) → n ≡ 0 → old ≡ first → old ≡ (λ q. first q || covers_page (record { place = place; count = n }) q)
backs_nothing first old place n e d = d ∙ fun_ext (λ page. none (first page) ∙ ap (λ (k : ℕ). first page || covers_page (record { place = place; count = k }) page) (sym e))
  where
    none : (b : Bool) → b ≡ (b || false)
    none true = refl
    none false = refl

pub backs_stretch : (first old new : ℕ → Bool) (place n m : ℕ) → n ≡ m → old ≡ first → new ≡ (λ q. old q || covers_page (record { place = place; count = n }) q) → new ≡ (λ q. first q || covers_page (record { place = place; count = m }) q)
backs_stretch first old new place n m e d f = f ∙ ap₂ (λ (g : ℕ → Bool) (k : ℕ). λ q. g q || covers_page (record { place = place; count = k }) q) d e
