-- Pages go back one after another.
use Rattle.std.specs.Prelude.{◌≡◌, ℕ, true, false, List, is_some}
use Rattle.std.proofs.Common.{refl, sym, ap, ◌∙◌, inl, inr}
use Rattle.std.proofs.lemmas.Bool.{cases_eq, true≢false}
use Rattle.std.specs.Ordering.{nat_cmp}
use Rattle.std.specs.FinMap as map
use Rattle.std.specs.FinMap.{FinMap}
use Rattle.ro_pages.specs.Held.{has_page, GoesBack, AllBack, SomeBack}

pub none-back : (few home : FinMap nat_cmp (List ℕ)) → SomeBack few few home home
none-back few home = record {
  back = λ page e f. absurd (true≢false (sym e ∙ f));
  kept = λ page e. refl;
  rest = λ page e. refl;
}

same-has : (m n : FinMap nat_cmp (List ℕ)) (page : ℕ) → map.get m page ≡ map.get n page → has_page m page ≡ has_page n page
same-has m n page e = ap is_some e

-- a page that goes back was there before, since the few pages still have what they had
pub one-back : (few now after home home_now home_after : FinMap nat_cmp (List ℕ)) (page : ℕ) → has_page now page ≡ true → SomeBack few now home home_now → GoesBack now after home_now home_after page → SomeBack few after home home_after
one-back few now after home home_now home_after page there h g = record {
  back = λ other its gone. elim (cases_eq other page) [
    | inl same ↦ ap (map.get home_after) same ∙ g.back ∙ h.rest page there ∙ ap (map.get few) (sym same)
    | inr apart ↦ g.kept other apart ∙ h.back other its (sym (same-has after now other (g.rest other apart)) ∙ gone)
  ];
  kept = λ other not_its. elim (cases_eq other page) [
    | inl same ↦ absurd (true≢false (sym (sym (same-has now few page (h.rest page there)) ∙ there) ∙ (ap (has_page few) (sym same) ∙ not_its)))
    | inr apart ↦ g.kept other apart ∙ h.kept other not_its
  ];
  rest = λ other still. elim (cases_eq other page) [
    | inl same ↦ absurd (true≢false (sym still ∙ (ap (has_page after) same ∙ ap is_some g.gone)))
    | inr apart ↦ g.rest other apart ∙ h.rest other (sym (same-has after now other (g.rest other apart)) ∙ still)
  ];
}

pub all-back : (few now home home_now : FinMap nat_cmp (List ℕ)) → ((page : ℕ) → has_page now page ≡ false) → SomeBack few now home home_now → AllBack few home home_now
all-back few now home home_now none h = record { back = λ page e. h.back page e (none page); kept = h.kept }

-- what is still there was there
pub still-there : (few now home home_now : FinMap nat_cmp (List ℕ)) (page : ℕ) → SomeBack few now home home_now → has_page now page ≡ true → has_page few page ≡ true
still-there few now home home_now page h e = sym (same-has now few page (h.rest page e)) ∙ e
