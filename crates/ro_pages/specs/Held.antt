-- What a memory of pages holds.
use Rattle.std.specs.Prelude.{◌≡◌, ◌≢◌, ℕ, ◌/◌, ◌%◌, List, [], ◌∷◌, Option, Some, None, Bool, true, false, length, slice_get, slice_index, is_some, replicate, refl}
use Rattle.ro_pages.specs.Directories.{is_listed}
use Rattle.std.specs.Ordering.{nat_cmp}
use Rattle.std.specs.FinMap as map
use Rattle.std.specs.FinMap.{FinMap}
use Rattle.std.specs.Coded.{Coded, code_by, coded×, coded_ℕ, coded_list}
use Rattle.ro_pages.specs.Bytes.{Memory}

-- the bytes of the backed pages, by the pages' numbers, how many more can be backed with no more memory, and the numbers
-- of the backed pages in the order in which they were backed
pub record Held : Type 0 where
  pub pages : FinMap nat_cmp (List ℕ)
  pub spare : ℕ
  pub numbers : List ℕ

-- how many pages a memory of a few can be lent
abbrev pub most_lent : ℕ
most_lent = 16

abbrev pub coded_held : Coded Held
coded_held =
    code_by (FinMap nat_cmp (List ℕ) × (ℕ × List ℕ)) (coded× (map.code coded_ℕ (coded_list coded_ℕ)) (coded× coded_ℕ (coded_list coded_ℕ)))
    (λ h. (h.pages, (h.spare, h.numbers))) (λ p. record { pages = p.0; spare = p.1.0; numbers = p.1.1 }) (λ _. refl)

-- the bytes of a page that has just been backed
unfoldable pub zeros : List ℕ
zeros = replicate 4096 0

abbrev pub byte_in : Option (List ℕ) → ℕ → ℕ
byte_in None i = 0
byte_in (Some bytes) i = slice_index bytes i

-- the byte at each address; where no page is backed it is 0
abbrev pub memory_of : FinMap nat_cmp (List ℕ) → Memory
memory_of pages a = byte_in (map.get pages (a / 4096)) (a % 4096)

-- whether a page is backed
abbrev pub has_page : FinMap nat_cmp (List ℕ) → ℕ → Bool
has_page pages page = is_some (map.get pages page)

-- pages by the numbers that stand at their places
abbrev pub pages_of : {X : Type 0} → (X → List ℕ) → (numbers : List ℕ) → List X → FinMap nat_cmp (List ℕ)
pages_of v [] xs = map.empty
pages_of v (n ∷ numbers) [] = map.empty
pages_of v (n ∷ numbers) (x ∷ xs) = map.insert (pages_of v numbers xs) n (v x)

-- the pages that have other bytes in the one than in the other, each once
pub record AreUnequal (m n : FinMap nat_cmp (List ℕ)) (pages : List ℕ) : Type 0 where
  pub once : (i j page : ℕ) → slice_get pages i ≡ Some page → slice_get pages j ≡ Some page → i ≡ j
  pub unequal : (i page : ℕ) → slice_get pages i ≡ Some page → map.get m page ≢ map.get n page
  pub all : (page : ℕ) → is_listed pages page ≡ false → map.get m page ≡ map.get n page

-- how many they are
pub record CountsUnequal (m n : FinMap nat_cmp (List ℕ)) (count : ℕ) : Type 0 where
  pub pages : List ℕ
  pub are : AreUnequal m n pages
  pub counted : length pages ≡ count

-- a page goes from the one memory back into its place in the other
pub record GoesBack (few few_after home home_after : FinMap nat_cmp (List ℕ)) (page : ℕ) : Type 0 where
  pub back : map.get home_after page ≡ map.get few page
  pub gone : map.get few_after page ≡ None
  pub kept : (other : ℕ) → other ≢ page → map.get home_after other ≡ map.get home other
  pub rest : (other : ℕ) → other ≢ page → map.get few_after other ≡ map.get few other

-- all pages of a memory have gone back into their places in another
pub record AllBack (few home home_after : FinMap nat_cmp (List ℕ)) : Type 0 where
  pub back : (page : ℕ) → has_page few page ≡ true → map.get home_after page ≡ map.get few page
  pub kept : (page : ℕ) → has_page few page ≡ false → map.get home_after page ≡ map.get home page

-- some have, and the others are still there
pub record SomeBack (few few_now home home_now : FinMap nat_cmp (List ℕ)) : Type 0 where
  pub back : (page : ℕ) → has_page few page ≡ true → has_page few_now page ≡ false → map.get home_now page ≡ map.get few page
  pub kept : (page : ℕ) → has_page few page ≡ false → map.get home_now page ≡ map.get home page
  pub rest : (page : ℕ) → has_page few_now page ≡ true → map.get few_now page ≡ map.get few page
