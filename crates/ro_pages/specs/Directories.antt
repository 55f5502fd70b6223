-- Pages that are found in two tables.
use Rattle.std.specs.Prelude.{◌≡◌, ◌≢◌, ℕ, ◌+◌, ◌-◌, ◌/◌, ◌%◌, ◌^◌, ◌<◌, ◌≤◌, ◌==◌, List, Some, Bool, length, slice_index, refl}
use Rattle.std.specs.List.{list_any, slice_get}
use Rattle.std.specs.Coded.{Coded, code_by, coded×, coded_ℕ, coded_list}

-- pages in the order in which they were added, and how many more can be with no more memory
pub record Listed : Type 0 where
  pub numbers : List ℕ
  pub room : ℕ

abbrev pub coded_listed : Coded Listed
coded_listed = code_by (List ℕ × ℕ) (coded× (coded_list coded_ℕ) coded_ℕ) (λ l. (l.numbers, l.room)) (λ p. record { numbers = p.0; room = p.1 }) (λ _. refl)

abbrev pub is_listed : List ℕ → ℕ → Bool
is_listed numbers page = list_any (λ n. n == page) numbers

-- the only place at which a page may stand: it stands there if that is a place
pub record IsEntry (numbers : List ℕ) (page place : ℕ) : Type 0 where
  pub found : place < length numbers → slice_get numbers place ≡ Some page
  pub only : (other : ℕ) → slice_get numbers other ≡ Some page → other ≡ place

-- no page stands at two places
abbrev pub AreOnce : List ℕ → Type 0
AreOnce numbers = (i j page : ℕ) → slice_get numbers i ≡ Some page → slice_get numbers j ≡ Some page → i ≡ j

-- what the two tables have for a page
abbrev pub entry_of : (firsts entries : List ℕ) → ℕ → ℕ
entry_of firsts entries page = slice_index entries (slice_index firsts (page / 1024) + page % 1024)

-- the entry of a page that stands nowhere
abbrev pub nowhere : ℕ
nowhere = 2 ^ 64 - 1

-- each 1,024 pages have a second table, of their own or the empty one at 0
pub record Tables (firsts entries : List ℕ) : Type 0 where
  pub all : length firsts ≡ 1024
  pub whole : length entries % 1024 ≡ 0
  pub aligned : (t : ℕ) → t < 1024 → slice_index firsts t % 1024 ≡ 0
  pub within : (t : ℕ) → t < 1024 → slice_index firsts t + 1024 ≤ length entries
  pub apart : (t u : ℕ) → t < 1024 → u < 1024 → slice_index firsts t ≡ slice_index firsts u → slice_index firsts t ≢ 0 → t ≡ u
  pub empty : (i : ℕ) → i < 1024 → slice_index entries i ≡ nowhere

-- the entry of each listed page is its place, and of each other one it is none
pub record Finds (firsts entries numbers : List ℕ) : Type 0 where
  pub low : (place page : ℕ) → slice_get numbers place ≡ Some page → page < 2 ^ 20
  pub here : (place page : ℕ) → slice_get numbers place ≡ Some page → entry_of firsts entries page ≡ place
  pub there : (page : ℕ) → page < 2 ^ 20 → entry_of firsts entries page ≢ nowhere → slice_get numbers (entry_of firsts entries page) ≡ Some page

-- entries with an empty table behind them
pub record IsLonger (new old : List ℕ) : Type 0 where
  pub long : length new ≡ length old + 1024
  pub kept : (i : ℕ) → i < length old → slice_index new i ≡ slice_index old i
  pub fresh : (i : ℕ) → length old ≤ i → i < length new → slice_index new i ≡ nowhere
