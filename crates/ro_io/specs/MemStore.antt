-- A store over memory.
use Rattle.std.specs.Prelude.{ℕ, Bool, List, ◌==◌, nat_eq, take, find, is_some, if◌then◌else◌, Option, None}
use Rattle.std.specs.List.{list_any}
use Rattle.std.specs.Option.{option_map}
use Rattle.std.specs.Cmp.Lexicographic.{pointwise}
use Rattle.ro_io.specs.Outside.{Call, risen}

-- its files, each a name and the bytes; the numbers of the calls that fail; how many calls were made; how many failed; and, as long
-- as there was memory for each, which they were
pub record StoreState : Type 0 where
  pub files : List (List ℕ × List ℕ)
  pub failing : List ℕ
  pub calls : ℕ
  pub failures : ℕ
  pub noted : Option (List Call)

-- the bytes of the first file of this name, if any
abbrev pub file_in : List (List ℕ × List ℕ) → (name : List ℕ) → Option (List ℕ)
file_in files name = option_map (λ file. file.1) (find (λ file. pointwise nat_eq file.0 name) files)

-- whether the next call fails whatever it asks for
abbrev pub is_failing : StoreState → Bool
is_failing store = list_any (λ call. call == risen store.calls) store.failing

-- what the next call fetches, if it does not fail
abbrev pub fetched_of : StoreState → (name : List ℕ) → (most : ℕ) → Option (List ℕ)
fetched_of store name most = if is_failing store then None else option_map (λ bytes. take most bytes) (file_in store.files name)

-- the store after the next call, where these calls are noted then
abbrev pub after_fetch : StoreState → (name : List ℕ) → (most : ℕ) → (noted : Option (List Call)) → StoreState
after_fetch store name most noted = record store {
  calls = risen store.calls;
  failures = if is_some (fetched_of store name most) then store.failures else risen store.failures;
  noted = noted;
}
