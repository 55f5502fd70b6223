-- Which threads stand still in which replicas.
use Rattle.std.specs.Prelude.{◌≡◌, ◌≢◌, ◌⊎◌, ℕ, ◌+◌, ◌<◌, Bool, false, List, [], ◌∷◌, length, if◌then◌else◌, slice_get, slice_index_or}
use Rattle.std.specs.List.{list_all}
use Rattle.std.specs.Option.{option_map_or}

-- of each replica, whether each of its threads stands still
abbrev pub Groups : Type 0
Groups = List (List Bool)

abbrev pub stands_in : (thread : ℕ) → List Bool → Bool
stands_in thread row = slice_index_or row thread false

-- whether the thread stands still in the replica
abbrev pub stands : Groups → (replica thread : ℕ) → Bool
stands groups replica thread = option_map_or (stands_in thread) (slice_get groups replica) false

-- whether it does in every replica
abbrev pub is_ready : Groups → (thread : ℕ) → Bool
is_ready groups thread = list_all (stands_in thread) groups

-- in how many replicas it does
abbrev pub group_size : Groups → (thread : ℕ) → ℕ
group_size [] thread = 0
group_size (row ∷ rows) thread = (if stands_in thread row then 1 else 0) + group_size rows thread

-- each replica has sixteen threads, and these are the sizes of their groups
pub record Counts (groups : Groups) (counts : List ℕ) : Type 0 where
  pub threads : (replica : ℕ) → replica < length groups → length (slice_index_or groups replica []) ≡ 16
  pub each : (thread : ℕ) → thread < 16 → slice_index_or counts thread 0 ≡ group_size groups thread

-- the thread stands still in the replica, or not; all else is as it was
pub record Changes (old new : Groups) (replica thread : ℕ) (now : Bool) : Type 0 where
  pub count : length new ≡ length old
  pub named : stands new replica thread ≡ now
  pub others : (r t : ℕ) → (r ≢ replica) ⊎ (t ≢ thread) → stands new r t ≡ stands old r t

-- the thread stands still nowhere; all else is as it was
pub record Releases (old new : Groups) (thread : ℕ) : Type 0 where
  pub count : length new ≡ length old
  pub named : (r : ℕ) → stands new r thread ≡ false
  pub others : (r t : ℕ) → t ≢ thread → stands new r t ≡ stands old r t
