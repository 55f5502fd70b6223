-- Ranks of mutexes, each of which is decided for a thread once, and the words that tell of them.
use Rattle.std.specs.Prelude.{◌≡◌, ℕ, ◌+◌, ◌-◌, ◌*◌, ◌%◌, ◌<◌, ◌≤◌, ◌==◌, ◌&&◌, if◌then◌else◌, nat_lt, Bool, List, [], ◌∷◌, ◌++◌, slice_index, Option, Some, None}
use Rattle.std.specs.List.{filter}
use Rattle.ro_lockpage.specs.declared.words.Answer.{Answer}
use Rattle.ro_lockpage.specs.declared.words.Answer.TheVariants.{For, Passed}

-- the thread for which each rank of each mutex was decided
abbrev pub Ranks : Type 0
Ranks = ℕ → ℕ → Option ℕ

-- a rank of a mutex, and the thread for which it was decided
pub record Decided : Type 0 where
  pub mutex : ℕ
  pub rank : ℕ
  pub thread : ℕ

abbrev pub decided : ℕ → ℕ → ℕ → Decided
decided mutex rank thread = record { mutex = mutex; rank = rank; thread = thread }

-- a rank of a mutex, and what a step that asked for it found in its word
pub record Asked : Type 0 where
  pub mutex : ℕ
  pub rank : ℕ
  pub found : ℕ

abbrev pub asked : ℕ → ℕ → ℕ → Asked
asked mutex rank found = record { mutex = mutex; rank = rank; found = found }

abbrev pub is_at : ℕ → ℕ → ℕ → ℕ → Bool
is_at m r m' r' = (m == m') && (r == r')

-- the rank r of the mutex m is decided for t, and all else as before
abbrev pub noted : Ranks → ℕ → ℕ → ℕ → Ranks
noted ranks m r t m' r' = if is_at m r m' r' then Some t else ranks m' r'

-- the least word that tells of a rank; each less one is 0 or tells of an older rank
abbrev pub first_word : ℕ → ℕ
first_word rank = 16 * rank + 1

-- the word of a rank that was decided for a thread
abbrev pub word_of : ℕ → ℕ → ℕ
word_of rank thread = first_word rank + thread

-- what a word tells of a rank: nothing where it is 0 or of an older rank, its thread where it is of this one, and that it has passed where it is of a newer one
abbrev pub row_in : ℕ → ℕ → Option Answer
row_in rank word = if nat_lt word (first_word rank) then None else (if nat_lt word (first_word rank + 16) then Some (For (word - first_word rank)) else Some Passed)

-- the word of a rank of a mutex, with so many rows for each: ranks that are so far apart have one word
abbrev pub word_at : ℕ → List ℕ → ℕ → ℕ → ℕ
word_at rows words m r = slice_index words (m * rows + r % rows)

-- the thread that was told, if one was
abbrev pub thread_in : Option Answer → Option ℕ
thread_in None = None
thread_in (Some (For t)) = Some t
thread_in (Some Passed) = None

-- what a decide answers, by what the word told
abbrev pub given : Option Answer → ℕ → Answer
given None t = For t
given (Some a) t = a

abbrev pub IfFor : Answer → (ℕ → Type 0) → Type 0
IfFor (For t) P = P t
IfFor Passed P = Unit {0}

-- those that were decided for the rank r of the mutex m
abbrev pub of_rank : ℕ → ℕ → List Decided → List Decided
of_rank m r = filter (λ d. is_at d.mutex d.rank m r)

-- the rank once with its thread, or nothing where it was not decided
abbrev pub once : ℕ → ℕ → Option ℕ → List Decided
once m r None = []
once m r (Some t) = decided m r t ∷ []

-- the map of ranks that were decided
abbrev pub map_of : List Decided → Ranks
map_of [] m r = None
map_of (d ∷ ds) m r = noted (map_of ds) d.mutex d.rank d.thread m r

-- what is known once a thread was told, or none
abbrev pub told : List Decided → ℕ → ℕ → Option ℕ → List Decided
told known m r None = known
told known m r (Some t) = decided m r t ∷ known

-- what a decide has won, by what the word told
abbrev pub won_then : List Decided → Option Answer → ℕ → ℕ → ℕ → List Decided
won_then won None m r t = won ++ decided m r t ∷ []
won_then won (Some a) m r t = won

-- what steps for one rank found, one after the other
abbrev pub steps : ℕ → ℕ → List ℕ → List Asked
steps m r [] = []
steps m r (w ∷ ws) = asked m r w ∷ steps m r ws

-- words that tell nothing of a rank
abbrev pub AreOlder : ℕ → List ℕ → Type 0
AreOlder r [] = Unit {0}
AreOlder r (w ∷ ws) = (w < first_word r) × AreOlder r ws

-- a word tells of a rank what the decided ranks say, with so many rows for each mutex
abbrev pub Tells : ℕ → Ranks → ℕ → ℕ → Option Answer → Type 0
Tells rows ranks m r None = ranks m r ≡ None
Tells rows ranks m r (Some (For t)) = ranks m r ≡ Some t
Tells rows ranks m r (Some Passed) = (r' : ℕ) × (t : ℕ) × (r < r') × (r' % rows ≡ r % rows) × (ranks m r' ≡ Some t)

-- what each step found is no more than the word of its rank
abbrev pub Since : (ℕ → ℕ → ℕ) → List Asked → Type 0
Since word [] = Unit {0}
Since word (a ∷ rest) = (a.found ≤ word a.mutex a.rank) × Since word rest
