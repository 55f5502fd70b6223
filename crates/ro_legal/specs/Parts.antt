-- What is lent of a replica: all of it, or a few of its pages.
pub use Rattle.ro_replica.specs.Runs.{is_calm}
use Rattle.std.specs.Prelude.{ℕ, Bool, true, false, not, ◌&&◌, List, ◌∷◌, take, Option, None, ◌==◌, if◌then◌else◌, slice_get, slice_set}
use Rattle.std.specs.List.{filter}
use Rattle.std.specs.Option.{option_and_then, option_map}
use Rattle.ro_pages.specs.Directories.{is_listed}
use Rattle.ro_pages.specs.Held.{most_lent}
use Rattle.ro_exec.specs.Next.{Layout, Backed}
use Rattle.ro_kernel.specs.Kernel.{Setup}
use Rattle.ro_thread.specs.declared.Thread.{Thread}
use Rattle.ro_thread.specs.Stops.{standing}
use Rattle.ro_thread.specs.Runs.{Running, instructions}
use Rattle.ro_thread.specs.Parts.{missed}
use Rattle.ro_replica.specs.Replica.{Replica}
use Rattle.ro_replica.specs.Runs.{RanTo, run_of}

-- what a lease has of its replica: all of it, or these pages
pub data Lent : Type 0 where
  Whole : Lent
  Pages : List ℕ → Lent

-- what a run goes by that lends pages
pub record Sharing : Type 0 where
  pub setup : Setup
  pub quantum : ℕ

-- how many pages a thread wishes at most, and how often it may miss one between two votes before its leases are whole
abbrev pub most_wishes : ℕ
most_wishes = most_lent

abbrev pub most_misses : ℕ
most_misses = 8

-- the wish with a page first
abbrev pub wish_with : (page : ℕ) → List ℕ → List ℕ
wish_with page wish = take most_wishes (page ∷ filter (λ other. not (other == page)) wish)

abbrev pub is_all : Lent → Bool
is_all Whole = true
is_all (Pages pages) = false

abbrev pub is_lent : Lent → (page : ℕ) → Bool
is_lent Whole page = true
is_lent (Pages pages) page = is_listed pages page

-- the pages that its thread sees
abbrev pub seen_pages : Lent → Backed → Backed
seen_pages Whole backed = backed
seen_pages (Pages pages) backed = λ page. is_listed pages page && backed page

abbrev pub ran_to : (number : ℕ) → Replica → Running → RanTo
ran_to number replica running =
    record { replica = record replica { memory = running.memory; threads = slice_set replica.threads number running.thread }; hit = 0 }

abbrev pub calm_run : Layout → (watchdog : ℕ) → Backed → (count number : ℕ) → Replica → Thread → Option RanTo
calm_run layout watchdog seen count number replica thread =
    if is_calm count number replica thread
    then option_map (ran_to number replica) (instructions layout watchdog seen count (record { thread = thread; memory = replica.memory })) else None

-- So many instructions of the thread, on the pages that it sees. Faults are struck in a lease of the whole replica alone.
abbrev pub run_with : Layout → (watchdog : ℕ) → Lent → (count : ℕ) → Replica → (thread : ℕ) → Option RanTo
run_with layout watchdog Whole count replica number = run_of layout watchdog count replica number
run_with layout watchdog (Pages pages) count replica number =
    option_and_then (calm_run layout watchdog (seen_pages (Pages pages) replica.backed) count number replica) (slice_get replica.threads number)

-- the page that it wants: one that its replica has, and at whose fault it stands with the pages that it sees
abbrev pub wanted : Layout → (watchdog : ℕ) → Lent → Replica → (thread : ℕ) → Option ℕ
wanted layout watchdog lent replica number =
    missed replica.backed (option_and_then (λ thread. standing layout watchdog (seen_pages lent replica.backed) replica.memory thread.cpu thread.since) (slice_get replica.threads number))
