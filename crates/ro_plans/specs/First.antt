-- The first steps of a cooperative journal: those that no replica made before.
use Rattle.std.specs.Prelude.{ℕ, zero, suc, ◌+◌, ◌==◌, if◌then◌else◌, List, [], ◌∷◌, ◌++◌, replicate}
use Rattle.ro_journal.specs.declared.Lease.{Lease}
use Rattle.ro_journal.specs.declared.Entry.{Entry}
use Rattle.ro_journal.specs.declared.Entry.TheVariants.{Put, Part, Vote, Free}
use Rattle.ro_journal.specs.Plan.{event_steps}

-- how often the thread steps
abbrev pub times : (thread : ℕ) → List ℕ → ℕ
times thread [] = 0
times thread (x ∷ xs) = (if x == thread then 1 else 0) + times thread xs

-- what a thread's run of so many steps adds, by what was taken in its peer
abbrev pub first_run : (thread count : ℕ) → (first taken : List ℕ) → List ℕ
first_run thread zero first taken = first
first_run thread (suc n) first taken = first_run thread n (if times thread first == times thread taken then first ++ thread ∷ [] else first) (taken ++ thread ∷ [])

-- the steps of each peer so far, and the first ones
pub record Steps : Type 0 where
  pub taken : ℕ → List ℕ
  pub first : List ℕ

abbrev pub served_all : (thread count : ℕ) → Steps → Steps
served_all thread count s = record { taken = λ r. s.taken r ++ replicate count thread; first = s.first ++ replicate count thread }

-- a lease that came back
abbrev pub lease_steps : Lease → (count : ℕ) → Steps → Steps
lease_steps lease count s = record {
  taken = λ r. if r == lease.replica then s.taken r ++ replicate count lease.thread else s.taken r;
  first = first_run lease.thread count s.first (s.taken lease.replica);
}

abbrev pub steps_after : Steps → Entry → Steps
steps_after s (Put lease count hit) = lease_steps lease count s
steps_after s (Part lease count hit) = lease_steps lease count s
steps_after s (Vote thread count won lost did) = served_all thread (event_steps did) s
steps_after s (Free thread) = served_all thread 1 s
steps_after s entry = s

abbrev pub steps_from : Steps → List Entry → Steps
steps_from s [] = s
steps_from s (entry ∷ journal) = steps_from (steps_after s entry) journal

-- the steps of a journal
abbrev pub steps_of : List Entry → Steps
steps_of journal = steps_from (record { taken = λ r. []; first = [] }) journal

-- the first steps of a journal
abbrev pub first_of : List Entry → List ℕ
first_of journal = (steps_of journal).first
