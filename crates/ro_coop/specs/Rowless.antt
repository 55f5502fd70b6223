-- Legality without the rows of the lock page: whoever asks gets the mutex; and what was got is held against the rows at the end.
pub use Rattle.ro_legal.specs.Sides.{threads_of}
use Rattle.std.specs.Prelude.{ℕ, ◌==◌, if◌then◌else◌, List, [], ◌∷◌, ◌++◌, None, slice_get}
use Rattle.std.specs.Option.{option_map_or}
use Rattle.ro_journal.specs.declared.Lease.{Lease}
use Rattle.ro_journal.specs.declared.Entry.{Entry}
use Rattle.ro_journal.specs.declared.Entry.TheVariants.{Put}
use Rattle.ro_orders.specs.Copies.{Rows}
use Rattle.ro_peer.specs.Gets.{Get, asker, got_in}
use Rattle.ro_coop.specs.Core.{Job, Core, layout_here, IsAllowed, after}

-- the rows by which an entry is judged
abbrev pub rows_for : Entry → Rows
rows_for (Put lease count hit) = asker lease.thread
rows_for _ = λ mutex rank. None

-- what a lease got
abbrev pub got_by_lease : Job → Core → Lease → (count : ℕ) → List Get
got_by_lease job core lease count =
    option_map_or (λ peer. got_in (layout_here job core) job.settings.watchdog count peer lease.thread) (slice_get core.peers lease.replica) []

abbrev pub got_by : Job → Core → Entry → List Get
got_by job core (Put lease count hit) = got_by_lease job core lease count
got_by job core _ = []

-- legal as far as the journal alone says, from left to right
abbrev pub RowlessFrom : Job → Core → List Entry → Type 0
RowlessFrom job core [] = Unit {0}
RowlessFrom job core (entry ∷ journal) = IsAllowed job (rows_for entry) core entry × RowlessFrom job (after job (rows_for entry) core entry) journal

-- all that was got
abbrev pub got_from : Job → Core → List Entry → List Get
got_from job core [] = []
got_from job core (entry ∷ journal) = got_by job core entry ++ got_from job (after job (rows_for entry) core entry) journal

-- what was got in a replica
abbrev pub got_at : Job → Core → (number : ℕ) → Entry → List Get
got_at job core number (Put lease count hit) = if lease.replica == number then got_by_lease job core lease count else []
got_at job core number _ = []

abbrev pub got_in_replica : Job → Core → (number : ℕ) → List Entry → List Get
got_in_replica job core number [] = []
got_in_replica job core number (entry ∷ journal) = got_at job core number entry ++ got_in_replica job (after job (rows_for entry) core entry) number journal
