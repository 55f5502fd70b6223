-- Choices of cooperative mutexes: all that stand in the table, none, and the one by a program's table of calls.
use Rattle.std.specs.Prelude.{ℕ, Bool, false, ◌||◌, if◌then◌else◌, List, ◌∷◌, Option, Some, None, is_some}
use Rattle.std.proofs.lemmas.Bool.{false≢true}
use Rattle.ro_event.specs.declared.calls.Which.TheVariants.{Function}
use Rattle.ro_event.specs.declared.functions.Function.{Function as Posix}
use Rattle.ro_event.specs.Functions.{functions}
use Rattle.ro_mutex.specs.Owners.{owner_of}
use Rattle.ro_kernel.proofs.InTable.{same-table, owners-after, table-lasts}
use Rattle.ro_plain.specs.Machine.{Program}
use Rattle.ro_orders.specs.Turns.{Chosen, takes_otherwise}

unfoldable pub in_table : Chosen
in_table = record {
  holds = λ kernel mutex. is_some (owner_of kernel.owners mutex);
  inside = λ kernel mutex h. h;
  changes = λ kernel mutex other owner h. same-table kernel.owners mutex other owner h;
  lasts = λ setup kernel after thread call effect mutex e h. table-lasts kernel call mutex _ (owners-after setup kernel thread call) after effect e h;
}

unfoldable pub no_mutex : Chosen
no_mutex = record {
  holds = λ kernel mutex. false;
  inside = λ kernel mutex h. absurd (false≢true h);
  changes = λ kernel mutex other owner h. absurd (false≢true h);
  lasts = λ setup kernel after thread call effect mutex e h. h;
}

-- one of the functions that have an address takes a mutex otherwise than by a lock
abbrev pub has_otherwise : List (Option ℕ) → List Posix → Bool
has_otherwise (Some address ∷ addresses) (f ∷ fs) = takes_otherwise (Function f) || has_otherwise addresses fs
has_otherwise (None ∷ addresses) (f ∷ fs) = has_otherwise addresses fs
has_otherwise _ _ = false

-- Of a program whose table of calls has neither trylock nor wait all mutexes that stand in the table are cooperative; of another
-- none is.
abbrev pub chosen_of : Program → Chosen
chosen_of program = if has_otherwise program.image.calls.addresses functions then no_mutex else in_table
