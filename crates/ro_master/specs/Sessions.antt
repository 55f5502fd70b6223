-- A core and its sink.
use Rattle.std.specs.Prelude.{◌≡◌, ◌<◌, ℕ, true, List, take, Option, Some, None, IfSome}
use Rattle.ro_journal.specs.Plan.{outcome_of}
use Rattle.ro_legal.specs.Core.{is_going}
use Rattle.ro_core.specs.Seen.{CoreOf}
use Rattle.ro_cores.specs.Cores.{left_by}

-- of a sink that took so many bytes of the last write and failed: it did not take all of them, and nothing came behind that write
abbrev pub Cuts : CoreOf → (failed : Option ℕ) → Type 0
Cuts core failed = IfSome failed (λ bytes. (bytes < (left_by core).wrote) × (is_going (left_by core) ≡ true))

-- while the sink has not failed, and no end has come, it counts no failure
abbrev pub IsFresh : CoreOf → (failed : Option ℕ) → (failures : ℕ) → Type 0
IsFresh core failed failures = failed ≡ None → outcome_of core.journal ≡ None → failures ≡ 0

-- what leaves of a payload, of which a failing sink takes so many bytes
abbrev pub bytes_by : (failed : Option ℕ) → (payload : List ℕ) → List ℕ
bytes_by None payload = payload
bytes_by (Some taken) payload = take taken payload
