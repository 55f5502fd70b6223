-- A replica is alike exactly where it agrees with the ideal machine.
use Rattle.std.specs.Prelude.{◌≡◌, List, Some, None}
use Rattle.std.proofs.Common.{sym, ◌∙◌, subst}
use Rattle.ro_journal.specs.declared.Entry.{Entry}
use Rattle.ro_replica.specs.Replica.{Replica}
use Rattle.ro_plain.specs.Machine.{Machine}
use Rattle.ro_plain.proofs.Calls.{some-injective}
use Rattle.ro_legal.specs.Core.{Job}
use Rattle.ro_legal.specs.Ideal.{ideal, IsAlike}
use Rattle.ro_simulation.specs.Invariant.{Agrees}

-- a replica that agrees is alike while the program goes on
pub agrees-is-alike : (job : Job) (journal : List Entry) (machine : Machine) (r : Replica) → ideal job journal ≡ Some machine → machine.ended ≡ None → Agrees job machine r → IsAlike job journal r
agrees-is-alike job journal machine r e on h = record {
  machine = machine;
  ideal_is = e;
  goes_on = on;
  end = h.runs_ahead.end;
  runs = h.runs_ahead.runs;
  same_memory = h.runs_ahead.same_memory;
  same_cpus = h.runs_ahead.same_cpus;
  stops_stand = λ number. (h.stops number).stands;
}

-- a replica that is alike agrees with the machine of its own record
alike-with : (job : Job) (journal : List Entry) (r : Replica) (h : IsAlike job journal r) → Agrees job h.machine r
alike-with job journal r h = record {
  runs_ahead = record { end = h.end; runs = h.runs; same_memory = h.same_memory; same_cpus = h.same_cpus };
  stops = λ number. record { stands = h.stops_stand number };
}

-- a replica that is alike agrees with the ideal machine
pub alike-agrees : (job : Job) (journal : List Entry) (machine : Machine) (r : Replica) → ideal job journal ≡ Some machine → IsAlike job journal r → Agrees job machine r
alike-agrees job journal machine r e h = subst (λ (m : Machine). Agrees job m r) (some-injective (sym h.ideal_is ∙ e)) (alike-with job journal r h)
