-- A core by its fields.
use Rattle.std.specs.Prelude.{◌≡◌, ◌-◌, ◌<◌, ◌≤◌, ℕ, Bool, true, List, [], ◌++◌, length, if◌then◌else◌, slice_get, vec_len, vec_capacity}
use Rattle.std.specs.Option.{option_map_or}
use Rattle.ro_event.specs.Views.{View}
use Rattle.ro_legal.specs.Core.{Job, Core, is_going, may_vote, views_of}
use Rattle.ro_legal.specs.Cooperative.{AgreeOn}
use Rattle.ro_coop_core.specs.declared.cores.Core.{Core as Run}
use Rattle.ro_coop_core.specs.Seen.{RunOf}
use Rattle.ro_coop_core.specs.Fields.{spare_of, Fields, core_in, Holds}

abbrev pub fields_of : Run → Fields
fields_of r = record {
  job = record { program = record { image = r.image; input = r.kernel.setup.input }; faults = []; settings = r.settings };
  journal = r.journal.items;
  seats = r.seats.items;
  leases = r.leases.items;
  kernel = r.kernel;
  cooperates = r.cooperates;
  blocked = r.blocked;
  most_done = r.most_done;
  steps = r.steps;
  waits = r.waits;
  sent = r.sent;
  wrote = r.wrote;
  due = r.due;
  ended = r.ended;
  views = r.views.items;
  places = vec_capacity r.journal - vec_len r.journal;
  lease_places = vec_capacity r.leases - vec_len r.leases;
}

abbrev pub job_of : Run → Job
job_of r = (fields_of r).job

abbrev pub state_of : Run → Core
state_of r = core_in (fields_of r)

-- as contracts see it
abbrev pub seen_of : Fields → RunOf
seen_of f = record { job = f.job; journal = f.journal; room = spare_of f.places f.lease_places; views = f.views }

abbrev pub seen : Run → RunOf
seen r = seen_of (fields_of r)

-- the payload that an event writes, if it does: of the first view
abbrev pub payload_by : List View → (writes : Bool) → List ℕ
payload_by views writes = if writes then option_map_or (λ view. view.payload) (slice_get views 0) [] else []

-- The last entry wrote these bytes behind those before.
pub record LastWrote (f : Fields) (before bytes : List ℕ) : Type 0 where
  pub few : length bytes ≤ 4096
  pub output : (core_in f).output ≡ before ++ bytes
  pub wrote : (core_in f).wrote ≡ length bytes
  pub goes_on : 0 < length bytes → is_going (core_in f) ≡ true

-- a vote on the thread on which the replicas agree, and their views are in their places
pub record IsAgreed (f : Fields) (thread : ℕ) (view : View) : Type 0 where
  pub holds : Holds f
  pub may : may_vote (core_in f) thread ≡ true
  pub views_are : f.views ≡ views_of f.job (core_in f) thread
  pub agreed : AgreeOn f.job (core_in f) thread view
