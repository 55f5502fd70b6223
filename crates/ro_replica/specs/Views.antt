-- The view of a thread that stands still.
use Rattle.std.specs.Prelude.{ℕ, Bool, false, List, [], Option, is_none, slice_get}
use Rattle.std.specs.Option.{option_map, option_map_or, option_and_then}
use Rattle.ro_event.specs.declared.stops.Stop.{Stop}
use Rattle.ro_event.specs.declared.stops.Stop.TheVariants.{Calls}
use Rattle.ro_event.specs.Views.{View}
use Rattle.ro_region.specs.declared.Range.{Range}
use Rattle.ro_pages.specs.Bytes.{Memory}
use Rattle.ro_kernel.specs.Serve.{payload_of}
use Rattle.ro_thread.specs.declared.Thread.{Thread}
use Rattle.ro_replica.specs.Replica.{Replica}

abbrev pub is_unstopped : ℕ → Replica → Bool
is_unstopped thread replica = option_map_or (λ t. is_none t.stop) (slice_get replica.threads thread) false

-- the payload of a stop
abbrev pub payload_at : List Range → Memory → Stop → List ℕ
payload_at ranges memory (Calls call) = payload_of ranges memory call
payload_at ranges memory stop = []

abbrev pub view_with : List Range → Replica → Thread → Stop → View
view_with ranges replica thread stop = record {
  registers = thread.cpu.registers;
  pc = thread.cpu.pc;
  since = thread.since;
  stop = stop;
  payload = payload_at ranges replica.memory stop;
}

-- the view of a stopped thread
abbrev pub view_of : List Range → ℕ → Replica → Option View
view_of ranges number replica =
    option_and_then (λ thread. option_map (view_with ranges replica thread) thread.stop) (slice_get replica.threads number)
