-- A run by rounds: instructions with no fault due between them, and then a strike.
use Rattle.std.specs.Prelude.{◌≡◌, ◌⊎◌, ℕ, ◌+◌, ◌<◌, ◌≤◌, IsSome, Option, None}
use Rattle.std.specs.Option.{option_map}
use Rattle.ro_event.specs.declared.stops.Stop.{Stop}
use Rattle.ro_exec.specs.Next.{Layout}
use Rattle.ro_replica.specs.Replica.{Replica}
use Rattle.ro_replica.specs.Runs.{struck, plus_hit, run_of, standing_at}

-- no fault of the thread is due
abbrev pub IsStruck : Layout → Replica → (thread : ℕ) → Type 0
IsStruck layout replica thread = struck layout.ranges replica thread ≡ record { replica = replica; hit = 0 }

-- A part of a run: each run over it is its instructions and hits, and then a run from where it comes to. It comes to a stop
-- within `most` instructions, or does some of them.
pub record Leads (layout : Layout) (watchdog thread most : ℕ) (old new : Replica) (count hit : ℕ) (stop : Option Stop) : Type 0 where
  pub leads : (rest : ℕ) → run_of layout watchdog (count + rest) old thread ≡ option_map (plus_hit hit) (run_of layout watchdog rest new thread)
  pub arrives : ((stop ≡ None) × (0 < count) × (count ≤ most)) ⊎ ((count < most) × IsSome stop × (stop ≡ standing_at layout watchdog new thread) × IsStruck layout new thread)
