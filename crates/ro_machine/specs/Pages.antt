-- The page for which a thread stands.
use Rattle.std.specs.Prelude.{ℕ, Option, Some, None}
use Rattle.ro_event.specs.declared.stops.Stop.TheVariants.{PageFault}
use Rattle.ro_exec.specs.declared.outcome.Step.{Step}
use Rattle.ro_exec.specs.declared.outcome.Step.TheVariants.{Stopped}

-- the page that is not backed, if that is why a thread stands
abbrev pub fault_of : Step → Option ℕ
fault_of (Stopped (PageFault page)) = Some page
fault_of _ = None
