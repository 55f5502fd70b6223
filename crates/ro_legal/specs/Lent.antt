-- A replica of a core as contracts see it.
use Rattle.std.specs.Prelude.{◌≡◌}
use Rattle.ro_kernel.specs.Kernel.{Kernel}
use Rattle.ro_plain.specs.Machine.{layout_in}
use Rattle.ro_replica.specs.Seen.{ReplicaOf}
use Rattle.ro_legal.specs.Core.{Job}

-- the value is of the program that the core runs, with the ranges that its kernel gave
pub record IsOfJob (job : Job) (kernel : Kernel) (value : ReplicaOf) : Type 0 where
  pub layout : value.layout ≡ layout_in job.program kernel
  pub given : value.given ≡ kernel.given
  pub watchdog : value.watchdog ≡ job.settings.watchdog
