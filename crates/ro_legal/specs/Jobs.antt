-- A job by what it is made of, and whether a core can be opened with it.
use Rattle.std.specs.Prelude.{ℕ, List, []}
use Rattle.ro_faults.specs.declared.Fault.{Fault}
use Rattle.ro_image.specs.Image.{Image}
use Rattle.ro_replica.specs.Seen.{AreFaults}
use Rattle.ro_settings.specs.declared.Settings.{Settings}
use Rattle.ro_settings.specs.Ranges.{InRange, default_settings}
use Rattle.ro_legal.specs.Core.{Job}

abbrev pub job_of : Image → (input : List ℕ) → List Fault → Settings → Job
job_of image input faults settings = record { program = record { image = image; input = input }; faults = faults; settings = settings }

-- a run that is asked for with nothing but an executable: no input, no faults, and the default settings
abbrev pub default_job : Image → Job
default_job image = job_of image [] [] default_settings

-- what a core can be opened with
pub record CanRun (job : Job) : Type 0 where
  pub settings : InRange job.settings
  pub faults : AreFaults job.faults
