-- The seats of peers at the opening of a program.
use Rattle.std.specs.Prelude.{◌≡◌, ◌≤◌, ◌-◌, ℕ, List, [], length, Some, slice_get, vec_len, vec_capacity}
use Rattle.ro_image.specs.Image.{Image}
use Rattle.ro_kernel.specs.Kernel.{opening_kernel}
use Rattle.ro_plain.specs.Machine.{setup_of}
use Rattle.ro_replica.specs.Replica.{opening_replica}
use Rattle.ro_legal.specs.Sides.{opening_side}
use Rattle.ro_legal.specs.Core.{Job}
use Rattle.ro_coop_core.specs.declared.seats.Seat.{Seat}
use Rattle.ro_coop_core.specs.declared.opening.Opening.{Opening}
use Rattle.ro_coop_core.specs.Seats.{IsHomeSeat}

-- in the seat is the peer of this number at its opening, for each job of the image and the watchdog
abbrev pub IsFirst : Image → (watchdog number : ℕ) → Seat → Type 0
IsFirst image watchdog number seat =
    (job : Job) → job.program.image ≡ image → job.settings.watchdog ≡ watchdog → IsHomeSeat job (opening_kernel job.program.image.heap) (opening_replica image [] number) opening_side seat

-- and so in each
abbrev pub AreFirst : Image → (watchdog : ℕ) → List Seat → Type 0
AreFirst image watchdog seats = (number : ℕ) (seat : Seat) → slice_get seats number ≡ Some seat → IsFirst image watchdog number seat

-- what was made for the opening of a job
pub record IsOpened (job : Job) (opening : Opening) : Type 0 where
  pub journal : opening.journal.items ≡ []
  pub room : 1 ≤ vec_capacity opening.journal - vec_len opening.journal
  pub first : AreFirst job.program.image job.settings.watchdog opening.seats.items
  pub count : length opening.seats.items ≡ job.settings.replicas
  pub setup : opening.kernel.setup ≡ setup_of job.program
  pub kernel : opening.kernel.kernel ≡ opening_kernel job.program.image.heap
  pub views : length opening.views.items ≡ job.settings.replicas
