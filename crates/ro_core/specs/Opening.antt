-- The seats of replicas at the opening of a program.
use Rattle.std.specs.Prelude.{◌≡◌, ◌≤◌, ◌-◌, ◌*◌, ℕ, IsSome, false, List, [], length, Option, Some, None, slice_get, vec_len, vec_capacity}
use Rattle.ro_faults.specs.declared.Fault.{Fault}
use Rattle.ro_group.specs.Groups.{Groups, stands}
use Rattle.ro_image.specs.Image.{Image}
use Rattle.ro_kernel.specs.Kernel.{opening_kernel}
use Rattle.ro_plain.specs.Machine.{setup_of}
use Rattle.ro_replica.specs.Seen.{ReplicaOf, IsOpening}
use Rattle.ro_core.specs.declared.opening.Opening.{Opening}
use Rattle.ro_legal.specs.Core.{Job, sharing_of}
use Rattle.ro_legal.specs.Parts.{Whole}
use Rattle.ro_core.specs.declared.wishing.Wish.{Wish}
use Rattle.ro_core.specs.Fields.{lent_at}

-- in the seat stands the replica of this number at its opening
abbrev pub IsFirst : Image → List Fault → (watchdog number : ℕ) → Option ReplicaOf → Type 0
IsFirst image faults watchdog number None = ⊥
IsFirst image faults watchdog number (Some value) = IsOpening image number faults watchdog value

-- and so in each
abbrev pub AreFirst : Image → List Fault → (watchdog : ℕ) → List (Option ReplicaOf) → Type 0
AreFirst image faults watchdog seats = (number : ℕ) (seat : Option ReplicaOf) → slice_get seats number ≡ Some seat → IsFirst image faults watchdog number seat

-- no thread of any of so many replicas stands still
pub record NoneStands (replicas : ℕ) (groups : Groups) : Type 0 where
  pub count : length groups ≡ replicas
  pub none : (replica thread : ℕ) → stands groups replica thread ≡ false

-- what was made for the opening of a job
pub record IsOpened (job : Job) (opening : Opening) : Type 0 where
  pub faults : opening.faults.items ≡ job.faults
  pub journal : opening.journal.items ≡ []
  pub room : 1 ≤ vec_capacity opening.journal - vec_len opening.journal
  pub first : AreFirst job.program.image job.faults job.settings.watchdog opening.seats.homes.items
  pub count : length opening.seats.homes.items ≡ job.settings.replicas
  pub none : NoneStands job.settings.replicas opening.seats.groups
  pub lent : (driver : ℕ) → lent_at opening.lent.items driver ≡ Whole
  pub lent_count : (other : Job) → other.settings ≡ job.settings → IsSome (sharing_of other) → length opening.lent.items ≡ job.settings.drivers
  pub wishes : (place : ℕ) (wish : Wish) → slice_get opening.wishes.items place ≡ Some wish → (wish.pages.items ≡ []) × (wish.misses ≡ 0)
  pub wish_count : (other : Job) → other.settings ≡ job.settings → IsSome (sharing_of other) → length opening.wishes.items ≡ 16 * job.settings.replicas
  pub setup : opening.kernel.setup ≡ setup_of job.program
  pub kernel : opening.kernel.kernel ≡ opening_kernel job.program.image.heap
  pub views : length opening.views.items ≡ job.settings.replicas
