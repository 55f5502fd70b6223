-- The reservation of a thread that ends before the kernel serves it, and that comes back where nothing comes of it.
use Rattle.std.proofs.Common.{◌≡◌, ℕ, Bool, true, false, List, Option, Some, None, refl, ap, ◌∙◌}
use Rattle.std.specs.Prelude.{if◌then◌else◌, slice_get}
use Rattle.std.specs.Option.{option_map_or}
use Rattle.ro_kernel.specs.declared.reservations.Reservation.{Reservation}
use Rattle.ro_kernel.specs.Kernel.{Kernel, lives_on, released}
use Rattle.ro_kernel.specs.State.{State}
use Rattle.ro_kernel.proofs.Reserving.{given_back}
use Rattle.ro_legal.specs.Sides.{Side}
use Rattle.ro_legal.specs.Core.{Core}
use Rattle.ro_legal.specs.Cooperative.{kernel_for}
use Rattle.ro_coop_core.specs.declared.cores.Core.{Core as Run}
use Rattle.ro_coop_core.specs.Amid.{first_answered, lapsed, lapsed_one, revived}

pub lapsed-setup : (answered : Bool) (thread : ℕ) (state : State) → (lapsed answered thread state).setup ≡ state.setup
lapsed-setup true thread state = refl
lapsed-setup false thread state = refl

pub lapsed-live : (answered : Bool) (thread : ℕ) (state : State) (other : ℕ) → lives_on (lapsed answered thread state).kernel other ≡ lives_on state.kernel other
lapsed-live true thread state other = refl
lapsed-live false thread state other = refl

pub lapsed-back : (answered : Bool) (thread : ℕ) (state : State) → revived answered thread (lapsed_one answered thread state) (lapsed answered thread state) ≡ state
lapsed-back true thread state = ap (λ (rs : List (Option Reservation)). record state { kernel = record state.kernel { reserved = rs } }) (given_back state.kernel.reserved thread)
lapsed-back false thread state = refl

-- the kernel that serves the thread
pub lapsed-kernel : (core : Core) (thread : ℕ) (state : State) (answered : Bool) → state.kernel ≡ core.kernel → answered ≡ option_map_or (λ (side : Side). side.answered thread) (slice_get core.sides 0) false → (lapsed answered thread state).kernel ≡ kernel_for core thread
lapsed-kernel core thread state answered same is = by (slice_get core.sides 0) answered is
  where
    one : (b : Bool) → (lapsed b thread state).kernel ≡ (if b then released core.kernel thread else core.kernel)
    one true = ap (λ (k : Kernel). released k thread) same
    one false = same

    by : (o : Option Side) (b : Bool) → b ≡ option_map_or (λ (side : Side). side.answered thread) o false → (lapsed b thread state).kernel ≡ option_map_or (λ (side : Side). if side.answered thread then released core.kernel thread else core.kernel) o core.kernel
    by None b e = ap (λ (c : Bool). (lapsed c thread state).kernel) e ∙ same
    by (Some side) b e = ap (λ (c : Bool). (lapsed c thread state).kernel) e ∙ one (side.answered thread)

-- ---- what it leaves of the kernel

module _ (core : Core) (thread : ℕ) where
  -- it is the kernel, or that in which the reservation has ended
  pub for-either : (P : Kernel → Type 0) → P core.kernel → P (released core.kernel thread) → P (kernel_for core thread)
  for-either P same ended = by (slice_get core.sides 0)
    where
      one : (b : Bool) → P (if b then released core.kernel thread else core.kernel)
      one true = ended
      one false = same

      by : (o : Option Side) → P (option_map_or (λ (side : Side). if side.answered thread then released core.kernel thread else core.kernel) o core.kernel)
      by None = same
      by (Some side) = one (side.answered thread)

pub lapsed-given : (answered : Bool) (thread : ℕ) (state : State) → (lapsed answered thread state).kernel.given ≡ state.kernel.given
lapsed-given true thread state = refl
lapsed-given false thread state = refl

-- a run to which it came back
pub came-back : (before lapse after : Run) (thread : ℕ) (reservation : Option Reservation) → lapse ≡ record before { kernel = lapsed (first_answered thread before.seats.items) thread before.kernel } → reservation ≡ lapsed_one (first_answered thread before.seats.items) thread before.kernel
    → after ≡ record lapse { kernel = revived (first_answered thread lapse.seats.items) thread reservation lapse.kernel } → after ≡ before
came-back before lapse after thread reservation e was f =
    f ∙ ap (λ (x : Run). record x { kernel = revived (first_answered thread x.seats.items) thread reservation x.kernel }) e
    ∙ ap (λ (o : Option Reservation). record before { kernel = revived (first_answered thread before.seats.items) thread o (lapsed (first_answered thread before.seats.items) thread before.kernel) }) was
    ∙ ap (λ (s : State). record before { kernel = s }) (lapsed-back (first_answered thread before.seats.items) thread before.kernel)
