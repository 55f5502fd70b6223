-- A run whose thread's reservation has ended, and what the kernel serves then.
use Rattle.std.proofs.Common.{◌≡◌, ℕ, ◌<◌, true, List, [], length, Option, ap, ◌∙◌, subst}
use Rattle.std.specs.Prelude.{IfSome}
use Rattle.ro_event.specs.declared.calls.Call.{Call}
use Rattle.ro_event.specs.Views.{View}
use Rattle.ro_region.specs.declared.Range.{Range}
use Rattle.ro_kernel.specs.Kernel.{Setup, Kernel, lives_on}
use Rattle.ro_kernel.specs.Mapped.{IsMapped}
use Rattle.ro_kernel.specs.State.{State}
use Rattle.ro_kernel.specs.Serve.{serve}
use Rattle.ro_legal.specs.Core.{Job, Core}
use Rattle.ro_legal.specs.Event.{call_event, event_of as event_at}
use Rattle.ro_legal.specs.Cooperative.{kernel_for}
use Rattle.ro_coop_core.specs.declared.cores.Core.{Core as Run}
use Rattle.ro_coop_core.specs.Fields.{Fields, core_in, Holds}
use Rattle.ro_coop_core.specs.Runs.{fields_of, job_of, state_of}
use Rattle.ro_coop_core.specs.Amid.{MakesRoom, first_answered, lapsed}
use Rattle.ro_coop_core.proofs.Lapsing.{lapsed-setup, lapsed-live, lapsed-given}
use Rattle.ro_coop_core.proofs.Makes.{same-state}
use Rattle.ro_coop_core.proofs.Mapped.{holds-mapped}
use Rattle.ro_coop_core.proofs.Votes.{serving-kernel}

-- what is so of the core where room was made was so of the one before
pub before-room : (old new : Fields) → MakesRoom old new → (P : Job → Core → Type 0) → P new.job (core_in new) → P old.job (core_in old)
before-room old new m P p = subst (λ (j : Job). P j (core_in old)) m.job (subst (P new.job) (same-state old new m) p)

-- a job by its kernel's input
pub job-with : (run : Run) (kernel : State) → kernel.setup ≡ run.kernel.setup → job_of (record run { kernel = kernel }) ≡ job_of run
job-with run kernel same = ap (λ (s : Setup). record { program = record { image = run.image; input = s.input }; faults = []; settings = run.settings }) same

module _ (before lapse : Run) (thread : ℕ) (h : Holds (fields_of before)) (alone : before.leases.items ≡ []) (is : lapse ≡ record before { kernel = lapsed (first_answered thread before.seats.items) thread before.kernel }) where
  pub lapse-kernel : lapse.kernel.kernel ≡ kernel_for (state_of before) thread
  lapse-kernel = ap (λ (x : Run). x.kernel.kernel) is ∙ serving-kernel (fields_of before) thread h alone

  pub lapse-setup : lapse.kernel.setup ≡ before.kernel.setup
  lapse-setup = ap (λ (x : Run). x.kernel.setup) is ∙ lapsed-setup (first_answered thread before.seats.items) thread before.kernel

  pub lapse-live : lives_on before.kernel.kernel thread ≡ true → lives_on lapse.kernel.kernel thread ≡ true
  lapse-live live = ap (λ (x : Run). lives_on x.kernel.kernel thread) is ∙ lapsed-live (first_answered thread before.seats.items) thread before.kernel thread ∙ live

  pub lapse-steps : lapse.steps ≡ before.steps
  lapse-steps = ap (λ (x : Run). x.steps) is

  pub lapse-limit : lapse.settings.limit ≡ before.settings.limit
  lapse-limit = ap (λ (x : Run). x.settings.limit) is

  pub lapse-amid : (kernel : State) → record lapse { kernel = kernel } ≡ record before { kernel = kernel }
  lapse-amid kernel = ap (λ (x : Run). record x { kernel = kernel }) is

  -- where the call failed
  pub lapse-failed : (kernel : State) → kernel ≡ lapse.kernel → record lapse { kernel = kernel } ≡ lapse
  lapse-failed kernel same = ap (λ (k : State). record lapse { kernel = k }) same

  pub lapse-room : (range : Option Range) → (IsMapped lapse.kernel.kernel.given → IfSome range (λ r. length lapse.kernel.kernel.given < 4096)) → IfSome range (λ r. length before.kernel.kernel.given < 4096)
  lapse-room range room = subst (λ (given : List Range). IsMapped given → IfSome range (λ r. length given < 4096)) (ap (λ (x : Run). x.kernel.kernel.given) is ∙ lapsed-given (first_answered thread before.seats.items) thread before.kernel) room (holds-mapped (fields_of before) h)

  -- what comes of a view
  pub lapse-event : (view w : View) → w ≡ view → event_at lapse.kernel.setup lapse.kernel.kernel thread w.stop w.payload ≡ event_at before.kernel.setup (kernel_for (state_of before) thread) thread view.stop view.payload
  lapse-event view w same =
      ap (λ (x : View). event_at lapse.kernel.setup lapse.kernel.kernel thread x.stop x.payload) same
      ∙ ap (λ (s : Setup). event_at s lapse.kernel.kernel thread view.stop view.payload) lapse-setup
      ∙ ap (λ (k : Kernel). event_at before.kernel.setup k thread view.stop view.payload) lapse-kernel

  -- and of a blocked call
  pub lapse-call : (call : Call) → call_event lapse.kernel.kernel thread call [] (serve lapse.kernel.setup lapse.kernel.kernel thread call) ≡ call_event (kernel_for (state_of before) thread) thread call [] (serve before.kernel.setup (kernel_for (state_of before) thread) thread call)
  lapse-call call =
      ap (λ (s : Setup). call_event lapse.kernel.kernel thread call [] (serve s lapse.kernel.kernel thread call)) lapse-setup
      ∙ ap (λ (k : Kernel). call_event k thread call [] (serve before.kernel.setup k thread call)) lapse-kernel
