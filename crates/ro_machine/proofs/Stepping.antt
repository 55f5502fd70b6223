-- A step of the machine, by what its code did.
use Rattle.std.specs.Prelude.{◌≡◌, ◌⊎◌, ℕ, ◌++◌, ◌&&◌, Bool, true, false, List, [], Option, Some, None, Result, Ok, Err, OnOk, OnErr, IfErr, cond, is_some, is_none, slice_get, slice_set}
use Rattle.std.specs.Option.{option_and_then}
use Rattle.std.proofs.Common.{refl, sym, ap, ◌∙◌, subst, inl, inr, append-nil}
use Rattle.std.proofs.lemmas.Bool.{true≢false, false≢true}
use Rattle.ro_event.specs.declared.calls.Call.{Call}
use Rattle.ro_event.specs.declared.stops.Stop.{Stop}
use Rattle.ro_event.specs.declared.stops.Stop.TheVariants.{Calls}
use Rattle.ro_event.specs.declared.table.CallTable.{CallTable}
use Rattle.ro_region.specs.declared.Range.{Range}
use Rattle.ro_region.specs.Permission.{Ranges, ranges_of}
use Rattle.ro_journal.specs.declared.How.{How}
use Rattle.ro_pages.specs.Bytes.{Memory}
use Rattle.ro_pages.specs.Held.{Held, memory_of}
use Rattle.ro_exec.specs.declared.Cpu.{Cpu}
use Rattle.ro_exec.specs.declared.outcome.Step.{Step}
use Rattle.ro_exec.specs.declared.outcome.Step.TheVariants.{Did, Stopped}
use Rattle.ro_exec.specs.Next.{Layout, all_backed, Next, Stands, Executes, next}
use Rattle.ro_exec.specs.Steps.{IsStep}
use Rattle.ro_image.specs.Image.{Image}
use Rattle.ro_kernel.specs.Kernel.{Kernel, lives_on, ranges_in}
use Rattle.ro_kernel.specs.State.{State}
use Rattle.ro_kernel.specs.Serve.{serve, payload_of, put_out, asked}
use Rattle.ro_plain.specs.Machine.{Program, setup_of, Machine, called, step_by, next_of, steppable, step, layout_in}
use Rattle.ro_plain.proofs.Calls.{steppable-from, step-at}
use Rattle.ro_replica.proofs.Elements.{set_itself}
use Rattle.ro_machine.specs.declared.errors.StepError.{StepError}
use Rattle.ro_machine.specs.declared.errors.StepError.TheVariants.{NoStep, NoMemory}
use Rattle.ro_machine.specs.Seen.{PlainOf, machine_with, machine_of, Steps, StepsFrom, Refuses, RefusesAt, SameMachine}

pub on-ok : {T E : Type 0} (r : Result T E) (P Q : Type 0) → (P → Q) → OnOk r P → OnOk r Q
on-ok (Ok x) P Q f h = f h
on-ok (Err e) P Q f h = h

pub on-err : {T E : Type 0} (r : Result T E) (P Q : Type 0) → (P → Q) → OnErr r P → OnErr r Q
on-err (Ok x) P Q f h = h
on-err (Err e) P Q f h = f h

pub if-err : {T E : Type 0} (r : Result T E) (P Q : E → Type 0) → ((e : E) → P e → Q e) → IfErr r P → IfErr r Q
if-err (Ok x) P Q f h = h
if-err (Err e) P Q f h = f e h

-- a thread that lives, in a program that has not ended, may step
pub may : (machine : Machine) (thread : ℕ) (cpu : Cpu) → machine.ended ≡ None → lives_on machine.kernel thread ≡ true → slice_get machine.cpus thread ≡ Some cpu → steppable machine thread ≡ Some cpu
may machine thread cpu going live there = steppable-from machine thread cpu (record { going = ap is_none going; live = live; there = there })

-- the step of a thread that executed an instruction
did : (program : Program) (machine : Machine) (thread : ℕ) (cpu new : Cpu) (after : Memory) (n : Next) → IsStep n Did cpu new machine.memory after → step_by program machine thread cpu n ≡ Some (record machine { memory = after; cpus = slice_set machine.cpus thread new })
did program machine thread cpu new after (Executes instr) h = λ i. Some (record machine { memory = sym h.2 i; cpus = slice_set machine.cpus thread (sym h.1 i) })
did program machine thread cpu new after (Stands stop) h = absurd (let e : Did ≡ Stopped stop = h.0 in cc)

pub step-did : (program : Program) (layout : Layout) (machine : Machine) (thread : ℕ) (cpu new : Cpu) (after : Memory) → layout ≡ layout_in program machine.kernel → steppable machine thread ≡ Some cpu → IsStep (next layout all_backed machine.memory cpu) Did cpu new machine.memory after → step program machine thread ≡ Some (record machine { memory = after; cpus = slice_set machine.cpus thread new })
step-did program layout machine thread cpu new after same live h =
    step-at program machine thread cpu live
    ∙ did program machine thread cpu new after (next_of program machine cpu) (subst (λ (l : Layout). IsStep (next l all_backed machine.memory cpu) Did cpu new machine.memory after) same h)

-- what is known of a thread that stands at a stop
pub record StandsStill (layout : Layout) (m after : Memory) (cpu new : Cpu) (stop : Stop) : Type 0 where
  pub stands : next layout all_backed m cpu ≡ Stands stop
  pub cpu_stays : new ≡ cpu
  pub memory_stays : after ≡ m

pub stands-still : (layout : Layout) (m after : Memory) (cpu new : Cpu) (stop : Stop) → IsStep (next layout all_backed m cpu) (Stopped stop) cpu new m after → StandsStill layout m after cpu new stop
stands-still layout m after cpu new stop h = by (next layout all_backed m cpu) refl h
  where
    by : (n : Next) → next layout all_backed m cpu ≡ n → IsStep n (Stopped stop) cpu new m after → StandsStill layout m after cpu new stop
    by (Executes instr) e h = absurd (let f : Stopped stop ≡ Did = h.0 in cc)
    by (Stands other) e h =
        let same : other ≡ stop = (let f : Stopped stop ≡ Stopped other = h.0 in cc) in
        record { stands = e ∙ ap Stands same; cpu_stays = h.1; memory_stays = h.2 }

-- the step of a thread that stands at a stop
step-stands : (program : Program) (machine : Machine) (thread : ℕ) (cpu : Cpu) (stop : Stop) → steppable machine thread ≡ Some cpu → next_of program machine cpu ≡ Stands stop → step program machine thread ≡ step_by program machine thread cpu (Stands stop)
step-stands program machine thread cpu stop live e = step-at program machine thread cpu live ∙ ap (step_by program machine thread cpu) e

module _ (old mid : PlainOf) (thread : ℕ) (cpu : Cpu) (stop : Stop) (program : mid.program ≡ old.program) (same : SameMachine mid old) (there : slice_get old.cpus thread ≡ Some cpu) (live : (output : List ℕ) → steppable (machine_of old output) thread ≡ Some cpu) (stands : next (layout_in old.program old.kernel) all_backed (memory_of old.held.pages) cpu ≡ Stands stop) where
  there-too : slice_get mid.cpus thread ≡ Some cpu
  there-too = ap (λ m. slice_get m.cpus thread) (same []) ∙ there

  step-of : (output : List ℕ) → step old.program (machine_of old output) thread ≡ step_by mid.program (machine_of mid output) thread cpu (Stands stop)
  step-of output =
      step-stands old.program (machine_of old output) thread cpu stop (live output) stands
      ∙ (ap (λ p. step_by p (machine_of old output) thread cpu (Stands stop)) (sym program)
      ∙ ap (λ m. step_by mid.program m thread cpu (Stands stop)) (sym (same output)))

  pub steps-there : (new : PlainOf) → StepsFrom mid thread stop new → Steps old thread new
  steps-there new h output = step-of output ∙ h output cpu there-too

  pub refuses-there : (e : StepError) → RefusesAt mid thread stop e → Refuses old thread e
  refuses-there NoStep h = λ output. step-of output ∙ h output cpu there-too
  refuses-there NoMemory h = tt

-- where the program has ended, or the thread does not live, there is no step
unsteppable : (machine : Machine) (thread : ℕ) → (is_some machine.ended ≡ true) ⊎ (lives_on machine.kernel thread ≡ false) → steppable machine thread ≡ None
unfolding steppable
unsteppable machine thread (inl h) = by machine.ended h
  where
    by : (o : Option How) → is_some o ≡ true → cond (is_none o && lives_on machine.kernel thread) (slice_get machine.cpus thread) None ≡ None
    by None h = absurd (false≢true h)
    by (Some how) h = refl
unsteppable machine thread (inr h) = by (is_none machine.ended) (lives_on machine.kernel thread) h
  where
    by : (a b : Bool) → b ≡ false → cond (a && b) (slice_get machine.cpus thread) None ≡ None
    by true true h = absurd (true≢false h)
    by true false h = refl
    by false b h = refl

pub no-step : (program : Program) (machine : Machine) (thread : ℕ) → (is_some machine.ended ≡ true) ⊎ (lives_on machine.kernel thread ≡ false) → step program machine thread ≡ None
unfolding step
no-step program machine thread h = ap (option_and_then (λ cpu. step_by program machine thread cpu (next_of program machine cpu))) (unsteppable machine thread h)

-- the ranges of a kernel, of a machine of this image
pub ranges-now : {regions : Ranges} {given first image : List Range} → regions ≡ record { given = given; first = first } → first ≡ image → ranges_of regions ≡ given ++ image
ranges-now {regions} {given} {first} {image} are same = ap ranges_of are ∙ ap (λ (r : List Range). given ++ r) same

-- a call of a thread
pub stand-call : (image : Image) (state : State) (old : Held) (cpus : List Cpu) (written : List ℕ) (regions : List Range) (ended : Option How) (thread : ℕ) (call : Call) (stop : Stop) (new : PlainOf)
    → stop ≡ Calls call → ended ≡ None → regions ≡ state.kernel.given ++ image.ranges → state.setup.ranges ≡ image.ranges → state.setup.heap ≡ image.heap
    → ((cpu : Cpu) (output : List ℕ) → slice_get cpus thread ≡ Some cpu → called (machine_with old cpus state.kernel output None) cpu (put_out call.which (payload_of regions (memory_of old.pages) call)) (serve state.setup state.kernel thread (asked call (payload_of regions (memory_of old.pages) call))) ≡ Some (machine_of new (output ++ new.written)))
    → StepsFrom (record { program = record { image = image; input = state.setup.input }; held = old; cpus = cpus; kernel = state.kernel; ended = ended; written = written }) thread stop new
stand-call image state old cpus written regions ended thread call stop new is going here ranges heap h output cpu there =
    let program : Program = record { image = image; input = state.setup.input } in
    let setup : setup_of program ≡ state.setup = λ i. record { ranges = sym ranges i; heap = sym heap i; input = state.setup.input } in
    let machine : Machine = machine_with old cpus state.kernel output None in
    subst (λ (s : Stop). step_by program (machine_with old cpus state.kernel output ended) thread cpu (Stands s) ≡ Some (machine_of new (output ++ new.written))) (sym is)
    (subst (λ (o : Option How). step_by program (machine_with old cpus state.kernel output o) thread cpu (Stands (Calls call)) ≡ Some (machine_of new (output ++ new.written))) (sym going)
    (ap (λ r. called machine cpu (put_out call.which (payload_of r (memory_of old.pages) call)) (serve (setup_of program) state.kernel thread (asked call (payload_of r (memory_of old.pages) call)))) (sym here)
    ∙ (ap (λ s. called machine cpu (put_out call.which (payload_of regions (memory_of old.pages) call)) (serve s state.kernel thread (asked call (payload_of regions (memory_of old.pages) call)))) setup
    ∙ h cpu output there)))

-- a thread that stays as it was leaves the machine
pub stays : (old new : Held) (program : Program) (cpus : List Cpu) (kernel : Kernel) (ended : Option How) (written : List ℕ) (thread : ℕ) (cpu next_cpu : Cpu) → slice_get cpus thread ≡ Some cpu → next_cpu ≡ cpu → memory_of new.pages ≡ memory_of old.pages
    → SameMachine (record { program = program; held = new; cpus = slice_set cpus thread next_cpu; kernel = kernel; ended = ended; written = written }) (record { program = program; held = old; cpus = cpus; kernel = kernel; ended = ended; written = written })
stays old new program cpus kernel ended written thread cpu next_cpu there same memory output =
    let threads = ap (slice_set cpus thread) same ∙ set_itself cpus thread cpu there in
    λ i. record { memory = memory i; cpus = threads i; kernel = kernel; output = output; ended = ended }

-- the step of a thread that executed an instruction, over the machine's parts
pub go-did : (program : Program) (old new : Held) (cpus : List Cpu) (kernel : Kernel) (written : List ℕ) (regions : List Range) (calls : CallTable) (ended : Option How) (thread : ℕ) (cpu next_cpu : Cpu) (done : Step) → done ≡ Did → ended ≡ None → lives_on kernel thread ≡ true → slice_get cpus thread ≡ Some cpu → written ≡ [] → regions ≡ ranges_in (setup_of program) kernel → calls ≡ program.image.calls
    → IsStep (next (record { ranges = regions; calls = calls }) all_backed (memory_of old.pages) cpu) done cpu next_cpu (memory_of old.pages) (memory_of new.pages)
    → Steps (record { program = program; held = old; cpus = cpus; kernel = kernel; ended = ended; written = written }) thread (record { program = program; held = new; cpus = slice_set cpus thread next_cpu; kernel = kernel; ended = ended; written = written })
go-did program old new cpus kernel written regions calls ended thread cpu next_cpu done is going live there empty here table h output =
    let layout : ◌≡◌ {A = Layout} (record { ranges = regions; calls = calls }) (layout_in program kernel) = λ i. record { ranges = here i; calls = table i } in
    step-did program (record { ranges = regions; calls = calls }) (machine_with old cpus kernel output ended) thread cpu next_cpu (memory_of new.pages) layout (may (machine_with old cpus kernel output ended) thread cpu going live there)
    (subst (λ (s : Step). IsStep (next (record { ranges = regions; calls = calls }) all_backed (memory_of old.pages) cpu) s cpu next_cpu (memory_of old.pages) (memory_of new.pages)) is h)
    ∙ (λ i. Some (machine_with new (slice_set cpus thread next_cpu) kernel ((sym (append-nil output) ∙ ap (λ w. output ++ w) (sym empty)) i) ended))

-- the parts of a machine, of which a thread stands at a stop, and the parts after it was found to
module _ (old : PlainOf) (program : Program) (held new : Held) (cpus : List Cpu) (kernel : Kernel) (ended : Option How) (written : List ℕ) (view_is : ◌≡◌ {A = PlainOf} (record { program = program; held = held; cpus = cpus; kernel = kernel; ended = ended; written = written }) old)
    (regions : List Range) (calls : CallTable) (thread : ℕ) (cpu next_cpu : Cpu) (done : Step) (stop : Stop) (is : done ≡ Stopped stop) (going : old.ended ≡ None) (live : lives_on old.kernel thread ≡ true) (there : slice_get cpus thread ≡ Some cpu) (here : regions ≡ ranges_in (setup_of program) kernel) (table : calls ≡ program.image.calls)
    (h : IsStep (next (record { ranges = regions; calls = calls }) all_backed (memory_of held.pages) cpu) done cpu next_cpu (memory_of held.pages) (memory_of new.pages)) where
  still : StandsStill (layout_in program kernel) (memory_of held.pages) (memory_of new.pages) cpu next_cpu stop
  still =
      let layout : ◌≡◌ {A = Layout} (record { ranges = regions; calls = calls }) (layout_in program kernel) = λ i. record { ranges = here i; calls = table i } in
      stands-still (layout_in program kernel) (memory_of held.pages) (memory_of new.pages) cpu next_cpu stop
      (subst (λ (l : Layout). IsStep (next l all_backed (memory_of held.pages) cpu) (Stopped stop) cpu next_cpu (memory_of held.pages) (memory_of new.pages)) layout
      (subst (λ (s : Step). IsStep (next (record { ranges = regions; calls = calls }) all_backed (memory_of held.pages) cpu) s cpu next_cpu (memory_of held.pages) (memory_of new.pages)) is h))

  pub found-same : SameMachine (record { program = program; held = new; cpus = slice_set cpus thread next_cpu; kernel = kernel; ended = ended; written = written }) old
  found-same output = stays held new program cpus kernel ended written thread cpu next_cpu there still.cpu_stays still.memory_stays output ∙ ap (λ v. machine_of v output) view_is

  in-old : slice_get old.cpus thread ≡ Some cpu
  in-old = ap (λ v. slice_get v.cpus thread) (sym view_is) ∙ there

  stands-in-old : next (layout_in old.program old.kernel) all_backed (memory_of old.held.pages) cpu ≡ Stands stop
  stands-in-old = subst (λ (v : PlainOf). next (layout_in v.program v.kernel) all_backed (memory_of v.held.pages) cpu ≡ Stands stop) view_is still.stands

  pub found-steps : (last : PlainOf) → StepsFrom (record { program = program; held = new; cpus = slice_set cpus thread next_cpu; kernel = kernel; ended = ended; written = written }) thread stop last → Steps old thread last
  found-steps = steps-there old (record { program = program; held = new; cpus = slice_set cpus thread next_cpu; kernel = kernel; ended = ended; written = written }) thread cpu stop (ap (λ v. v.program) view_is) found-same in-old (λ output. may (machine_of old output) thread cpu going live in-old) stands-in-old

  pub found-refuses : (e : StepError) → RefusesAt (record { program = program; held = new; cpus = slice_set cpus thread next_cpu; kernel = kernel; ended = ended; written = written }) thread stop e → Refuses old thread e
  found-refuses = refuses-there old (record { program = program; held = new; cpus = slice_set cpus thread next_cpu; kernel = kernel; ended = ended; written = written }) thread cpu stop (ap (λ v. v.program) view_is) found-same in-old (λ output. may (machine_of old output) thread cpu going live in-old) stands-in-old
