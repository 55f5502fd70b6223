-- A run of plain instructions of one thread, by the run of the thread alone.
use Rattle.std.specs.Prelude.{◌≡◌, ℕ, zero, suc, Bool, true, false, cond, List, [], replicate, Option, Some, None, slice_get, slice_set, ◌==◌}
use Rattle.std.specs.Option.{option_and_then}
use Rattle.std.proofs.Common.{refl, sym, ap, ◌∙◌, subst, append-nil}
use Rattle.ro_event.specs.declared.table.CallTable.{CallTable}
use Rattle.ro_region.specs.declared.Range.{Range}
use Rattle.ro_journal.specs.declared.How.{How}
use Rattle.ro_pages.specs.Held.{Held, memory_of}
use Rattle.ro_exec.specs.declared.Cpu.{Cpu}
use Rattle.ro_exec.specs.Next.{Layout, Backed, Next, Stands, Executes, next, change_of}
use Rattle.ro_exec.proofs.Backing.{executes-backed}
use Rattle.ro_kernel.specs.Kernel.{Kernel, lives_on, ranges_in}
use Rattle.ro_thread.specs.declared.Thread.{Thread}
use Rattle.ro_thread.specs.Runs.{Running, after_instruction, after_next, instructions}
use Rattle.ro_plain.specs.Machine.{Program, Machine, executed, step_by, next_of, step, run, setup_of, layout_in}
use Rattle.ro_plain.proofs.Calls.{step-at}
use Rattle.ro_replica.proofs.Elements.{get_set, set_itself, set_twice}
use Rattle.ro_machine.specs.Seen.{machine_with}
use Rattle.ro_machine.specs.Parts.{Plays}
use Rattle.ro_machine.proofs.Stepping.{may}

-- the machine where a thread has run on
abbrev moved : Machine → (thread : ℕ) → Running → Machine
moved machine thread running = record machine { memory = running.memory; cpus = slice_set machine.cpus thread running.thread.cpu }

module _ (program : Program) (watchdog : ℕ) (backed : Backed) (thread : ℕ) where
  -- what so many instructions of the thread come to
  abbrev RunsOn : (count : ℕ) → Type 0
  RunsOn count = (machine : Machine) (own : Thread) (new : Running) → machine.ended ≡ None → lives_on machine.kernel thread ≡ true → slice_get machine.cpus thread ≡ Some own.cpu
      → instructions (layout_in program machine.kernel) watchdog backed count (record { thread = own; memory = machine.memory }) ≡ Some new
      → run program machine (replicate count thread) ≡ Some (moved machine thread new)

  runs-none : RunsOn zero
  runs-none machine own new going live there e =
      let same : ◌≡◌ {A = Running} (record { thread = own; memory = machine.memory }) new = cc in
      ap Some (sym (ap (λ xs. record machine { cpus = xs }) (set_itself machine.cpus thread own.cpu there)))
      ∙ ap (λ (r : Running). Some (moved machine thread r)) same

  module _ (count : ℕ) (rest : RunsOn count) (machine : Machine) (own : Thread) (new : Running) (going : machine.ended ≡ None) (live : lives_on machine.kernel thread ≡ true) (there : slice_get machine.cpus thread ≡ Some own.cpu) where
    by-next : (n : Next) → next (layout_in program machine.kernel) backed machine.memory own.cpu ≡ n
        → option_and_then (instructions (layout_in program machine.kernel) watchdog backed count) (after_next (record { thread = own; memory = machine.memory }) n) ≡ Some new
        → run program machine (replicate (suc count) thread) ≡ Some (moved machine thread new)
    by-next (Stands stop) is e = absurd (cc)
    by-next (Executes instr) is e =
        let change = change_of machine.memory own.cpu instr in
        let after : Machine = executed machine thread own.cpu instr in
        let here : next_of program machine own.cpu ≡ Executes instr = executes-backed (layout_in program machine.kernel) backed machine.memory own.cpu instr is in
        let one : step program machine thread ≡ Some after = step-at program machine thread own.cpu (may machine thread own.cpu going live there) ∙ ap (step_by program machine thread own.cpu) here in
        ap (option_and_then (λ m. run program m (replicate count thread))) one
        ∙ rest after (after_instruction (record { thread = own; memory = machine.memory }) instr).thread new going live (get_set machine.cpus thread own.cpu change.cpu there) e
        ∙ ap (λ xs. Some (record machine { memory = new.memory; cpus = xs })) (set_twice machine.cpus thread change.cpu new.thread.cpu)

    by-watchdog : (b : Bool) → option_and_then (instructions (layout_in program machine.kernel) watchdog backed count) (cond b None (after_next (record { thread = own; memory = machine.memory }) (next (layout_in program machine.kernel) backed machine.memory own.cpu))) ≡ Some new
        → run program machine (replicate (suc count) thread) ≡ Some (moved machine thread new)
    by-watchdog true e = absurd (cc)
    by-watchdog false e = by-next (next (layout_in program machine.kernel) backed machine.memory own.cpu) refl e

  runs-on : (count : ℕ) → RunsOn count
  runs-on zero = runs-none
  runs-on (suc count) = λ machine own new going live there e. by-watchdog count (runs-on count) machine own new going live there (own.since == watchdog) e

-- the same over the machine's parts
pub plays-on : (program : Program) (old new : Held) (cpus : List Cpu) (kernel : Kernel) (written later : List ℕ) (regions : List Range) (calls : CallTable) (ended : Option How) (watchdog : ℕ) (backed : Backed) (thread count : ℕ) (own after : Thread)
    → ended ≡ None → lives_on kernel thread ≡ true → slice_get cpus thread ≡ Some own.cpu → regions ≡ ranges_in (setup_of program) kernel → calls ≡ program.image.calls
    → instructions (record { ranges = regions; calls = calls }) watchdog backed count (record { thread = own; memory = memory_of old.pages }) ≡ Some (record { thread = after; memory = memory_of new.pages })
    → Plays (record { program = program; held = old; cpus = cpus; kernel = kernel; ended = ended; written = written }) (replicate count thread) (record { program = program; held = new; cpus = slice_set cpus thread after.cpu; kernel = kernel; ended = ended; written = later }) []
plays-on program old new cpus kernel written later regions calls ended watchdog backed thread count own after going live there here table e =
    let layout : ◌≡◌ {A = Layout} (record { ranges = regions; calls = calls }) (layout_in program kernel) = λ i. record { ranges = here i; calls = table i } in
    let ran = subst (λ (l : Layout). instructions l watchdog backed count (record { thread = own; memory = memory_of old.pages }) ≡ Some (record { thread = after; memory = memory_of new.pages })) layout e in
    record {
      program = refl;
      runs = λ output.
          runs-on program watchdog backed thread count (machine_with old cpus kernel output ended) own (record { thread = after; memory = memory_of new.pages }) going live there ran
          ∙ ap (λ o. Some (machine_with new (slice_set cpus thread after.cpu) kernel o ended)) (sym (append-nil output));
    }
