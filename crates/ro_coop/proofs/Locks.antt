-- A thread that stands at a lock stands there whatever its memory, its pages and the permitted ranges are: a call by its place is one by its pc alone.
use Rattle.std.specs.Prelude.{◌≡◌, ℕ, ◌%◌, Bool, true, false, not, ◌==◌, List, [], ◌∷◌, Option, Some, None}
use Rattle.std.specs.Option.{option_map}
use Rattle.std.proofs.Common.{refl, sym, ap, ◌∙◌}
use Rattle.std.proofs.lemmas.Bool.{false≢true}
use Rattle.ro_decode.specs.declared.AtomicOp.{AtomicOp}
use Rattle.ro_decode.specs.declared.Instr.{Instr}
use Rattle.ro_decode.specs.declared.Instr.TheVariants.{Lui, Auipc, Jal, Jalr, Branch, Load, Store, AluImm, Alu, MulDiv, Fence, Atomic, Ecall, Ebreak}
use Rattle.ro_decode.specs.Table.{instruction_of}
use Rattle.ro_event.specs.declared.calls.Which.{Which}
use Rattle.ro_event.specs.declared.calls.Which.TheVariants.{Function}
use Rattle.ro_event.specs.declared.functions.Function.TheVariants.{Exit}
use Rattle.ro_event.specs.declared.calls.Call.{Call}
use Rattle.ro_event.specs.declared.stops.Stop.{Stop}
use Rattle.ro_event.specs.declared.stops.Stop.TheVariants.{Calls, Trap, PageFault}
use Rattle.ro_event.specs.declared.table.CallTable.{CallTable}
use Rattle.ro_event.specs.declared.traps.TrapCause.{TrapCause}
use Rattle.ro_event.specs.declared.traps.TrapCause.TheVariants.{MisalignedPc, ForbiddenFetch, MisalignedTarget, MisalignedLoad, ForbiddenLoad, MisalignedStore, ForbiddenStore}
use Rattle.ro_event.specs.Table.{call_at}
use Rattle.ro_region.specs.declared.Kind.{Kind}
use Rattle.ro_region.specs.declared.Kind.TheVariants.{Read, Write, Execute}
use Rattle.ro_region.specs.declared.Range.{Range}
use Rattle.ro_region.specs.Permission.{permits_of}
use Rattle.ro_pages.specs.Bytes.{Memory, Span, number_at, page_of}
use Rattle.ro_exec.specs.declared.Cpu.{Cpu}
use Rattle.ro_exec.specs.Registers.{register}
use Rattle.ro_exec.specs.Meaning.{loads, stores, target_of}
use Rattle.ro_exec.specs.Next.{Layout, Backed, exit_place, call_of, Next, Stands, Executes, first, stop_if, access_stop, permits_atomic, misaligned_by, forbidden_by, atomic_stop, atomic_call, jump_stop, fetch_stop, instruction_stop, unless_stop, next_at, next, stop_in}
use Rattle.ro_exec.proofs.Frame.{next-stopped}
use Rattle.ro_legal.specs.Cooperative.{is_lock}

abbrev pub at_lock : Option Stop → Bool
at_lock (Some (Calls call)) = is_lock call.which
at_lock _ = false

-- it stands at the call with any memory, pages and ranges
abbrev pub AlwaysAt : CallTable → Cpu → Call → Type 0
AlwaysAt calls cpu call = (ranges : List Range) (backed : Backed) (memory : Memory) → next (record { ranges = ranges; calls = calls }) backed memory cpu ≡ Stands (Calls call)

-- ---- an instruction calls no lock

access-none : (ranges : List Range) (backed : Backed) (kind : Kind) (span : Span) (m f : TrapCause) → at_lock (access_stop ranges backed kind span m f) ≡ false
access-none ranges backed kind span m f = by (span.place % span.count == 0) (permits_of ranges kind span.place span.count) (backed (page_of span.place))
  where
    by : (a b c : Bool) → at_lock (first (stop_if (not a) (Trap m) ∷ stop_if (not b) (Trap f) ∷ stop_if (not c) (PageFault (page_of span.place)) ∷ [])) ≡ false
    by false b c = refl
    by true false c = refl
    by true true false = refl
    by true true true = refl

jump-none : (target : ℕ) → at_lock (jump_stop target) ≡ false
jump-none target = by (target % 4 == 0)
  where
    by : (a : Bool) → at_lock (stop_if (not a) (Trap MisalignedTarget)) ≡ false
    by false = refl
    by true = refl

atomic-none : (ranges : List Range) (op : AtomicOp) (address : ℕ) (stop : Stop) → at_lock (Some stop) ≡ false → at_lock (atomic_stop ranges op address stop) ≡ false
atomic-none ranges op address stop e = by (address % 4 == 0) (permits_atomic ranges op address)
  where
    by : (a b : Bool) → at_lock (first (stop_if (not a) (Trap (misaligned_by op)) ∷ stop_if (not b) (Trap (forbidden_by op)) ∷ Some stop ∷ [])) ≡ false
    by false b = refl
    by true false = refl
    by true true = e

instruction-none : (ranges : List Range) (backed : Backed) (cpu : Cpu) (instr : Instr) → at_lock (instruction_stop ranges backed cpu instr) ≡ false
unfolding instruction_stop
instruction-none ranges backed cpu (Lui rd imm) = refl
instruction-none ranges backed cpu (Auipc rd imm) = refl
instruction-none ranges backed cpu (Jal rd imm) = jump-none (target_of (Jal rd imm) cpu)
instruction-none ranges backed cpu (Jalr rd rs1 imm) = jump-none (target_of (Jalr rd rs1 imm) cpu)
instruction-none ranges backed cpu (Branch op rs1 rs2 imm) = jump-none (target_of (Branch op rs1 rs2 imm) cpu)
instruction-none ranges backed cpu (Load op rd rs1 imm) = access-none ranges backed Read (loads (Load op rd rs1 imm) cpu) MisalignedLoad ForbiddenLoad
instruction-none ranges backed cpu (Store op rs1 rs2 imm) = access-none ranges backed Write (stores (Store op rs1 rs2 imm) cpu) MisalignedStore ForbiddenStore
instruction-none ranges backed cpu (AluImm op rd rs1 imm) = refl
instruction-none ranges backed cpu (Alu op rd rs1 rs2) = refl
instruction-none ranges backed cpu (MulDiv op rd rs1 rs2) = refl
instruction-none ranges backed cpu (Fence rd rs1 bits) = refl
instruction-none ranges backed cpu (Atomic op rd rs1 rs2 order) = atomic-none ranges op (register cpu rs1) (atomic_call cpu (Atomic op rd rs1 rs2 order) rs1 rs2) refl
instruction-none ranges backed cpu Ecall = refl
instruction-none ranges backed cpu Ebreak = refl

read-none : (ranges : List Range) (backed : Backed) (cpu : Cpu) (o : Option Instr) → at_lock (stop_in (next_at ranges backed cpu o)) ≡ false
read-none ranges backed cpu None = refl
read-none ranges backed cpu (Some instr) = by (instruction_stop ranges backed cpu instr) (instruction-none ranges backed cpu instr)
  where
    by : (o : Option Stop) → at_lock o ≡ false → at_lock (stop_in (unless_stop o (Executes instr))) ≡ false
    by None e = refl
    by (Some stop) e = e

-- ---- so it is called before an instruction is read

fetched : (layout : Layout) (backed : Backed) (memory : Memory) (cpu : Cpu) (call : Call) → is_lock call.which ≡ true → next layout backed memory cpu ≡ Stands (Calls call) → fetch_stop layout backed cpu ≡ Some (Calls call)
unfolding next
fetched layout backed memory cpu call lock e = by (fetch_stop layout backed cpu) e
  where
    by : (o : Option Stop) → unless_stop o (next_at layout.ranges backed cpu (instruction_of (number_at memory cpu.pc 4))) ≡ Stands (Calls call) → o ≡ Some (Calls call)
    by None f = absurd (false≢true (sym (read-none layout.ranges backed cpu (instruction_of (number_at memory cpu.pc 4))) ∙ (ap (λ (n : Next). at_lock (stop_in n)) f ∙ lock)))
    by (Some stop) f = ap stop_in f

-- and by the place alone
abbrev rows : Cpu → (aligned leaves : Bool) → Option Which → (permitted there : Bool) → Option Stop
rows cpu aligned leaves which permitted there = first
    (stop_if (not aligned) (Trap MisalignedPc)
    ∷ stop_if leaves (call_of cpu (Function Exit))
    ∷ option_map (call_of cpu) which
    ∷ stop_if (not permitted) (Trap ForbiddenFetch)
    ∷ stop_if (not there) (PageFault (page_of cpu.pc))
    ∷ [])

fetch-always : (calls : CallTable) (one other : List Range) (backed more : Backed) (cpu : Cpu) (call : Call) → is_lock call.which ≡ true
    → fetch_stop (record { ranges = one; calls = calls }) backed cpu ≡ Some (Calls call) → fetch_stop (record { ranges = other; calls = calls }) more cpu ≡ Some (Calls call)
unfolding fetch_stop
fetch-always calls one other backed more cpu call lock e =
    by (cpu.pc % 4 == 0) (cpu.pc == exit_place) (call_at calls cpu.pc) (permits_of one Execute cpu.pc 4) (backed (page_of cpu.pc)) (permits_of other Execute cpu.pc 4) (more (page_of cpu.pc)) e
  where
    no-lock : (o : Option Stop) → at_lock o ≡ false → o ≡ Some (Calls call) → ⊥
    no-lock o none f = false≢true (sym none ∙ (ap at_lock f ∙ lock))

    by : (aligned leaves : Bool) (which : Option Which) (p b q c : Bool) → rows cpu aligned leaves which p b ≡ Some (Calls call) → rows cpu aligned leaves which q c ≡ Some (Calls call)
    by false leaves which p b q c f = absurd (no-lock _ refl f)
    by true true which p b q c f = absurd (no-lock _ refl f)
    by true false (Some which) p b q c f = f
    by true false None false b q c f = absurd (no-lock _ refl f)
    by true false None true false q c f = absurd (no-lock _ refl f)
    by true false None true true q c f = absurd (no-lock _ refl f)

pub always : (layout : Layout) (backed : Backed) (memory : Memory) (cpu : Cpu) (call : Call) → is_lock call.which ≡ true → next layout backed memory cpu ≡ Stands (Calls call) → AlwaysAt layout.calls cpu call
always layout backed memory cpu call lock e ranges more other =
    next-stopped (record { ranges = ranges; calls = layout.calls }) more other cpu (Calls call)
    (fetch-always layout.calls layout.ranges ranges backed more cpu call lock (fetched layout backed memory cpu call lock e))
