-- The page of a page fault: it is not backed, and it is that of the instruction or of the bytes that it loads or stores.
use Rattle.std.specs.Prelude.{◌≡◌, ℕ, ◌+◌, ◌%◌, ◌^◌, ◌<◌, ◌≤◌, ◌⊎◌, Bool, true, false, not, ◌==◌, ◌||◌, List, [], ◌∷◌, Option, Some, None, nat_le}
use Rattle.std.specs.Option.{option_map}
use Rattle.std.proofs.Common.{refl, sym, subst, ap, ◌∙◌, inl, inr, arith, eq-eqb}
use Rattle.std.proofs.lemmas.Bool.{and_parts, leb-true, true≢false}
use Rattle.ro_decode.specs.declared.Instr.{Instr}
use Rattle.ro_decode.specs.declared.Instr.TheVariants.{Lui, Auipc, Jal, Jalr, Branch, Load, Store, AluImm, Alu, MulDiv, Fence, Atomic, Ecall, Ebreak}
use Rattle.ro_decode.specs.declared.AtomicOp.{AtomicOp}
use Rattle.ro_decode.specs.declared.LoadOp.{LoadOp}
use Rattle.ro_decode.specs.declared.LoadOp.TheVariants.{Lb, Lh, Lw, Lbu, Lhu}
use Rattle.ro_decode.specs.declared.StoreOp.{StoreOp}
use Rattle.ro_decode.specs.declared.StoreOp.TheVariants.{Sb, Sh, Sw}
use Rattle.ro_decode.specs.Table.{instruction_of}
use Rattle.ro_event.specs.declared.calls.Call.{Call}
use Rattle.ro_event.specs.declared.stops.Stop.{Stop}
use Rattle.ro_event.specs.declared.stops.Stop.TheVariants.{Calls, Trap, PageFault, Watchdog}
use Rattle.ro_event.specs.declared.traps.TrapCause.{TrapCause}
use Rattle.ro_event.specs.declared.traps.TrapCause.TheVariants.{ForbiddenLoad, ForbiddenStore, MisalignedLoad, MisalignedStore}
use Rattle.ro_event.specs.declared.calls.Which.{Which}
use Rattle.ro_event.specs.Table.{call_at}
use Rattle.ro_region.specs.declared.Range.{Range}
use Rattle.ro_region.specs.declared.Kind.{Kind}
use Rattle.ro_region.specs.declared.Kind.TheVariants.{Read, Write, Execute}
use Rattle.ro_region.specs.Permission.{permits_each, permits_of}
use Rattle.ro_pages.specs.Bytes.{Memory, Span, number_at, page_of}
use Rattle.ro_exec.specs.declared.Cpu.{Cpu}
use Rattle.ro_exec.specs.declared.outcome.Step.{Step}
use Rattle.ro_exec.specs.declared.outcome.Step.TheVariants.{Did, Stopped}
use Rattle.ro_exec.specs.Registers.{register}
use Rattle.ro_exec.specs.Meaning.{load_size, store_size, loads, stores}
use Rattle.ro_exec.specs.Next.{Layout, Backed, all_backed, exit_place, call_of, Next, Stands, Executes, first, stop_if, access_stop, permits_atomic, misaligned_by, forbidden_by, atomic_stop, fetch_stop, instruction_stop, unless_stop, next_at, next, stop_in}
use Rattle.ro_exec.specs.Steps.{IsStep}
use Rattle.ro_exec.proofs.Backing.{SameNext, same_next, stands_at_page, next-same-backed}
use Rattle.ro_machine.specs.Pages.{fault_of}

-- a page fault at this stop is of one of two pages, which is not backed
abbrev IsFault : Backed → (one other : ℕ) → Option Stop → Type 0
IsFault backed one other o = (page : ℕ) → o ≡ Some (PageFault page) → (page < 2 ^ 20) × (backed page ≡ false) × ((page ≡ one) ⊎ (page ≡ other))

-- what is permitted lies below the end of the addresses
low-permitted : (ranges : List Range) (kind : Kind) (place count : ℕ) → 0 < count → permits_of ranges kind place count ≡ true → page_of place < 2 ^ 20
unfolding permits_of
low-permitted ranges kind place count some e =
    let parts = and_parts (nat_le (place + count) (2 ^ 32)) (permits_each ranges kind place count) e in
    let within : place + count ≤ 2 ^ 32 = leb-true _ _ parts.0 in omega arith

-- the place of the bytes that an instruction loads or stores
abbrev data_place : Cpu → Option Instr → ℕ
data_place cpu (Some (Load op rd rs1 imm)) = (loads (Load op rd rs1 imm) cpu).place
data_place cpu (Some (Store op rs1 rs2 imm)) = (stores (Store op rs1 rs2 imm) cpu).place
data_place cpu _ = 0

some-load : (op : LoadOp) → 0 < load_size op
some-load Lb = omega arith
some-load Lh = omega arith
some-load Lw = omega arith
some-load Lbu = omega arith
some-load Lhu = omega arith

some-store : (op : StoreOp) → 0 < store_size op
some-store Sb = omega arith
some-store Sh = omega arith
some-store Sw = omega arith

module _ (backed : Backed) (one other : ℕ) where
  fault-row : (o : Option Stop) (rows : List (Option Stop)) → IsFault backed one other o → IsFault backed one other (first rows) → IsFault backed one other (first (o ∷ rows))
  fault-row None rows h k = k
  fault-row (Some stop) rows h k = h

  fault-none : IsFault backed one other None
  fault-none page e = absurd (let f : None ≡ Some (PageFault page) = e in cc)

  fault-trap : (b : Bool) (code : TrapCause) → IsFault backed one other (stop_if b (Trap code))
  fault-trap true code page e = absurd (let f : Some (Trap code) ≡ Some (PageFault page) = e in cc)
  fault-trap false code page e = absurd (let f : None ≡ Some (PageFault page) = e in cc)

  fault-exit : (b : Bool) (call : Call) → IsFault backed one other (stop_if b (Calls call))
  fault-exit true call page e = absurd (let f : Some (Calls call) ≡ Some (PageFault page) = e in cc)
  fault-exit false call page e = absurd (let f : None ≡ Some (PageFault page) = e in cc)

  fault-call : (cpu : Cpu) (o : Option Which) → IsFault backed one other (option_map (call_of cpu) o)
  fault-call cpu None page e = absurd (let f : None ≡ Some (PageFault page) = e in cc)
  fault-call cpu (Some which) page e = absurd (let f : Some (call_of cpu which) ≡ Some (PageFault page) = e in cc)

  -- a page fault comes behind the test of permission
  fault-last : (ranges : List Range) (kind : Kind) (place count : ℕ) (code : TrapCause) → 0 < count → (page_of place ≡ one) ⊎ (page_of place ≡ other) → (b c : Bool) → permits_of ranges kind place count ≡ b → backed (page_of place) ≡ c → IsFault backed one other (first (stop_if (not b) (Trap code) ∷ stop_if (not c) (PageFault (page_of place)) ∷ []))
  fault-last ranges kind place count code some named false c e k = fault-trap true code
  fault-last ranges kind place count code some named true true e k = fault-none
  fault-last ranges kind place count code some named true false e k = λ page f.
      let same : page_of place ≡ page = (let g : Some (PageFault (page_of place)) ≡ Some (PageFault page) = f in cc) in
      (subst (λ (n : ℕ). n < 2 ^ 20) same (low-permitted ranges kind place count some e), subst (λ (n : ℕ). backed n ≡ false) same k, subst (λ (n : ℕ). (n ≡ one) ⊎ (n ≡ other)) same named)

  fault-atomic : (ranges : List Range) (op : AtomicOp) (address : ℕ) (call : Call) → IsFault backed one other (atomic_stop ranges op address (Calls call))
  fault-atomic ranges op address call =
      fault-row _ _ (fault-trap (not (address % 4 == 0)) (misaligned_by op))
      (fault-row _ _ (fault-trap (not (permits_atomic ranges op address)) (forbidden_by op)) (fault-exit true call))

  fault-access : (ranges : List Range) (kind : Kind) (span : Span) (m f : TrapCause) → 0 < span.count → (page_of span.place ≡ one) ⊎ (page_of span.place ≡ other) → IsFault backed one other (access_stop ranges backed kind span m f)
  fault-access ranges kind span m f some named =
      fault-row _ _ (fault-trap (not (span.place % span.count == 0)) m)
      (fault-last ranges kind span.place span.count f some named (permits_of ranges kind span.place span.count) (backed (page_of span.place)) refl refl)

  fault-fetch : (layout : Layout) (cpu : Cpu) → page_of cpu.pc ≡ one → IsFault backed one other (fetch_stop layout backed cpu)
  unfolding fetch_stop
  fault-fetch layout cpu here =
      fault-row _ _ (fault-trap (not (cpu.pc % 4 == 0)) _)
      (fault-row _ _ (fault-exit (cpu.pc == exit_place) _)
      (fault-row _ _ (fault-call cpu (call_at layout.calls cpu.pc))
      (fault-last layout.ranges Execute cpu.pc 4 _ (omega arith) (inl here) (permits_of layout.ranges Execute cpu.pc 4) (backed (page_of cpu.pc)) refl refl)))

  fault-instruction : (ranges : List Range) (cpu : Cpu) (instr : Instr) → page_of (data_place cpu (Some instr)) ≡ other → IsFault backed one other (instruction_stop ranges backed cpu instr)
  unfolding instruction_stop
  fault-instruction ranges cpu (Lui rd imm) there = fault-none
  fault-instruction ranges cpu (Auipc rd imm) there = fault-none
  fault-instruction ranges cpu (Jal rd imm) there = fault-trap _ _
  fault-instruction ranges cpu (Jalr rd rs1 imm) there = fault-trap _ _
  fault-instruction ranges cpu (Branch op rs1 rs2 imm) there = fault-trap _ _
  fault-instruction ranges cpu (Load op rd rs1 imm) there = fault-access ranges Read (loads (Load op rd rs1 imm) cpu) MisalignedLoad ForbiddenLoad (some-load op) (inr there)
  fault-instruction ranges cpu (Store op rs1 rs2 imm) there = fault-access ranges Write (stores (Store op rs1 rs2 imm) cpu) MisalignedStore ForbiddenStore (some-store op) (inr there)
  fault-instruction ranges cpu (AluImm op rd rs1 imm) there = fault-none
  fault-instruction ranges cpu (Alu op rd rs1 rs2) there = fault-none
  fault-instruction ranges cpu (MulDiv op rd rs1 rs2) there = fault-none
  fault-instruction ranges cpu (Fence rd rs1 bits) there = fault-none
  fault-instruction ranges cpu (Atomic op rd rs1 rs2 order) there = fault-atomic ranges op (register cpu rs1) _
  fault-instruction ranges cpu Ecall there = fault-exit true _
  fault-instruction ranges cpu Ebreak there = fault-trap true _

  fault-unless : (o : Option Stop) (n : Next) → IsFault backed one other o → IsFault backed one other (stop_in n) → IsFault backed one other (stop_in (unless_stop o n))
  fault-unless None n h k = k
  fault-unless (Some stop) n h k = h

  fault-next_at : (ranges : List Range) (cpu : Cpu) (o : Option Instr) → page_of (data_place cpu o) ≡ other → IsFault backed one other (stop_in (next_at ranges backed cpu o))
  fault-next_at ranges cpu None there = fault-trap true _
  fault-next_at ranges cpu (Some instr) there = fault-unless _ (Executes instr) (fault-instruction ranges cpu instr there) fault-none

-- the two pages that a thread's next step may need
pub code_page : Cpu → ℕ
code_page cpu = page_of cpu.pc

pub data_page : Memory → Cpu → ℕ
data_page m cpu = page_of (data_place cpu (instruction_of (number_at m cpu.pc 4)))

fault-next : (layout : Layout) (backed : Backed) (m : Memory) (cpu : Cpu) → IsFault backed (code_page cpu) (data_page m cpu) (stop_in (next layout backed m cpu))
unfolding next code_page data_page
fault-next layout backed m cpu =
    fault-unless backed _ _ _ _ (fault-fetch backed _ _ layout cpu refl) (fault-next_at backed _ _ layout.ranges cpu (instruction_of (number_at m cpu.pc 4)) refl)

-- how many of them are not backed
unbacked : Bool → ℕ
unbacked true = 0
unbacked false = 1

pub missing : Backed → Memory → Cpu → ℕ
missing backed m cpu = unbacked (backed (code_page cpu)) + unbacked (backed (data_page m cpu))

fewer : (b c : Bool) → unbacked (b || c) ≤ unbacked c
unfolding unbacked
fewer true true = omega arith
fewer true false = omega arith
fewer false c = omega arith

one-fewer : (b c : Bool) → c ≡ false → b ≡ true → unbacked (b || c) < unbacked c
unfolding unbacked
one-fewer true false e f = omega arith
one-fewer true true e f = absurd (true≢false e)
one-fewer false c e f = absurd (true≢false (sym f))

-- where a page is backed for which the thread stood, fewer are missing
pub fewer-missing : (old new : Backed) (m : Memory) (cpu : Cpu) (page : ℕ) → old page ≡ false → (page ≡ code_page cpu) ⊎ (page ≡ data_page m cpu) → ((p : ℕ) → new p ≡ ((p == page) || old p)) → missing new m cpu < missing old m cpu
unfolding missing
fewer-missing old new m cpu page none named more = by named
  where
    no-more : (k : ℕ) → unbacked (new k) ≤ unbacked (old k)
    no-more k = subst (λ (b : Bool). unbacked b ≤ unbacked (old k)) (sym (more k)) (fewer (k == page) (old k))

    less : (k : ℕ) → page ≡ k → unbacked (new k) < unbacked (old k)
    less k e = subst (λ (b : Bool). unbacked b < unbacked (old k)) (sym (more k)) (one-fewer (k == page) (old k) (ap old (sym e) ∙ none) (eq-eqb k page (sym e)))

    by : (page ≡ code_page cpu) ⊎ (page ≡ data_page m cpu) → unbacked (new (code_page cpu)) + unbacked (new (data_page m cpu)) < unbacked (old (code_page cpu)) + unbacked (old (data_page m cpu))
    by (inl e) = omega (arith, less (code_page cpu) e, no-more (data_page m cpu))
    by (inr e) = omega (arith, less (data_page m cpu) e, no-more (code_page cpu))

-- the thread stands for a page
pub faults : (layout : Layout) (backed : Backed) (m after : Memory) (old new : Cpu) (done : Step) (page : ℕ) → IsStep (next layout backed m old) done old new m after → fault_of done ≡ Some page →
    (new ≡ old) × (after ≡ m) × (page < 2 ^ 20) × (backed page ≡ false) × ((page ≡ code_page old) ⊎ (page ≡ data_page m old))
faults layout backed m after old new done page h e = by (next layout backed m old) done (fault-next layout backed m old) h e
  where
    by : (n : Next) (done : Step) → IsFault backed (code_page old) (data_page m old) (stop_in n) → IsStep n done old new m after → fault_of done ≡ Some page → (new ≡ old) × (after ≡ m) × (page < 2 ^ 20) × (backed page ≡ false) × ((page ≡ code_page old) ⊎ (page ≡ data_page m old))
    by n Did f h e = absurd (let g : None ≡ Some page = e in cc)
    by n (Stopped (Calls call)) f h e = absurd (let g : None ≡ Some page = e in cc)
    by n (Stopped (Trap code)) f h e = absurd (let g : None ≡ Some page = e in cc)
    by n (Stopped Watchdog) f h e = absurd (let g : None ≡ Some page = e in cc)
    by (Executes instr) (Stopped (PageFault q)) f h e = absurd (let g : Stopped (PageFault q) ≡ Did = h.0 in cc)
    by (Stands stop) (Stopped (PageFault q)) f h e =
        let same : stop ≡ PageFault page = (let g : Stopped (PageFault q) ≡ Stopped stop = h.0 in let k : Some q ≡ Some page = e in cc) in
        let known = f page (ap Some same) in
        (h.1, h.2, known.0, known.1, known.2)

-- a step for which no page was missing is the step with all pages backed
pub settled : (layout : Layout) (backed : Backed) (m after : Memory) (old new : Cpu) (done : Step) → IsStep (next layout backed m old) done old new m after → fault_of done ≡ None → IsStep (next layout all_backed m old) done old new m after
settled layout backed m after old new done h e = by (next layout backed m old) (next layout all_backed m old) (next-same-backed layout backed m old) h
  where
    by : (n all : Next) → SameNext backed n all → IsStep n done old new m after → IsStep all done old new m after
    by n all same_next h = h
    by (Stands (PageFault page)) all (stands_at_page k) h = absurd (let f : Some page ≡ None = ap fault_of (sym h.0) ∙ e in cc)

-- the same where the thread and the memory are still those of the beginning
pub faults-since : (layout : Layout) (old new : Backed) (m start after : Memory) (cpu begin next_cpu : Cpu) (done : Step) (page : ℕ) → cpu ≡ begin → m ≡ start → IsStep (next layout old m cpu) done cpu next_cpu m after → fault_of done ≡ Some page → ((p : ℕ) → new p ≡ ((p == page) || old p)) → missing new start begin < missing old start begin
faults-since layout old new m start after cpu begin next_cpu done page same_cpu same_memory h e more =
    let known = faults layout old m after cpu next_cpu done page h e in
    let named : (page ≡ code_page begin) ⊎ (page ≡ data_page start begin) =
    subst (λ (x : Cpu). (page ≡ code_page x) ⊎ (page ≡ data_page start x)) same_cpu (subst (λ (y : Memory). (page ≡ code_page cpu) ⊎ (page ≡ data_page y cpu)) same_memory known.4) in
    fewer-missing old new start begin page known.3 named more

pub settled-since : (layout : Layout) (backed : Backed) (m start after : Memory) (cpu begin next_cpu : Cpu) (done : Step) → cpu ≡ begin → m ≡ start → IsStep (next layout backed m cpu) done cpu next_cpu m after → fault_of done ≡ None → IsStep (next layout all_backed start begin) done begin next_cpu start after
settled-since layout backed m start after cpu begin next_cpu done same_cpu same_memory h e =
    subst (λ (x : Cpu). IsStep (next layout all_backed start x) done x next_cpu start after) same_cpu
    (subst (λ (y : Memory). IsStep (next layout all_backed y cpu) done cpu next_cpu y after) same_memory (settled layout backed m after cpu next_cpu done h e))
