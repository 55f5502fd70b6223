-- The page of a page fault is one of the 2^20 pages, and is not backed.
use Rattle.std.specs.Prelude.{◌≡◌, ℕ, ◌+◌, ◌%◌, ◌^◌, ◌<◌, ◌≤◌, Bool, true, false, not, ◌==◌, cond, List, [], ◌∷◌, Option, Some, None, nat_le}
use Rattle.std.specs.Option.{option_map}
use Rattle.std.proofs.Common.{refl, subst, arith}
use Rattle.std.proofs.lemmas.Bool.{and_parts, leb-true}
use Rattle.ro_decode.specs.declared.Instr.{Instr}
use Rattle.ro_decode.specs.declared.Instr.TheVariants.{Lui, Auipc, Jal, Jalr, Branch, Load, Store, AluImm, Alu, MulDiv, Fence, Atomic, Ecall, Ebreak}
use Rattle.ro_decode.specs.declared.LoadOp.{LoadOp}
use Rattle.ro_decode.specs.declared.LoadOp.TheVariants.{Lb, Lh, Lw, Lbu, Lhu}
use Rattle.ro_decode.specs.declared.StoreOp.{StoreOp}
use Rattle.ro_decode.specs.declared.StoreOp.TheVariants.{Sb, Sh, Sw}
use Rattle.ro_decode.specs.Table.{instruction_of}
use Rattle.ro_event.specs.declared.calls.Call.{Call}
use Rattle.ro_event.specs.declared.stops.Stop.{Stop}
use Rattle.ro_event.specs.declared.stops.Stop.TheVariants.{Calls, Trap, PageFault, Watchdog}
use Rattle.ro_event.specs.declared.traps.TrapCause.{TrapCause}
use Rattle.ro_event.specs.declared.traps.TrapCause.TheVariants.{ForbiddenLoad, ForbiddenStore, MisalignedLoad, MisalignedStore}
use Rattle.ro_event.specs.declared.calls.Which.{Which}
use Rattle.ro_event.specs.Table.{call_at}
use Rattle.ro_region.specs.declared.Range.{Range}
use Rattle.ro_region.specs.declared.Kind.{Kind}
use Rattle.ro_region.specs.declared.Kind.TheVariants.{Read, Write, Execute}
use Rattle.ro_region.specs.Permission.{permits_each, permits_of}
use Rattle.ro_pages.specs.Bytes.{Memory, Span, number_at, page_of}
use Rattle.ro_exec.specs.declared.Cpu.{Cpu}
use Rattle.ro_exec.specs.Meaning.{load_size, store_size, loads, stores}
use Rattle.ro_exec.specs.Registers.{register}
use Rattle.ro_exec.specs.Next.{Layout, Backed, exit_place, call_of, Next, Executes, first, stop_if, access_stop, fetch_stop, instruction_stop, unless_stop, next_at, next, stop_in, permits_atomic}
use Rattle.ro_thread.specs.Stops.{standing}
use Rattle.ro_legal.specs.Sound.{IsFault}

fault-row : (backed : Backed) (o : Option Stop) (rows : List (Option Stop)) → IsFault backed o → IsFault backed (first rows) → IsFault backed (first (o ∷ rows))
fault-row backed None rows h k = k
fault-row backed (Some stop) rows h k = h

fault-none : (backed : Backed) → IsFault backed None
fault-none backed page e = absurd cc

fault-trap : (backed : Backed) (b : Bool) (code : TrapCause) → IsFault backed (stop_if b (Trap code))
fault-trap backed true code page e = absurd (let f : Some (Trap code) ≡ Some (PageFault page) = e in cc)
fault-trap backed false code page e = absurd (let f : None ≡ Some (PageFault page) = e in cc)

fault-exit : (backed : Backed) (b : Bool) (call : Call) → IsFault backed (stop_if b (Calls call))
fault-exit backed true call page e = absurd (let f : Some (Calls call) ≡ Some (PageFault page) = e in cc)
fault-exit backed false call page e = absurd (let f : None ≡ Some (PageFault page) = e in cc)

fault-call : (backed : Backed) (cpu : Cpu) (o : Option Which) → IsFault backed (option_map (call_of cpu) o)
fault-call backed cpu None page e = absurd (let f : None ≡ Some (PageFault page) = e in cc)
fault-call backed cpu (Some which) page e = absurd (let f : Some (call_of cpu which) ≡ Some (PageFault page) = e in cc)

-- what is permitted lies below the end of the addresses
low-permitted : (ranges : List Range) (kind : Kind) (place count : ℕ) → 0 < count → permits_of ranges kind place count ≡ true → page_of place < 2 ^ 20
unfolding permits_of
low-permitted ranges kind place count some e =
    let parts = and_parts (nat_le (place + count) (2 ^ 32)) (permits_each ranges kind place count) e in
    let within : place + count ≤ 2 ^ 32 = leb-true _ _ parts.0 in omega arith

-- a page fault comes behind the test of permission
fault-last : (ranges : List Range) (kind : Kind) (place count : ℕ) (code : TrapCause) (backed : Backed) → 0 < count → (b c : Bool) → permits_of ranges kind place count ≡ b → backed (page_of place) ≡ c → IsFault backed (first (stop_if (not b) (Trap code) ∷ stop_if (not c) (PageFault (page_of place)) ∷ []))
fault-last ranges kind place count code backed some false c e k = fault-trap backed true code
fault-last ranges kind place count code backed some true true e k = fault-none backed
fault-last ranges kind place count code backed some true false e k = λ page f.
    let same : page_of place ≡ page = (let g : Some (PageFault (page_of place)) ≡ Some (PageFault page) = f in cc) in
    (subst (λ (n : ℕ). n < 2 ^ 20) same (low-permitted ranges kind place count some e), subst (λ (n : ℕ). backed n ≡ false) same k)

fault-access : (ranges : List Range) (backed : Backed) (kind : Kind) (span : Span) (m f : TrapCause) → 0 < span.count → IsFault backed (access_stop ranges backed kind span m f)
fault-access ranges backed kind span m f some =
    fault-row backed _ _ (fault-trap backed (not (span.place % span.count == 0)) m)
    (fault-last ranges kind span.place span.count f backed some (permits_of ranges kind span.place span.count) (backed (page_of span.place)) refl refl)

fault-fetch : (layout : Layout) (backed : Backed) (cpu : Cpu) → IsFault backed (fetch_stop layout backed cpu)
unfolding fetch_stop
fault-fetch layout backed cpu =
    fault-row backed _ _ (fault-trap backed (not (cpu.pc % 4 == 0)) _)
    (fault-row backed _ _ (fault-exit backed (cpu.pc == exit_place) _)
    (fault-row backed _ _ (fault-call backed cpu (call_at layout.calls cpu.pc))
    (fault-last layout.ranges Execute cpu.pc 4 _ backed (omega arith) (permits_of layout.ranges Execute cpu.pc 4) (backed (page_of cpu.pc)) refl refl)))

some-load : (op : LoadOp) → 0 < load_size op
some-load Lb = omega arith
some-load Lh = omega arith
some-load Lw = omega arith
some-load Lbu = omega arith
some-load Lhu = omega arith

some-store : (op : StoreOp) → 0 < store_size op
some-store Sb = omega arith
some-store Sh = omega arith
some-store Sw = omega arith

fault-instruction : (ranges : List Range) (backed : Backed) (cpu : Cpu) (instr : Instr) → IsFault backed (instruction_stop ranges backed cpu instr)
unfolding instruction_stop
fault-instruction ranges backed cpu (Lui rd imm) = fault-none backed
fault-instruction ranges backed cpu (Auipc rd imm) = fault-none backed
fault-instruction ranges backed cpu (Jal rd imm) = fault-trap backed _ _
fault-instruction ranges backed cpu (Jalr rd rs1 imm) = fault-trap backed _ _
fault-instruction ranges backed cpu (Branch op rs1 rs2 imm) = fault-trap backed _ _
fault-instruction ranges backed cpu (Load op rd rs1 imm) = fault-access ranges backed Read (loads (Load op rd rs1 imm) cpu) MisalignedLoad ForbiddenLoad (some-load op)
fault-instruction ranges backed cpu (Store op rs1 rs2 imm) = fault-access ranges backed Write (stores (Store op rs1 rs2 imm) cpu) MisalignedStore ForbiddenStore (some-store op)
fault-instruction ranges backed cpu (AluImm op rd rs1 imm) = fault-none backed
fault-instruction ranges backed cpu (Alu op rd rs1 rs2) = fault-none backed
fault-instruction ranges backed cpu (MulDiv op rd rs1 rs2) = fault-none backed
fault-instruction ranges backed cpu (Fence rd rs1 bits) = fault-none backed
fault-instruction ranges backed cpu (Atomic op rd rs1 rs2 order) =
    fault-row backed _ _ (fault-trap backed (not (register cpu rs1 % 4 == 0)) _)
    (fault-row backed _ _ (fault-trap backed (not (permits_atomic ranges op (register cpu rs1))) _) (fault-exit backed true _))
fault-instruction ranges backed cpu Ecall = fault-exit backed true _
fault-instruction ranges backed cpu Ebreak = fault-trap backed true _

fault-unless : (backed : Backed) (o : Option Stop) (n : Next) → IsFault backed o → IsFault backed (stop_in n) → IsFault backed (stop_in (unless_stop o n))
fault-unless backed None n h k = k
fault-unless backed (Some stop) n h k = h

fault-next_at : (ranges : List Range) (backed : Backed) (cpu : Cpu) (o : Option Instr) → IsFault backed (stop_in (next_at ranges backed cpu o))
fault-next_at ranges backed cpu None = fault-trap backed true _
fault-next_at ranges backed cpu (Some instr) = fault-unless backed _ (Executes instr) (fault-instruction ranges backed cpu instr) (fault-none backed)

fault-next : (layout : Layout) (backed : Backed) (m : Memory) (cpu : Cpu) → IsFault backed (stop_in (next layout backed m cpu))
unfolding next
fault-next layout backed m cpu = fault-unless backed _ _ (fault-fetch layout backed cpu) (fault-next_at layout.ranges backed cpu (instruction_of (number_at m cpu.pc 4)))

-- a stop for a page that stands at a thread
pub fault-standing : (layout : Layout) (watchdog : ℕ) (backed : Backed) (m : Memory) (cpu : Cpu) (since : ℕ) → IsFault backed (standing layout watchdog backed m cpu since)
fault-standing layout watchdog backed m cpu since = by (since == watchdog)
  where
    by : (b : Bool) → IsFault backed (cond b (Some Watchdog) (stop_in (next layout backed m cpu)))
    by true = λ page e. absurd (let f : Some Watchdog ≡ Some (PageFault page) = e in cc)
    by false = fault-next layout backed m cpu
