-- With more pages backed a thread does what it did, but for page faults on pages that are backed by now.
use Rattle.std.specs.Prelude.{◌≡◌, ℕ, ◌%◌, Bool, true, false, not, ◌==◌, List, [], ◌∷◌, Option, Some, None}
use Rattle.std.specs.Option.{option_map}
use Rattle.std.proofs.Common.{refl, sym, ◌∙◌}
use Rattle.std.proofs.lemmas.Bool.{true≢false}
use Rattle.ro_decode.specs.declared.Instr.{Instr}
use Rattle.ro_decode.specs.declared.Instr.TheVariants.{Lui, Auipc, Jal, Jalr, Branch, Load, Store, AluImm, Alu, MulDiv, Fence, Atomic, Ecall, Ebreak}
use Rattle.ro_decode.specs.Table.{instruction_of}
use Rattle.ro_event.specs.declared.stops.Stop.{Stop}
use Rattle.ro_event.specs.declared.stops.Stop.TheVariants.{Trap, PageFault}
use Rattle.ro_event.specs.declared.traps.TrapCause.{TrapCause}
use Rattle.ro_event.specs.declared.traps.TrapCause.TheVariants.{ForbiddenFetch, ForbiddenLoad, ForbiddenStore, MisalignedLoad, MisalignedPc, MisalignedStore}
use Rattle.ro_event.specs.declared.calls.Which.TheVariants.{Function}
use Rattle.ro_event.specs.declared.functions.Function.TheVariants.{Exit}
use Rattle.ro_event.specs.Table.{call_at}
use Rattle.ro_region.specs.declared.Range.{Range}
use Rattle.ro_region.specs.declared.Kind.{Kind}
use Rattle.ro_region.specs.declared.Kind.TheVariants.{Read, Write, Execute}
use Rattle.ro_region.specs.Permission.{permits_of}
use Rattle.ro_pages.specs.Bytes.{Memory, Span, number_at, page_of}
use Rattle.ro_exec.specs.declared.Cpu.{Cpu}
use Rattle.ro_exec.specs.Meaning.{loads, stores}
use Rattle.ro_exec.specs.Parts.{IsMore}
use Rattle.ro_exec.specs.Next.{Layout, Backed, all_backed, exit_place, call_of, Next, Stands, Executes, first, stop_if, access_stop, fetch_stop, instruction_stop, unless_stop, next_at, next}

-- the stop with fewer pages, and with more of them
pub data MoreStop (more : Backed) : Option Stop → Option Stop → Type 0 where
  same_stop : {o : Option Stop} → MoreStop more o o
  was_fault : {page : ℕ} {o : Option Stop} → more page ≡ true → MoreStop more (Some (PageFault page)) o

-- what a thread does with fewer pages, and with more of them
pub data MoreNext (more : Backed) : Next → Next → Type 0 where
  same_next : {n : Next} → MoreNext more n n
  was_at_fault : {n : Next} {page : ℕ} → more page ≡ true → MoreNext more (Stands (PageFault page)) n

-- the row of the page fault
last-row : (more : Backed) (page : ℕ) (b m : Bool) → (b ≡ true → m ≡ true) → more page ≡ m → MoreStop more (first (stop_if (not b) (PageFault page) ∷ [])) (first (stop_if (not m) (PageFault page) ∷ []))
last-row more page true true h e = same_stop
last-row more page true false h e = absurd (true≢false (sym (h refl)))
last-row more page false true h e = was_fault e
last-row more page false false h e = same_stop

-- a row that knows no pages
row : (more : Backed) (o : Option Stop) (xs ys : List (Option Stop)) → MoreStop more (first xs) (first ys) → MoreStop more (first (o ∷ xs)) (first (o ∷ ys))
row more None xs ys h = h
row more (Some stop) xs ys h = same_stop

module _ (backed more : Backed) (h : IsMore backed more) where
  -- a load or a store
  access-more : (ranges : List Range) (kind : Kind) (span : Span) (m f : TrapCause) → MoreStop more (access_stop ranges backed kind span m f) (access_stop ranges more kind span m f)
  access-more ranges kind span m f =
      row more (stop_if (not (span.place % span.count == 0)) (Trap m)) _ _
      (row more (stop_if (not (permits_of ranges kind span.place span.count)) (Trap f)) _ _
      (last-row more (page_of span.place) (backed (page_of span.place)) (more (page_of span.place)) (h.keeps (page_of span.place)) refl))

  -- a stop before the instruction is read
  pub fetch-more : (layout : Layout) (cpu : Cpu) → MoreStop more (fetch_stop layout backed cpu) (fetch_stop layout more cpu)
  unfolding fetch_stop
  fetch-more layout cpu =
      row more (stop_if (not (cpu.pc % 4 == 0)) (Trap MisalignedPc)) _ _
      (row more (stop_if (cpu.pc == exit_place) (call_of cpu (Function Exit))) _ _
      (row more (option_map (call_of cpu) (call_at layout.calls cpu.pc)) _ _
      (row more (stop_if (not (permits_of layout.ranges Execute cpu.pc 4)) (Trap ForbiddenFetch)) _ _
      (last-row more (page_of cpu.pc) (backed (page_of cpu.pc)) (more (page_of cpu.pc)) (h.keeps (page_of cpu.pc)) refl))))

  -- a stop at the instruction
  instruction-more : (ranges : List Range) (cpu : Cpu) (instr : Instr) → MoreStop more (instruction_stop ranges backed cpu instr) (instruction_stop ranges more cpu instr)
  unfolding instruction_stop
  instruction-more ranges cpu (Lui rd imm) = same_stop
  instruction-more ranges cpu (Auipc rd imm) = same_stop
  instruction-more ranges cpu (Jal rd imm) = same_stop
  instruction-more ranges cpu (Jalr rd rs1 imm) = same_stop
  instruction-more ranges cpu (Branch op rs1 rs2 imm) = same_stop
  instruction-more ranges cpu (Load op rd rs1 imm) = access-more ranges Read (loads (Load op rd rs1 imm) cpu) MisalignedLoad ForbiddenLoad
  instruction-more ranges cpu (Store op rs1 rs2 imm) = access-more ranges Write (stores (Store op rs1 rs2 imm) cpu) MisalignedStore ForbiddenStore
  instruction-more ranges cpu (AluImm op rd rs1 imm) = same_stop
  instruction-more ranges cpu (Alu op rd rs1 rs2) = same_stop
  instruction-more ranges cpu (MulDiv op rd rs1 rs2) = same_stop
  instruction-more ranges cpu (Fence rd rs1 bits) = same_stop
  instruction-more ranges cpu (Atomic op rd rs1 rs2 order) = same_stop
  instruction-more ranges cpu Ecall = same_stop
  instruction-more ranges cpu Ebreak = same_stop

  -- a stop, or else what comes next
  unless-more : (o p : Option Stop) (m n : Next) → MoreStop more o p → MoreNext more m n → MoreNext more (unless_stop o m) (unless_stop p n)
  unless-more None None m n same_stop k = k
  unless-more None (Some other) m n h k = elim h [ ]
  unless-more (Some stop) (Some other) m n same_stop k = same_next
  unless-more (Some (PageFault page)) p m n (was_fault e) k = was_at_fault e

  -- what comes of a word
  next_at-more : (ranges : List Range) (cpu : Cpu) (o : Option Instr) → MoreNext more (next_at ranges backed cpu o) (next_at ranges more cpu o)
  next_at-more ranges cpu None = same_next
  next_at-more ranges cpu (Some instr) = unless-more _ _ (Executes instr) (Executes instr) (instruction-more ranges cpu instr) same_next

  -- what a thread does next
  next-more : (layout : Layout) (m : Memory) (cpu : Cpu) → MoreNext more (next layout backed m cpu) (next layout more m cpu)
  unfolding next
  next-more layout m cpu = unless-more _ _ _ _ (fetch-more layout cpu) (next_at-more layout.ranges cpu (instruction_of (number_at m cpu.pc 4)))

  -- an instruction with fewer pages is one with more
  executes-from : (m n : Next) (instr : Instr) → MoreNext more m n → m ≡ Executes instr → n ≡ Executes instr
  executes-from m n instr same_next e = e
  executes-from (Stands (PageFault page)) n instr (was_at_fault k) e = absurd (let f : Stands (PageFault page) ≡ Executes instr = e in cc)

  -- an instruction is executed with more pages too
  pub executes-more : (layout : Layout) (m : Memory) (cpu : Cpu) (instr : Instr) → next layout backed m cpu ≡ Executes instr → next layout more m cpu ≡ Executes instr
  executes-more layout m cpu instr e = executes-from _ _ instr (next-more layout m cpu) e

  -- a stop with fewer pages is one with more, but for a page fault
  stands-from : (m n : Next) (stop : Stop) → MoreNext more m n → m ≡ Stands stop → ((page : ℕ) → stop ≡ PageFault page → more page ≡ false) → n ≡ Stands stop
  stands-from m n stop same_next e k = e
  stands-from (Stands (PageFault page)) n stop (was_at_fault k) e none =
      let same : stop ≡ PageFault page = let f : Stands (PageFault page) ≡ Stands stop = e in cc in
      absurd (true≢false (sym k ∙ none page same))

  -- a stop stands with more pages too, where it is not a fault on one of them
  pub stands-more : (layout : Layout) (m : Memory) (cpu : Cpu) (stop : Stop) → next layout backed m cpu ≡ Stands stop → ((page : ℕ) → stop ≡ PageFault page → more page ≡ false) → next layout more m cpu ≡ Stands stop
  stands-more layout m cpu stop e none = stands-from _ _ stop (next-more layout m cpu) e none

  -- no stop with fewer pages is none with more
  none-from : (o p : Option Stop) → MoreStop more o p → o ≡ None → p ≡ None
  none-from o p same_stop e = e
  none-from (Some (PageFault page)) p (was_fault k) e = absurd (let f : Some (PageFault page) ≡ None = e in cc)

-- an instruction that is read with some pages is read with all of them
pub fetched-with-all : (layout : Layout) (backed : Backed) (cpu : Cpu) → fetch_stop layout backed cpu ≡ None → fetch_stop layout all_backed cpu ≡ None
fetched-with-all layout backed cpu e =
    none-from backed all_backed every _ _ (fetch-more backed all_backed every layout cpu) e
  where
    every : IsMore backed all_backed
    every = record { keeps = λ page h. refl }
