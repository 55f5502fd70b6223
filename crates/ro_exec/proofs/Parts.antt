-- A thread that sees some pages of a memory does there what it does in the whole, as long as it needs no other page.
use Rattle.std.specs.Prelude.{◌≡◌, ℕ, ◌+◌, ◌-◌, ◌%◌, ◌<◌, ◌≤◌, Bool, true, false, not, cond, ◌==◌, List, [], ◌∷◌, length, Option, Some, None, nat_le, nat_lt}
use Rattle.std.specs.Option.{option_map}
use Rattle.std.proofs.Common.{refl, sym, ap, ◌∙◌, subst, arith}
use mathlib.Core.Path.{fun_ext}
use Rattle.std.proofs.lemmas.Bool.{true≢false, leb-true, ltb-true, and_parts, eqb-true}
use Rattle.ro_decode.specs.declared.LoadOp.{LoadOp}
use Rattle.ro_decode.specs.declared.LoadOp.TheVariants.{Lb, Lh, Lw, Lbu, Lhu}
use Rattle.ro_decode.specs.declared.StoreOp.{StoreOp}
use Rattle.ro_decode.specs.declared.StoreOp.TheVariants.{Sb, Sh, Sw}
use Rattle.ro_decode.specs.declared.Instr.{Instr}
use Rattle.ro_decode.specs.declared.Instr.TheVariants.{Lui, Auipc, Jal, Jalr, Branch, Load, Store, AluImm, Alu, MulDiv, Fence, Atomic, Ecall, Ebreak}
use Rattle.ro_decode.specs.Table.{instruction_of}
use Rattle.ro_event.specs.declared.stops.Stop.{Stop}
use Rattle.ro_event.specs.declared.stops.Stop.TheVariants.{Trap, PageFault}
use Rattle.ro_event.specs.declared.calls.Which.TheVariants.{Function}
use Rattle.ro_event.specs.declared.functions.Function.TheVariants.{Exit}
use Rattle.ro_event.specs.declared.traps.TrapCause.{TrapCause}
use Rattle.ro_event.specs.declared.traps.TrapCause.TheVariants.{MisalignedPc, ForbiddenFetch, NoInstruction, MisalignedLoad, ForbiddenLoad, MisalignedStore, ForbiddenStore}
use Rattle.ro_event.specs.Table.{call_at}
use Rattle.ro_region.specs.declared.Range.{Range}
use Rattle.ro_region.specs.declared.Kind.{Kind}
use Rattle.ro_region.specs.declared.Kind.TheVariants.{Read, Write, Execute}
use Rattle.ro_region.specs.Permission.{permits_byte, permits_of}
use Rattle.ro_region.proofs.Each.{each_of}
use Rattle.ro_pages.specs.Bytes.{Memory, Span, within, number_at, stored, page_of}
use Rattle.ro_pages.proofs.Frame.{Agree, stored-inside, stored-outside}
use Rattle.ro_exec.specs.declared.Cpu.{Cpu}
use Rattle.ro_exec.specs.Meaning.{Change, load_size, store_size, loads, stores, address}
use Rattle.ro_exec.specs.Next.{Layout, Backed, exit_place, call_of, Stands, Executes, first, stop_if, access_stop, fetch_stop, instruction_stop, unless_stop, next_at, next, change_of}
use Rattle.ro_exec.specs.Parts.{SameIn, SameBeside, SameUnwritable, with_part}
use Rattle.ro_exec.proofs.Frame.{fetched, next-agree, next-stopped, change-agree, changed, changed-stores}

-- ---- no stop of several rows

-- no row stops, so the first doesn't, and none behind it
first-none : (o : Option Stop) (rows : List (Option Stop)) → first (o ∷ rows) ≡ None → (o ≡ None) × (first rows ≡ None)
first-none None rows e = (refl, e)
first-none (Some stop) rows e = absurd (let f : Some stop ≡ None = e in cc)

-- a row that doesn't stop has passed its test
test-passed : (b : Bool) (stop : Stop) → stop_if (not b) stop ≡ None → b ≡ true
test-passed true stop e = refl
test-passed false stop e = absurd (let f : Some stop ≡ None = e in cc)

-- ---- what holds where nothing stops

-- a fetch that isn't stopped is aligned, and its page is there
pub record Fetches (pages : Backed) (cpu : Cpu) : Type 0 where
  pub aligned : cpu.pc % 4 ≡ 0
  pub there : pages (page_of cpu.pc) ≡ true

pub fetches : (layout : Layout) (pages : Backed) (cpu : Cpu) → fetch_stop layout pages cpu ≡ None → Fetches pages cpu
unfolding fetch_stop
fetches layout pages cpu e =
    let last : List (Option Stop) = stop_if (not (pages (page_of cpu.pc))) (PageFault (page_of cpu.pc)) ∷ [] in
    let one = first-none (stop_if (not (cpu.pc % 4 == 0)) (Trap MisalignedPc)) (stop_if (cpu.pc == exit_place) (call_of cpu (Function Exit)) ∷ option_map (call_of cpu) (call_at layout.calls cpu.pc) ∷ stop_if (not (permits_of layout.ranges Execute cpu.pc 4)) (Trap ForbiddenFetch) ∷ last) e in
    let two = first-none (stop_if (cpu.pc == exit_place) (call_of cpu (Function Exit))) (option_map (call_of cpu) (call_at layout.calls cpu.pc) ∷ stop_if (not (permits_of layout.ranges Execute cpu.pc 4)) (Trap ForbiddenFetch) ∷ last) one.1 in
    let three = first-none (option_map (call_of cpu) (call_at layout.calls cpu.pc)) (stop_if (not (permits_of layout.ranges Execute cpu.pc 4)) (Trap ForbiddenFetch) ∷ last) two.1 in
    let four = first-none (stop_if (not (permits_of layout.ranges Execute cpu.pc 4)) (Trap ForbiddenFetch)) last three.1 in
    let five = first-none (stop_if (not (pages (page_of cpu.pc))) (PageFault (page_of cpu.pc))) [] four.1 in
    record {
      aligned = eqb-true (cpu.pc % 4) 0 (test-passed (cpu.pc % 4 == 0) (Trap MisalignedPc) one.0);
      there = test-passed (pages (page_of cpu.pc)) (PageFault (page_of cpu.pc)) five.0;
    }

-- an access that isn't stopped is aligned and permitted, and its page is there
pub record Accesses (ranges : List Range) (pages : Backed) (kind : Kind) (span : Span) : Type 0 where
  pub aligned : span.place % span.count ≡ 0
  pub permitted : permits_of ranges kind span.place span.count ≡ true
  pub there : pages (page_of span.place) ≡ true

accesses : (ranges : List Range) (pages : Backed) (kind : Kind) (span : Span) (m f : TrapCause) → access_stop ranges pages kind span m f ≡ None → Accesses ranges pages kind span
accesses ranges pages kind span m f e =
    let one = first-none _ _ e in
    let two = first-none _ _ one.1 in
    let three = first-none _ _ two.1 in
    record {
      aligned = eqb-true (span.place % span.count) 0 (test-passed (span.place % span.count == 0) (Trap m) one.0);
      permitted = test-passed (permits_of ranges kind span.place span.count) (Trap f) two.0;
      there = test-passed (pages (page_of span.place)) (PageFault (page_of span.place)) three.0;
    }

-- ---- a stretch in one page

page-1 : (place a : ℕ) → place ≤ a → a < place + 1 → page_of a ≡ page_of place
page-1 place a low high = omega arith

page-2 : (place a : ℕ) → place % 2 ≡ 0 → place ≤ a → a < place + 2 → page_of a ≡ page_of place
page-2 place a aligned low high = omega arith

page-4 : (place a : ℕ) → place % 4 ≡ 0 → place ≤ a → a < place + 4 → page_of a ≡ page_of place
page-4 place a aligned low high = omega arith

-- how many bytes an access has
data IsWidth : ℕ → Type 0 where
  one_byte : IsWidth 1
  two_bytes : IsWidth 2
  four_bytes : IsWidth 4

load-width : (op : LoadOp) → IsWidth (load_size op)
load-width Lb = one_byte
load-width Lh = two_bytes
load-width Lw = four_bytes
load-width Lbu = one_byte
load-width Lhu = two_bytes

store-width : (op : StoreOp) → IsWidth (store_size op)
store-width Sb = one_byte
store-width Sh = two_bytes
store-width Sw = four_bytes

-- each byte of an access lies in its page
in-page : (count place a : ℕ) → IsWidth count → place % count ≡ 0 → within (record { place = place; count = count }) a ≡ true → page_of a ≡ page_of place
in-page count place a one_byte aligned h = let p = and_parts _ _ h in page-1 place a (leb-true place a p.0) (ltb-true a (place + 1) p.1)
in-page count place a two_bytes aligned h = let p = and_parts _ _ h in page-2 place a aligned (leb-true place a p.0) (ltb-true a (place + 2) p.1)
in-page count place a four_bytes aligned h = let p = and_parts _ _ h in page-4 place a aligned (leb-true place a p.0) (ltb-true a (place + 4) p.1)

-- no byte lies in a stretch of none
empty-within : (a : ℕ) → within (record { place = 0; count = 0 }) a ≡ true → ⊥
empty-within a h = let p = and_parts (nat_le 0 a) (nat_lt a (0 + 0)) h in let high : a < 0 + 0 = ltb-true a (0 + 0) p.1 in omega arith

-- ---- what an instruction accesses lies in the pages

-- the bytes of the stretch lie in these pages
pub record LiesIn (pages : Backed) (span : Span) : Type 0 where
  pub lies : (a : ℕ) → within span a ≡ true → pages (page_of a) ≡ true

lies-in : (pages : Backed) (count place : ℕ) → IsWidth count → place % count ≡ 0 → pages (page_of place) ≡ true → LiesIn pages (record { place = place; count = count })
lies-in pages count place width aligned there =
    record { lies = λ a h. ap pages (in-page count place a width aligned h) ∙ there }

lies-nowhere : (pages : Backed) → LiesIn pages (record { place = 0; count = 0 })
lies-nowhere pages = record { lies = λ a h. absurd (empty-within a h) }

pub fetched-lies : (layout : Layout) (pages : Backed) (cpu : Cpu) → fetch_stop layout pages cpu ≡ None → LiesIn pages (fetched cpu)
fetched-lies layout pages cpu e = let f = fetches layout pages cpu e in lies-in pages 4 cpu.pc four_bytes f.aligned f.there

pub loads-lie : (ranges : List Range) (pages : Backed) (cpu : Cpu) (instr : Instr) → instruction_stop ranges pages cpu instr ≡ None → LiesIn pages (loads instr cpu)
unfolding instruction_stop
loads-lie ranges pages cpu (Load op rd rs1 imm) e =
    let x = accesses ranges pages Read (loads (Load op rd rs1 imm) cpu) MisalignedLoad ForbiddenLoad e in
    lies-in pages (load_size op) (address cpu rs1 imm) (load-width op) x.aligned x.there
loads-lie ranges pages cpu (Lui rd imm) e = lies-nowhere pages
loads-lie ranges pages cpu (Auipc rd imm) e = lies-nowhere pages
loads-lie ranges pages cpu (Jal rd imm) e = lies-nowhere pages
loads-lie ranges pages cpu (Jalr rd rs1 imm) e = lies-nowhere pages
loads-lie ranges pages cpu (Branch op rs1 rs2 imm) e = lies-nowhere pages
loads-lie ranges pages cpu (Store op rs1 rs2 imm) e = lies-nowhere pages
loads-lie ranges pages cpu (AluImm op rd rs1 imm) e = lies-nowhere pages
loads-lie ranges pages cpu (Alu op rd rs1 rs2) e = lies-nowhere pages
loads-lie ranges pages cpu (MulDiv op rd rs1 rs2) e = lies-nowhere pages
loads-lie ranges pages cpu (Fence rd rs1 bits) e = lies-nowhere pages
loads-lie ranges pages cpu (Atomic op rd rs1 rs2 order) e = lies-nowhere pages
loads-lie ranges pages cpu Ecall e = lies-nowhere pages
loads-lie ranges pages cpu Ebreak e = lies-nowhere pages

pub stores-lie : (ranges : List Range) (pages : Backed) (cpu : Cpu) (instr : Instr) → instruction_stop ranges pages cpu instr ≡ None → LiesIn pages (stores instr cpu)
unfolding instruction_stop
stores-lie ranges pages cpu (Store op rs1 rs2 imm) e =
    let x = accesses ranges pages Write (stores (Store op rs1 rs2 imm) cpu) MisalignedStore ForbiddenStore e in
    lies-in pages (store_size op) (address cpu rs1 imm) (store-width op) x.aligned x.there
stores-lie ranges pages cpu (Lui rd imm) e = lies-nowhere pages
stores-lie ranges pages cpu (Auipc rd imm) e = lies-nowhere pages
stores-lie ranges pages cpu (Jal rd imm) e = lies-nowhere pages
stores-lie ranges pages cpu (Jalr rd rs1 imm) e = lies-nowhere pages
stores-lie ranges pages cpu (Branch op rs1 rs2 imm) e = lies-nowhere pages
stores-lie ranges pages cpu (Load op rd rs1 imm) e = lies-nowhere pages
stores-lie ranges pages cpu (AluImm op rd rs1 imm) e = lies-nowhere pages
stores-lie ranges pages cpu (Alu op rd rs1 rs2) e = lies-nowhere pages
stores-lie ranges pages cpu (MulDiv op rd rs1 rs2) e = lies-nowhere pages
stores-lie ranges pages cpu (Fence rd rs1 bits) e = lies-nowhere pages
stores-lie ranges pages cpu (Atomic op rd rs1 rs2 order) e = lies-nowhere pages
stores-lie ranges pages cpu Ecall e = lies-nowhere pages
stores-lie ranges pages cpu Ebreak e = lies-nowhere pages

-- each byte of the stretch may be written
pub record MayWrite (ranges : List Range) (span : Span) : Type 0 where
  pub may : (a : ℕ) → within span a ≡ true → permits_byte ranges Write a ≡ true

writes-nowhere : (ranges : List Range) → MayWrite ranges (record { place = 0; count = 0 })
writes-nowhere ranges = record { may = λ a h. absurd (empty-within a h) }

writes-all : (ranges : List Range) (place count : ℕ) → permits_of ranges Write place count ≡ true → MayWrite ranges (record { place = place; count = count })
writes-all ranges place count permitted = record {
  may = λ a h.
      let p = and_parts (nat_le place a) (nat_lt a (place + count)) h in
      let low : place ≤ a = leb-true place a p.0 in
      let high : a < place + count = ltb-true a (place + count) p.1 in
      let e : place + (a - place) ≡ a = omega arith in
      ap (permits_byte ranges Write) (sym e) ∙ each_of ranges Write place count permitted (a - place) (omega arith);
}

pub stores-may : (ranges : List Range) (pages : Backed) (cpu : Cpu) (instr : Instr) → instruction_stop ranges pages cpu instr ≡ None → MayWrite ranges (stores instr cpu)
unfolding instruction_stop
stores-may ranges pages cpu (Store op rs1 rs2 imm) e =
    writes-all ranges (address cpu rs1 imm) (store_size op) (accesses ranges pages Write (stores (Store op rs1 rs2 imm) cpu) MisalignedStore ForbiddenStore e).permitted
stores-may ranges pages cpu (Lui rd imm) e = writes-nowhere ranges
stores-may ranges pages cpu (Auipc rd imm) e = writes-nowhere ranges
stores-may ranges pages cpu (Jal rd imm) e = writes-nowhere ranges
stores-may ranges pages cpu (Jalr rd rs1 imm) e = writes-nowhere ranges
stores-may ranges pages cpu (Branch op rs1 rs2 imm) e = writes-nowhere ranges
stores-may ranges pages cpu (Load op rd rs1 imm) e = writes-nowhere ranges
stores-may ranges pages cpu (AluImm op rd rs1 imm) e = writes-nowhere ranges
stores-may ranges pages cpu (Alu op rd rs1 rs2) e = writes-nowhere ranges
stores-may ranges pages cpu (MulDiv op rd rs1 rs2) e = writes-nowhere ranges
stores-may ranges pages cpu (Fence rd rs1 bits) e = writes-nowhere ranges
stores-may ranges pages cpu (Atomic op rd rs1 rs2 order) e = writes-nowhere ranges
stores-may ranges pages cpu Ecall e = writes-nowhere ranges
stores-may ranges pages cpu Ebreak e = writes-nowhere ranges

-- ---- what a thread does next

-- where a thread executes an instruction nothing stops its fetch, nor the instruction
pub record Goes (layout : Layout) (pages : Backed) (cpu : Cpu) (instr : Instr) : Type 0 where
  pub fetch : fetch_stop layout pages cpu ≡ None
  pub instruction : instruction_stop layout.ranges pages cpu instr ≡ None

goes-at : (ranges : List Range) (pages : Backed) (cpu : Cpu) (o : Option Instr) (instr : Instr) → next_at ranges pages cpu o ≡ Executes instr → instruction_stop ranges pages cpu instr ≡ None
goes-at ranges pages cpu None instr e = absurd (let f : Stands (Trap NoInstruction) ≡ Executes instr = e in cc)
goes-at ranges pages cpu (Some other) instr e = by (instruction_stop ranges pages cpu other) refl e
  where
    by : (o : Option Stop) → instruction_stop ranges pages cpu other ≡ o → unless_stop o (Executes other) ≡ Executes instr → instruction_stop ranges pages cpu instr ≡ None
    by None is f = let same : other ≡ instr = cc in subst (λ (i : Instr). instruction_stop ranges pages cpu i ≡ None) same is
    by (Some stop) is f = absurd (let g : Stands stop ≡ Executes instr = f in cc)

pub goes : (layout : Layout) (pages : Backed) (m : Memory) (cpu : Cpu) (instr : Instr) → next layout pages m cpu ≡ Executes instr → Goes layout pages cpu instr
unfolding next
goes layout pages m cpu instr e = by (fetch_stop layout pages cpu) refl e
  where
    by : (o : Option Stop) → fetch_stop layout pages cpu ≡ o → unless_stop o (next_at layout.ranges pages cpu (instruction_of (number_at m cpu.pc 4))) ≡ Executes instr → Goes layout pages cpu instr
    by None is f = record { fetch = is; instruction = goes-at layout.ranges pages cpu (instruction_of (number_at m cpu.pc 4)) instr f }
    by (Some stop) is f = absurd (let g : Stands stop ≡ Executes instr = f in cc)

agree-in : (pages : Backed) (m n : Memory) (span : Span) → SameIn pages m n → LiesIn pages span → Agree m n span
agree-in pages m n span h k = record { same = λ a w. h.same a (k.lies a w) }

-- what a thread does next hangs on the bytes of the pages that are there, and no others
pub next-in : (layout : Layout) (pages : Backed) (m n : Memory) (cpu : Cpu) → SameIn pages m n → next layout pages m cpu ≡ next layout pages n cpu
next-in layout pages m n cpu h = by (fetch_stop layout pages cpu) refl
  where
    by : (o : Option Stop) → fetch_stop layout pages cpu ≡ o → next layout pages m cpu ≡ next layout pages n cpu
    by None e = next-agree layout pages m n cpu (agree-in pages m n (fetched cpu) h (fetched-lies layout pages cpu e))
    by (Some stop) e = next-stopped layout pages m cpu stop e ∙ sym (next-stopped layout pages n cpu stop e)

-- and so does what an instruction changes
pub change-in : (layout : Layout) (pages : Backed) (m n : Memory) (cpu : Cpu) (instr : Instr) → SameIn pages m n → next layout pages m cpu ≡ Executes instr → change_of m cpu instr ≡ change_of n cpu instr
change-in layout pages m n cpu instr h e =
    change-agree m n cpu instr (agree-in pages m n (loads instr cpu) h (loads-lie layout.ranges pages cpu instr (goes layout pages m cpu instr e).instruction))

-- what it stores lies in them
pub changed-lies : (layout : Layout) (pages : Backed) (m k : Memory) (cpu : Cpu) (instr : Instr) → next layout pages m cpu ≡ Executes instr → LiesIn pages (changed (change_of k cpu instr))
changed-lies layout pages m k cpu instr e =
    subst (LiesIn pages) (sym (changed-stores instr cpu _)) (stores-lie layout.ranges pages cpu instr (goes layout pages m cpu instr e).instruction)

-- and may be written
pub changed-may : (layout : Layout) (pages : Backed) (m k : Memory) (cpu : Cpu) (instr : Instr) → next layout pages m cpu ≡ Executes instr → MayWrite layout.ranges (changed (change_of k cpu instr))
changed-may layout pages m k cpu instr e =
    subst (MayWrite layout.ranges) (sym (changed-stores instr cpu _)) (stores-may layout.ranges pages cpu instr (goes layout pages m cpu instr e).instruction)

-- ---- the bytes afterwards

-- the same bytes are stored in both
pub stored-in : (pages : Backed) (m n : Memory) (place : ℕ) (bytes : List ℕ) → SameIn pages m n → SameIn pages (stored m place bytes) (stored n place bytes)
stored-in pages m n place bytes h = record { same = λ a there. by a there (within (record { place = place; count = length bytes }) a) refl }
  where
    by : (a : ℕ) → pages (page_of a) ≡ true → (b : Bool) → within (record { place = place; count = length bytes }) a ≡ b → stored m place bytes a ≡ stored n place bytes a
    by a there true w = stored-inside m n place bytes a w
    by a there false w = stored-outside m place bytes a w ∙ (h.same a there ∙ sym (stored-outside n place bytes a w))

-- a byte of another page stays
pub stored-beside : (pages : Backed) (m : Memory) (change : Change) → LiesIn pages (changed change) → SameBeside pages m (stored m change.place change.bytes)
stored-beside pages m change h = record { same = λ a apart. by a apart (within (changed change) a) refl }
  where
    by : (a : ℕ) → pages (page_of a) ≡ false → (b : Bool) → within (changed change) a ≡ b → m a ≡ stored m change.place change.bytes a
    by a apart true w = absurd (true≢false (sym (h.lies a w) ∙ apart))
    by a apart false w = sym (stored-outside m change.place change.bytes a w)

-- a byte that may not be written stays
pub stored-unwritable : (ranges : List Range) (m : Memory) (change : Change) → MayWrite ranges (changed change) → SameUnwritable ranges m (stored m change.place change.bytes)
stored-unwritable ranges m change h = record { same = λ a not_so. by a not_so (within (changed change) a) refl }
  where
    by : (a : ℕ) → permits_byte ranges Write a ≡ false → (b : Bool) → within (changed change) a ≡ b → m a ≡ stored m change.place change.bytes a
    by a not_so true w = absurd (true≢false (sym (h.may a w) ∙ not_so))
    by a not_so false w = sym (stored-outside m change.place change.bytes a w)

-- a memory with the same bytes in these pages as one, and in all others as another
pub parts-whole : (pages : Backed) (part whole after : Memory) → SameIn pages part after → SameBeside pages whole after → after ≡ with_part pages part whole
parts-whole pages part whole after inside beside = fun_ext (λ a. by a (pages (page_of a)) refl)
  where
    by : (a : ℕ) (b : Bool) → pages (page_of a) ≡ b → after a ≡ cond (pages (page_of a)) (part a) (whole a)
    by a true e = sym (inside.same a e) ∙ sym (ap (λ (b : Bool). cond b (part a) (whole a)) e)
    by a false e = sym (beside.same a e) ∙ sym (ap (λ (b : Bool). cond b (part a) (whole a)) e)

pub same-beside-both : (pages : Backed) (m n k : Memory) → SameBeside pages m n → SameBeside pages n k → SameBeside pages m k
same-beside-both pages m n k h g = record { same = λ a apart. h.same a apart ∙ g.same a apart }
