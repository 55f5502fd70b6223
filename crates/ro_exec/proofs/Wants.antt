-- A thread that stands at the fault of a page lacks that page, which is that of its code or that of its data; so there is no third one.
use Rattle.std.specs.Prelude.{◌≡◌, ◌⊎◌, ℕ, ◌%◌, Bool, true, false, not, ◌==◌, List, [], ◌∷◌, Option, Some, None}
use Rattle.std.specs.Option.{option_map}
use Rattle.std.proofs.Common.{refl, sym, ap, ◌∙◌, subst, inl, inr}
use Rattle.std.proofs.lemmas.Bool.{true≢false}
use Rattle.ro_decode.specs.declared.AtomicOp.{AtomicOp}
use Rattle.ro_decode.specs.declared.Instr.{Instr}
use Rattle.ro_decode.specs.declared.Instr.TheVariants.{Lui, Auipc, Jal, Jalr, Branch, Load, Store, AluImm, Alu, MulDiv, Fence, Atomic, Ecall, Ebreak}
use Rattle.ro_decode.specs.Table.{instruction_of}
use Rattle.ro_event.specs.declared.calls.Call.{Call}
use Rattle.ro_event.specs.declared.stops.Stop.{Stop}
use Rattle.ro_event.specs.declared.stops.Stop.TheVariants.{Calls, Trap, PageFault}
use Rattle.ro_event.specs.declared.traps.TrapCause.{TrapCause}
use Rattle.ro_event.specs.declared.traps.TrapCause.TheVariants.{ForbiddenLoad, ForbiddenStore, MisalignedLoad, MisalignedStore}
use Rattle.ro_event.specs.declared.calls.Which.{Which}
use Rattle.ro_event.specs.Table.{call_at}
use Rattle.ro_region.specs.declared.Range.{Range}
use Rattle.ro_region.specs.declared.Kind.{Kind}
use Rattle.ro_region.specs.declared.Kind.TheVariants.{Read, Write, Execute}
use Rattle.ro_region.specs.Permission.{permits_of}
use Rattle.ro_pages.specs.Bytes.{Memory, Span, number_at, page_of}
use Rattle.ro_exec.specs.declared.Cpu.{Cpu}
use Rattle.ro_exec.specs.Registers.{register}
use Rattle.ro_exec.specs.Meaning.{loads, stores}
use Rattle.ro_exec.specs.Next.{Layout, Backed, exit_place, call_of, Next, Executes, first, stop_if, access_stop, permits_atomic, atomic_stop, fetch_stop, instruction_stop, unless_stop, next_at, next, stop_in}

-- a page fault in this place is one of an unbacked page, which is such a page
pub record Wants (backed : Backed) (IsSuch : ℕ → Type 0) (o : Option Stop) : Type 0 where
  pub unbacked : (page : ℕ) → o ≡ Some (PageFault page) → backed page ≡ false
  pub such : (page : ℕ) → o ≡ Some (PageFault page) → IsSuch page

module _ (backed : Backed) (IsSuch : ℕ → Type 0) where
  wants-row : (o : Option Stop) (rows : List (Option Stop)) → Wants backed IsSuch o → Wants backed IsSuch (first rows) → Wants backed IsSuch (first (o ∷ rows))
  wants-row None rows h k = k
  wants-row (Some stop) rows h k = h

  wants-none : Wants backed IsSuch None
  wants-none = record { unbacked = λ page (e : None ≡ Some (PageFault page)). absurd cc; such = λ page (e : None ≡ Some (PageFault page)). absurd cc }

  wants-trap : (b : Bool) (cause : TrapCause) → Wants backed IsSuch (stop_if b (Trap cause))
  wants-trap true cause = record { unbacked = λ page (e : Some (Trap cause) ≡ Some (PageFault page)). absurd cc; such = λ page (e : Some (Trap cause) ≡ Some (PageFault page)). absurd cc }
  wants-trap false cause = wants-none

  wants-call : (b : Bool) (call : Call) → Wants backed IsSuch (stop_if b (Calls call))
  wants-call true call = record { unbacked = λ page (e : Some (Calls call) ≡ Some (PageFault page)). absurd cc; such = λ page (e : Some (Calls call) ≡ Some (PageFault page)). absurd cc }
  wants-call false call = wants-none

  wants-function : (cpu : Cpu) (o : Option Which) → Wants backed IsSuch (option_map (call_of cpu) o)
  wants-function cpu None = wants-none
  wants-function cpu (Some which) = record { unbacked = λ page (e : Some (call_of cpu which) ≡ Some (PageFault page)). absurd cc; such = λ page (e : Some (call_of cpu which) ≡ Some (PageFault page)). absurd cc }

  wants-last : (page : ℕ) (k : Bool) → backed page ≡ k → IsSuch page → Wants backed IsSuch (first (stop_if (not k) (PageFault page) ∷ []))
  wants-last page true e h = wants-none
  wants-last page false e h = record {
    unbacked = λ other (f : Some (PageFault page) ≡ Some (PageFault other)).
        let same : page ≡ other = cc in subst (λ (p : ℕ). backed p ≡ false) same e;
    such = λ other (f : Some (PageFault page) ≡ Some (PageFault other)).
        let same : page ≡ other = cc in subst IsSuch same h;
  }

  wants-unless : (o : Option Stop) (n : Next) → Wants backed IsSuch o → Wants backed IsSuch (stop_in n) → Wants backed IsSuch (stop_in (unless_stop o n))
  wants-unless None n h k = k
  wants-unless (Some stop) n h k = h

  -- an atomic instruction asks for no page
  wants-atomic : (ranges : List Range) (op : AtomicOp) (address : ℕ) (call : Call) → Wants backed IsSuch (atomic_stop ranges op address (Calls call))
  wants-atomic ranges op address call =
      wants-row _ _ (wants-trap (not (address % 4 == 0)) _)
      (wants-row _ _ (wants-trap (not (permits_atomic ranges op address)) _)
      (wants-call true call))

abbrev Is : (page other : ℕ) → Type 0
Is page other = other ≡ page

wants-access : (ranges : List Range) (backed : Backed) (kind : Kind) (span : Span) (m f : TrapCause) → Wants backed (Is (page_of span.place)) (access_stop ranges backed kind span m f)
wants-access ranges backed kind span m f =
    wants-row backed _ _ _ (wants-trap backed _ (not (span.place % span.count == 0)) m)
    (wants-row backed _ _ _ (wants-trap backed _ (not (permits_of ranges kind span.place span.count)) f)
    (wants-last backed (Is (page_of span.place)) (page_of span.place) (backed (page_of span.place)) refl refl))

wants-fetch : (layout : Layout) (backed : Backed) (cpu : Cpu) → Wants backed (Is (page_of cpu.pc)) (fetch_stop layout backed cpu)
unfolding fetch_stop
wants-fetch layout backed cpu =
    wants-row backed _ _ _ (wants-trap backed _ (not (cpu.pc % 4 == 0)) _)
    (wants-row backed _ _ _ (wants-call backed _ (cpu.pc == exit_place) _)
    (wants-row backed _ _ _ (wants-function backed _ cpu (call_at layout.calls cpu.pc))
    (wants-row backed _ _ _ (wants-trap backed _ (not (permits_of layout.ranges Execute cpu.pc 4)) _)
    (wants-last backed (Is (page_of cpu.pc)) (page_of cpu.pc) (backed (page_of cpu.pc)) refl refl))))

-- the page of the bytes that an instruction loads or stores
abbrev pub data_page : Cpu → Option Instr → ℕ
data_page cpu (Some (Load op rd rs1 imm)) = page_of (loads (Load op rd rs1 imm) cpu).place
data_page cpu (Some (Store op rs1 rs2 imm)) = page_of (stores (Store op rs1 rs2 imm) cpu).place
data_page cpu _ = 0

wants-instruction : (ranges : List Range) (backed : Backed) (cpu : Cpu) (instr : Instr) → Wants backed (Is (data_page cpu (Some instr))) (instruction_stop ranges backed cpu instr)
unfolding instruction_stop
wants-instruction ranges backed cpu (Lui rd imm) = wants-none backed _
wants-instruction ranges backed cpu (Auipc rd imm) = wants-none backed _
wants-instruction ranges backed cpu (Jal rd imm) = wants-trap backed _ _ _
wants-instruction ranges backed cpu (Jalr rd rs1 imm) = wants-trap backed _ _ _
wants-instruction ranges backed cpu (Branch op rs1 rs2 imm) = wants-trap backed _ _ _
wants-instruction ranges backed cpu (Load op rd rs1 imm) = wants-access ranges backed Read (loads (Load op rd rs1 imm) cpu) MisalignedLoad ForbiddenLoad
wants-instruction ranges backed cpu (Store op rs1 rs2 imm) = wants-access ranges backed Write (stores (Store op rs1 rs2 imm) cpu) MisalignedStore ForbiddenStore
wants-instruction ranges backed cpu (AluImm op rd rs1 imm) = wants-none backed _
wants-instruction ranges backed cpu (Alu op rd rs1 rs2) = wants-none backed _
wants-instruction ranges backed cpu (MulDiv op rd rs1 rs2) = wants-none backed _
wants-instruction ranges backed cpu (Fence rd rs1 bits) = wants-none backed _
wants-instruction ranges backed cpu (Atomic op rd rs1 rs2 order) = wants-atomic backed _ ranges op (register cpu rs1) _
wants-instruction ranges backed cpu Ecall = wants-call backed _ true _
wants-instruction ranges backed cpu Ebreak = wants-trap backed _ true _

wants-next_at : (ranges : List Range) (backed : Backed) (cpu : Cpu) (o : Option Instr) → Wants backed (Is (data_page cpu o)) (stop_in (next_at ranges backed cpu o))
wants-next_at ranges backed cpu None = wants-trap backed _ true _
wants-next_at ranges backed cpu (Some instr) =
    wants-unless backed (Is (data_page cpu (Some instr))) (instruction_stop ranges backed cpu instr) (Executes instr) (wants-instruction ranges backed cpu instr) (wants-none backed _)

-- the page of the code, or that of the data
abbrev pub IsWanted : Memory → Cpu → ℕ → Type 0
IsWanted m cpu page = (page ≡ page_of cpu.pc) ⊎ (page ≡ data_page cpu (instruction_of (number_at m cpu.pc 4)))

wanted-as : (backed : Backed) (One Other : ℕ → Type 0) (o : Option Stop) → ((page : ℕ) → One page → Other page) → Wants backed One o → Wants backed Other o
wanted-as backed One Other o also h = record { unbacked = h.unbacked; such = λ page e. also page (h.such page e) }

-- a page fault is one of an unbacked page, that of the code or that of the data
pub next-wants : (layout : Layout) (backed : Backed) (m : Memory) (cpu : Cpu) → Wants backed (IsWanted m cpu) (stop_in (next layout backed m cpu))
unfolding next
next-wants layout backed m cpu =
    let data_is : ℕ = data_page cpu (instruction_of (number_at m cpu.pc 4)) in
    wants-unless backed (IsWanted m cpu) (fetch_stop layout backed cpu) (next_at layout.ranges backed cpu (instruction_of (number_at m cpu.pc 4)))
    (wanted-as backed (Is (page_of cpu.pc)) (IsWanted m cpu) _ (λ page e. inl e) (wants-fetch layout backed cpu))
    (wanted-as backed (Is data_is) (IsWanted m cpu) _ (λ page e. inr e) (wants-next_at layout.ranges backed cpu (instruction_of (number_at m cpu.pc 4))))

-- of two pages there are no three
two-only : (m : Memory) (cpu : Cpu) (a b c : ℕ) → IsWanted m cpu a → IsWanted m cpu b → IsWanted m cpu c → (a ≡ b → ⊥) → (a ≡ c → ⊥) → (b ≡ c → ⊥) → ⊥
two-only m cpu a b c (inl e) (inl f) h ab ac bc = ab (e ∙ sym f)
two-only m cpu a b c (inr e) (inr f) h ab ac bc = ab (e ∙ sym f)
two-only m cpu a b c (inl e) (inr f) (inl g) ab ac bc = ac (e ∙ sym g)
two-only m cpu a b c (inl e) (inr f) (inr g) ab ac bc = bc (f ∙ sym g)
two-only m cpu a b c (inr e) (inl f) (inl g) ab ac bc = bc (f ∙ sym g)
two-only m cpu a b c (inr e) (inl f) (inr g) ab ac bc = ac (e ∙ sym g)

-- another page than one that is there
other-page : (pages : Backed) (a b : ℕ) → pages a ≡ true → pages b ≡ false → a ≡ b → ⊥
other-page pages a b here gone same = true≢false (sym here ∙ (ap pages same ∙ gone))

-- A thread that did not go on for the want of one page, and then, with that page, for the want of a second one, goes on or
-- stands at another stop where it has both.
pub no-third : (layout : Layout) (one two three : Backed) (m : Memory) (cpu : Cpu) (p q r : ℕ)
    → stop_in (next layout one m cpu) ≡ Some (PageFault p) → stop_in (next layout two m cpu) ≡ Some (PageFault q) → stop_in (next layout three m cpu) ≡ Some (PageFault r)
    → two p ≡ true → three p ≡ true → three q ≡ true → ⊥
no-third layout one two three m cpu p q r at_p at_q at_r two_p three_p three_q =
    two-only m cpu p q r ((next-wants layout one m cpu).such p at_p) ((next-wants layout two m cpu).such q at_q) ((next-wants layout three m cpu).such r at_r)
    (other-page two p q two_p ((next-wants layout two m cpu).unbacked q at_q))
    (other-page three p r three_p ((next-wants layout three m cpu).unbacked r at_r))
    (other-page three q r three_q ((next-wants layout three m cpu).unbacked r at_r))
