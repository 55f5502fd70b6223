-- With a range more a thread does what it did, but where it stood at a trap; and at a trap too where it touches no byte of that range.
use Rattle.std.specs.Prelude.{◌≡◌, ℕ, ◌%◌, Bool, true, false, not, ◌&&◌, ◌==◌, List, ◌∷◌, ◌++◌, Option, Some, None, ⊤}
use Rattle.std.specs.Option.{option_map}
use Rattle.std.proofs.Common.{refl, sym, ap, ◌∙◌}
use Rattle.std.proofs.lemmas.Bool.{true≢false, and_parts, and_from, le-leb, lt-ltb}
use Rattle.ro_decode.specs.declared.AtomicOp.{AtomicOp}
use Rattle.ro_decode.specs.declared.AtomicOp.TheVariants.{LoadReserved, StoreConditional}
use Rattle.ro_decode.specs.declared.Instr.{Instr}
use Rattle.ro_decode.specs.declared.Instr.TheVariants.{Lui, Auipc, Jal, Jalr, Branch, Load, Store, AluImm, Alu, MulDiv, Fence, Atomic as IsAtomic, Ecall, Ebreak}
use Rattle.ro_decode.specs.Table.{instruction_of}
use Rattle.ro_event.specs.declared.stops.Stop.{Stop}
use Rattle.ro_event.specs.declared.stops.Stop.TheVariants.{Calls, Trap}
use Rattle.ro_event.specs.declared.calls.Call.{Call}
use Rattle.ro_event.specs.declared.traps.TrapCause.{TrapCause}
use Rattle.ro_event.specs.declared.traps.TrapCause.TheVariants.{ForbiddenFetch, ForbiddenLoad, ForbiddenStore, MisalignedLoad, MisalignedPc, MisalignedStore}
use Rattle.ro_event.specs.declared.calls.Which.TheVariants.{Function}
use Rattle.ro_event.specs.declared.functions.Function.TheVariants.{Exit}
use Rattle.ro_event.specs.Table.{call_at}
use Rattle.ro_region.specs.declared.Range.{Range}
use Rattle.ro_region.specs.declared.Kind.{Kind}
use Rattle.ro_region.specs.declared.Kind.TheVariants.{Read, Write, Execute}
use Rattle.ro_region.specs.Permission.{permits_of, with_range}
use Rattle.ro_region.proofs.Wider.{lies_in, Reaches, permits-wider, permits-newly}
use Rattle.ro_pages.specs.Bytes.{Memory, Span, within, number_at}
use Rattle.ro_exec.specs.declared.Cpu.{Cpu}
use Rattle.ro_exec.specs.Registers.{register}
use Rattle.ro_exec.specs.Meaning.{loads, stores}
use Rattle.ro_exec.specs.Next.{Layout, Backed, all_backed, exit_place, call_of, Next, Stands, Executes, first, stop_if, access_stop, permits_atomic, misaligned_by, forbidden_by, fetch_stop, instruction_stop, unless_stop, next_at, next}
use Rattle.ro_exec.proofs.Frame.{fetched, next-stopped, next-fetched}
use Rattle.ro_kernel.specs.Kernel.{Kernel}
use Rattle.ro_kernel.specs.Serve.{is_atomic}
use Rattle.ro_plain.specs.Machine.{Program, layout_in}
use Rattle.ro_exec.proofs.MorePages.{fetched-with-all}

-- the layout with a range more
abbrev pub widen : Option Range → Layout → Layout
widen range layout = record { ranges = with_range range layout.ranges; calls = layout.calls }

-- the layout by what was given
abbrev laid : Program → List Range → Layout
laid program given = record { ranges = given ++ program.image.ranges; calls = program.image.calls }

-- that of a kernel that gave one
pub layout-widens : (program : Program) (before after : Kernel) (range : Option Range) → after.given ≡ with_range range before.given → layout_in program after ≡ widen range (layout_in program before)
layout-widens program before after range e =
    ap (laid program) e ∙ by range
  where
    by : (o : Option Range) → laid program (with_range o before.given) ≡ widen o (layout_in program before)
    by None = refl
    by (Some r) = refl

-- and of one that gave nothing
pub layout-same : (program : Program) (one other : Kernel) → one.given ≡ other.given → layout_in program one ≡ layout_in program other
layout-same program one other e = ap (laid program) e

permits-with : (range : Option Range) (ranges : List Range) (kind : Kind) (a n : ℕ) → permits_of ranges kind a n ≡ true → permits_of (with_range range ranges) kind a n ≡ true
permits-with None ranges kind a n h = h
permits-with (Some r) ranges kind a n h = permits-wider r ranges kind a n h

atomic-with : (range : Option Range) (ranges : List Range) (op : AtomicOp) (a : ℕ) → permits_atomic ranges op a ≡ true → permits_atomic (with_range range ranges) op a ≡ true
atomic-with range ranges LoadReserved a h = permits-with range ranges Read a 4 h
atomic-with range ranges StoreConditional a h = permits-with range ranges Write a 4 h
atomic-with range ranges op a h =
    let parts = and_parts (permits_of ranges Read a 4) (permits_of ranges Write a 4) h in
    and_from _ _ (permits-with range ranges Read a 4 parts.0) (permits-with range ranges Write a 4 parts.1)

-- ---- but where it stood at a trap

-- the stop with fewer ranges, and with one more
pub data EasedStop : Option Stop → Option Stop → Type 0 where
  same_stop : {o : Option Stop} → EasedStop o o
  was_trap : {cause : TrapCause} {o : Option Stop} → EasedStop (Some (Trap cause)) o

-- what a thread does with fewer ranges, and with one more
pub data EasedNext : Next → Next → Type 0 where
  same_next : {n : Next} → EasedNext n n
  was_at_trap : {cause : TrapCause} {n : Next} → EasedNext (Stands (Trap cause)) n

-- the row of a permission
permit-row : (cause : TrapCause) (xs : List (Option Stop)) (b p : Bool) → (b ≡ true → p ≡ true) → EasedStop (first (stop_if (not b) (Trap cause) ∷ xs)) (first (stop_if (not p) (Trap cause) ∷ xs))
permit-row cause xs true true h = same_stop
permit-row cause xs true false h = absurd (true≢false (sym (h refl)))
permit-row cause xs false p h = was_trap

-- a row that knows no ranges
row : (o : Option Stop) (xs ys : List (Option Stop)) → EasedStop (first xs) (first ys) → EasedStop (first (o ∷ xs)) (first (o ∷ ys))
row None xs ys h = h
row (Some stop) xs ys h = same_stop

module _ (range : Option Range) (backed : Backed) where
  -- a load or a store
  access-eased : (ranges : List Range) (kind : Kind) (span : Span) (m f : TrapCause) → EasedStop (access_stop ranges backed kind span m f) (access_stop (with_range range ranges) backed kind span m f)
  access-eased ranges kind span m f =
      row (stop_if (not (span.place % span.count == 0)) (Trap m)) _ _
      (permit-row f _ (permits_of ranges kind span.place span.count) (permits_of (with_range range ranges) kind span.place span.count) (permits-with range ranges kind span.place span.count))

  -- a stop before the instruction is read
  pub fetch-eased : (layout : Layout) (cpu : Cpu) → EasedStop (fetch_stop layout backed cpu) (fetch_stop (widen range layout) backed cpu)
  unfolding fetch_stop
  fetch-eased layout cpu =
      row (stop_if (not (cpu.pc % 4 == 0)) (Trap MisalignedPc)) _ _
      (row (stop_if (cpu.pc == exit_place) (call_of cpu (Function Exit))) _ _
      (row (option_map (call_of cpu) (call_at layout.calls cpu.pc)) _ _
      (permit-row ForbiddenFetch _ (permits_of layout.ranges Execute cpu.pc 4) (permits_of (with_range range layout.ranges) Execute cpu.pc 4) (permits-with range layout.ranges Execute cpu.pc 4))))

  -- a stop at the instruction
  instruction-eased : (ranges : List Range) (cpu : Cpu) (instr : Instr) → EasedStop (instruction_stop ranges backed cpu instr) (instruction_stop (with_range range ranges) backed cpu instr)
  unfolding instruction_stop
  instruction-eased ranges cpu (Lui rd imm) = same_stop
  instruction-eased ranges cpu (Auipc rd imm) = same_stop
  instruction-eased ranges cpu (Jal rd imm) = same_stop
  instruction-eased ranges cpu (Jalr rd rs1 imm) = same_stop
  instruction-eased ranges cpu (Branch op rs1 rs2 imm) = same_stop
  instruction-eased ranges cpu (Load op rd rs1 imm) = access-eased ranges Read (loads (Load op rd rs1 imm) cpu) MisalignedLoad ForbiddenLoad
  instruction-eased ranges cpu (Store op rs1 rs2 imm) = access-eased ranges Write (stores (Store op rs1 rs2 imm) cpu) MisalignedStore ForbiddenStore
  instruction-eased ranges cpu (AluImm op rd rs1 imm) = same_stop
  instruction-eased ranges cpu (Alu op rd rs1 rs2) = same_stop
  instruction-eased ranges cpu (MulDiv op rd rs1 rs2) = same_stop
  instruction-eased ranges cpu (Fence rd rs1 bits) = same_stop
  instruction-eased ranges cpu (IsAtomic op rd rs1 rs2 order) =
      row (stop_if (not (register cpu rs1 % 4 == 0)) (Trap (misaligned_by op))) _ _
      (permit-row (forbidden_by op) _ (permits_atomic ranges op (register cpu rs1)) (permits_atomic (with_range range ranges) op (register cpu rs1)) (atomic-with range ranges op (register cpu rs1)))
  instruction-eased ranges cpu Ecall = same_stop
  instruction-eased ranges cpu Ebreak = same_stop

  -- a stop, or else what comes next
  unless-eased : (o p : Option Stop) (m n : Next) → EasedStop o p → EasedNext m n → EasedNext (unless_stop o m) (unless_stop p n)
  unless-eased None None m n same_stop k = k
  unless-eased None (Some other) m n h k = elim h [ ]
  unless-eased (Some stop) (Some other) m n same_stop k = same_next
  unless-eased (Some (Trap cause)) p m n was_trap k = was_at_trap

  -- what comes of a word
  next_at-eased : (ranges : List Range) (cpu : Cpu) (o : Option Instr) → EasedNext (next_at ranges backed cpu o) (next_at (with_range range ranges) backed cpu o)
  next_at-eased ranges cpu None = same_next
  next_at-eased ranges cpu (Some instr) = unless-eased _ _ (Executes instr) (Executes instr) (instruction-eased ranges cpu instr) same_next

  -- what a thread does next
  next-eased : (layout : Layout) (m : Memory) (cpu : Cpu) → EasedNext (next layout backed m cpu) (next (widen range layout) backed m cpu)
  unfolding next
  next-eased layout m cpu = unless-eased _ _ _ _ (fetch-eased layout cpu) (next_at-eased layout.ranges cpu (instruction_of (number_at m cpu.pc 4)))

  executes-from : (m n : Next) (instr : Instr) → EasedNext m n → m ≡ Executes instr → n ≡ Executes instr
  executes-from m n instr same_next e = e
  executes-from (Stands (Trap cause)) n instr was_at_trap e = absurd (let f : Stands (Trap cause) ≡ Executes instr = e in cc)

  -- an instruction is executed with a range more too
  pub executes-wider : (layout : Layout) (m : Memory) (cpu : Cpu) (instr : Instr) → next layout backed m cpu ≡ Executes instr → next (widen range layout) backed m cpu ≡ Executes instr
  executes-wider layout m cpu instr e = executes-from _ _ instr (next-eased layout m cpu) e

  none-from : (o p : Option Stop) → EasedStop o p → o ≡ None → p ≡ None
  none-from o p same_stop e = e
  none-from (Some (Trap cause)) p was_trap e = absurd (let f : Some (Trap cause) ≡ None = e in cc)

  -- and one that is read is read
  pub fetched-wider : (layout : Layout) (cpu : Cpu) → fetch_stop layout backed cpu ≡ None → fetch_stop (widen range layout) backed cpu ≡ None
  fetched-wider layout cpu e = none-from _ _ (fetch-eased layout cpu) e

-- ---- where it touches no byte of the range

-- no byte of the stretch lies in the range
abbrev pub Avoids : Option Range → Span → Type 0
Avoids None span = ⊤
Avoids (Some range) span = (x : ℕ) → lies_in range x ≡ true → within span x ≡ false

row-same : (o : Option Stop) (xs ys : List (Option Stop)) → (o ≡ None → first xs ≡ first ys) → first (o ∷ xs) ≡ first (o ∷ ys)
row-same None xs ys h = h refl
row-same (Some stop) xs ys h = refl

-- the row of a permission that cannot come newly
permit-same : (cause : TrapCause) (xs : List (Option Stop)) (b p : Bool) → (b ≡ true → p ≡ true) → (b ≡ false → p ≡ true → ⊥) → first (stop_if (not b) (Trap cause) ∷ xs) ≡ first (stop_if (not p) (Trap cause) ∷ xs)
permit-same cause xs true true h k = refl
permit-same cause xs true false h k = absurd (true≢false (sym (h refl)))
permit-same cause xs false true h k = absurd (k refl refl)
permit-same cause xs false false h k = refl

stop-none : (b : Bool) (stop : Stop) → stop_if (not b) stop ≡ None → b ≡ true
stop-none true stop e = refl
stop-none false stop e = absurd (let f : Some stop ≡ None = e in cc)

none-stop : (b : Bool) (stop : Stop) → b ≡ true → stop_if (not b) stop ≡ None
none-stop b stop e = ap (λ c. stop_if (not c) stop) e

none-row : (o : Option Stop) (xs : List (Option Stop)) → o ≡ None → first xs ≡ None → first (o ∷ xs) ≡ None
none-row o xs e h = ap (λ p. first (p ∷ xs)) e ∙ h

-- a stretch that avoids the range is not permitted by it
not-newly : (range : Option Range) (ranges : List Range) (kind : Kind) (a n : ℕ) → Avoids range (record { place = a; count = n }) → permits_of ranges kind a n ≡ false → permits_of (with_range range ranges) kind a n ≡ true → ⊥
not-newly None ranges kind a n apart e h = true≢false (sym h ∙ e)
not-newly (Some r) ranges kind a n apart e h =
    let there : Reaches r a n = permits-newly r ranges kind a n e h in
    true≢false (sym (and_from _ _ (le-leb _ _ there.low) (lt-ltb _ _ there.high)) ∙ apart there.byte there.lies)

-- nor is the word of an atomic instruction
atomic-newly : (range : Option Range) (ranges : List Range) (op : AtomicOp) (a : ℕ) → Avoids range (record { place = a; count = 4 }) → permits_atomic ranges op a ≡ false → permits_atomic (with_range range ranges) op a ≡ true → ⊥
atomic-newly range ranges LoadReserved a apart e h = not-newly range ranges Read a 4 apart e h
atomic-newly range ranges StoreConditional a apart e h = not-newly range ranges Write a 4 apart e h
atomic-newly range ranges op a apart e h =
    let parts = and_parts (permits_of (with_range range ranges) Read a 4) (permits_of (with_range range ranges) Write a 4) h in
    by (permits_of ranges Read a 4) refl parts.0 parts.1
  where
    by : (b : Bool) → permits_of ranges Read a 4 ≡ b → permits_of (with_range range ranges) Read a 4 ≡ true → permits_of (with_range range ranges) Write a 4 ≡ true → ⊥
    by false f r w = not-newly range ranges Read a 4 apart f r
    by true f r w = not-newly range ranges Write a 4 apart (sym (ap (λ b. b && permits_of ranges Write a 4) f) ∙ e) w

some-row : (o : Option Stop) (xs : List (Option Stop)) (stop : Stop) → o ≡ None → first xs ≡ Some stop → first (o ∷ xs) ≡ Some stop
some-row o xs stop e h = ap (λ p. first (p ∷ xs)) e ∙ h

module _ (range : Option Range) (backed : Backed) where
  access-same : (ranges : List Range) (kind : Kind) (span : Span) (m f : TrapCause) → ((span.place % span.count == 0) ≡ true → permits_of (with_range range ranges) kind span.place span.count ≡ true → Avoids range span)
      → access_stop ranges backed kind span m f ≡ access_stop (with_range range ranges) backed kind span m f
  access-same ranges kind span m f h =
      row-same (stop_if (not (span.place % span.count == 0)) (Trap m)) _ _
      (λ e. permit-same f _ (permits_of ranges kind span.place span.count) (permits_of (with_range range ranges) kind span.place span.count) (permits-with range ranges kind span.place span.count)
      (λ no granted. not-newly range ranges kind span.place span.count (h (stop-none (span.place % span.count == 0) (Trap m) e) granted) no granted))

  access-none : (ranges : List Range) (kind : Kind) (span : Span) (m f : TrapCause) → (span.place % span.count == 0) ≡ true → permits_of (with_range range ranges) kind span.place span.count ≡ true → access_stop (with_range range ranges) all_backed kind span m f ≡ None
  access-none ranges kind span m f e granted = none-row _ _ (none-stop _ _ e) (none-row _ _ (none-stop _ _ granted) refl)

  -- a stop before the instruction is read
  pub fetch-same : (layout : Layout) (cpu : Cpu) → (fetch_stop (widen range layout) all_backed cpu ≡ None → Avoids range (fetched cpu)) → fetch_stop layout backed cpu ≡ fetch_stop (widen range layout) backed cpu
  unfolding fetch_stop
  fetch-same layout cpu h =
      row-same (stop_if (not (cpu.pc % 4 == 0)) (Trap MisalignedPc)) _ _ (λ e1.
      row-same (stop_if (cpu.pc == exit_place) (call_of cpu (Function Exit))) _ _ (λ e2.
      row-same (option_map (call_of cpu) (call_at layout.calls cpu.pc)) _ _ (λ e3.
      permit-same ForbiddenFetch _ (permits_of layout.ranges Execute cpu.pc 4) (permits_of (with_range range layout.ranges) Execute cpu.pc 4) (permits-with range layout.ranges Execute cpu.pc 4)
      (λ no granted. not-newly range layout.ranges Execute cpu.pc 4 (h (none-row _ _ e1 (none-row _ _ e2 (none-row _ _ e3 (none-row _ _ (none-stop _ _ granted) refl))))) no granted))))

  -- a stop at the instruction
  instruction-same : (ranges : List Range) (cpu : Cpu) (instr : Instr) → (instruction_stop (with_range range ranges) all_backed cpu instr ≡ None → Avoids range (loads instr cpu) × Avoids range (stores instr cpu))
      → ((call : Call) → instruction_stop (with_range range ranges) all_backed cpu instr ≡ Some (Calls call) → is_atomic call.which ≡ true → (call.a0 % 4 == 0) ≡ true → Avoids range (record { place = call.a0; count = 4 }))
      → instruction_stop ranges backed cpu instr ≡ instruction_stop (with_range range ranges) backed cpu instr
  unfolding instruction_stop
  instruction-same ranges cpu (Lui rd imm) h k = refl
  instruction-same ranges cpu (Auipc rd imm) h k = refl
  instruction-same ranges cpu (Jal rd imm) h k = refl
  instruction-same ranges cpu (Jalr rd rs1 imm) h k = refl
  instruction-same ranges cpu (Branch op rs1 rs2 imm) h k = refl
  instruction-same ranges cpu (Load op rd rs1 imm) h k =
      access-same ranges Read (loads (Load op rd rs1 imm) cpu) MisalignedLoad ForbiddenLoad (λ e granted. (h (access-none ranges Read (loads (Load op rd rs1 imm) cpu) MisalignedLoad ForbiddenLoad e granted)).0)
  instruction-same ranges cpu (Store op rs1 rs2 imm) h k =
      access-same ranges Write (stores (Store op rs1 rs2 imm) cpu) MisalignedStore ForbiddenStore (λ e granted. (h (access-none ranges Write (stores (Store op rs1 rs2 imm) cpu) MisalignedStore ForbiddenStore e granted)).1)
  instruction-same ranges cpu (AluImm op rd rs1 imm) h k = refl
  instruction-same ranges cpu (Alu op rd rs1 rs2) h k = refl
  instruction-same ranges cpu (MulDiv op rd rs1 rs2) h k = refl
  instruction-same ranges cpu (Fence rd rs1 bits) h k = refl
  instruction-same ranges cpu (IsAtomic op rd rs1 rs2 order) h k =
      row-same (stop_if (not (register cpu rs1 % 4 == 0)) (Trap (misaligned_by op))) _ _
      (λ e. permit-same (forbidden_by op) _ (permits_atomic ranges op (register cpu rs1)) (permits_atomic (with_range range ranges) op (register cpu rs1)) (atomic-with range ranges op (register cpu rs1))
      (λ no granted. atomic-newly range ranges op (register cpu rs1) (k _ (some-row _ _ _ e (some-row _ _ _ (none-stop _ _ granted) refl)) refl (stop-none _ _ e)) no granted))
  instruction-same ranges cpu Ecall h k = refl
  instruction-same ranges cpu Ebreak h k = refl

  next_at-same : (ranges : List Range) (cpu : Cpu) (o : Option Instr) → ((instr : Instr) → o ≡ Some instr → instruction_stop (with_range range ranges) all_backed cpu instr ≡ None → Avoids range (loads instr cpu) × Avoids range (stores instr cpu))
      → ((instr : Instr) → o ≡ Some instr → (call : Call) → instruction_stop (with_range range ranges) all_backed cpu instr ≡ Some (Calls call) → is_atomic call.which ≡ true → (call.a0 % 4 == 0) ≡ true → Avoids range (record { place = call.a0; count = 4 }))
      → next_at ranges backed cpu o ≡ next_at (with_range range ranges) backed cpu o
  next_at-same ranges cpu None h k = refl
  next_at-same ranges cpu (Some instr) h k = ap (λ (s : Option Stop). unless_stop s (Executes instr)) (instruction-same ranges cpu instr (h instr refl) (k instr refl))

  -- a thread that avoids the range does what it did
  pub next-wider : (layout : Layout) (m : Memory) (cpu : Cpu) → (fetch_stop (widen range layout) all_backed cpu ≡ None → Avoids range (fetched cpu))
      → ((instr : Instr) → next (widen range layout) all_backed m cpu ≡ Executes instr → Avoids range (loads instr cpu) × Avoids range (stores instr cpu))
      → (fetch_stop (widen range layout) all_backed cpu ≡ None → (call : Call) → next (widen range layout) all_backed m cpu ≡ Stands (Calls call) → is_atomic call.which ≡ true → (call.a0 % 4 == 0) ≡ true → Avoids range (record { place = call.a0; count = 4 }))
      → next layout backed m cpu ≡ next (widen range layout) backed m cpu
  next-wider layout m cpu fetch access asks = by (fetch_stop layout backed cpu) refl
    where
      same : fetch_stop layout backed cpu ≡ fetch_stop (widen range layout) backed cpu
      same = fetch-same layout cpu fetch

      by : (o : Option Stop) → fetch_stop layout backed cpu ≡ o → next layout backed m cpu ≡ next (widen range layout) backed m cpu
      by (Some stop) e = next-stopped layout backed m cpu stop e ∙ sym (next-stopped (widen range layout) backed m cpu stop (sym same ∙ e))
      by None e =
          let read : fetch_stop (widen range layout) all_backed cpu ≡ None = fetched-with-all (widen range layout) backed cpu (sym same ∙ e) in
          next-fetched layout backed m cpu e
          ∙ (next_at-same layout.ranges cpu (instruction_of (number_at m cpu.pc 4)) (λ instr f g. access instr
          (next-fetched (widen range layout) all_backed m cpu read ∙ (ap (next_at (with_range range layout.ranges) all_backed cpu) f ∙ ap (λ (s : Option Stop). unless_stop s (Executes instr)) g)))
          (λ instr f call g. asks read call
          (next-fetched (widen range layout) all_backed m cpu read ∙ (ap (next_at (with_range range layout.ranges) all_backed cpu) f ∙ ap (λ (s : Option Stop). unless_stop s (Executes instr)) g)))
          ∙ sym (next-fetched (widen range layout) backed m cpu (sym same ∙ e)))
