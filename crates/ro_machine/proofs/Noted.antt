-- What a step did, by its code.
use Rattle.std.specs.Prelude.{◌≡◌, ◌⊎◌, ℕ, ◌+◌, ◌%◌, ◌^◌, ◌<◌, ◌≤◌, ◌||◌, ◌&&◌, not, cond, Bool, true, false, ◌==◌, List, [], ◌∷◌, length, nat_le, nat_lt, Option, Some, None, is_none, is_some, if◌then◌else◌}
use Rattle.std.specs.Option.{option_map, option_map_or}
use Rattle.std.proofs.Common.{refl, sym, ap, ap₂, ◌∙◌, subst, arith, inl, inr}
use Rattle.std.proofs.lemmas.Bool.{true≢false, false≢true, ltb-true, leb-true, le-leb, lt-ltb, eqb-true, and_parts, and_from}
use Rattle.ro_decode.specs.declared.Instr.{Instr}
use Rattle.ro_decode.specs.Table.{instruction_of}
use Rattle.ro_event.specs.declared.calls.Which.{Which}
use Rattle.ro_event.specs.declared.calls.Which.TheVariants.{Atomic}
use Rattle.ro_event.specs.declared.calls.Call.{Call}
use Rattle.ro_event.specs.declared.stops.Stop.{Stop}
use Rattle.ro_event.specs.declared.stops.Stop.TheVariants.{Calls, Trap, PageFault, Watchdog}
use Rattle.ro_event.specs.declared.traps.TrapCause.TheVariants.{NoInstruction}
use Rattle.ro_event.specs.Table.{call_at}
use Rattle.ro_region.specs.declared.Range.{Range}
use Rattle.ro_region.specs.declared.Kind.TheVariants.{Execute}
use Rattle.ro_region.specs.Permission.{permits_of}
use Rattle.ro_pages.specs.Bytes.{Memory, Span, within, number_at}
use Rattle.ro_exec.specs.declared.Cpu.{Cpu}
use Rattle.ro_exec.specs.Meaning.{loads, stores}
use Rattle.ro_exec.specs.Next.{Layout, all_backed, exit_place, Next, Stands, Executes, first, stop_if, fetch_stop, instruction_stop, unless_stop, next_at, next}
use Rattle.ro_exec.proofs.Frame.{next-fetched, next-stopped}
use Rattle.ro_kernel.specs.Kernel.{Setup, Kernel, ranges_in}
use Rattle.ro_kernel.specs.Serve.{Served, Done, Parked, Blocked, Ends, is_atomic, payload_span, asked, serve}
use Rattle.ro_kernel.proofs.Words.{of-word, word-of}
use Rattle.std.proofs.lemmas.Option.{option_and_then_some}
use Rattle.ro_plain.specs.Machine.{Program, setup_of, Machine, next_of, steppable, step, step_by, layout_in, payload_in, served_in}
use Rattle.ro_event.specs.Effects.{Effect}
use Rattle.ro_plain.specs.Accesses.{Accesses, fetches, accesses, accesses_by, are_apart, atomic_span, given_span, touches, stored_span}
use Rattle.ro_plain.specs.Order.{Nothing, sync_of, sync_next, sync_served}
use Rattle.ro_plain.proofs.Calls.{accesses-at, step-opens}
use Rattle.ro_machine.specs.declared.calls.Came.{Came}
use Rattle.ro_machine.specs.declared.watching.Stretch.{Stretch}
use Rattle.ro_machine.specs.declared.watching.Went.TheVariants.{Executed, Trapped, Called}
use Rattle.ro_machine.specs.declared.looking.Look.{Look}
use Rattle.ro_machine.specs.declared.watching.Relation.{Relation}
use Rattle.ro_machine.specs.declared.watching.Relation.TheVariants.{Nothing as IsNothing}
use Rattle.ro_machine.specs.Watched.{span_of, sync_of_relation, Tells, TellsLoaded, TellsNext, code_at, LooksAt, IsAsOne, Sees}

-- ---- what is known before a step

-- an instruction that is executed was read, and is what its word spells
pub record WasRead (layout : Layout) (memory : Memory) (cpu : Cpu) (instr : Instr) : Type 0 where
  pub fetched : fetch_stop layout all_backed cpu ≡ None
  pub spelled : instruction_of (number_at memory cpu.pc 4) ≡ Some instr

executes-same : (i j : Instr) → Executes i ≡ Executes j → i ≡ j
executes-same i j e = cc

pub was-read : (layout : Layout) (memory : Memory) (cpu : Cpu) (instr : Instr) → next layout all_backed memory cpu ≡ Executes instr → WasRead layout memory cpu instr
was-read layout memory cpu instr e = by (fetch_stop layout all_backed cpu) refl
  where
    word : (o : Option Instr) → next_at layout.ranges all_backed cpu o ≡ Executes instr → o ≡ Some instr
    word None f = absurd (let g : Stands (Trap NoInstruction) ≡ Executes instr = f in cc)
    word (Some other) f = at (instruction_stop layout.ranges all_backed cpu other) f
      where
        at : (o : Option Stop) → unless_stop o (Executes other) ≡ Executes instr → Some other ≡ Some instr
        at None g = ap Some (executes-same other instr g)
        at (Some stop) g = absurd (let h : Stands stop ≡ Executes instr = g in cc)

    by : (o : Option Stop) → fetch_stop layout all_backed cpu ≡ o → WasRead layout memory cpu instr
    by (Some stop) f = absurd (let g : Stands stop ≡ Executes instr = sym (next-stopped layout all_backed memory cpu stop f) ∙ e in cc)
    by None f = record { fetched = f; spelled = word (instruction_of (number_at memory cpu.pc 4)) (sym (next-fetched layout all_backed memory cpu f) ∙ e) }

-- whether an instruction is read, by its four conditions
rows : (a b p : Bool) (o : Option Which) (f : Which → Stop) (s t u v : Stop) → is_none (first (stop_if (not a) s ∷ stop_if b t ∷ option_map f o ∷ stop_if (not p) u ∷ stop_if false v ∷ [])) ≡ (a && (not b && (is_none o && p)))
rows false b p o f s t u v = refl
rows true true p o f s t u v = refl
rows true false p (Some which) f s t u v = refl
rows true false true None f s t u v = refl
rows true false false None f s t u v = refl

pub is-read : (layout : Layout) (cpu : Cpu) → is_none (fetch_stop layout all_backed cpu) ≡ ((cpu.pc % 4 == 0) && (not (cpu.pc == exit_place) && (is_none (call_at layout.calls cpu.pc) && permits_of layout.ranges Execute cpu.pc 4)))
unfolding fetch_stop
is-read layout cpu = rows (cpu.pc % 4 == 0) (cpu.pc == exit_place) (permits_of layout.ranges Execute cpu.pc 4) (call_at layout.calls cpu.pc) _ _ _ _ (PageFault 0)

eq-false : (m n : ℕ) → (m ≡ n → ⊥) → (m == n) ≡ false
eq-false m n h = by (m == n) refl
  where
    by : (b : Bool) → (m == n) ≡ b → (m == n) ≡ false
    by false e = e
    by true e = absurd (h (eqb-true m n e))

eq-true : (m n : ℕ) → m ≡ n → (m == n) ≡ true
eq-true m n h = by (m == n) refl
  where
    by : (b : Bool) → (m == n) ≡ b → (m == n) ≡ true
    by true e = e
    by false e = absurd (grind (arith, e, h))

none-some : (o : Option Which) → is_some o ≡ true → is_none o ≡ false
none-some None h = absurd (false≢true h)
none-some (Some which) h = refl

none-none : (o : Option Which) → is_some o ≡ false → is_none o ≡ true
none-none None h = refl
none-none (Some which) h = absurd (true≢false h)

module _ (layout : Layout) (cpu : Cpu) where
  pub unread-place : (cpu.pc % 4 ≡ 0 → ⊥) → false ≡ is_none (fetch_stop layout all_backed cpu)
  unread-place h = sym (is-read layout cpu ∙ ap (λ a. a && (not (cpu.pc == exit_place) && (is_none (call_at layout.calls cpu.pc) && permits_of layout.ranges Execute cpu.pc 4))) (eq-false (cpu.pc % 4) 0 h))

  pub unread-exit : cpu.pc % 4 ≡ 0 → cpu.pc ≡ exit_place → false ≡ is_none (fetch_stop layout all_backed cpu)
  unread-exit g h = sym (is-read layout cpu ∙ (ap (λ a. a && (not (cpu.pc == exit_place) && (is_none (call_at layout.calls cpu.pc) && permits_of layout.ranges Execute cpu.pc 4))) (eq-true (cpu.pc % 4) 0 g) ∙ ap (λ b. not b && (is_none (call_at layout.calls cpu.pc) && permits_of layout.ranges Execute cpu.pc 4)) (eq-true cpu.pc exit_place h)))

  module _ (g : cpu.pc % 4 ≡ 0) (h : cpu.pc ≡ exit_place → ⊥) (o : Option Which) (found : o ≡ call_at layout.calls cpu.pc) where
    so-far : is_none (fetch_stop layout all_backed cpu) ≡ (is_none o && permits_of layout.ranges Execute cpu.pc 4)
    so-far =
        is-read layout cpu
        ∙ (ap (λ a. a && (not (cpu.pc == exit_place) && (is_none (call_at layout.calls cpu.pc) && permits_of layout.ranges Execute cpu.pc 4))) (eq-true (cpu.pc % 4) 0 g)
        ∙ (ap (λ b. not b && (is_none (call_at layout.calls cpu.pc) && permits_of layout.ranges Execute cpu.pc 4)) (eq-false cpu.pc exit_place h)
        ∙ ap (λ x. is_none x && permits_of layout.ranges Execute cpu.pc 4) (sym found)))

    pub unread-call : is_some o ≡ true → false ≡ is_none (fetch_stop layout all_backed cpu)
    unread-call e = sym (so-far ∙ ap (λ b. b && permits_of layout.ranges Execute cpu.pc 4) (none-some o e))

    pub read-permitted : is_some o ≡ false → (p : Bool) → p ≡ permits_of layout.ranges Execute cpu.pc 4 → p ≡ is_none (fetch_stop layout all_backed cpu)
    read-permitted e p q = q ∙ sym (so-far ∙ ap (λ b. b && permits_of layout.ranges Execute cpu.pc 4) (none-none o e))

-- ---- bytes

pub in-none : (place a : ℕ) → within (record { place = place; count = 0 }) a ≡ false
in-none place a = by (within (record { place = place; count = 0 }) a) refl
  where
    by : (b : Bool) → within (record { place = place; count = 0 }) a ≡ b → within (record { place = place; count = 0 }) a ≡ false
    by false e = e
    by true e =
        let low = leb-true place a (and_parts (nat_le place a) (nat_lt a (place + 0)) e).0 in
        let high = ltb-true a (place + 0) (and_parts (nat_le place a) (nat_lt a (place + 0)) e).1 in
        absurd (omega (arith, low, high))

or-none : (b : Bool) → (b || false) ≡ b
or-none true = refl
or-none false = refl

-- one stretch
pub touches-one : (span : Span) (a : ℕ) → touches (span ∷ []) a ≡ within span a
touches-one span a = or-none (within span a)

-- no bytes
abbrev pub no_bytes : Stretch
no_bytes = record { place = 0; count = 0 }

module _ (layout : Layout) (memory : Memory) (cpu : Cpu) where
  code-of : (b : Bool) → is_none (fetch_stop layout all_backed cpu) ≡ b → code_at layout cpu ≡ (if b then record { place = cpu.pc; count = 4 } ∷ [] else [])
  code-of b e = ap (λ (x : Bool). if x then record { place = cpu.pc; count = 4 } ∷ [] else []) e

  -- a step that reads no instruction
  pub look-unread : false ≡ is_none (fetch_stop layout all_backed cpu) → LooksAt layout memory cpu (record { pc = cpu.pc; code = no_bytes; loads = no_bytes; stores = no_bytes })
  look-unread h = record {
    pc = refl;
    code = λ a. in-none 0 a ∙ sym (ap (λ xs. touches xs a) (code-of false (sym h)));
    loads_are = λ instr e. absurd (true≢false (ap is_none (sym (was-read layout memory cpu instr e).fetched) ∙ sym h));
    stores_are = λ instr e. absurd (true≢false (ap is_none (sym (was-read layout memory cpu instr e).fetched) ∙ sym h));
    code_few = omega arith;
    loads_few = omega arith;
    stores_few = omega arith;
    stores_at = omega arith;
  }

  -- one that reads an instruction
  pub look-read : (look : Look) → look.pc ≡ cpu.pc → true ≡ is_none (fetch_stop layout all_backed cpu) → span_of look.code ≡ record { place = cpu.pc; count = 4 } → ((instr : Instr) → instruction_of (number_at memory cpu.pc 4) ≡ Some instr → span_of look.loads ≡ loads instr cpu) → ((instr : Instr) → instruction_of (number_at memory cpu.pc 4) ≡ Some instr → span_of look.stores ≡ stores instr cpu)
      → look.loads.count ≤ 4 → look.stores.count ≤ 4 → look.stores.place < 2 ^ 32 → LooksAt layout memory cpu look
  look-read look pc h code loaded stored few fewer at = record {
    pc = pc;
    code = λ a. ap (λ (s : Span). within s a) code ∙ sym (ap (λ xs. touches xs a) (code-of true (sym h)) ∙ touches-one (record { place = cpu.pc; count = 4 }) a);
    loads_are = λ instr e. loaded instr (was-read layout memory cpu instr e).spelled;
    stores_are = λ instr e. stored instr (was-read layout memory cpu instr e).spelled;
    code_few = (let e : look.code.count ≡ 4 = ap (λ (s : Span). s.count) code in omega (arith, e));
    loads_few = few;
    stores_few = fewer;
    stores_at = at;
  }

-- ---- what a call came to

pub tells-done : (served : Served) (kernel : Kernel) (effect : Effect) (call : Call) (answer : Option ℕ) (loaded stored : Stretch) (stores : Bool) → served ≡ Done kernel effect → answer ≡ effect.answer → ((a : ℕ) → within (span_of stored) a ≡ touches (stored_span (Done kernel effect)) a) → stored.place + stored.count ≤ 2 ^ 32 + 4096 → stores ≡ nat_lt 0 (length effect.bytes) → Tells served call (record { call = call; how = None; answer = answer; loaded = loaded; stored = stored; stores = stores; parked = false })
tells-done served kernel effect call answer loaded stored stores e d f low some = subst (λ (s : Served). Tells s call (record { call = call; how = None; answer = answer; loaded = loaded; stored = stored; stores = stores; parked = false })) (sym e) (refl, refl, d, f, low, refl, some)

-- ---- the word of an atomic instruction

or-either : (a b : Bool) → (a || b) ≡ true → (a ≡ true) ⊎ (b ≡ true)
or-either true b h = inl refl
or-either false b h = inr h

in-bounds : (place count a : ℕ) → within (record { place = place; count = count }) a ≡ true → (place ≤ a) × (a < place + count)
in-bounds place count a h =
    let p = and_parts (nat_le place a) (nat_lt a (place + count)) h in (leb-true place a p.0, ltb-true a (place + count) p.1)

first-in : (s : Stretch) → 0 < s.count → within (span_of s) s.place ≡ true
first-in s some = and_from (nat_le s.place s.place) (nat_lt s.place (s.place + s.count)) (le-leb _ _ (omega arith)) (lt-ltb _ _ (omega arith))

none-some-bytes : 0 < no_bytes.count → ⊥
none-some-bytes some = omega (arith, some)

-- what a call is found to have loaded is its word
loaded-word : (ranges : List Range) (call : Call) (word : ℕ) → call.which ≡ Atomic word → (a : ℕ) → within (payload_span ranges call) a ≡ true → within (record { place = call.a0; count = 4 }) a ≡ true
loaded-word ranges call word e a h = by (call.a0 % 4 == 0) (ap (λ (w : Which). within (payload_span ranges (record call { which = w })) a) (sym e) ∙ h)
  where
    by : (b : Bool) → within (cond b (record { place = call.a0; count = 4 }) (record { place = 0; count = 0 })) a ≡ true → within (record { place = call.a0; count = 4 }) a ≡ true
    by true f = f
    by false f = absurd (true≢false (sym f ∙ in-none 0 a))

-- and so is what it stored
stored-done : (place : ℕ) (bytes : List ℕ) (range : Option Range) (address a : ℕ) → range ≡ None → (bytes ≡ []) ⊎ ((place ≡ address) × (length bytes ≡ 4)) → touches (record { place = place; count = length bytes } ∷ given_span range) a ≡ true → within (record { place = address; count = 4 }) a ≡ true
stored-done place bytes range address a none which h = by which (sym (touches-one (record { place = place; count = length bytes }) a) ∙ (ap (λ (r : Option Range). touches (record { place = place; count = length bytes } ∷ given_span r) a) (sym none) ∙ h))
  where
    by : (bytes ≡ []) ⊎ ((place ≡ address) × (length bytes ≡ 4)) → within (record { place = place; count = length bytes }) a ≡ true → within (record { place = address; count = 4 }) a ≡ true
    by (inl e) f = absurd (true≢false (sym f ∙ (ap (λ (xs : List ℕ). within (record { place = place; count = length xs }) a) e ∙ in-none place a)))
    by (inr e) f = sym (ap₂ (λ (p n : ℕ). within (record { place = p; count = n }) a) e.0 e.1) ∙ f

stored-word : (setup : Setup) (kernel : Kernel) (thread : ℕ) (call : Call) (payload : List ℕ) (word : ℕ) → call.which ≡ Atomic word → (served : Served) → serve setup kernel thread (asked call payload) ≡ served → (came : Came) → Tells served call came → (a : ℕ) → within (span_of came.stored) a ≡ true → within (record { place = call.a0; count = 4 }) a ≡ true
stored-word setup kernel thread call payload word e (Done after effect) f came h a w =
    let of = of-word setup kernel thread (asked call payload) word after effect e f in
    stored-done effect.place effect.bytes effect.range call.a0 a of.0 of.2 (sym (h.3 a) ∙ w)
stored-word setup kernel thread call payload word e (Parked after) f came h a w = absurd (true≢false (sym w ∙ (ap (λ (n : ℕ). within (record { place = came.stored.place; count = n }) a) h.3 ∙ in-none came.stored.place a)))
stored-word setup kernel thread call payload word e Blocked f came h a w = absurd h
stored-word setup kernel thread call payload word e (Ends after how) f came h a w = absurd (true≢false (sym w ∙ (ap (λ (n : ℕ). within (record { place = came.stored.place; count = n }) a) h.3 ∙ in-none came.stored.place a)))

-- an instruction that lies elsewhere has no byte of it
apart-false : (word pc a : ℕ) → are_apart word pc ≡ true → within (record { place = pc; count = 4 }) a ≡ true → within (record { place = word; count = 4 }) a ≡ false
apart-false word pc a h f = by (within (record { place = word; count = 4 }) a) refl
  where
    either : (nat_lt (word + 3) pc ≡ true) ⊎ (nat_lt (pc + 3) word ≡ true) → (word ≤ a) × (a < word + 4) → (pc ≤ a) × (a < pc + 4) → ⊥
    either (inl l) m n = let less = ltb-true _ _ l in omega (arith, less, m.0, m.1, n.0, n.1)
    either (inr l) m n = let less = ltb-true _ _ l in omega (arith, less, m.0, m.1, n.0, n.1)

    by : (b : Bool) → within (record { place = word; count = 4 }) a ≡ b → within (record { place = word; count = 4 }) a ≡ false
    by false e = e
    by true e = absurd (either (or-either (nat_lt (word + 3) pc) (nat_lt (pc + 3) word) h) (in-bounds word 4 a e) (in-bounds pc 4 a f))

code-apart : (layout : Layout) (cpu : Cpu) (word : ℕ) → are_apart word cpu.pc ≡ true → (a : ℕ) → touches (code_at layout cpu) a ≡ true → within (record { place = word; count = 4 }) a ≡ false
code-apart layout cpu word h a f = by (is_none (fetch_stop layout all_backed cpu)) f
  where
    by : (b : Bool) → touches (cond b (record { place = cpu.pc; count = 4 } ∷ []) []) a ≡ true → within (record { place = word; count = 4 }) a ≡ false
    by true g = apart-false word cpu.pc a h (sym (touches-one (record { place = cpu.pc; count = 4 }) a) ∙ g)
    by false g = absurd (false≢true g)

-- ---- what a step did

module _ (program : Program) (machine : Machine) (thread : ℕ) (cpu : Cpu) (live : steppable machine thread ≡ Some cpu) (look : Look) (looks : LooksAt (layout_in program machine.kernel) machine.memory cpu look) (known : thread < 16) where
  accesses-are : (n : Next) → next_of program machine cpu ≡ n → accesses program machine thread ≡ accesses_by program machine thread cpu n
  accesses-are n e = accesses-at program machine thread cpu live ∙ ap (accesses_by program machine thread cpu) e

  sync-is : (n : Next) → next_of program machine cpu ≡ n → sync_of program machine thread ≡ sync_next program machine thread cpu n
  unfolding sync_of
  sync-is n e =
      ap (λ o. option_map_or (λ cpu. sync_next program machine thread cpu (next_of program machine cpu)) o Nothing) live
      ∙ ap (sync_next program machine thread cpu) e

  fetches-are : (a : ℕ) → touches (fetches (layout_in program machine.kernel) cpu) a ≡ within (span_of look.code) a
  fetches-are a = sym (looks.code a)

  code-little : look.code.count ≤ 4096
  code-little = let e = looks.code_few in omega arith

  pub sees-executed : TellsNext program machine thread (next_of program machine cpu) Executed → Sees program machine thread (record { loaded = look.loads; code = look.code; stored = look.stores; atomic = no_bytes; relation = IsNothing })
  sees-executed told = by (next_of program machine cpu) refl told
    where
      by : (n : Next) → next_of program machine cpu ≡ n → TellsNext program machine thread n Executed → Sees program machine thread (record { loaded = look.loads; code = look.code; stored = look.stores; atomic = no_bytes; relation = IsNothing })
      by (Executes instr) e h = record {
        reads = λ a. ap (λ (x : Accesses). touches x.reads a) (accesses-are (Executes instr) e) ∙ ap₂ (λ (s : Span) (b : Bool). within s a || b) (sym (looks.loads_are instr e)) (fetches-are a);
        writes = λ a. ap (λ (x : Accesses). touches x.writes a) (accesses-are (Executes instr) e) ∙ (touches-one (stores instr cpu) a ∙ ap (λ (s : Span). within s a) (sym (looks.stores_are instr e)));
        atomic = λ a. ap (λ (x : Accesses). touches x.atomic a) (accesses-are (Executes instr) e) ∙ sym (in-none 0 a);
        as_one = λ some. absurd (none-some-bytes some);
        means = sync-is (Executes instr) e;
        loaded_few = (let f = looks.loads_few in omega arith);
        code_few = code-little;
        stored_low = (let f = looks.stores_few in let p = looks.stores_at in omega arith);
        known_thread = known;
      }
      by (Stands (Calls call)) e h = absurd h
      by (Stands (Trap code)) e h = absurd h
      by (Stands (PageFault page)) e h = absurd h
      by (Stands Watchdog) e h = absurd h

  pub sees-trapped : TellsNext program machine thread (next_of program machine cpu) Trapped → Sees program machine thread (record { loaded = no_bytes; code = look.code; stored = no_bytes; atomic = no_bytes; relation = IsNothing })
  sees-trapped told = by (next_of program machine cpu) refl told
    where
      by : (n : Next) → next_of program machine cpu ≡ n → TellsNext program machine thread n Trapped → Sees program machine thread (record { loaded = no_bytes; code = look.code; stored = no_bytes; atomic = no_bytes; relation = IsNothing })
      by (Executes instr) e h = absurd (let f : Trapped ≡ Executed = h in cc)
      by (Stands (Calls call)) e h = absurd h
      by (Stands (Trap code)) e h = record {
        reads = λ a. ap (λ (x : Accesses). touches x.reads a) (accesses-are (Stands (Trap code)) e) ∙ ap₂ (λ (x y : Bool). x || y) (sym (in-none 0 a)) (fetches-are a);
        writes = λ a. ap (λ (x : Accesses). touches x.writes a) (accesses-are (Stands (Trap code)) e) ∙ sym (in-none 0 a);
        atomic = λ a. ap (λ (x : Accesses). touches x.atomic a) (accesses-are (Stands (Trap code)) e) ∙ sym (in-none 0 a);
        as_one = λ some. absurd (none-some-bytes some);
        means = sync-is (Stands (Trap code)) e;
        loaded_few = omega arith;
        code_few = code-little;
        stored_low = omega arith;
        known_thread = known;
      }
      by (Stands (PageFault page)) e h = absurd h
      by (Stands Watchdog) e h = absurd h

  stored-are : (served : Served) (call : Call) (came : Came) → Tells served call came → (a : ℕ) → touches (stored_span served) a ≡ within (span_of came.stored) a
  stored-are (Done kernel effect) call came h a = sym (h.3 a)
  stored-are (Parked kernel) call came h a = sym (ap (λ (c : ℕ). within (record { place = came.stored.place; count = c }) a) h.3 ∙ in-none came.stored.place a)
  stored-are Blocked call came h a = absurd h
  stored-are (Ends kernel how) call came h a = sym (ap (λ (c : ℕ). within (record { place = came.stored.place; count = c }) a) h.3 ∙ in-none came.stored.place a)

  stored-low : (served : Served) (call : Call) (came : Came) → Tells served call came → came.stored.place + came.stored.count ≤ 2 ^ 32 + 4096
  stored-low (Done kernel effect) call came h = h.4
  stored-low (Parked kernel) call came h = let at = h.2 in let e = h.3 in omega arith
  stored-low Blocked call came h = absurd h
  stored-low (Ends kernel how) call came h = let at = h.2 in let e = h.3 in omega arith

  call-same : (served : Served) (call : Call) (came : Came) → Tells served call came → came.call ≡ call
  call-same (Done kernel effect) call came h = h.0
  call-same (Parked kernel) call came h = h.0
  call-same Blocked call came h = absurd h
  call-same (Ends kernel how) call came h = h.0

  -- ---- what a call accesses as one

  module _ (call : Call) (atomic : Stretch) (spans : (a : ℕ) → touches (atomic_span cpu call) a ≡ within (span_of atomic) a) where
    is-word : 0 < atomic.count → (is_atomic call.which && are_apart call.a0 cpu.pc) ≡ true
    is-word some = by (is_atomic call.which && are_apart call.a0 cpu.pc) refl (spans atomic.place ∙ first-in atomic some)
      where
        by : (b : Bool) → (is_atomic call.which && are_apart call.a0 cpu.pc) ≡ b → touches (cond b (record { place = call.a0; count = 4 } ∷ []) []) atomic.place ≡ true → (is_atomic call.which && are_apart call.a0 cpu.pc) ≡ true
        by true e h = e
        by false e h = absurd (false≢true h)

    word-in : (is_atomic call.which && are_apart call.a0 cpu.pc) ≡ true → (a : ℕ) → within (record { place = call.a0; count = 4 }) a ≡ within (span_of atomic) a
    word-in e a =
        sym (touches-one (record { place = call.a0; count = 4 }) a)
        ∙ (ap (λ (b : Bool). touches (cond b (record { place = call.a0; count = 4 } ∷ []) []) a) (sym e)
        ∙ spans a)

    -- it is all that an atomic instruction reads and writes besides its instruction
    as-one : (came : Came) (code : Stretch) (relation : Relation) → ((a : ℕ) → within (span_of code) a ≡ touches (code_at (layout_in program machine.kernel) cpu) a)
        → Tells (served_in program machine thread call) call came → TellsLoaded (ranges_in (setup_of program) machine.kernel) call came → 0 < atomic.count
        → IsAsOne (record { loaded = came.loaded; code = code; stored = came.stored; atomic = atomic; relation = relation })
    as-one came code relation coded tells loads some =
        let both = is-word some in
        let parts = and_parts (is_atomic call.which) (are_apart call.a0 cpu.pc) both in
        let word = word-of call.which parts.0 in
        record {
          loads = λ a h. sym (word-in both a) ∙ loaded-word (ranges_in (setup_of program) machine.kernel) call word.0 word.1 a (ap (λ (s : Span). within s a) (sym loads.bytes) ∙ h);
          stores = λ a h. sym (word-in both a) ∙ stored-word (setup_of program) machine.kernel thread call (payload_in program machine call) word.0 word.1 (served_in program machine thread call) refl came tells a h;
          apart = λ a h. sym (word-in both a) ∙ code-apart (layout_in program machine.kernel) cpu call.a0 parts.1 a (sym (coded a) ∙ h);
        }

  pub sees-called : (came : Came) (atomic : Stretch) (relation : Relation) → TellsNext program machine thread (next_of program machine cpu) (Called came)
      → ((a : ℕ) → touches (atomic_span cpu came.call) a ≡ within (span_of atomic) a)
      → ((served : Served) → Tells served came.call came → sync_of_relation relation ≡ sync_served machine cpu came.call served)
      → Sees program machine thread (record { loaded = came.loaded; code = look.code; stored = came.stored; atomic = atomic; relation = relation })
  sees-called came atomic relation told spans means = by (next_of program machine cpu) refl told
    where
      at : (call : Call) → next_of program machine cpu ≡ Stands (Calls call) → Tells (served_in program machine thread call) call came → TellsLoaded (ranges_in (setup_of program) machine.kernel) call came → came.call ≡ call → Sees program machine thread (record { loaded = came.loaded; code = look.code; stored = came.stored; atomic = atomic; relation = relation })
      at call e h loaded same =
          let own : (a : ℕ) → touches (atomic_span cpu call) a ≡ within (span_of atomic) a = λ a. ap (λ (c : Call). touches (atomic_span cpu c) a) (sym same) ∙ spans a in
          record {
            reads = λ a. ap (λ (x : Accesses). touches x.reads a) (accesses-are (Stands (Calls call)) e) ∙ ap₂ (λ (s : Span) (b : Bool). within s a || b) (sym loaded.bytes) (fetches-are a);
            writes = λ a. ap (λ (x : Accesses). touches x.writes a) (accesses-are (Stands (Calls call)) e) ∙ stored-are (served_in program machine thread call) call came h a;
            atomic = λ a. ap (λ (x : Accesses). touches x.atomic a) (accesses-are (Stands (Calls call)) e) ∙ own a;
            as_one = as-one call atomic own came look.code relation looks.code h loaded;
            means = sync-is (Stands (Calls call)) e ∙ (ap (λ (c : Call). sync_served machine cpu c (served_in program machine thread call)) (sym same) ∙ sym (means (served_in program machine thread call) (subst (λ (c : Call). Tells (served_in program machine thread call) c came) (sym same) h)));
            loaded_few = loaded.few;
            code_few = code-little;
            stored_low = stored-low (served_in program machine thread call) call came h;
            known_thread = known;
          }

      by : (n : Next) → next_of program machine cpu ≡ n → TellsNext program machine thread n (Called came) → Sees program machine thread (record { loaded = came.loaded; code = look.code; stored = came.stored; atomic = atomic; relation = relation })
      by (Executes instr) e h = absurd (let f : Called came ≡ Executed = h in cc)
      by (Stands (Calls call)) e h = at call e h.0 h.1 (call-same (served_in program machine thread call) call came h.0)
      by (Stands (Trap code)) e h = absurd h
      by (Stands (PageFault page)) e h = absurd h
      by (Stands Watchdog) e h = absurd h

-- a step that there is, is of a thread with registers
pub from-step : (program : Program) (machine : Machine) (thread : ℕ) (after : Machine) (P : Type 0) → step program machine thread ≡ Some after → ((cpu : Cpu) → steppable machine thread ≡ Some cpu → P) → P
from-step program machine thread after P e f =
    option_and_then_some (λ cpu. step_by program machine thread cpu (next_of program machine cpu)) (steppable machine thread) after (step-opens program machine thread after e) (λ cpu live g. f cpu live)
