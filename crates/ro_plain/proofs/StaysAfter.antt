-- In a program without races, what a thread does next stays the same while another thread takes any step, a call too.
use Rattle.std.specs.Prelude.{◌≡◌, ◌≢◌, ◌⊎◌, ℕ, suc, ◌+◌, ◌%◌, ◌<◌, ◌≤◌, Bool, true, false, not, ◌&&◌, ◌||◌, ◌==◌, nat_lt, nat_le, cond, List, [], ◌∷◌, ◌++◌, length, Option, Some, None, is_none, slice_get}
use Rattle.std.specs.Option.{option_and_then, option_map_or}
use Rattle.std.proofs.Common.{refl, sym, ap, ap₂, ◌∙◌, subst, arith, inl, inr, ⊎_elim, length-append}
use Rattle.std.proofs.lemmas.Option.{slice_get_within, option_and_then_some}
use Rattle.std.proofs.lemmas.Bool.{true≢false, and_parts, and_from, leb-true, ltb-true, eqb-true, eq-eqb, or_cases}
use Rattle.ro_decode.specs.declared.AtomicOp.{AtomicOp}
use Rattle.ro_decode.specs.declared.AtomicOp.TheVariants.{LoadReserved}
use Rattle.ro_decode.specs.Table.{atomic_in}
use Rattle.ro_decode.specs.declared.Instr.{Instr}
use Rattle.ro_event.specs.declared.calls.Which.{Which}
use Rattle.ro_event.specs.declared.calls.Which.TheVariants.{System, Function, Atomic}
use Rattle.ro_event.specs.declared.functions.Function.TheVariants.{Create, Join, Lock, TryLock, Unlock, Wait}
use Rattle.ro_event.specs.declared.calls.Call.{Call}
use Rattle.ro_event.specs.Effects.{Effect}
use Rattle.ro_event.specs.declared.stops.Stop.{Stop}
use Rattle.ro_event.specs.declared.stops.Stop.TheVariants.{Calls, Trap, PageFault, Watchdog}
use Rattle.ro_region.specs.declared.Range.{Range}
use Rattle.ro_pages.specs.Bytes.{Memory, Span, within}
use Rattle.ro_kernel.specs.declared.Life.{Life}
use Rattle.ro_kernel.specs.Kernel.{Kernel, ranges_in, live_option}
use Rattle.ro_kernel.specs.Serve.{Served, Done, Parked, Blocked, Ends, capped, is_write, is_good_write, is_atomic, payload_span, asked}
use Rattle.ro_kernel.proofs.Kept.{IsServed, is_done, is_end, system-served, atomic-served}
use Rattle.ro_kernel.proofs.Words.{of-word}
use Rattle.ro_exec.specs.declared.Cpu.{Cpu}
use Rattle.ro_exec.specs.Meaning.{loads, stores}
use Rattle.ro_exec.specs.Next.{Layout, Backed, all_backed, Next, Stands, Executes, fetch_stop, unless_stop, next_at, next}
use Rattle.ro_exec.proofs.Frame.{fetched, next-agree, next-stopped, next-fetched}
use Rattle.ro_plain.specs.Machine.{Program, setup_of, layout_in, payload_in, served_in, Machine, opening, step_by, next_of, steppable, step, run, IsExecution}
use Rattle.ro_plain.specs.Accesses.{Accesses, no_access, fetches, given_span, stored_span, are_apart, accesses_by, accesses, touches, conflict_at}
use Rattle.ro_plain.specs.Order.{Sync, Unlocks, Locks, Makes, Joins, Exits, Updates, Observes, Nothing, is_zero, sync_by, is_exit, word_sync, sync_done, sync_served, sync_next, is_on_word, sync_of, machine_at, sync_at, accesses_at, HappensBefore, in_thread, by_mutex, by_word, by_creation, by_join, chain, RaceFree}
use Rattle.ro_plain.proofs.Separate.{writes-writes, writes-reads, touches-first, touches-later, AgreeOn, AgreeOn-first}
use Rattle.ro_plain.proofs.Calls.{some-injective, steppable-parts, Keeps, step_by-keeps, fetches-agree, accesses-at, step-at, step-opens}
use Rattle.ro_plain.proofs.Swap.{run-append, take-seam, slice_get-seam, slice_get-second, take-second, at-both}
use Rattle.ro_plain.proofs.Exists.{HasStep, IsPassable, no_stop, a_trap, a_system_call, an_atomic, instruction-passable, fetched-step}
use Rattle.ro_plain.proofs.Unordered.{happens-later}
use Rattle.ro_exec.proofs.MorePages.{fetched-with-all}
use Rattle.ro_plain.proofs.Wider.{widen, layout-widens, fetched-wider, Avoids, next-wider}

-- the stretch of an instruction that is read
agree-fetched : (m n : Memory) (cpu : Cpu) (o : Option Stop) → o ≡ None → AgreeOn m n (cond (is_none o) (fetched cpu ∷ []) []) → AgreeOn m n (fetched cpu ∷ [])
agree-fetched m n cpu o e h = subst (λ (p : Option Stop). AgreeOn m n (cond (is_none p) (fetched cpu ∷ []) [])) e h

and-second : (b c : Bool) → c ≡ false → (b && c) ≡ false
and-second true c h = h
and-second false c h = refl

-- what a thread does next with some pages backed is the same where the memories agree on what it fetches
pub next-same-with : (layout : Layout) (backed : Backed) (m n : Memory) (cpu : Cpu) → AgreeOn m n (fetches layout cpu) → next layout backed m cpu ≡ next layout backed n cpu
next-same-with layout backed m n cpu h = by (fetch_stop layout backed cpu) refl
  where
    by : (o : Option Stop) → fetch_stop layout backed cpu ≡ o → next layout backed m cpu ≡ next layout backed n cpu
    by (Some stop) e = next-stopped layout backed m cpu stop e ∙ sym (next-stopped layout backed n cpu stop e)
    by None e = next-agree layout backed m n cpu (AgreeOn-first m n (fetched cpu) [] (agree-fetched m n cpu _ (fetched-with-all layout backed cpu e) h))

-- what cannot be true is false
not-true : (b : Bool) → (b ≡ true → ⊥) → b ≡ false
not-true true h = absurd (h refl)
not-true false h = refl

-- two words that are apart have no byte in common
within-first : (span : Span) (a : ℕ) → touches (span ∷ []) a ≡ true → (span.place ≤ a) × (a < span.place + span.count)
within-first span a h =
    let parts = and_parts (nat_le span.place a) (nat_lt a (span.place + span.count)) (or_none _ h) in (leb-true _ _ parts.0, ltb-true _ _ parts.1)
  where
    or_none : (b : Bool) → (b || false) ≡ true → b ≡ true
    or_none true e = refl
    or_none false e = e

apart-words : (word other a : ℕ) → are_apart word other ≡ true → touches (record { place = word; count = 4 } ∷ []) a ≡ true → touches (record { place = other; count = 4 } ∷ []) a ≡ true → ⊥
apart-words word other a apart h k =
    let one = within-first (record { place = word; count = 4 }) a h in
    let two = within-first (record { place = other; count = 4 }) a k in
    ⊎_elim
    (λ (l : nat_lt (word + 3) other ≡ true). let low : word + 3 < other = ltb-true _ _ l in let p = one.1 in let q = two.0 in absurd (omega arith))
    (λ (l : nat_lt (other + 3) word ≡ true). let low : other + 3 < word = ltb-true _ _ l in let p = one.0 in let q = two.1 in absurd (omega arith))
    (or_cases (nat_lt (word + 3) other) (nat_lt (other + 3) word) apart)

-- ---- what the two steps mean for the order

-- what an instruction that is read may mean: nothing, or an access to a word
pub data IsOfFetched : Sync → Type 0 where
  of_nothing : IsOfFetched Nothing
  of_update : {word : ℕ} → IsOfFetched (Updates word)
  of_look : {word : ℕ} → IsOfFetched (Observes word)

fetched-cond : (b : Bool) (x y : Sync) → IsOfFetched x → IsOfFetched y → IsOfFetched (cond b x y)
fetched-cond true x y p q = p
fetched-cond false x y p q = q

fetched-word : (address : ℕ) (bytes : List ℕ) (op : Option AtomicOp) → IsOfFetched (word_sync address bytes op)
fetched-word address bytes (Some LoadReserved) = of_look
fetched-word address [] op = of_nothing
fetched-word address (byte ∷ bytes) op = of_update

-- a system call orders nothing
system-means : (machine : Machine) (cpu : Cpu) (call : Call) (number : ℕ) (served : Served) → IsServed served → call.which ≡ System number → IsOfFetched (sync_served machine cpu call served)
system-means machine cpu call number (Done kernel effect) is_done e =
    subst (λ (w : Which). IsOfFetched (sync_done machine cpu call effect w)) (sym e) (fetched-cond (is_zero effect.answer) _ _ of_nothing of_nothing)
system-means machine cpu call number (Ends kernel how) is_end e = subst (λ (w : Which). IsOfFetched (cond (is_exit w) Exits Nothing)) (sym e) of_nothing
system-means machine cpu call number (Parked kernel) h e = elim h [ ]
system-means machine cpu call number Blocked h e = elim h [ ]

-- an atomic instruction accesses its word
atomic-means : (machine : Machine) (cpu : Cpu) (call : Call) (word : ℕ) (served : Served) → IsServed served → call.which ≡ Atomic word → IsOfFetched (sync_served machine cpu call served)
atomic-means machine cpu call word (Done kernel effect) is_done e =
    subst (λ (w : Which). IsOfFetched (sync_done machine cpu call effect w)) (sym e)
    (fetched-cond (are_apart call.a0 cpu.pc) _ _ (fetched-word call.a0 effect.bytes (atomic_in word)) of_nothing)
atomic-means machine cpu call word (Ends kernel how) is_end e = subst (λ (w : Which). IsOfFetched (cond (is_exit w) Exits Nothing)) (sym e) of_nothing
atomic-means machine cpu call word (Parked kernel) h e = elim h [ ]
atomic-means machine cpu call word Blocked h e = elim h [ ]

-- a plain instruction or a trap means nothing
passable-means : (program : Program) (machine : Machine) (t : ℕ) (cpu : Cpu) (instr : Instr) (o : Option Stop) → IsPassable o → IsOfFetched (sync_next program machine t cpu (unless_stop o (Executes instr)))
passable-means program machine t cpu instr None no_stop = of_nothing
passable-means program machine t cpu instr (Some (Trap code)) a_trap = of_nothing
passable-means program machine t cpu instr (Some (Calls call)) (a_system_call {number = number} e) =
    system-means machine cpu call number _ (system-served (setup_of program) machine.kernel t (asked call (payload_in program machine call)) number e) e
passable-means program machine t cpu instr (Some (Calls call)) (an_atomic {word = word} e) =
    atomic-means machine cpu call word _ (atomic-served (setup_of program) machine.kernel t (asked call (payload_in program machine call)) word e) e
passable-means program machine t cpu instr (Some (PageFault page)) h = elim h [ ]
passable-means program machine t cpu instr (Some Watchdog) h = elim h [ ]

-- whatever is read from memory
fetched-means : (program : Program) (machine : Machine) (t : ℕ) (cpu : Cpu) (o : Option Instr) → IsOfFetched (sync_next program machine t cpu (next_at (ranges_in (setup_of program) machine.kernel) all_backed cpu o))
fetched-means program machine t cpu None = of_nothing
fetched-means program machine t cpu (Some instr) = passable-means program machine t cpu instr _ (instruction-passable (ranges_in (setup_of program) machine.kernel) cpu instr)

-- ---- a step on a word

abbrev word_at : ℕ → Span
word_at word = record { place = word; count = 4 }

-- the thread stands at an atomic instruction on this word, which is not its own
pub record IsOnWord (word : ℕ) (cpu : Cpu) (next : Next) : Type 0 where
  pub call : Call
  pub stands : next ≡ Stands (Calls call)
  pub code : ℕ
  pub atomic_is : call.which ≡ Atomic code
  pub apart : are_apart call.a0 cpu.pc ≡ true
  pub word_is : call.a0 ≡ word

on-word-sync : (word address : ℕ) (bytes : List ℕ) (op : Option AtomicOp) → is_on_word word (word_sync address bytes op) ≡ true → address ≡ word
on-word-sync word address bytes (Some LoadReserved) h = eqb-true address word h
on-word-sync word address [] op h = absurd (true≢false (sym h))
on-word-sync word address (byte ∷ bytes) op h = eqb-true address word h

-- no other call
none-on-word : (machine : Machine) (call : Call) (word : ℕ) (w : Which) → is_on_word word (sync_by machine call w) ≡ false
none-on-word machine call word (Function Unlock) = refl
none-on-word machine call word (Function Lock) = refl
none-on-word machine call word (Function TryLock) = refl
none-on-word machine call word (Function Wait) = refl
none-on-word machine call word (Function Create) = refl
none-on-word machine call word (Function Join) = refl
none-on-word machine call word w = refl

word-cond : (word : ℕ) (b : Bool) (x y : Sync) → is_on_word word x ≡ false → is_on_word word y ≡ false → is_on_word word (cond b x y) ≡ false
word-cond word true x y p q = p
word-cond word false x y p q = q

on-word-served : (word : ℕ) (machine : Machine) (cpu : Cpu) (call : Call) (served : Served) → is_on_word word (sync_served machine cpu call served) ≡ true → IsOnWord word cpu (Stands (Calls call))
on-word-served word machine cpu call (Done kernel effect) h = by call.which refl h
  where
    other : (w : Which) → is_on_word word (cond (is_exit w) Exits (cond (is_zero effect.answer) (sync_by machine call w) Nothing)) ≡ true → IsOnWord word cpu (Stands (Calls call))
    other w k = absurd (true≢false (sym k ∙ word-cond word (is_exit w) _ _ refl (word-cond word (is_zero effect.answer) _ _ (none-on-word machine call word w) refl)))

    by : (w : Which) → call.which ≡ w → is_on_word word (sync_done machine cpu call effect w) ≡ true → IsOnWord word cpu (Stands (Calls call))
    by (System number) e k = other (System number) k
    by (Function function) e k = other (Function function) k
    by (Atomic code) e k = with_test (are_apart call.a0 cpu.pc) refl k
      where
        with_test : (b : Bool) → are_apart call.a0 cpu.pc ≡ b → is_on_word word (cond b (word_sync call.a0 effect.bytes (atomic_in code)) Nothing) ≡ true → IsOnWord word cpu (Stands (Calls call))
        with_test true f g = record { call = call; stands = refl; code = code; atomic_is = e; apart = f; word_is = on-word-sync word call.a0 effect.bytes (atomic_in code) g }
        with_test false f g = absurd (true≢false (sym g))
on-word-served word machine cpu call (Ends kernel how) h = absurd (true≢false (sym h ∙ word-cond word (is_exit call.which) _ _ refl refl))
on-word-served word machine cpu call (Parked kernel) h = absurd (true≢false (sym h))
on-word-served word machine cpu call Blocked h = absurd (true≢false (sym h))

-- the payload of an atomic instruction is its word
word-payload : (ranges : List Range) (call : Call) → is_atomic call.which ≡ true → (call.a0 % 4 == 0) ≡ true → payload_span ranges call ≡ word_at call.a0
word-payload ranges call e f = by call.which e
  where
    by : (w : Which) → is_atomic w ≡ true → cond (is_write w && is_good_write ranges call) (record { place = call.a1; count = capped call.a2 }) (cond (is_atomic w && (call.a0 % 4 == 0)) (record { place = call.a0; count = 4 }) (record { place = 0; count = 0 })) ≡ word_at call.a0
    by (System number) h = absurd (true≢false (sym h))
    by (Function function) h = absurd (true≢false (sym h))
    by (Atomic word) h = ap (λ b. cond b (word_at call.a0) (record { place = 0; count = 0 })) f

-- a step that is on a word
on-word : (program : Program) (machine : Machine) (u word : ℕ) (cpu : Cpu) (n : Next) → is_on_word word (sync_next program machine u cpu n) ≡ true → IsOnWord word cpu n
on-word program machine u word cpu (Stands (Calls call)) h = on-word-served word machine cpu call _ h
on-word program machine u word cpu (Stands (Trap code)) h = absurd (true≢false (sym h))
on-word program machine u word cpu (Stands (PageFault page)) h = absurd (true≢false (sym h))
on-word program machine u word cpu (Stands Watchdog) h = absurd (true≢false (sym h))
on-word program machine u word cpu (Executes instr) h = absurd (true≢false (sym h))

none-touched : (place a : ℕ) → touches (record { place = place; count = 0 } ∷ []) a ≡ true → ⊥
none-touched place a h =
    let parts = within-first (record { place = place; count = 0 }) a h in
    let low = parts.0 in
    let high = parts.1 in
    omega arith

-- what is stored is the word, or nothing
stored-in : (kernel : Kernel) (effect : Effect) (word a : ℕ) → effect.range ≡ None → (effect.bytes ≡ []) ⊎ ((effect.place ≡ word) × (length effect.bytes ≡ 4)) → touches (stored_span (Done kernel effect)) a ≡ true → touches (word_at word ∷ []) a ≡ true
stored-in kernel effect word a none h e =
    let alone : touches (record { place = effect.place; count = length effect.bytes } ∷ []) a ≡ true =
    subst (λ (r : Option Range). touches (record { place = effect.place; count = length effect.bytes } ∷ given_span r) a ≡ true) none e in
    ⊎_elim
    (λ (nothing : effect.bytes ≡ []). absurd (none-touched effect.place a (subst (λ (bytes : List ℕ). touches (record { place = effect.place; count = length bytes } ∷ []) a ≡ true) nothing alone)))
    (λ (whole : (effect.place ≡ word) × (length effect.bytes ≡ 4)). subst (λ (n : ℕ). touches (record { place = word; count = n } ∷ []) a ≡ true) whole.1 (subst (λ (p : ℕ). touches (record { place = p; count = length effect.bytes } ∷ []) a ≡ true) whole.0 alone))
    h

-- an atomic instruction writes no byte but those of its word
writes-in : (program : Program) (machine : Machine) (u word : ℕ) (cpu : Cpu) (n : Next) → IsOnWord word cpu n → (a : ℕ) → touches (accesses_by program machine u cpu n).writes a ≡ true → touches (word_at word ∷ []) a ≡ true
writes-in program machine u word cpu n on a h =
    by (served_in program machine u on.call) refl
    (subst (λ (m : Next). touches (accesses_by program machine u cpu m).writes a ≡ true) on.stands h)
  where
    by : (served : Served) → served_in program machine u on.call ≡ served → touches (stored_span served) a ≡ true → touches (word_at word ∷ []) a ≡ true
    by (Done after effect) e k =
        let alone = of-word (setup_of program) machine.kernel u (asked on.call (payload_in program machine on.call)) on.code after effect on.atomic_is e in
        subst (λ (w : ℕ). touches (word_at w ∷ []) a ≡ true) on.word_is (stored-in after effect on.call.a0 a alone.0 alone.2 k)
    by (Parked after) e k = absurd (true≢false (sym k))
    by Blocked e k = absurd (true≢false (sym k))
    by (Ends after how) e k = absurd (true≢false (sym k))

-- and it accesses all of them as one
atomic-in : (program : Program) (machine : Machine) (u word : ℕ) (cpu : Cpu) (n : Next) → IsOnWord word cpu n → (a : ℕ) → touches (word_at word ∷ []) a ≡ true → touches (accesses_by program machine u cpu n).atomic a ≡ true
atomic-in program machine u word cpu n on a h =
    subst (λ (m : Next). touches (accesses_by program machine u cpu m).atomic a ≡ true) (sym on.stands)
    (subst (λ (w : Which). touches (cond (is_atomic w && are_apart on.call.a0 cpu.pc) (word_at on.call.a0 ∷ []) []) a ≡ true) (sym on.atomic_is)
    (subst (λ (b : Bool). touches (cond b (word_at on.call.a0 ∷ []) []) a ≡ true) (sym on.apart)
    (subst (λ (w : ℕ). touches (word_at w ∷ []) a ≡ true) (sym on.word_is) h)))

-- two steps on one word conflict nowhere
word-conflict : (a b : Accesses) (word x : ℕ) → ((y : ℕ) → touches a.writes y ≡ true → touches (word_at word ∷ []) y ≡ true) → ((y : ℕ) → touches b.writes y ≡ true → touches (word_at word ∷ []) y ≡ true)
    → ((y : ℕ) → touches (word_at word ∷ []) y ≡ true → touches a.atomic y ≡ true) → ((y : ℕ) → touches (word_at word ∷ []) y ≡ true → touches b.atomic y ≡ true) → conflict_at a b x ≡ true → ⊥
word-conflict a b word x in_a in_b as_a as_b h =
    let parts = and_parts (not (touches a.atomic x && touches b.atomic x)) ((touches a.writes x && (touches b.reads x || touches b.writes x)) || (touches a.reads x && touches b.writes x)) h in
    let here : touches (word_at word ∷ []) x ≡ true = written (touches a.writes x) (touches b.reads x || touches b.writes x) (touches a.reads x) (touches b.writes x) (in_a x) (in_b x) parts.1 in
    true≢false (sym parts.0 ∙ ap not (and_from _ _ (as_a x here) (as_b x here)))
  where
    written : (aw bo ar bw : Bool) {X : Type 0} → (aw ≡ true → X) → (bw ≡ true → X) → ((aw && bo) || (ar && bw)) ≡ true → X
    written true bo ar bw p q e = p refl
    written false bo true true p q e = q refl
    written false bo true false p q e = absurd (true≢false (sym e))
    written false bo false bw p q e = absurd (true≢false (sym e))

-- a thread's fetch is no atomic access of its step
fetch-plain : (program : Program) (machine : Machine) (u : ℕ) (cpu : Cpu) (n : Next) (a : ℕ) → touches (fetches (layout_in program machine.kernel) cpu) a ≡ true → touches (accesses_by program machine u cpu n).atomic a ≡ false
fetch-plain program machine u cpu (Executes instr) a h = refl
fetch-plain program machine u cpu (Stands (Calls call)) a h =
    by (is_atomic call.which && are_apart call.a0 cpu.pc) refl (none-fetched (is_none (fetch_stop (layout_in program machine.kernel) all_backed cpu)) h)
  where
    none-fetched : (b : Bool) → touches (cond b (fetched cpu ∷ []) []) a ≡ true → touches (fetched cpu ∷ []) a ≡ true
    none-fetched true k = k
    none-fetched false k = absurd (true≢false (sym k))

    by : (b : Bool) → (is_atomic call.which && are_apart call.a0 cpu.pc) ≡ b → touches (fetched cpu ∷ []) a ≡ true → touches (cond b (word_at call.a0 ∷ []) []) a ≡ false
    by false e k = refl
    by true e k = not-true _ (λ w. apart-words call.a0 cpu.pc a (and_parts (is_atomic call.which) (are_apart call.a0 cpu.pc) e).1 w k)
fetch-plain program machine u cpu (Stands (Trap code)) a h = refl
fetch-plain program machine u cpu (Stands (PageFault page)) a h = refl
fetch-plain program machine u cpu (Stands Watchdog) a h = refl

-- a call that makes a thread makes the next one
makes-by : (machine : Machine) (call : Call) (w : Which) (made : ℕ) → sync_by machine call w ≡ Makes made → made ≡ length machine.kernel.lives
makes-by machine call (Function Create) made e = let f : Makes (length machine.kernel.lives) ≡ Makes made = e in cc
makes-by machine call (Function Join) made e = absurd (let f : Joins call.a0 ≡ Makes made = e in cc)
makes-by machine call (Function Lock) made e = absurd (let f : Locks call.a0 ≡ Makes made = e in cc)
makes-by machine call (Function TryLock) made e = absurd (let f : Locks call.a0 ≡ Makes made = e in cc)
makes-by machine call (Function Wait) made e = absurd (let f : Locks call.a1 ≡ Makes made = e in cc)
makes-by machine call (Function Unlock) made e = absurd (let f : Unlocks call.a0 ≡ Makes made = e in cc)
makes-by machine call other made e = absurd (let f : Nothing ≡ Makes made = e in cc)

-- through the tests
makes-cond : (b c : Bool) (s : Sync) (made n : ℕ) → (s ≡ Makes made → made ≡ n) → cond b Exits (cond c s Nothing) ≡ Makes made → made ≡ n
makes-cond true c s made n h e = absurd (let f : Exits ≡ Makes made = e in cc)
makes-cond false true s made n h e = h e
makes-cond false false s made n h e = absurd (let f : Nothing ≡ Makes made = e in cc)

-- as it is served
makes-done : (machine : Machine) (cpu : Cpu) (call : Call) (effect : Effect) (w : Which) (made : ℕ) → sync_done machine cpu call effect w ≡ Makes made → made ≡ length machine.kernel.lives
makes-done machine cpu call effect (System number) made e = makes-cond false (is_zero effect.answer) _ made _ (makes-by machine call (System number) made) e
makes-done machine cpu call effect (Function function) made e = makes-cond (is_exit (Function function)) (is_zero effect.answer) _ made _ (makes-by machine call (Function function) made) e
makes-done machine cpu call effect (Atomic word) made e = absurd (not-made _ (fetched-cond (are_apart call.a0 cpu.pc) _ _ (fetched-word call.a0 effect.bytes (atomic_in word)) of_nothing) e)
  where
    not-made : (s : Sync) → IsOfFetched s → s ≡ Makes made → ⊥
    not-made s of_nothing f = let g : Nothing ≡ Makes made = f in cc
    not-made s (of_update {word = w}) f = let g : Updates w ≡ Makes made = f in cc
    not-made s (of_look {word = w}) f = let g : Observes w ≡ Makes made = f in cc

makes-served : (machine : Machine) (cpu : Cpu) (call : Call) (served : Served) (made : ℕ) → sync_served machine cpu call served ≡ Makes made → made ≡ length machine.kernel.lives
makes-served machine cpu call (Done kernel effect) made e = makes-done machine cpu call effect call.which made e
makes-served machine cpu call (Ends kernel how) made e = makes-cond (is_exit call.which) false Nothing made _ (λ (f : Nothing ≡ Makes made). absurd cc) (e ∙ refl)
makes-served machine cpu call (Parked kernel) made e = absurd (let f : Unlocks call.a1 ≡ Makes made = e in cc)
makes-served machine cpu call Blocked made e = absurd (let f : Nothing ≡ Makes made = e in cc)

-- as the thread's step
makes-next : (program : Program) (machine : Machine) (x : ℕ) (cpu : Cpu) (n : Next) (made : ℕ) → sync_next program machine x cpu n ≡ Makes made → made ≡ length machine.kernel.lives
makes-next program machine x cpu (Stands (Calls call)) made e = makes-served machine cpu call _ made e
makes-next program machine x cpu (Stands (Trap code)) made e = absurd (let f : Nothing ≡ Makes made = e in cc)
makes-next program machine x cpu (Stands (PageFault page)) made e = absurd (let f : Nothing ≡ Makes made = e in cc)
makes-next program machine x cpu (Stands Watchdog) made e = absurd (let f : Nothing ≡ Makes made = e in cc)
makes-next program machine x cpu (Executes instr) made e = absurd (let f : Nothing ≡ Makes made = e in cc)

-- a live thread was made
pub live-within : (lives : List Life) (t : ℕ) → live_option (slice_get lives t) ≡ true → t < length lives
live-within lives t h = by (slice_get lives t) refl h
  where
    by : (o : Option Life) → slice_get lives t ≡ o → live_option o ≡ true → t < length lives
    by None e k = absurd (true≢false (sym k))
    by (Some life) e k = slice_get_within lives t life e

-- what a step means for the order, by its registers
sync-at : (program : Program) (machine : Machine) (u : ℕ) (cpu : Cpu) → steppable machine u ≡ Some cpu → sync_of program machine u ≡ sync_next program machine u cpu (next_of program machine cpu)
unfolding sync_of
sync-at program machine u cpu live = ap (λ o. option_map_or (λ cpu. sync_next program machine u cpu (next_of program machine cpu)) o Nothing) live

-- ---- the two last steps of an execution

-- no byte of a range that was given lies in a stretch
avoids-by : (range : Option Range) (span : Span) → ((a : ℕ) → touches (given_span range) a ≡ true → within span a ≡ false) → Avoids range span
avoids-by None span h = tt
avoids-by (Some range) span h = λ x lies. h x (touches-first (record { place = range.start; count = range.length }) [] x lies)

-- the bytes of an instruction that is read are among those that its step reads
fetches-touched : (program : Program) (machine : Machine) (u : ℕ) (cpu : Cpu) (next : Next) (a : ℕ) → touches (fetches (layout_in program machine.kernel) cpu) a ≡ true → touches (accesses_by program machine u cpu next).reads a ≡ true
fetches-touched program machine u cpu (Executes instr) a h = touches-later (loads instr cpu) _ a h
fetches-touched program machine u cpu (Stands (Calls call)) a h = touches-later (payload_span (ranges_in (setup_of program) machine.kernel) call) _ a h
fetches-touched program machine u cpu (Stands (Trap code)) a h = h
fetches-touched program machine u cpu (Stands (PageFault page)) a h = h
fetches-touched program machine u cpu (Stands Watchdog) a h = h

-- what stays of a thread
pub record Stays (program : Program) (machine after : Machine) (t : ℕ) (cpu : Cpu) : Type 0 where
  pub live : steppable after t ≡ Some cpu
  pub next_stays : (backed : Backed) → next (layout_in program machine.kernel) backed machine.memory cpu ≡ next (layout_in program after.kernel) backed after.memory cpu

module _ (program : Program) (free : RaceFree program) (before : List ℕ) (machine : Machine) (reached : run program (opening program) before ≡ Some machine) (x t : ℕ) (different : x ≢ t) (after : Machine) (steps : step program machine x ≡ Some after) (going : after.ended ≡ None) (cpu : Cpu) (live : steppable machine t ≡ Some cpu) where
  module _ (own : Cpu) (live_x : steppable machine x ≡ Some own) (by_x : step_by program machine x own (next_of program machine own) ≡ Some after) where
    -- the step keeps the thread
    keeps : Keeps program machine t x (λ e. different (sym e)) cpu (steppable-parts machine t cpu live) own (accesses_by program machine x own (next_of program machine own)).writes (accesses_by program machine x own (next_of program machine own)).atomic after
    keeps = step_by-keeps program machine t x (λ e. different (sym e)) cpu (steppable-parts machine t cpu live) own (next_of program machine own) after by_x going

    -- the machine before the step
    reached_x : machine_at program (before ++ x ∷ t ∷ []) (length before) ≡ Some machine
    reached_x = ap (run program (opening program)) (take-seam before (x ∷ t ∷ [])) ∙ reached

    -- the machine after it
    reached_t : machine_at program (before ++ x ∷ t ∷ []) (suc (length before)) ≡ Some after
    reached_t = ap (run program (opening program)) (take-second before x t) ∙ (run-append program (opening program) before (x ∷ [])
        ∙ (ap (option_and_then (λ m. run program m (x ∷ []))) reached
        ∙ ap (option_and_then (λ m. run program m [])) steps))

    module _ (read : fetch_stop (layout_in program after.kernel) all_backed cpu ≡ None) where
      -- the thread has a step there
      has : HasStep (step_by program after t cpu (next_of program after cpu))
      has = subst (λ (n : Next). HasStep (step_by program after t cpu n)) (sym (next-fetched (layout_in program after.kernel) all_backed _ cpu read)) (fetched-step program after t cpu _)

      -- both steps are an execution
      is-execution : IsExecution program (before ++ x ∷ t ∷ [])
      is-execution = (
        has.0,
        run-append program (opening program) before (x ∷ t ∷ [])
            ∙ (ap (option_and_then (λ m. run program m (x ∷ t ∷ []))) reached
            ∙ (ap (option_and_then (λ m. run program m (t ∷ []))) steps
            ∙ ap (option_and_then (λ m. run program m [])) (step-at program after t cpu keeps.may ∙ has.1))),
      )

      -- what the second step means
      second-is : sync_at program (before ++ x ∷ t ∷ []) (suc (length before)) ≡ sync_next program after t cpu (next_of program after cpu)
      second-is = at-both (sync_of program) Nothing _ _ after t reached_t (slice_get-second before x t) ∙ sync-at program after t cpu keeps.may

      second-means : IsOfFetched (sync_at program (before ++ x ∷ t ∷ []) (suc (length before)))
      second-means =
          subst IsOfFetched (sym second-is)
          (subst (λ (n : Next). IsOfFetched (sync_next program after t cpu n)) (sym (next-fetched (layout_in program after.kernel) all_backed _ cpu read)) (fetched-means program after t cpu _))

      -- it neither locks nor joins
      no-lock : (s : Sync) → IsOfFetched s → (m : ℕ) → s ≡ Locks m → ⊥
      no-lock s of_nothing m e = let f : Nothing ≡ Locks m = e in cc
      no-lock s (of_update {word = w}) m e = let f : Updates w ≡ Locks m = e in cc
      no-lock s (of_look {word = w}) m e = let f : Observes w ≡ Locks m = e in cc

      no-join : (s : Sync) → IsOfFetched s → (u : ℕ) → s ≡ Joins u → ⊥
      no-join s of_nothing u e = let f : Nothing ≡ Joins u = e in cc
      no-join s (of_update {word = w}) u e = let f : Updates w ≡ Joins u = e in cc
      no-join s (of_look {word = w}) u e = let f : Observes w ≡ Joins u = e in cc

      -- what the first step means
      first-is : sync_at program (before ++ x ∷ t ∷ []) (length before) ≡ sync_next program machine x own (next_of program machine own)
      first-is = at-both (sync_of program) Nothing _ _ machine x reached_x (slice_get-seam before x (t ∷ [])) ∙ sync-at program machine x own live_x

      -- both steps are on one word
      pub record OnOneWord : Type 0 where
        pub word : ℕ
        pub first : IsOnWord word own (next_of program machine own)
        pub second : IsOnWord word cpu (next_of program after cpu)

      -- the two steps are ordered by a word alone
      ordered-so : {i j : ℕ} → HappensBefore program (before ++ x ∷ t ∷ []) i j → i ≡ length before → j ≡ suc (length before) → OnOneWord
      ordered-so (in_thread u lt a b) e f =
          absurd (different (some-injective (sym (slice_get-seam before x (t ∷ [])) ∙ (ap (slice_get (before ++ x ∷ t ∷ [])) (sym e) ∙ (a ∙ (sym b ∙ (ap (slice_get (before ++ x ∷ t ∷ [])) f ∙ slice_get-second before x t)))))))
      ordered-so (by_mutex m lt a b) e f =
          absurd (no-lock _ second-means m (ap (sync_at program (before ++ x ∷ t ∷ [])) (sym f) ∙ b))
      ordered-so (by_word w lt a b) e f = record {
        word = w;
        first = on-word program machine x w own (next_of program machine own) (ap (is_on_word w) (sym first-is ∙ (ap (sync_at program (before ++ x ∷ t ∷ [])) (sym e) ∙ a)) ∙ eq-eqb w w refl);
        second = on-word program after t w cpu (next_of program after cpu) (ap (is_on_word w) (sym second-is ∙ ap (sync_at program (before ++ x ∷ t ∷ [])) (sym f)) ∙ b);
      }
      ordered-so (by_creation u lt a b) e f =
          let made = makes-next program machine x own (next_of program machine own) u (sym first-is ∙ (ap (sync_at program (before ++ x ∷ t ∷ [])) (sym e) ∙ a)) in
          let same : t ≡ u = some-injective (sym (slice_get-second before x t) ∙ (ap (slice_get (before ++ x ∷ t ∷ [])) (sym f) ∙ b)) in
          let low = live-within machine.kernel.lives t (steppable-parts machine t cpu live).live in
          absurd (omega arith)
      ordered-so (by_join u lt a b c) e f =
          absurd (no-join _ second-means u (ap (sync_at program (before ++ x ∷ t ∷ [])) (sym f) ∙ c))
      ordered-so (chain h k) e f = let a = happens-later h in let b = happens-later k in absurd (omega arith)

      -- so they do not conflict
      apart : (byte : ℕ) → conflict_at (accesses_by program machine x own (next_of program machine own)) (accesses_by program after t cpu (next_of program after cpu)) byte ≡ false
      apart byte = not-true _ (λ e.
          let on = ordered-so (free (before ++ x ∷ t ∷ []) is-execution (length before) (suc (length before)) byte (omega arith) (omega (arith, length-append before (x ∷ t ∷ [])))
          (λ f. different (some-injective (sym (slice_get-seam before x (t ∷ [])) ∙ (f ∙ slice_get-second before x t)))) (conflicting byte ∙ e)) refl refl in
          word-conflict _ _ on.word byte
          (writes-in program machine x on.word own (next_of program machine own) on.first)
          (writes-in program after t on.word cpu (next_of program after cpu) on.second)
          (atomic-in program machine x on.word own (next_of program machine own) on.first)
          (atomic-in program after t on.word cpu (next_of program after cpu) on.second) e)
        where
          conflicting : (y : ℕ) → conflict_at (accesses_at program (before ++ x ∷ t ∷ []) (length before)) (accesses_at program (before ++ x ∷ t ∷ []) (suc (length before))) y ≡ conflict_at (accesses_by program machine x own (next_of program machine own)) (accesses_by program after t cpu (next_of program after cpu)) y
          conflicting y =
              ap₂ (λ a b. conflict_at a b y)
              (at-both (accesses program) no_access _ _ machine x reached_x (slice_get-seam before x (t ∷ [])) ∙ accesses-at program machine x own live_x)
              (at-both (accesses program) no_access _ _ after t reached_t (slice_get-second before x t) ∙ accesses-at program after t cpu keeps.may)

      -- what the thread reads plainly was not written
      unwritten : (a : ℕ) → touches (accesses_by program after t cpu (next_of program after cpu)).atomic a ≡ false → touches (accesses_by program machine x own (next_of program machine own)).writes a ≡ true → touches (accesses_by program after t cpu (next_of program after cpu)).reads a ≡ false
      unwritten a plain = writes-reads _ _ a (and-second _ _ plain) (apart a)

      -- nor does it touch what the step gave
      ungiven : (a : ℕ) → touches (given_span keeps.gift.range) a ≡ true → (touches (accesses_by program after t cpu (next_of program after cpu)).reads a ≡ false) × (touches (accesses_by program after t cpu (next_of program after cpu)).writes a ≡ false)
      ungiven a h =
          let plain = ap (λ b. b && touches (accesses_by program after t cpu (next_of program after cpu)).atomic a) (keeps.gift.plain a h) in
          (writes-reads _ _ a plain (apart a) (keeps.gift.counted a h), writes-writes _ _ a plain (apart a) (keeps.gift.counted a h))

      -- it reads what it did
      read-agrees : AgreeOn machine.memory after.memory (fetches (layout_in program after.kernel) cpu)
      read-agrees = keeps.agrees _ (λ a w. not-true _ (λ h.
          true≢false (sym (fetches-touched program after t cpu (next_of program after cpu) a h) ∙ unwritten a (fetch-plain program after t cpu (next_of program after cpu) a h) w)))

      avoids-read : (span : Span) → ((a : ℕ) → within span a ≡ true → touches (accesses_by program after t cpu (next_of program after cpu)).reads a ≡ true) → Avoids keeps.gift.range span
      avoids-read span inside = avoids-by keeps.gift.range span (λ a h. not-true _ (λ w. true≢false (sym (inside a w) ∙ (ungiven a h).0)))

      avoids-write : (span : Span) → ((a : ℕ) → within span a ≡ true → touches (accesses_by program after t cpu (next_of program after cpu)).writes a ≡ true) → Avoids keeps.gift.range span
      avoids-write span inside = avoids-by keeps.gift.range span (λ a h. not-true _ (λ w. true≢false (sym (inside a w) ∙ (ungiven a h).1)))

      avoids-fetched : Avoids keeps.gift.range (fetched cpu)
      avoids-fetched = avoids-read (fetched cpu) (λ a w. fetches-touched program after t cpu (next_of program after cpu) a
          (subst (λ (o : Option Stop). touches (cond (is_none o) (fetched cpu ∷ []) []) a ≡ true) (sym read) (touches-first (fetched cpu) [] a w)))

      avoids-accessed : (instr : Instr) → next_of program after cpu ≡ Executes instr → Avoids keeps.gift.range (loads instr cpu) × Avoids keeps.gift.range (stores instr cpu)
      avoids-accessed instr e = (
        avoids-read (loads instr cpu) (λ a w. subst (λ (n : Next). touches (accesses_by program after t cpu n).reads a ≡ true) (sym e) (touches-first (loads instr cpu) _ a w)),
        avoids-write (stores instr cpu) (λ a w. subst (λ (n : Next). touches (accesses_by program after t cpu n).writes a ≡ true) (sym e) (touches-first (stores instr cpu) [] a w)),
      )

      avoids-word : (call : Call) → next_of program after cpu ≡ Stands (Calls call) → is_atomic call.which ≡ true → (call.a0 % 4 == 0) ≡ true → Avoids keeps.gift.range (word_at call.a0)
      avoids-word call e f aligned = avoids-read (word_at call.a0) (λ a w.
          subst (λ (n : Next). touches (accesses_by program after t cpu n).reads a ≡ true) (sym e)
          (touches-first (payload_span (ranges_in (setup_of program) after.kernel) call) _ a
          (subst (λ (span : Span). within span a ≡ true) (sym (word-payload (ranges_in (setup_of program) after.kernel) call f aligned)) w)))

    widened : layout_in program after.kernel ≡ widen keeps.gift.range (layout_in program machine.kernel)
    widened = layout-widens program machine.kernel after.kernel keeps.gift.range keeps.gift.given

    -- with the ranges that there were before
    stays-before : AgreeOn machine.memory after.memory (fetches (layout_in program machine.kernel) cpu)
    stays-before = by (fetch_stop (layout_in program machine.kernel) all_backed cpu) refl
      where
        by : (o : Option Stop) → fetch_stop (layout_in program machine.kernel) all_backed cpu ≡ o → AgreeOn machine.memory after.memory (cond (is_none (fetch_stop (layout_in program machine.kernel) all_backed cpu)) (fetched cpu ∷ []) [])
        by None e =
            let read : fetch_stop (layout_in program after.kernel) all_backed cpu ≡ None =
            ap (λ (l : Layout). fetch_stop l all_backed cpu) widened ∙ fetched-wider keeps.gift.range all_backed (layout_in program machine.kernel) cpu e in
            subst (λ (p : Option Stop). AgreeOn machine.memory after.memory (cond (is_none p) (fetched cpu ∷ []) [])) (sym e)
            (agree-fetched _ _ cpu _ read (read-agrees read))
        by (Some stop) e = subst (λ (p : Option Stop). AgreeOn machine.memory after.memory (cond (is_none p) (fetched cpu ∷ []) [])) (sym e) (record { same = λ a (w : false ≡ true). absurd (true≢false (sym w)) })

    -- what it does next, in the memory after the step, is the same with the range that the step gave
    same-wider : (backed : Backed) → next (layout_in program machine.kernel) backed after.memory cpu ≡ next (layout_in program after.kernel) backed after.memory cpu
    same-wider backed =
        next-wider keeps.gift.range backed (layout_in program machine.kernel) after.memory cpu
        (λ e. avoids-fetched (ap (λ (l : Layout). fetch_stop l all_backed cpu) widened ∙ e))
        (λ instr e. let f : next_of program after cpu ≡ Executes instr = ap (λ (l : Layout). next l all_backed after.memory cpu) widened ∙ e in
        accessed instr f)
        (λ r call e f aligned.
        let read : fetch_stop (layout_in program after.kernel) all_backed cpu ≡ None = ap (λ (l : Layout). fetch_stop l all_backed cpu) widened ∙ r in
        let stands : next_of program after cpu ≡ Stands (Calls call) = ap (λ (l : Layout). next l all_backed after.memory cpu) widened ∙ e in
        avoids-word read call stands f aligned)
        ∙ ap (λ (l : Layout). next l backed after.memory cpu) (sym widened)
      where
        accessed : (instr : Instr) → next_of program after cpu ≡ Executes instr → Avoids keeps.gift.range (loads instr cpu) × Avoids keeps.gift.range (stores instr cpu)
        accessed instr f = by (fetch_stop (layout_in program after.kernel) all_backed cpu) refl
          where
            by : (o : Option Stop) → fetch_stop (layout_in program after.kernel) all_backed cpu ≡ o → Avoids keeps.gift.range (loads instr cpu) × Avoids keeps.gift.range (stores instr cpu)
            by None e = avoids-accessed e instr f
            by (Some stop) e = absurd (let g : Stands stop ≡ Executes instr = sym (next-stopped (layout_in program after.kernel) all_backed after.memory cpu stop e) ∙ f in cc)

    -- by the registers of the other thread
    stays-by : Stays program machine after t cpu
    stays-by = record { live = keeps.may; next_stays = λ backed. next-same-with (layout_in program machine.kernel) backed _ _ cpu stays-before ∙ same-wider backed }

  -- a thread that may step still may, and does the same next, after a step of another
  pub stays : Stays program machine after t cpu
  stays =
      option_and_then_some (λ own. step_by program machine x own (next_of program machine own)) (steppable machine x) after (step-opens program machine x after steps)
      (λ own live_x by_x. stays-by own live_x by_x)
