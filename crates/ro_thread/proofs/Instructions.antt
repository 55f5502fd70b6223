-- Instruction after instruction of a thread.
use Rattle.std.proofs.Common.{◌≡◌, ℕ, zero, suc, ◌+◌, ◌<◌, Option, Some, None, refl, ap, ap₂, sym, List, ◌∙◌, subst, arith, Bool, true, false}
use Rattle.std.proofs.lemmas.Bool.{ne_eqb}
use Rattle.std.specs.Option.{option_and_then}
use Rattle.ro_pages.specs.Bytes.{Memory}
use Rattle.ro_exec.specs.declared.Cpu.{Cpu}
use Rattle.ro_exec.specs.declared.outcome.Step.{Step}
use Rattle.ro_exec.specs.declared.outcome.Step.TheVariants.{Did}
use Rattle.ro_exec.specs.Next.{Layout, Backed, Next, Stands, Executes, next}
use Rattle.ro_exec.specs.Steps.{IsStep, IsQuick}
use Rattle.ro_exec.specs.Stretches.{IsAlong, IsLearnt}
use Rattle.ro_exec.specs.declared.learnt.Learnt.{Learnt}
use Rattle.ro_exec.specs.declared.stretch.Stretch.{Stretch}
use Rattle.ro_thread.specs.declared.Thread.{Thread}
use Rattle.ro_thread.specs.Runs.{Running, after_next, one_instruction, instructions}

-- the thread after so many instructions, whose registers and memory are these
abbrev pub ran_on : Thread → ℕ → Cpu → Memory → Running
ran_on thread count cpu memory =
    record { thread = record thread { cpu = cpu; since = thread.since + count; done = thread.done + count }; memory = memory }

-- one instruction behind others
pub one_more : (layout : Layout) (watchdog : ℕ) (backed : Backed) (count : ℕ) (running mid : Running) → instructions layout watchdog backed count running ≡ Some mid → instructions layout watchdog backed (suc count) running ≡ one_instruction layout watchdog backed mid
one_more layout watchdog backed zero running mid e =
    let same : running ≡ mid = cc in
    subst (λ (r : Running). instructions layout watchdog backed 1 running ≡ one_instruction layout watchdog backed r) same (alone (one_instruction layout watchdog backed running))
  where
    alone : (o : Option Running) → option_and_then (λ (r : Running). Some r) o ≡ o
    alone None = refl
    alone (Some r) = refl
one_more layout watchdog backed (suc n) running mid e = by-first (one_more layout watchdog backed n) (one_instruction layout watchdog backed running) e
  where
    by-first : ((r m : Running) → instructions layout watchdog backed n r ≡ Some m → instructions layout watchdog backed (suc n) r ≡ one_instruction layout watchdog backed m) → (o : Option Running) → option_and_then (instructions layout watchdog backed n) o ≡ Some mid → option_and_then (instructions layout watchdog backed (suc n)) o ≡ one_instruction layout watchdog backed mid
    by-first rest None h = absurd (cc)
    by-first rest (Some r) h = rest r mid h

-- a step that did something is one instruction
pub one_step : (layout : Layout) (watchdog : ℕ) (backed : Backed) (thread : Thread) (count : ℕ) (cpu after : Cpu) (memory stored : Memory) → (thread.since + count) < watchdog → IsStep (next layout backed memory cpu) Did cpu after memory stored → one_instruction layout watchdog backed (ran_on thread count cpu memory) ≡ Some (ran_on thread (count + 1) after stored)
one_step layout watchdog backed thread count cpu after memory stored early did =
    let apart : (thread.since + count) ≡ watchdog → ⊥ = λ e. omega arith in
    rw (ne_eqb (thread.since + count) watchdog apart) (by-next (next layout backed memory cpu) did)
  where
    by-next : (n : Next) → IsStep n Did cpu after memory stored → after_next (ran_on thread count cpu memory) n ≡ Some (ran_on thread (count + 1) after stored)
    by-next (Stands stop) (e, _, _) = absurd (cc)
    by-next (Executes instr) (_, e, f) =
        let since : (thread.since + count) + 1 ≡ thread.since + (count + 1) = omega arith in
        let done : (thread.done + count) + 1 ≡ thread.done + (count + 1) = omega arith in
        cc

-- one step more behind so many instructions
pub one_step_more : (layout : Layout) (watchdog : ℕ) (backed now : Backed) (thread : Thread) (memory : Memory) (count : ℕ) (cpu after : Cpu) (before stored : Memory) (step : Step) → (thread.since + count) < watchdog → instructions layout watchdog backed count (record { thread = thread; memory = memory }) ≡ Some (ran_on thread count cpu before) → now ≡ backed → step ≡ Did → IsStep (next layout now before cpu) step cpu after before stored → instructions layout watchdog backed (count + 1) (record { thread = thread; memory = memory }) ≡ Some (ran_on thread (count + 1) after stored)
one_step_more layout watchdog backed now thread memory count cpu after before stored step early ran same did is =
    let with_did : IsStep (next layout now before cpu) Did cpu after before stored = subst (λ (s : Step). IsStep (next layout now before cpu) s cpu after before stored) did is in
    let here : IsStep (next layout backed before cpu) Did cpu after before stored = subst (λ (b : Backed). IsStep (next layout b before cpu) Did cpu after before stored) same with_did in
    let one : count + 1 ≡ suc count = omega arith in
    ap (λ (n : ℕ). instructions layout watchdog backed n (record { thread = thread; memory = memory })) one
    ∙ one_more layout watchdog backed count (record { thread = thread; memory = memory }) (ran_on thread count cpu before) ran
    ∙ one_step layout watchdog backed thread count cpu after before stored early here

-- one step more that was done at once
pub one_quick_more : (layout : Layout) (watchdog : ℕ) (backed now : Backed) (thread : Thread) (memory : Memory) (count : ℕ) (cpu after : Cpu) (before stored : Memory) (quick : Bool) → (thread.since + count) < watchdog → instructions layout watchdog backed count (record { thread = thread; memory = memory }) ≡ Some (ran_on thread count cpu before) → now ≡ backed → quick ≡ true → IsQuick quick (next layout now before cpu) cpu after before stored → instructions layout watchdog backed (count + 1) (record { thread = thread; memory = memory }) ≡ Some (ran_on thread (count + 1) after stored)
one_quick_more layout watchdog backed now thread memory count cpu after before stored quick early ran same done is =
    one_step_more layout watchdog backed now thread memory count cpu after before stored Did early ran same refl (subst (λ (b : Bool). IsQuick b (next layout now before cpu) cpu after before stored) done is)

-- one step more that was left first
pub one_slow_more : (layout : Layout) (watchdog : ℕ) (backed now then : Backed) (thread : Thread) (memory : Memory) (count : ℕ) (cpu mid after : Cpu) (before between stored : Memory) (quick : Bool) (step : Step) → (thread.since + count) < watchdog → instructions layout watchdog backed count (record { thread = thread; memory = memory }) ≡ Some (ran_on thread count cpu before) → then ≡ backed → quick ≡ false → IsQuick quick (next layout now before cpu) cpu mid before between → step ≡ Did → IsStep (next layout then between mid) step mid after between stored → instructions layout watchdog backed (count + 1) (record { thread = thread; memory = memory }) ≡ Some (ran_on thread (count + 1) after stored)
one_slow_more layout watchdog backed now then thread memory count cpu mid after before between stored quick step early ran same left is did step_is =
    let unchanged : IsQuick false (next layout now before cpu) cpu mid before between = subst (λ (b : Bool). IsQuick b (next layout now before cpu) cpu mid before between) left is in
    let here : instructions layout watchdog backed count (record { thread = thread; memory = memory }) ≡ Some (ran_on thread count mid between) =
    ran ∙ ap (λ (c : Cpu). Some (ran_on thread count c before)) (sym unchanged.0) ∙ ap (λ (m : Memory). Some (ran_on thread count mid m)) (sym unchanged.1) in
    one_step_more layout watchdog backed then thread memory count mid after between stored step early here same did step_is

-- other names of what was reached
pub renamed : (from : Option Running) (thread : Thread) (count : ℕ) (registers : List ℕ) (pc : ℕ) (after : Cpu) (memory stored : Memory) → registers ≡ after.registers → pc ≡ after.pc → memory ≡ stored → from ≡ Some (ran_on thread count after stored) → from ≡ Some (ran_on thread count (record { registers = registers; pc = pc }) memory)
renamed from thread count registers pc after memory stored a p b e =
    let same : record { registers = registers; pc = pc } ≡ after = ap₂ (λ (r : List ℕ) (k : ℕ). record { registers = r; pc = k }) a p in
    e ∙ ap (λ (c : Cpu). Some (ran_on thread count c stored)) (sym same) ∙ ap (λ (m : Memory). Some (ran_on thread count (record { registers = registers; pc = pc }) m)) (sym b)

-- what was learnt, by other names of the backed pages, of the places and of itself
pub learnt_as : (layout : Layout) (now before : Backed) (places at : ℕ → Option ℕ) (learnt other : Learnt) → now ≡ before → places ≡ at → learnt ≡ other → IsLearnt layout before at other → IsLearnt layout now places learnt
learnt_as layout now before places at learnt other e f g h =
    subst (λ (k : Backed). IsLearnt layout k places learnt) (sym e)
    (subst (λ (k : ℕ → Option ℕ). IsLearnt layout before k learnt) (sym f) (subst (λ (k : Learnt). IsLearnt layout before at k) (sym g) h))

-- a thread whose code is looked up anew
pub along_anew : (stretch : Stretch) (until pc at : ℕ) → until ≡ at → pc ≡ at → IsAlong stretch until pc
along_anew stretch until pc at t p = λ apart. absurd (apart (p ∙ sym t))

-- a thread that goes along, by other names
pub along_still : (stretch : Stretch) (until pc t p : ℕ) → until ≡ t → pc ≡ p → IsAlong stretch t p → IsAlong stretch until pc
along_still stretch until pc t p e f h = subst (λ (k : ℕ). IsAlong stretch k pc) (sym e) (subst (λ (k : ℕ). IsAlong stretch t k) (sym f) h)

-- so many instructions, counted otherwise
pub recounted : (layout : Layout) (watchdog : ℕ) (backed : Backed) (running : Running) (thread : Thread) (n m : ℕ) (cpu : Cpu) (memory : Memory) → n ≡ m → instructions layout watchdog backed n running ≡ Some (ran_on thread n cpu memory) → instructions layout watchdog backed m running ≡ Some (ran_on thread m cpu memory)
recounted layout watchdog backed running thread n m cpu memory e h =
    subst (λ (k : ℕ). instructions layout watchdog backed k running ≡ Some (ran_on thread k cpu memory)) e h
