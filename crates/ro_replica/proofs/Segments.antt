-- Parts of a run: a strike, and instructions with no strike between them.
use Rattle.std.specs.Prelude.{◌≡◌, ℕ, zero, suc, ◌+◌, ◌<◌, Bool, true, false, cond, List, Option, Some, None, ◌==◌, slice_get, slice_set}
use Rattle.std.specs.Option.{option_map, option_and_then}
use Rattle.std.proofs.Common.{refl, sym, ap, ◌∙◌, arith, subst}
use Rattle.ro_exec.specs.Next.{Layout, Backed, Next, Stands, Executes, next}
use Rattle.ro_thread.specs.declared.Thread.{Thread}
use Rattle.ro_thread.specs.Runs.{Running, after_instruction, after_next, one_instruction, instructions}
use Rattle.ro_replica.specs.Replica.{Replica}
use Rattle.ro_replica.specs.Runs.{RanTo, struck, execute_next, execute_at, execute, plus_hit, run_of}
use Rattle.ro_replica.proofs.Elements.{get_set, set_twice, set_itself}
use Rattle.ro_replica.proofs.Strikes.{NoneDue, struck_twice, struck_none}

pub plus_none : (o : Option RanTo) → option_map (plus_hit 0) o ≡ o
plus_none None = refl
plus_none (Some ran) = let e : 0 + ran.hit ≡ ran.hit = omega arith in ap (λ (hit : ℕ). Some (record ran { hit = hit })) e

pub plus_both : (m n : ℕ) (o : Option RanTo) → option_map (plus_hit m) (option_map (plus_hit n) o) ≡ option_map (plus_hit (m + n)) o
plus_both m n None = refl
plus_both m n (Some ran) = let e : m + (n + ran.hit) ≡ (m + n) + ran.hit = omega arith in ap (λ (hit : ℕ). Some (record ran { hit = hit })) e

-- a run begins with a strike
pub run_of_struck : (layout : Layout) (watchdog count : ℕ) (replica : Replica) (thread : ℕ) → run_of layout watchdog count replica thread ≡ option_map (plus_hit (struck layout.ranges replica thread).hit) (run_of layout watchdog count (struck layout.ranges replica thread).replica thread)
run_of_struck layout watchdog zero replica thread =
    let ran : RanTo = struck layout.ranges replica thread in
    let e : ran.hit ≡ ran.hit + 0 = omega arith in
    ap (λ (hit : ℕ). Some (record ran { hit = hit })) e ∙ ap (λ (r : RanTo). Some (plus_hit ran.hit r)) (sym (struck_twice layout.ranges replica thread))
run_of_struck layout watchdog (suc n) replica thread =
    let ran : RanTo = struck layout.ranges replica thread in
    let goes : RanTo → Option RanTo = λ r. option_and_then (λ after. run_of layout watchdog n after thread) (execute layout watchdog r.replica thread) in
    ap (option_map (plus_hit ran.hit)) (sym (ap (λ (r : RanTo). option_map (plus_hit r.hit) (goes r)) (struck_twice layout.ranges replica thread) ∙ plus_none (goes ran)))

-- the replica with a thread and a memory in the place of its own
abbrev pub placed : Replica → (thread : ℕ) → Running → Replica
placed replica thread running = record replica { memory = running.memory; threads = slice_set replica.threads thread running.thread }

-- one instruction of a thread is one of the replica
pub execute_is : (layout : Layout) (watchdog : ℕ) (replica : Replica) (number : ℕ) (thread : Thread) → slice_get replica.threads number ≡ Some thread → execute layout watchdog replica number ≡ option_map (placed replica number) (one_instruction layout watchdog replica.backed (record { thread = thread; memory = replica.memory }))
unfolding execute
execute_is layout watchdog replica number thread there =
    ap (option_and_then (execute_at layout watchdog number replica)) there ∙ by (thread.since == watchdog) (next layout replica.backed replica.memory thread.cpu)
  where
    by : (b : Bool) (n : Next) → cond b None (execute_next number replica thread n) ≡ option_map (placed replica number) (cond b None (after_next (record { thread = thread; memory = replica.memory }) n))
    by true n = refl
    by false (Stands stop) = refl
    by false (Executes instr) = refl

-- one instruction is counted
pub one_is_done : (layout : Layout) (watchdog : ℕ) (backed : Backed) (running after : Running) → one_instruction layout watchdog backed running ≡ Some after → after.thread.done ≡ running.thread.done + 1
one_is_done layout watchdog backed running after e = by (running.thread.since == watchdog) (next layout backed running.memory running.thread.cpu) e
  where
    by : (b : Bool) (n : Next) → cond b None (after_next running n) ≡ Some after → after.thread.done ≡ running.thread.done + 1
    by true n h = absurd (cc)
    by false (Stands stop) h = absurd (cc)
    by false (Executes instr) h = let same : after_instruction running instr ≡ after = cc in ap (λ (r : Running). r.thread.done) (sym same)

-- nor does one instruction change where the thread stands still
one_keeps_stop : (layout : Layout) (watchdog : ℕ) (backed : Backed) (running after : Running) → one_instruction layout watchdog backed running ≡ Some after → after.thread.stop ≡ running.thread.stop
one_keeps_stop layout watchdog backed running after e = by (running.thread.since == watchdog) (next layout backed running.memory running.thread.cpu) e
  where
    by : (b : Bool) (n : Next) → cond b None (after_next running n) ≡ Some after → after.thread.stop ≡ running.thread.stop
    by true n h = absurd (cc)
    by false (Stands stop) h = absurd (cc)
    by false (Executes instr) h = let same : after_instruction running instr ≡ after = cc in ap (λ (r : Running). r.thread.stop) (sym same)

-- no instructions do
pub instructions_keep_stop : (layout : Layout) (watchdog : ℕ) (backed : Backed) (count : ℕ) (running after : Running) → instructions layout watchdog backed count running ≡ Some after → after.thread.stop ≡ running.thread.stop
instructions_keep_stop layout watchdog backed zero running after e = let same : running ≡ after = cc in ap (λ (r : Running). r.thread.stop) (sym same)
instructions_keep_stop layout watchdog backed (suc n) running after e = by (one_instruction layout watchdog backed running) refl e (instructions_keep_stop layout watchdog backed n)
  where
    by : (o : Option Running) → one_instruction layout watchdog backed running ≡ o → option_and_then (instructions layout watchdog backed n) o ≡ Some after
        → ((running after : Running) → instructions layout watchdog backed n running ≡ Some after → after.thread.stop ≡ running.thread.stop) → after.thread.stop ≡ running.thread.stop
    by None one h more = absurd (cc)
    by (Some mid) one h more = more mid after h ∙ one_keeps_stop layout watchdog backed running mid one

-- a run of instructions in which no fault is due, and the rest of the run
pub run_of_instructions : (layout : Layout) (watchdog count rest : ℕ) (replica : Replica) (number : ℕ) (thread : Thread) (end : Running) → slice_get replica.threads number ≡ Some thread → ((k : ℕ) → k < count → NoneDue number (thread.done + k) replica) → instructions layout watchdog replica.backed count (record { thread = thread; memory = replica.memory }) ≡ Some end → run_of layout watchdog (count + rest) replica number ≡ run_of layout watchdog rest (placed replica number end) number
run_of_instructions layout watchdog zero rest replica number thread end there none e =
    let same : record { thread = thread; memory = replica.memory } ≡ end = cc in
    let n : 0 + rest ≡ rest = omega arith in
    ap (λ (m : ℕ). run_of layout watchdog m replica number) n
    ∙ ap (λ (threads : List Thread). run_of layout watchdog rest (record replica { threads = threads }) number) (sym (set_itself replica.threads number thread there))
    ∙ ap (λ (r : Running). run_of layout watchdog rest (placed replica number r) number) same
run_of_instructions layout watchdog (suc n) rest replica number thread end there none e =
    let first : Running = record { thread = thread; memory = replica.memory } in
    let e1 : suc n + rest ≡ suc (n + rest) = omega arith in
    let now : struck layout.ranges replica number ≡ record { replica = replica; hit = 0 } =
    struck_none layout.ranges replica number thread.done (ap (option_map (λ (x : Thread). x.done)) there)
    (subst (λ (done : ℕ). NoneDue number done replica) (let z : thread.done + 0 ≡ thread.done = omega arith in z) (none 0 (omega arith))) in
    let goes : Option Replica → Option RanTo = option_and_then (λ after. run_of layout watchdog (n + rest) after number) in
    ap (λ (m : ℕ). run_of layout watchdog m replica number) e1
    ∙ ap (λ (r : RanTo). option_map (plus_hit r.hit) (goes (execute layout watchdog r.replica number))) now
    ∙ plus_none (goes (execute layout watchdog replica number))
    ∙ ap goes (execute_is layout watchdog replica number thread there)
    ∙ by (one_instruction layout watchdog replica.backed first) refl e (run_of_instructions layout watchdog n rest)
  where
    by : (o : Option Running) → one_instruction layout watchdog replica.backed (record { thread = thread; memory = replica.memory }) ≡ o
        → option_and_then (instructions layout watchdog replica.backed n) o ≡ Some end
        → ((replica : Replica) (number : ℕ) (thread : Thread) (end : Running) → slice_get replica.threads number ≡ Some thread → ((k : ℕ) → k < n → NoneDue number (thread.done + k) replica) → instructions layout watchdog replica.backed n (record { thread = thread; memory = replica.memory }) ≡ Some end → run_of layout watchdog (n + rest) replica number ≡ run_of layout watchdog rest (placed replica number end) number)
        → option_and_then (λ after. run_of layout watchdog (n + rest) after number) (option_map (placed replica number) o) ≡ run_of layout watchdog rest (placed replica number end) number
    by None one h more = absurd (cc)
    by (Some after) one h more =
        let done : after.thread.done ≡ thread.done + 1 = one_is_done layout watchdog replica.backed (record { thread = thread; memory = replica.memory }) after one in
        more (placed replica number after) number after.thread end (get_set replica.threads number thread after.thread there)
        (λ k within. subst (λ (d : ℕ). NoneDue number d replica) (let m : thread.done + (k + 1) ≡ after.thread.done + k = omega arith in m) (none (k + 1) (omega arith)))
        h
        ∙ ap (λ (threads : List Thread). run_of layout watchdog rest (record replica { memory = end.memory; threads = threads }) number) (set_twice replica.threads number after.thread end.thread)
