-- Runs that touch only backed pages: a thread's step taken before or after the steps that other threads have run ahead.
use Rattle.std.specs.Prelude.{◌≡◌, ℕ, zero, suc, List, [], ◌∷◌, ◌++◌, length, replicate, Some, None}
use Rattle.std.specs.Option.{option_and_then}
use Rattle.std.proofs.Common.{refl, sym, ap, ◌∙◌, subst, append-nil}
use Rattle.std.proofs.lemmas.List.{length-set}
use Rattle.ro_decode.specs.declared.Instr.{Instr}
use Rattle.ro_exec.specs.declared.Cpu.{Cpu}
use Rattle.ro_exec.specs.Next.{Backed, Executes, next}
use Rattle.ro_exec.proofs.Backing.{executes-backed}
use Rattle.ro_plain.specs.Machine.{Program, Machine, opening, executed, next_of, steppable, step, IsPlain, run, BackedRun, nothing_left, then_backed, layout_in}
use Rattle.ro_plain.specs.Order.{RaceFree}
use Rattle.ro_plain.proofs.Commute.{steppable-other, plain-step}
use Rattle.ro_plain.proofs.Calls.{some-injective}
use Rattle.ro_plain.proofs.Swap.{mid, Swapped, run-append, quiet, race-free-swap, goes-on-too}
use Rattle.ro_plain.proofs.Exists.{exists-too}
use Rattle.ro_plain.proofs.Ahead.{Without, reach-one, PlainRun-going, plain-going}
use Rattle.ro_exec.specs.Parts.{IsMore}
use Rattle.ro_exec.proofs.MorePages.{executes-more}
use Rattle.ro_plain.proofs.StaysAfter.{Stays, stays}

-- the thread's step is a plain instruction that touches only backed pages
pub record StepsBacked (program : Program) (backed : Backed) (machine : Machine) (t : ℕ) : Type 0 where
  pub cpu : Cpu
  pub instr : Instr
  pub live : steppable machine t ≡ Some cpu
  pub executes : next (layout_in program machine.kernel) backed machine.memory cpu ≡ Executes instr

-- such a step is a plain instruction
pub plain-of : (program : Program) (backed : Backed) (machine : Machine) (t : ℕ) → StepsBacked program backed machine t → IsPlain program machine t
plain-of program backed machine t h =
    record { cpu = h.cpu; instr = h.instr; live = h.live; executes = executes-backed (layout_in program machine.kernel) backed machine.memory h.cpu h.instr h.executes }

-- its instruction is what the thread does next
pub plain-executes : (program : Program) (backed : Backed) (machine : Machine) (t : ℕ) (h : StepsBacked program backed machine t) → next_of program machine h.cpu ≡ Executes h.instr
plain-executes program backed machine t h = executes-backed (layout_in program machine.kernel) backed machine.memory h.cpu h.instr h.executes

-- the step is its instruction's change
pub backed-step : (program : Program) (backed : Backed) (machine : Machine) (t : ℕ) (h : StepsBacked program backed machine t) → step program machine t ≡ Some (executed machine t h.cpu h.instr)
unfolding plain-of
backed-step program backed machine t h = plain-step program machine t (plain-of program backed machine t h)

-- ---- runs in parts

-- a run of two lists of steps, and the machine between them
pub record BackedParts (program : Program) (backed : Backed) (machine : Machine) (xs ys : List ℕ) (end : Machine) : Type 0 where
  pub middle : Machine
  pub front : BackedRun program backed machine xs middle
  pub back : BackedRun program backed middle ys end

-- a run of two lists can be cut between them
pub BackedRun-split : (program : Program) (backed : Backed) (machine end : Machine) (xs ys : List ℕ) → BackedRun program backed machine (xs ++ ys) end → BackedParts program backed machine xs ys end
BackedRun-split program backed machine end [] ys h = record { middle = machine; front = nothing_left; back = h }
BackedRun-split program backed machine end (x ∷ xs) ys (then_backed {after = next} cpu instr live ex e rest) =
    let parts = BackedRun-split program backed next end xs ys rest in
    record { middle = parts.middle; front = then_backed cpu instr live ex e parts.front; back = parts.back }

-- a run and one from its end are one run
pub BackedRun-join : (program : Program) (backed : Backed) {machine middle end : Machine} {xs ys : List ℕ} → BackedRun program backed machine xs middle → BackedRun program backed middle ys end → BackedRun program backed machine (xs ++ ys) end
BackedRun-join program backed nothing_left k = k
BackedRun-join program backed (then_backed cpu instr live ex e rest) k = then_backed cpu instr live ex e (BackedRun-join program backed rest k)

-- the first step of a run, and the others
pub record BackedHead (program : Program) (backed : Backed) (machine : Machine) (t : ℕ) (rest : List ℕ) (end : Machine) : Type 0 where
  pub after : Machine
  pub backed_step : StepsBacked program backed machine t
  pub steps : step program machine t ≡ Some after
  pub runs : BackedRun program backed after rest end

-- a run of one step and more begins with that step
pub BackedRun-head : (program : Program) (backed : Backed) (machine end : Machine) (t : ℕ) (rest : List ℕ) → BackedRun program backed machine (t ∷ rest) end → BackedHead program backed machine t rest end
BackedRun-head program backed machine end t rest (then_backed {after = next} cpu instr live ex e runs) =
    record { after = next; backed_step = record { cpu = cpu; instr = instr; live = live; executes = ex }; steps = e; runs = runs }

-- a step and a run from its machine are one run
pub then-step : (program : Program) (backed : Backed) {machine after end : Machine} {t : ℕ} {rest : List ℕ} → StepsBacked program backed machine t → step program machine t ≡ Some after → BackedRun program backed after rest end → BackedRun program backed machine (t ∷ rest) end
then-step program backed h e runs = then_backed h.cpu h.instr h.live h.executes e runs

-- the list's steps lead to the end
pub BackedRun-run : (program : Program) (backed : Backed) {machine end : Machine} {xs : List ℕ} → BackedRun program backed machine xs end → run program machine xs ≡ Some end
BackedRun-run program backed nothing_left = refl
BackedRun-run program backed (then_backed {thread = x} {threads = xs} cpu instr live ex e rest) =
    ap (option_and_then (λ m. run program m xs)) e ∙ BackedRun-run program backed rest

-- a run with more pages backed
pub BackedRun-more : (program : Program) (backed more : Backed) → IsMore backed more → {machine end : Machine} {xs : List ℕ} → BackedRun program backed machine xs end → BackedRun program more machine xs end
BackedRun-more program backed more h nothing_left = nothing_left
BackedRun-more program backed more h (then_backed {machine = machine} cpu instr live ex e rest) =
    then_backed cpu instr live (executes-more backed more h (layout_in program machine.kernel) machine.memory cpu instr ex) e (BackedRun-more program backed more h rest)

-- plain steps change neither the kernel nor the output, make no thread, and do not end the program
pub record KeepsRest (machine end : Machine) : Type 0 where
  pub same_kernel : end.kernel ≡ machine.kernel
  pub same_output : end.output ≡ machine.output
  pub same_end : end.ended ≡ machine.ended
  pub same_length : length end.cpus ≡ length machine.cpus

-- a run of plain steps keeps all but memory and registers
pub BackedRun-keeps : (program : Program) (backed : Backed) {machine end : Machine} {xs : List ℕ} → BackedRun program backed machine xs end → KeepsRest machine end
BackedRun-keeps program backed nothing_left = record { same_kernel = refl; same_output = refl; same_end = refl; same_length = refl }
BackedRun-keeps program backed (then_backed {machine = machine} {after = after} {thread = x} cpu instr live ex e rest) =
    let later = BackedRun-keeps program backed rest in
    let here = some-injective (sym e ∙ plain-step program machine x (plain-of program backed machine x (record { cpu = cpu; instr = instr; live = live; executes = ex }))) in
    record {
      same_kernel = later.same_kernel ∙ ap (λ (m : Machine). m.kernel) here;
      same_output = later.same_output ∙ ap (λ (m : Machine). m.output) here;
      same_end = later.same_end ∙ ap (λ (m : Machine). m.ended) here;
      same_length = later.same_length ∙ (ap (λ (m : Machine). length m.cpus) here ∙ length-set machine.cpus x _);
    }

-- ---- a list of steps from the opening, and more

-- a list of steps from the opening, and a run from there
pub reach-run : (program : Program) (backed : Backed) (before : List ℕ) {machine end : Machine} {xs : List ℕ} → run program (opening program) before ≡ Some machine → BackedRun program backed machine xs end → run program (opening program) (before ++ xs) ≡ Some end
reach-run program backed before {machine} {end} {xs} reached h =
    run-append program (opening program) before xs ∙ (ap (option_and_then (λ m. run program m xs)) reached ∙ BackedRun-run program backed h)

module _ (program : Program) (free : RaceFree program) (backed : Backed) where
  -- the program goes on after a plain step
  step-going : (machine after : Machine) (t : ℕ) → StepsBacked program backed machine t → step program machine t ≡ Some after → after.ended ≡ None
  step-going machine after t h e =
      let p = plain-of program backed machine t h in PlainRun-going program machine t p after e ∙ plain-going program machine t p

  -- the thread's step from the machine before the others' steps
  pub record TakenBefore (machine : Machine) (t : ℕ) (others : List ℕ) (end last : Machine) : Type 0 where
    pub after : Machine
    pub step_t : step program machine t ≡ Some after
    pub goes_on : after.ended ≡ None
    pub runs : BackedRun program backed after others last
    pub backed_too : StepsBacked program backed end t → StepsBacked program backed machine t

  -- a step at the end of what others ran ahead can come first
  pub take-before : (before : List ℕ) (t : ℕ) {machine end : Machine} {others : List ℕ} (last : Machine) → run program (opening program) before ≡ Some machine → BackedRun program backed machine others end → Without t others → step program end t ≡ Some last → last.ended ≡ None → TakenBefore machine t others end last
  take-before before t last reached nothing_left apart e going = record { after = last; step_t = e; goes_on = going; runs = nothing_left; backed_too = λ q. q }
  take-before before t {machine} {end} last reached (then_backed {after = next} {thread = x} {threads = others} cpu instr live ex sx rest) apart e going =
      let h : StepsBacked program backed machine x = record { cpu = cpu; instr = instr; live = live; executes = ex } in
      let px : IsPlain program machine x = plain-of program backed machine x h in
      let later = take-before (before ++ x ∷ []) t last (reach-one program free before machine next x reached sx) rest apart.1 e going in
      let here : next ≡ mid program machine x t apart.0 px = some-injective (sym sx ∙ plain-step program machine x px) in
      let swapped : Swapped program machine x t apart.0 px later.after = race-free-swap program free before machine reached x t apart.0 px later.after (subst (λ (m : Machine). step program m t ≡ Some later.after) here later.step_t) later.goes_on in
      let moved : Stays program machine swapped.after x cpu = stays program free before machine reached t x (λ f. apart.0 (sym f)) swapped.after swapped.step_u swapped.goes_on cpu live in
      record {
        after = swapped.after;
        step_t = swapped.step_u;
        goes_on = swapped.goes_on;
        runs = then_backed cpu instr moved.live (sym (moved.next_stays backed) ∙ ex) (swapped.orders.last_t ∙ ap Some swapped.same_end) later.runs;
        backed_too = λ q.
            let r = later.backed_too q in
            let live_here : steppable machine t ≡ Some r.cpu = sym (steppable-other machine x t _ apart.0) ∙ (ap (λ (m : Machine). steppable m t) (sym here) ∙ r.live) in
            let s : Stays program machine next t r.cpu = stays program free before machine reached x t apart.0 next sx (step-going machine next x h sx) r.cpu live_here in
            record { cpu = r.cpu; instr = r.instr; live = live_here; executes = s.next_stays backed ∙ r.executes };
      }

  -- the thread's step from the machine after the others' steps
  pub record TakenAfter (after : Machine) (t : ℕ) (others : List ℕ) (end : Machine) : Type 0 where
    pub last : Machine
    pub step_t : step program end t ≡ Some last
    pub goes_on : last.ended ≡ None
    pub runs : BackedRun program backed after others last

  -- a step can come behind what others have run ahead
  pub take-after : (before : List ℕ) (t : ℕ) {machine end : Machine} {others : List ℕ} (after : Machine) → run program (opening program) before ≡ Some machine → BackedRun program backed machine others end → Without t others → step program machine t ≡ Some after → after.ended ≡ None → TakenAfter after t others end
  take-after before t after reached nothing_left apart e going = record { last = after; step_t = e; goes_on = going; runs = nothing_left }
  take-after before t {machine} {end} after reached (then_backed {after = next} {thread = x} {threads = others} cpu instr live ex sx rest) apart e going =
      let h : StepsBacked program backed machine x = record { cpu = cpu; instr = instr; live = live; executes = ex } in
      let px : IsPlain program machine x = plain-of program backed machine x h in
      let here : next ≡ mid program machine x t apart.0 px = some-injective (sym sx ∙ plain-step program machine x px) in
      let there = exists-too program machine (mid program machine x t apart.0 px) t after refl (sym (steppable-other machine x t _ apart.0)) e in
      let on : there.0.ended ≡ None = goes-on-too program machine x t apart.0 px after there.0 e there.1 going (quiet program free before machine reached x t apart.0 px there.0 there.1) in
      let swapped : Swapped program machine x t apart.0 px there.0 = race-free-swap program free before machine reached x t apart.0 px there.0 there.1 on in
      let same : swapped.after ≡ after = some-injective (sym swapped.step_u ∙ e) in
      let moved : Stays program machine swapped.after x cpu = stays program free before machine reached t x (λ f. apart.0 (sym f)) swapped.after swapped.step_u swapped.goes_on cpu live in
      let later = take-after (before ++ x ∷ []) t there.0 (reach-one program free before machine next x reached sx) rest apart.1 (subst (λ (m : Machine). step program m t ≡ Some there.0) (sym here) there.1) on in
      record {
        last = later.last;
        step_t = later.step_t;
        goes_on = later.goes_on;
        runs = subst (λ (m : Machine). BackedRun program backed m (x ∷ others) later.last) same (then_backed cpu instr moved.live (sym (moved.next_stays backed) ∙ ex) (swapped.orders.last_t ∙ ap Some swapped.same_end) later.runs);
      }

  -- a thread's own steps at the end of a run can come first
  pub pull : (before : List ℕ) (t : ℕ) (others : List ℕ) (n : ℕ) (machine end : Machine) → run program (opening program) before ≡ Some machine → Without t others → BackedRun program backed machine (others ++ replicate n t) end → BackedRun program backed machine (replicate n t ++ others) end
  pull before t others zero machine end reached apart h = subst (λ (xs : List ℕ). BackedRun program backed machine xs end) (append-nil others) h
  pull before t others (suc n) machine end reached apart h =
      let parts = BackedRun-split program backed machine end others (t ∷ replicate n t) h in
      let head = BackedRun-head program backed parts.middle end t (replicate n t) parts.back in
      let going : head.after.ended ≡ None = step-going parts.middle head.after t head.backed_step head.steps in
      let taken = take-before before t head.after reached parts.front apart head.steps going in
      then-step program backed (taken.backed_too head.backed_step) taken.step_t
      (pull (before ++ t ∷ []) t others n taken.after end (reach-one program free before machine taken.after t reached taken.step_t) apart (BackedRun-join program backed taken.runs head.runs))

  -- one more step of the thread at the end can come before the others' steps
  pub push : (before : List ℕ) (t : ℕ) (front back : List ℕ) (machine end last : Machine) → run program (opening program) before ≡ Some machine → Without t back → BackedRun program backed machine (front ++ back) end → StepsBacked program backed end t → step program end t ≡ Some last → BackedRun program backed machine (front ++ t ∷ back) last
  push before t front back machine end last reached apart h s e =
      let parts = BackedRun-split program backed machine end front back h in
      let taken = take-before (before ++ front) t last (reach-run program backed before reached parts.front) parts.back apart e (step-going end last t s e) in
      BackedRun-join program backed parts.front (then-step program backed (taken.backed_too s) taken.step_t taken.runs)

  -- what a thread does next stays, whatever steps of others are run ahead
  pub stays-along : (before : List ℕ) (t : ℕ) {machine end : Machine} {others : List ℕ} (cpu : Cpu) → run program (opening program) before ≡ Some machine → BackedRun program backed machine others end → Without t others → steppable machine t ≡ Some cpu → Stays program machine end t cpu
  stays-along before t cpu reached nothing_left apart live = record { live = live; next_stays = λ b. refl }
  stays-along before t {machine} {end} cpu reached (then_backed {after = next} {thread = x} own instr live_x ex sx rest) apart live =
      let h : StepsBacked program backed machine x = record { cpu = own; instr = instr; live = live_x; executes = ex } in
      let here : Stays program machine next t cpu = stays program free before machine reached x t apart.0 next sx (step-going machine next x h sx) cpu live in
      let later = stays-along (before ++ x ∷ []) t cpu (reach-one program free before machine next x reached sx) rest apart.1 here.live in
      record { live = later.live; next_stays = λ b. here.next_stays b ∙ later.next_stays b }
