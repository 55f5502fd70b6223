-- A run of the journal's plan repeats the journal's run.
use Rattle.std.proofs.Common.{◌≡◌, ℕ, suc, List, ◌∷◌, ◌++◌, length, take, drop, get_or, Option, Some, None, sym, ap, ◌∙◌, subst}
use Rattle.std.specs.Option.{option_and_then}
use Rattle.std.proofs.Math.Seq.{drop-cons}
use Rattle.std.proofs.lemmas.List.{take-append-drop}
use Rattle.ro_io.specs.Outside.{more}
use Rattle.ro_journal.specs.declared.How.{How}
use Rattle.ro_journal.specs.declared.How.TheVariants.{Exit, Trap, Deadlock, Limit, Differ, NoMajority, Sink}
use Rattle.ro_journal.specs.declared.Entry.{Entry}
use Rattle.ro_journal.specs.Plan.{plan_of, outcome_of}
use Rattle.ro_plain.specs.Machine.{Program, Machine, opening, step, run}
use Rattle.ro_plain.proofs.Calls.{some-injective}
use Rattle.ro_plain.proofs.Swap.{run-append}
use Rattle.ro_legal.specs.Core.{Job}
use Rattle.ro_legal.specs.Legal.{output_of}
use Rattle.ro_machine.specs.Plans.{RunsPlan, LacksStep, EndsAs, IsLeft}
use Rattle.ro_simulation.specs.Theorem.{IsComplete, WritesAsIdeal, EndsAs as StandsAs}
use Rattle.ro_simulation.specs.Repeated.{IsRepeated}

-- a plan of which a step does not exist does not run
lacks-none : (program : Program) (plan : List ℕ) (old new : Option (List ℕ)) (place : ℕ) → LacksStep program plan old new place → run program (opening program) plan ≡ None
lacks-none program plan old new place lacks =
    let t : ℕ = get_or plan place 0 in
    let whole : take place plan ++ t ∷ drop (suc place) plan ≡ plan =
    ap (λ (xs : List ℕ). take place plan ++ xs) (sym (drop-cons plan place 0 lacks.within)) ∙ take-append-drop place plan
    in
    ap (run program (opening program)) (sym whole)
    ∙ run-append program (opening program) (take place plan) (t ∷ drop (suc place) plan)
    ∙ ap (option_and_then (λ (m : Machine). run program m (t ∷ drop (suc place) plan))) lacks.reaches.runs
    ∙ ap (option_and_then (λ (m : Machine). run program m (drop (suc place) plan))) lacks.none

none-some : {X : Type 0} {x : X} {o : Option X} → o ≡ None → o ≡ Some x → ⊥
none-some e f = let g : None ≡ Some _ = sym e ∙ f in cc

-- where the machine has ended, that is the answer
ended-answer : (program : Program) (machine : Machine) (how : How) (o answer : Option How) → o ≡ Some how → EndsAs program machine o answer → answer ≡ Some how
ended-answer program machine how o answer e h = subst (λ (p : Option How). EndsAs program machine p answer) e h

-- where no thread has a step, it is a deadlock
stuck-answer : (program : Program) (machine : Machine) (answer : Option How) → ((thread : ℕ) → step program machine thread ≡ None) → IsLeft program machine answer → answer ≡ Some Deadlock
stuck-answer program machine None none (thread, after, e) = absurd (none-some (none thread) e)
stuck-answer program machine (Some how) none (e, _) = ap Some e

same-answer : (program : Program) (machine : Machine) (how : How) (answer : Option How) → IsComplete how → StandsAs program machine how → EndsAs program machine machine.ended answer → answer ≡ Some how
same-answer program machine (Exit status) answer whole ends h = ended-answer program machine (Exit status) machine.ended answer ends h
same-answer program machine (Trap code) answer whole ends h = ended-answer program machine (Trap code) machine.ended answer ends h
same-answer program machine Deadlock answer whole ends h = stuck-answer program machine answer ends.1 (subst (λ (p : Option How). EndsAs program machine p answer) ends.0 h)
same-answer program machine (Limit steps next) answer whole ends h = elim whole [ ]
same-answer program machine Differ answer whole ends h = elim whole [ ]
same-answer program machine NoMajority answer whole ends h = elim whole [ ]
same-answer program machine (Sink bytes) answer whole ends h = elim whole [ ]

pub is-repeated : (job : Job) (journal : List Entry) (how : How) → WritesAsIdeal job journal → outcome_of journal ≡ Some how → IsComplete how → IsRepeated job journal how
is-repeated job journal how ideal outcome whole =
    let both = ideal.complete how outcome whole in
    let same : (old new : Option (List ℕ)) (answer : Option How) (bytes : ℕ) (r : RunsPlan job.program (plan_of journal) old new answer bytes) → r.machine ≡ ideal.machine = λ old new answer bytes r. some-injective (sym r.runs ∙ ideal.ideal_is) in
    record {
      steps_exist = λ old new place lacks. none-some (lacks-none job.program (plan_of journal) old new place lacks) ideal.ideal_is;
      same_end = λ old new answer bytes r.
          same-answer job.program ideal.machine how answer whole both.1 (subst (λ (m : Machine). EndsAs job.program m m.ended answer) (same old new answer bytes r) r.how_is);
      same_output = λ old new answer bytes r.
          let out : r.machine.output ≡ output_of job journal = ap (λ (m : Machine). m.output) (same old new answer bytes r) ∙ sym both.0 in
          (r.held ∙ ap (more old) out, r.bytes_are ∙ ap length out);
    }
