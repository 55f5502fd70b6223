-- From the parts of a plan to the plan of the opening machine.
use Rattle.std.specs.Prelude.{◌≡◌, ℕ, zero, suc, ◌<◌, ◌≤◌, List, [], ◌∷◌, ◌++◌, length, take, Option, Some, None, is_none, slice_get, slice_index, Bool, true, false, cond, ◌&&◌}
use Rattle.std.specs.Option.{option_and_then}
use Rattle.std.proofs.Common.{refl, sym, ap, ◌∙◌, subst, inl, inr, arith, length-append}
use Rattle.std.proofs.Math.Seq.{take-append_seam, take-length}
use Rattle.std.proofs.lemmas.Bool.{cases_lt}
use Rattle.ro_journal.specs.declared.How.{How}
use Rattle.ro_journal.specs.declared.How.TheVariants.{Deadlock}
use Rattle.ro_kernel.specs.Kernel.{lives_on}
use Rattle.ro_plain.specs.Machine.{Program, Machine, opening, run, step, step_by, next_of, steppable}
use Rattle.ro_io.specs.Outside.{more}
use Rattle.ro_machine.specs.declared.errors.PlanError.{PlanError}
use Rattle.ro_machine.specs.declared.errors.PlanError.TheVariants.{NoStep, SinkFailed, NoMemory}
use Rattle.ro_machine.specs.Seen.{PlainOf, machine_of, Steps, HasNoStep, SameMachine}
use Rattle.ro_machine.specs.Parts.{Plays, Played, Halts}
use Rattle.ro_machine.specs.Plans.{Reaches, EndsAs, RunsPlan, LacksStep, StopsShort, Fails}
use Rattle.ro_io.proofs.Sends.{more-none}

at-seam : (xs : List ℕ) (y : ℕ) (ys : List ℕ) → slice_index (xs ++ y ∷ ys) (length xs) ≡ y
at-seam [] y ys = refl
at-seam (x ∷ xs) y ys = at-seam xs y ys

-- memory was wanting before the first step
pub stops-begin : (program : Program) (plan : List ℕ) (h : Option (List ℕ)) → StopsShort program plan h h
unfolding opening
stops-begin program plan h = record { place = 0; machine = opening program; reaches = record { within = omega arith; runs = refl }; held = sym (more-none h) }

module _ (program : Program) (old : PlainOf) (same : old.program ≡ program) (start : machine_of old [] ≡ opening program) where
  -- a part from the opening
  from-opening : (threads bytes : List ℕ) (mid : PlainOf) → Plays old threads mid bytes → run program (opening program) threads ≡ Some (machine_of mid bytes)
  from-opening threads bytes mid p = ap (λ r. run r (opening program) threads) (sym same) ∙ (ap (λ m. run old.program m threads) (sym start) ∙ p.runs [])

  reached : (plan played rest bytes : List ℕ) (mid : PlainOf) → plan ≡ played ++ rest → Plays old played mid bytes → Reaches program plan (length played) (machine_of mid bytes)
  reached plan played rest bytes mid e p = record {
    within = omega (arith, ap length e, length-append played rest);
    runs = ap (run program (opening program)) (ap (take (length played)) e ∙ take-append_seam played rest) ∙ from-opening played bytes mid p;
  }

  -- the step after a part
  step-there : (plan played rest : List ℕ) (thread : ℕ) (mid : PlainOf) (bytes : List ℕ) (m : Option Machine) → plan ≡ played ++ thread ∷ rest → Plays old played mid bytes → step mid.program (machine_of mid bytes) thread ≡ m → step program (machine_of mid bytes) (slice_index plan (length played)) ≡ m
  step-there plan played rest thread mid bytes m e p h =
      ap (step program (machine_of mid bytes)) (ap (λ xs. slice_index xs (length played)) e ∙ at-seam played thread rest)
      ∙ (ap (λ r. step r (machine_of mid bytes) thread) (sym (p.program ∙ same)) ∙ h)

  within-there : (plan played rest : List ℕ) (thread : ℕ) → plan ≡ played ++ thread ∷ rest → length played < length plan
  within-there plan played rest thread e = omega (arith, ap length e, length-append played (thread ∷ rest))

  -- why the plan was not run to its end
  pub fails : (plan : List ℕ) (h k : Option (List ℕ)) (before after : ℕ) (e : PlanError) → Halts old plan h k 0 before after e → Fails program plan h k before after e
  fails plan h k before after (NoStep place) (q, calm) =
      let at : length q.played ≡ place = omega (arith, q.place_is) in (
        subst (LacksStep program plan h k) at (record {
          machine = machine_of q.mid q.bytes;
          reaches = reached plan q.played (q.thread ∷ q.rest) q.bytes q.mid q.all q.plays;
          within = within-there plan q.played q.rest q.thread q.all;
          none = step-there plan q.played q.rest q.thread q.mid q.bytes None q.all q.plays (q.none q.bytes);
          held = q.held;
        }),
        calm,
      )
  fails plan h k before after (SinkFailed taken) (q, r) = (
    record {
      place = length q.played;
      machine = machine_of q.mid q.bytes;
      after = machine_of q.after (q.bytes ++ q.after.written);
      payload = q.after.written;
      reaches = reached plan q.played (q.thread ∷ q.rest) q.bytes q.mid q.all q.plays;
      within = within-there plan q.played q.rest q.thread q.all;
      steps = step-there plan q.played q.rest q.thread q.mid q.bytes (Some (machine_of q.after (q.bytes ++ q.after.written))) q.all q.plays (q.steps q.bytes);
      writes = refl;
      short = q.short;
      held = q.held;
    },
    r,
  )
  fails plan h k before after NoMemory (q, calm) = (
    record {
      place = length q.played;
      machine = machine_of q.mid q.bytes;
      reaches = reached plan q.played q.rest q.bytes q.mid q.all q.plays;
      held = q.held;
    },
    calm,
  )

  -- the plan was run to its end
  pub runs-plan : (new : PlainOf) (plan : List ℕ) (h k : Option (List ℕ)) (s t b : ℕ) (how : Option How) → Played old plan new h k s t 0 b → ((output : List ℕ) → EndsAs new.program (machine_of new output) new.ended how) → RunsPlan program plan h k how b
  runs-plan new plan h k s t b how p ends = record {
    machine = machine_of new p.bytes;
    runs = from-opening plan p.bytes new p.plays;
    held = p.held;
    bytes_are = omega (arith, p.bytes_are);
    how_is = subst (λ (r : Program). EndsAs r (machine_of new p.bytes) new.ended how) (p.plays.program ∙ same) (ends p.bytes);
  }

  -- memory was wanting behind the last step
  pub stops-end : (new : PlainOf) (plan : List ℕ) (h k : Option (List ℕ)) (s t b : ℕ) → Played old plan new h k s t 0 b → StopsShort program plan h k
  stops-end new plan h k s t b p = record {
    place = length plan;
    machine = machine_of new p.bytes;
    reaches = record { within = omega arith; runs = ap (run program (opening program)) (take-length plan) ∙ from-opening plan p.bytes new p.plays };
    held = p.held;
  }

-- a thread that was never made has no step
slice_get-past : {X : Type 0} (xs : List X) (i : ℕ) → length xs ≤ i → slice_get xs i ≡ None
slice_get-past [] i h = refl
slice_get-past (x ∷ xs) zero h = absurd (omega arith)
slice_get-past (x ∷ xs) (suc i) h = slice_get-past xs i (omega arith)

none-either : {X : Type 0} (b : Bool) (o : Option X) → o ≡ None → cond b o None ≡ None
none-either true o h = h
none-either false o h = refl

unmade : (program : Program) (machine : Machine) (thread : ℕ) → length machine.cpus ≤ thread → step program machine thread ≡ None
unfolding step steppable
unmade program machine thread h =
    ap (option_and_then (λ cpu. step_by program machine thread cpu (next_of program machine cpu))) (none-either (is_none machine.ended && lives_on machine.kernel thread) (slice_get machine.cpus thread) (slice_get-past machine.cpus thread h))

-- a step of the same machine
there-too : (p mid : PlainOf) (thread : ℕ) (output : List ℕ) (m : Option Machine) → mid.program ≡ p.program → SameMachine mid p → step mid.program (machine_of mid output) thread ≡ m → step p.program (machine_of p output) thread ≡ m
there-too p mid thread output m program same h = ap (λ r. step r (machine_of p output) thread) (sym program) ∙ (ap (λ x. step mid.program x thread) (sym (same output)) ∙ h)

pub none-there : (p mid : PlainOf) (thread : ℕ) → mid.program ≡ p.program → SameMachine mid p → HasNoStep mid thread → HasNoStep p thread
none-there p mid thread program same h output = there-too p mid thread output None program same (h output)

-- some thread has a step
pub goes-on : (p mid after : PlainOf) (thread : ℕ) → p.ended ≡ None → mid.program ≡ p.program → SameMachine mid p → Steps mid thread after → (output : List ℕ) → EndsAs p.program (machine_of p output) p.ended None
goes-on p mid after thread none program same h output =
    subst (λ (o : Option How). EndsAs p.program (machine_of p output) o None) (sym none)
    (thread, machine_of after (output ++ after.written), there-too p mid thread output (Some (machine_of after (output ++ after.written))) program same (h output))

-- no thread has one
pub is-stuck : (p : PlainOf) → p.ended ≡ None → ((k : ℕ) → k < length p.cpus → HasNoStep p k) → (output : List ℕ) → EndsAs p.program (machine_of p output) p.ended (Some Deadlock)
is-stuck p none all output =
    subst (λ (o : Option How). EndsAs p.program (machine_of p output) o (Some Deadlock)) (sym none) (
      refl,
      λ t. elim (cases_lt t (length p.cpus)) [
        | inl less ↦ all t less output
        | inr more ↦ unmade p.program (machine_of p output) t more
      ],
    )
