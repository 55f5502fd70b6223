-- One struck register is covered by the simulation theorem; two replicas struck alike are not.
use Rattle.std.specs.Prelude.{◌≡◌, ◌≢◌, ℕ, zero, suc, ◌≤◌, true, List, [], ◌∷◌, length, Option, Some, None, slice_get, slice_index}
use Rattle.std.specs.Option.{option_map}
use Rattle.std.proofs.Common.{inl, refl, sym, ap, ◌∙◌, arith, inr}
use Rattle.std.proofs.Math.Dec.{lit<, lit≤}
use Rattle.ro_journal.specs.Leases.{lease_to}
use Rattle.ro_journal.specs.declared.losers.Lost.TheVariants.{One}
use Rattle.ro_decode.specs.Table.{instruction_of}
use Rattle.ro_event.specs.Table.{call_at}
use Rattle.ro_region.specs.Permission.{permits_of}
use Rattle.ro_alu.specs.Results.{alu_of}
use Rattle.ro_exec.specs.Meaning.{meaning}
use Rattle.ro_exec.specs.declared.Cpu.{Cpu}
use Rattle.ro_exec.specs.Next.{fetch_stop, instruction_stop, next}
use Rattle.ro_exec.specs.Threads.{first_cpu, made_cpu}
use Rattle.ro_kernel.specs.Kernel.{lives_on}
use Rattle.ro_thread.specs.declared.Thread.{Thread}
use Rattle.ro_kernel.specs.Serve.{serve, payload_of}
use Rattle.ro_journal.specs.declared.Did.TheVariants.{Served}
use Rattle.ro_journal.specs.declared.How.TheVariants.{Exit, Sink}
use Rattle.ro_journal.specs.declared.Entry.{Entry}
use Rattle.ro_journal.specs.declared.Entry.TheVariants.{Take, Put, Vote, End}
use Rattle.ro_journal.specs.Plan.{outcome_of}
use Rattle.ro_vote.specs.Verdict.{verdict_of}
use Rattle.ro_faults.specs.declared.Fault.{Fault}
use Rattle.ro_replica.specs.Replica.{Replica, opening_replica, applied, cancelled, recovered}
use Rattle.ro_replica.specs.Runs.{struck, execute}
use Rattle.ro_plain.specs.Machine.{Machine, opening, steppable, step, run}
use Rattle.ro_legal.specs.Core.{Job, sharing_of, opening_core}
use Rattle.ro_legal.specs.Event.{event_of}
use Rattle.ro_legal.specs.Legal.{Legal, after, output_of, due}
use Rattle.ro_legal.specs.Ideal.{ahead, IsAlike, StaysApart}
use Rattle.ro_simulation.specs.Theorem.{StaysAlone, AllOfOne, Simulates}
use Rattle.ro_legal.specs.Sound.{Listed}
use Rattle.ro_simulation.specs.Guests.{exit_guest, usual_job}
use Rattle.ro_simulation.specs.Rows.{flip_a0, one_struck, two_struck, IsCovered}
use Rattle.ro_simulation.proofs.Ahead.{BackedRun-run}
use Rattle.ro_simulation.proofs.Simulates.{simulates}
use Rattle.ro_simulation.proofs.Laws.{one-struck-apart, alone-race-free}
use Rattle.ro_simulation.proofs.AtMostOne.{apart-before}
use Rattle.ro_plain.proofs.Calls.{some-injective}

-- ---- the guest makes no thread

-- one thread in a machine that was computed
pub one-life : (machine : Machine) (o : Option Machine) → o ≡ Some machine → option_map (λ (m : Machine). length m.kernel.lives) o ≡ Some 1 → length machine.kernel.lives ≤ 1
one-life machine o e f =
    let same : length machine.kernel.lives ≡ 1 = some-injective (sym (ap (option_map (λ (m : Machine). length m.kernel.lives)) e) ∙ f) in omega arith

-- steps that do not exist
pub no-run : (machine : Machine) (o : Option Machine) → o ≡ Some machine → o ≡ None → length machine.kernel.lives ≤ 1
no-run machine o e f = absurd (let g : None ≡ Some machine = sym f ∙ e in cc)

-- no execution of the guest makes a thread
pub exit-alone : StaysAlone exit_guest
unfolding opening first_cpu steppable step next fetch_stop instruction_stop instruction_of call_at permits_of alu_of meaning serve payload_of
exit-alone [] machine e = one-life machine _ e refl
exit-alone (zero ∷ []) machine e = one-life machine _ e refl
exit-alone (zero ∷ zero ∷ []) machine e = one-life machine _ e refl
exit-alone (zero ∷ zero ∷ zero ∷ []) machine e = one-life machine _ e refl
exit-alone (zero ∷ zero ∷ zero ∷ x ∷ rest) machine e = no-run machine _ e refl
exit-alone (zero ∷ zero ∷ suc x ∷ rest) machine e = no-run machine _ e refl
exit-alone (zero ∷ suc x ∷ rest) machine e = no-run machine _ e refl
exit-alone (suc x ∷ rest) machine e = no-run machine _ e refl

-- ---- one struck register

-- a list of one fault
one-listed : (x fault : Fault) → Listed (x ∷ []) fault → x ≡ fault
one-listed x fault (zero, e) = some-injective e
one-listed x fault (suc place, e) = absurd (let f : None ≡ Some fault = e in cc)

-- a list of one fault names one replica
only-one : (x : Fault) → AllOfOne (x ∷ [])
only-one x one other a b = ap (λ (f : Fault). f.replica) (sym (one-listed x one a) ∙ one-listed x other b)

-- the journal is legal
legal-one : Legal (usual_job exit_guest (flip_a0 1 ∷ [])) one_struck
unfolding opening opening_core sharing_of opening_replica struck execute applied cancelled recovered verdict_of event_of after first_cpu made_cpu steppable step next fetch_stop instruction_stop instruction_of call_at permits_of alu_of meaning serve payload_of
legal-one = (
  record { going = refl; driver_exists = lit< tt; driver_is_idle = refl; lendable = refl },
  (
    record { returns = record { not_ended = refl; out = refl; ran = _; runs = refl; struck = refl }; arrives = inr (lit< tt, refl, refl) },
    (
      record { going = refl; driver_exists = lit< tt; driver_is_idle = refl; lendable = refl },
      (
        record { returns = record { not_ended = refl; out = refl; ran = _; runs = refl; struck = refl }; arrives = inr (lit< tt, refl, refl) },
        (
          record { going = refl; driver_exists = lit< tt; driver_is_idle = refl; lendable = refl },
          (
            record { returns = record { not_ended = refl; out = refl; ran = _; runs = refl; struck = refl }; arrives = inr (lit< tt, refl, refl) },
            (
              record { may = refl; verdict = refl; count_is = refl; event = _; comes = refl; did_is = refl; fits = lit≤ tt },
              ((refl, due refl), tt),
            ),
          ),
        ),
      ),
    ),
  ),
)

-- it writes nothing
no-output : output_of (usual_job exit_guest (flip_a0 1 ∷ [])) one_struck ≡ []
unfolding opening opening_core sharing_of opening_replica struck execute applied cancelled recovered verdict_of event_of after first_cpu made_cpu steppable step next fetch_stop instruction_stop instruction_of call_at permits_of alu_of meaning serve payload_of
no-output = refl

-- it does not end by a sink
no-sink : (bytes : ℕ) → outcome_of one_struck ≢ Some (Sink bytes)
no-sink bytes e = let f : Exit 7 ≡ Sink bytes = some-injective e in cc

-- it is covered
one-covered : Simulates (usual_job exit_guest (flip_a0 1 ∷ [])) one_struck → IsCovered (usual_job exit_guest (flip_a0 1 ∷ [])) one_struck (Exit 7) []
one-covered s = record {
  legal = legal-one;
  apart = one-struck-apart (usual_job exit_guest (flip_a0 1 ∷ [])) one_struck (omega arith) (alone-race-free exit_guest exit-alone) (only-one (flip_a0 1)) legal-one;
  simulates = s;
  ends = s.ends_as (Exit 7) refl;
  writes = sym (s.written.all_left no-sink) ∙ no-output;
}

-- the row of one struck register
pub one-struck-covered : IsCovered (usual_job exit_guest (flip_a0 1 ∷ [])) one_struck (Exit 7) []
one-struck-covered = one-covered (simulates (usual_job exit_guest (flip_a0 1 ∷ [])) one_struck (alone-race-free exit_guest exit-alone) (inr (inl refl)) legal-one
    (one-struck-apart (usual_job exit_guest (flip_a0 1 ∷ [])) one_struck (omega arith) (alone-race-free exit_guest exit-alone) (only-one (flip_a0 1)) legal-one))

-- ---- two replicas struck alike

-- the job in which two replicas are struck
abbrev twice : Job
twice = usual_job exit_guest (flip_a0 0 ∷ flip_a0 1 ∷ [])

-- the journal is legal
pub legal-two : Legal (usual_job exit_guest (flip_a0 0 ∷ flip_a0 1 ∷ [])) two_struck
unfolding opening opening_core sharing_of opening_replica struck execute applied cancelled recovered verdict_of event_of after first_cpu made_cpu steppable step next fetch_stop instruction_stop instruction_of call_at permits_of alu_of meaning serve payload_of
legal-two = (
  record { going = refl; driver_exists = lit< tt; driver_is_idle = refl; lendable = refl },
  (
    record { returns = record { not_ended = refl; out = refl; ran = _; runs = refl; struck = refl }; arrives = inr (lit< tt, refl, refl) },
    (
      record { going = refl; driver_exists = lit< tt; driver_is_idle = refl; lendable = refl },
      (
        record { returns = record { not_ended = refl; out = refl; ran = _; runs = refl; struck = refl }; arrives = inr (lit< tt, refl, refl) },
        (
          record { going = refl; driver_exists = lit< tt; driver_is_idle = refl; lendable = refl },
          (
            record { returns = record { not_ended = refl; out = refl; ran = _; runs = refl; struck = refl }; arrives = inr (lit< tt, refl, refl) },
            (
              record { may = refl; verdict = refl; count_is = refl; event = _; comes = refl; did_is = refl; fits = lit≤ tt },
              ((refl, due refl), tt),
            ),
          ),
        ),
      ),
    ),
  ),
)

-- before the second strike
abbrev first_part : List Entry
first_part = Take (lease_to 0 0 0) ∷ Put (lease_to 0 0 0) 2 1 ∷ Take (lease_to 0 1 0) ∷ []

-- a0 of thread 0
abbrev a0 : Machine → Option ℕ
a0 m = option_map (λ (cpu : Cpu). slice_index cpu.registers 9) (slice_get m.cpus 0)

-- the ideal machine has 7 in a0
ideal-seven : (end : Machine) → run exit_guest (opening exit_guest) (0 ∷ 0 ∷ []) ≡ Some end → a0 end ≡ Some 7
unfolding opening first_cpu steppable step next fetch_stop instruction_stop instruction_of call_at permits_of alu_of meaning serve payload_of
ideal-seven end e = let f : Some (Some 7) ≡ Some (a0 end) = ap (option_map a0) e in sym (some-injective f)

-- thread 0 lives at the opening
opening-alive : lives_on (opening exit_guest).kernel 0 ≡ true
unfolding opening
opening-alive = refl

-- a replica that has run the two instructions and has 6 in a0 is not alike
six-not-alike : (r : Replica) (thread : Thread) → ahead r ≡ 0 ∷ 0 ∷ [] → slice_get r.threads 0 ≡ Some thread → slice_index thread.cpu.registers 9 ≡ 6 → IsAlike twice first_part r → ⊥
six-not-alike r thread steps there six h =
    let machine_is : opening exit_guest ≡ h.machine = some-injective h.ideal_is in
    let runs : run exit_guest (opening exit_guest) (0 ∷ 0 ∷ []) ≡ Some h.end =
    ap (λ (m : Machine). run exit_guest m (0 ∷ 0 ∷ [])) machine_is ∙ (ap (run exit_guest h.machine) (sym steps) ∙ BackedRun-run exit_guest r.backed h.runs) in
    let alive = ap (λ (m : Machine). lives_on m.kernel 0) (sym machine_is) ∙ opening-alive in
    let has_six : a0 h.end ≡ Some 6 = ap (option_map (λ (cpu : Cpu). slice_index cpu.registers 9)) (h.same_cpus 0 thread alive there) ∙ ap Some six in
    let seven_is : ◌≡◌ {A = ℕ} 7 6 = some-injective (sym (ideal-seven h.end runs) ∙ has_six) in
    omega arith

-- faults do not stay apart
pub not-apart : StaysApart (usual_job exit_guest (flip_a0 0 ∷ flip_a0 1 ∷ [])) two_struck → ⊥
unfolding opening opening_core sharing_of opening_replica struck execute applied cancelled recovered verdict_of event_of after first_cpu made_cpu steppable step next fetch_stop instruction_stop instruction_of call_at permits_of alu_of meaning serve payload_of
not-apart apart =
    six-not-alike _ _ refl refl refl (apart-before (usual_job exit_guest (flip_a0 0 ∷ flip_a0 1 ∷ [])) two_struck (lit< tt) apart first_part (Take (lease_to 0 2 0) ∷ Put (lease_to 0 2 0) 2 0 ∷ Vote 0 2 0 (One 2) Served ∷ End (Exit 6) ∷ []) (lease_to 0 1 0) 2 1 refl (lit< tt) 0 _ (λ (e : 0 ≡ 1). omega arith) refl)
