-- The two-thread guest that locks round its writes: the journal of one driver is covered.
use Rattle.std.specs.Prelude.{◌≡◌, ℕ, true, List, [], ◌∷◌, Some, None}
use Rattle.std.proofs.Common.{inl, arith, refl, sym, ◌∙◌, inr}
use Rattle.ro_decode.specs.Table.{instruction_of}
use Rattle.ro_event.specs.Table.{call_at}
use Rattle.ro_region.specs.Permission.{permits_of}
use Rattle.ro_alu.specs.Results.{alu_of}
use Rattle.ro_exec.specs.Meaning.{meaning}
use Rattle.ro_exec.specs.Next.{fetch_stop, instruction_stop, next}
use Rattle.ro_exec.specs.Threads.{first_cpu, made_cpu}
use Rattle.ro_kernel.specs.Serve.{serve, payload_of}
use Rattle.ro_journal.specs.declared.How.TheVariants.{Exit, Sink}
use Rattle.ro_journal.specs.declared.Entry.{Entry}
use Rattle.ro_journal.specs.Plan.{outcome_of}
use Rattle.ro_vote.specs.Verdict.{verdict_of}
use Rattle.ro_replica.specs.Replica.{opening_replica, applied, cancelled, recovered}
use Rattle.ro_replica.specs.Runs.{struck, execute}
use Rattle.ro_plain.specs.Order.{RaceFree}
use Rattle.ro_plain.proofs.Calls.{some-injective}
use Rattle.ro_legal.specs.Core.{Job, sharing_of, opening_core}
use Rattle.ro_legal.specs.Event.{event_of}
use Rattle.ro_legal.specs.Legal.{Legal, after, output_of}
use Rattle.ro_legal.specs.Ideal.{StaysApart}
use Rattle.ro_legal.specs.Action.{next_action}
use Rattle.ro_simulation.specs.Theorem.{Simulates, AllOfOne}
use Rattle.ro_simulation.specs.Guests.{locking_guest, usual_job}
use Rattle.ro_simulation.specs.Drives.{driven}
use Rattle.ro_simulation.specs.Rows.{IsCovered}
use Rattle.ro_simulation.proofs.Checks.{test_legal, legal-by-test}
use Rattle.ro_simulation.proofs.Simulates.{simulates}
use Rattle.ro_simulation.proofs.Laws.{one-struck-apart}

-- the journal passes the test
passes : test_legal (usual_job locking_guest []) (opening_core (usual_job locking_guest [])) (driven 200 (usual_job locking_guest [])) ≡ true
unfolding opening_core sharing_of opening_replica struck execute applied cancelled recovered verdict_of event_of after next_action first_cpu made_cpu next fetch_stop instruction_stop instruction_of call_at permits_of alu_of meaning serve payload_of
passes = refl

-- it writes both letters
writes : output_of (usual_job locking_guest []) (driven 200 (usual_job locking_guest [])) ≡ 65 ∷ 66 ∷ []
unfolding opening_core sharing_of opening_replica struck execute applied cancelled recovered verdict_of event_of after next_action first_cpu made_cpu next fetch_stop instruction_stop instruction_of call_at permits_of alu_of meaning serve payload_of
writes = refl

-- it ends by the exit
outcome : outcome_of (driven 200 (usual_job locking_guest [])) ≡ Some (Exit 0)
unfolding opening_core sharing_of opening_replica struck execute applied cancelled recovered verdict_of event_of after next_action first_cpu made_cpu next fetch_stop instruction_stop instruction_of call_at permits_of alu_of meaning serve payload_of
outcome = refl

-- no fault names any replica
pub no-fault-listed : AllOfOne []
no-fault-listed one other a b = absurd (let f : None ≡ Some one = a.1 in cc)

-- a journal that exits with 0 is covered
pub covered-by : (job : Job) (journal : List Entry) (output : List ℕ) → Legal job journal → StaysApart job journal → outcome_of journal ≡ Some (Exit 0) → output_of job journal ≡ output → Simulates job journal → IsCovered job journal (Exit 0) output
covered-by job journal output legal apart ends out s = record {
  legal = legal;
  apart = apart;
  simulates = s;
  ends = s.ends_as (Exit 0) ends;
  writes = sym (s.written.all_left (λ bytes e. let f : Exit 0 ≡ Sink bytes = some-injective (sym ends ∙ e) in cc)) ∙ out;
}

-- the row of two threads
pub locking-covered : RaceFree locking_guest → IsCovered (usual_job locking_guest []) (driven 200 (usual_job locking_guest [])) (Exit 0) (65 ∷ 66 ∷ [])
locking-covered free =
    let legal : Legal (usual_job locking_guest []) (driven 200 (usual_job locking_guest [])) = legal-by-test (usual_job locking_guest []) (opening_core (usual_job locking_guest [])) (driven 200 (usual_job locking_guest [])) passes in
    let apart : StaysApart (usual_job locking_guest []) (driven 200 (usual_job locking_guest [])) = one-struck-apart (usual_job locking_guest []) (driven 200 (usual_job locking_guest [])) (omega arith) free no-fault-listed legal in
    covered-by (usual_job locking_guest []) (driven 200 (usual_job locking_guest [])) (65 ∷ 66 ∷ []) legal apart outcome writes
    (simulates (usual_job locking_guest []) (driven 200 (usual_job locking_guest [])) free (inr (inl refl)) legal apart)
