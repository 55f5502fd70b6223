-- A row of five replicas, one of which becomes a copy of one that differs.
use Rattle.std.specs.Prelude.{◌≡◌, ℕ, true, List, [], ◌∷◌, ◌++◌, slice_index}
use Rattle.std.proofs.Common.{refl, sym, ap, ◌∙◌, subst, inr, arith}
use Rattle.ro_journal.specs.declared.losers.Lost.TheVariants.{Nobody, One, Two}
use Rattle.ro_decode.specs.Table.{instruction_of}
use Rattle.ro_event.specs.Table.{call_at}
use Rattle.ro_region.specs.Permission.{permits_of}
use Rattle.ro_alu.specs.Results.{alu_of, taken_by}
use Rattle.ro_exec.specs.Meaning.{meaning}
use Rattle.ro_exec.specs.Next.{fetch_stop, instruction_stop, next}
use Rattle.ro_exec.specs.Threads.{first_cpu, made_cpu}
use Rattle.ro_kernel.specs.Serve.{serve, payload_of}
use Rattle.ro_journal.specs.declared.Did.TheVariants.{Served}
use Rattle.ro_journal.specs.declared.How.TheVariants.{Exit}
use Rattle.ro_journal.specs.declared.Entry.TheVariants.{Vote, End}
use Rattle.ro_vote.specs.Verdict.{verdict_of}
use Rattle.ro_replica.specs.Replica.{opening_replica, applied, cancelled, recovered}
use Rattle.ro_replica.specs.Runs.{struck, execute}
use Rattle.ro_plain.specs.Machine.{Machine, opening, steppable, step}
use Rattle.ro_plain.specs.Accesses.{accesses}
use Rattle.ro_plain.specs.Order.{sync_of, RaceFree}
use Rattle.ro_plain.proofs.Calls.{some-injective}
use Rattle.ro_legal.specs.Core.{sharing_of, opening_core}
use Rattle.ro_legal.specs.Event.{event_of}
use Rattle.ro_legal.specs.Legal.{Legal, after, output_of}
use Rattle.ro_legal.specs.Action.{next_action}
use Rattle.ro_legal.specs.Ideal.{StaysApart}
use Rattle.ro_simulation.specs.Drives.{driven}
use Rattle.ro_simulation.specs.Theorem.{IsFront}
use Rattle.ro_simulation.proofs.Checks.{test_legal, legal-by-test}
use Rattle.ro_simulation.proofs.Simulates.{simulates}
use Rattle.ro_rows.specs.Rows.{IdealEnds, decisions, hidden_job}
use Rattle.ro_plain.proofs.Explore.{explored-free}

-- the guest has one thread, so its steps are in order
pub hidden-race-free : RaceFree hidden_job.program
unfolding opening sync_of accesses steppable step first_cpu made_cpu next fetch_stop instruction_stop instruction_of call_at permits_of alu_of taken_by meaning serve payload_of
hidden-race-free = explored-free 16 hidden_job.program refl

-- it passes the test of legality
passes : test_legal hidden_job (opening_core hidden_job) (driven 30 hidden_job) ≡ true
unfolding opening_core sharing_of opening_replica struck execute applied cancelled recovered verdict_of event_of after next_action first_cpu made_cpu next fetch_stop instruction_stop instruction_of call_at permits_of alu_of taken_by meaning serve payload_of
passes = refl

-- the journal is legal
pub hidden-legal : Legal hidden_job (driven 30 hidden_job)
hidden-legal = legal-by-test hidden_job (opening_core hidden_job) (driven 30 hidden_job) passes

-- this is what it decides
pub hidden-decides : decisions (driven 30 hidden_job) ≡ Vote 0 5 0 (One 1) Served ∷ Vote 0 3 0 (Two 3 4) Served ∷ Vote 0 2 0 Nobody Served ∷ End (Exit 0) ∷ []
unfolding opening_core sharing_of opening_replica struck execute applied cancelled recovered verdict_of event_of after next_action first_cpu made_cpu next fetch_stop instruction_stop instruction_of call_at permits_of alu_of taken_by meaning serve payload_of
hidden-decides = refl

-- what the journal writes
pub hidden-output : output_of hidden_job (driven 30 hidden_job) ≡ 104 ∷ 101 ∷ 108 ∷ 108 ∷ 110 ∷ []
unfolding opening_core sharing_of opening_replica struck execute applied cancelled recovered verdict_of event_of after next_action first_cpu made_cpu next fetch_stop instruction_stop instruction_of call_at permits_of alu_of taken_by meaning serve payload_of
hidden-output = refl

-- the unreplicated machine of the journal
pub hidden-ideal : IdealEnds hidden_job (driven 30 hidden_job) (Exit 0) (104 ∷ 101 ∷ 108 ∷ 108 ∷ 111 ∷ [])
unfolding opening_core sharing_of opening_replica struck execute applied cancelled recovered verdict_of event_of after next_action first_cpu made_cpu next fetch_stop instruction_stop instruction_of call_at permits_of alu_of taken_by meaning serve payload_of opening steppable step
hidden-ideal = record { machine = _; ideal_is = refl; ends = refl; writes = refl }

-- lists that begin so differ
no-front : (rest : List ℕ) → 104 ∷ 101 ∷ 108 ∷ 108 ∷ 111 ∷ [] ≡ 104 ∷ 101 ∷ 108 ∷ 108 ∷ 110 ∷ rest → ⊥
no-front rest e = let f : ◌≡◌ {A = ℕ} 111 110 = ap (λ (bytes : List ℕ). slice_index bytes 4) e in omega arith

-- what is written is no front of it
pub hidden-no-front : IsFront (output_of hidden_job (driven 30 hidden_job)) (104 ∷ 101 ∷ 108 ∷ 108 ∷ 111 ∷ []) → ⊥
hidden-no-front h = no-front h.0 (h.1 ∙ ap (λ (out : List ℕ). out ++ h.0) hidden-output)

-- so faults did not stay apart
pub hidden-not-apart : StaysApart hidden_job (driven 30 hidden_job) → ⊥
hidden-not-apart apart =
    let s = simulates hidden_job (driven 30 hidden_job) hidden-race-free (inr (inr refl)) hidden-legal apart in
    let same : s.machine ≡ hidden-ideal.machine = some-injective (sym s.ideal_is ∙ hidden-ideal.ideal_is) in
    hidden-no-front (subst (IsFront (output_of hidden_job (driven 30 hidden_job))) (ap (λ (m : Machine). m.output) same ∙ hidden-ideal.writes) s.written.front)
