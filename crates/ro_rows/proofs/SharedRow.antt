-- A whole run in which two drivers are in one replica at once.
use Rattle.std.specs.Prelude.{◌≡◌, true, List, [], ◌∷◌, Some, length}
use Rattle.std.specs.List.{filter}
use Rattle.std.proofs.Common.{refl, sym, ◌∙◌, inl, inr, arith}
use Rattle.ro_journal.specs.declared.losers.Lost.TheVariants.{Nobody}
use Rattle.ro_decode.specs.Table.{instruction_of}
use Rattle.ro_event.specs.Table.{call_at}
use Rattle.ro_region.specs.Permission.{permits_of}
use Rattle.ro_alu.specs.Results.{alu_of, taken_by}
use Rattle.ro_exec.specs.Meaning.{meaning}
use Rattle.ro_exec.specs.Next.{fetch_stop, instruction_stop, next}
use Rattle.ro_exec.specs.Threads.{first_cpu, made_cpu}
use Rattle.ro_kernel.specs.Serve.{serve, payload_of}
use Rattle.ro_journal.specs.declared.Did.TheVariants.{Served, Blocked}
use Rattle.ro_journal.specs.declared.How.TheVariants.{Exit}
use Rattle.ro_journal.specs.declared.Entry.{Entry}
use Rattle.ro_journal.specs.declared.Entry.TheVariants.{Vote, Free, End}
use Rattle.ro_journal.specs.Plan.{outcome_of}
use Rattle.ro_vote.specs.Verdict.{verdict_of}
use Rattle.ro_replica.specs.Replica.{opening_replica, applied, cancelled, recovered}
use Rattle.ro_replica.specs.Runs.{struck, execute}
use Rattle.ro_plain.specs.Machine.{opening, steppable, step}
use Rattle.ro_plain.specs.Accesses.{accesses}
use Rattle.ro_plain.specs.Order.{sync_of, RaceFree}
use Rattle.ro_plain.proofs.Explore.{explored-free}
use Rattle.ro_legal.specs.Core.{sharing_of, opening_core}
use Rattle.ro_legal.specs.Event.{event_of}
use Rattle.ro_legal.specs.Legal.{Legal, after, output_of}
use Rattle.ro_legal.specs.Action.{next_action}
use Rattle.ro_legal.specs.Ideal.{StaysApart}
use Rattle.ro_simulation.specs.Drives.{driven}
use Rattle.ro_simulation.specs.Rows.{IsCovered}
use Rattle.ro_simulation.proofs.Checks.{test_legal, legal-by-test}
use Rattle.ro_simulation.proofs.Laws.{one-struck-apart}
use Rattle.ro_simulation.proofs.RowsThreads.{no-fault-listed, covered-by}
use Rattle.ro_simulation.proofs.Simulates.{simulates}
use Rattle.ro_rows.specs.Rows.{decisions}
use Rattle.ro_rows.specs.Lending.{lending_job, shared_journal, is_part}

-- what each thread stores the other one does not
pub shared-race-free : RaceFree lending_job.program
unfolding opening sync_of accesses steppable step first_cpu made_cpu next fetch_stop instruction_stop instruction_of call_at permits_of alu_of taken_by meaning serve payload_of
shared-race-free = explored-free 24 lending_job.program refl

-- a journal that is legal and exits with 0 is covered
covers : (journal : List Entry) → Legal lending_job journal → outcome_of journal ≡ Some (Exit 0) → output_of lending_job journal ≡ [] → IsCovered lending_job journal (Exit 0) []
covers journal legal ends out =
    let apart : StaysApart lending_job journal = one-struck-apart lending_job journal (omega arith) shared-race-free no-fault-listed legal in
    covered-by lending_job journal [] legal apart ends out (simulates lending_job journal shared-race-free (inr (inl refl)) legal apart)

-- ---- two drivers

shared-passes : test_legal lending_job (opening_core lending_job) shared_journal ≡ true
unfolding opening_core sharing_of opening_replica struck execute applied cancelled recovered verdict_of event_of after next_action first_cpu made_cpu next fetch_stop instruction_stop instruction_of call_at permits_of alu_of taken_by meaning serve payload_of
shared-passes = refl

shared-ends : outcome_of shared_journal ≡ Some (Exit 0)
unfolding opening_core sharing_of opening_replica struck execute applied cancelled recovered verdict_of event_of after next_action first_cpu made_cpu next fetch_stop instruction_stop instruction_of call_at permits_of alu_of taken_by meaning serve payload_of
shared-ends = refl

shared-writes : output_of lending_job shared_journal ≡ []
unfolding opening_core sharing_of opening_replica struck execute applied cancelled recovered verdict_of event_of after next_action first_cpu made_cpu next fetch_stop instruction_stop instruction_of call_at permits_of alu_of taken_by meaning serve payload_of
shared-writes = refl

pub shared-covered : IsCovered lending_job shared_journal (Exit 0) []
shared-covered = covers shared_journal (legal-by-test lending_job (opening_core lending_job) shared_journal shared-passes) shared-ends shared-writes

-- ---- one driver

driven-passes : test_legal lending_job (opening_core lending_job) (driven 100 lending_job) ≡ true
unfolding opening_core sharing_of opening_replica struck execute applied cancelled recovered verdict_of event_of after next_action first_cpu made_cpu next fetch_stop instruction_stop instruction_of call_at permits_of alu_of taken_by meaning serve payload_of
driven-passes = refl

driven-ends : outcome_of (driven 100 lending_job) ≡ Some (Exit 0)
unfolding opening_core sharing_of opening_replica struck execute applied cancelled recovered verdict_of event_of after next_action first_cpu made_cpu next fetch_stop instruction_stop instruction_of call_at permits_of alu_of taken_by meaning serve payload_of
driven-ends = refl

driven-writes : output_of lending_job (driven 100 lending_job) ≡ []
unfolding opening_core sharing_of opening_replica struck execute applied cancelled recovered verdict_of event_of after next_action first_cpu made_cpu next fetch_stop instruction_stop instruction_of call_at permits_of alu_of taken_by meaning serve payload_of
driven-writes = refl

pub driven-covered : IsCovered lending_job (driven 100 lending_job) (Exit 0) []
driven-covered = covers (driven 100 lending_job) (legal-by-test lending_job (opening_core lending_job) (driven 100 lending_job) driven-passes) driven-ends driven-writes

-- ---- both

pub shared-decides : decisions shared_journal ≡ Vote 0 6 0 Nobody Served ∷ Vote 0 5 0 Nobody Blocked ∷ Vote 1 4 0 Nobody Served ∷ Free 0 ∷ Vote 0 2 0 Nobody Served ∷ End (Exit 0) ∷ []
unfolding opening_core sharing_of opening_replica struck execute applied cancelled recovered verdict_of event_of after next_action first_cpu made_cpu next fetch_stop instruction_stop instruction_of call_at permits_of alu_of taken_by meaning serve payload_of
shared-decides = refl

driven-decides : decisions (driven 100 lending_job) ≡ Vote 0 6 0 Nobody Served ∷ Vote 0 5 0 Nobody Blocked ∷ Vote 1 4 0 Nobody Served ∷ Free 0 ∷ Vote 0 2 0 Nobody Served ∷ End (Exit 0) ∷ []
unfolding opening_core sharing_of opening_replica struck execute applied cancelled recovered verdict_of event_of after next_action first_cpu made_cpu next fetch_stop instruction_stop instruction_of call_at permits_of alu_of taken_by meaning serve payload_of
driven-decides = refl

pub shared-the-same : decisions (driven 100 lending_job) ≡ decisions shared_journal
shared-the-same = driven-decides ∙ sym shared-decides

pub shared-parts : length (filter is_part (driven 100 lending_job)) ≡ 6
unfolding opening_core sharing_of opening_replica struck execute applied cancelled recovered verdict_of event_of after next_action first_cpu made_cpu next fetch_stop instruction_stop instruction_of call_at permits_of alu_of taken_by meaning serve payload_of
shared-parts = refl

pub shared-more-parts : length (filter is_part shared_journal) ≡ 8
unfolding opening_core sharing_of opening_replica struck execute applied cancelled recovered verdict_of event_of after next_action first_cpu made_cpu next fetch_stop instruction_stop instruction_of call_at permits_of alu_of taken_by meaning serve payload_of
shared-more-parts = refl
