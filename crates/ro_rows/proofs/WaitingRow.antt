-- A guest of which one thread waits on a condition variable, and the other signals it.
use Rattle.std.specs.Prelude.{◌≡◌, true, [], ◌∷◌, length}
use Rattle.std.proofs.Common.{refl}
use Rattle.ro_journal.specs.declared.losers.Lost.TheVariants.{Nobody}
use Rattle.ro_decode.specs.Table.{instruction_of}
use Rattle.ro_event.specs.Table.{call_at}
use Rattle.ro_region.specs.Permission.{permits_of}
use Rattle.ro_alu.specs.Results.{alu_of, taken_by}
use Rattle.ro_exec.specs.Meaning.{meaning}
use Rattle.ro_exec.specs.Next.{fetch_stop, instruction_stop, next}
use Rattle.ro_exec.specs.Threads.{first_cpu, made_cpu}
use Rattle.ro_kernel.specs.Serve.{serve, payload_of}
use Rattle.ro_journal.specs.declared.Did.TheVariants.{Served, Parked as WasParked, Blocked as WasBlocked}
use Rattle.ro_journal.specs.declared.How.TheVariants.{Exit}
use Rattle.ro_journal.specs.declared.Entry.TheVariants.{Vote, Free, End}
use Rattle.ro_journal.specs.Plan.{plan_of}
use Rattle.ro_vote.specs.Verdict.{verdict_of}
use Rattle.ro_replica.specs.Replica.{opening_replica, applied, cancelled, recovered}
use Rattle.ro_replica.specs.Runs.{struck, execute}
use Rattle.ro_plain.specs.Machine.{opening, steppable, step}
use Rattle.ro_legal.specs.Core.{sharing_of, opening_core}
use Rattle.ro_legal.specs.Event.{event_of}
use Rattle.ro_legal.specs.Legal.{Legal, after}
use Rattle.ro_legal.specs.Action.{next_action}
use Rattle.ro_simulation.specs.Drives.{driven}
use Rattle.ro_simulation.proofs.Checks.{test_legal, legal-by-test}
use Rattle.ro_rows.specs.Rows.{IdealEnds, decisions, waiting_job}

-- it passes the test of legality
passes : test_legal waiting_job (opening_core waiting_job) (driven 200 waiting_job) ≡ true
unfolding opening_core sharing_of opening_replica struck execute applied cancelled recovered verdict_of event_of after next_action first_cpu made_cpu next fetch_stop instruction_stop instruction_of call_at permits_of alu_of taken_by meaning serve payload_of
passes = refl

-- the journal is legal
pub waiting-legal : Legal waiting_job (driven 200 waiting_job)
waiting-legal = legal-by-test waiting_job (opening_core waiting_job) (driven 200 waiting_job) passes

-- this is what it decides
pub waiting-decides : decisions (driven 200 waiting_job) ≡ Vote 0 3 0 Nobody Served ∷ Vote 0 6 0 Nobody Served ∷ Vote 0 3 0 Nobody WasParked ∷ Vote 1 3 0 Nobody Served ∷ Vote 1 2 0 Nobody Served ∷ Vote 1 2 0 Nobody Served ∷ Free 0 ∷ Vote 0 2 0 Nobody Served ∷ Vote 0 3 0 Nobody WasBlocked ∷ Vote 1 2 0 Nobody Served ∷ Free 0 ∷ Vote 0 2 0 Nobody Served ∷ End (Exit 5) ∷ []
unfolding opening_core sharing_of opening_replica struck execute applied cancelled recovered verdict_of event_of after next_action first_cpu made_cpu next fetch_stop instruction_stop instruction_of call_at permits_of alu_of taken_by meaning serve payload_of
waiting-decides = refl

-- and so long is its plan
pub waiting-steps : length (plan_of (driven 200 waiting_job)) ≡ 39
unfolding opening_core sharing_of opening_replica struck execute applied cancelled recovered verdict_of event_of after next_action first_cpu made_cpu next fetch_stop instruction_stop instruction_of call_at permits_of alu_of taken_by meaning serve payload_of
waiting-steps = refl

-- the unreplicated machine of the journal
pub waiting-ideal : IdealEnds waiting_job (driven 200 waiting_job) (Exit 5) []
unfolding opening_core sharing_of opening_replica struck execute applied cancelled recovered verdict_of event_of after next_action first_cpu made_cpu next fetch_stop instruction_stop instruction_of call_at permits_of alu_of taken_by meaning serve payload_of opening steppable step
waiting-ideal = record { machine = _; ideal_is = refl; ends = refl; writes = refl }
