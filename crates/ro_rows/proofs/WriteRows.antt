-- Output: a sink that fails, and a struck byte.
use Rattle.std.specs.Prelude.{◌≡◌, true, [], ◌∷◌}
use Rattle.std.proofs.Common.{refl, inr}
use Rattle.std.proofs.Math.Dec.{lit<, lit≤}
use Rattle.ro_journal.specs.declared.losers.Lost.TheVariants.{Nobody, One}
use Rattle.ro_decode.specs.Table.{instruction_of}
use Rattle.ro_event.specs.Table.{call_at}
use Rattle.ro_region.specs.Permission.{permits_of}
use Rattle.ro_alu.specs.Results.{alu_of, taken_by}
use Rattle.ro_exec.specs.Meaning.{meaning}
use Rattle.ro_exec.specs.Next.{fetch_stop, instruction_stop, next}
use Rattle.ro_exec.specs.Threads.{first_cpu, made_cpu}
use Rattle.ro_kernel.specs.Serve.{serve, payload_of}
use Rattle.ro_journal.specs.declared.Did.TheVariants.{Served}
use Rattle.ro_journal.specs.declared.How.TheVariants.{Exit, Sink}
use Rattle.ro_journal.specs.declared.Entry.TheVariants.{Vote, End}
use Rattle.ro_vote.specs.Verdict.{verdict_of}
use Rattle.ro_replica.specs.Replica.{opening_replica, applied, cancelled, recovered}
use Rattle.ro_replica.specs.Runs.{struck, execute}
use Rattle.ro_plain.specs.Machine.{opening, steppable, step}
use Rattle.ro_legal.specs.Core.{sharing_of, opening_core}
use Rattle.ro_legal.specs.Event.{event_of}
use Rattle.ro_legal.specs.Legal.{Legal, after, output_of, alone}
use Rattle.ro_legal.specs.Action.{next_action}
use Rattle.ro_simulation.specs.Drives.{driven}
use Rattle.ro_simulation.proofs.Checks.{test_legal, legal-by-test}
use Rattle.ro_rows.specs.Rows.{IdealEnds, decisions, hello_job, failing_journal, healed_job}

-- the journal is legal
pub failing-legal : Legal hello_job failing_journal
unfolding opening_core sharing_of opening_replica struck execute applied cancelled recovered verdict_of event_of after next_action first_cpu made_cpu next fetch_stop instruction_stop instruction_of call_at permits_of alu_of taken_by meaning serve payload_of
failing-legal = (record { going = refl; driver_exists = lit< tt; driver_is_idle = refl; lendable = refl }, (record { returns = record { not_ended = refl; out = refl; ran = _; runs = refl; struck = refl }; arrives = inr (lit< tt, refl, refl) }, (record { going = refl; driver_exists = lit< tt; driver_is_idle = refl; lendable = refl }, (record { returns = record { not_ended = refl; out = refl; ran = _; runs = refl; struck = refl }; arrives = inr (lit< tt, refl, refl) }, (record { going = refl; driver_exists = lit< tt; driver_is_idle = refl; lendable = refl }, (record { returns = record { not_ended = refl; out = refl; ran = _; runs = refl; struck = refl }; arrives = inr (lit< tt, refl, refl) }, (record { may = refl; verdict = refl; count_is = refl; event = _; comes = refl; did_is = refl; fits = lit≤ tt }, ((refl, alone (refl, lit< tt)), tt))))))))

-- what the journal writes
pub failing-output : output_of hello_job failing_journal ≡ 104 ∷ 101 ∷ []
unfolding opening_core sharing_of opening_replica struck execute applied cancelled recovered verdict_of event_of after next_action first_cpu made_cpu next fetch_stop instruction_stop instruction_of call_at permits_of alu_of taken_by meaning serve payload_of
failing-output = refl

-- the unreplicated machine of the journal
pub failing-ideal : IdealEnds hello_job (failing_journal) (Sink 2) (104 ∷ 101 ∷ 108 ∷ 108 ∷ 111 ∷ [])
unfolding opening_core sharing_of opening_replica struck execute applied cancelled recovered verdict_of event_of after next_action first_cpu made_cpu next fetch_stop instruction_stop instruction_of call_at permits_of alu_of taken_by meaning serve payload_of opening steppable step
failing-ideal = record { machine = _; ideal_is = refl; ends = refl; writes = refl }

-- it passes the test of legality
passes : test_legal healed_job (opening_core healed_job) (driven 30 healed_job) ≡ true
unfolding opening_core sharing_of opening_replica struck execute applied cancelled recovered verdict_of event_of after next_action first_cpu made_cpu next fetch_stop instruction_stop instruction_of call_at permits_of alu_of taken_by meaning serve payload_of
passes = refl

-- the journal is legal
pub healed-legal : Legal healed_job (driven 30 healed_job)
healed-legal = legal-by-test healed_job (opening_core healed_job) (driven 30 healed_job) passes

-- this is what it decides
pub healed-decides : decisions (driven 30 healed_job) ≡ Vote 0 5 0 Nobody Served ∷ Vote 0 3 0 (One 1) Served ∷ Vote 0 2 0 Nobody Served ∷ End (Exit 0) ∷ []
unfolding opening_core sharing_of opening_replica struck execute applied cancelled recovered verdict_of event_of after next_action first_cpu made_cpu next fetch_stop instruction_stop instruction_of call_at permits_of alu_of taken_by meaning serve payload_of
healed-decides = refl

-- the unreplicated machine of the journal
pub healed-ideal : IdealEnds healed_job (driven 30 healed_job) (Exit 0) (104 ∷ 101 ∷ 108 ∷ 108 ∷ 111 ∷ [])
unfolding opening_core sharing_of opening_replica struck execute applied cancelled recovered verdict_of event_of after next_action first_cpu made_cpu next fetch_stop instruction_stop instruction_of call_at permits_of alu_of taken_by meaning serve payload_of opening steppable step
healed-ideal = record { machine = _; ideal_is = refl; ends = refl; writes = refl }

-- what the journal writes
pub healed-output : output_of healed_job (driven 30 healed_job) ≡ 104 ∷ 101 ∷ 108 ∷ 108 ∷ 111 ∷ []
unfolding opening_core sharing_of opening_replica struck execute applied cancelled recovered verdict_of event_of after next_action first_cpu made_cpu next fetch_stop instruction_stop instruction_of call_at permits_of alu_of taken_by meaning serve payload_of
healed-output = refl
