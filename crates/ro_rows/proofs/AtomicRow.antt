-- Two threads that store to one page.
use Rattle.std.specs.Prelude.{◌≡◌, true, [], ◌∷◌}
use Rattle.std.proofs.Common.{refl}
use Rattle.ro_journal.specs.declared.losers.Lost.TheVariants.{Nobody}
use Rattle.ro_decode.specs.Table.{instruction_of, word_of}
use Rattle.ro_event.specs.Table.{call_at}
use Rattle.ro_region.specs.Permission.{permits_of}
use Rattle.ro_alu.specs.Results.{alu_of, amo_of, taken_by}
use Rattle.ro_exec.specs.Meaning.{meaning}
use Rattle.ro_exec.specs.Next.{fetch_stop, instruction_stop, next}
use Rattle.ro_exec.specs.Threads.{first_cpu, made_cpu}
use Rattle.ro_kernel.specs.Serve.{serve, payload_of}
use Rattle.ro_journal.specs.declared.Did.TheVariants.{Served}
use Rattle.ro_journal.specs.declared.How.TheVariants.{Exit}
use Rattle.ro_journal.specs.declared.Entry.TheVariants.{Vote, End}
use Rattle.ro_vote.specs.Verdict.{verdict_of}
use Rattle.ro_replica.specs.Replica.{opening_replica, applied, cancelled, recovered}
use Rattle.ro_replica.specs.Runs.{struck, execute}
use Rattle.ro_plain.specs.Machine.{opening, steppable, step}
use Rattle.ro_legal.specs.Core.{sharing_of, opening_core}
use Rattle.ro_legal.specs.Event.{event_of}
use Rattle.ro_legal.specs.Legal.{Legal, after}
use Rattle.ro_legal.specs.Action.{next_action}
use Rattle.ro_simulation.specs.Drives.{driven}
use Rattle.ro_simulation.proofs.Checks.{test_legal, legal-by-test}
use Rattle.ro_rows.specs.Rows.{IdealEnds, decisions, atomic_job}

-- it passes the test of legality
passes : test_legal atomic_job (opening_core atomic_job) (driven 100 atomic_job) ≡ true
unfolding opening_core sharing_of opening_replica struck execute applied cancelled recovered verdict_of event_of after next_action first_cpu made_cpu next fetch_stop instruction_stop instruction_of word_of call_at permits_of alu_of amo_of taken_by meaning serve payload_of
passes = refl

-- the journal is legal
pub atomic-legal : Legal atomic_job (driven 100 atomic_job)
atomic-legal = legal-by-test atomic_job (opening_core atomic_job) (driven 100 atomic_job) passes

-- this is what it decides
pub atomic-decides : decisions (driven 100 atomic_job) ≡ Vote 0 1 0 Nobody Served ∷ Vote 0 1 0 Nobody Served ∷ Vote 0 0 0 Nobody Served ∷ Vote 0 0 0 Nobody Served ∷ Vote 0 2 0 Nobody Served ∷ End (Exit 8) ∷ []
unfolding opening_core sharing_of opening_replica struck execute applied cancelled recovered verdict_of event_of after next_action first_cpu made_cpu next fetch_stop instruction_stop instruction_of word_of call_at permits_of alu_of amo_of taken_by meaning serve payload_of
atomic-decides = refl

-- the unreplicated machine of the journal
pub atomic-ideal : IdealEnds atomic_job (driven 100 atomic_job) (Exit 8) []
unfolding opening_core sharing_of opening_replica struck execute applied cancelled recovered verdict_of event_of after next_action first_cpu made_cpu next fetch_stop instruction_stop instruction_of word_of call_at permits_of alu_of amo_of taken_by meaning serve payload_of opening steppable step
atomic-ideal = record { machine = _; ideal_is = refl; ends = refl; writes = refl }
