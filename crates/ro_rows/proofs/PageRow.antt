-- Two threads that store to one page.
use Rattle.std.specs.Prelude.{◌≡◌, true, [], ◌∷◌}
use Rattle.std.proofs.Common.{refl}
use Rattle.ro_journal.specs.declared.losers.Lost.TheVariants.{Nobody}
use Rattle.ro_decode.specs.Table.{instruction_of}
use Rattle.ro_event.specs.Table.{call_at}
use Rattle.ro_region.specs.Permission.{permits_of}
use Rattle.ro_alu.specs.Results.{alu_of, taken_by}
use Rattle.ro_exec.specs.Meaning.{meaning}
use Rattle.ro_exec.specs.Next.{fetch_stop, instruction_stop, next}
use Rattle.ro_exec.specs.Threads.{first_cpu, made_cpu}
use Rattle.ro_kernel.specs.Serve.{serve, payload_of}
use Rattle.ro_journal.specs.declared.Did.TheVariants.{Served, PageBacked, Blocked as WasBlocked}
use Rattle.ro_journal.specs.declared.How.TheVariants.{Exit}
use Rattle.ro_journal.specs.declared.Entry.TheVariants.{Vote, Free, End}
use Rattle.ro_vote.specs.Verdict.{verdict_of}
use Rattle.ro_replica.specs.Replica.{opening_replica, applied, cancelled, recovered}
use Rattle.ro_replica.specs.Runs.{struck, execute}
use Rattle.ro_plain.specs.Machine.{opening, steppable, step}
use Rattle.ro_legal.specs.Core.{sharing_of, opening_core}
use Rattle.ro_legal.specs.Event.{event_of}
use Rattle.ro_legal.specs.Legal.{Legal, after}
use Rattle.ro_legal.specs.Action.{next_action}
use Rattle.ro_simulation.specs.Drives.{driven}
use Rattle.ro_simulation.proofs.Checks.{test_legal, legal-by-test}
use Rattle.ro_rows.specs.Rows.{IdealEnds, decisions, page_job}

-- it passes the test of legality
passes : test_legal page_job (opening_core page_job) (driven 100 page_job) ≡ true
unfolding opening_core sharing_of opening_replica struck execute applied cancelled recovered verdict_of event_of after next_action first_cpu made_cpu next fetch_stop instruction_stop instruction_of call_at permits_of alu_of taken_by meaning serve payload_of
passes = refl

-- the journal is legal
pub page-legal : Legal page_job (driven 100 page_job)
page-legal = legal-by-test page_job (opening_core page_job) (driven 100 page_job) passes

-- this is what it decides
pub page-decides : decisions (driven 100 page_job) ≡ Vote 0 6 0 Nobody Served ∷ Vote 0 1 0 Nobody PageBacked ∷ Vote 0 4 0 Nobody WasBlocked ∷ Vote 1 4 0 Nobody Served ∷ Free 0 ∷ Vote 0 2 0 Nobody Served ∷ End (Exit 0) ∷ []
unfolding opening_core sharing_of opening_replica struck execute applied cancelled recovered verdict_of event_of after next_action first_cpu made_cpu next fetch_stop instruction_stop instruction_of call_at permits_of alu_of taken_by meaning serve payload_of
page-decides = refl

-- the unreplicated machine of the journal
pub page-ideal : IdealEnds page_job (driven 100 page_job) (Exit 0) []
unfolding opening_core sharing_of opening_replica struck execute applied cancelled recovered verdict_of event_of after next_action first_cpu made_cpu next fetch_stop instruction_stop instruction_of call_at permits_of alu_of taken_by meaning serve payload_of opening steppable step
page-ideal = record { machine = _; ideal_is = refl; ends = refl; writes = refl }
