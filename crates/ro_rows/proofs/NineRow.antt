-- A thread that misses nine pages from one vote to the next.
use Rattle.std.specs.Prelude.{◌≡◌, true, ◌++◌}
use Rattle.std.proofs.Common.{refl}
use Rattle.ro_decode.specs.Table.{instruction_of}
use Rattle.ro_event.specs.Table.{call_at}
use Rattle.ro_region.specs.Permission.{permits_of}
use Rattle.ro_alu.specs.Results.{alu_of, taken_by}
use Rattle.ro_exec.specs.Meaning.{meaning}
use Rattle.ro_exec.specs.Next.{fetch_stop, instruction_stop, next}
use Rattle.ro_exec.specs.Threads.{first_cpu, made_cpu}
use Rattle.ro_kernel.specs.Serve.{serve, payload_of}
use Rattle.ro_journal.specs.declared.Did.TheVariants.{Served}
use Rattle.ro_vote.specs.Verdict.{verdict_of}
use Rattle.ro_replica.specs.Replica.{opening_replica, applied, cancelled, recovered}
use Rattle.ro_replica.specs.Runs.{struck, execute}
use Rattle.ro_legal.specs.Parts.{Whole}
use Rattle.ro_legal.specs.Core.{sharing_of, opening_core, lent_to}
use Rattle.ro_legal.specs.Event.{event_of}
use Rattle.ro_legal.specs.Legal.{Legal, replay, after}
use Rattle.ro_legal.specs.Laws.{parts_since}
use Rattle.ro_simulation.proofs.Checks.{test_legal, legal-by-test}
use Rattle.ro_rows.specs.Edges.{round}
use Rattle.ro_rows.specs.Lending.{wide_job, part, nine_parts, behind_nine}

twice-passes : test_legal wide_job (opening_core wide_job) (round 0 7 Served ++ part 0 ++ part 0) ≡ true
unfolding opening_core sharing_of opening_replica struck execute applied cancelled recovered verdict_of event_of after first_cpu made_cpu next fetch_stop instruction_stop instruction_of call_at permits_of alu_of taken_by meaning serve payload_of
twice-passes = refl

pub nine-twice : Legal wide_job (round 0 7 Served ++ part 0 ++ part 0)
nine-twice = legal-by-test wide_job (opening_core wide_job) (round 0 7 Served ++ part 0 ++ part 0) twice-passes

nine-passes : test_legal wide_job (opening_core wide_job) nine_parts ≡ true
unfolding opening_core sharing_of opening_replica struck execute applied cancelled recovered verdict_of event_of after first_cpu made_cpu next fetch_stop instruction_stop instruction_of call_at permits_of alu_of taken_by meaning serve payload_of
nine-passes = refl

pub nine-legal : Legal wide_job nine_parts
nine-legal = legal-by-test wide_job (opening_core wide_job) nine_parts nine-passes

pub nine-parts : parts_since nine_parts 0 0 ≡ 9
nine-parts = refl

pub nine-whole : lent_to (replay wide_job nine_parts) 0 0 ≡ Whole
unfolding opening_core sharing_of opening_replica struck execute applied cancelled recovered verdict_of event_of after first_cpu made_cpu next fetch_stop instruction_stop instruction_of call_at permits_of alu_of taken_by meaning serve payload_of
nine-whole = refl

tenth-passes : test_legal wide_job (opening_core wide_job) behind_nine ≡ true
unfolding opening_core sharing_of opening_replica struck execute applied cancelled recovered verdict_of event_of after first_cpu made_cpu next fetch_stop instruction_stop instruction_of call_at permits_of alu_of taken_by meaning serve payload_of
tenth-passes = refl

pub nine-tenth : Legal wide_job behind_nine
nine-tenth = legal-by-test wide_job (opening_core wide_job) behind_nine tenth-passes
