-- The row of the file of 96 bytes, by computation.
use Rattle.std.specs.Prelude.{◌≡◌, true, [], None, length}
use Rattle.std.proofs.Common.{refl, inl}
use Rattle.ro_decode.specs.Table.{instruction_of}
use Rattle.ro_event.specs.Table.{call_at}
use Rattle.ro_region.specs.Permission.{permits_of}
use Rattle.ro_alu.specs.Results.{alu_of}
use Rattle.ro_elf.specs.Elf.{bad_headers}
use Rattle.ro_elf.specs.Numbers.{half_in, word_in}
use Rattle.ro_elf.specs.Segments.{header_in, headers_of}
use Rattle.ro_sym.specs.Sections.{section_in}
use Rattle.ro_sym.specs.Calls.{calls_of}
use Rattle.ro_sym.specs.Symbols.{symbol_in}
use Rattle.ro_image.specs.Executable.{bad_code, image_from, image_of}
use Rattle.ro_exec.specs.Meaning.{meaning}
use Rattle.ro_exec.specs.Next.{fetch_stop, instruction_stop, next}
use Rattle.ro_exec.specs.Threads.{first_cpu, made_cpu}
use Rattle.ro_kernel.specs.Serve.{serve, payload_of}
use Rattle.ro_journal.specs.declared.How.TheVariants.{Exit}
use Rattle.ro_vote.specs.Verdict.{verdict_of}
use Rattle.ro_replica.specs.Replica.{opening_replica, applied, cancelled, recovered}
use Rattle.ro_replica.specs.Runs.{struck, execute}
use Rattle.ro_plain.specs.Machine.{opening, steppable, step}
use Rattle.ro_legal.specs.Core.{sharing_of, opening_core}
use Rattle.ro_legal.specs.Event.{event_of}
use Rattle.ro_legal.specs.Legal.{Legal, after, output_of}
use Rattle.ro_legal.specs.Action.{next_action, EachIsNext}
use Rattle.ro_simulation.specs.Drives.{driven}
use Rattle.ro_simulation.proofs.Checks.{test_legal, legal-by-test}
use Rattle.ro_rows.specs.Exit.{exit_file, exit_image, exit_job, exit_journal}
use Rattle.ro_rows.specs.Rows.{IdealEnds}

-- the file has 96 bytes
pub exit-size : length exit_file ≡ 96
exit-size = refl

-- it is accepted
pub exit-accepted : bad_code exit_file ≡ None
unfolding bad_headers half_in word_in header_in headers_of section_in calls_of symbol_in
exit-accepted = refl

-- and this is its image
pub exit-image : image_of exit_file ≡ exit_image
unfolding half_in word_in header_in headers_of section_in calls_of symbol_in image_from
exit-image = refl

-- one driver makes this journal
pub exit-driven : driven 8 exit_job ≡ exit_journal
unfolding opening_core sharing_of opening_replica struck execute applied cancelled recovered verdict_of event_of after next_action first_cpu made_cpu next fetch_stop instruction_stop instruction_of call_at permits_of alu_of meaning serve payload_of
exit-driven = refl

-- it passes the test of legality
passes : test_legal exit_job (opening_core exit_job) exit_journal ≡ true
unfolding opening_core sharing_of opening_replica struck execute applied cancelled recovered verdict_of event_of after first_cpu made_cpu next fetch_stop instruction_stop instruction_of call_at permits_of alu_of meaning serve payload_of
passes = refl

-- the journal is legal
pub exit-legal : Legal exit_job exit_journal
exit-legal = legal-by-test exit_job (opening_core exit_job) exit_journal passes

-- each entry is what the core does next
pub exit-next : EachIsNext exit_job (opening_core exit_job) exit_journal
unfolding opening_core sharing_of opening_replica struck execute applied cancelled recovered verdict_of event_of after next_action first_cpu made_cpu next fetch_stop instruction_stop instruction_of call_at permits_of alu_of meaning serve payload_of
exit-next = (refl, (tt, (refl, (tt, (refl, (tt, (refl, (inl refl, tt))))))))

-- the unreplicated machine ends by the exit
pub exit-ideal : IdealEnds exit_job exit_journal (Exit 7) []
unfolding opening steppable step first_cpu next fetch_stop instruction_stop instruction_of call_at permits_of alu_of meaning serve payload_of
exit-ideal = record { machine = _; ideal_is = refl; ends = refl; writes = refl }

-- nothing is written
pub exit-output : output_of exit_job exit_journal ≡ []
unfolding opening_core sharing_of opening_replica struck execute applied cancelled recovered verdict_of event_of after first_cpu made_cpu next fetch_stop instruction_stop instruction_of call_at permits_of alu_of meaning serve payload_of
exit-output = refl
