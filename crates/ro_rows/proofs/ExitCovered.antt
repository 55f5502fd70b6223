-- The journal of the file of 96 bytes is covered by the simulation theorem.
use Rattle.std.specs.Prelude.{◌≡◌, ◌≢◌, ℕ, zero, suc, [], ◌∷◌, Some, None}
use Rattle.std.proofs.Common.{inl, arith, refl, sym, ◌∙◌, inr}
use Rattle.ro_decode.specs.Table.{instruction_of}
use Rattle.ro_event.specs.Table.{call_at}
use Rattle.ro_region.specs.Permission.{permits_of}
use Rattle.ro_alu.specs.Results.{alu_of}
use Rattle.ro_exec.specs.Meaning.{meaning}
use Rattle.ro_exec.specs.Next.{fetch_stop, instruction_stop, next}
use Rattle.ro_exec.specs.Threads.{first_cpu}
use Rattle.ro_kernel.specs.Serve.{serve, payload_of}
use Rattle.ro_journal.specs.declared.How.TheVariants.{Exit, Sink}
use Rattle.ro_journal.specs.Plan.{outcome_of}
use Rattle.ro_plain.specs.Machine.{opening, steppable, step}
use Rattle.ro_plain.specs.Order.{RaceFree}
use Rattle.ro_plain.proofs.Calls.{some-injective}
use Rattle.ro_legal.specs.Ideal.{StaysApart}
use Rattle.ro_simulation.specs.Theorem.{StaysAlone, AllOfOne, Simulates}
use Rattle.ro_simulation.specs.Rows.{IsCovered}
use Rattle.ro_simulation.proofs.RowsStruck.{one-life, no-run}
use Rattle.ro_simulation.proofs.Simulates.{simulates}
use Rattle.ro_simulation.proofs.Laws.{one-struck-apart, alone-race-free}
use Rattle.ro_rows.specs.Exit.{exit_job, exit_journal}
use Rattle.ro_rows.proofs.ExitRow.{exit-legal, exit-output}

-- no execution of the program makes a thread
alone : StaysAlone exit_job.program
unfolding opening first_cpu steppable step next fetch_stop instruction_stop instruction_of call_at permits_of alu_of meaning serve payload_of
alone [] machine e = one-life machine _ e refl
alone (zero ∷ []) machine e = one-life machine _ e refl
alone (zero ∷ zero ∷ []) machine e = one-life machine _ e refl
alone (zero ∷ zero ∷ zero ∷ []) machine e = one-life machine _ e refl
alone (zero ∷ zero ∷ zero ∷ x ∷ rest) machine e = no-run machine _ e refl
alone (zero ∷ zero ∷ suc x ∷ rest) machine e = no-run machine _ e refl
alone (zero ∷ suc x ∷ rest) machine e = no-run machine _ e refl
alone (suc x ∷ rest) machine e = no-run machine _ e refl

-- it has no races
pub exit-free : RaceFree exit_job.program
exit-free = alone-race-free exit_job.program alone

-- there is no fault
no-fault : AllOfOne []
no-fault one other a b = absurd (let f : None ≡ Some one = a.1 in cc)

-- faults stay apart
apart : StaysApart exit_job exit_journal
apart = one-struck-apart exit_job exit_journal (omega arith) exit-free no-fault exit-legal

-- it does not end by a sink
no-sink : (bytes : ℕ) → outcome_of exit_journal ≢ Some (Sink bytes)
no-sink bytes e = let f : Exit 7 ≡ Sink bytes = some-injective e in cc

-- a simulation covers it
covered-by : Simulates exit_job exit_journal → IsCovered exit_job exit_journal (Exit 7) []
covered-by s = record { legal = exit-legal; apart = apart; simulates = s; ends = s.ends_as (Exit 7) refl; writes = sym (s.written.all_left no-sink) ∙ exit-output }

-- it is covered
pub exit-covered : IsCovered exit_job exit_journal (Exit 7) []
exit-covered = covered-by (simulates exit_job exit_journal exit-free (inr (inl refl)) exit-legal apart)
