-- A guest that signals a condition variable and then waits on it comes to a deadlock.
use Rattle.std.specs.Prelude.{◌≡◌, ℕ, zero, suc, true, [], ◌∷◌, Option, Some, None}
use Rattle.std.specs.Option.{option_map}
use Rattle.std.proofs.Common.{refl, sym, ap, ◌∙◌}
use Rattle.ro_decode.specs.Table.{instruction_of}
use Rattle.ro_event.specs.Table.{call_at}
use Rattle.ro_region.specs.Permission.{permits_of}
use Rattle.ro_alu.specs.Results.{alu_of, taken_by}
use Rattle.ro_exec.specs.Meaning.{meaning}
use Rattle.ro_exec.specs.Next.{fetch_stop, instruction_stop, next}
use Rattle.ro_exec.specs.Threads.{first_cpu, made_cpu}
use Rattle.ro_kernel.specs.Serve.{serve, payload_of}
use Rattle.ro_journal.specs.declared.How.TheVariants.{Deadlock}
use Rattle.ro_journal.specs.declared.Entry.TheVariants.{End}
use Rattle.ro_vote.specs.Verdict.{verdict_of}
use Rattle.ro_replica.specs.Replica.{opening_replica, applied, cancelled, recovered}
use Rattle.ro_replica.specs.Runs.{struck, execute}
use Rattle.ro_plain.specs.Machine.{Machine, opening, steppable, step}
use Rattle.ro_legal.specs.Core.{sharing_of, opening_core}
use Rattle.ro_legal.specs.Event.{event_of}
use Rattle.ro_legal.specs.Legal.{Legal, IsAllowed, after, replay, alone}
use Rattle.ro_legal.specs.Action.{next_action}
use Rattle.ro_legal.specs.Ideal.{ideal}
use Rattle.ro_plain.proofs.Calls.{some-injective}
use Rattle.ro_legal.proofs.Journals.{LegalFrom-append}
use Rattle.ro_simulation.specs.Drives.{driven}
use Rattle.ro_simulation.proofs.Checks.{test_legal, legal-by-test}
use Rattle.ro_rows.specs.Guests.{lost_guest}
use Rattle.ro_rows.specs.Rows.{IdealEnds, lost_job, lost_before, lost_journal}

-- the entries before the end pass the test of legality
passes : test_legal lost_job (opening_core lost_job) lost_before ≡ true
unfolding opening_core sharing_of opening_replica struck execute applied cancelled recovered verdict_of event_of after next_action first_cpu made_cpu next fetch_stop instruction_stop instruction_of call_at permits_of alu_of taken_by meaning serve payload_of
passes = refl

-- nothing else is possible after them
stuck : IsAllowed lost_job (replay lost_job lost_before) (End Deadlock)
unfolding opening_core sharing_of opening_replica struck execute applied cancelled recovered verdict_of event_of after next_action first_cpu made_cpu next fetch_stop instruction_stop instruction_of call_at permits_of alu_of taken_by meaning serve payload_of
stuck = (refl, alone refl)

-- the journal is legal
pub lost-legal : Legal lost_job lost_journal
lost-legal = LegalFrom-append lost_job (opening_core lost_job) lost_before (End Deadlock ∷ []) (legal-by-test lost_job (opening_core lost_job) lost_before passes) (stuck, tt)

-- one driver makes this journal
pub lost-driven : driven 100 lost_job ≡ lost_journal
unfolding opening_core sharing_of opening_replica struck execute applied cancelled recovered verdict_of event_of after next_action first_cpu made_cpu next fetch_stop instruction_stop instruction_of call_at permits_of alu_of taken_by meaning serve payload_of
lost-driven = refl

-- no thread can step in a machine that was computed
no-step : (machine : Machine) (o : Option Machine) (thread : ℕ) → o ≡ Some machine → option_map (λ (m : Machine). step lost_guest m thread) o ≡ Some None → step lost_guest machine thread ≡ None
no-step machine o thread e f = some-injective (sym (ap (option_map (λ (m : Machine). step lost_guest m thread)) e) ∙ f)

-- no thread can step in the unreplicated machine
none : (thread : ℕ) → option_map (λ (m : Machine). step lost_guest m thread) (ideal lost_job lost_journal) ≡ Some None
unfolding opening_core sharing_of opening_replica struck execute applied cancelled recovered verdict_of event_of after next_action first_cpu made_cpu next fetch_stop instruction_stop instruction_of call_at permits_of alu_of taken_by meaning serve payload_of opening steppable step
none zero = refl
none (suc thread) = refl

-- the unreplicated machine of the journal
ideal-of : (machine : Machine) → ideal lost_job lost_journal ≡ Some machine → machine.ended ≡ None → machine.output ≡ [] → IdealEnds lost_job lost_journal Deadlock []
ideal-of machine e on output = record { machine = machine; ideal_is = e; ends = (on, λ thread. no-step machine (ideal lost_job lost_journal) thread e (none thread)); writes = output }

-- the unreplicated machine of the journal
pub lost-ideal : IdealEnds lost_job lost_journal Deadlock []
unfolding opening_core sharing_of opening_replica struck execute applied cancelled recovered verdict_of event_of after next_action first_cpu made_cpu next fetch_stop instruction_stop instruction_of call_at permits_of alu_of taken_by meaning serve payload_of opening steppable step
lost-ideal = ideal-of _ refl refl refl
