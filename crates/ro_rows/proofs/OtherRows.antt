-- A vote that is not allowed, and a long run.
use Rattle.std.specs.Prelude.{◌≡◌, [], ◌∷◌, replicate, Some, None}
use Rattle.std.specs.Option.{option_map}
use Rattle.std.proofs.Common.{refl}
use Rattle.ro_journal.specs.declared.losers.Lost.TheVariants.{Nobody}
use Rattle.ro_decode.specs.Table.{instruction_of}
use Rattle.ro_event.specs.Table.{call_at}
use Rattle.ro_region.specs.Permission.{permits_of}
use Rattle.ro_alu.specs.Results.{alu_of, taken_by}
use Rattle.ro_exec.specs.Meaning.{meaning}
use Rattle.ro_exec.specs.Next.{fetch_stop, instruction_stop, next}
use Rattle.ro_exec.specs.Threads.{first_cpu, made_cpu}
use Rattle.ro_kernel.specs.Serve.{serve, payload_of}
use Rattle.ro_journal.specs.declared.Did.TheVariants.{Served}
use Rattle.ro_journal.specs.declared.Entry.TheVariants.{Vote}
use Rattle.ro_vote.specs.Verdict.{Won, verdict_of}
use Rattle.ro_replica.specs.Replica.{opening_replica, applied, cancelled, recovered}
use Rattle.ro_replica.specs.Runs.{struck, execute}
use Rattle.ro_plain.specs.Machine.{Machine, opening, steppable, step, run}
use Rattle.ro_legal.specs.Core.{sharing_of, opening_core}
use Rattle.ro_legal.specs.Event.{event_of}
use Rattle.ro_legal.specs.Legal.{IsAllowed, after, replay}
use Rattle.ro_legal.specs.Action.{next_action}
use Rattle.ro_simulation.specs.Guests.{exit_guest, usual_job}
use Rattle.ro_simulation.specs.Rows.{flip_a0}
use Rattle.ro_rows.specs.Guests.{loop_guest}
use Rattle.ro_rows.specs.Rows.{before_vote}

-- a vote that names no loser where there is one is not allowed
pub loser-named : IsAllowed (usual_job exit_guest (flip_a0 1 ∷ [])) (replay (usual_job exit_guest (flip_a0 1 ∷ [])) before_vote) (Vote 0 2 0 Nobody Served) → ⊥
unfolding opening_core sharing_of opening_replica struck execute applied cancelled recovered verdict_of event_of after next_action first_cpu made_cpu next fetch_stop instruction_stop instruction_of call_at permits_of alu_of taken_by meaning serve payload_of
loser-named h = let e : Won 0 (1 ∷ []) ≡ Won 0 [] = h.verdict in cc

-- the jump runs on
pub loop-runs : option_map (λ (machine : Machine). machine.ended) (run loop_guest (opening loop_guest) (replicate 1000 0)) ≡ Some None
unfolding opening steppable step first_cpu made_cpu next fetch_stop instruction_stop instruction_of call_at permits_of alu_of taken_by meaning serve payload_of
loop-runs = refl
