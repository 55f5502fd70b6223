-- Of five replicas two that do what no run of them could.
use Rattle.std.specs.Prelude.{◌≡◌, [], ◌∷◌, Some}
use Rattle.std.proofs.Common.{refl, inl, inr, lit<, lit≤}
use Rattle.ro_journal.specs.declared.How.TheVariants.{Exit}
use Rattle.ro_exec.specs.Threads.{first_cpu}
use Rattle.ro_legal.specs.Legal.{due}
use Rattle.ro_simulation.specs.Guests.{exit_guest}
use Rattle.ro_simulation.specs.Corruptions.{WritesStill}
use Rattle.ro_simulation.proofs.Laws.{alone-race-free}
use Rattle.ro_simulation.proofs.RowsStruck.{exit-alone}
use Rattle.ro_simulation.proofs.Corruptions.{writes-named}
use Rattle.ro_decode.specs.Table.{instruction_of}
use Rattle.ro_event.specs.Table.{call_at}
use Rattle.ro_region.specs.Permission.{permits_of}
use Rattle.ro_alu.specs.Results.{alu_of}
use Rattle.ro_exec.specs.Meaning.{meaning}
use Rattle.ro_exec.specs.Next.{fetch_stop, instruction_stop, next}
use Rattle.ro_exec.specs.Threads.{made_cpu}
use Rattle.ro_kernel.specs.Serve.{serve, payload_of}
use Rattle.ro_vote.specs.Verdict.{verdict_of}
use Rattle.ro_replica.specs.Replica.{opening_replica, applied, cancelled, recovered}
use Rattle.ro_replica.specs.Runs.{struck, execute}
use Rattle.ro_plain.specs.Machine.{opening, steppable, step}
use Rattle.ro_legal.specs.Core.{sharing_of, opening_core}
use Rattle.ro_legal.specs.Event.{event_of}
use Rattle.ro_legal.specs.Legal.{after}
use Rattle.ro_legal.specs.Upsets.{Possible, core_of, CorruptsOnly}
use Rattle.ro_simulation.specs.Corrupted.{five_job, corrupted_two}
use Rattle.ro_simulation.proofs.RowsCorrupted.{watched, EachNames, only-named, none-is, one-is}

pub possible-two : Possible five_job corrupted_two
unfolding opening opening_core sharing_of opening_replica struck execute applied cancelled recovered verdict_of event_of after first_cpu made_cpu steppable step next fetch_stop instruction_stop instruction_of call_at permits_of alu_of meaning serve payload_of
possible-two = (record { not_ended = refl; old = _; there = refl; shape = record { backed = refl; made = refl; watched = watched; waiting = λ fault e. e } }, (record { not_ended = refl; old = _; there = refl; shape = record { backed = refl; made = refl; watched = watched; waiting = λ fault e. e } }, (record { going = refl; driver_exists = lit< tt; driver_is_idle = refl; lendable = refl }, (record { returns = record { not_ended = refl; out = refl; ran = _; runs = refl; struck = refl }; arrives = inr (lit< tt, refl, refl) }, (record { going = refl; driver_exists = lit< tt; driver_is_idle = refl; lendable = refl }, (record { upsets = record { not_ended = refl; old = _; there = refl; shape = record { backed = refl; made = refl; watched = watched; waiting = λ fault e. e } }; out = refl; so = inl (record { whole = refl; faults_at = refl; arrives = inr (lit< tt, refl) }) }, (record { going = refl; driver_exists = lit< tt; driver_is_idle = refl; lendable = refl }, (record { returns = record { not_ended = refl; out = refl; ran = _; runs = refl; struck = refl }; arrives = inr (lit< tt, refl, refl) }, (record { going = refl; driver_exists = lit< tt; driver_is_idle = refl; lendable = refl }, (record { upsets = record { not_ended = refl; old = _; there = refl; shape = record { backed = refl; made = refl; watched = watched; waiting = λ fault e. e } }; out = refl; so = inr (record { parted = refl; early = lit< tt; unstopped = refl; wants = refl }) }, (record { going = refl; driver_exists = lit< tt; driver_is_idle = refl; lendable = refl }, (record { upsets = record { not_ended = refl; old = _; there = refl; shape = record { backed = refl; made = refl; watched = watched; waiting = λ fault e. e } }; out = refl; so = inl (record { whole = refl; faults_at = refl; arrives = inr (lit< tt, refl) }) }, (record { going = refl; driver_exists = lit< tt; driver_is_idle = refl; lendable = refl }, (record { returns = record { not_ended = refl; out = refl; ran = _; runs = refl; struck = refl }; arrives = inr (lit< tt, refl, refl) }, (record { may = refl; verdict = refl; count_is = refl; event = _; comes = refl; did_is = refl; fits = lit≤ tt }, ((refl, due refl), tt))))))))))))))))

only-both : EachNames (1 ∷ 3 ∷ []) corrupted_two
only-both = (one-is (1 ∷ 3 ∷ []) 1 refl, (one-is (1 ∷ 3 ∷ []) 3 refl, (none-is (1 ∷ 3 ∷ []), (none-is (1 ∷ 3 ∷ []), (none-is (1 ∷ 3 ∷ []), (one-is (1 ∷ 3 ∷ []) 1 refl, (none-is (1 ∷ 3 ∷ []), (none-is (1 ∷ 3 ∷ []), (none-is (1 ∷ 3 ∷ []), (one-is (1 ∷ 3 ∷ []) 3 refl, (none-is (1 ∷ 3 ∷ []), (one-is (1 ∷ 3 ∷ []) 3 refl, (none-is (1 ∷ 3 ∷ []), (none-is (1 ∷ 3 ∷ []), (none-is (1 ∷ 3 ∷ []), (none-is (1 ∷ 3 ∷ []), tt))))))))))))))))

-- replicas 1 and 3 alone are corrupted
pub only-two : CorruptsOnly (1 ∷ 3 ∷ []) corrupted_two
only-two = only-named (1 ∷ 3 ∷ []) corrupted_two only-both

-- it exits with 7 all the same
pub two-still : WritesStill five_job corrupted_two
two-still = writes-named five_job (alone-race-free exit_guest exit-alone) (inr (inr refl)) corrupted_two (1 ∷ 3 ∷ []) (lit≤ tt) only-two possible-two

pub two-exit : (core_of five_job corrupted_two).ended ≡ Some (Exit 7)
unfolding opening opening_core sharing_of opening_replica struck execute applied cancelled recovered verdict_of event_of after first_cpu made_cpu steppable step next fetch_stop instruction_stop instruction_of call_at permits_of alu_of meaning serve payload_of
two-exit = refl
