-- What the steps of the locking guest mean for the order, and which bytes they access.
use Rattle.std.specs.Prelude.{◌≡◌, ℕ, ◌<◌, List, [], ◌∷◌, ◌++◌, replicate}
use Rattle.std.proofs.Common.{refl, arith}
use Rattle.std.proofs.Math.Dec.{lit<}
use Rattle.ro_decode.specs.Table.{instruction_of}
use Rattle.ro_event.specs.Table.{call_at}
use Rattle.ro_region.specs.Permission.{permits_of}
use Rattle.ro_alu.specs.Results.{alu_of, taken_by}
use Rattle.ro_exec.specs.Meaning.{meaning}
use Rattle.ro_exec.specs.Next.{fetch_stop, instruction_stop, next}
use Rattle.ro_exec.specs.Threads.{first_cpu, made_cpu}
use Rattle.ro_kernel.specs.Serve.{serve, payload_of}
use Rattle.ro_journal.specs.Plan.{plan_of}
use Rattle.ro_vote.specs.Verdict.{verdict_of}
use Rattle.ro_replica.specs.Replica.{opening_replica, applied, cancelled, recovered}
use Rattle.ro_replica.specs.Runs.{struck, execute}
use Rattle.ro_plain.specs.Machine.{Program, opening, steppable, step}
use Rattle.ro_plain.specs.Accesses.{accesses}
use Rattle.ro_plain.specs.Order.{Unlocks, Locks, Makes, Joins, Exits, Nothing, sync_of, accesses_at, HappensBefore, in_thread, by_mutex, by_word, by_creation, by_join, chain}
use Rattle.ro_legal.specs.Core.{sharing_of, opening_core}
use Rattle.ro_legal.specs.Event.{event_of}
use Rattle.ro_legal.specs.Legal.{after}
use Rattle.ro_legal.specs.Action.{next_action}
use Rattle.ro_simulation.specs.Drives.{driven}
use Rattle.ro_simulation.specs.Guests.{locking_guest, usual_job}
use Rattle.ro_rows.specs.Order.{locking_plan, syncs_from, bytes, none}

-- the plan of one driver
pub plan-is : plan_of (driven 200 (usual_job locking_guest [])) ≡ locking_plan
unfolding opening_core sharing_of opening_replica struck execute applied cancelled recovered verdict_of event_of after next_action first_cpu made_cpu next fetch_stop instruction_stop instruction_of call_at permits_of alu_of taken_by meaning serve payload_of
plan-is = refl

-- what each step means
pub syncs-are : syncs_from locking_guest locking_plan 0 53 ≡ replicate 6 Nothing ++ Makes 1 ∷ replicate 3 Nothing ++ Makes 2 ∷ replicate 7 Nothing ++ Locks 0x100E8 ∷ replicate 7 Nothing ++ Unlocks 0x100E8 ∷ replicate 2 Nothing ++ Exits ∷ Joins 1 ∷ replicate 6 Nothing ++ Locks 0x100E8 ∷ replicate 7 Nothing ++ Unlocks 0x100E8 ∷ replicate 2 Nothing ++ Exits ∷ Joins 2 ∷ replicate 3 Nothing
unfolding opening sync_of steppable step first_cpu made_cpu next fetch_stop instruction_stop instruction_of call_at permits_of alu_of taken_by meaning serve payload_of
syncs-are = refl

-- the first write is before the second
pub chained : HappensBefore locking_guest locking_plan 23 42
unfolding opening sync_of steppable step first_cpu made_cpu next fetch_stop instruction_stop instruction_of call_at permits_of alu_of taken_by meaning serve payload_of
chained = chain (in_thread 1 (lit< tt) refl refl) (chain (by_mutex {i = 26} {j = 37} 0x100E8 (lit< tt) refl refl) (in_thread 2 (lit< tt) refl refl))

-- a creation is before the first step of what it made
pub created : HappensBefore locking_guest locking_plan 6 14
unfolding opening sync_of steppable step first_cpu made_cpu next fetch_stop instruction_stop instruction_of call_at permits_of alu_of taken_by meaning serve payload_of
created = by_creation 1 (lit< tt) refl refl

-- an exit is before what follows the join
pub was-joined : HappensBefore locking_guest locking_plan 29 31
unfolding opening sync_of steppable step first_cpu made_cpu next fetch_stop instruction_stop instruction_of call_at permits_of alu_of taken_by meaning serve payload_of
was-joined = chain (by_join {i = 29} {j = 30} 1 (lit< tt) refl refl refl) (in_thread 0 (lit< tt) refl refl)

-- what is before comes earlier
pub before-earlier : (program : Program) (threads : List ℕ) (i j : ℕ) → HappensBefore program threads i j → i < j
before-earlier program threads i j (in_thread thread low a b) = low
before-earlier program threads i j (by_mutex mutex low a b) = low
before-earlier program threads i j (by_word word low a b) = low
before-earlier program threads i j (by_creation thread low a b) = low
before-earlier program threads i j (by_join thread low a b c) = low
before-earlier program threads i k (chain {j = j} p q) =
    let f = before-earlier program threads i j p in let g = before-earlier program threads j k q in omega arith

-- nothing is before what came earlier
pub not-back : HappensBefore locking_guest locking_plan 42 23 → ⊥
not-back h = let f = before-earlier locking_guest locking_plan 42 23 h in omega arith

-- a creation stores the number
pub create-accesses : accesses_at locking_guest locking_plan 6 ≡ record { reads = none ∷ []; writes = bytes 0x100E0 4 ∷ []; atomic = [] }
unfolding opening accesses steppable step first_cpu made_cpu next fetch_stop instruction_stop instruction_of call_at permits_of alu_of taken_by meaning serve payload_of
create-accesses = refl

-- a lock accesses nothing
pub lock-accesses : accesses_at locking_guest locking_plan 18 ≡ record { reads = none ∷ []; writes = none ∷ []; atomic = [] }
unfolding opening accesses steppable step first_cpu made_cpu next fetch_stop instruction_stop instruction_of call_at permits_of alu_of taken_by meaning serve payload_of
lock-accesses = refl

-- a write reads its instruction and its payload
pub write-accesses : accesses_at locking_guest locking_plan 23 ≡ record { reads = bytes 0x100EC 1 ∷ bytes 0x100B8 4 ∷ []; writes = none ∷ []; atomic = [] }
unfolding opening accesses steppable step first_cpu made_cpu next fetch_stop instruction_stop instruction_of call_at permits_of alu_of taken_by meaning serve payload_of
write-accesses = refl

-- a join without a place accesses nothing
pub join-accesses : accesses_at locking_guest locking_plan 30 ≡ record { reads = none ∷ []; writes = none ∷ []; atomic = [] }
unfolding opening accesses steppable step first_cpu made_cpu next fetch_stop instruction_stop instruction_of call_at permits_of alu_of taken_by meaning serve payload_of
join-accesses = refl
