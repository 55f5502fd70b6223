-- What the steps of a guest of many calls mean, and races of two threads.
use Rattle.std.specs.Prelude.{zero, suc, Some, None, slice_get, ◌≡◌, ℕ, ◌<◌, true, false, ◌&&◌, ◌==◌, nat_le, List, [], ◌∷◌, ◌++◌, replicate}
use Rattle.std.proofs.Common.{refl, sym, ◌∙◌, arith}
use Rattle.std.proofs.Math.Dec.{lit<}
use Rattle.ro_decode.specs.Table.{instruction_of, word_of}
use Rattle.ro_event.specs.Table.{call_at}
use Rattle.ro_region.specs.Permission.{permits_of}
use Rattle.ro_alu.specs.Results.{alu_of, amo_of, taken_by}
use Rattle.ro_exec.specs.Meaning.{meaning}
use Rattle.ro_exec.specs.Next.{fetch_stop, instruction_stop, next}
use Rattle.ro_exec.specs.Threads.{first_cpu, made_cpu}
use Rattle.ro_kernel.specs.Serve.{serve, payload_of}
use Rattle.ro_plain.specs.Machine.{Program, opening, steppable, step}
use Rattle.ro_plain.proofs.Calls.{some-injective}
use Rattle.ro_plain.specs.Accesses.{accesses}
use Rattle.ro_plain.specs.Order.{Unlocks, Locks, Makes, Joins, Exits, Updates, Observes, Nothing, sync_of, sync_at, accesses_at, HappensBefore, in_thread, by_mutex, by_word, by_creation, by_join, chain, RaceFree}
use Rattle.ro_simulation.specs.Guests.{locking_guest}
use Rattle.ro_simulation.specs.Drives.{driven}
use Rattle.ro_journal.specs.Plan.{plan_of}
use Rattle.ro_vote.specs.Verdict.{verdict_of}
use Rattle.ro_replica.specs.Replica.{opening_replica, applied, cancelled, recovered}
use Rattle.ro_replica.specs.Runs.{struck, execute}
use Rattle.ro_legal.specs.Core.{sharing_of, opening_core}
use Rattle.ro_legal.specs.Event.{event_of}
use Rattle.ro_legal.specs.Legal.{after}
use Rattle.ro_legal.specs.Action.{next_action}
use Rattle.ro_plain.proofs.Explore.{explored-free, stays-in}
use Rattle.ro_rows.specs.Guests.{atomic_guest, waiting_guest}
use Rattle.ro_rows.specs.Rows.{waiting_job}
use Rattle.ro_rows.specs.Order.{syncs_from, bytes, none, calls_guest, calls_plan, atomics_guest, beside_guest, own_word_guest, looking_guest, adding_plan, looking_plan, waiting_plan, mapping_guest, racing_guest, racing_plan, created_guest, joined_guest, locked_guest, two_mutexes_guest, two_mutexes_plan, creations_plan, exits_plan}

-- from a step that means nothing, the last of its thread, no step follows
none-from : (program : Program) (threads : List ℕ) (i : ℕ) → sync_at program threads i ≡ Nothing → ((j : ℕ) → i < j → slice_get threads i ≡ slice_get threads j → ⊥) → (j : ℕ) → HappensBefore program threads i j → ⊥
none-from program threads i nothing alone j (in_thread thread low a b) = alone j low (a ∙ sym b)
none-from program threads i nothing alone j (by_mutex mutex low a b) = let e : Nothing ≡ Unlocks mutex = sym nothing ∙ a in cc
none-from program threads i nothing alone j (by_word word low a b) = let e : Nothing ≡ Updates word = sym nothing ∙ a in cc
none-from program threads i nothing alone j (by_creation thread low a b) = let e : Nothing ≡ Makes thread = sym nothing ∙ a in cc
none-from program threads i nothing alone j (by_join thread low a b c) = let e : Nothing ≡ Exits = sym nothing ∙ b in cc
none-from program threads i nothing alone k (chain {j = j} p q) = none-from program threads i nothing alone j p

-- a place with a thread is not one behind the end
not-there : (n : ℕ) → Some n ≡ None → ⊥
not-there n e = cc

same : (m n : ℕ) → Some m ≡ Some n → m ≡ n
same m n e = some-injective e

-- thread 0 does not step again
alone : (j : ℕ) → 5 < j → slice_get racing_plan 5 ≡ slice_get racing_plan j → ⊥
alone zero low e = omega arith
alone (suc zero) low e = omega arith
alone (suc (suc zero)) low e = omega arith
alone (suc (suc (suc zero))) low e = omega arith
alone (suc (suc (suc (suc zero)))) low e = omega arith
alone (suc (suc (suc (suc (suc zero))))) low e = omega arith
alone (suc (suc (suc (suc (suc (suc zero)))))) low e = let f = same 0 1 e in omega arith
alone (suc (suc (suc (suc (suc (suc (suc j))))))) low e = not-there 0 e

pub calls-syncs : syncs_from calls_guest calls_plan 0 37 ≡ replicate 3 Nothing ++ Locks 0x100E4 ∷ replicate 5 Nothing ++ Unlocks 0x100E4 ∷ replicate 20 Nothing ++ Makes 1 ∷ Exits ∷ replicate 3 Nothing ++ Joins 1 ∷ Nothing ∷ []
unfolding opening sync_of accesses steppable step first_cpu made_cpu next fetch_stop instruction_stop instruction_of call_at permits_of alu_of taken_by meaning serve payload_of
calls-syncs = refl

pub calls-read : accesses_at calls_guest calls_plan 17 ≡ record { reads = none ∷ bytes 0x10088 4 ∷ []; writes = bytes 0x100E8 2 ∷ []; atomic = [] }
unfolding opening sync_of accesses steppable step first_cpu made_cpu next fetch_stop instruction_stop instruction_of call_at permits_of alu_of taken_by meaning serve payload_of
calls-read = refl

pub calls-write : accesses_at calls_guest calls_plan 20 ≡ record { reads = none ∷ bytes 0x10094 4 ∷ []; writes = none ∷ []; atomic = [] }
unfolding opening sync_of accesses steppable step first_cpu made_cpu next fetch_stop instruction_stop instruction_of call_at permits_of alu_of taken_by meaning serve payload_of
calls-write = refl

pub calls-load : accesses_at calls_guest calls_plan 21 ≡ record { reads = bytes 0x100E8 4 ∷ bytes 0x10098 4 ∷ []; writes = none ∷ []; atomic = [] }
unfolding opening sync_of accesses steppable step first_cpu made_cpu next fetch_stop instruction_stop instruction_of call_at permits_of alu_of taken_by meaning serve payload_of
calls-load = refl

pub calls-store : accesses_at calls_guest calls_plan 22 ≡ record { reads = none ∷ bytes 0x1009C 4 ∷ []; writes = bytes 0x100EC 2 ∷ []; atomic = [] }
unfolding opening sync_of accesses steppable step first_cpu made_cpu next fetch_stop instruction_stop instruction_of call_at permits_of alu_of taken_by meaning serve payload_of
calls-store = refl

pub calls-exit : accesses_at calls_guest calls_plan 31 ≡ record { reads = none ∷ []; writes = none ∷ []; atomic = [] }
unfolding opening sync_of accesses steppable step first_cpu made_cpu next fetch_stop instruction_stop instruction_of call_at permits_of alu_of taken_by meaning serve payload_of
calls-exit = refl

pub calls-join : accesses_at calls_guest calls_plan 35 ≡ record { reads = none ∷ []; writes = bytes 0x100E0 4 ∷ []; atomic = [] }
unfolding opening sync_of accesses steppable step first_cpu made_cpu next fetch_stop instruction_stop instruction_of call_at permits_of alu_of taken_by meaning serve payload_of
calls-join = refl

pub calls-trap : accesses_at calls_guest calls_plan 36 ≡ record { reads = bytes 0x100C4 4 ∷ []; writes = []; atomic = [] }
unfolding opening sync_of accesses steppable step first_cpu made_cpu next fetch_stop instruction_stop instruction_of call_at permits_of alu_of taken_by meaning serve payload_of
calls-trap = refl

pub races-races : RaceFree racing_guest → ⊥
unfolding opening sync_of accesses steppable step first_cpu made_cpu next fetch_stop instruction_stop instruction_of call_at permits_of alu_of taken_by meaning serve payload_of
races-races h = none-from racing_guest racing_plan 5 refl alone 6 (h racing_plan (_, refl) 5 6 0x1007C (lit< tt) (lit< tt) (λ e. let f : Some 0 ≡ Some 1 = e in cc) refl)

pub races-by-creation : RaceFree created_guest
unfolding opening sync_of accesses steppable step first_cpu made_cpu next fetch_stop instruction_stop instruction_of call_at permits_of alu_of taken_by meaning serve payload_of
races-by-creation = explored-free 20 created_guest refl

pub races-by-join : RaceFree joined_guest
unfolding opening sync_of accesses steppable step first_cpu made_cpu next fetch_stop instruction_stop instruction_of call_at permits_of alu_of taken_by meaning serve payload_of
races-by-join = explored-free 24 joined_guest refl

pub races-by-mutex : RaceFree locked_guest
unfolding opening sync_of accesses steppable step first_cpu made_cpu next fetch_stop instruction_stop instruction_of call_at permits_of alu_of taken_by meaning serve payload_of
races-by-mutex = explored-free 28 locked_guest refl

-- ---- atomics_row and words_row

pub atomics-syncs : syncs_from atomic_guest (replicate 9 0) 0 9 ≡ Nothing ∷ Observes 0x11000 ∷ Nothing ∷ Updates 0x11000 ∷ Nothing ∷ Updates 0x11000 ∷ replicate 3 Nothing
unfolding opening sync_of accesses steppable step first_cpu made_cpu next fetch_stop instruction_stop instruction_of word_of call_at permits_of alu_of amo_of taken_by meaning serve payload_of
atomics-syncs = refl

pub atomics-load : accesses_at atomic_guest (replicate 9 0) 1 ≡ record { reads = bytes 0x11000 4 ∷ bytes 0x10058 4 ∷ []; writes = none ∷ []; atomic = bytes 0x11000 4 ∷ [] }
unfolding opening sync_of accesses steppable step first_cpu made_cpu next fetch_stop instruction_stop instruction_of word_of call_at permits_of alu_of amo_of taken_by meaning serve payload_of
atomics-load = refl

pub atomics-store : accesses_at atomic_guest (replicate 9 0) 3 ≡ record { reads = bytes 0x11000 4 ∷ bytes 0x10060 4 ∷ []; writes = bytes 0x11000 4 ∷ []; atomic = bytes 0x11000 4 ∷ [] }
unfolding opening sync_of accesses steppable step first_cpu made_cpu next fetch_stop instruction_stop instruction_of word_of call_at permits_of alu_of amo_of taken_by meaning serve payload_of
atomics-store = refl

pub atomics-fails : accesses_at atomic_guest (replicate 9 0) 4 ≡ record { reads = bytes 0x11000 4 ∷ bytes 0x10064 4 ∷ []; writes = none ∷ []; atomic = bytes 0x11000 4 ∷ [] }
unfolding opening sync_of accesses steppable step first_cpu made_cpu next fetch_stop instruction_stop instruction_of word_of call_at permits_of alu_of amo_of taken_by meaning serve payload_of
atomics-fails = refl

pub atomics-adds : accesses_at atomic_guest (replicate 9 0) 5 ≡ record { reads = bytes 0x11000 4 ∷ bytes 0x10068 4 ∷ []; writes = bytes 0x11000 4 ∷ []; atomic = bytes 0x11000 4 ∷ [] }
unfolding opening sync_of accesses steppable step first_cpu made_cpu next fetch_stop instruction_stop instruction_of word_of call_at permits_of alu_of amo_of taken_by meaning serve payload_of
atomics-adds = refl

pub words-atomic : RaceFree atomics_guest
unfolding opening sync_of accesses steppable step first_cpu made_cpu next fetch_stop instruction_stop instruction_of word_of call_at permits_of alu_of amo_of taken_by meaning serve payload_of
words-atomic = explored-free 20 atomics_guest refl

pub words-plain : RaceFree beside_guest → ⊥
unfolding opening sync_of accesses steppable step first_cpu made_cpu next fetch_stop instruction_stop instruction_of word_of call_at permits_of alu_of amo_of taken_by meaning serve payload_of
words-plain h =
    let order = h adding_plan (_, refl) 6 8 0x10084 (lit< tt) (lit< tt) (λ e. let f : Some 0 ≡ Some 1 = e in cc) refl in
    let e : false ≡ true = stays-in beside_guest adding_plan _ refl (λ place. place == 6) refl 6 8 order refl in cc

pub words-own : RaceFree own_word_guest → ⊥
unfolding opening sync_of accesses steppable step first_cpu made_cpu next fetch_stop instruction_stop instruction_of word_of call_at permits_of alu_of amo_of taken_by meaning serve payload_of
words-own h =
    let order = h adding_plan (_, refl) 6 8 0x10068 (lit< tt) (lit< tt) (λ e. let f : Some 0 ≡ Some 1 = e in cc) refl in
    let e : false ≡ true = stays-in own_word_guest adding_plan _ refl (λ place. place == 6) refl 6 8 order refl in cc

pub words-nothing : syncs_from own_word_guest adding_plan 6 3 ≡ Nothing ∷ Nothing ∷ Updates 0x10068 ∷ []
unfolding opening sync_of accesses steppable step first_cpu made_cpu next fetch_stop instruction_stop instruction_of word_of call_at permits_of alu_of amo_of taken_by meaning serve payload_of
words-nothing = refl

-- ---- unordered_row

pub unordered-creation : HappensBefore locking_guest creations_plan 6 11
unfolding opening sync_of accesses steppable step first_cpu made_cpu next fetch_stop instruction_stop instruction_of call_at permits_of alu_of taken_by meaning serve payload_of
unordered-creation = by_creation 1 (lit< tt) refl refl

pub unordered-other-creation : HappensBefore locking_guest creations_plan 10 11 → ⊥
unfolding opening sync_of accesses steppable step first_cpu made_cpu next fetch_stop instruction_stop instruction_of call_at permits_of alu_of taken_by meaning serve payload_of
unordered-other-creation h = let e : false ≡ true = stays-in locking_guest creations_plan _ refl (λ place. place == 10) refl 10 11 h refl in cc

pub unordered-exit : HappensBefore locking_guest exits_plan 29 46
unfolding opening sync_of accesses steppable step first_cpu made_cpu next fetch_stop instruction_stop instruction_of call_at permits_of alu_of taken_by meaning serve payload_of
unordered-exit = by_join 1 (lit< tt) refl refl refl

pub unordered-other-exit : HappensBefore locking_guest exits_plan 45 46 → ⊥
unfolding opening sync_of accesses steppable step first_cpu made_cpu next fetch_stop instruction_stop instruction_of call_at permits_of alu_of taken_by meaning serve payload_of
unordered-other-exit h = let e : false ≡ true = stays-in locking_guest exits_plan _ refl (λ place. place == 45) refl 45 46 h refl in cc

pub unordered-mutexes : syncs_from two_mutexes_guest two_mutexes_plan 8 7 ≡ Locks 0x100A4 ∷ replicate 3 Nothing ++ Unlocks 0x100A4 ∷ Nothing ∷ Locks 0x100AC ∷ []
unfolding opening sync_of accesses steppable step first_cpu made_cpu next fetch_stop instruction_stop instruction_of call_at permits_of alu_of taken_by meaning serve payload_of
unordered-mutexes = refl

pub unordered-other-mutex : HappensBefore two_mutexes_guest two_mutexes_plan 9 15 → ⊥
unfolding opening sync_of accesses steppable step first_cpu made_cpu next fetch_stop instruction_stop instruction_of call_at permits_of alu_of taken_by meaning serve payload_of
unordered-other-mutex h = let e : false ≡ true = stays-in two_mutexes_guest two_mutexes_plan _ refl (λ place. nat_le 9 place && nat_le place 12) refl 9 15 h refl in cc

pub unordered-races : RaceFree two_mutexes_guest → ⊥
unfolding opening sync_of accesses steppable step first_cpu made_cpu next fetch_stop instruction_stop instruction_of call_at permits_of alu_of taken_by meaning serve payload_of
unordered-races h = unordered-other-mutex (h two_mutexes_plan (_, refl) 9 15 0x100A8 (lit< tt) (lit< tt) (λ e. let f : Some 0 ≡ Some 1 = e in cc) refl)

-- ---- wait_row

pub wait-plan : plan_of (driven 200 waiting_job) ≡ waiting_plan
unfolding opening_core sharing_of opening_replica struck execute applied cancelled recovered verdict_of event_of after next_action first_cpu made_cpu next fetch_stop instruction_stop instruction_of call_at permits_of alu_of taken_by meaning serve payload_of
wait-plan = refl

pub wait-syncs : syncs_from waiting_guest waiting_plan 0 39 ≡ replicate 3 Nothing ++ Locks 0x11000 ∷ replicate 6 Nothing ++ Makes 1 ∷ replicate 3 Nothing ++ Unlocks 0x11000 ∷ replicate 3 Nothing ++ Locks 0x11000 ∷ replicate 5 Nothing ++ Unlocks 0x11000 ∷ Locks 0x11000 ∷ replicate 2 Nothing ++ Unlocks 0x11000 ∷ replicate 5 Nothing ++ Exits ∷ Joins 1 ∷ replicate 3 Nothing
unfolding opening sync_of accesses steppable step first_cpu made_cpu next fetch_stop instruction_stop instruction_of word_of call_at permits_of alu_of amo_of taken_by meaning serve payload_of
wait-syncs = refl

pub wait-first : accesses_at waiting_guest waiting_plan 14 ≡ record { reads = none ∷ []; writes = []; atomic = [] }
unfolding opening sync_of accesses steppable step first_cpu made_cpu next fetch_stop instruction_stop instruction_of word_of call_at permits_of alu_of amo_of taken_by meaning serve payload_of
wait-first = refl

pub wait-second : accesses_at waiting_guest waiting_plan 25 ≡ record { reads = none ∷ []; writes = none ∷ []; atomic = [] }
unfolding opening sync_of accesses steppable step first_cpu made_cpu next fetch_stop instruction_stop instruction_of word_of call_at permits_of alu_of amo_of taken_by meaning serve payload_of
wait-second = refl

pub wait-signal : accesses_at waiting_guest waiting_plan 21 ≡ record { reads = none ∷ []; writes = none ∷ []; atomic = [] }
unfolding opening sync_of accesses steppable step first_cpu made_cpu next fetch_stop instruction_stop instruction_of word_of call_at permits_of alu_of amo_of taken_by meaning serve payload_of
wait-signal = refl

pub wait-before-wait : HappensBefore waiting_guest waiting_plan 13 18
unfolding opening sync_of accesses steppable step first_cpu made_cpu next fetch_stop instruction_stop instruction_of word_of call_at permits_of alu_of amo_of taken_by meaning serve payload_of
wait-before-wait = chain (in_thread {i = 13} {j = 14} 0 (lit< tt) refl refl) (by_mutex 0x11000 (lit< tt) refl refl)

pub wait-behind-wait : HappensBefore waiting_guest waiting_plan 20 26
unfolding opening sync_of accesses steppable step first_cpu made_cpu next fetch_stop instruction_stop instruction_of word_of call_at permits_of alu_of amo_of taken_by meaning serve payload_of
wait-behind-wait = chain (in_thread {i = 20} {j = 24} 1 (lit< tt) refl refl) (chain (by_mutex {i = 24} {j = 25} 0x11000 (lit< tt) refl refl) (in_thread 0 (lit< tt) refl refl))

-- ---- mapping_row

pub mapping-syncs : syncs_from mapping_guest (replicate 10 0) 0 10 ≡ replicate 10 Nothing
unfolding opening sync_of accesses steppable step first_cpu made_cpu next fetch_stop instruction_stop instruction_of word_of call_at permits_of alu_of amo_of taken_by meaning serve payload_of
mapping-syncs = refl

pub mapping-given : accesses_at mapping_guest (replicate 10 0) 5 ≡ record { reads = none ∷ bytes 0x10068 4 ∷ []; writes = none ∷ bytes 0x50000000 0x2000 ∷ []; atomic = [] }
unfolding opening sync_of accesses steppable step first_cpu made_cpu next fetch_stop instruction_stop instruction_of word_of call_at permits_of alu_of amo_of taken_by meaning serve payload_of
mapping-given = refl

pub mapping-refused : accesses_at mapping_guest (replicate 10 0) 7 ≡ record { reads = none ∷ bytes 0x10070 4 ∷ []; writes = none ∷ []; atomic = [] }
unfolding opening sync_of accesses steppable step first_cpu made_cpu next fetch_stop instruction_stop instruction_of word_of call_at permits_of alu_of amo_of taken_by meaning serve payload_of
mapping-refused = refl

pub mapping-store : accesses_at mapping_guest (replicate 10 0) 9 ≡ record { reads = none ∷ bytes 0x10078 4 ∷ []; writes = bytes 0x50001FFF 1 ∷ []; atomic = [] }
unfolding opening sync_of accesses steppable step first_cpu made_cpu next fetch_stop instruction_stop instruction_of word_of call_at permits_of alu_of amo_of taken_by meaning serve payload_of
mapping-store = refl

-- ---- looks_row

pub looks-syncs : syncs_from looking_guest adding_plan 6 3 ≡ Updates 0x10084 ∷ Nothing ∷ Observes 0x10084 ∷ []
unfolding opening sync_of accesses steppable step first_cpu made_cpu next fetch_stop instruction_stop instruction_of word_of call_at permits_of alu_of amo_of taken_by meaning serve payload_of
looks-syncs = refl

pub looks-update : HappensBefore looking_guest adding_plan 6 8
unfolding opening sync_of accesses steppable step first_cpu made_cpu next fetch_stop instruction_stop instruction_of word_of call_at permits_of alu_of amo_of taken_by meaning serve payload_of
looks-update = by_word 0x10084 (lit< tt) refl refl

pub looks-before-it : HappensBefore looking_guest adding_plan 0 8
unfolding opening sync_of accesses steppable step first_cpu made_cpu next fetch_stop instruction_stop instruction_of word_of call_at permits_of alu_of amo_of taken_by meaning serve payload_of
looks-before-it = chain (in_thread {i = 0} {j = 6} 0 (lit< tt) refl refl) (by_word 0x10084 (lit< tt) refl refl)

pub looks-looks-first : syncs_from looking_guest looking_plan 7 2 ≡ Observes 0x10084 ∷ Updates 0x10084 ∷ []
unfolding opening sync_of accesses steppable step first_cpu made_cpu next fetch_stop instruction_stop instruction_of word_of call_at permits_of alu_of amo_of taken_by meaning serve payload_of
looks-looks-first = refl

pub looks-look : HappensBefore looking_guest looking_plan 7 8 → ⊥
unfolding opening sync_of accesses steppable step first_cpu made_cpu next fetch_stop instruction_stop instruction_of word_of call_at permits_of alu_of amo_of taken_by meaning serve payload_of
looks-look h = let e : false ≡ true = stays-in looking_guest looking_plan _ refl (λ place. place == 7) refl 7 8 h refl in cc
