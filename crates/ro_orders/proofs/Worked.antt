-- What the rows say, computed.
use Rattle.std.specs.Prelude.{◌≡◌, ℕ, ◌+◌, true, false, List, [], ◌∷◌, ◌++◌, map, replicate, Option, Some, None, slice_get, slice_set}
use Rattle.std.specs.Option.{option_map}
use Rattle.std.proofs.Common.{refl, sym, ap, ◌∙◌, arith}
use Rattle.std.proofs.lemmas.Bool.{true≢false}
use Rattle.ro_decode.specs.Table.{instruction_of}
use Rattle.ro_event.specs.declared.calls.Which.{Which}
use Rattle.ro_event.specs.declared.calls.Which.TheVariants.{Function}
use Rattle.ro_event.specs.declared.functions.Function.TheVariants.{Lock, TryLock, Unlock, Wait}
use Rattle.ro_event.specs.declared.stops.Stop.TheVariants.{Calls}
use Rattle.ro_event.specs.Table.{call_at}
use Rattle.ro_region.specs.Permission.{permits_of}
use Rattle.ro_alu.specs.Results.{alu_of, taken_by}
use Rattle.ro_exec.specs.Meaning.{meaning}
use Rattle.ro_exec.specs.Next.{all_backed, Stands, fetch_stop, instruction_stop, next}
use Rattle.ro_exec.specs.Threads.{first_cpu, made_cpu}
use Rattle.ro_kernel.specs.Kernel.{opening_kernel}
use Rattle.ro_kernel.specs.Serve.{serve, payload_of}
use Rattle.ro_plain.specs.Machine.{Machine, opening, steppable, step, run}
use Rattle.ro_plain.specs.Accesses.{accesses}
use Rattle.ro_plain.specs.Order.{sync_of, RaceFree}
use Rattle.ro_plain.proofs.Calls.{some-injective}
use Rattle.ro_plain.proofs.Explore.{explored-free}
use Rattle.ro_orders.specs.Turns.{Turn, Alone, Gets, Serves, turn_by, turn_of, OfMutex, OfKernel, who_takes, order_of, times, TakesByLocks, SameCounts, SameOrders}
use Rattle.ro_orders.specs.Choices.{in_table}
use Rattle.ro_orders.specs.Copies.{Copy, opening_copy, Rows, is_backed, StepsAlone, first_after, Runs, at_opening, then_alone}
use Rattle.ro_orders.specs.Guests.{two_locks, two_trylocks, two_waits, its_mutex, first_then_second, in_between, second_then_first, turns_from, byte_after, kernel_with, call_on, copy_of}
use Rattle.ro_orders.proofs.Tables.{by-table}
use Rattle.ro_orders.proofs.Same.{times-middle, same-machine}
use Rattle.ro_orders.proofs.Copies.{times-append}

-- ---- a call on the mutex, by its owner

abbrev pub turn_at : Option ℕ → Which → Turn
turn_at owner which = turn_by two_locks in_table (kernel_with owner) 1 (Stands (Calls (call_on which its_mutex)))

pub at-free : turn_at None (Function Lock) ≡ Gets its_mutex
unfolding in_table permits_of serve
at-free = refl

pub at-own : turn_at (Some 1) (Function Lock) ≡ Alone
unfolding in_table permits_of serve
at-own = refl

pub at-another : turn_at (Some 0) (Function Lock) ≡ Alone
unfolding in_table permits_of serve
at-another = refl

pub at-unlock : turn_at (Some 1) (Function Unlock) ≡ Alone
unfolding in_table permits_of serve
at-unlock = refl

pub at-wrong-unlock : turn_at (Some 0) (Function Unlock) ≡ Alone
unfolding in_table permits_of serve
at-wrong-unlock = refl

pub at-first : (which : Which) → turn_by two_locks in_table (opening_kernel 0x11000) 0 (Stands (Calls (call_on which its_mutex))) ≡ Serves
unfolding in_table
at-first (Function Lock) = refl
at-first (Function Unlock) = refl
at-first other = refl

pub no-mutex : in_table.holds (opening_kernel 0x11000) its_mutex ≡ false
unfolding in_table
no-mutex = refl

pub its-mutex : (owner : Option ℕ) → in_table.holds (kernel_with owner) its_mutex ≡ true
unfolding in_table
its-mutex owner = refl

pub not-its-mutex : in_table.holds (kernel_with (Some 1)) 0x100B8 ≡ false
unfolding in_table
not-its-mutex = refl

-- ---- what steps take part in

pub turns-are : turns_from (opening two_locks) first_then_second ≡ replicate 3 Alone ++ Serves ∷ replicate 7 Alone ++ Serves ∷ replicate 2 Alone ++ Gets its_mutex ∷ replicate 5 Alone ++ Gets its_mutex ∷ replicate 4 Alone
unfolding in_table turn_of opening steppable step first_cpu made_cpu next fetch_stop instruction_stop instruction_of call_at permits_of alu_of taken_by meaning serve payload_of
turns-are = refl

pub order-one : order_of two_locks in_table (OfMutex its_mutex) (opening two_locks) first_then_second ≡ 0 ∷ 1 ∷ []
unfolding in_table turn_of opening steppable step first_cpu made_cpu next fetch_stop instruction_stop instruction_of call_at permits_of alu_of taken_by meaning serve payload_of
order-one = refl

pub order-other : order_of two_locks in_table (OfMutex its_mutex) (opening two_locks) second_then_first ≡ 1 ∷ 0 ∷ []
unfolding in_table turn_of opening steppable step first_cpu made_cpu next fetch_stop instruction_stop instruction_of call_at permits_of alu_of taken_by meaning serve payload_of
order-other = refl

pub kernel-one : order_of two_locks in_table OfKernel (opening two_locks) first_then_second ≡ 0 ∷ 0 ∷ []
unfolding in_table turn_of opening steppable step first_cpu made_cpu next fetch_stop instruction_stop instruction_of call_at permits_of alu_of taken_by meaning serve payload_of
kernel-one = refl

pub kernel-other : order_of two_locks in_table OfKernel (opening two_locks) second_then_first ≡ 0 ∷ 0 ∷ []
unfolding in_table turn_of opening steppable step first_cpu made_cpu next fetch_stop instruction_stop instruction_of call_at permits_of alu_of taken_by meaning serve payload_of
kernel-other = refl

pub no-other : order_of two_locks in_table (OfMutex 0x100B8) (opening two_locks) first_then_second ≡ []
unfolding in_table turn_of opening steppable step first_cpu made_cpu next fetch_stop instruction_stop instruction_of call_at permits_of alu_of taken_by meaning serve payload_of
no-other = refl

pub byte-one : byte_after first_then_second ≡ Some 1
unfolding opening steppable step first_cpu made_cpu next fetch_stop instruction_stop instruction_of call_at permits_of alu_of taken_by meaning serve payload_of
byte-one = refl

pub byte-other : byte_after second_then_first ≡ Some 0
unfolding opening steppable step first_cpu made_cpu next fetch_stop instruction_stop instruction_of call_at permits_of alu_of taken_by meaning serve payload_of
byte-other = refl

-- ---- as many steps of each thread

swap : (a b c : ℕ) → a + (b + c) ≡ a + (c + b)
swap a b c = omega arith

pub counts-swapped : SameCounts first_then_second second_then_first
counts-swapped thread =
    times-append thread (replicate 12 0) (replicate 7 0 ++ replicate 6 1)
    ∙ (ap (λ (n : ℕ). times thread (replicate 12 0) + n) (times-append thread (replicate 7 0) (replicate 6 1))
    ∙ (swap (times thread (replicate 12 0)) (times thread (replicate 7 0)) (times thread (replicate 6 1))
    ∙ sym (times-append thread (replicate 12 0) (replicate 6 1 ++ replicate 7 0) ∙ ap (λ (n : ℕ). times thread (replicate 12 0) + n) (times-append thread (replicate 6 1) (replicate 7 0)))))

pub counts-between : SameCounts first_then_second in_between
counts-between thread = times-middle thread 1 (replicate 19 0) (replicate 5 1) ∙ sym (times-middle thread 1 (replicate 12 0) (replicate 7 0 ++ replicate 5 1))

-- ---- one machine

pub no-races : RaceFree two_locks
unfolding sync_of accesses opening steppable step first_cpu made_cpu next fetch_stop instruction_stop instruction_of call_at permits_of alu_of taken_by meaning serve payload_of
no-races = explored-free 28 two_locks refl

pub by-locks : TakesByLocks two_locks in_table
by-locks = by-table two_locks in_table refl

pub orders-between : SameOrders two_locks in_table (opening two_locks) first_then_second in_between
unfolding in_table turn_of opening steppable step first_cpu made_cpu next fetch_stop instruction_stop instruction_of call_at permits_of alu_of taken_by meaning serve payload_of
orders-between (OfMutex mutex) = refl
orders-between OfKernel = refl

pub runs-one : (machine : Machine) × (run two_locks (opening two_locks) first_then_second ≡ Some machine)
unfolding opening steppable step first_cpu made_cpu next fetch_stop instruction_stop instruction_of call_at permits_of alu_of taken_by meaning serve payload_of
runs-one = (_, refl)

runs-between : (machine : Machine) × (run two_locks (opening two_locks) in_between ≡ Some machine)
unfolding opening steppable step first_cpu made_cpu next fetch_stop instruction_stop instruction_of call_at permits_of alu_of taken_by meaning serve payload_of
runs-between = (_, refl)

pub same-between : run two_locks (opening two_locks) first_then_second ≡ run two_locks (opening two_locks) in_between
same-between =
    runs-one.1
    ∙ (ap Some (same-machine two_locks in_table no-races by-locks first_then_second in_between [] (opening two_locks) runs-one.0 runs-between.0 refl runs-one.1 runs-between.1 counts-between orders-between)
    ∙ sym runs-between.1)

-- ---- a trylock or a wait in the table

-- where a mutex is cooperative
pub has-trylock : TakesByLocks two_trylocks in_table → ⊥
unfolding in_table first_cpu next fetch_stop call_at
has-trylock h = true≢false (h (kernel_with None) (λ a. 0) (first_cpu 0x100A8) (call_on (Function TryLock) 0) refl its_mutex refl)

pub has-wait : TakesByLocks two_waits in_table → ⊥
unfolding in_table first_cpu next fetch_stop call_at
has-wait h = true≢false (h (kernel_with None) (λ a. 0) (first_cpu 0x100A8) (call_on (Function Wait) 0) refl its_mutex refl)

-- ---- copies

abbrev no_rows : Rows
no_rows mutex rank = None

-- the copy after a step of thread 0
abbrev stepped : Copy → Machine → Copy
stepped copy after = record {
  taken = copy.taken ++ 0 ∷ [];
  machine = after;
  got = λ mutex. copy.got mutex ++ who_takes (turn_of two_locks in_table copy.machine 0) (OfMutex mutex) 0;
}

alone : {copies : List Copy} {first : List ℕ} → Runs two_locks in_table all_backed no_rows copies first → (number : ℕ) (copy : Copy) (after : Machine) → slice_get copies number ≡ Some copy → step two_locks copy.machine 0 ≡ Some after → turn_of two_locks in_table copy.machine 0 ≡ Alone → is_backed two_locks all_backed copy.machine 0 ≡ true
    → Runs two_locks in_table all_backed no_rows (slice_set copies number (stepped copy after)) (first_after first copy 0)
alone h number copy after there steps own backed = then_alone h number 0 copy (stepped copy after) there (record {
  steps = steps;
  unserved = λ e. let f : Alone ≡ Serves = sym own ∙ e in cc;
  on_backed = backed;
  row = λ mutex e. absurd (let f : Alone ≡ Gets mutex = sym own ∙ e in cc);
  taken = refl;
  got = λ mutex. refl;
})

pub two-copies : (copies : List Copy) × Runs two_locks in_table all_backed (λ mutex rank. None) copies (0 ∷ 0 ∷ []) × (map (λ copy. copy.taken) copies ≡ (0 ∷ 0 ∷ []) ∷ (0 ∷ []) ∷ [])
unfolding in_table is_backed turn_of opening steppable step first_cpu made_cpu next fetch_stop instruction_stop instruction_of call_at permits_of alu_of taken_by meaning serve payload_of
two-copies =
    let one = alone (at_opening 1) 0 (opening_copy two_locks) _ refl refl refl refl in
    let two = alone one 0 _ _ refl refl refl refl in
    (_, alone two 1 (opening_copy two_locks) _ refl refl refl refl, refl)

gets-there : option_map (λ machine. turn_of two_locks in_table machine 0) (run two_locks (opening two_locks) (replicate 14 0)) ≡ Some (Gets its_mutex)
unfolding in_table turn_of opening steppable step first_cpu made_cpu next fetch_stop instruction_stop instruction_of call_at permits_of alu_of taken_by meaning serve payload_of
gets-there = refl

same-thread : (m n : ℕ) → Some m ≡ Some n → m ≡ n
same-thread m n e = some-injective e

pub out-of-turn : (machine : Machine) (after : Copy) → run two_locks (opening two_locks) (replicate 14 0) ≡ Some machine → StepsAlone two_locks in_table all_backed (λ mutex rank. Some 1) (record (copy_of (replicate 14 0)) { machine = machine }) 0 after → ⊥
out-of-turn machine after e s =
    let gets : turn_of two_locks in_table machine 0 ≡ Gets its_mutex = some-injective (sym (ap (option_map (λ m. turn_of two_locks in_table m 0)) e) ∙ gets-there) in
    let row = same-thread 1 0 (s.row its_mutex gets) in
    omega arith
