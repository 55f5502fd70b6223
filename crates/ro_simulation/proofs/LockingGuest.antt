-- The guest of two threads that lock round their writes has no races: only thread 0 stores, and no other thread reads there.
use Rattle.std.specs.Prelude.{◌≡◌, ◌≢◌, ℕ, zero, suc, ◌+◌, ◌<◌, ◌≤◌, ◌⊎◌, Bool, true, false, cond, ◌&&◌, ◌||◌, ◌==◌, nat_le, nat_lt, List, [], ◌∷◌, ◌++◌, length, take, Option, Some, None, is_none, slice_get, slice_set, slice_index_or}
use Rattle.std.specs.Option.{option_map_or, option_and_then}
use Rattle.std.proofs.Common.{refl, sym, ap, ◌∙◌, subst, arith, inl, inr, ⊎_elim, not}
use Rattle.std.proofs.Math.Dec.{lit≤}
use Rattle.std.proofs.lemmas.Bool.{true≢false, false≢true, leb-true, ltb-true, le-leb, lt-ltb, and_parts, and_from, eqb-true, cases_Bool}
use Rattle.std.proofs.lemmas.Option.{option_and_then_some, slice_get_within, get_or_from_slice_get}
use Rattle.ro_decode.specs.declared.Instr.{Instr}
use Rattle.ro_decode.specs.Table.{instruction_of}
use Rattle.ro_event.specs.declared.calls.Which.{Which}
use Rattle.ro_event.specs.declared.calls.Which.TheVariants.{System, Function}
use Rattle.ro_event.specs.declared.functions.Function.TheVariants.{Create, Join, Lock, Unlock}
use Rattle.ro_event.specs.declared.calls.Call.{Call}
use Rattle.ro_event.specs.declared.effects.Made.{Made}
use Rattle.ro_event.specs.declared.stops.Stop.TheVariants.{Calls, Trap, PageFault, Watchdog}
use Rattle.ro_event.specs.Effects.{Effect}
use Rattle.ro_event.specs.Table.{call_at}
use Rattle.ro_region.specs.Permission.{permits_of, with_range}
use Rattle.ro_region.specs.declared.Range.{Range}
use Rattle.ro_pages.specs.Bytes.{Memory, Span, within, stored}
use Rattle.ro_pages.proofs.Frame.{stored-outside}
use Rattle.ro_alu.specs.Results.{alu_of}
use Rattle.ro_image.specs.Image.{memory_of}
use Rattle.ro_kernel.specs.declared.Life.{Life}
use Rattle.ro_kernel.specs.declared.Life.TheVariants.{Live, Exited, Joined}
use Rattle.ro_kernel.specs.Kernel.{Kernel, ranges_in, released}
use Rattle.ro_kernel.proofs.Words.{asked-same}
use Rattle.ro_kernel.specs.Serve.{Served, Done, Parked, Blocked, Ends, answer_effect, answers, serve_join_at, lock_at, unlock_at, serve, payload_of, payload_span, is_atomic, put_out, asked}
use Rattle.ro_kernel.proofs.Given.{Gives, serve-gives}
use Rattle.ro_journal.specs.declared.How.{How}
use Rattle.ro_exec.specs.declared.Cpu.{Cpu}
use Rattle.ro_exec.specs.Meaning.{loads, stores, meaning}
use Rattle.ro_exec.specs.Next.{all_backed, Next, Stands, Executes, fetch_stop, instruction_stop, next, change_of, Layout}
use Rattle.ro_exec.specs.Threads.{first_cpu, made_cpu, cpu_after}
use Rattle.ro_exec.proofs.Frame.{next-agree}
use Rattle.ro_plain.specs.Machine.{setup_of, Machine, opening, executed, with_made, called, step_by, next_of, steppable, step, run, layout_in, payload_in, served_in}
use Rattle.ro_plain.specs.Accesses.{Accesses, no_access, fetches, stored_span, accesses_by, accesses, touches, conflict_at, given_span}
use Rattle.ro_plain.specs.Order.{machine_at, accesses_at, RaceFree}
use Rattle.ro_plain.proofs.Calls.{some-injective, steppable-parts, step-opens}
use Rattle.ro_plain.proofs.Swap.{at-both}
use Rattle.ro_plain.proofs.Wider.{layout-same}
use Rattle.ro_simulation.specs.Guests.{locking_guest}
use Rattle.ro_legal.proofs.Lists.{get-within, get-set-same, get-set-cases, get-append-cases}
use Rattle.ro_simulation.proofs.Entries.{or-cases}

-- the registers of the guest's threads
abbrev pub cpu_at : (pc ra sp gp tp s0 s1 a0 a1 a2 a3 a7 : ℕ) → Cpu
cpu_at pc ra sp gp tp s0 s1 a0 a1 a2 a3 a7 = record {
  registers = ra ∷ sp ∷ gp ∷ tp ∷ 0 ∷ 0 ∷ 0 ∷ s0 ∷ s1 ∷ a0 ∷ a1 ∷ a2 ∷ a3 ∷ 0 ∷ 0 ∷ 0 ∷ a7 ∷ 0 ∷ 0 ∷ 0 ∷ 0 ∷ 0 ∷ 0 ∷ 0 ∷ 0 ∷ 0 ∷ 0 ∷ 0 ∷ 0 ∷ 0 ∷ 0 ∷ [];
  pc = pc;
}

-- where a thread's letter stands
abbrev pub letter : Bool → ℕ
letter false = 0x100EC
letter true = 0x100ED

-- where thread 0 is, and where a made thread is
pub data At : Bool → Cpu → Type 0 where
  k0 : {sp : ℕ} → At true (cpu_at 0x10054 0 sp 0 0 0 0 0 0 0 0 0)
  k1 : {sp : ℕ} → At true (cpu_at 0x10058 0 sp 0 0 0x10000 0 0 0 0 0 0)
  k2 : {sp : ℕ} → At true (cpu_at 0x1005c 0 sp 0 0 0x10000 0 0x100e0 0 0 0 0)
  k3 : {sp : ℕ} → At true (cpu_at 0x10060 0 sp 0 0 0x10000 0 0x100e0 0 0 0 0)
  k4 : {sp : ℕ} → At true (cpu_at 0x10064 0 sp 0 0 0x10000 0 0x100e0 0 0x10098 0 0)
  k5 : {sp : ℕ} → At true (cpu_at 0x10068 0 sp 0 0 0x10000 0 0x100e0 0 0x10098 0x100ec 0)
  c1 : {sp : ℕ} → At true (cpu_at 0x100cc 0x1006c sp 0 0 0x10000 0 0x100e0 0 0x10098 0x100ec 0)
  k6 : {sp : ℕ} {x : ℕ} → At true (cpu_at 0x1006c 0x1006c sp 0 0 0x10000 0 x 0 0x10098 0x100ec 0)
  k7 : {sp : ℕ} → At true (cpu_at 0x10070 0x1006c sp 0 0 0x10000 0 0x100e4 0 0x10098 0x100ec 0)
  k8 : {sp : ℕ} → At true (cpu_at 0x10074 0x1006c sp 0 0 0x10000 0 0x100e4 0 0x10098 0x100ed 0)
  c2 : {sp : ℕ} → At true (cpu_at 0x100cc 0x10078 sp 0 0 0x10000 0 0x100e4 0 0x10098 0x100ed 0)
  k9 : {sp : ℕ} {x : ℕ} → At true (cpu_at 0x10078 0x10078 sp 0 0 0x10000 0 x 0 0x10098 0x100ed 0)
  k10 : {sp : ℕ} → At true (cpu_at 0x1007c 0x10078 sp 0 0 0x10000 0 1 0 0x10098 0x100ed 0)
  k11 : {sp : ℕ} → At true (cpu_at 0x10080 0x10078 sp 0 0 0x10000 0 1 0 0x10098 0x100ed 0)
  c3 : {sp : ℕ} → At true (cpu_at 0x100d0 0x10084 sp 0 0 0x10000 0 1 0 0x10098 0x100ed 0)
  k12 : {sp : ℕ} {x : ℕ} → At true (cpu_at 0x10084 0x10084 sp 0 0 0x10000 0 x 0 0x10098 0x100ed 0)
  k13 : {sp : ℕ} → At true (cpu_at 0x10088 0x10084 sp 0 0 0x10000 0 2 0 0x10098 0x100ed 0)
  c4 : {sp : ℕ} → At true (cpu_at 0x100d0 0x1008c sp 0 0 0x10000 0 2 0 0x10098 0x100ed 0)
  k14 : {sp : ℕ} {x : ℕ} → At true (cpu_at 0x1008c 0x1008c sp 0 0 0x10000 0 x 0 0x10098 0x100ed 0)
  k15 : {sp : ℕ} → At true (cpu_at 0x10090 0x1008c sp 0 0 0x10000 0 0 0 0x10098 0x100ed 0)
  k16 : {sp : ℕ} → At true (cpu_at 0x10094 0x1008c sp 0 0 0x10000 0 0 0 0x10098 0x100ed 93)
  w0 : {sp gp tp : ℕ} (last : Bool) → At false (cpu_at 0x10098 0x7ffffff0 sp gp tp 0 0 (letter last) 0 0 0 0)
  w1 : {sp gp tp : ℕ} (last : Bool) → At false (cpu_at 0x1009c 0x7ffffff0 sp gp tp 0 (letter last) (letter last) 0 0 0 0)
  w2 : {sp gp tp : ℕ} (last : Bool) → At false (cpu_at 0x100a0 0x7ffffff0 sp gp tp 0x10000 (letter last) (letter last) 0 0 0 0)
  w3 : {sp gp tp : ℕ} (last : Bool) → At false (cpu_at 0x100a4 0x7ffffff0 sp gp tp 0x10000 (letter last) 0x100e8 0 0 0 0)
  l1 : {sp gp tp : ℕ} (last : Bool) → At false (cpu_at 0x100d4 0x100a8 sp gp tp 0x10000 (letter last) 0x100e8 0 0 0 0)
  w4 : {sp gp tp : ℕ} {x : ℕ} (last : Bool) → At false (cpu_at 0x100a8 0x100a8 sp gp tp 0x10000 (letter last) x 0 0 0 0)
  w5 : {sp gp tp : ℕ} (last : Bool) → At false (cpu_at 0x100ac 0x100a8 sp gp tp 0x10000 (letter last) 1 0 0 0 0)
  w6 : {sp gp tp : ℕ} (last : Bool) → At false (cpu_at 0x100b0 0x100a8 sp gp tp 0x10000 (letter last) 1 (letter last) 0 0 0)
  w7 : {sp gp tp : ℕ} (last : Bool) → At false (cpu_at 0x100b4 0x100a8 sp gp tp 0x10000 (letter last) 1 (letter last) 1 0 0)
  w8 : {sp gp tp : ℕ} (last : Bool) → At false (cpu_at 0x100b8 0x100a8 sp gp tp 0x10000 (letter last) 1 (letter last) 1 0 64)
  w9 : {sp gp tp : ℕ} {x : ℕ} (last : Bool) → At false (cpu_at 0x100bc 0x100a8 sp gp tp 0x10000 (letter last) x (letter last) 1 0 64)
  w10 : {sp gp tp : ℕ} (last : Bool) → At false (cpu_at 0x100c0 0x100a8 sp gp tp 0x10000 (letter last) 0x100e8 (letter last) 1 0 64)
  u1 : {sp gp tp : ℕ} (last : Bool) → At false (cpu_at 0x100d8 0x100c4 sp gp tp 0x10000 (letter last) 0x100e8 (letter last) 1 0 64)
  w11 : {sp gp tp : ℕ} {x : ℕ} (last : Bool) → At false (cpu_at 0x100c4 0x100c4 sp gp tp 0x10000 (letter last) x (letter last) 1 0 64)
  w12 : {sp gp tp : ℕ} (last : Bool) → At false (cpu_at 0x100c8 0x100c4 sp gp tp 0x10000 (letter last) 0 (letter last) 1 0 64)
  e1 : {sp gp tp : ℕ} (last : Bool) → At false (cpu_at 0x100dc 0x100cc sp gp tp 0x10000 (letter last) 0 (letter last) 1 0 64)

-- the words that thread 0 stores
abbrev pub shared : ℕ → Bool
shared a = within (record { place = 0x100E0; count = 8 }) a

-- an empty stretch has no address
none-within : (place a : ℕ) → within (record { place = place; count = 0 }) a ≡ true → ⊥
none-within place a h =
    let parts = and_parts _ _ h in let low = leb-true place a parts.0 in let high = ltb-true a (place + 0) parts.1 in omega arith

-- a stretch inside the shared words
within-shared : (place count a : ℕ) → 0x100E0 ≤ place → place + count ≤ 0x100E8 → within (record { place = place; count = count }) a ≡ true → shared a ≡ true
within-shared place count a low high h =
    let parts = and_parts _ _ h in let l = leb-true place a parts.0 in let r = ltb-true a (place + count) parts.1 in
    and_from _ _ (le-leb 0x100E0 a (omega arith)) (lt-ltb a (0x100E0 + 8) (omega arith))

-- a stretch below them
below-shared : (place count a : ℕ) → place + count ≤ 0x100E0 → within (record { place = place; count = count }) a ≡ true → shared a ≡ false
below-shared place count a high h = ⊎_elim (λ (e : shared a ≡ true). absurd (outside e)) (λ (e : shared a ≡ false). e) (cases_Bool (shared a))
  where
    outside : shared a ≡ true → ⊥
    outside e =
        let parts = and_parts (nat_le place a) (nat_lt a (place + count)) h in let r = ltb-true a (place + count) parts.1 in
        let low = leb-true 0x100E0 a (and_parts (nat_le 0x100E0 a) (nat_lt a (0x100E0 + 8)) e).0 in omega arith

-- a stretch above them
above-shared : (place count a : ℕ) → 0x100E8 ≤ place → within (record { place = place; count = count }) a ≡ true → shared a ≡ false
above-shared place count a low h = ⊎_elim (λ (e : shared a ≡ true). absurd (outside e)) (λ (e : shared a ≡ false). e) (cases_Bool (shared a))
  where
    outside : shared a ≡ true → ⊥
    outside e =
        let parts = and_parts (nat_le place a) (nat_lt a (place + count)) h in let l = leb-true place a parts.0 in
        let high = ltb-true a (0x100E0 + 8) (and_parts (nat_le 0x100E0 a) (nat_lt a (0x100E0 + 8)) e).1 in omega arith

-- every instruction of the guest lies below the words
pc-low : {b : Bool} {cpu : Cpu} → At b cpu → cpu.pc + 4 ≤ 0x100E0
pc-low k0 = lit≤ tt
pc-low k1 = lit≤ tt
pc-low k2 = lit≤ tt
pc-low k3 = lit≤ tt
pc-low k4 = lit≤ tt
pc-low k5 = lit≤ tt
pc-low c1 = lit≤ tt
pc-low k6 = lit≤ tt
pc-low k7 = lit≤ tt
pc-low k8 = lit≤ tt
pc-low c2 = lit≤ tt
pc-low k9 = lit≤ tt
pc-low k10 = lit≤ tt
pc-low k11 = lit≤ tt
pc-low c3 = lit≤ tt
pc-low k12 = lit≤ tt
pc-low k13 = lit≤ tt
pc-low c4 = lit≤ tt
pc-low k14 = lit≤ tt
pc-low k15 = lit≤ tt
pc-low k16 = lit≤ tt
pc-low (w0 last) = lit≤ tt
pc-low (w1 last) = lit≤ tt
pc-low (w2 last) = lit≤ tt
pc-low (w3 last) = lit≤ tt
pc-low (l1 last) = lit≤ tt
pc-low (w4 last) = lit≤ tt
pc-low (w5 last) = lit≤ tt
pc-low (w6 last) = lit≤ tt
pc-low (w7 last) = lit≤ tt
pc-low (w8 last) = lit≤ tt
pc-low (w9 last) = lit≤ tt
pc-low (w10 last) = lit≤ tt
pc-low (u1 last) = lit≤ tt
pc-low (w11 last) = lit≤ tt
pc-low (w12 last) = lit≤ tt
pc-low (e1 last) = lit≤ tt

-- ---- what comes of a call

-- whatever comes of the call, the thread is where its program goes, and only thread 0 stores, in the shared words
pub data Fine (b : Bool) (cpu : Cpu) (t : ℕ) : Served → Type 0 where
  fine_done : {kernel : Kernel} {effect : Effect} → effect.thread ≡ t → effect.range ≡ None → At b (cpu_after effect cpu) →
      ((a : ℕ) → within (record { place = effect.place; count = length effect.bytes }) a ≡ true → (b ≡ true) × (shared a ≡ true)) →
      ((made : Made) (n : ℕ) → effect.made ≡ Some made → (made.creator ≡ t) × At false (made_cpu made (cpu_after effect cpu) n)) → Fine b cpu t (Done kernel effect)
  fine_parked : {kernel : Kernel} → Fine b cpu t (Parked kernel)
  fine_blocked : Fine b cpu t Blocked
  fine_ends : {kernel : Kernel} {how : How} → Fine b cpu t (Ends kernel how)

-- a choice of two
fine-cond : (b : Bool) (cpu : Cpu) (t : ℕ) (test : Bool) (x y : Served) → Fine b cpu t x → Fine b cpu t y → Fine b cpu t (cond test x y)
fine-cond b cpu t true x y p q = p
fine-cond b cpu t false x y p q = q

-- an answer and nothing else
fine-answer : (b : Bool) (cpu : Cpu) (t : ℕ) (call : Call) → ((value : ℕ) → At b (cpu_after (answer_effect t call value) cpu)) → (kernel : Kernel) (value : ℕ) → Fine b cpu t (answers kernel t call value)
fine-answer b cpu t call h kernel value = fine_done refl refl (h value) (λ a w. absurd (none-within 0 a w)) (λ made n (e : None ≡ Some made). absurd cc)

-- the kernel, where it gave nothing
abbrev ungiven : Kernel → Kernel
ungiven kernel = record kernel { given = [] }

-- the call is fine, and a made thread's payload is none of the shared words
pub record IsFine (b : Bool) (cpu : Cpu) (call : Call) : Type 0 where
  pub served : (kernel : Kernel) (t : ℕ) → Fine b cpu t (serve (setup_of locking_guest) (ungiven kernel) t call)
  pub payload : b ≡ false → (a : ℕ) → within (payload_span locking_guest.image.ranges call) a ≡ true → shared a ≡ false
  pub plain : is_atomic call.which ≡ false

-- what a thread does next
pub data Does (b : Bool) (cpu : Cpu) : Next → Type 0 where
  goes : (instr : Instr) → ((found : ℕ) → At b (meaning instr cpu found).cpu) → ((found : ℕ) → (meaning instr cpu found).bytes ≡ []) → loads instr cpu ≡ record { place = 0; count = 0 } → stores instr cpu ≡ record { place = 0; count = 0 } → Does b cpu (Executes instr)
  calls : (call : Call) → IsFine b cpu call → Does b cpu (Stands (Calls call))

-- a list of one stretch
touch-one : (b : Bool) → (b || false) ≡ true → b ≡ true
touch-one true e = refl
touch-one false e = e

-- the thread that is made
made-fine : (first made : Made) (cpu : Cpu) (t n : ℕ) → Some first ≡ Some made → first.creator ≡ t → At false (made_cpu first cpu n) → (made.creator ≡ t) × At false (made_cpu made cpu n)
made-fine first made cpu t n e own h =
    let same : first ≡ made = cc in (ap (λ (m : Made). m.creator) (sym same) ∙ own, subst (λ (m : Made). At false (made_cpu m cpu n)) same h)

-- a call with its arguments
abbrev asks : Which → (a0 a1 a2 a3 : ℕ) → Call
asks which a0 a1 a2 a3 = record { which = which; a0 = a0; a1 = a1; a2 = a2; a3 = a3 }

-- a join that stores nothing
abbrev joins : (a0 a2 a3 : ℕ) → Call
joins a0 a2 a3 = record { which = Function Join; a0 = a0; a1 = 0; a2 = a2; a3 = a3 }

-- a join
join-fine : (cpu : Cpu) (a0 a2 a3 : ℕ) → ((value t : ℕ) → At true (cpu_after (answer_effect t (joins a0 a2 a3) value) cpu)) → (kernel : Kernel) (t : ℕ) (o : Option Life) → Fine true cpu t (serve_join_at (setup_of locking_guest) kernel t (joins a0 a2 a3) o)
join-fine cpu a0 a2 a3 h kernel t None = fine-answer true cpu t (joins a0 a2 a3) (λ v. h v t) kernel 3
join-fine cpu a0 a2 a3 h kernel t (Some Joined) = fine-cond true cpu t _ _ _ (fine-answer true cpu t (joins a0 a2 a3) (λ v. h v t) kernel 35) (fine-answer true cpu t (joins a0 a2 a3) (λ v. h v t) kernel 3)
join-fine cpu a0 a2 a3 h kernel t (Some Live) = fine-cond true cpu t _ _ _ (fine-answer true cpu t (joins a0 a2 a3) (λ v. h v t) kernel 35) fine_blocked
join-fine cpu a0 a2 a3 h kernel t (Some (Exited value)) = fine-cond true cpu t _ _ _ (fine-answer true cpu t (joins a0 a2 a3) (λ v. h v t) kernel 35)
    (fine_done refl refl (h 0 t) (λ a w. absurd (none-within 0 a w)) (λ made n (e : None ≡ Some made). absurd cc))

-- a lock
lock-fine : (cpu : Cpu) (call : Call) → ((value t : ℕ) → At false (cpu_after (answer_effect t call value) cpu)) → (kernel : Kernel) (t : ℕ) (o : Option (Option ℕ)) → Fine false cpu t (lock_at kernel t call o)
lock-fine cpu call h kernel t None = fine-cond false cpu t _ _ _ (fine-answer false cpu t call (λ v. h v t) kernel 11) (fine-answer false cpu t call (λ v. h v t) _ 0)
lock-fine cpu call h kernel t (Some None) = fine-answer false cpu t call (λ v. h v t) _ 0
lock-fine cpu call h kernel t (Some (Some owner)) = fine-cond false cpu t _ _ _ (fine-answer false cpu t call (λ v. h v t) kernel 35) fine_blocked

-- an unlock
unlock-fine : (cpu : Cpu) (call : Call) → ((value t : ℕ) → At false (cpu_after (answer_effect t call value) cpu)) → (kernel : Kernel) (t : ℕ) (o : Option (Option ℕ)) → Fine false cpu t (unlock_at kernel t call o)
unlock-fine cpu call h kernel t None = fine-answer false cpu t call (λ v. h v t) kernel 1
unlock-fine cpu call h kernel t (Some None) = fine-answer false cpu t call (λ v. h v t) kernel 1
unlock-fine cpu call h kernel t (Some (Some owner)) = fine-cond false cpu t _ _ _ (fine-answer false cpu t call (λ v. h v t) _ 0) (fine-answer false cpu t call (λ v. h v t) kernel 1)

-- the guest's memory at the opening
abbrev image : Memory
image = memory_of locking_guest.image.pieces

-- what its addresses mean
abbrev locking_layout : Layout
locking_layout = record { ranges = locking_guest.image.ranges; calls = locking_guest.image.calls }

-- each thread does what its program says
does : {b : Bool} {cpu : Cpu} → At b cpu → Does b cpu (next locking_layout all_backed image cpu)
unfolding next fetch_stop instruction_stop instruction_of call_at permits_of alu_of meaning serve payload_of made_cpu
does k0 = goes _ (λ found. k1) (λ found. refl) refl refl
does k1 = goes _ (λ found. k2) (λ found. refl) refl refl
does k2 = goes _ (λ found. k3) (λ found. refl) refl refl
does k3 = goes _ (λ found. k4) (λ found. refl) refl refl
does k4 = goes _ (λ found. k5) (λ found. refl) refl refl
does k5 = goes _ (λ found. c1) (λ found. refl) refl refl
does (c1 {sp = sp}) = calls _ (record { served = λ kernel t. fine-cond true _ t _ _ _ (fine-answer true _ t (asks (Function Create) 0x100E0 0 0x10098 0x100EC) (λ value. k6) (released (ungiven kernel) t) 11) (fine_done refl refl k6 (λ a w. (refl, within-shared 0x100E0 4 a (lit≤ tt) (lit≤ tt) w)) (λ made n e. made-fine _ made (cpu_at 0x1006C 0x1006C sp 0 0 0x10000 0 0 0 0x10098 0x100EC 0) t n e refl (w0 false))); payload = λ (f : true ≡ false). absurd (true≢false f); plain = refl })
does k6 = goes _ (λ found. k7) (λ found. refl) refl refl
does k7 = goes _ (λ found. k8) (λ found. refl) refl refl
does k8 = goes _ (λ found. c2) (λ found. refl) refl refl
does (c2 {sp = sp}) = calls _ (record { served = λ kernel t. fine-cond true _ t _ _ _ (fine-answer true _ t (asks (Function Create) 0x100E4 0 0x10098 0x100ED) (λ value. k9) (released (ungiven kernel) t) 11) (fine_done refl refl k9 (λ a w. (refl, within-shared 0x100E4 4 a (lit≤ tt) (lit≤ tt) w)) (λ made n e. made-fine _ made (cpu_at 0x10078 0x10078 sp 0 0 0x10000 0 0 0 0x10098 0x100ED 0) t n e refl (w0 true))); payload = λ (f : true ≡ false). absurd (true≢false f); plain = refl })
does k9 = goes _ (λ found. k10) (λ found. refl) refl refl
does k10 = goes _ (λ found. k11) (λ found. refl) refl refl
does k11 = goes _ (λ found. c3) (λ found. refl) refl refl
does c3 = calls _ (record { served = λ kernel t. join-fine _ 1 0x10098 0x100ED (λ value u. k12) (released (ungiven kernel) t) t _; payload = λ (f : true ≡ false). absurd (true≢false f); plain = refl })
does k12 = goes _ (λ found. k13) (λ found. refl) refl refl
does k13 = goes _ (λ found. c4) (λ found. refl) refl refl
does c4 = calls _ (record { served = λ kernel t. join-fine _ 2 0x10098 0x100ED (λ value u. k14) (released (ungiven kernel) t) t _; payload = λ (f : true ≡ false). absurd (true≢false f); plain = refl })
does k14 = goes _ (λ found. k15) (λ found. refl) refl refl
does k15 = goes _ (λ found. k16) (λ found. refl) refl refl
does k16 = calls _ (record { served = λ kernel t. fine_ends; payload = λ (f : true ≡ false). absurd (true≢false f); plain = refl })
does (w0 true) = goes _ (λ found. w1 true) (λ found. refl) refl refl
does (w0 false) = goes _ (λ found. w1 false) (λ found. refl) refl refl
does (w1 last) = goes _ (λ found. w2 last) (λ found. refl) refl refl
does (w2 last) = goes _ (λ found. w3 last) (λ found. refl) refl refl
does (w3 last) = goes _ (λ found. l1 last) (λ found. refl) refl refl
does (l1 last) = calls _ (record { served = λ kernel t. lock-fine _ (asks (Function Lock) 0x100E8 0 0 0) (λ value u. w4 last) (released (ungiven kernel) t) t _; payload = λ f a w. absurd (none-within 0 a w); plain = refl })
does (w4 last) = goes _ (λ found. w5 last) (λ found. refl) refl refl
does (w5 true) = goes _ (λ found. w6 true) (λ found. refl) refl refl
does (w5 false) = goes _ (λ found. w6 false) (λ found. refl) refl refl
does (w6 last) = goes _ (λ found. w7 last) (λ found. refl) refl refl
does (w7 last) = goes _ (λ found. w8 last) (λ found. refl) refl refl
does (w8 true) = calls _ (record { served = λ kernel t. fine-answer false _ t (asks (System 64) 1 0x100ED 1 0) (λ value. w9 true) (released (ungiven kernel) t) 1; payload = λ f a w. above-shared 0x100ED 1 a (lit≤ tt) w; plain = refl })
does (w8 false) = calls _ (record { served = λ kernel t. fine-answer false _ t (asks (System 64) 1 0x100EC 1 0) (λ value. w9 false) (released (ungiven kernel) t) 1; payload = λ f a w. above-shared 0x100EC 1 a (lit≤ tt) w; plain = refl })
does (w9 last) = goes _ (λ found. w10 last) (λ found. refl) refl refl
does (w10 last) = goes _ (λ found. u1 last) (λ found. refl) refl refl
does (u1 last) = calls _ (record { served = λ kernel t. unlock-fine _ (asks (Function Unlock) 0x100E8 (letter last) 1 0) (λ value u. w11 last) (released (ungiven kernel) t) t _; payload = λ f a w. absurd (none-within 0 a w); plain = refl })
does (w11 last) = goes _ (λ found. w12 last) (λ found. refl) refl refl
does (w12 last) = goes _ (λ found. e1 last) (λ found. refl) refl refl
does (e1 last) = calls _ (record { served = λ kernel t. fine-cond false _ t _ _ _ (fine_done refl refl (e1 last) (λ a w. absurd (none-within 0 a w)) (λ made n (e : None ≡ Some made). absurd cc)) fine_ends; payload = λ f a w. absurd (none-within 0 a w); plain = refl })

-- ---- the machine

-- the image is there but for the shared words, and each thread is where its program goes
record Quiet (machine : Machine) : Type 0 where
  pub code : (a : ℕ) → shared a ≡ false → machine.memory a ≡ image a
  pub threads : (t : ℕ) (cpu : Cpu) → slice_get machine.cpus t ≡ Some cpu → At (t == 0) cpu
  pub nothing_given : machine.kernel.given ≡ []

-- what a thread of such a machine does next is what it does in the image
does-in : (machine : Machine) → Quiet machine → {b : Bool} (cpu : Cpu) → At b cpu → Does b cpu (next_of locking_guest machine cpu)
does-in machine q {b} cpu h = subst (Does b cpu) (sym same) (does h)
  where
    same : next_of locking_guest machine cpu ≡ next locking_layout all_backed image cpu
    same = ap (λ (l : Layout). next l all_backed machine.memory cpu) (layout-same locking_guest machine.kernel (ungiven machine.kernel) q.nothing_given)
        ∙ next-agree locking_layout all_backed machine.memory image cpu (record { same = λ a w. q.code a (below-shared cpu.pc 4 a (pc-low h) w) })

-- ---- each step keeps it

-- the threads after one has moved
set-threads : (cpus : List Cpu) (t : ℕ) (changed : Cpu) → ((u : ℕ) (cpu : Cpu) → slice_get cpus u ≡ Some cpu → At (u == 0) cpu) → At (t == 0) changed → (u : ℕ) (cpu : Cpu) → slice_get (slice_set cpus t changed) u ≡ Some cpu → At (u == 0) cpu
set-threads cpus t changed all h u cpu e = by (get-set-cases cpus t u changed cpu e)
  where
    by : ((u ≢ t) × (slice_get cpus u ≡ Some cpu)) ⊎ ((u ≡ t) × (changed ≡ cpu)) → At (u == 0) cpu
    by (inl f) = all u cpu f.1
    by (inr f) = subst (λ (c : Cpu). At (u == 0) c) f.1 (subst (λ (n : ℕ). At (n == 0) changed) (sym f.0) h)

-- a number above 0 is not 0
not-zero : (n : ℕ) → 0 < n → (n == 0) ≡ false
not-zero n h = ⊎_elim (λ (e : (n == 0) ≡ true). absurd (let f = eqb-true n 0 e in omega arith)) (λ (e : (n == 0) ≡ false). e) (cases_Bool (n == 0))

-- the threads with one that is made
made-threads : (made : Option Made) (before : Cpu) (cpus : List Cpu) (t : ℕ) (cpu : Cpu) → slice_get cpus t ≡ Some cpu → ((u : ℕ) (c : Cpu) → slice_get cpus u ≡ Some c → At (u == 0) c) → ((m : Made) (n : ℕ) → made ≡ Some m → (m.creator ≡ t) × At false (made_cpu m cpu n)) → (u : ℕ) (c : Cpu) → slice_get (with_made made before cpus) u ≡ Some c → At (u == 0) c
made-threads None before cpus t cpu there all h u c e = all u c e
made-threads (Some made) before cpus t cpu there all h u c e = by (get-append-cases cpus (made_cpu made (slice_index_or cpus made.creator before) (length cpus)) u c e)
  where
    new : At false (made_cpu made (slice_index_or cpus made.creator before) (length cpus))
    new = let f = h made (length cpus) refl in
        subst (λ (x : Cpu). At false (made_cpu made x (length cpus)))
        (sym (ap (λ (n : ℕ). slice_index_or cpus n before) f.0 ∙ get_or_from_slice_get cpus t cpu before there)) f.1

    by : (slice_get cpus u ≡ Some c) ⊎ ((u ≡ length cpus) × (made_cpu made (slice_index_or cpus made.creator before) (length cpus) ≡ c)) → At (u == 0) c
    by (inl f) = all u c f
    by (inr f) =
        let short = slice_get_within cpus t cpu there in
        subst (λ (b : Bool). At b c) (sym (ap (λ (n : ℕ). n == 0) f.0 ∙ not-zero (length cpus) (omega arith))) (subst (At false) f.1 new)

-- bytes that are stored in the shared words leave the image elsewhere
stored-code : (memory : Memory) (place : ℕ) (bytes : List ℕ) → ((a : ℕ) → shared a ≡ false → memory a ≡ image a) → ((a : ℕ) → within (record { place = place; count = length bytes }) a ≡ true → shared a ≡ true) → (a : ℕ) → shared a ≡ false → stored memory place bytes a ≡ image a
stored-code memory place bytes code h a out = stored-outside memory place bytes a (by (within (record { place = place; count = length bytes }) a) refl) ∙ code a out
  where
    by : (b : Bool) → within (record { place = place; count = length bytes }) a ≡ b → within (record { place = place; count = length bytes }) a ≡ false
    by false e = e
    by true e = absurd (true≢false (sym (h a e) ∙ out))

-- what comes of the call in a machine to which nothing was given
served-fine : (machine : Machine) → machine.kernel.given ≡ [] → (t : ℕ) (b : Bool) (cpu : Cpu) (call : Call) → IsFine b cpu call → Fine b cpu t (served_in locking_guest machine t call)
served-fine machine none t b cpu call fine =
    subst (λ (c : Call). Fine b cpu t (serve (setup_of locking_guest) machine.kernel t c)) (sym (asked-same call (payload_in locking_guest machine call) fine.plain))
    (subst (λ (given : List Range). Fine b cpu t (serve (setup_of locking_guest) (record machine.kernel { given = given }) t call)) (sym none) (fine.served machine.kernel t))

module _ (machine : Machine) (q : Quiet machine) (t : ℕ) (cpu : Cpu) (there : slice_get machine.cpus t ≡ Some cpu) where
  -- a call
  quiet-called : (payload : List ℕ) (served : Served) → Fine (t == 0) cpu t served → Gives machine.kernel served → (after : Machine) → called machine cpu payload served ≡ Some after → Quiet after
  quiet-called payload (Done kernel effect) (fine_done own none here stores made) gives after e = subst Quiet (some-injective e) (record {
    code = stored-code machine.memory effect.place effect.bytes q.code (λ a w. (stores a w).1);
    threads = made-threads effect.made cpu (slice_set machine.cpus effect.thread (cpu_after effect cpu)) t (cpu_after effect cpu)
        (ap (λ (n : ℕ). slice_get (slice_set machine.cpus n (cpu_after effect cpu)) t) own ∙ get-set-same machine.cpus t cpu (cpu_after effect cpu) there)
        (subst (λ (n : ℕ). (u : ℕ) (c : Cpu) → slice_get (slice_set machine.cpus n (cpu_after effect cpu)) u ≡ Some c → At (u == 0) c) (sym own) (set-threads machine.cpus t (cpu_after effect cpu) q.threads here))
        made;
    nothing_given = gives ∙ (ap (λ (range : Option Range). with_range range machine.kernel.given) none ∙ q.nothing_given);
  })
  quiet-called payload (Parked kernel) h gives after e = subst Quiet (some-injective e) (record { code = q.code; threads = q.threads; nothing_given = gives ∙ q.nothing_given })
  quiet-called payload Blocked h gives after e = absurd (let f : None ≡ Some after = e in cc)
  quiet-called payload (Ends kernel how) h gives after e = subst Quiet (some-injective e) (record { code = q.code; threads = q.threads; nothing_given = gives ∙ q.nothing_given })

  -- a plain instruction
  quiet-executed : (instr : Instr) → ((found : ℕ) → At (t == 0) (meaning instr cpu found).cpu) → ((found : ℕ) → (meaning instr cpu found).bytes ≡ []) → Quiet (executed machine t cpu instr)
  quiet-executed instr here none = record {
    code = λ a out. ap (λ (bytes : List ℕ). stored machine.memory (change_of machine.memory cpu instr).place bytes a) (none _) ∙ q.code a out;
    threads = set-threads machine.cpus t (change_of machine.memory cpu instr).cpu q.threads (here _);
    nothing_given = q.nothing_given;
  }

  -- by what the thread does next
  quiet-by : (n : Next) → Does (t == 0) cpu n → (after : Machine) → step_by locking_guest machine t cpu n ≡ Some after → Quiet after
  quiet-by (Executes instr) (goes other here none l st) after e = subst Quiet (some-injective e) (quiet-executed instr here none)
  quiet-by (Stands (Calls call)) (calls other fine) after e =
      quiet-called (put_out call.which (payload_in locking_guest machine call)) (served_in locking_guest machine t call) (served-fine machine q.nothing_given t (t == 0) cpu call fine) (serve-gives (setup_of locking_guest) machine.kernel t (asked call (payload_in locking_guest machine call))) after e
  quiet-by (Stands (Trap code)) h after e = elim h [ ]
  quiet-by (Stands (PageFault page)) h after e = elim h [ ]
  quiet-by (Stands Watchdog) h after e = elim h [ ]

-- the registers of a thread that may step
steps-by : (machine : Machine) (t : ℕ) (after : Machine) {P : Type 0} → step locking_guest machine t ≡ Some after → ((cpu : Cpu) → slice_get machine.cpus t ≡ Some cpu → step_by locking_guest machine t cpu (next_of locking_guest machine cpu) ≡ Some after → P) → P
steps-by machine t after e k =
    option_and_then_some (λ cpu. step_by locking_guest machine t cpu (next_of locking_guest machine cpu)) (steppable machine t) after (step-opens locking_guest machine t after e)
    (λ cpu live f. k cpu (steppable-parts machine t cpu live).there f)

-- a step
quiet-step : (machine : Machine) → Quiet machine → (t : ℕ) (after : Machine) → step locking_guest machine t ≡ Some after → Quiet after
quiet-step machine q t after e =
    steps-by machine t after e (λ cpu there f. quiet-by machine q t cpu there (next_of locking_guest machine cpu) (does-in machine q cpu (q.threads t cpu there)) after f)

-- any number of steps
quiet-run : (threads : List ℕ) (machine end : Machine) → Quiet machine → run locking_guest machine threads ≡ Some end → Quiet end
quiet-run [] machine end q e = subst Quiet (some-injective e) q
quiet-run (t ∷ threads) machine end q e =
    option_and_then_some (λ after. run locking_guest after threads) (step locking_guest machine t) end e
    (λ after f g. quiet-run threads after end (quiet-step machine q t after f) g)

-- thread 0 at the opening
first-at : (t : ℕ) (cpu : Cpu) → slice_get (first_cpu locking_guest.image.entry ∷ []) t ≡ Some cpu → At (t == 0) cpu
unfolding first_cpu
first-at zero cpu e = subst (At true) (some-injective e) k0
first-at (suc t) cpu e = absurd (let f : None ≡ Some cpu = e in cc)

-- the opening
quiet-opening : Quiet (opening locking_guest)
unfolding opening
quiet-opening = record { code = λ a out. refl; threads = first-at; nothing_given = refl }

-- ---- what the threads access

-- only thread 0 writes, in the shared words, and no other thread reads there
record Apart (t : ℕ) (a : Accesses) : Type 0 where
  pub writes : (x : ℕ) → touches a.writes x ≡ true → ((t == 0) ≡ true) × (shared x ≡ true)
  pub reads : (t == 0) ≡ false → (x : ℕ) → touches a.reads x ≡ true → shared x ≡ false

-- no access
apart-none : (t : ℕ) → Apart t no_access
apart-none t = record { writes = λ x w. absurd (false≢true w); reads = λ f x w. absurd (false≢true w) }

-- a list of one stretch and more
touches-cases : (span : Span) (spans : List Span) (x : ℕ) → touches (span ∷ spans) x ≡ true → (within span x ≡ true) ⊎ (touches spans x ≡ true)
touches-cases span spans x e = or-cases (within span x) (touches spans x) e

-- instructions lie below the shared words
fetch-apart : (layout : Layout) {b : Bool} (cpu : Cpu) → At b cpu → (x : ℕ) → touches (fetches layout cpu) x ≡ true → shared x ≡ false
fetch-apart layout cpu h x w = by (is_none (fetch_stop layout all_backed cpu)) w
  where
    by : (b : Bool) → touches (cond b (record { place = cpu.pc; count = 4 } ∷ []) []) x ≡ true → shared x ≡ false
    by true e = below-shared cpu.pc 4 x (pc-low h) (touch-one _ e)
    by false e = absurd (false≢true e)

-- an empty stretch
no-touch : (span : Span) (x : ℕ) → span ≡ record { place = 0; count = 0 } → within span x ≡ true → ⊥
no-touch span x e w = none-within 0 x (ap (λ (s : Span). within s x) (sym e) ∙ w)

-- what a served call stores
stored-apart : (t : ℕ) (cpu : Cpu) (served : Served) → Fine (t == 0) cpu t served → (x : ℕ) → touches (stored_span served) x ≡ true → ((t == 0) ≡ true) × (shared x ≡ true)
stored-apart t cpu (Done kernel effect) (fine_done own none here stores made) x w =
    stores x (touch-one _ (sym (ap (λ (range : Option Range). touches (record { place = effect.place; count = length effect.bytes } ∷ given_span range) x) none) ∙ w))
stored-apart t cpu (Parked kernel) h x w = absurd (false≢true w)
stored-apart t cpu Blocked h x w = absurd (false≢true w)
stored-apart t cpu (Ends kernel how) h x w = absurd (false≢true w)

-- by what the thread does next
apart-by : (machine : Machine) → machine.kernel.given ≡ [] → (t : ℕ) (cpu : Cpu) → At (t == 0) cpu → (n : Next) → Does (t == 0) cpu n → Apart t (accesses_by locking_guest machine t cpu n)
apart-by machine nothing t cpu h (Executes instr) (goes other here none l st) = record {
  writes = λ x w. absurd (no-touch (stores instr cpu) x st (touch-one _ w));
  reads = λ f x w. ⊎_elim (λ g. absurd (no-touch (loads instr cpu) x l g)) (fetch-apart (layout_in locking_guest machine.kernel) cpu h x) (touches-cases (loads instr cpu) (fetches (layout_in locking_guest machine.kernel) cpu) x w);
}
apart-by machine nothing t cpu h (Stands (Calls call)) (calls other fine) = record {
  writes = stored-apart t cpu (served_in locking_guest machine t call) (served-fine machine nothing t (t == 0) cpu call fine);
  reads = λ f x w.
      ⊎_elim
      (λ g. fine.payload f x (sym (ap (λ (given : List Range). within (payload_span (given ++ locking_guest.image.ranges) call) x) nothing) ∙ g))
      (fetch-apart (layout_in locking_guest machine.kernel) cpu h x)
      (touches-cases (payload_span (ranges_in (setup_of locking_guest) machine.kernel) call) (fetches (layout_in locking_guest machine.kernel) cpu) x w);
}
apart-by machine nothing t cpu h (Stands (Trap code)) d = elim d [ ]
apart-by machine nothing t cpu h (Stands (PageFault page)) d = elim d [ ]
apart-by machine nothing t cpu h (Stands Watchdog) d = elim d [ ]

-- what a thread accesses
apart-at : (machine : Machine) → Quiet machine → (t : ℕ) → Apart t (accesses locking_guest machine t)
unfolding accesses
apart-at machine q t = by (steppable machine t) refl
  where
    by : (o : Option Cpu) → steppable machine t ≡ o → Apart t (option_map_or (λ cpu. accesses_by locking_guest machine t cpu (next_of locking_guest machine cpu)) o no_access)
    by None e = apart-none t
    by (Some cpu) e =
        let h = q.threads t cpu (steppable-parts machine t cpu e).there in
        apart-by machine q.nothing_given t cpu h (next_of locking_guest machine cpu) (does-in machine q cpu h)

-- ---- no conflict

-- the front of an execution exists
take-runs : (threads : List ℕ) (place : ℕ) (machine end : Machine) → run locking_guest machine threads ≡ Some end → (before : Machine) × (run locking_guest machine (take place threads) ≡ Some before)
take-runs threads zero machine end e = (machine, refl)
take-runs [] (suc place) machine end e = (machine, refl)
take-runs (t ∷ threads) (suc place) machine end e =
    option_and_then_some (λ after. run locking_guest after threads) (step locking_guest machine t) end e
    (λ after f g. let r = take-runs threads place after end g in (r.0, ap (option_and_then (λ m. run locking_guest m (take place threads))) f ∙ r.1))

-- of two steps of different threads one is not thread 0's
no-conflict : (t u : ℕ) → t ≢ u → (a b : Accesses) → Apart t a → Apart u b → (x : ℕ) → conflict_at a b x ≡ true → ⊥
no-conflict t u different a b p q x e = ⊎_elim first second (or-cases _ _ (and_parts (not (touches a.atomic x && touches b.atomic x)) _ e).1)
  where
    other-not : (m n : ℕ) → m ≢ n → (m == 0) ≡ true → (n == 0) ≡ false
    other-not m n d f = ⊎_elim (λ (g : (n == 0) ≡ true). absurd (d (eqb-true m 0 f ∙ sym (eqb-true n 0 g)))) (λ (g : (n == 0) ≡ false). g) (cases_Bool (n == 0))

    first : (touches a.writes x && (touches b.reads x || touches b.writes x)) ≡ true → ⊥
    first f =
        let w = p.writes x (and_parts (touches a.writes x) (touches b.reads x || touches b.writes x) f).0 in
        ⊎_elim
        (λ (g : touches b.reads x ≡ true). true≢false (sym w.1 ∙ q.reads (other-not t u different w.0) x g))
        (λ (g : touches b.writes x ≡ true). true≢false (sym (q.writes x g).0 ∙ other-not t u different w.0))
        (or-cases (touches b.reads x) (touches b.writes x) (and_parts (touches a.writes x) (touches b.reads x || touches b.writes x) f).1)

    second : (touches a.reads x && touches b.writes x) ≡ true → ⊥
    second f =
        let w = q.writes x (and_parts (touches a.reads x) (touches b.writes x) f).1 in
        true≢false (sym w.1 ∙ p.reads (other-not u t (λ g. different (sym g)) w.0) x (and_parts (touches a.reads x) (touches b.writes x) f).0)

-- what the step at a place accesses
at-apart : (threads : List ℕ) (end : Machine) → run locking_guest (opening locking_guest) threads ≡ Some end → (place t : ℕ) → slice_get threads place ≡ Some t → Apart t (accesses_at locking_guest threads place)
at-apart threads end e place t there =
    let r = take-runs threads place (opening locking_guest) end e in
    subst (Apart t) (sym (at-both (accesses locking_guest) no_access (machine_at locking_guest threads place) (slice_get threads place) r.0 t r.1 there))
    (apart-at r.0 (quiet-run (take place threads) (opening locking_guest) r.0 quiet-opening r.1) t)

-- the guest has no races
pub locking-free : RaceFree locking_guest
locking-free threads runs i j byte low short different conflict =
    let one = get-within threads i (omega arith) in
    let other = get-within threads j short in
    absurd (no-conflict one.0 other.0 (λ e. different (one.1 ∙ (ap Some e ∙ sym other.1))) (accesses_at locking_guest threads i) (accesses_at locking_guest threads j)
    (at-apart threads runs.0 runs.1 i one.0 one.1) (at-apart threads runs.0 runs.1 j other.0 other.1) byte conflict)
