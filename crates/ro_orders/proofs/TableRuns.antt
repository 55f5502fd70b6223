-- What the kernel keeps whatever it serves holds in each machine of an execution: every address that stands in the table of mutexes is that of a word that can be stored, and every reservation is of a word that LR may load.
use Rattle.std.specs.Prelude.{◌≡◌, ℕ, zero, suc, List, [], ◌∷◌, replicate, Some, None}
use Rattle.std.proofs.Common.{subst}
use Rattle.std.proofs.lemmas.Bool.{false≢true}
use Rattle.std.proofs.lemmas.Option.{option_and_then_some}
use Rattle.ro_event.specs.declared.calls.Call.{Call}
use Rattle.ro_event.specs.declared.stops.Stop.TheVariants.{Calls, Trap, PageFault, Watchdog}
use Rattle.ro_exec.specs.declared.Cpu.{Cpu}
use Rattle.ro_exec.specs.Next.{Next, Stands, Executes}
use Rattle.ro_kernel.specs.declared.reservations.Reservation.{Reservation}
use Rattle.ro_kernel.specs.Reserved.{reservation_of}
use Rattle.ro_kernel.specs.Kernel.{Kernel}
use Rattle.ro_kernel.specs.Serve.{Served, Done, Parked, Blocked, Ends, put_out, asked, serve}
use Rattle.ro_kernel.proofs.TableFits.{TableFits, serve-fits}
use Rattle.ro_plain.specs.Machine.{Program, setup_of, payload_in, served_in, Machine, opening, called, next_of, step_by, steppable, step, run}
use Rattle.ro_plain.proofs.Calls.{some-injective, step-opens}
use Rattle.ro_orders.proofs.Reservations.{After, Reserves, serve-reserves}

module _ (program : Program) (P : Kernel → Type 0) (keeps : (kernel : Kernel) → P kernel → (u : ℕ) (call : Call) → After P (serve (setup_of program) kernel u call)) where
  called-keeps : (machine after : Machine) (cpu : Cpu) (payload : List ℕ) (served : Served) → After P served → called machine cpu payload served ≡ Some after → P after.kernel
  called-keeps machine after cpu payload (Done kernel effect) h e = subst (λ (m : Machine). P m.kernel) (some-injective e) h
  called-keeps machine after cpu payload (Parked kernel) h e = subst (λ (m : Machine). P m.kernel) (some-injective e) h
  called-keeps machine after cpu payload Blocked h e = absurd (let f : None ≡ Some after = e in cc)
  called-keeps machine after cpu payload (Ends kernel how) h e = subst (λ (m : Machine). P m.kernel) (some-injective e) h

  step_by-keeps : (machine after : Machine) (t : ℕ) (cpu : Cpu) (n : Next) → P machine.kernel → step_by program machine t cpu n ≡ Some after → P after.kernel
  step_by-keeps machine after t cpu (Executes instr) h e = subst (λ (m : Machine). P m.kernel) (some-injective e) h
  step_by-keeps machine after t cpu (Stands (Calls call)) h e =
      called-keeps machine after cpu (put_out call.which (payload_in program machine call)) (served_in program machine t call) (keeps machine.kernel h t (asked call (payload_in program machine call))) e
  step_by-keeps machine after t cpu (Stands (Trap code)) h e = subst (λ (m : Machine). P m.kernel) (some-injective e) h
  step_by-keeps machine after t cpu (Stands (PageFault page)) h e = absurd (let f : None ≡ Some after = e in cc)
  step_by-keeps machine after t cpu (Stands Watchdog) h e = absurd (let f : None ≡ Some after = e in cc)

  step-keeps : (machine after : Machine) (t : ℕ) → P machine.kernel → step program machine t ≡ Some after → P after.kernel
  step-keeps machine after t h e =
      option_and_then_some (λ cpu. step_by program machine t cpu (next_of program machine cpu)) (steppable machine t) after (step-opens program machine t after e)
      (λ cpu live by. step_by-keeps machine after t cpu (next_of program machine cpu) h by)

  run-keeps : (machine end : Machine) (xs : List ℕ) → P machine.kernel → run program machine xs ≡ Some end → P end.kernel
  run-keeps machine end [] h e = subst (λ (m : Machine). P m.kernel) (some-injective e) h
  run-keeps machine end (x ∷ xs) h e =
      option_and_then_some (λ m. run program m xs) (step program machine x) end e (λ after steps rest. run-keeps after end xs (step-keeps machine after x h steps) rest)

pub table-fits : (program : Program) (before : List ℕ) (machine : Machine) → run program (opening program) before ≡ Some machine → TableFits (setup_of program) machine.kernel
unfolding opening
table-fits program before machine reached = run-keeps program (TableFits (setup_of program)) (serve-fits (setup_of program)) (opening program) machine before (λ m h. absurd (false≢true h)) reached

pub step-reserves : (program : Program) (machine after : Machine) (t : ℕ) → Reserves (setup_of program) machine.kernel → step program machine t ≡ Some after → Reserves (setup_of program) after.kernel
step-reserves program machine after t h e = step-keeps program (Reserves (setup_of program)) (serve-reserves (setup_of program)) machine after t h e

none-reserved : (n t : ℕ) (r : Reservation) → reservation_of (replicate n None) t ≡ Some r → ⊥
none-reserved zero t r e = let f : None ≡ Some r = e in cc
none-reserved (suc n) zero r e = let f : None ≡ Some r = e in cc
none-reserved (suc n) (suc t) r e = none-reserved n t r e

pub run-reserves : (program : Program) (before : List ℕ) (machine : Machine) → run program (opening program) before ≡ Some machine → Reserves (setup_of program) machine.kernel
unfolding opening
run-reserves program before machine reached =
    run-keeps program (Reserves (setup_of program)) (serve-reserves (setup_of program)) (opening program) machine before (λ t r e. absurd (none-reserved 16 t r e)) reached
