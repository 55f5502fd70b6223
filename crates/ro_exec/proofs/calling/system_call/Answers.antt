use Rattle.std.proofs.Common.{◌≡◌, Some, ap, sym, ◌∙◌}
use Rattle.ro_decode.specs.declared.Instr.TheVariants.{Ecall}
use Rattle.ro_decode.specs.Table.{instruction_of}
use Rattle.ro_event.specs.declared.calls.Which.TheVariants.{System}
use Rattle.ro_event.specs.declared.stops.Stop.TheVariants.{Calls}
use Rattle.ro_pages.specs.Bytes.{number_at}
use Rattle.ro_exec.specs.declared.Cpu.{Cpu}
use Rattle.ro_exec.specs.Next.{Next, Stands, next_at, instruction_stop}
use Rattle.ro_exec.proofs.Frame.{next-fetched}
use Rattle.ro_exec.proofs.calling.system_call.Goals as goal

pub returns : goal.returns
unfolding instruction_stop
returns g c layout clear =
    let cpu : Cpu = record { registers = c.args.registers.now; pc = c.args.pc } in
    let backed = g.M.Memory.backing c.args.memory.now in
    let memory = g.M.Memory.memory c.args.memory.now in
    let inside = c.holds.ensures c.if-not-holds.false in
    let ecall : instruction_of (number_at memory c.args.pc 4) ≡ Some Ecall = ap instruction_of (sym c.load_at.ensures) ∙ c.is_ecall.ensures.0 c.if-not-is_ecall.false in
    let call : Next = Stands (Calls (record { which = System c.get.result; a0 = c.get-2.result; a1 = c.get-3.result; a2 = c.get-4.result; a3 = c.get-5.result })) in
    let stands : next_at layout.ranges backed cpu (Some Ecall) ≡ call = λ i. Stands (Calls (record { which = System (sym c.get.ensures i); a0 = sym c.get-2.ensures i; a1 = sym c.get-3.ensures i; a2 = sym c.get-4.ensures i; a3 = sym c.get-5.ensures i })) in
    next-fetched layout backed memory cpu (clear cpu inside).0 ∙ ap (next_at layout.ranges backed cpu) ecall ∙ stands
