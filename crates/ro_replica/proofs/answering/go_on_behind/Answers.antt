use Rattle.std.proofs.Common.{◌+◌, ap}
use Rattle.ro_exec.specs.declared.Cpu.{Cpu}
use Rattle.ro_thread.specs.declared.Thread.{Thread}
use Rattle.ro_replica.proofs.answering.go_on_behind.Goals as goal

pub returns : goal.returns
returns c number =
    let x : Thread = c.args.thread.now in
    ap (λ (cpu : Cpu). record x { cpu = cpu; since = x.since + 1; done = x.done + 1 }) (c.answer.ensures number)
