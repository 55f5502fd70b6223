use Rattle.ro_assembly.proofs.Pieces.{three_joined}
use Rattle.ro_assembly.proofs.texts.with_registers.Goals as goal

pub returns : goal.returns
returns c =
    let joined = three_joined c.args.name.now c.register_name-rd.result.now c.register_name-rs1.result.now c.register_name-rs2.result.now in
    let h = rw joined at c.format.ensures.ok in
    rw (← c.register_name-rd.ensures, ← c.register_name-rs1.ensures, ← c.register_name-rs2.ensures) h
