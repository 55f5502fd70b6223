use Rattle.ro_assembly.proofs.Pieces.{pointing_joined}
use Rattle.ro_assembly.proofs.texts.pointing.Goals as goal

pub returns : goal.returns
returns c =
    let joined = pointing_joined c.args.name.now c.register_name-rd.result.now c.register_name-rs1.result.now in
    let h = rw joined at c.format.ensures.ok in
    rw (← c.register_name-rd.ensures, ← c.register_name-rs1.ensures) h
