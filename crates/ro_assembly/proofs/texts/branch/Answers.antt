use Rattle.std.proofs.Common.{Some, ap}
use Rattle.std.specs.String.{string_bytes}
use Rattle.ro_assembly.specs.Texts.{eight_digits}
use Rattle.ro_assembly.proofs.Pieces.{is_text, three_joined}
use Rattle.ro_assembly.proofs.texts.branch.Goals as goal

pub returns : goal.returns
returns c =
    let joined = ap Some (three_joined c.args.name.now c.register_name-rs1.result.now c.register_name-rs2.result.now (eight_digits c.args.place)) in
    rw (← c.register_name-rs1.ensures, ← c.register_name-rs2.ensures) (is_text string_bytes c.format.result _ _ joined c.format.ensures.ok)
