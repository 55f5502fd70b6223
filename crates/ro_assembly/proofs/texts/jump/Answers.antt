use Rattle.std.proofs.Common.{Some, ap}
use Rattle.std.specs.String.{string_bytes}
use Rattle.ro_assembly.specs.Texts.{eight_digits}
use Rattle.ro_assembly.proofs.Pieces.{is_text, two_joined}
use Rattle.ro_assembly.proofs.texts.jump.Goals as goal

pub returns : goal.returns
returns c =
    let joined = ap Some (two_joined c.args.name.now c.register_name-rd.result.now (eight_digits c.args.place)) in
    rw (← c.register_name-rd.ensures) (is_text string_bytes c.format.result _ _ joined c.format.ensures.ok)
