use Rattle.std.proofs.Common.{ℕ, List, Option, Some, codes, ap, ◌∙◌}
use Rattle.std.specs.Fmt.{◌++?◌}
use Rattle.std.specs.String.{string_bytes}
use Rattle.ro_assembly.specs.Texts.{upper}
use Rattle.ro_assembly.proofs.Pieces.{is_text, two_joined}
use Rattle.ro_assembly.proofs.texts.with_upper.Goals as goal

pub returns : goal.returns
returns c =
    let name = c.args.name.now in
    let rd = c.register_name-rd.result.now in
    let pieces = λ (o : Option (List ℕ)). Some name ++? Some (codes " ") ++? Some rd ++? Some (codes ", 0x") ++? o in
    let joined = ap pieces c.in_radix.ensures ∙ ap Some (two_joined name rd (upper c.args.imm)) in
    rw (← c.register_name-rd.ensures) (is_text string_bytes c.format.result _ _ joined c.format.ensures.ok)
