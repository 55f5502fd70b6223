use Rattle.std.proofs.Common.{ℤ, Some, codes, ap, ◌∙◌}
use Rattle.std.proofs.lemmas.Int.{to_z-of_z}
use Rattle.std.specs.Fmt.{signed_decimal, ◌++?◌}
use Rattle.std.specs.Int.{w32}
use Rattle.std.specs.String.{string_bytes}
use Rattle.ro_assembly.proofs.Pieces.{is_text, three_joined}
use Rattle.ro_assembly.proofs.texts.with_number.Goals as goal

pub returns : goal.returns
returns c =
    let name = c.args.name.now in
    let rd = c.register_name-rd.result.now in
    let rs1 = c.register_name-rs1.result.now in
    let pieces = λ (n : ℤ). Some name ++? Some (codes " ") ++? Some rd ++? Some (codes ", ") ++? Some rs1 ++? Some (codes ", ") ++? Some (signed_decimal n) in
    let joined = ap pieces (to_z-of_z w32 c.args.number c.ranges.number) ∙ ap Some (three_joined name rd rs1 (signed_decimal c.args.number)) in
    rw (← c.register_name-rd.ensures, ← c.register_name-rs1.ensures) (is_text string_bytes c.format.result _ _ joined c.format.ensures.ok)
