use Rattle.std.proofs.Common.{◌≡◌, ℕ, ◌-◌, ◌^◌, List, [], false, Option, Some, ap, subst, ◌∙◌}
use Rattle.std.specs.Option.{option_map}
use Rattle.std.specs.Fmt.{DisplaysOnOk, padded_integral, digits_output, styled_digits_output, format_spec, digits}
use Rattle.ro_assembly.specs.Texts.{eight_digits}
use Rattle.ro_assembly.proofs.Pieces.{padded_eight}
use Rattle.ro_assembly.proofs.texts.EightDigitsDisplay.fmt.Goals as goal

pub returns-clause-writes : goal.returns-clause-writes
returns-clause-writes g c =
    let n = c.args.self.now.0 in
    let pad : List ℕ → List ℕ = padded_integral (format_spec 32 0 4 8 (2 ^ 64 - 1)) false [] in
    let laid_out : styled_digits_output c.in_radix.result c.laid_out.result ≡ option_map pad (digits_output c.in_radix.result) = ap (styled_digits_output c.in_radix.result) c.laid_out.ensures in
    let shown : styled_digits_output c.in_radix.result c.laid_out.result ≡ Some (eight_digits n) = laid_out ∙ ap (option_map pad) c.in_radix.ensures ∙ ap Some (padded_eight (digits 16 false n)) in
    subst (λ (o : Option (List ℕ)). DisplaysOnOk g.W.Write.write_str_gives c.args.f.now c.write.result o c.write.new.self) shown c.write.ensures.writes
