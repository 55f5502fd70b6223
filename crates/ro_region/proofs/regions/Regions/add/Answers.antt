use Rattle.std.proofs.Common.{rules, subst, sym, ap, arith, ◌≡◌, ◌∙◌, ◌+◌, ◌<◌, [], ◌∷◌, ◌++◌, List, length, reverse, length-append}
use Rattle.std.proofs.lemmas.List.{length-reverse}
use Rattle.ro_region.specs.declared.Range.{Range}
use Rattle.ro_region.specs.Grants.{AreGranted}
use Rattle.ro_region.proofs.Granted.{reverse-last}
use Rattle.ro_region.proofs.regions.Regions.add.Goals as goal

pub invariant_of-self : goal.invariant_of-self
invariant_of-self c =
    let old = c.self.inside.given.items in
    let last : c.push.new.self.items ≡ old ++ c.args.range ∷ [] = search rules in
    let few : length old < 4096 = subst (λ n. n < 4096) (ap (λ v. length v.given) (sym c.self.view_is) ∙ length-reverse old) c.requires in
    let more : length c.push.new.self.items ≡ length old + 1 = ap length last ∙ length-append old (c.args.range ∷ []) in
    (search rules, subst (λ (ranges : List Range). AreGranted ranges c.grant_range.new.pages.items) (sym (ap reverse last ∙ reverse-last old c.args.range)) (c.grant_range.ensures (reverse old) c.self.invariant.1), omega (arith, few, more))
