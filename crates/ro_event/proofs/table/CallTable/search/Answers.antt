use Rattle.std.proofs.Common.{rules, arith, ap, sym, ◌∙◌, drop, length, ◌∷◌, ◌+◌, ◌≡◌}
use Rattle.ro_event.specs.Addresses.{Addresses}
use Rattle.ro_event.specs.Functions.{functions}
use Rattle.ro_event.specs.Table.{function_at, call_at}
use Rattle.ro_event.proofs.Filter.{passes, finds, ends}
use Rattle.ro_event.proofs.table.CallTable.search.Goals as goal

pub returns-then-stands_at : goal.returns-then-stands_at
unfolding call_at
returns-then-stands_at c = sym (
    let i = c.loop-i.i in
    c.loop-i.invariant
    ∙ ap (λ ws. function_at (drop i c.args.self.now.addresses) ws c.args.pc) c.at-function.ensures
    ∙ ap (λ (t : Addresses). function_at (drop i t.addresses) (c.at-function.result ∷ drop (i + 1) functions) c.args.pc) (sym c.self.view_is)
    ∙ finds c.self.inside.addresses c.at-function.result (drop (i + 1) functions) i c.args.pc _ (search rules) (sym (c.if-stands_at.ensures)))

pub loop-i-preserved : goal.loop-i-preserved
loop-i-preserved c =
    let i = c.loop-i.i in
    c.loop-i.invariant
    ∙ ap (λ ws. function_at (drop i c.args.self.now.addresses) ws c.args.pc) c.at-function.ensures
    ∙ ap (λ (t : Addresses). function_at (drop i t.addresses) (c.at-function.result ∷ drop (i + 1) functions) c.args.pc) (sym c.self.view_is)
    ∙ passes c.self.inside.addresses c.at-function.result (drop (i + 1) functions) i c.args.pc _ (search rules) (sym (c.if-stands_at.ensures))
    ∙ ap (λ (t : Addresses). function_at (drop (i + 1) t.addresses) (drop (i + 1) functions) c.args.pc) c.self.view_is

pub returns : goal.returns
unfolding call_at
returns c = sym (
    let last : c.loop-i.i ≡ length functions = omega arith in
    c.loop-i.invariant
    ∙ ap (λ i. function_at (drop i c.args.self.now.addresses) (drop i functions) c.args.pc) last
    ∙ ends (drop (length functions) c.args.self.now.addresses) c.args.pc)
