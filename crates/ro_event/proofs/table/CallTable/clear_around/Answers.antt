use Rattle.std.proofs.Common.{rules, arith, ap, sym, ◌∙◌, ◌≡◌, ◌+◌, take, length}
use Rattle.std.specs.List.{list_any}
use Rattle.ro_event.specs.Addresses.{Addresses, is_at}
use Rattle.ro_event.specs.Functions.{functions}
use Rattle.ro_event.proofs.Filter.{none_in, none_more, none_here}
use Rattle.ro_event.proofs.table.CallTable.clear_around.Goals as goal

pub loop-i-preserved : goal.loop-i-preserved
loop-i-preserved c = record {
  aligned = c.cut.ensures.aligned;
  begins = omega (arith, c.loop-i.invariant.begins, c.cut.ensures.begins);
  ordered = c.cut.ensures.ordered;
  ends = omega (arith, c.loop-i.invariant.ends, c.cut.ensures.ends);
  round = λ none whole low high.
      let i = c.loop-i.i in
      let here = none_here c.self.inside.addresses i c.args.pc _ (search rules) (ap (λ (t : Addresses). list_any (is_at c.args.pc) t.addresses) c.self.view_is ∙ none) in
      let within = c.loop-i.invariant.round none whole low high in
      c.cut.ensures.round here whole within.0 within.1;
  clear = λ p l h.
      let i = c.loop-i.i in
      ap (λ (t : Addresses). list_any (is_at p) (take (i + 1) t.addresses)) (sym c.self.view_is)
      ∙ none_more c.self.inside.addresses i p _ (search rules)
      (ap (λ (t : Addresses). list_any (is_at p) (take i t.addresses)) c.self.view_is ∙ c.loop-i.invariant.clear p (omega (arith, l, c.cut.ensures.begins)) (omega (arith, h, c.cut.ensures.ends)))
      (c.cut.ensures.clear p l h);
}

pub returns-clause-clear : goal.returns-clause-clear
returns-clause-clear c p l h =
    let last : length functions ≡ c.loop-i.i = omega arith in
    none_in c.args.self.now p (ap (λ i. list_any (is_at p) (take i c.args.self.now.addresses)) last ∙ c.loop-i.invariant.clear p l h)
