use Rattle.std.proofs.Common.{ℕ, sym, subst, refl}
use Rattle.ro_coded.specs.declared.Coded.{Coded}
use Rattle.ro_coded.specs.Coded.{IsCoded, IsEntry}
use Rattle.ro_coded.proofs.Entries.{at_set, beside_set, coded_set, may_stand}
use Rattle.ro_coded.proofs.code.Code.learn.Goals as goal

pub returns-clause-code : goal.returns-clause-code
returns-clause-code c words e are =
    let is : IsCoded c.args.word c.args.at c.entry_of.result = may_stand c.args.word c.args.at c.entry_of.result c.entry_of.ensures in
    coded_set words words c.args.self.now.entries c.args.at c.entry_of.result (subst (λ (w : ℕ). IsCoded w c.args.at c.entry_of.result) (sym e) is) are (λ i apart. refl)

pub returns-clause-entry : goal.returns-clause-entry
returns-clause-entry c entry e = subst (λ (x : Coded). IsEntry c.args.word c.args.at x) (at_set c.args.self.now.entries c.args.at c.entry_of.result entry e) c.entry_of.ensures

pub returns-clause-others : goal.returns-clause-others
returns-clause-others c = beside_set c.args.self.now.entries c.args.at c.entry_of.result
