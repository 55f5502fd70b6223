use Rattle.std.proofs.Common.{arith, ap, sym, ◌∙◌}
use Rattle.ro_event.specs.Addresses.{Addresses}
use Rattle.ro_event.specs.Table.{call_at}
use Rattle.ro_event.proofs.Filter.{none_elsewhere}
use Rattle.ro_event.proofs.table.CallTable.find.Goals as goal

pub returns-then-self-pc-eq0 : goal.returns-then-self-pc-eq0
returns-then-self-pc-eq0 c = sym (
    ap (λ (t : Addresses). call_at t c.args.pc) (sym c.self.view_is)
    ∙ none_elsewhere (record { addresses = c.self.inside.addresses }) c.self.inside.filter c.args.pc c.self.invariant (λ e. omega arith))
