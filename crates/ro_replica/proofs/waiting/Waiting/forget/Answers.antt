use Rattle.std.proofs.Common.{List, ◌≡◌, ◌≤◌, sym, subst}
use Rattle.std.specs.Prelude.{not, slice_index_or}
use Rattle.std.specs.List.{All}
use Rattle.std.proofs.lemmas.List.Elements.{All-filter}
use Rattle.ro_faults.specs.declared.Fault.{Fault}
use Rattle.ro_replica.specs.Runs.{is_due}
use Rattle.ro_replica.specs.Seen.{AreLater}
use Rattle.ro_replica.proofs.waiting.Waiting.forget.Goals as goal

pub invariant_of-self : goal.invariant_of-self
invariant_of-self c =
    c.set_moment.ensures c.retain.new.faults.items
    (subst (AreLater c.self.inside.moments) (sym c.retain.ensures) (All-filter (λ (f : Fault). not (is_due c.args.thread c.args.done f)) (λ (f : Fault). slice_index_or c.self.inside.moments f.thread 0 ≤ f.at) c.self.inside.faults.items c.self.invariant))
    (subst (λ (fs : List Fault). All (λ (f : Fault). f.thread ≡ c.args.thread → c.earliest-moment.result ≤ f.at) fs) c.as_slice.ensures.value c.earliest-moment.ensures)
