use Rattle.std.proofs.Common.{Result, Ok, Err, List, length, sym, ap, ◌∙◌}
use Rattle.std.specs.Prelude.{IfOk, slice_get}
use Rattle.ro_lockpage.specs.Pages.{PassOf}
use Rattle.ro_cores.proofs.Passes.{fresh-count, each-unused}
use Rattle.ro_cores.proofs.together.CoreRunCore.open.Goals as goal

ok-more : {X E : Type 0} (r : Result X E) (P Q : X → Type 0) → ((x : X) → P x → Q x) → IfOk r P → IfOk r Q
ok-more (Ok x) P Q more is = more x is
ok-more (Err e) P Q more is = tt

pub returns-clause-count : goal.returns-clause-count
returns-clause-count c = ok-more c.open.result _ _ (λ made is. ap length is ∙ fresh-count made.0 c.args.drivers) c.open.ensures.passes

pub returns-clause-each : goal.returns-clause-each
returns-clause-each c = ok-more c.open.result _ _ (λ made is number one at. each-unused made.0 c.args.drivers number one (ap (λ (ps : List PassOf). slice_get ps number) (sym is) ∙ at)) c.open.ensures.passes
