use Rattle.std.proofs.Common.{ap, ◌∙◌}
use Rattle.ro_lockpage.specs.Pages.{PassOf}
use Rattle.ro_lockpage.proofs.Closing.{from_at}
use Rattle.test_threaded.proofs.lock_pages.ask_all.Goals as goal

pub for_each_mut-requires-clause-accepts : goal.for_each_mut-requires-clause-accepts
for_each_mut-requires-clause-accepts g c κs within i p less e = (
  c.requires.page,
  ap (λ (q : PassOf). q.page) e ∙ (from_at c.args.hall.now.page.now.name 0 c.args.passes.now c.requires.passes i p.now less).0,
)
