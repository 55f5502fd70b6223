use Rattle.std.proofs.Common.{arith, ◌∙◌, ◌/◌}
use Rattle.ro_pages.specs.Held.{has_page}
use Rattle.ro_replica.proofs.Spans.{more_between, all_between}
use Rattle.ro_replica.proofs.backing.back_stretch.Goals as goal

pub loop-page-preserved : goal.loop-page-preserved
loop-page-preserved c = record {
  bytes = c.back.ensures.bytes ∙ c.loop-page.invariant.bytes;
  backed = more_between (has_page c.args.pages.now.pages) _ _ (c.args.place / 4096) c.loop-page.page (omega arith) c.loop-page.invariant.backed c.back.ensures.backed;
  stay = λ place page there. c.back.ensures.stay place page (c.loop-page.invariant.stay place page there);
  spare = omega arith;
}

pub returns-clause-backed : goal.returns-clause-backed
returns-clause-backed c = all_between (has_page c.args.pages.now.pages) _ c.args.place c.args.len c.loop-page.page (omega arith) (omega arith) c.loop-page.invariant.backed
