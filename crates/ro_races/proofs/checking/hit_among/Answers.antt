use Rattle.ro_races.specs.Shadows.{IsHit}
use Rattle.ro_machine.specs.Watched.{span_of}
use Rattle.ro_races.specs.Seen.{seen_by}
use Rattle.ro_races.proofs.Hits.{first-of-both}
use Rattle.ro_races.proofs.checking.hit_among.Goals as goal

pub returns : goal.returns
returns c =
    let writes = c.args.writes.now.items in
    let reads = c.args.reads.now.items in
    let past = seen_by c.args.past.now in
    let w = c.args.watched.now in
    first-of-both _ _ c.better.result c.better-2.result c.better-3.result
    (first-of-both (IsHit writes (span_of w.loaded) past) (IsHit writes (span_of w.code) past) c.first_hit-loaded.result c.first_hit-code.result c.better.result c.first_hit-loaded.ensures c.first_hit-code.ensures c.better.ensures)
    (first-of-both (IsHit writes (span_of w.stored) past) (IsHit reads (span_of w.stored) past) c.first_hit-stored.result c.first_hit-read.result c.better-2.result c.first_hit-stored.ensures c.first_hit-read.ensures c.better-2.ensures)
    c.better-3.ensures
