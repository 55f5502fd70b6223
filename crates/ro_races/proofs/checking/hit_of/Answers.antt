use Rattle.std.proofs.Common.{Option, [], sym, subst}
use Rattle.ro_races.specs.declared.atomics.Atomics.{Atomics}
use Rattle.ro_races.specs.Seen.{seen_by}
use Rattle.ro_races.specs.Shadows.{plainly, IsFirstOf, AnyHit, AnyConflict}
use Rattle.ro_races.proofs.Hits.{first-of-one, first-of-both}
use Rattle.ro_races.proofs.Tables.{no-hit-unmarked}
use Rattle.ro_races.proofs.checking.hit_of.Goals as goal

pub returns-in-None : goal.returns-in-None
returns-in-None c =
    let w = c.args.watched.now in
    let past = seen_by c.args.past.now in
    subst (λ (a : Option Atomics). IsFirstOf (AnyConflict c.args.reads.now.items c.args.writes.now.items a w past) c.hit_in-hit.result) (sym c.in-None.is)
    (first-of-one (AnyHit c.args.reads.now.items c.args.writes.now.items w past) (AnyHit [] [] (plainly w) past) c.hit_in-hit.result c.hit_in-hit.ensures (no-hit-unmarked (plainly w) past))

pub returns-in-Some : goal.returns-in-Some
returns-in-Some c =
    let w = c.args.watched.now in
    let past = seen_by c.args.past.now in
    subst (λ (a : Option Atomics). IsFirstOf (AnyConflict c.args.reads.now.items c.args.writes.now.items a w past) c.better.result) (sym c.in-Some.is)
    (first-of-both (AnyHit c.args.reads.now.items c.args.writes.now.items w past) (AnyHit c.in-Some.tables.reads.items c.in-Some.tables.writes.items (plainly w) past) c.hit_in-hit.result c.hit_beside.result c.better.result c.hit_in-hit.ensures c.hit_beside.ensures c.better.ensures)
