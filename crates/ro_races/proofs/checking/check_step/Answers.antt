use Rattle.std.proofs.Common.{[], ◌+◌, subst, List, refl, arith}
use Rattle.ro_machine.specs.Seen.{Refuses}
use Rattle.ro_machine.specs.Watched.{sync_of_relation}
use Rattle.ro_races.specs.declared.sources.Row.{Row}
use Rattle.ro_races.specs.Clocks.{learns_from}
use Rattle.ro_races.specs.Seen.{known_in, IsPast}
use Rattle.ro_machine.specs.declared.watching.Watched.{Watched}
use Rattle.ro_races.specs.Shadows.{MarksAll}
use Rattle.ro_races.proofs.Follow.{lacks-there, next}
use Rattle.ro_races.proofs.checking.check_step.Goals as goal

pub returns-in-Err-NoStep-clause-lacks : goal.returns-in-Err-NoStep-clause-lacks
returns-in-Err-NoStep-clause-lacks c program threads follows there =
    rw c.from.ensures
    (lacks-there program threads c.args.checker.now follows c.args.thread there (subst (Refuses c.args.checker.now.plain c.args.thread) c.in-Err-NoStep.field-0-is c.in-Err-NoStep.ensures.refused))

pub hit_of-hit-requires-clause-loaded : goal.hit_of-hit-requires-clause-loaded
hit_of-hit-requires-clause-loaded c = (c.in-Ok.ensures.sees []).loaded_few

pub hit_of-hit-requires-clause-code : goal.hit_of-hit-requires-clause-code
hit_of-hit-requires-clause-code c = (c.in-Ok.ensures.sees []).code_few

pub hit_of-hit-requires-clause-stored : goal.hit_of-hit-requires-clause-stored
hit_of-hit-requires-clause-stored c = (c.in-Ok.ensures.sees []).stored_low

pub advance-requires-clause-thread : goal.advance-requires-clause-thread
advance-requires-clause-thread c = (c.in-Ok.ensures.sees []).known_thread

pub mark_all-requires-clause-loaded : goal.mark_all-requires-clause-loaded
mark_all-requires-clause-loaded c = omega (arith, c.plainly.ensures.loaded, (c.in-Ok.ensures.sees []).loaded_few)

pub mark_all-requires-clause-code : goal.mark_all-requires-clause-code
mark_all-requires-clause-code c = omega (arith, c.plainly.ensures.code, (c.in-Ok.ensures.sees []).code_few)

pub mark_all-requires-clause-stored : goal.mark_all-requires-clause-stored
mark_all-requires-clause-stored c = omega (arith, c.plainly.ensures.stored, (c.in-Ok.ensures.sees []).stored_low)

pub mark_word-requires-clause-loaded : goal.mark_word-requires-clause-loaded
mark_word-requires-clause-loaded c = (c.in-Ok.ensures.sees []).loaded_few

pub mark_word-requires-clause-stored : goal.mark_word-requires-clause-stored
mark_word-requires-clause-stored c = (c.in-Ok.ensures.sees []).stored_low

pub mark_word-requires-clause-thread : goal.mark_word-requires-clause-thread
mark_word-requires-clause-thread c = (c.in-Ok.ensures.sees []).known_thread

pub mark_all-requires-clause-thread : goal.mark_all-requires-clause-thread
mark_all-requires-clause-thread c = (c.in-Ok.ensures.sees []).known_thread

pub returns-clause-follows : goal.returns-clause-follows
returns-clause-follows c program threads follows there =
    let is_past = subst (λ (rows : List Row). IsPast (known_in rows c.args.checker.now.words.entries) c.args.thread (learns_from (sync_of_relation c.in-Ok.watched.relation)) c.past_of-past.result) c.as_slice.ensures.value c.past_of-past.ensures in
    let marked = subst (λ (v : Watched). MarksAll c.args.checker.now.reads.items c.args.checker.now.writes.items v c.args.thread c.args.checker.now.steps c.mark_all.new.reads.items c.mark_all.new.writes.items) c.plainly.ensures.part c.in_ok-mark_all.ensures.marks in
    next program threads c.args.checker.now follows c.args.thread there c.in-Ok.watched c.in-Ok.ensures.sees
    (record { plain = c.watch.new.self; rows = c.pass_on.new.rows; words = c.pass_on.new.words; reads = c.mark_all.new.reads; writes = c.mark_all.new.writes; atomics = c.mark_word.new.atomics; steps = c.args.checker.now.steps + 1; found = c.noted-checker.result })
    c.past_of-past.result c.advance.new.self c.hit_of-hit.result c.in-Ok.ensures.program c.in-Ok.ensures.steps is_past c.hit_of-hit.ensures c.advance.ensures
    marked c.in_ok-mark_word.ensures.marks c.in_ok-pass_on.ensures refl c.noted-checker.ensures
