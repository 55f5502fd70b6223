use Rattle.std.proofs.Common.{ℕ, ◌≡◌, ◌∙◌, [], ◌+◌, length, slice_set, Some, refl, sym, ap, subst}
use Rattle.std.specs.Vec.{with_item}
use Rattle.std.proofs.lemmas.Option.{slice_get_read}
use Rattle.ro_plain.proofs.Calls.{some-injective}
use Rattle.ro_machine.specs.declared.watching.Relation.{Relation}
use Rattle.ro_machine.specs.Seen.{machine_of, Steps}
use Rattle.ro_machine.specs.Watched.{Sees, sync_of_relation}
use Rattle.ro_machine.specs.Lanes.{closed}
use Rattle.ro_races.specs.declared.sources.Row.{Row}
use Rattle.ro_races.specs.declared.sources.Source.TheVariants.{Thread}
use Rattle.ro_races.specs.Clocks.{IsStepped, learns_from, passes_to}
use Rattle.ro_races.specs.Seen.{seen_by, known_in, IsOwn, IsPast, PassesOn}
use Rattle.ro_races.specs.Follows.{put_back}
use Rattle.ro_races.proofs.Rows.{known-at, keeps-at, keeps-in, own-kept}
use Rattle.ro_machine.specs.declared.watching.Watched.{Watched}
use Rattle.ro_races.specs.Shadows.{reads_of, writes_of, MarksAll}
use Rattle.ro_races.proofs.Tables.{plainly-all, as_one-none, marks-nothing}
use Rattle.ro_races.proofs.Follow.{next, follows-same}
use Rattle.ro_races.proofs.checking.check_quickly.Goals as goal

pub returns-in_default-clause-follows : goal.returns-in_default-clause-follows
returns-in_default-clause-follows c program threads f there =
    follows-same program threads (put_back c.args.checker.now c.args.lane.now) (closed c.watch_quickly.new.self c.watch_quickly.new.lane) c.watch_quickly.ensures.program (c.watch_quickly.ensures.same c.in_default.is) f

pub hit_of-hit-requires-clause-loaded : goal.hit_of-hit-requires-clause-loaded
hit_of-hit-requires-clause-loaded c = (c.in-Some.ensures.sees []).loaded_few

pub hit_of-hit-requires-clause-code : goal.hit_of-hit-requires-clause-code
hit_of-hit-requires-clause-code c = (c.in-Some.ensures.sees []).code_few

pub hit_of-hit-requires-clause-stored : goal.hit_of-hit-requires-clause-stored
hit_of-hit-requires-clause-stored c = (c.in-Some.ensures.sees []).stored_low

pub mark_all-requires-clause-loaded : goal.mark_all-requires-clause-loaded
mark_all-requires-clause-loaded c = (c.in-Some.ensures.sees []).loaded_few

pub mark_all-requires-clause-code : goal.mark_all-requires-clause-code
mark_all-requires-clause-code c = (c.in-Some.ensures.sees []).code_few

pub mark_all-requires-clause-stored : goal.mark_all-requires-clause-stored
mark_all-requires-clause-stored c = (c.in-Some.ensures.sees []).stored_low

pub returns-clause-own : goal.returns-clause-own
returns-clause-own c =
    let rows = c.args.checker.now.rows.items in
    let there = slice_get_read rows (length rows) c.args.own c.index_mut.result.now refl c.requires.own.there c.index_mut.ensures.value in
    own-kept rows c.args.own c.watch_quickly.new.lane.thread c.index_mut.result.now (record { source = c.index_mut.result.now.source; clock = c.advance.new.self }) there refl
    (subst (λ (t : ℕ). IsOwn rows t c.args.own) (sym c.watch_quickly.ensures.thread) c.requires.own)

pub returns-clause-follows : goal.returns-clause-follows
returns-clause-follows c program threads follows there =
    let old = c.args.checker.now in
    let rows = c.args.checker.now.rows.items in
    let t = c.watch_quickly.new.lane.thread in
    let w = c.in-Some.watched in
    let thread = c.watch_quickly.ensures.thread in
    let own = subst (λ (n : ℕ). IsOwn rows n c.args.own) (sym thread) c.requires.own in
    let at = slice_get_read rows (length rows) c.args.own c.index_mut.result.now refl c.requires.own.there c.index_mut.ensures.value in
    let read = slice_get_read rows (length rows) c.args.own c.index.result.now refl c.requires.own.there c.index.ensures in
    let same : c.index_mut.result.now ≡ c.index.result.now = some-injective (sym at ∙ read) in
    let row : Row = record { source = c.index_mut.result.now.source; clock = c.advance.new.self } in
    let steps = subst (λ (n : ℕ). Steps (closed old.plain c.args.lane.now) n (closed c.watch_quickly.new.self c.watch_quickly.new.lane)) (sym thread) c.in-Some.ensures.steps in
    let is_past = subst (λ (r : Relation). IsPast (known_in rows old.words.entries) t (learns_from (sync_of_relation r)) c.index.result.now.clock) (sym c.in-Some.ensures.plain)
    (λ other. sym (known-at rows c.args.own c.index.result.now (Thread t) other read (own.first.0 c.index.result.now read) own.first.1)) in
    let stepped = subst (λ (r : Row). IsStepped (seen_by r.clock) t old.steps (seen_by c.advance.new.self)) same c.advance.ensures in
    let passed = subst (λ (r : Relation). PassesOn (known_in rows old.words.entries) t (passes_to t (sync_of_relation r)) c.advance.new.self (known_in (slice_set rows c.args.own row) old.words.entries)) (sym c.in-Some.ensures.plain)
    (keeps-in rows (slice_set rows c.args.own row) old.words.entries c.advance.new.self t (keeps-at rows c.args.own c.index_mut.result.now row (Thread t) c.advance.new.self at refl refl own.first)) in
    let alone = c.in-Some.ensures.alone in
    let marked = subst (λ (v : Watched). MarksAll old.reads.items old.writes.items v t old.steps c.mark_all.new.reads.items c.mark_all.new.writes.items) (sym (plainly-all w alone)) c.in_ok-mark_all.ensures.marks in
    let words = subst (λ (v : Watched). MarksAll (reads_of old.atomics) (writes_of old.atomics) v t old.steps (reads_of old.atomics) (writes_of old.atomics)) (sym (as_one-none w alone)) (marks-nothing (reads_of old.atomics) (writes_of old.atomics) w t old.steps) in
    next program threads (put_back old c.args.lane.now) follows t (there ∙ ap Some (sym thread)) w
    (λ output. subst (λ (n : ℕ). Sees old.plain.program (machine_of (closed old.plain c.args.lane.now) output) n w) (sym thread) (c.in-Some.ensures.sees output))
    (record { plain = closed c.watch_quickly.new.self c.watch_quickly.new.lane; rows = with_item old.rows c.args.own row; words = old.words; reads = c.mark_all.new.reads; writes = c.mark_all.new.writes; atomics = old.atomics; steps = old.steps + 1; found = c.noted-checker.result })
    c.index.result.now.clock c.advance.new.self c.hit_of-hit.result c.watch_quickly.ensures.program steps is_past c.hit_of-hit.ensures stepped
    marked words passed refl c.noted-checker.ensures
