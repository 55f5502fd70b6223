use Rattle.std.proofs.Common.{◌+◌, ◌++◌, ◌∷◌, [], List, map, Option, length, sym, subst, refl, ap, ◌∙◌, arith}
use Rattle.std.proofs.lemmas.List.{with_items_is}
use Rattle.ro_legal.specs.Cooperative.{replicas_after, side_served}
use Rattle.ro_coop_core.specs.declared.cores.Core.{Core as Run}
use Rattle.ro_coop_core.specs.declared.seats.Seat.{Seat}
use Rattle.ro_coop_core.specs.declared.seats.Entering.{Entering}
use Rattle.ro_coop_core.specs.Seats.{AllCanTake, AreHome, entered_of}
use Rattle.ro_coop_core.specs.Runs.{job_of, state_of}
use Rattle.ro_coop_core.proofs.Behind.{occurs-job, occurs-few, occurs-given, occurs-can, occurs-ranked, occurs-home, occurs-many, occurs-steps, occurs-short, occurs-sent, occurs-places, occurs-votes, occurs-holds, occurs-wrote}
use Rattle.ro_coop_core.proofs.cores.Core.occur.Goals as goal

pub bounds-self-thread : goal.bounds-self-thread
bounds-self-thread c = occurs-few _ _ c.requires.can

pub is_blocked-was_blocked-requires : goal.is_blocked-was_blocked-requires
is_blocked-was_blocked-requires c = occurs-few _ _ c.requires.can

pub note-requires-clause-few : goal.note-requires-clause-few
note-requires-clause-few c = let votes = occurs-votes _ _ c.requires.can in let room = occurs-places _ _ c.requires.can in omega arith

pub note-requires-clause-thread : goal.note-requires-clause-thread
note-requires-clause-thread c = occurs-few _ _ c.requires.can

pub occur_in_all-requires : goal.occur_in_all-requires
occur_in_all-requires c =
    subst (λ (seats : List Seat). AllCanTake c.args.event.now.effect c.args.noted.now.thread c.entering-entering.result seats) (sym c.as_mut_slice.ensures.value)
    (subst (λ (e : Option Entering). AllCanTake c.args.event.now.effect c.args.noted.now.thread e c.args.self.now.seats.items) (sym c.entering-entering.ensures) (occurs-can _ _ c.requires.can))

pub push_reserved-requires : goal.push_reserved-requires
push_reserved-requires c = let room = occurs-places _ _ c.requires.can in omega arith

pub overflow_add-self : goal.overflow_add-self
overflow_add-self c = let steps = occurs-steps _ _ c.requires.can in omega arith

pub overflow_add-self-2 : goal.overflow_add-self-2
overflow_add-self-2 c = let sent = occurs-sent _ _ c.requires.can in let long = ap length c.payload-written.ensures in omega arith

pub overflow_cast-self : goal.overflow_cast-self
overflow_cast-self c = let few = occurs-short _ _ c.requires.can in let long = ap length c.payload-written.ensures in omega arith

pub returns-clause-holds : goal.returns-clause-holds
returns-clause-holds c =
    let can = c.requires.can in
    let job = job_of can.before in
    let core = state_of can.before in
    let effect = c.args.event.now.effect in
    let thread = c.args.noted.now.thread in
    let after = c.args.self.now.kernel.kernel in
    let old = subst (AreHome job core.kernel core.replicas core.sides) (sym c.as_mut_slice.ensures.value) (occurs-home _ _ can) in
    let new = subst (λ (e : Option Entering). AreHome job after (replicas_after effect (entered_of e) core.replicas core.sides) (map (side_served thread (entered_of e)) core.sides) c.occur_in_all.new.seats) c.entering-entering.ensures (c.occur_in_all.ensures job core.kernel after core.replicas core.sides (occurs-given _ _ can) (occurs-ranked _ _ can) old) in
    let items = with_items_is c.args.self.now.seats c.occur_in_all.new.seats (occurs-many _ _ can c.occur_in_all.new.seats new ∙ ap length (sym c.as_mut_slice.ensures.value) ∙ c.as_mut_slice.ensures.len) in
    occurs-holds _ _ can _ (occurs-job _ _ can) (c.push_reserved.ensures.items ∙ ap (λ (x : Run). x.journal.items ++ c.args.noted.now.entry ∷ []) can.is) refl
    (subst (AreHome job after _ _) (sym items) new) refl refl refl refl refl refl (record { waits = c.note.ensures.waits _ c.is_blocked-was_blocked.ensures; since = c.note.ensures.since; least = c.note.ensures.votes.0; most = c.note.ensures.votes.1 }) refl refl (ap (λ xs. c.args.self.now.sent + length xs) c.payload-written.ensures) (ap (λ xs. length xs) c.payload-written.ensures)
    (let room = occurs-places _ _ can in omega (arith, room, c.push_reserved.ensures.len, c.push_reserved.ensures.capacity))

pub returns-clause-wrote : goal.returns-clause-wrote
returns-clause-wrote c =
    let can = c.requires.can in
    occurs-wrote _ _ can _ (occurs-job _ _ can) (c.push_reserved.ensures.items ∙ ap (λ (x : Run). x.journal.items ++ c.args.noted.now.entry ∷ []) can.is) refl
