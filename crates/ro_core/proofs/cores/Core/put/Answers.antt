use Rattle.std.proofs.Common.{◌≡◌, ℕ, ◌++◌, ◌∷◌, [], Bool, true, cond, List, Option, Some, None, length, refl, sym, ap, ◌∙◌, subst, arith}
use Rattle.std.specs.Prelude.{is_some}
use Rattle.std.specs.Vec.{with_items}
use Rattle.std.proofs.lemmas.List.{length-set, with_items_is}
use Rattle.ro_event.specs.declared.stops.Stop.{Stop}
use Rattle.ro_journal.specs.declared.Entry.{Entry}
use Rattle.ro_lease.specs.declared.Loan.{Loan}
use Rattle.ro_pages.specs.Held.{has_page, memory_of}
use Rattle.ro_replica.specs.Replica.{stop_of}
use Rattle.ro_replica.specs.Lent.{put_back}
use Rattle.ro_replica.specs.Seen.{ReplicaOf, replica_of}
use Rattle.ro_legal.specs.Legal.{after, output_of}
use Rattle.ro_core.specs.declared.wishing.Wish.{Wish}
use Rattle.ro_core.specs.Fields.{AreSeated, Fields, Holds, core_in}
use Rattle.ro_core.specs.Grouped.{Returns}
use Rattle.ro_core.specs.Runs.{fields_of, silent, state_of}
use Rattle.ro_core.specs.Seated.{TakesBack}
use Rattle.ro_core.specs.Seen.{Brings, return_of, stop_behind, stop_in, wanted_of}
use Rattle.ro_core.specs.Wishing.{NotesFault}
use Rattle.ro_core.proofs.Puts.{part-can, part-home, part-seat, part-seated, part-spare, part-stop, part-told, put-few, put-group, put-holds, put-noted, put-output, put-replicas, put-room, put-told, put-within, whole-seated}
use Rattle.ro_core.proofs.cores.Core.put.Goals.{in-Part, in_default, then-missed, else-missed}
use Rattle.ro_core.proofs.cores.Core.put.Goals as goal

pub push_reserved-requires : goal.push_reserved-requires
push_reserved-requires c = let room = put-room (fields_of c.args.self.now) c.requires.holds (silent c.args.self.now) c.args.back refl refl c.requires.returns in omega arith

pub place_of-requires-clause-replica : goal.place_of-requires-clause-replica
place_of-requires-clause-replica c = put-replicas (fields_of c.args.self.now) c.requires.holds (silent c.args.self.now) c.args.back refl refl c.requires.returns

pub place_of-requires-clause-thread : goal.place_of-requires-clause-thread
place_of-requires-clause-thread c = put-few (fields_of c.args.self.now) c.requires.holds (silent c.args.self.now) c.args.back refl refl c.requires.returns

pub come_home-requires-clause-home : goal.come_home-requires-clause-home
come_home-requires-clause-home c = put-within (fields_of c.args.self.now) c.requires.holds (silent c.args.self.now) c.args.back refl refl c.requires.returns

pub come_home-requires-clause-replica : goal.come_home-requires-clause-replica
come_home-requires-clause-replica c = put-group (fields_of c.args.self.now) c.requires.holds (silent c.args.self.now) c.args.back refl refl c.requires.returns

pub come_home-requires-clause-thread : goal.come_home-requires-clause-thread
come_home-requires-clause-thread c = put-few (fields_of c.args.self.now) c.requires.holds (silent c.args.self.now) c.args.back refl refl c.requires.returns

pub take_back-requires-clause-home : goal.take_back-requires-clause-home
take_back-requires-clause-home c =
    part-seat (fields_of c.args.self.now) c.requires.holds (silent c.args.self.now) c.args.back refl refl c.requires.returns c.in-Part-loan.lane
    (subst (λ (l : Loan). Brings (silent c.args.self.now) c.args.back l) c.in-Part-loan.is c.requires.returns.brings)

pub take_back-requires-clause-group : goal.take_back-requires-clause-group
take_back-requires-clause-group c = put-group (fields_of c.args.self.now) c.requires.holds (silent c.args.self.now) c.args.back refl refl c.requires.returns

pub take_back-requires-clause-thread : goal.take_back-requires-clause-thread
take_back-requires-clause-thread c = put-few (fields_of c.args.self.now) c.requires.holds (silent c.args.self.now) c.args.back refl refl c.requires.returns

pub take_back-requires-clause-can : goal.take_back-requires-clause-can
take_back-requires-clause-can c =
    part-can (fields_of c.args.self.now) c.requires.holds (silent c.args.self.now) c.args.back refl refl c.requires.returns c.in-Part-loan.lane
    (subst (λ (l : Loan). Brings (silent c.args.self.now) c.args.back l) c.in-Part-loan.is c.requires.returns.brings)

pub returns-in-Whole-clause-holds : goal.returns-in-Whole-clause-holds
returns-in-Whole-clause-holds c =
    let s = c.args.self.now in
    let f : Fields = fields_of s in
    let h = c.requires.holds in
    let back = c.args.back in
    let may = c.requires.returns in
    let brings = subst (λ (l : Loan). Brings (silent s) back l) c.in-Whole.is may.brings in
    let matches : c.match-matches.matches ≡ is_some (wanted_of (state_of s) back.lease.replica back.loan) = elim c.match-matches.branch [
      | in-Part w ↦ w.matches-is ∙ sym (part-told (state_of s) back w.in-Part.lease w.in-Part.count w.in-Part.hit (sym c.return_of-entry.ensures ∙ w.in-Part.is))
      | in_default w ↦ w.matches-is ∙ sym (put-told (state_of s) back (λ lease count hit e. w.in_default.not-Part lease count hit (c.return_of-entry.ensures ∙ e)))
    ] in
    let wishes = with_items_is s.wishes c.note_fault.new.wishes (c.note_fault.ensures.count ∙ c.as_mut_slice.ensures.len) in
    let noted =
    subst (λ (place : ℕ). NotesFault place (stop_in back.lease.thread back.loan) (is_some (wanted_of (state_of s) back.lease.replica back.loan)) s.wishes.items (with_items s.wishes c.note_fault.new.wishes).items) c.place_of.ensures
    (subst (λ (b : Bool). NotesFault c.place_of.result (stop_in back.lease.thread back.loan) b s.wishes.items (with_items s.wishes c.note_fault.new.wishes).items) matches
    (subst (λ (ws : List Wish). NotesFault c.place_of.result (stop_in back.lease.thread back.loan) c.match-matches.matches s.wishes.items ws) (sym wishes)
    (subst (λ (ws : List Wish). NotesFault c.place_of.result (stop_in back.lease.thread back.loan) c.match-matches.matches ws c.note_fault.new.wishes) c.as_mut_slice.ensures.value c.note_fault.ensures))) in
    let room = put-room f h (silent s) back refl refl may in
    put-holds f h (silent s) back refl refl may _ c.in-Whole.replica true (record { job = refl; kernel = refl; blocked = refl; unblocked = refl; calm = refl; steps = refl; scrubbed = refl; waits = refl; sent = refl; due = refl; ended = refl; views = refl }) refl
    (c.push_reserved.ensures.items ∙ ap (λ (e : Entry). f.journal ++ e ∷ []) c.return_of-entry.ensures) c.forget_lease.ensures.items
    (put-noted f h (silent s) back refl refl may _ noted) h.lanes_are
    (subst (AreSeated f.job (after f.job (core_in f) (return_of (core_in f) back))) (sym c.come_home.ensures.homes) (whole-seated f h (silent s) back refl refl may c.in-Whole.replica brings))
    (ap (λ (xs : List (Option ReplicaOf)). length xs) c.come_home.ensures.homes ∙ length-set f.seats back.lease.replica (Some c.in-Whole.replica))
    (replica_of c.in-Whole.replica) brings.became c.come_home.ensures.groups
    (omega (arith, room, c.push_reserved.ensures.len, c.push_reserved.ensures.capacity))

pub returns-in-Whole-clause-output : goal.returns-in-Whole-clause-output
returns-in-Whole-clause-output c =
    let f : Fields = fields_of c.args.self.now in
    ap (output_of f.job) (c.push_reserved.ensures.items ∙ ap (λ (e : Entry). f.journal ++ e ∷ []) c.return_of-entry.ensures) ∙ put-output f c.requires.holds (silent c.args.self.now) c.args.back refl refl c.requires.returns

pub returns-after-missed-clause-holds : goal.returns-after-missed-clause-holds
returns-after-missed-clause-holds c =
    let s = c.args.self.now in
    let f : Fields = fields_of s in
    let h = c.requires.holds in
    let back = c.args.back in
    let may = c.requires.returns in
    let lane = c.in-Part-loan.lane in
    let brings = subst (λ (l : Loan). Brings (silent s) back l) c.in-Part-loan.is may.brings in
    let matches : c.match-matches.matches ≡ is_some (wanted_of (state_of s) back.lease.replica back.loan) = elim c.match-matches.branch [
      | in-Part w ↦ w.matches-is ∙ sym (part-told (state_of s) back w.in-Part.lease w.in-Part.count w.in-Part.hit (sym c.return_of-entry.ensures ∙ w.in-Part.is))
      | in_default w ↦ w.matches-is ∙ sym (put-told (state_of s) back (λ lease count hit e. w.in_default.not-Part lease count hit (c.return_of-entry.ensures ∙ e)))
    ] in
    let stop : c.if-missed.stop ≡ stop_behind (state_of s) back = elim c.if-missed.branch [
      | then-missed w ↦ w.stop-is ∙ ap (λ (b : Bool). cond b None (stop_in back.lease.thread back.loan)) (sym w.if-missed.true ∙ matches)
      | else-missed w ↦ w.stop-is ∙ w.stop-stop.ensures ∙ ap (stop_in back.lease.thread) (sym c.in-Part-loan.is) ∙ ap (λ (b : Bool). cond b None (stop_in back.lease.thread back.loan)) (sym w.if-missed.false ∙ matches)
    ] in
    let wishes = with_items_is s.wishes c.note_fault.new.wishes (c.note_fault.ensures.count ∙ c.as_mut_slice.ensures.len) in
    let noted =
    subst (λ (place : ℕ). NotesFault place (stop_in back.lease.thread back.loan) (is_some (wanted_of (state_of s) back.lease.replica back.loan)) s.wishes.items (with_items s.wishes c.note_fault.new.wishes).items) c.place_of.ensures
    (subst (λ (b : Bool). NotesFault c.place_of.result (stop_in back.lease.thread back.loan) b s.wishes.items (with_items s.wishes c.note_fault.new.wishes).items) matches
    (subst (λ (ws : List Wish). NotesFault c.place_of.result (stop_in back.lease.thread back.loan) c.match-matches.matches s.wishes.items ws) (sym wishes)
    (subst (λ (ws : List Wish). NotesFault c.place_of.result (stop_in back.lease.thread back.loan) c.match-matches.matches ws c.note_fault.new.wishes) c.as_mut_slice.ensures.value c.note_fault.ensures))) in
    let room = put-room f h (silent s) back refl refl may in
    let home = part-home f h (silent s) back refl refl may lane brings in
    let put = c.take_back.ensures.homes home.0 home.1 in
    let takes = subst (λ (o : Option Stop). TakesBack back.lease.thread lane o home.0 put.0) stop put.2 in
    let stood : is_some c.if-missed.stop ≡ is_some (stop_of (put_back back.lease.thread (has_page lane.held.pages) (memory_of lane.held.pages) lane.thread (stop_behind (state_of s) back) brings.replica) back.lease.thread) =
    ap is_some (stop ∙ sym (part-stop f h (silent s) back refl refl may lane brings (stop_behind (state_of s) back))) in
    let spare = part-spare f h (silent s) back refl refl may lane brings in
    subst Holds (sym c.take_back.ensures.rest)
    (put-holds f h (silent s) back refl refl may _ home.0 true (record { job = refl; kernel = refl; blocked = refl; unblocked = refl; calm = refl; steps = refl; scrubbed = refl; waits = refl; sent = refl; due = refl; ended = refl; views = refl }) refl
    (c.push_reserved.ensures.items ∙ ap (λ (e : Entry). f.journal ++ e ∷ []) c.return_of-entry.ensures) c.forget_lease.ensures.items
    (put-noted f h (silent s) back refl refl may _ noted) (c.take_back.ensures.lanes f.job.program.image spare.0 spare.1 h.lanes_are)
    (subst (AreSeated f.job (after f.job (core_in f) (return_of (core_in f) back))) (sym put.1) (part-seated f h (silent s) back refl refl may lane brings home.0 put.0 home.1 takes))
    (ap (λ (xs : List (Option ReplicaOf)). length xs) put.1 ∙ length-set f.seats back.lease.replica (Some put.0))
    _ brings.became (subst (λ (b : Bool). Returns back.lease.replica back.lease.thread b f.groups c.take_back.new.self.seats.groups) stood c.take_back.ensures.groups)
    (omega (arith, room, c.push_reserved.ensures.len, c.push_reserved.ensures.capacity)))

pub returns-after-missed-clause-output : goal.returns-after-missed-clause-output
returns-after-missed-clause-output c =
    let f : Fields = fields_of c.args.self.now in
    ap (λ (x : Fields). output_of x.job x.journal) c.take_back.ensures.rest
    ∙ ap (output_of f.job) (c.push_reserved.ensures.items ∙ ap (λ (e : Entry). f.journal ++ e ∷ []) c.return_of-entry.ensures) ∙ put-output f c.requires.holds (silent c.args.self.now) c.args.back refl refl c.requires.returns
