use Rattle.std.proofs.Common.{ℕ, List, Option, None, length, refl, sym, ap, ◌∙◌, subst, arith}
use Rattle.std.proofs.lemmas.List.{length-set, with_items_is}
use Rattle.arrayvec.specs.ArrayVec.{ArrayVec}
use Rattle.ro_replica.specs.Seen.{ReplicaOf}
use Rattle.ro_legal.specs.Legal.{core_after_take}
use Rattle.ro_core.specs.Fields.{AreSeated, Fields, core_in, lent_at}
use Rattle.ro_core.specs.Runs.{fields_of, silent}
use Rattle.ro_core.proofs.Takes.{spare_parts, take-holds, take-noted, take-seat, whole-lent, whole-seated}
use Rattle.ro_core.proofs.cores.Core.lend_whole.Goals as goal

pub push_reserved-requires : goal.push_reserved-requires
push_reserved-requires c = let f = fields_of c.args.self.now in let parts = spare_parts _ f.places f.lease_places _ c.requires.room in omega (arith, parts.0)

pub note_lease-requires : goal.note_lease-requires
note_lease-requires c = let f = fields_of c.args.self.now in let parts = spare_parts _ f.places f.lease_places _ c.requires.room in omega (arith, parts.1)

pub leave-requires : goal.leave-requires
leave-requires c = take-seat (fields_of c.args.self.now) c.requires.holds c.args.lease c.requires.allowed

pub returns-clause-holds : goal.returns-clause-holds
returns-clause-holds c =
    let f : Fields = fields_of c.args.self.now in
    let h = c.requires.holds in
    let lease = c.args.lease in
    let parts = spare_parts _ f.places f.lease_places _ c.requires.room in
    let same = ap length h.leases_are in
    let items = with_items_is c.args.self.now.lent c.note_whole.new.lent (c.note_whole.ensures.count ∙ c.as_mut_slice.ensures.len) in
    take-holds f h lease c.requires.allowed _ (record { job = refl; kernel = refl; blocked = refl; unblocked = refl; calm = refl; steps = refl; scrubbed = refl; waits = refl; sent = refl; due = refl; ended = refl; views = refl }) refl
    c.push_reserved.ensures.items c.note_lease.ensures.items
    (take-noted f h lease c.requires.allowed _ (ap length items ∙ c.note_whole.ensures.count ∙ ap length c.as_mut_slice.ensures.value)
    (λ other apart. ap (λ (xs : List (Option (ArrayVec ℕ))). lent_at xs other) items ∙ c.note_whole.ensures.others other apart ∙ ap (λ (xs : List (Option (ArrayVec ℕ))). lent_at xs other) c.as_mut_slice.ensures.value)
    (ap (λ (xs : List (Option (ArrayVec ℕ))). lent_at xs lease.driver) items ∙ c.note_whole.ensures.noted ∙ sym c.requires.whole))
    h.lanes_are
    (subst (AreSeated f.job (core_after_take (core_in f) lease)) (sym c.leave.ensures.homes) (whole-seated f h lease c.requires.allowed c.requires.whole))
    (ap (λ (xs : List (Option ReplicaOf)). length xs) c.leave.ensures.homes ∙ length-set f.seats lease.replica None) c.leave.ensures.groups
    (omega (arith, parts.0, same, c.push_reserved.ensures.len, c.push_reserved.ensures.capacity))

pub returns-clause-lent : goal.returns-clause-lent
returns-clause-lent c =
    whole-lent (fields_of c.args.self.now) c.requires.holds c.args.lease c.requires.allowed (silent c.args.self.now) refl refl c.requires.whole c.leave.result c.leave.ensures.replica (omega (arith, c.args.self.now.journal.ok.0))
