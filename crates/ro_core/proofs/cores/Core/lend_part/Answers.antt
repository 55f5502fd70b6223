use Rattle.std.proofs.Common.{ℕ, List, Option, Some, true≢false, length, refl, sym, ap, ◌∙◌, subst, arith}
use Rattle.std.specs.Prelude.{is_some}
use Rattle.std.proofs.lemmas.List.{length-set, with_items_is}
use Rattle.arrayvec.specs.ArrayVec.{ArrayVec}
use Rattle.ro_replica.specs.Lent.{IsSpareLane}
use Rattle.ro_replica.specs.Seen.{ReplicaOf}
use Rattle.ro_legal.specs.Legal.{core_after_take}
use Rattle.ro_core.specs.Fields.{AreSeated, Fields, core_in, lent_at}
use Rattle.ro_core.specs.Runs.{fields_of, silent}
use Rattle.ro_core.specs.Seated.{CanLend, LendsPages}
use Rattle.ro_core.proofs.Going.{all-but-last, lanes-here}
use Rattle.ro_core.proofs.Takes.{part-can, part-lent, part-seated, spare_parts, take-holds, take-home, take-noted, take-seat}
use Rattle.ro_core.proofs.cores.Core.lend_part.Goals as goal

pub unreachable-requires : goal.unreachable-requires
unreachable-requires c =
    let f = fields_of c.args.self.now in
    let parts = spare_parts _ f.places f.lease_places _ c.requires.room in
    let some = lanes-here f c.requires.lends parts.2 in
    let there = c.pop.ensures.variant.1 (omega (arith, some, c.args.self.now.lanes.ok.0)) in
    true≢false (sym there ∙ ap is_some c.in_default.is)

pub push_reserved-requires : goal.push_reserved-requires
push_reserved-requires c = let f = fields_of c.args.self.now in let parts = spare_parts _ f.places f.lease_places _ c.requires.room in omega (arith, parts.0)

pub note_lease-requires : goal.note_lease-requires
note_lease-requires c = let f = fields_of c.args.self.now in let parts = spare_parts _ f.places f.lease_places _ c.requires.room in omega (arith, parts.1)

pub lend_pages-requires-clause-home : goal.lend_pages-requires-clause-home
lend_pages-requires-clause-home c = take-seat (fields_of c.args.self.now) c.requires.holds c.args.lease c.requires.allowed

pub lend_pages-requires-clause-can : goal.lend_pages-requires-clause-can
lend_pages-requires-clause-can c value there =
    let f : Fields = fields_of c.args.self.now in
    let spare = all-but-last (IsSpareLane f.job.program.image) c.pop.new.self.items c.in-Some.lane f.lanes c.in-Some.ensures.items c.requires.holds.lanes_are in
    subst (λ (pages : List ℕ). CanLend c.args.lease.thread pages c.in-Some.lane value) (sym c.as_slice.ensures.value)
    (part-can f c.requires.holds c.args.lease c.requires.allowed c.args.pages.items c.requires.pages c.in-Some.lane spare.1 (omega (arith, c.as_slice.ensures.fits, ap length c.as_slice.ensures.value)) value there)

pub returns-clause-holds : goal.returns-clause-holds
returns-clause-holds c =
    let f : Fields = fields_of c.args.self.now in
    let h = c.requires.holds in
    let lease = c.args.lease in
    let parts = spare_parts _ f.places f.lease_places _ c.requires.room in
    let same = ap length h.leases_are in
    let items = with_items_is c.args.self.now.lent c.note_lent.new.lent (c.note_lent.ensures.count ∙ c.as_mut_slice.ensures.len) in
    let spare = all-but-last (IsSpareLane f.job.program.image) c.pop.new.self.items c.in-Some.lane f.lanes c.in-Some.ensures.items h.lanes_are in
    let home = take-home f h lease c.requires.allowed in
    let after = c.lend_pages.ensures.homes home.0 home.1 in
    let lends = subst (λ (pages : List ℕ). LendsPages lease.thread pages home.0 after.0 c.lend_pages.new.lane) c.as_slice.ensures.value after.2 in
    let drivers = (h.noted.1 c.requires.lends).1 in
    let own = c.note_lent.ensures.noted (omega (arith, c.requires.allowed.driver_exists, drivers, ap length c.as_mut_slice.ensures.value)) in
    take-holds f h lease c.requires.allowed _ (record { job = refl; kernel = refl; blocked = refl; unblocked = refl; calm = refl; steps = refl; scrubbed = refl; waits = refl; sent = refl; due = refl; ended = refl; views = refl }) refl
    c.push_reserved.ensures.items c.note_lease.ensures.items
    (take-noted f h lease c.requires.allowed _ (ap length items ∙ c.note_lent.ensures.count ∙ ap length c.as_mut_slice.ensures.value)
    (λ other apart. ap (λ (xs : List (Option (ArrayVec ℕ))). lent_at xs other) items ∙ c.note_lent.ensures.others other apart ∙ ap (λ (xs : List (Option (ArrayVec ℕ))). lent_at xs other) c.as_mut_slice.ensures.value)
    (ap (λ (xs : List (Option (ArrayVec ℕ))). lent_at xs lease.driver) items ∙ own ∙ sym c.requires.pages))
    spare.0
    (subst (AreSeated f.job (core_after_take (core_in f) lease)) (sym after.1) (part-seated f h lease c.requires.allowed c.args.pages.items c.requires.pages home.0 after.0 home.1 c.lend_pages.new.lane lends))
    (ap (λ (xs : List (Option ReplicaOf)). length xs) after.1 ∙ length-set f.seats lease.replica (Some after.0)) c.lend_pages.ensures.groups
    (omega (arith, parts.0, same, c.push_reserved.ensures.len, c.push_reserved.ensures.capacity))

pub returns-clause-lent : goal.returns-clause-lent
returns-clause-lent c =
    let f : Fields = fields_of c.args.self.now in
    let h = c.requires.holds in
    let lease = c.args.lease in
    let home = take-home f h lease c.requires.allowed in
    let after = c.lend_pages.ensures.homes home.0 home.1 in
    let lends = subst (λ (pages : List ℕ). LendsPages lease.thread pages home.0 after.0 c.lend_pages.new.lane) c.as_slice.ensures.value after.2 in
    part-lent f h lease c.requires.allowed c.args.pages.items c.requires.pages (silent c.args.self.now) refl refl home.0 after.0 home.1 c.lend_pages.new.lane lends (omega (arith, c.args.self.now.journal.ok.0))
