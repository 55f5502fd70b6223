use Rattle.std.proofs.Common.{◌<◌, List, length, refl, sym, ap, ◌∙◌, subst, arith}
use Rattle.std.specs.Prelude.{slice_get, slice_set}
use Rattle.ro_legal.specs.Cooperative.{replay}
use Rattle.ro_coop_core.specs.declared.seats.Seat.{Seat}
use Rattle.ro_coop_core.specs.Fields.{Fields, core_in}
use Rattle.ro_coop_core.specs.Runs.{fields_of}
use Rattle.ro_coop_core.specs.Seats.{KnowEach}
use Rattle.ro_coop_core.proofs.Takes.{spare_parts, read-seat, take-within, take-here, take-leaves, take-holds, take-few, take-known, take-count, take-left, take-lent, take-output}
use Rattle.ro_coop_core.proofs.cores.Core.take.Goals as goal

pub index_mut-requires : goal.index_mut-requires
index_mut-requires c = omega (arith, take-within (fields_of c.args.self.now) c.requires.holds c.args.lease c.requires.allowed, c.args.self.now.seats.ok.0)

pub leave-partner-requires : goal.leave-partner-requires
leave-partner-requires c =
    let f : Fields = fields_of c.args.self.now in
    let there = read-seat f.seats c.args.lease.replica c.index_mut.result.now (take-within f c.requires.holds c.args.lease c.requires.allowed) c.index_mut.ensures.value in
    take-here f c.requires.holds c.args.lease c.requires.allowed c.index_mut.result.now there

pub limit-requires : goal.limit-requires
limit-requires c =
    let f : Fields = fields_of c.args.self.now in
    let h = c.requires.holds in
    let there = read-seat f.seats c.args.lease.replica c.index_mut.result.now (take-within f h c.args.lease c.requires.allowed) c.index_mut.ensures.value in
    let leaves = take-leaves f h c.args.lease c.requires.allowed c.index_mut.result.now c.leave-partner.result there c.leave-partner.ensures.partner in
    let left = c.as_slice.ensures.value ∙ ap (slice_set f.seats c.args.lease.replica) c.leave-partner.ensures.seat in
    record {
      place = subst (λ (seats : List Seat). c.args.lease.replica < length seats) (sym left) (take-left f h c.args.lease c.requires.allowed c.index_mut.result.now c.leave-partner.result leaves there);
      few = take-few f h c.args.lease c.requires.allowed c.index_mut.result.now c.leave-partner.result leaves there;
      count = take-count f h c.args.lease c.requires.allowed c.index_mut.result.now c.leave-partner.result leaves there;
      known = ((core_in f).sides, subst (λ (seats : List Seat). KnowEach (core_in f).sides seats c.leave-partner.result.peer.mutexes) (sym left) (take-known f h c.args.lease c.requires.allowed c.index_mut.result.now c.leave-partner.result leaves there));
    }

pub returns-clause-holds : goal.returns-clause-holds
returns-clause-holds c =
    let f : Fields = fields_of c.args.self.now in
    let h = c.requires.holds in
    let parts = spare_parts _ f.places f.lease_places c.requires.room in
    let same = ap length h.leases_are in
    let there = read-seat f.seats c.args.lease.replica c.index_mut.result.now (take-within f h c.args.lease c.requires.allowed) c.index_mut.ensures.value in
    take-holds f h c.args.lease c.requires.allowed _ c.index_mut.result.now there
    (record { job = refl; kernel = refl; cooperates = refl; blocked = refl; waits = refl; sent = refl; due = refl; ended = refl; views = refl }) refl refl refl
    c.push_reserved.ensures.items c.note_lease.ensures.items
    (ap (slice_set f.seats c.args.lease.replica) c.leave-partner.ensures.seat)
    (omega (arith, parts.0, same, c.push_reserved.ensures.len, c.push_reserved.ensures.capacity))

pub returns-clause-output : goal.returns-clause-output
returns-clause-output c =
    let f : Fields = fields_of c.args.self.now in
    ap (λ js. (replay f.job js).output) c.push_reserved.ensures.items ∙ take-output f.job f.journal c.args.lease

pub returns-clause-lent : goal.returns-clause-lent
returns-clause-lent c =
    let f : Fields = fields_of c.args.self.now in
    let h = c.requires.holds in
    let there = read-seat f.seats c.args.lease.replica c.index_mut.result.now (take-within f h c.args.lease c.requires.allowed) c.index_mut.ensures.value in
    let leaves = take-leaves f h c.args.lease c.requires.allowed c.index_mut.result.now c.leave-partner.result there c.leave-partner.ensures.partner in
    let left = c.as_slice.ensures.value ∙ ap (slice_set f.seats c.args.lease.replica) c.leave-partner.ensures.seat in
    take-lent f h c.args.lease c.requires.allowed c.index_mut.result.now c.leave-partner.result leaves there c.limit.new.self c.limit.ensures.peer c.limit.ensures.count
    (λ core side s same know at parks. c.limit.ensures.ceilings core side s same
    (subst (λ (seats : List Seat). KnowEach core.sides seats side.mutexes) (sym left) know)
    (ap (λ (seats : List Seat). slice_get seats c.args.lease.replica) left ∙ at) parks)
