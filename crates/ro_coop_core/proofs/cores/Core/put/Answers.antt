use Rattle.std.proofs.Common.{◌∷◌, ◌++◌, [], refl, sym, ap, ◌∙◌, arith}
use Rattle.std.specs.Prelude.{◌==◌, slice_set}
use Rattle.std.specs.List.{find}
use Rattle.ro_journal.specs.declared.Lease.{Lease}
use Rattle.ro_legal.specs.Cooperative.{replay}
use Rattle.ro_coop_core.specs.Seen.{return_of, parking_at}
use Rattle.ro_coop_core.specs.Fields.{Fields}
use Rattle.ro_coop_core.specs.Runs.{fields_of}
use Rattle.ro_coop_core.proofs.Returns.{same-lease, returned, entry-by, same-parking, back-within, seat-read, few-threads, seat-known, seat-counted, steps-counted, put-holds, put-output}
use Rattle.ro_coop_core.proofs.cores.Core.put.Goals as goal

pub index_mut-requires : goal.index_mut-requires
index_mut-requires c =
    let f : Fields = fields_of c.args.self.now in
    let h = c.requires.holds in
    let found = ap (find (λ (l : Lease). l.driver == c.args.driver)) (sym c.as_slice.ensures.value) ∙ sym c.in-Some.ensures in
    let r = returned f h c.args.driver c.args.partner c.args.count c.args.came c.requires.returns c.in-Some.lease found in
    omega (arith, back-within f h c.in-Some.lease c.args.partner c.args.count c.args.came r, c.args.self.now.seats.ok.0)

pub come_home-done-requires-clause-thread : goal.come_home-done-requires-clause-thread
come_home-done-requires-clause-thread c =
    let f : Fields = fields_of c.args.self.now in
    let h = c.requires.holds in
    let found = ap (find (λ (l : Lease). l.driver == c.args.driver)) (sym c.as_slice.ensures.value) ∙ sym c.in-Some.ensures in
    let r = returned f h c.args.driver c.args.partner c.args.count c.args.came c.requires.returns c.in-Some.lease found in
    few-threads f h c.in-Some.lease c.args.partner c.args.count c.args.came r

pub come_home-done-requires-clause-known : goal.come_home-done-requires-clause-known
come_home-done-requires-clause-known c =
    let f : Fields = fields_of c.args.self.now in
    let h = c.requires.holds in
    let found = ap (find (λ (l : Lease). l.driver == c.args.driver)) (sym c.as_slice.ensures.value) ∙ sym c.in-Some.ensures in
    let r = returned f h c.args.driver c.args.partner c.args.count c.args.came c.requires.returns c.in-Some.lease found in
    let there = seat-read f h c.in-Some.lease c.args.partner c.args.count c.args.came r c.index_mut.result.now c.index_mut.ensures.value in
    seat-known f h c.in-Some.lease c.args.partner c.args.count c.args.came r c.index_mut.result.now there

pub come_home-done-requires-clause-counted : goal.come_home-done-requires-clause-counted
come_home-done-requires-clause-counted c =
    let f : Fields = fields_of c.args.self.now in
    let h = c.requires.holds in
    let found = ap (find (λ (l : Lease). l.driver == c.args.driver)) (sym c.as_slice.ensures.value) ∙ sym c.in-Some.ensures in
    let r = returned f h c.args.driver c.args.partner c.args.count c.args.came c.requires.returns c.in-Some.lease found in
    let there = seat-read f h c.in-Some.lease c.args.partner c.args.count c.args.came r c.index_mut.result.now c.index_mut.ensures.value in
    seat-counted f h c.in-Some.lease c.args.partner c.args.count c.args.came r c.index_mut.result.now there

pub bounds-self-lease : goal.bounds-self-lease
bounds-self-lease c =
    let f : Fields = fields_of c.args.self.now in
    let h = c.requires.holds in
    let found = ap (find (λ (l : Lease). l.driver == c.args.driver)) (sym c.as_slice.ensures.value) ∙ sym c.in-Some.ensures in
    let r = returned f h c.args.driver c.args.partner c.args.count c.args.came c.requires.returns c.in-Some.lease found in
    few-threads f h c.in-Some.lease c.args.partner c.args.count c.args.came r

pub note_done-requires : goal.note_done-requires
note_done-requires c =
    let f : Fields = fields_of c.args.self.now in
    let h = c.requires.holds in
    let found = ap (find (λ (l : Lease). l.driver == c.args.driver)) (sym c.as_slice.ensures.value) ∙ sym c.in-Some.ensures in
    let r = returned f h c.args.driver c.args.partner c.args.count c.args.came c.requires.returns c.in-Some.lease found in
    let there = seat-read f h c.in-Some.lease c.args.partner c.args.count c.args.came r c.index_mut.result.now c.index_mut.ensures.value in
    steps-counted f h c.in-Some.lease c.args.partner c.args.count c.args.came r c.index_mut.result.now there c.come_home-done.result c.come_home-done.ensures.result

pub returns-clause-holds : goal.returns-clause-holds
returns-clause-holds c =
    let f : Fields = fields_of c.args.self.now in
    let h = c.requires.holds in
    let lease : Lease = c.in-Some.lease in
    let found = ap (find (λ (l : Lease). l.driver == c.args.driver)) (sym c.as_slice.ensures.value) ∙ sym c.in-Some.ensures in
    let r = returned f h c.args.driver c.args.partner c.args.count c.args.came c.requires.returns lease found in
    let there = seat-read f h lease c.args.partner c.args.count c.args.came r c.index_mut.result.now c.index_mut.ensures.value in
    let parking = c.parking_at-parking.ensures ∙ ap (λ ms. parking_at ms c.args.came) c.mutexes.ensures in
    let entry = entry-by lease c.args.count c.args.partner.peer.mutexes c.args.came c.requires.returns.within c.parking_at-parking.result parking c.return_of.result c.return_of.ensures.elsewhere c.return_of.ensures.waits in
    put-holds f h lease c.args.partner c.args.count c.args.came r _ c.index_mut.result.now c.come_home-done.new.self c.come_home-done.result there
    (record { job = refl; kernel = refl; cooperates = refl; blocked = refl; waits = refl; sent = refl; due = refl; ended = refl; views = refl }) refl
    (c.push_reserved.ensures.items ∙ ap (λ e. f.journal ++ e ∷ []) entry)
    c.forget_lease.ensures.items refl c.come_home-done.ensures.result c.note_done.ensures.steps
    (ap (slice_set f.most_done lease.thread) c.note_done.ensures.most)
    c.come_home-done.ensures.home
    (c.come_home-done.ensures.parked ∙ ap (slice_set c.index_mut.result.now.parked lease.thread) (parking ∙ same-parking f h lease c.args.partner c.args.count c.args.came r))
    (c.come_home-done.ensures.done ∙ ap (slice_set c.index_mut.result.now.done lease.thread) c.come_home-done.ensures.result)
    c.come_home-done.ensures.takers
    (omega (arith, c.push_reserved.ensures.len, c.push_reserved.ensures.capacity))

pub returns-clause-entry : goal.returns-clause-entry
returns-clause-entry c lease of_driver =
    let f : Fields = fields_of c.args.self.now in
    let found = ap (find (λ (l : Lease). l.driver == c.args.driver)) (sym c.as_slice.ensures.value) ∙ sym c.in-Some.ensures in
    let same = same-lease f c.requires.holds c.args.driver lease c.in-Some.lease of_driver found in
    let parking = c.parking_at-parking.ensures ∙ ap (λ ms. parking_at ms c.args.came) c.mutexes.ensures in
    let entry = entry-by c.in-Some.lease c.args.count c.args.partner.peer.mutexes c.args.came c.requires.returns.within c.parking_at-parking.result parking c.return_of.result c.return_of.ensures.elsewhere c.return_of.ensures.waits in
    record { job = refl; journal = c.push_reserved.ensures.items ∙ ap (λ e. f.journal ++ e ∷ []) (entry ∙ ap (λ (l : Lease). return_of l c.args.count c.args.came) (sym same)) }

pub returns-clause-output : goal.returns-clause-output
returns-clause-output c =
    let f : Fields = fields_of c.args.self.now in
    let h = c.requires.holds in
    let found = ap (find (λ (l : Lease). l.driver == c.args.driver)) (sym c.as_slice.ensures.value) ∙ sym c.in-Some.ensures in
    let r = returned f h c.args.driver c.args.partner c.args.count c.args.came c.requires.returns c.in-Some.lease found in
    let parking = c.parking_at-parking.ensures ∙ ap (λ ms. parking_at ms c.args.came) c.mutexes.ensures in
    let entry = entry-by c.in-Some.lease c.args.count c.args.partner.peer.mutexes c.args.came c.requires.returns.within c.parking_at-parking.result parking c.return_of.result c.return_of.ensures.elsewhere c.return_of.ensures.waits in
    ap (λ js. (replay f.job js).output) (c.push_reserved.ensures.items ∙ ap (λ e. f.journal ++ e ∷ []) entry) ∙ put-output f h c.in-Some.lease c.args.partner c.args.count c.args.came r
