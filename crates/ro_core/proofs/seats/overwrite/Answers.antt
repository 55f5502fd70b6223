use Rattle.std.proofs.Common.{◌≡◌, ◌<◌, Some, None, length, get_or, sym, ap, ◌∙◌, subst, arith}
use Rattle.std.specs.Prelude.{slice_set}
use Rattle.std.proofs.lemmas.List.{length-set}
use Rattle.std.proofs.lemmas.Option.{slice_get_within}
use Rattle.ro_plain.proofs.Calls.{some-injective}
use Rattle.ro_replica.specs.Seen.{ReplicaOf, AreTwins}
use Rattle.ro_legal.specs.Event.{with_copy}
use Rattle.ro_core.specs.Fields.{AreHome, AreSpared, AreAllTwins, IsSeat}
use Rattle.ro_core.proofs.Sitting.{loser-there, recovery-home, recovery-spared, recovery-seats, recovery-twins}
use Rattle.ro_core.proofs.seats.overwrite.Goals as goal

pub recover_in-requires-clause-there : goal.recover_in-requires-clause-there
recover_in-requires-clause-there c =
    let w = c.leave-winner.ensures.replica in
    let l = c.requires.loser in
    let there = subst (λ xs. get_or xs c.args.lost c.index-seats-lost.result ≡ Some l.0) (sym c.leave-winner.ensures.seats) (loser-there c.args.seats.now c.args.won c.args.lost l.0 c.index-seats-lost.result c.requires.differ l.1) in
    (l.0, there)

pub recover_in-requires-clause-twins : goal.recover_in-requires-clause-twins
recover_in-requires-clause-twins c value e =
    let w = c.leave-winner.ensures.replica in
    let l = c.requires.loser in
    let there = subst (λ xs. get_or xs c.args.lost c.index-seats-lost.result ≡ Some l.0) (sym c.leave-winner.ensures.seats) (loser-there c.args.seats.now c.args.won c.args.lost l.0 c.index-seats-lost.result c.requires.differ l.1) in
    subst (λ (v : ReplicaOf). AreTwins c.leave-winner.result v) (some-injective (sym there ∙ e)) (c.requires.twins c.args.won c.args.lost c.leave-winner.result l.0 w l.1)

pub come_home-requires : goal.come_home-requires
come_home-requires c =
    let less : c.args.won < length c.args.seats.now = slice_get_within c.args.seats.now c.args.won (Some c.leave-winner.result) c.leave-winner.ensures.replica in
    omega (arith, less, length-set c.leave-winner.new.seats c.args.lost c.recover_in.new.seat, ap (λ xs. length xs) c.leave-winner.ensures.seats, length-set c.args.seats.now c.args.won None)

pub returns-clause-recovered : goal.returns-clause-recovered
returns-clause-recovered c job kernel replicas home =
    let w = c.leave-winner.ensures.replica in
    let l = c.requires.loser in
    let there = subst (λ xs. get_or xs c.args.lost c.index-seats-lost.result ≡ Some l.0) (sym c.leave-winner.ensures.seats) (loser-there c.args.seats.now c.args.won c.args.lost l.0 c.index-seats-lost.result c.requires.differ l.1) in
    let r = c.recover_in.ensures l.0 there in
    let final : c.come_home.new.seats ≡ slice_set (slice_set (slice_set c.args.seats.now c.args.won None) c.args.lost (Some r.0)) c.args.won (Some c.leave-winner.result) =
    c.come_home.ensures ∙ ap (λ seat. slice_set (slice_set c.leave-winner.new.seats c.args.lost seat) c.args.won (Some c.leave-winner.result)) r.1
    ∙ ap (λ xs. slice_set (slice_set xs c.args.lost (Some r.0)) c.args.won (Some c.leave-winner.result)) c.leave-winner.ensures.seats
    in
    subst (λ xs. AreHome job kernel xs (with_copy c.args.won c.args.lost replicas)) (sym final)
    (recovery-home job kernel c.args.seats.now replicas c.args.won c.args.lost c.leave-winner.result l.0 r.0 c.requires.differ w l.1 r.2 home)

pub returns-clause-spared : goal.returns-clause-spared
returns-clause-spared c spared =
    let w = c.leave-winner.ensures.replica in
    let l = c.requires.loser in
    let there = subst (λ xs. get_or xs c.args.lost c.index-seats-lost.result ≡ Some l.0) (sym c.leave-winner.ensures.seats) (loser-there c.args.seats.now c.args.won c.args.lost l.0 c.index-seats-lost.result c.requires.differ l.1) in
    let r = c.recover_in.ensures l.0 there in
    let final : c.come_home.new.seats ≡ slice_set (slice_set (slice_set c.args.seats.now c.args.won None) c.args.lost (Some r.0)) c.args.won (Some c.leave-winner.result) =
    c.come_home.ensures ∙ ap (λ seat. slice_set (slice_set c.leave-winner.new.seats c.args.lost seat) c.args.won (Some c.leave-winner.result)) r.1
    ∙ ap (λ xs. slice_set (slice_set xs c.args.lost (Some r.0)) c.args.won (Some c.leave-winner.result)) c.leave-winner.ensures.seats
    in
    subst AreSpared (sym final) (recovery-spared c.args.seats.now c.args.won c.args.lost c.leave-winner.result l.0 r.0 c.requires.differ w l.1 r.2 spared)

pub returns-clause-seats : goal.returns-clause-seats
returns-clause-seats c place seat =
    let w = c.leave-winner.ensures.replica in
    let l = c.requires.loser in
    let there = subst (λ xs. get_or xs c.args.lost c.index-seats-lost.result ≡ Some l.0) (sym c.leave-winner.ensures.seats) (loser-there c.args.seats.now c.args.won c.args.lost l.0 c.index-seats-lost.result c.requires.differ l.1) in
    let r = c.recover_in.ensures l.0 there in
    let final : c.come_home.new.seats ≡ slice_set (slice_set (slice_set c.args.seats.now c.args.won None) c.args.lost (Some r.0)) c.args.won (Some c.leave-winner.result) =
    c.come_home.ensures ∙ ap (λ seat. slice_set (slice_set c.leave-winner.new.seats c.args.lost seat) c.args.won (Some c.leave-winner.result)) r.1
    ∙ ap (λ xs. slice_set (slice_set xs c.args.lost (Some r.0)) c.args.won (Some c.leave-winner.result)) c.leave-winner.ensures.seats
    in
    subst (λ xs. IsSeat xs place) (sym final) (recovery-seats c.args.seats.now c.args.won c.args.lost c.leave-winner.result l.0 r.0 c.requires.differ w l.1 place seat)

pub returns-clause-twins : goal.returns-clause-twins
returns-clause-twins c =
    let w = c.leave-winner.ensures.replica in
    let l = c.requires.loser in
    let there = subst (λ xs. get_or xs c.args.lost c.index-seats-lost.result ≡ Some l.0) (sym c.leave-winner.ensures.seats) (loser-there c.args.seats.now c.args.won c.args.lost l.0 c.index-seats-lost.result c.requires.differ l.1) in
    let r = c.recover_in.ensures l.0 there in
    let final : c.come_home.new.seats ≡ slice_set (slice_set (slice_set c.args.seats.now c.args.won None) c.args.lost (Some r.0)) c.args.won (Some c.leave-winner.result) =
    c.come_home.ensures ∙ ap (λ seat. slice_set (slice_set c.leave-winner.new.seats c.args.lost seat) c.args.won (Some c.leave-winner.result)) r.1
    ∙ ap (λ xs. slice_set (slice_set xs c.args.lost (Some r.0)) c.args.won (Some c.leave-winner.result)) c.leave-winner.ensures.seats
    in
    subst AreAllTwins (sym final) (recovery-twins c.args.seats.now c.args.won c.args.lost c.leave-winner.result l.0 r.0 c.requires.differ w l.1 r.2 c.requires.twins)
