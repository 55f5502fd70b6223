use Rattle.std.proofs.Common.{Some, length, refl, ap, ◌∙◌}
use Rattle.std.proofs.lemmas.Option.{slice_get_read}
use Rattle.ro_core.proofs.scrubbing.are_same.Goals as goal

pub is_same-requires : goal.is_same-requires
is_same-requires c value another e f =
    let one = slice_get_read c.args.seats.now (length c.args.seats.now) c.args.one c.index-seats-one.result refl c.requires.one c.index-seats-one.is in
    let other = slice_get_read c.args.seats.now (length c.args.seats.now) c.args.other c.index-seats-other.result refl c.requires.other c.index-seats-other.is in
    c.requires.twins c.args.one c.args.other value another (one ∙ ap Some e) (other ∙ ap Some f)
