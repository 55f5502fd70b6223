use Rattle.std.proofs.Common.{arith, ap, sym, ◌∙◌, ◌≡◌, ◌*◌, ◌<◌, length, subst}
use Rattle.std.proofs.lemmas.Grind.{get_or_default_zero}
use Rattle.ro_takers.specs.Recalls.{Recalls}
use Rattle.ro_takers.proofs.Noting.{noted}
use Rattle.ro_takers.proofs.takers.Takers.note_one.Goals as goal

pub returns-clause-lists : goal.returns-clause-lists
returns-clause-lists c lists recalls =
    let ranks = c.self.inside.ranks.items in
    let rings = c.self.inside.rings.items in
    let within : c.args.number < length ranks = omega (arith, ap (λ t. length t.ranks) c.self.view_is) in
    let whole : length rings ≡ length ranks * 1024 = omega arith in
    noted lists (record { ranks = ranks; rings = rings; room = c.self.inside.room }) c.args.number c.index-rank.result.now c.place.result c.args.thread (subst (Recalls lists) (sym c.self.view_is) recalls) within whole
    (c.index-rank.ensures ∙ get_or_default_zero ranks c.args.number c.index-rank.result.now within)
    c.place.ensures
