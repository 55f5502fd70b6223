use Rattle.std.proofs.Common.{arith, sym, ◌∙◌}
use Rattle.std.proofs.lemmas.Bool.{true≢false}
use Rattle.std.proofs.lemmas.Bool.Decides.{Decides-eqb}
use Rattle.std.proofs.lemmas.Slice.Eq.{slice_eq-Decides}
use Rattle.ro_pages.proofs.WordParts.{equal_words}
use Rattle.ro_pages.proofs.table.has_same_bytes.Goals as goal

pub returns-clause-apart : goal.returns-clause-apart
returns-clause-apart c e same =
    let is = equal_words c.args.one.now c.args.other.now (omega (arith, c.told-one, c.told-other)) c.fits-one c.fits-other same in
    true≢false (sym ((slice_eq-Decides Decides-eqb c.args.one.now c.args.other.now c.eq.result c.eq.ensures).1 is) ∙ e)
