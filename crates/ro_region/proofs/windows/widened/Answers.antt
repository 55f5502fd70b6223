use Rattle.std.proofs.Common.{sym}
use Rattle.ro_region.specs.Windows.{IsOpen}
use Rattle.ro_region.proofs.Opened.{listed, joined}
use Rattle.ro_region.proofs.windows.widened.Goals as goal

pub returns : goal.returns
returns c =
    let ranges = c.args.ranges.now in
    let part : IsOpen ranges c.args.kind c.args.page c.part_of.result = record {
      ordered = c.part_of.ensures.ordered;
      within = c.part_of.ensures.within;
      permitted = λ k low high.
          let covered = c.part_of.ensures.covered k low high in
          listed ranges c.args.i _ c.args.kind _ c.requires.index (sym c.if-not-allows.ensures) covered.0 covered.1;
    } in
    joined ranges c.args.kind c.args.page _ _ _ c.requires.sound part c.joined.ensures.ordered c.joined.ensures.within c.joined.ensures.either
