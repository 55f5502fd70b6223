use Rattle.std.proofs.Common.{Some, refl, sym, ap, ◌∙◌, subst}
use Rattle.ro_event.specs.declared.stops.Stop.{Stop}
use Rattle.ro_lease.specs.declared.Loan.{Loan}
use Rattle.ro_core.specs.Runs.{fields_of, silent}
use Rattle.ro_core.specs.Seen.{Brings}
use Rattle.ro_core.proofs.Puts.{part-home, part-seat, part-wants}
use Rattle.ro_core.proofs.cores.Core.wants_page.Goals as goal

pub has_page-requires : goal.has_page-requires
has_page-requires c =
    part-seat (fields_of c.args.self.now) c.requires.holds (silent c.args.self.now) c.args.back.now refl refl c.requires.returns c.in-Part.lane
    (subst (λ (l : Loan). Brings (silent c.args.self.now) c.args.back.now l) c.in-Part.is c.requires.returns.brings)

pub returns : goal.returns
returns c =
    let f = fields_of c.args.self.now in
    let brings = subst (λ (l : Loan). Brings (silent c.args.self.now) c.args.back.now l) c.in-Part.is c.requires.returns.brings in
    let home = part-home f c.requires.holds (silent c.args.self.now) c.args.back.now refl refl c.requires.returns c.in-Part.lane brings in
    let stop = sym c.stop.ensures ∙ c.in-Some.is ∙ ap (λ (s : Stop). Some s) c.in-PageFault.is in
    c.has_page.ensures home.0 home.1 ∙ part-wants f c.requires.holds (silent c.args.self.now) c.args.back.now refl refl c.requires.returns c.in-Part.lane brings c.in-Part.is c.in-PageFault.page stop home.0 home.1
