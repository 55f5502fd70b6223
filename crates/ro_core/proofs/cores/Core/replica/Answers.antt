use Rattle.std.proofs.Common.{not, List, sym, ap, ◌∙◌, arith}
use Rattle.std.specs.Prelude.{◌==◌}
use Rattle.std.specs.List.{list_any}
use Rattle.std.proofs.lemmas.Option.{slice_get_within}
use Rattle.ro_journal.specs.declared.Lease.{Lease}
use Rattle.ro_core.specs.Runs.{fields_of}
use Rattle.ro_core.proofs.Asked.{home-seat, home-there, shows}
use Rattle.ro_core.proofs.cores.Core.replica.Goals as goal

pub returns-then-is_home-clause-there : goal.returns-then-is_home-clause-there
returns-then-is_home-clause-there c h =
    let f = fields_of c.args.self.now in
    let home = ap (λ (ls : List Lease). not (list_any (λ (l : Lease). l.replica == c.args.number) ls)) (sym (c.as_slice.ensures.value ∙ h.leases_are)) ∙ sym c.is_home.ensures ∙ c.if-is_home.true in
    shows (λ r. r.now) c.replica.result (home-there f h c.args.number home) c.replica.ensures.there

pub returns-then-is_home-clause-home : goal.returns-then-is_home-clause-home
returns-then-is_home-clause-home c h =
    let f = fields_of c.args.self.now in
    let home = ap (λ (ls : List Lease). not (list_any (λ (l : Lease). l.replica == c.args.number) ls)) (sym (c.as_slice.ensures.value ∙ h.leases_are)) ∙ sym c.is_home.ensures ∙ c.if-is_home.true in (
      λ some.
          let seat = c.replica.ensures.home.0 some in
          let within = slice_get_within f.seats c.args.number _ seat.1 in
          let count = h.seats_are.count in
          (omega arith, home),
      λ both. c.replica.ensures.home.1 (home-seat f h c.args.number both.0 home),
    )
