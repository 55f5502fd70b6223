use Rattle.std.specs.Prelude.{is_some}
use Rattle.ro_core.proofs.Sitting.{seat-shown}
use Rattle.ro_core.proofs.seats.Seats.replica.Goals as goal

pub returns-clause-home : goal.returns-clause-home
returns-clause-home c =
    seat-shown c.args.self.now.homes.items c.args.replica c.deref.result.now c.in_ok-get.field-0.now (is_some c.as_ref.result) c.deref.ensures.value c.in_ok-get.ensures.lookup.0 c.in_ok-get.ensures.lookup.1 c.as_ref.ensures.variant
